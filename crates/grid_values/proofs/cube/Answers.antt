-- `grid_values::cube` has at most 512 nodes: 2^3 per side. Assumes nothing.
use Rattle.std.proofs.Common.{◌≡◌, List, ℕ, ◌≤◌, mul-le-mul, arith}
use native.Mathlib.Nat.{pow-le-pow_right}
use Rattle.std.specs.Float.Ieee.{Float}
use Rattle.grid.specs.declared.Grid.{Grid}
use Rattle.grid.specs.Grid.{grid_of}
use Rattle.grid_values.proofs.cube.Goals as goal

few : {g : Grid} (o : List Float) (s : Float) {d : ℕ} → g ≡ grid_of o s d → d ≤ 3 → g.nodes ≤ 8
unfolding grid_of
few o s e h = rw e (pow-le-pow_right {n = 2} (omega arith) h)

pub returns : goal.returns
returns c =
    let n = few _ _ c.new.ensures.0 c.requires.1 in
    (c.new.ensures.1, mul-le-mul (mul-le-mul n n) n)
