-- Document 01, "Solver", in its order, for one level: conjugate gradients with their two stops and their cap. A x is in Laplacian of the crate
-- `laplacian`, the dot product and the sums over all nodes in Vectors of the crate `vectors`, the levels in Levels of the crate `levels`. Definitions
-- only; assumes nothing.
use Rattle.std.specs.Prelude.{Bool, ◌||◌, cond, List, ℕ, zero, suc, Float}
use Rattle.std.specs.Float.{binary64}
use Rattle.std.specs.Float.Ieee.{mul, div, le, eq}
use Rattle.lists.specs.Lists.{tabulate}
use Rattle.numbers.specs.Arithmetic.{rooted, narrowed}
use Rattle.grid.specs.declared.Grid.{Grid}
use Rattle.grid.specs.Grid.{all_nodes}
use Rattle.laplacian.specs.Laplacian.{applied}
use Rattle.numbers.specs.Constants.{zero64}
use Rattle.vectors.specs.Vectors.{dotted, plus_at, minus_at, less_at}

-- ---- conjugate gradients: the solution so far, the residual, the direction, and rr = r·r

pub record State : Type 0 where
  pub x : List Float
  pub r : List Float
  pub p : List Float
  pub rr : Float

-- from x: r = b - A x, p = r
unfoldable pub started : (g : Grid) (b x : List Float) → State
started g b x =
    let r = tabulate (all_nodes g) (less_at b (applied g x)) in record { x = x; r = r; p = r; rr = dotted g r r }

-- p · A p
abbrev pub pap_of : (g : Grid) → State → Float
pap_of g s = dotted g s.p (applied g s.p)

-- stop if root(rr) ≤ limit, which is tolerance·|b|; stop if pap ≤ 0; NaN stops neither
unfoldable pub stops : (g : Grid) (limit : Float) → State → Bool
stops g limit s = le (rooted binary64 s.rr) limit || le (pap_of g s) zero64

-- alpha = rr/pap, narrowed
unfoldable pub alpha_of : (g : Grid) → State → Float
alpha_of g s = narrowed (div binary64 s.rr (pap_of g s))

-- one step: x, r, rr, beta = rr'/rr narrowed, p
unfoldable pub next : (g : Grid) → State → State
next g s =
    let alpha = alpha_of g s in
    let r' = tabulate (all_nodes g) (minus_at alpha s.r (applied g s.p)) in
    let rr' = dotted g r' r' in
    let beta = narrowed (div binary64 rr' s.rr) in
    record {
      x = tabulate (all_nodes g) (plus_at alpha s.x s.p);
      r = r';
      p = tabulate (all_nodes g) (plus_at beta r' s.p);
      rr = rr';
    }

-- at most k steps
unfoldable pub steps : (g : Grid) (limit : Float) (k : ℕ) → State → State
steps g limit zero s = s
steps g limit (suc k) s = cond (stops g limit s) s (steps g limit k (next g s))

-- |b|
abbrev pub norm_of : (g : Grid) (b : List Float) → Float
norm_of g b = rooted binary64 (dotted g b b)

-- the solution of A x = b from x on. A zero right side leaves x as it started
unfoldable pub conjugate : (g : Grid) (tolerance : Float) (cap : ℕ) (b x : List Float) → List Float
conjugate g tolerance cap b x =
    cond (eq (norm_of g b) zero64) x (steps g (mul binary64 tolerance (norm_of g b)) cap (started g b x)).x
