-- What the needs of several functions share: a count is small enough to be a float, the sides of the depths, and the cell of a place from its parts.
-- Assumes nothing.
use mathlib.Core.Path.{◌≡◌, refl, ap, ◌∙◌}
use mathlib.Core.List.{List, [], ◌∷◌}
use Prim.Native.Nat.{ℕ, ◌-◌, ◌*◌, ◌%◌, ◌^◌, ◌≤◌, min}
use native.Mathlib.Nat.{one-mul, mod-eq_of_lt}
use native.Mathlib.Omega.{arith}
use lib.Dec.{T, le→leb}
use lib.IntN.{pos}
use lib.Pow.{pow_mono}
use lib.Ieee.{Float, binary64, in_float, of_int, to_unsigned, sub}
use Rattle.grid.specs.declared.Along.{Along}
use Rattle.grid.specs.declared.Cell.{Cell}
use Rattle.grid.specs.declared.Grid.{Grid}
use Rattle.grid.specs.Grid.{Sides, CellInside, placed, along_of, axis_at, cell_at}
use Rattle.grid.specs.Laws.Cells.{cell_inside}
use Rattle.grid.specs.Laws.FloorCast.{floor_cast, placed_fits}

-- ---- counts and sides

pub count_float : {n : ℕ} → n ≤ 256 → T (in_float binary64 (pos n))
unfolding in_float
count_float {n} h = le→leb n (2 ^ 53) (omega arith)

pub shifted : {d : ℕ} → d ≤ 8 → 1 * 2 ^ d % 2 ^ 64 ≡ 2 ^ d
shifted {d} most =
    let h : 2 ^ d ≤ 256 = pow_mono most in
    ap (λ (k : ℕ). k % 2 ^ 64) (one-mul (2 ^ d)) ∙ mod-eq_of_lt (omega arith)

pub sides : {d : ℕ} → 1 ≤ d → d ≤ 8 → Sides (2 ^ d)
sides least most = record { two = pow_mono least; most = pow_mono most }

-- ---- the cell

-- u, the cast of u, and the smaller of that and n-2
pub along_is : (n : ℕ) (o h p u : Float) (w cell : ℕ) → u ≡ placed n o h p → w ≡ to_unsigned 64 u → cell ≡ min w (n - 2)
    → ◌≡◌ {A = Along} (record { cell = cell; frac = sub binary64 u (of_int binary64 (pos cell)) }) (along_of n o h p)
unfolding along_of
along_is n o h p u w cell is-u is-w is-cell = rw (is-cell, is-w, is-u, floor_cast (placed n o h p) (placed_fits n o h p))

pub cell_is : (g : Grid) (p : List Float) (x y z : Along) → Sides g.nodes → x ≡ axis_at g p 0 → y ≡ axis_at g p 1 → z ≡ axis_at g p 2
    → (◌≡◌ {A = Cell} (record { base = x.cell ∷ y.cell ∷ z.cell ∷ []; frac = x.frac ∷ y.frac ∷ z.frac ∷ [] }) (cell_at g p))
    × CellInside g.nodes (record { base = x.cell ∷ y.cell ∷ z.cell ∷ []; frac = x.frac ∷ y.frac ∷ z.frac ∷ [] })
unfolding cell_at
cell_is g p x y z sides hx hy hz = rw (hx, hy, hz) (refl, cell_inside g p sides)
