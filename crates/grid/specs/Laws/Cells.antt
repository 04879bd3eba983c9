-- The cell of any place lies in the cube, and so do its corners: the cell is at most n-2 whatever the floor is. Assumes nothing.
use Rattle.std.specs.Prelude.{◌≡◌, refl, List, [], ◌∷◌, ℕ, ◌+◌, ◌*◌, ◌<◌, get_or, Float}
use Rattle.std.proofs.Common.{arith}
use Rattle.grid.specs.declared.Cell.{Cell}
use Rattle.grid.specs.declared.Grid.{Grid}
use Rattle.grid.specs.Grid.{Sides, CellInside, Position, along_of, cell_at, corner_bits, cell_corner}
use Rattle.grid.specs.Laws.Numbering.{node_below}

pub along_below : {n : ℕ} (o h p : Float) → Sides n → (along_of n o h p).cell + 1 < n
unfolding along_of
along_below {n} o h p sides = omega arith

pub cell_inside : (g : Grid) (p : List Float) → Sides g.nodes → CellInside g.nodes (cell_at g p)
unfolding cell_at
cell_inside g p sides =
    record { i = along_below _ _ _ sides; j = along_below _ _ _ sides; k = along_below _ _ _ sides }

-- ---- corners: d is the corner's offsets

pub corner_in : {n : ℕ} {q : Cell} (c : ℕ) {d : List ℕ} → CellInside n q → d ≡ corner_bits c
    → Position n n n ((get_or q.base 0 0 + get_or d 0 0) ∷ (get_or q.base 1 0 + get_or d 1 0) ∷ (get_or q.base 2 0 + get_or d 2 0) ∷ [])
corner_in {n} {q} c h e = rw e (record { i = omega arith; j = omega arith; k = omega arith })

pub corner_below : {n : ℕ} {q : Cell} (c : ℕ) → CellInside n q → cell_corner n q c < n * n * n
unfolding cell_corner
corner_below c h = node_below (corner_in c h refl)
