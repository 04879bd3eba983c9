-- Document 01, "How answers are marked": its table of marked cases as one theorem, by computation, of the very definitions that the contracts cite.
-- `fin s m (pos k)` is ±m * 2 ^ k and `fin s m (negsuc k)` is ±m * 2 ^ -(k + 1). Assumes nothing.
use Rattle.std.specs.Prelude.{◌≡◌, refl, Bool, true, false, List, [], ◌∷◌, ℕ, ◌+◌, ◌^◌, pos, negsuc, Float}
use Rattle.std.proofs.Common.{sym, ◌∙◌, true≢false, arith}
use Rattle.std.specs.Float.{inf, fin, binary32, binary64}
use Rattle.std.specs.Float.Ieee.{of_bits, of_int, to_unsigned, neg, add, sub, mul, div, lt, round}
use Rattle.numbers.specs.Arithmetic.{rooted, narrowed, floored, ceiled, stepped}
use Rattle.closed.specs.Lists.{count, member, cells, cells3}
use Rattle.closed.specs.Faces.{face, runs, Balanced}
use Rattle.closed.specs.Numbering.{note, grow, dedup, index_of, used, mesh}
use Rattle.closed.specs.Rows.{rows, row, triangles, emitted}
use Rattle.closed.specs.Grid.{node, edge, cell_faces, grid_faces, Outer}
use Rattle.grid.specs.Grid.{placed, along_of}
use Rattle.grid.specs.declared.Lattice.{Lattice}
use Rattle.blur.specs.Blur.{radius_of}
use Rattle.cells.specs.Extraction.{is_below, below_at, below, edge_faces, vertex_edges, extracted_faces, extracted_vertices, points_of, edge_point, lower_value, upper_value}

-- ---- the numbers that the cases name

abbrev nought : Float
nought = fin false 0 (pos 0)

abbrev half : Float
half = fin false 1 (negsuc 0)

abbrev one : Float
one = fin false 1 (pos 0)

-- P12's nodes: 2×2×2, step 1, origin 0; value -1 at (0,0,0) and 1 elsewhere
abbrev corner : Lattice
corner = record { counts = 2 ∷ 2 ∷ 2 ∷ []; origin = nought ∷ nought ∷ nought ∷ []; step = one ∷ one ∷ one ∷ [] }

abbrev values : List Float
values = neg one ∷ one ∷ one ∷ one ∷ one ∷ one ∷ one ∷ one ∷ []

-- ---- the table

pub marked :
    (rooted binary32 (fin false 1 (pos 2)) ≡ fin false 1 (pos 1))  -- P1: the root of 4.0 is 2.0,
    × (rooted binary64 (fin false 1 (pos 2)) ≡ fin false 1 (pos 1))  -- in both formats
    × (rooted binary64 (fin false 1 (pos 1)) ≡ of_bits binary64 0x3FF6_A09E_667F_3BCD)  -- P2: the root of f64 2.0
    × (narrowed (fin false (2 ^ 24 + 1) (negsuc 23)) ≡ fin false 1 (pos 0))  -- P3: narrowing 1 + 2^-24 gives 1
    × (narrowed (fin false (2 ^ 24 + 3) (negsuc 23)) ≡ fin false (2 ^ 22 + 1) (negsuc 21))  -- P4: 1 + 3·2^-24 gives 1 + 2^-22
    × (narrowed (fin false 1 (pos 128)) ≡ inf false)  -- P5: 2^128 gives infinity
    × (narrowed (fin false 1 (negsuc 149)) ≡ fin false 0 (pos 0))  -- P6: 2^-150 gives 0
    × (narrowed (fin false 3 (negsuc 149)) ≡ fin false 1 (negsuc 147))  -- P7: 3·2^-150 gives 2^-148
    × (radius_of half ≡ 2)  -- P8: sigma 0.5 has radius 2
    × (radius_of (fin false 3 (pos 1)) ≡ 18)  -- P9: sigma 6.0 has radius 18
    × (node 8 8 1 2 3 ≡ 83)  -- P10: n = 8: node (1,2,3) is 83,
    × (edge (node 8 8 1 2 3) 2 ≡ 251)  -- its axis-2 edge 251
    × (placed 8 nought one (fin false 7 (pos 0)) ≡ fin false 7 (pos 0))  -- P11: u = 7 with n = 8, of the place 7 at origin 0 and step 1,
    × (along_of 8 nought one (fin false 7 (pos 0)) ≡ record { cell = 6; frac = one })  -- gives cell 6, fraction 1
    × (extracted_vertices values corner nought ≡ half ∷ nought ∷ nought ∷ nought ∷ half ∷ nought ∷ nought ∷ nought ∷ half ∷ [])  -- P12: vertices (0.5,0,0), (0,0.5,0), (0,0,0.5),
    × (extracted_faces values corner nought ≡ face 0 1 2 ∷ [])  -- face 0 1 2;
    × (count (runs 0 1) (extracted_faces values corner nought) ≡ 1)  -- open: a face runs from 0 to 1,
    × (count (runs 1 0) (extracted_faces values corner nought) ≡ 0)  -- none runs back,
    × ¬ Balanced (extracted_faces values corner nought)
    × (below values corner nought 0 0 0 ≡ true)  -- for its boundary is mixed: the outer node (0,0,0) is below,
    × (below values corner nought 1 1 1 ≡ false)  -- (1,1,1) is not,
    × ((s : Bool) → ¬ Outer 2 2 2 (below values corner nought) s)  -- so they are not all on one side
unfolding rooted narrowed round of_bits of_int to_unsigned neg add sub mul div lt floored ceiled stepped radius_of node edge placed along_of extracted_faces extracted_vertices vertex_edges points_of edge_point lower_value upper_value edge_faces grid_faces cells3 cells cell_faces below_at is_below emitted triangles row rows mesh used dedup grow note member index_of count
marked = (refl, refl, refl, refl, refl, refl, refl, refl, refl, refl, refl, refl, refl, refl, refl, refl, refl, refl, unbalanced, refl, refl, mixed)
  where
    unbalanced : ¬ Balanced (face 0 1 2 ∷ [])
    unbalanced h = let z : ◌≡◌ {A = ℕ} 1 0 = h 0 1 in omega arith

    mixed : (s : Bool) → ¬ Outer 2 2 2 (below values corner nought) s
    mixed s o = true≢false (o.low_x 0 0 (omega arith) (omega arith) ∙ sym (o.high_x 1 1 (omega arith) (omega arith)))
