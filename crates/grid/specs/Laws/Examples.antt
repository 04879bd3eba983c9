-- Document 01, "Grid": cells at the edges of its rule, by computation. The marked cases P10 and P11 are in the crate `marked`. Assumes nothing.
use Rattle.std.specs.Prelude.{◌≡◌, refl, true, false, negsuc}
use Rattle.std.specs.Float.{nan, inf, fin}
use Rattle.std.specs.Float.Ieee.{of_bits, of_int, to_unsigned, neg, add, sub, div, lt, round}
use Rattle.numbers.specs.Constants.{zero64, one64}
use Rattle.numbers.specs.Arithmetic.{floored, stepped}
use Rattle.grid.specs.Grid.{placed, along_of}

-- NaN gives cell 0 with fraction NaN; below the origin is cell 0 with fraction 0; 0.75 of the only cell
pub cell_edges :
    (along_of 8 zero64 one64 nan ≡ record { cell = 0; frac = nan })
    × (along_of 8 zero64 one64 (inf true) ≡ record { cell = 0; frac = zero64 })
    × (along_of 2 zero64 one64 (fin false 3 (negsuc 1)) ≡ record { cell = 0; frac = fin false 3 (negsuc 1) })
unfolding along_of placed floored stepped of_bits of_int to_unsigned sub add neg div lt round
cell_edges = (refl, refl, refl)
