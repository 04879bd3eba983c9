-- `cubes::rows::row_edge` meets its contract.
-- Assumes nothing.
use Rattle.std.proofs.Common.{◌≡◌, ◌∙◌, ap, subst, sym, ℕ, ◌<◌, lt_of_lt_of_le, arith, T, lit≤, ℤ, pos, nat_abs, get_or, length, w8, w64, Fits, to_z, of_z}
use lib.Signed.{non_neg}
use Rattle.closed.specs.Rows.{row, entry}
use Rattle.closed.proofs.Laws.Entries.{row_right, entry_in}
use Rattle.cubes.proofs.Signed.{entry_back}
use Rattle.cubes.proofs.rows.row_edge.Goals as goal

held : (k t : ℕ) (z : ℤ) → k < 256 → t < length (row k) → z ≡ entry k t → to_z w8 (of_z w8 z) ≡ pos (get_or (row k) t 0)
held k t z h l e = entry_back k t z h e ∙ entry_in k t l

pub row_entry-requires : goal.row_entry-requires
row_entry-requires c = (c.requires.0, c.requires.1, omega (arith, (row_right c.args.case c.requires.1).fits))

pub overflow_cast-result : goal.overflow_cast-result
overflow_cast-result c =
    subst (λ (z : ℤ). T (non_neg z) × Fits w64 (nat_abs z)) (sym (held c.args.case c.args.t c.row_entry.result c.requires.1 c.requires.2 c.row_entry.ensures))
    (tt, record { fits = lt_of_lt_of_le ((row_right c.args.case c.requires.1).edges c.args.t c.requires.2) (lit≤ tt) })

pub returns : goal.returns
returns c = ap nat_abs (held c.args.case c.args.t c.row_entry.result c.requires.1 c.requires.2 c.row_entry.ensures)
