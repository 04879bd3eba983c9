-- `cubes::rows::row_faces` meets its contract.
-- Assumes nothing.
use Rattle.std.proofs.Common.{◌∙◌, sym, ◌*◌, arith, leb-true, leb-false, length}
use Rattle.closed.specs.Rows.{row}
use Rattle.closed.proofs.Laws.Entries.{emitted_length}
use Rattle.closed.proofs.Laws.Bounds.{emitted_le}
use Rattle.cubes.proofs.Signed.{tested}
use Rattle.cubes.proofs.rows.row_faces.Goals as goal

pub returns-then-row_entry-lt0 : goal.returns-then-row_entry-lt0
returns-then-row_entry-lt0 c =
    let e = leb-true (length (row c.args.case)) (3 * c.loop-k.k) (sym (tested c.args.case (3 * c.loop-k.k) c.row_entry.result c.requires.1 c.row_entry.ensures) ∙ c.if-row_entry-lt0.true) in
    omega (arith, e, emitted_length c.args.case c.requires.1)

pub loop-k-preserved : goal.loop-k-preserved
loop-k-preserved c =
    let e = leb-false (length (row c.args.case)) (3 * c.loop-k.k) (sym (tested c.args.case (3 * c.loop-k.k) c.row_entry.result c.requires.1 c.row_entry.ensures) ∙ c.if-row_entry-lt0.false) in
    omega (arith, e, emitted_length c.args.case c.requires.1)

pub returns : goal.returns
returns c = omega (arith, emitted_le c.args.case c.requires.1)
