-- `cubes::rows::row_face` meets its contract.
-- Assumes nothing.
use Rattle.std.proofs.Common.{sym, arith}
use Rattle.closed.proofs.Laws.Entries.{row_right, emitted_length, emitted_at}
use Rattle.cubes.proofs.rows.row_face.Goals as goal

pub overflow_mul-k : goal.overflow_mul-k
overflow_mul-k c = omega (arith, emitted_length c.args.case c.requires.1, (row_right c.args.case c.requires.1).fits)

pub row_edge-a-requires : goal.row_edge-a-requires
row_edge-a-requires c = (c.requires.0, c.requires.1, omega (arith, emitted_length c.args.case c.requires.1, (row_right c.args.case c.requires.1).fits))

pub overflow_mul-k-2 : goal.overflow_mul-k-2
overflow_mul-k-2 c = omega (arith, emitted_length c.args.case c.requires.1, (row_right c.args.case c.requires.1).fits)

pub overflow_add-k : goal.overflow_add-k
overflow_add-k c = omega (arith, emitted_length c.args.case c.requires.1, (row_right c.args.case c.requires.1).fits)

pub row_edge-b-requires : goal.row_edge-b-requires
row_edge-b-requires c = (c.requires.0, c.requires.1, omega (arith, emitted_length c.args.case c.requires.1, (row_right c.args.case c.requires.1).fits))

pub overflow_mul-k-3 : goal.overflow_mul-k-3
overflow_mul-k-3 c = omega (arith, emitted_length c.args.case c.requires.1, (row_right c.args.case c.requires.1).fits)

pub overflow_add-k-2 : goal.overflow_add-k-2
overflow_add-k-2 c = omega (arith, emitted_length c.args.case c.requires.1, (row_right c.args.case c.requires.1).fits)

pub row_edge-c-requires : goal.row_edge-c-requires
row_edge-c-requires c = (c.requires.0, c.requires.1, omega (arith, emitted_length c.args.case c.requires.1, (row_right c.args.case c.requires.1).fits))

pub returns : goal.returns
returns c =
    rw (c.row_edge-a.ensures, c.row_edge-c.ensures, c.row_edge-b.ensures)
    (sym (emitted_at c.args.case c.args.k c.requires.1 c.requires.2))
