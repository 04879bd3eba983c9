-- `cubes::rows::row_entry` meets its contract.
-- Assumes nothing.
use Rattle.std.proofs.Common.{◌∙◌, ap, List, ◌+◌, ◌*◌, ℤ, pos, get_or}
use Rattle.closed.proofs.Laws.Entries.{entry_at}
use Rattle.cubes.proofs.Signed.{entry_back}
use Rattle.cubes.proofs.rows.row_entry.Goals as goal

pub returns : goal.returns
returns c =
    let i = c.args.case * 16 + c.args.t in
    entry_back c.args.case c.args.t (get_or c.args.table.now i (pos 0)) c.requires.1
    (ap (λ (l : List ℤ). get_or l i (pos 0)) c.requires.0 ∙ entry_at (pos 0) c.args.case c.args.t c.requires.1 c.requires.2)
