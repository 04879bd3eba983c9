-- `trim::renumbering::number`: before face t the table holds what the first t faces use, and they are renumbered (`Numbering`). Assumes nothing.
use Rattle.std.proofs.Common.{◌≡◌, length}
use Rattle.trim.proofs.FirstUse.{Numbering}
use Rattle.trim.proofs.renumbering.number.Given as goal

abbrev pub invariant-loop-t : goal.invariant-loop-t
invariant-loop-t l = Numbering l.initial.faces l.count l.faces l.table l.seen l.t × (length l.table ≡ length l.initial.table)
