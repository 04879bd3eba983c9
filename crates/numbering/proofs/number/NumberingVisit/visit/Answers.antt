-- Marking the three edges, one after the other, is the definition (`mark_three`).
use Rattle.std.proofs.Common.{refl}
use Rattle.numbering.proofs.Marking.{mark_three}
use Rattle.numbering.proofs.number.NumberingVisit.visit.Goals as goal

pub returns : goal.returns
returns c =
    let old = c.args.self.now in (
      refl,
      record {
        marks = mark_three (old.table.now, old.size.vertices) c.args.a.0 c.args.b.0 c.args.c.0 c.mark-count.ensures c.mark-count-2.ensures c.mark-self.ensures;
        counted = refl;
      },
    )
