-- A plain line has no face, so nothing changes; every other is its cells'.
use Rattle.std.proofs.Common.{sym, ◌∙◌}
use Rattle.cells.specs.Extraction.{count_y, count_z}
use Rattle.cells.specs.Laws.Plain.{plain_line_lem}
use Rattle.cells.proofs.Walking.{none_as}
use Rattle.cells.proofs.walk.Walk.visit_line.Goals as goal

pub returns-else-not-is_plain : goal.returns-else-not-is_plain
returns-else-not-is_plain g c =
    let s = c.args.self.now.surface in
    none_as g.V.Visit.Visited g.met.V.Visit.visited_none (plain_line_lem s.values.now (count_y s.lattice) (count_z s.lattice) s.iso c.args.from.0 (sym c.is_plain.ensures ∙ c.if-not-is_plain.false)) _
