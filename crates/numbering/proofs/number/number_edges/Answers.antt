-- The table is cleared, so it is that of no edge; all faces are numbered, and what they leave is the definition's (`counted_all`).
use Rattle.std.proofs.Common.{ap, ◌∙◌, subst, List, ℕ, length, rules}
use Rattle.std.proofs.lemmas.List.{length-replicate}
use Rattle.cells.specs.Extraction.{edge_faces}
use Rattle.numbering.specs.Words.{Numbered, Counted, none}
use Rattle.numbering.proofs.FirstUse.{counted_all, markable_all}
use Rattle.numbering.proofs.number.number_edges.Goals as goal

pub visit_faces-requires : goal.visit_faces-requires
visit_faces-requires c = (
  record { counts = c.requires.counts; nodes = c.requires.nodes },
  markable_all c.args.values.now c.args.lattice c.args.iso c.requires.counts c.clear.new.values (ap length c.clear.ensures ∙ length-replicate _ 0 ∙ c.requires.edges),
)

pub returns : goal.returns
returns c =
    let a = c.args in
    let n = c.visit_faces.new.visitor in
    let numbered = subst (λ (t : List ℕ). Numbered t n.table.now none n.size (edge_faces a.values.now a.lattice a.iso)) c.clear.ensures c.visit_faces.ensures.1 in
    let counted : Counted a.values.now n.table.now a.lattice a.iso n.size =
    counted_all a.values.now a.lattice a.iso c.requires.counts (length a.table.now) n.table.now n.size c.requires.edges numbered in
    search rules
