-- The first pass whole: from a table of zeros, the edges of all faces are numbered at first use, and the table holds the place of each, plus one.
-- By `marked`; every edge lies in the table since it is crossed. Assumes nothing.
use mathlib.Core.Path.{◌≡◌, sym, ap, ◌∙◌, subst}
use mathlib.Core.List.{List, []}
use Prim.Native.Nat.{ℕ, ◌*◌, ◌≤◌, ◌<◌}
use native.Mathlib.Nat.{zero-add}
use native.Mathlib.Omega.{arith}
use lib.Ieee.{Float}
use lib.ListN.{length, replicate}
use Rattle.lists.specs.Lists.{tabulate}
use Rattle.lists.specs.Laws.Tabulate.{tabulate_ext, tabulate_same}
use Rattle.closed.specs.Lists.{All}
use Rattle.closed.specs.Faces.{corners}
use Rattle.closed.specs.Numbering.{dedup, used, slot}
use Rattle.closed.proofs.Laws.Renumber.{slot_nil}
use Rattle.grid.specs.Grid.{Counts}
use Rattle.grid.specs.declared.Lattice.{Lattice}
use Rattle.cells.specs.Extraction.{count_x, count_y, count_z, edge_faces, vertex_edges}
use Rattle.numbering.specs.Words.{Marks, mark_all, none, Markable, Numbered, Counted}
use Rattle.meshes.specs.declared.MeshSize.{MeshSize}
use Rattle.cells.specs.Laws.Cells.{edges_below, few_faces}
use Rattle.numbering.proofs.Marking.{noted, marked}

zeros_noted : (m : ℕ) → ◌≡◌ {A = Marks} (replicate m 0, 0) (noted m [])
zeros_noted m = ap (λ (t : List ℕ). (t, 0)) (sym (tabulate_same m 0) ∙ tabulate_ext m (λ _. 0) (slot []) (λ k h. sym (slot_nil k)))

module _ (values : List Float) (l : Lattice) (iso : Float) (counts : Counts l.counts) where
  all_marked : (m : ℕ) → m ≡ 3 * (count_x l * count_y l * count_z l) → mark_all (replicate m 0, 0) (corners (edge_faces values l iso)) ≡ noted m (vertex_edges values l iso)
  unfolding vertex_edges used dedup
  all_marked m e =
      ap (λ (s : Marks). mark_all s (corners (edge_faces values l iso))) (zeros_noted m)
      ∙ marked m [] (corners (edge_faces values l iso)) (subst (λ (n : ℕ). All (λ e. e < n) (corners (edge_faces values l iso))) (sym e) (edges_below values l iso counts))

  pub counted_all : (m : ℕ) (table : List ℕ) (r : MeshSize) → m ≡ 3 * (count_x l * count_y l * count_z l)
      → Numbered (replicate m 0) table none r (edge_faces values l iso) → Counted values table l iso r
  counted_all m table r e n =
      let s : ◌≡◌ {A = Marks} (table, r.vertices) (noted m (vertex_edges values l iso)) = n.marks ∙ all_marked m e in
      record {
        numbers = ap (λ (x : Marks). x.0) s ∙ ap (λ (k : ℕ). tabulate k (slot (vertex_edges values l iso))) e;
        vertices = ap (λ (x : Marks). x.1) s;
        faces = n.counted ∙ zero-add _;
      }

  -- the cleared table has an entry for each edge, and five faces a cell are few
  pub markable_all : (table : List ℕ) → length table ≡ 3 * (count_x l * count_y l * count_z l) → Markable table none (edge_faces values l iso)
  markable_all table e =
      let few : length (edge_faces values l iso) ≤ 83886080 = omega (arith, few_faces values l iso counts, counts.most) in
      record {
        edges = subst (λ (n : ℕ). All (λ e. e < n) (corners (edge_faces values l iso))) (sym e) (edges_below values l iso counts);
        vertices = omega (arith, few);
        faces = omega (arith, few);
      }
