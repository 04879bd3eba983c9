-- The second pass whole: with the first pass's table, a vertex is written exactly at the first use of its edge, so the coordinates come in the order of the
-- vertices; and the faces are those of the mesh. Assumes nothing.
use mathlib.Core.Path.{◌≡◌, refl, sym, ap, ◌∙◌, subst}
use mathlib.Core.Logic.{⊎_elim}
use mathlib.Core.Bool.{Bool, false, cond, ◌||◌}
use mathlib.Core.List.{List, [], ◌∷◌, ◌++◌, map, append-nil, append_assoc}
use Prim.Native.Nat.{ℕ, ◌+◌, ◌*◌, ◌≤◌, ◌<◌}
use native.Mathlib.Omega.{arith}
use borrow.Author.Tests.{eq-eqb, ne_eqb}
use lib.Dec.{eqb}
use lib.Ieee.{Float}
use lib.ListN.{length, get_or, length-append, drop_of_length-le}
use lib.Seq.{sets, sets-eq}
use Rattle.lists.specs.Lists.{tabulate}
use Rattle.lists.specs.Laws.Tabulate.{at_tabulate}
use Rattle.closed.specs.Lists.{All, member, In}
use Rattle.closed.specs.Faces.{Face, corners}
use Rattle.closed.specs.Numbering.{note, grow, dedup, used, index_of, slot, mesh}
use Rattle.closed.proofs.Laws.Mesh.{mesh_corners, mesh_length, used_member}
use Rattle.closed.proofs.Laws.Renumber.{in_or_not, in_note, note_old, note_new, index_of_lt, index_of_grow, index_of_new, member_grow, slot_in, in_all}
use Rattle.grid.specs.Grid.{Counts}
use Rattle.grid.specs.declared.Lattice.{Lattice}
use Rattle.cells.specs.Extraction.{count_x, count_y, count_z, points_of, edge_point, edge_faces, vertex_edges, extracted_faces, extracted_vertices}
use Rattle.meshes.specs.declared.MeshSize.{MeshSize}
use Rattle.cells.specs.Words.{Inner}
use Rattle.cells.specs.Laws.Cells.{edges_below, edges_inner}
use Rattle.closed.proofs.Laws.Turning.{length_corners}
use Rattle.numbering.specs.Words.{none, edge_table}
use Rattle.extract.specs.Words.{Places, place1, place_all, vertex_in, RoomFor, Written, Mesh}
use Rattle.extract.specs.Laws.Placing.{sets_append}

-- ---- the coordinates of several edges

points_append : (point : ℕ → List Float) (a b : List ℕ) → points_of point (a ++ b) ≡ points_of point a ++ points_of point b
unfolding points_of
points_append point [] b = refl
points_append point (e ∷ a) b = ap (λ (l : List Float). point e ++ l) (points_append point a b) ∙ sym (append_assoc (point e) (points_of point a) (points_of point b))

points_length : (point : ℕ → List Float) → ((e : ℕ) → length (point e) ≡ 3) → (es : List ℕ) → length (points_of point es) ≡ 3 * length es
unfolding points_of
points_length point three [] = refl
points_length point three (e ∷ es) = omega (arith, length-append (point e) (points_of point es), three e, points_length point three es)

-- every element of a slice is written
pub all_set : {A : Type 0} (l vs : List A) → length l ≡ length vs → sets l 0 vs ≡ vs
all_set {A} l vs e =
    let h : 0 + length vs ≤ length l = omega arith in
    let k : length l ≤ 0 + length vs = omega arith in
    sets-eq vs l 0 h ∙ ap (λ (r : List A). [] ++ vs ++ r) (drop_of_length-le l k) ∙ append-nil vs

-- ---- what is written when the edges of `seen` are

module _ (m : ℕ) (all : List ℕ) (point : ℕ → List Float) (three : (e : ℕ) → length (point e) ≡ 3) (vs : List Float) where
  abbrev state : List ℕ → Places
  state seen = (sets vs 0 (points_of point seen), length seen)

  place_one : (seen rest : List ℕ) (e : ℕ) → e < m → all ≡ grow (note seen e) rest → place1 (tabulate m (slot all)) point (state seen) e ≡ state (note seen e)
  unfolding points_of
  place_one seen rest e b whole =
      ap (λ (n : ℕ). cond (eqb n (length seen + 1)) (sets (sets vs 0 (points_of point seen)) (3 * length seen) (point e), length seen + 1) (state seen)) entry
      ∙ ⊎_elim old new (in_or_not e seen)
    where
      entry : get_or (tabulate m (slot all)) e 0 ≡ index_of e (note seen e) + 1
      entry =
          let known : In e all = ap (member e) whole ∙ member_grow e (note seen e) rest ∙ ap (λ (t : Bool). t || member e rest) (in_note seen e) in
          let place : index_of e all ≡ index_of e (note seen e) = ap (index_of e) whole ∙ index_of_grow e (note seen e) rest (in_note seen e) in
          at_tabulate 0 m (slot all) e b ∙ slot_in all e known ∙ omega (arith, place)

      old : In e seen → cond (eqb (index_of e (note seen e) + 1) (length seen + 1)) (sets (sets vs 0 (points_of point seen)) (3 * length seen) (point e), length seen + 1) (state seen) ≡ state (note seen e)
      old h =
          ap (λ (t : Bool). cond t (sets (sets vs 0 (points_of point seen)) (3 * length seen) (point e), length seen + 1) (state seen))
          (ne_eqb (index_of e (note seen e) + 1) (length seen + 1) (λ q. omega (arith, q, ap (index_of e) (note_old seen e h), index_of_lt e seen h)))
          ∙ ap state (sym (note_old seen e h))

      new : member e seen ≡ false → cond (eqb (index_of e (note seen e) + 1) (length seen + 1)) (sets (sets vs 0 (points_of point seen)) (3 * length seen) (point e), length seen + 1) (state seen) ≡ state (note seen e)
      new h =
          let n = note_new seen e h in
          let l : sets (sets vs 0 (points_of point seen)) (3 * length seen) (point e) ≡ sets vs 0 (points_of point (seen ++ (e ∷ []))) =
          ap (λ (i : ℕ). sets (sets vs 0 (points_of point seen)) i (point e)) (omega (arith, points_length point three seen))
          ∙ sym (sets_append vs 0 (points_of point seen) (point e))
          ∙ ap (sets vs 0) (sym (points_append point seen (e ∷ []) ∙ ap (λ (r : List Float). points_of point seen ++ r) (append-nil (point e)))) in
          let k : length seen + 1 ≡ length (seen ++ (e ∷ [])) = omega (arith, length-append seen (e ∷ [])) in
          ap (λ (t : Bool). cond t (sets (sets vs 0 (points_of point seen)) (3 * length seen) (point e), length seen + 1) (state seen))
          (eq-eqb (index_of e (note seen e) + 1) (length seen + 1) (omega (arith, ap (index_of e) n, index_of_new e seen [] h)))
          ∙ ap (λ (x : List Float). (x, length seen + 1)) l
          ∙ ap (λ (x : ℕ). (sets vs 0 (points_of point (seen ++ (e ∷ []))), x)) k
          ∙ ap state (sym n)

  pub placed : (seen es : List ℕ) → All (λ e. e < m) es → all ≡ grow seen es → place_all (tabulate m (slot all)) point (state seen) es ≡ state all
  unfolding place_all grow
  placed seen [] a whole = ap state (sym whole)
  placed seen (e ∷ es) a whole =
      ap (λ (s : Places). place_all (tabulate m (slot all)) point s es) (place_one seen es e a.0 whole) ∙ placed (note seen e) es a.1 whole

-- ---- the faces

pub vertices_of : (m : ℕ) (fs : List Face) → All (λ e. e < m) (corners fs) → map (vertex_in (tabulate m (slot (used fs)))) (corners fs) ≡ corners (mesh fs)
vertices_of m fs a = same (corners fs) a (in_all (λ e. In e (used fs)) (corners fs) (λ e h. used_member fs e ∙ h)) ∙ sym (mesh_corners fs)
  where
    same : (es : List ℕ) → All (λ e. e < m) es → All (λ e. In e (used fs)) es → map (vertex_in (tabulate m (slot (used fs)))) es ≡ map (λ e. index_of e (used fs)) es
    same [] b c = refl
    same (e ∷ es) b c =
        let v : vertex_in (tabulate m (slot (used fs))) e ≡ index_of e (used fs) = omega (arith, at_tabulate 0 m (slot (used fs)) e b.0, slot_in (used fs) e c.0) in
        rw (v, same es b.1 c.1) refl

extracted_length : (values : List Float) (l : Lattice) (iso : Float) → length (extracted_faces values l iso) ≡ length (edge_faces values l iso)
unfolding extracted_faces
extracted_length values l iso = mesh_length (edge_faces values l iso)

-- ---- both, for a lattice

both : (P Q : ℕ → Type 0) (es : List ℕ) → All P es → All Q es → All (λ e. P e × Q e) es
both P Q [] p q = tt
both P Q (e ∷ es) p q = ((p.0, q.0), both P Q es p.1 q.1)

pub edges_all : (values : List Float) (l : Lattice) (iso : Float) → Counts l.counts → length values ≡ count_x l * count_y l * count_z l
    → (table : List ℕ) → length table ≡ 3 * (count_x l * count_y l * count_z l)
    → All (λ e. (e < length table) × Inner values l e) (corners (edge_faces values l iso))
edges_all values l iso counts nodes table e =
    both (λ e. e < length table) (λ e. Inner values l e) (corners (edge_faces values l iso))
    (subst (λ (n : ℕ). All (λ e. e < n) (corners (edge_faces values l iso))) (sym e) (edges_below values l iso counts))
    (edges_inner values l iso counts nodes)

module _ (values : List Float) (l : Lattice) (iso : Float) (counts : Counts l.counts) (table : List ℕ) (numbers : table ≡ edge_table values l iso)
    (vs : List Float) (os : List ℕ) (points : length vs ≡ 3 * length (vertex_edges values l iso)) (triples : length os ≡ 3 * length (edge_faces values l iso)) where
  three : (e : ℕ) → length (edge_point values l iso e) ≡ 3
  unfolding edge_point
  three e = refl

  all_placed : place_all table (edge_point values l iso) (vs, 0) (corners (edge_faces values l iso))
      ≡ (sets vs 0 (points_of (edge_point values l iso) (vertex_edges values l iso)), length (vertex_edges values l iso))
  unfolding vertex_edges used dedup points_of
  all_placed =
      ap (λ (t : List ℕ). place_all t (edge_point values l iso) (vs, 0) (corners (edge_faces values l iso))) numbers
      ∙ placed (3 * (count_x l * count_y l * count_z l)) (vertex_edges values l iso) (edge_point values l iso) three vs [] (corners (edge_faces values l iso))
      (edges_below values l iso counts) refl

  pub room_all : RoomFor table (edge_point values l iso) vs os none (edge_faces values l iso)
  room_all = record { vertices = omega (arith, points, ap (λ (s : Places). s.1) all_placed); faces = omega (arith, triples) }

  faces_are : map (vertex_in table) (corners (edge_faces values l iso)) ≡ corners (extracted_faces values l iso)
  unfolding extracted_faces vertex_edges
  faces_are =
      ap (λ (t : List ℕ). map (vertex_in t) (corners (edge_faces values l iso))) numbers
      ∙ vertices_of (3 * (count_x l * count_y l * count_z l)) (edge_faces values l iso) (edges_below values l iso counts)

  pub mesh_all : (vs' : List Float) (os' : List ℕ) (r : MeshSize)
      → Written table (edge_point values l iso) vs vs' os os' none r (edge_faces values l iso) → Mesh values l iso vs' os'
  unfolding extracted_vertices
  mesh_all vs' os' r w =
      record {
        points = ap (λ (s : Places). s.0) (w.placed ∙ all_placed)
            ∙ all_set vs (points_of (edge_point values l iso) (vertex_edges values l iso)) (points ∙ sym (points_length (edge_point values l iso) three (vertex_edges values l iso)));
        triples = w.written
            ∙ ap (sets os 0) faces_are
            ∙ all_set os (corners (extracted_faces values l iso)) (triples ∙ sym (length_corners (extracted_faces values l iso) ∙ ap (λ (n : ℕ). 3 * n) mesh_size));
      }
    where
      mesh_size : length (extracted_faces values l iso) ≡ length (edge_faces values l iso)
      mesh_size = extracted_length values l iso
