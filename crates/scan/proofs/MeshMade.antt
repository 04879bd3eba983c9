-- What each stage of the mesh asks holds, and what they leave is the mesh that is returned: by congruence, and by the sizes of the untrimmed mesh (MeshRoom).
-- Assumes nothing.
use mathlib.Core.Path.{◌≡◌, sym, ap, ap₂, ◌∙◌, subst}
use mathlib.Core.List.{List}
use Prim.Native.Nat.{ℕ, ◌*◌, ◌^◌, ◌≤◌, ◌<◌}
use native.Mathlib.Omega.{arith}
use lib.ListN.{length, take}
use lib.Ieee.{Float}
use Rattle.std.proofs.Common.{mul-le-mul, ⊎_elim}
use Rattle.lists.specs.Laws.Order.{lt_or_le}
use Rattle.lists.specs.Laws.Tabulate.{length_tabulate}
use Rattle.closed.specs.Faces.{Face, corners, faces}
use Rattle.closed.proofs.Laws.Turning.{faces_corners, length_corners}
use Rattle.grid.specs.declared.Grid.{Grid}
use Rattle.grid.specs.declared.Lattice.{Lattice}
use Rattle.grid.specs.Grid.{Sides, Counts, lattice_of}
use Rattle.ending.specs.declared.Grids.{Grids}
use Rattle.points.specs.declared.point.Point.{Point}
use Rattle.settings.specs.declared.Settings.{Settings}
use Rattle.cells.specs.Extraction.{count_x, count_y, count_z, vertex_edges, edge_faces, extracted_vertices, extracted_faces}
use Rattle.numbering.specs.Words.{edge_table}
use Rattle.extract.specs.Words.{Writable, Mesh}
use Rattle.meshes.specs.FlatMesh.{vertex_count, Meshed}
use Rattle.orientation.specs.Orientation.{oriented_faces}
use Rattle.orientation.specs.Laws.Orienting.{oriented_length, oriented_meshed}
use Rattle.trim.specs.Trim.{TrimRoom, trimmed_vertices, trimmed_faces}
use Rattle.scan.specs.Reconstruction.{grid_for, lattice_for, field_for, level_for, whole_vertices, whole_faces, vertex_total, face_total, kept_vertices, kept_faces}
use Rattle.scan.specs.Words.{MeshAsked, GridsAsked}
use Rattle.scan.specs.Laws.MeshRoom.{count_vertices, length_faces, extracted_meshed, few_vertices, few_faces}
use Rattle.scan.proofs.ExactParts.{front_length}
use Rattle.scan.proofs.PutTogether.{lattice_size}

-- what is asked of the grids, of their fronts of exactly the stated lengths
pub parts : {ps : List Point} {st : Settings} {g : Grid} {level : Float} {vs : List Float} {fs : List ℕ} {lent : Grids} {edges : List ℕ} {n m : ℕ}
    → GridsAsked ps st g level vs fs lent edges → n ≡ 8 ^ st.depth → m ≡ 3 * n
    → MeshAsked ps st g level vs fs (take n lent.s0.now) (take n lent.s1.now) (take n lent.s2.now) (take n lent.s3.now) (take m edges)
parts {lent = lent} {edges = edges} ask nodes triple =
    record {
      grid = ask.grid;
      sides = ask.sides;
      depth = ask.depth;
      level_is = ask.level_is;
      places = ask.places;
      triples = ask.triples;
      field = ap (λ (k : ℕ). take k lent.s0.now) nodes ∙ ask.field;
      size0 = front_length _ nodes ask.room0;
      size1 = front_length _ nodes ask.room1;
      size2 = front_length _ nodes ask.room2;
      size3 = front_length _ nodes ask.room3;
      numbers = ap (λ (k : ℕ). take k edges) (triple ∙ ap (λ (k : ℕ). 3 * k) nodes) ∙ ask.numbers;
    }

-- The sides of the grid follow from the counts of its lattice. So whoever holds these counts, and all of `MeshAsked` but the sides, has it whole, and may use
-- the laws below. The proofs of this crate have the sides already.
pub sides_of : (g : Grid) {l : Lattice} → l ≡ lattice_of g → Counts l.counts → Sides g.nodes
unfolding lattice_of
sides_of g block counts =
    let c = subst (λ (m : Lattice). Counts m.counts) block counts in
    record { two = c.two_x; most = ⊎_elim (λ more. absurd (too_many more c.most)) (λ few. few) (lt_or_le 256 g.nodes) }
  where
    too_many : 256 < g.nodes → g.nodes * g.nodes * g.nodes ≤ 16777216 → ⊥
    too_many more most =
        let plane : 257 * 257 ≤ g.nodes * g.nodes = mul-le-mul more more in
        let cube : 257 * 257 * 257 ≤ g.nodes * g.nodes * g.nodes = mul-le-mul plane more in
        omega (arith, most, cube)

-- what extraction writes is a mesh
pub mesh_meshed : {values : List Float} {l : Lattice} {level : Float} {vs : List Float} {fs : List ℕ} → Mesh values l level vs fs → Meshed vs fs
mesh_meshed {values} {l} {level} {vs} {fs} made =
    subst (λ (v : List Float). Meshed v fs) (sym made.points)
    (subst (λ (f : List ℕ). Meshed (extracted_vertices values l level) f) (sym made.triples) (extracted_meshed values l level))

module _ {ps : List Point} {st : Settings} {g : Grid} {level : Float} {vs : List Float} {fs : List ℕ} {s0 a b c : List Float} {edges : List ℕ}
    (ask : MeshAsked ps st g level vs fs s0 a b c edges) {l : Lattice} (block : l ≡ lattice_of g) (counts : Counts l.counts) where
  -- the lattice, and its size
  same_lattice : l ≡ lattice_for ps st
  same_lattice = block ∙ ap lattice_of ask.grid

  size : count_x l * count_y l * count_z l ≡ 8 ^ st.depth
  size = lattice_size g block ∙ ask.depth

  table_length : length edges ≡ 3 * (count_x l * count_y l * count_z l)
  table_length =
      ap length ask.numbers
      ∙ length_tabulate _ _
      ∙ ap (λ (m : Lattice). 3 * (count_x m * count_y m * count_z m)) (sym same_lattice)

  pub sized : Writable s0 edges l level vs fs
  unfolding vertex_total face_total
  sized =
      record {
        ready = record { counts = counts; nodes = ask.size0 ∙ sym size; edges = table_length };
        numbers = ask.numbers ∙ back (λ v m t. edge_table v m t);
        points = ask.places ∙ back (λ v m t. 3 * length (vertex_edges v m t));
        triples = ask.triples ∙ back (λ v m t. 3 * length (edge_faces v m t));
      }
    where
      back : {A : Type 0} (f : List Float → Lattice → Float → A) → f (field_for ps st) (lattice_for ps st) (level_for ps st) ≡ f s0 l level
      back f =
          sym (ap (λ (v : List Float). f v l level) ask.field
          ∙ ap (λ (m : Lattice). f (field_for ps st) m level) same_lattice
          ∙ ap (λ (t : Float). f (field_for ps st) (lattice_for ps st) t) ask.level_is)

  -- ---- the mesh that is written, and oriented

  module _ {vs1 : List Float} {fs1 : List ℕ} (made : Mesh s0 l level vs1 fs1) where
    pub whole_vertices_lem : vs1 ≡ whole_vertices ps st
    unfolding whole_vertices
    whole_vertices_lem =
        made.points
        ∙ ap (λ (v : List Float). extracted_vertices v l level) ask.field
        ∙ ap (λ (m : Lattice). extracted_vertices (field_for ps st) m level) same_lattice
        ∙ ap (λ (t : Float). extracted_vertices (field_for ps st) (lattice_for ps st) t) ask.level_is

    faces1 : faces fs1 ≡ extracted_faces (field_for ps st) (lattice_for ps st) (level_for ps st)
    faces1 =
        ap faces made.triples
        ∙ faces_corners (extracted_faces s0 l level)
        ∙ ap (λ (v : List Float). extracted_faces v l level) ask.field
        ∙ ap (λ (m : Lattice). extracted_faces (field_for ps st) m level) same_lattice
        ∙ ap (λ (t : Float). extracted_faces (field_for ps st) (lattice_for ps st) t) ask.level_is

    module _ {fs2 : List ℕ} (turned : fs2 ≡ corners (oriented_faces g s0 vs1 (faces fs1))) where
      pub whole_faces_lem : faces fs2 ≡ whole_faces ps st
      unfolding whole_faces
      whole_faces_lem =
          ap faces turned
          ∙ faces_corners (oriented_faces g s0 vs1 (faces fs1))
          ∙ ap (λ (h : Grid). oriented_faces h s0 vs1 (faces fs1)) ask.grid
          ∙ ap (λ (v : List Float). oriented_faces (grid_for ps st) v vs1 (faces fs1)) ask.field
          ∙ ap (λ (v : List Float). oriented_faces (grid_for ps st) (field_for ps st) v (faces fs1)) whole_vertices_lem
          ∙ ap (λ (f : List Face). oriented_faces (grid_for ps st) (field_for ps st) (whole_vertices ps st) f) faces1

      pub turned_meshed : Meshed vs1 fs2
      turned_meshed = subst (λ (f : List ℕ). Meshed vs1 f) (sym turned) (oriented_meshed g s0 vs1 fs1 (mesh_meshed made))

      pub room : TrimRoom vs1 fs2 edges a b c
      room =
          let few-v = few_vertices s0 l level counts in
          let few-f = few_faces s0 l level counts in
          let v_count : vertex_count vs1 ≡ length (vertex_edges s0 l level) = ap vertex_count made.points ∙ count_vertices s0 l level in
          let turned-faces = oriented_faces g s0 vs1 (faces fs1) in
          let f_length : length fs2 ≡ 3 * length turned-faces = ap length turned ∙ length_corners turned-faces in
          let f_same : length turned-faces ≡ length (faces fs1) = oriented_length g s0 vs1 (faces fs1) in
          let f_count : length (faces fs1) ≡ length (edge_faces s0 l level) =
          ap (λ (n : List ℕ). length (faces n)) made.triples ∙ ap length (faces_corners (extracted_faces s0 l level)) ∙ length_faces s0 l level in
          let most : count_x l * count_y l * count_z l ≤ 16777216 = counts.most in
          record {
            countable = omega arith;
            marks = omega (arith, table_length);
            second = ask.size2 ∙ sym ask.size1;
            third = ask.size3 ∙ sym ask.size1;
            numbers_fit = omega (arith, size, ask.size1);
          }

-- ---- the mesh that is returned

module _ (ps : List Point) (st : Settings) {vs1 : List Float} (fs2 : List ℕ) (v : vs1 ≡ whole_vertices ps st) (f : faces fs2 ≡ whole_faces ps st) where
  pub kept_vertices_lem : trimmed_vertices st.trimming ps vs1 (faces fs2) ≡ kept_vertices ps st
  unfolding kept_vertices
  kept_vertices_lem = ap₂ (λ (x : List Float) (y : List Face). trimmed_vertices st.trimming ps x y) v f

  pub kept_faces_lem : trimmed_faces st.trimming ps vs1 (faces fs2) ≡ kept_faces ps st
  unfolding kept_faces
  kept_faces_lem = ap₂ (λ (x : List Float) (y : List Face). trimmed_faces st.trimming ps x y) v f
