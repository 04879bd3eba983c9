-- Document 01, "Numbers of refusal": "an iso offset of NaN puts nothing below and gives 6". The level is NaN, no value is less than NaN, so every cell has
-- case 0, whose row is empty, and the checks of the mesh end in 6. What the call then answers is `nan_offset_refused` of the crate `demands`. Assumes nothing.
use Rattle.std.specs.Prelude.{◌≡◌, refl, Bool, false, ℕ, zero, suc, ◌-◌, ltb, Float, Err}
use Rattle.std.proofs.Math.Path.{ap}
use Rattle.std.proofs.Common.{◌∙◌}
use mathlib.Core.List.{List, [], ◌++◌}
use Rattle.std.proofs.Math.Dec.{leb-suc-zero}
use Rattle.std.proofs.Math.ListN.{length}
use Rattle.std.specs.Float.{nan, inf, fin, binary64}
use Rattle.std.specs.Float.Ieee.{add, lt}
use Rattle.lists.specs.Lists.{at}
use Rattle.numbers.specs.Arithmetic.{narrowed}
use Rattle.closed.specs.Lists.{cells, cells3}
use Rattle.closed.specs.Faces.{Face}
use Rattle.closed.specs.Numbering.{used, dedup, grow}
use Rattle.closed.specs.Rows.{emitted, triangles, row, rows}
use Rattle.closed.specs.Grid.{node, cell_faces, grid_faces}
use Rattle.grid.specs.declared.Lattice.{Lattice}
use Rattle.points.specs.declared.point.Point.{Point}
use Rattle.settings.specs.declared.Settings.{Settings}
use Rattle.settings.specs.declared.Lengths.{Lengths}
use Rattle.answers.specs.declared.Refusal.TheVariants.{VertexRoom, FaceRoom, NoFace}
use Rattle.answers.specs.Answers.{Verdict, ◌when◌, ◌then◌}
use Rattle.settings.specs.Refusals.{vertex_room_verdict, face_room_verdict, mesh_verdict}
use Rattle.cells.specs.Extraction.{is_below, below_at, count_x, count_y, count_z, edge_faces, vertex_edges}
use Rattle.surface.specs.Surface.{level_of}
use Rattle.scan.specs.Reconstruction.{grid_for, lattice_for, field_for, level_for, vertex_total, face_total, kept_faces, late_verdict}

-- ---- the level

plus_nan : (x : Float) → add binary64 x nan ≡ nan
unfolding add
plus_nan nan = refl
plus_nan (inf s) = refl
plus_nan (fin s m e) = refl

level_nan : (ps : List Point) (st : Settings) → st.iso_offset ≡ nan → level_for ps st ≡ nan
unfolding level_for level_of narrowed
level_nan ps st e = ap (level_of (grid_for ps st) (field_for ps st) ps) e ∙ ap narrowed (plus_nan _)

-- ---- no node is below it, and no cell has a face

not_below : (v : Float) → is_below v nan ≡ false
unfolding is_below lt
not_below nan = refl
not_below (inf s) = refl
not_below (fin s m e) = refl

no_cells : {A : Type 0} (n : ℕ) → cells {A = A} n (λ _. []) ≡ []
unfolding cells
no_cells zero = refl
no_cells (suc n) = ap (λ l. l ++ []) (no_cells n)

case_0 : (nx ny nz : ℕ) → grid_faces nx ny nz (λ _ _ _. false) ≡ []
unfolding grid_faces cells3 cell_faces emitted triangles row rows
case_0 nx ny nz =
    ap (λ (l : List Face). cells (nx - 1) (λ _. cells (ny - 1) (λ _. l))) (no_cells (nz - 1))
    ∙ ap (λ (l : List Face). cells (nx - 1) (λ _. l)) (no_cells (ny - 1))
    ∙ no_cells (nx - 1)

no_faces : (values : List Float) (l : Lattice) → edge_faces values l nan ≡ []
unfolding edge_faces below_at
no_faces values l =
    ap (grid_faces (count_x l) (count_y l) (count_z l)) (λ t i j k. not_below (at values (node (count_y l) (count_z l) i j k)) t)
    ∙ case_0 (count_x l) (count_y l) (count_z l)

-- ---- so the last checks end in 6: there is room for nothing, and no face

-- any slices have room for nothing
room_for_none : (lent : Lengths) (w : Verdict) → vertex_room_verdict 0 lent then face_room_verdict 0 lent then w ≡ w
unfolding vertex_room_verdict face_room_verdict
room_for_none lent w =
    ap (λ (b : Bool). VertexRoom when b then FaceRoom when ltb lent.faces 0 then w) (leb-suc-zero lent.vertices)
    ∙ ap (λ (b : Bool). FaceRoom when b then w) (leb-suc-zero lent.faces)

module _ (ps : List Point) (st : Settings) (e : st.iso_offset ≡ nan) where
  empty : edge_faces (field_for ps st) (lattice_for ps st) (level_for ps st) ≡ []
  empty = ap (edge_faces (field_for ps st) (lattice_for ps st)) (level_nan ps st e) ∙ no_faces (field_for ps st) (lattice_for ps st)

  no_vertex : vertex_total ps st ≡ 0
  unfolding vertex_total vertex_edges used dedup grow
  no_vertex = ap (λ (fs : List Face). length (used fs)) empty

  no_face : face_total ps st ≡ 0
  unfolding face_total
  no_face = ap length empty

  pub nan_offset_no_face : (lent : Lengths) → late_verdict ps st lent ≡ Err NoFace
  unfolding late_verdict mesh_verdict
  nan_offset_no_face lent =
      let kept = mesh_verdict (length (kept_faces ps st)) in
      ap (λ (v : ℕ). vertex_room_verdict v lent then face_room_verdict (face_total ps st) lent then mesh_verdict (face_total ps st) then kept) no_vertex
      ∙ ap (λ (f : ℕ). vertex_room_verdict 0 lent then face_room_verdict f lent then mesh_verdict f then kept) no_face
      ∙ room_for_none lent (mesh_verdict 0 then kept)
