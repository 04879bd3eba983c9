-- What the stages of a call ask of the slices that they are lent, and what they leave in them, in the words of Reconstruction. A slice is its list before the
-- stage, and with a stroke its list after it; the seven over nodes are one value. Definitions only; assumes nothing.
use Rattle.std.specs.Prelude.{◌≡◌, ◌++◌, List, ℕ, ◌*◌, ◌^◌, ◌≤◌, take, drop, length, Float, Result}
use Rattle.lists.specs.Lists.{zero32, zeros32, zeros_u, padded}
use Rattle.closed.specs.Faces.{corners}
use Rattle.grid.specs.declared.Grid.{Grid}
use Rattle.grid.specs.Grid.{Sides, grid_of, all_nodes}
use Rattle.points.specs.declared.point.Point.{Point}
use Rattle.points.specs.declared.bounds.Bounds.{Bounds}
use Rattle.points.specs.Points.{given}
use Rattle.points.specs.Box.{side_of, origin_of}
use Rattle.settings.specs.declared.Settings.{Settings}
use Rattle.answers.specs.declared.Answer.{Answer}
use Rattle.answers.specs.declared.Refusal.{Refusal}
use Rattle.answers.specs.Answers.{answer_under, ◌lets◌}
use Rattle.ending.specs.declared.Grids.{Grids}
use Rattle.settings.specs.Refusals.{mesh_verdict}
use Rattle.numbering.specs.Words.{edge_table}
use Rattle.meshes.specs.declared.MeshSize.{MeshSize}
use Rattle.scan.specs.Reconstruction.{grid_for, lattice_for, field_for, level_for, vertex_total, face_total, kept_vertices, kept_faces, mesh_answer}

-- the grid over a box, and that its side is one of 2^1 .. 2^8 nodes
pub record GridOver (b : Bounds) (st : Settings) (g : Grid) : Type 0 where
  pub is : g ≡ grid_of (origin_of b) (side_of b) st.depth
  pub sides : Sides g.nodes

-- zeros at the first n places, and past them what was there
abbrev pub cleared_front : (n : ℕ) → List Float → List Float
cleared_front n s = zeros32 n ++ drop n s

-- settings and points that passed the checks, and scratch at least as long as stated: N = 8^depth values, and a distance a given point
pub record Lent (xs : List Float) (st : Settings) (lent : Grids) (distances : List Float) : Type 0 where
  pub deep : 3 ≤ st.depth
  pub shallow : st.depth ≤ 8
  pub few : given xs ≤ 1048576
  pub room0 : 8 ^ st.depth ≤ length lent.s0.now
  pub room1 : 8 ^ st.depth ≤ length lent.s1.now
  pub room2 : 8 ^ st.depth ≤ length lent.s2.now
  pub room3 : 8 ^ st.depth ≤ length lent.s3.now
  pub room4 : 8 ^ st.depth ≤ length lent.s4.now
  pub room5 : 8 ^ st.depth ≤ length lent.s5.now
  pub room6 : 8 ^ st.depth ≤ length lent.s6.now
  pub enough : given xs ≤ length distances

-- the level, the field at the front of the first slice, and zeros at the front of the others
pub record Solved (ps : List Point) (st : Settings) (level : Float) (before after : Grids) (distances distances' : List Float) : Type 0 where
  pub level_is : level ≡ level_for ps st
  pub field : after.s0.now ≡ field_for ps st ++ drop (8 ^ st.depth) before.s0.now
  pub zero1 : after.s1.now ≡ cleared_front (8 ^ st.depth) before.s1.now
  pub zero2 : after.s2.now ≡ cleared_front (8 ^ st.depth) before.s2.now
  pub zero3 : after.s3.now ≡ cleared_front (8 ^ st.depth) before.s3.now
  pub zero4 : after.s4.now ≡ cleared_front (8 ^ st.depth) before.s4.now
  pub zero5 : after.s5.now ≡ cleared_front (8 ^ st.depth) before.s5.now
  pub zero6 : after.s6.now ≡ cleared_front (8 ^ st.depth) before.s6.now
  pub no_distances : distances' ≡ zeros32 (length distances)

-- what the mesh asks: the grid, the field and the level, the numbers of the crossed edges, and slices of exactly 3V and 3F
pub record MeshAsked (ps : List Point) (st : Settings) (g : Grid) (level : Float)
    (vs : List Float) (fs : List ℕ) (s0 a b c : List Float) (edges : List ℕ) : Type 0 where
  pub grid : g ≡ grid_for ps st
  pub sides : Sides g.nodes
  pub depth : all_nodes g ≡ 8 ^ st.depth
  pub level_is : level ≡ level_for ps st
  pub places : length vs ≡ 3 * vertex_total ps st
  pub triples : length fs ≡ 3 * face_total ps st
  pub field : s0 ≡ field_for ps st
  pub size0 : length s0 ≡ 8 ^ st.depth
  pub size1 : length a ≡ 8 ^ st.depth
  pub size2 : length b ≡ 8 ^ st.depth
  pub size3 : length c ≡ 8 ^ st.depth
  pub numbers : edges ≡ edge_table (field_for ps st) (lattice_for ps st) (level_for ps st)

-- the mesh that is returned at the front of its slices, zeros past it and in the scratch, and its size
pub record MeshMade (ps : List Point) (st : Settings) (r : MeshSize)
    (vs vs' : List Float) (fs fs' : List ℕ) (a a' b b' c c' : List Float) (edges edges' : List ℕ) : Type 0 where
  pub vertex_count : length (kept_vertices ps st) ≡ 3 * r.vertices
  pub face_count : length (kept_faces ps st) ≡ r.faces
  pub places : vs' ≡ padded zero32 (length vs) (kept_vertices ps st)
  pub numbers : fs' ≡ padded 0 (length fs) (corners (kept_faces ps st))
  pub zero1 : a' ≡ zeros32 (length a)
  pub zero2 : b' ≡ zeros32 (length b)
  pub zero3 : c' ≡ zeros32 (length c)
  pub no_numbers : edges' ≡ zeros_u (length edges)

-- the same in the grids: the field at the front of the first, room in the others, and the numbers at the front of the edge table
pub record GridsAsked (ps : List Point) (st : Settings) (g : Grid) (level : Float)
    (vs : List Float) (fs : List ℕ) (lent : Grids) (edges : List ℕ) : Type 0 where
  pub grid : g ≡ grid_for ps st
  pub sides : Sides g.nodes
  pub depth : all_nodes g ≡ 8 ^ st.depth
  pub shallow : st.depth ≤ 8
  pub level_is : level ≡ level_for ps st
  pub places : length vs ≡ 3 * vertex_total ps st
  pub triples : length fs ≡ 3 * face_total ps st
  pub field : take (8 ^ st.depth) lent.s0.now ≡ field_for ps st
  pub room0 : 8 ^ st.depth ≤ length lent.s0.now
  pub room1 : 8 ^ st.depth ≤ length lent.s1.now
  pub room2 : 8 ^ st.depth ≤ length lent.s2.now
  pub room3 : 8 ^ st.depth ≤ length lent.s3.now
  pub table_room : 3 * 8 ^ st.depth ≤ length edges
  pub numbers : take (3 * 8 ^ st.depth) edges ≡ edge_table (field_for ps st) (lattice_for ps st) (level_for ps st)

-- the same, zeros at the front of the scratch
pub record GridsMade (ps : List Point) (st : Settings) (r : MeshSize)
    (vs vs' : List Float) (fs fs' : List ℕ) (before after : Grids) (edges edges' : List ℕ) : Type 0 where
  pub vertex_count : length (kept_vertices ps st) ≡ 3 * r.vertices
  pub face_count : length (kept_faces ps st) ≡ r.faces
  pub places : vs' ≡ padded zero32 (length vs) (kept_vertices ps st)
  pub numbers : fs' ≡ padded 0 (length fs) (corners (kept_faces ps st))
  pub field : after.s0.now ≡ before.s0.now
  pub zero1 : after.s1.now ≡ cleared_front (8 ^ st.depth) before.s1.now
  pub zero2 : after.s2.now ≡ cleared_front (8 ^ st.depth) before.s2.now
  pub zero3 : after.s3.now ≡ cleared_front (8 ^ st.depth) before.s3.now
  pub kept4 : after.s4.now ≡ before.s4.now
  pub kept5 : after.s5.now ≡ before.s5.now
  pub kept6 : after.s6.now ≡ before.s6.now
  pub no_numbers : edges' ≡ zeros_u (3 * 8 ^ st.depth) ++ drop (3 * 8 ^ st.depth) edges

-- 6 where there is no face, or the answer of an accepted call
unfoldable pub mesh_outcome : (usable : ℕ) (level : Float) (faces : ℕ) (vertices : List Float) → Result Answer Refusal
mesh_outcome usable level faces vertices = mesh_verdict faces lets mesh_answer usable level faces vertices

-- the same, told in the end
unfoldable pub trimmed_answer : (usable : ℕ) (level : Float) (faces : ℕ) (vertices : List Float) → Answer
trimmed_answer usable level faces vertices =
    answer_under (mesh_verdict faces) (mesh_answer usable level faces vertices)
