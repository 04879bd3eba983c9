-- The passes together are the trim within a distance: the front of the faces is the mesh of the kept faces, the front of the vertices is the places of
-- those that they use, and zeros stand past both. Assumes nothing.
use mathlib.Core.Path.{◌≡◌, sym, ap, ◌∙◌}
use mathlib.Core.Logic.{⊎_elim}
use mathlib.Core.List.{List, [], ◌∷◌, ◌++◌, append-nil}
use Prim.Native.Nat.{ℕ, ◌+◌, ◌-◌, ◌*◌, ◌/◌, ◌≤◌, ◌<◌}
use native.Mathlib.Omega.{arith}
use lib.ListN.{length, get_or, take, replicate, length-take}
use lib.Ieee.{Float, binary32, mul}
use Rattle.lists.specs.Lists.{zero32, zeros32, zeros_u, padded}
use Rattle.lists.specs.Laws.Padded.{cleared_padded}
use Rattle.closed.specs.Faces.{Face, faces, corners}
use Rattle.closed.specs.Numbering.{note, grow, dedup, used, mesh, slot}
use Rattle.closed.proofs.Laws.Renumber.{in_or_not, in_at, index_of_lt, note_old, length_note_new, slot_in, slot_out}
use Rattle.closed.proofs.Laws.Mesh.{mesh_length}
use Rattle.closed.proofs.Laws.Turning.{length_corners, length_faces, corners_faces}
use Rattle.points.specs.declared.point.Point.{Point}
use Rattle.meshes.specs.FlatMesh.{vertex_count, face_count, Meshed}
use Rattle.settings.specs.declared.Trimming.TheVariants.{Off, Within}
use Rattle.meshes.specs.declared.MeshSize.{MeshSize}
use Rattle.trim.specs.Trim.{near, near_faces, places_of, trimmed_faces, trimmed_vertices, Trimmed}
use Rattle.trim.specs.Words.{Slots, Front}
use Rattle.trim.specs.Laws.TrimmedMesh.{length_places}
use Rattle.trim.proofs.Places.{front_corners, used_below, used_few}

slot_le : (seen : List ℕ) (v : ℕ) → slot seen v ≤ length seen
slot_le seen v = ⊎_elim (λ h. omega (arith, slot_in seen v h, index_of_lt v seen h)) (λ n. omega (arith, slot_out seen v n)) (in_or_not v seen)

-- an entry of the table is no larger than the number of those seen
pub slots_le : {seen table : List ℕ} {count : ℕ} → Slots seen table count → (v : ℕ) → v < length table → get_or table v 0 ≤ count
slots_le {seen} slots v h = omega (arith, slots.entry v h, slot_le seen v, slots.total)

-- no more vertices are used than faces have corners
note_most : (seen : List ℕ) (v : ℕ) → length (note seen v) ≤ length seen + 1
note_most seen v = ⊎_elim (λ h. omega (arith, ap length (note_old seen v h))) (λ n. omega (arith, length_note_new seen v n)) (in_or_not v seen)

grow_most : (seen l : List ℕ) → length (grow seen l) ≤ length seen + length l
unfolding grow
grow_most seen [] = omega arith
grow_most seen (v ∷ l) = omega (arith, note_most seen v, grow_most (note seen v) l)

used_most : (fs : List Face) → length (used fs) ≤ 3 * length fs
unfolding used dedup
used_most fs = omega (arith, grow_most [] (corners fs), length_corners fs)

module _ (ps : List Point) (vertices : List Float) (distance : Float) (numbers : List ℕ) where
  abbrev kept : List Face
  kept = near_faces ps vertices distance (faces numbers)

  module _ (m : Meshed vertices numbers) where
    -- the used vertices are vertices, so there are no more of them
    pub within_below : (w : ℕ) → w < length (used kept) → get_or (used kept) w 0 < vertex_count vertices
    unfolding near_faces
    within_below w h = used_below m (near ps vertices (mul binary32 distance distance)) (get_or (used kept) w 0) (in_at (used kept) 0 w h)

    module _ {l table : List ℕ} {size : MeshSize} (front : Front kept l table size) (long : length l ≡ length numbers) where
      pub within_vertices : size.vertices ≤ vertex_count vertices
      unfolding near_faces
      within_vertices = omega (arith, front.slots.total, used_few m (near ps vertices (mul binary32 distance distance)))

      pub within_count : size.vertices ≤ 3 * size.faces
      within_count = omega (arith, front.slots.total, front.count, used_most kept)

      whole : length l ≡ 3 * face_count l
      whole = omega (arith, m.triples)

      pub within_faces : size.faces ≤ face_count l
      within_faces = omega (arith, length-take size.faces (faces l), ap length front.renumbered, mesh_length kept, front.count, length_faces (face_count l) l whole)

      pub trimmed_within : (y : List Float) (vertices' : List Float) (numbers' : List ℕ) → length y ≡ length vertices → take (3 * size.vertices) y ≡ places_of vertices (used kept)
          → vertices' ≡ take (3 * size.vertices) y ++ zeros32 (length y - 3 * size.vertices)
          → numbers' ≡ take (3 * size.faces) l ++ zeros_u (length l - 3 * size.faces)
          → Trimmed (Within distance) ps vertices numbers size vertices' numbers'
      unfolding trimmed_vertices trimmed_faces
      trimmed_within y vertices' numbers' same moved cleared cleared' =
          let places : length (places_of vertices (used kept)) ≡ 3 * size.vertices = length_places vertices (used kept) ∙ ap (λ (n : ℕ). 3 * n) (sym front.slots.total) in
          let count : length (mesh kept) ≡ size.faces = mesh_length kept ∙ sym front.count in
          record {
            vertex_count = places;
            face_count = count;
            places = cleared ∙ cleared_padded zero32 (places_of vertices (used kept)) y moved places same;
            corners_at =
                cleared'
                ∙ cleared_padded 0 (corners (mesh kept)) l (front_corners l size.faces whole within_faces ∙ ap corners front.renumbered)
                (length_corners (mesh kept) ∙ ap (λ (n : ℕ). 3 * n) count) long;
          }

-- off keeps everything as it is
module _ {A : Type 0} where
  padded_whole : (z : A) (l : List A) → l ≡ padded z (length l) l
  padded_whole z l = let e : length l - length l ≡ 0 = omega arith in sym (ap (λ (n : ℕ). l ++ replicate n z) e ∙ append-nil l)

pub trimmed_off : {ps : List Point} {vertices : List Float} {numbers : List ℕ} → Meshed vertices numbers
    → Trimmed Off ps vertices numbers (record { vertices = length vertices / 3; faces = length numbers / 3 }) vertices numbers
unfolding trimmed_vertices trimmed_faces
trimmed_off {ps} {vertices} {numbers} m =
    record {
      vertex_count = m.places;
      face_count = length_faces (face_count numbers) numbers m.triples;
      places = padded_whole zero32 vertices;
      corners_at = padded_whole 0 numbers ∙ ap (padded 0 (length numbers)) (sym (corners_faces (face_count numbers) numbers m.triples));
    }
