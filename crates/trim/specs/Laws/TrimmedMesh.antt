-- The trimmed mesh is a mesh: three numbers a vertex and a face, each of the latter the number of a vertex, and three different corners where the faces
-- had them. Kept faces are faces, and the numbering at first use is one to one (Mesh of the crate `closed`). Nothing is said of balance: a trimmed mesh
-- may be open. Assumes nothing.
use Rattle.std.specs.Prelude.{◌≡◌, refl, List, [], ◌∷◌, ℕ, ◌*◌, length, get_or, Float}
use Rattle.std.proofs.Common.{sym, subst, arith}
use Rattle.std.specs.Float.{binary32}
use Rattle.std.specs.Float.Ieee.{mul}
use Rattle.closed.specs.Lists.{All}
use Rattle.closed.specs.Faces.{Face, Apart, corners, faces}
use Rattle.closed.specs.Numbering.{used, mesh}
use Rattle.closed.proofs.Laws.Counting.{all_keep}
use Rattle.closed.proofs.Laws.Renumber.{in_at}
use Rattle.closed.proofs.Laws.Mesh.{mesh_apart, corner_lt}
use Rattle.closed.proofs.Laws.Turning.{length_corners}
use Rattle.points.specs.declared.point.Point.{Point}
use Rattle.meshes.specs.FlatMesh.{Meshed}
use Rattle.meshes.specs.Laws.FlatFaces.{meshed_corners}
use Rattle.settings.specs.declared.Trimming.{Trimming}
use Rattle.settings.specs.declared.Trimming.TheVariants.{Off, Within}
use Rattle.trim.specs.Trim.{near, near_faces, places_of, trimmed_faces, trimmed_vertices}

pub length_places : (vertices : List Float) (l : List ℕ) → length (places_of vertices l) ≡ 3 * length l
unfolding places_of
length_places vertices [] = refl
length_places vertices (v ∷ l) = omega (arith, length_places vertices l)

pub trimmed_meshed : (trimming : Trimming) (ps : List Point) (vertices : List Float) (numbers : List ℕ) → Meshed vertices numbers
    → Meshed (trimmed_vertices trimming ps vertices (faces numbers)) (corners (trimmed_faces trimming ps vertices (faces numbers)))
unfolding trimmed_vertices trimmed_faces
trimmed_meshed Off ps vertices numbers m = subst (Meshed vertices) (sym (meshed_corners m)) m
trimmed_meshed (Within distance) ps vertices numbers m =
    let kept : List Face = near_faces ps vertices distance (faces numbers) in
    let long = length_places vertices (used kept) in
    record {
      places = omega arith;
      triples = omega (arith, length_corners (mesh kept));
      below = λ k h. omega (arith, corner_lt kept (get_or (corners (mesh kept)) k 0) (in_at (corners (mesh kept)) 0 k h));
    }

pub trimmed_apart : (trimming : Trimming) (ps : List Point) (vertices : List Float) (fs : List Face) → All Apart fs → All Apart (trimmed_faces trimming ps vertices fs)
unfolding trimmed_faces near_faces
trimmed_apart Off ps vertices fs h = h
trimmed_apart (Within distance) ps vertices fs h =
    let p = near ps vertices (mul binary32 distance distance) in
    mesh_apart (near_faces ps vertices distance fs) (all_keep Apart p fs h)
