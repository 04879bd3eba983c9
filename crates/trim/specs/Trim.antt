-- Document 01, "Box, level, orientation, trim": the mesh after trimming, which comes after the turning. Definitions only; assumes nothing.
use Rattle.std.specs.Prelude.{◌≡◌, Bool, List, [], ◌∷◌, ℕ, ◌*◌, ◌^◌, ◌≤◌, ◌<◌, length, Float}
use Rattle.std.specs.Float.{binary32}
use Rattle.std.specs.Float.Ieee.{mul}
use Rattle.lists.specs.Lists.{zero32, padded}
use Rattle.closed.specs.Lists.{keep}
use Rattle.closed.specs.Faces.{Face, corners, faces}
use Rattle.closed.specs.Numbering.{used, mesh}
use Rattle.points.specs.declared.point.Point.{Point}
use Rattle.search.specs.Search.{within_of}
use Rattle.meshes.specs.FlatMesh.{vertex_count, coordinate}
use Rattle.orientation.specs.Orientation.{centre_of}
use Rattle.settings.specs.declared.Trimming.{Trimming}
use Rattle.settings.specs.declared.Trimming.TheVariants.{Off, Within}
use Rattle.meshes.specs.declared.MeshSize.{MeshSize}

-- ---- which faces are kept

-- whether a face's f32 centre, in the order of its corners, has squared distance at most the limit to some usable point
abbrev pub near : List Point → List Float → Float → Face → Bool
near ps vertices limit f = within_of ps (centre_of vertices f) limit

-- the limit is distance·distance in f32: so -0.5 acts as 0.5, and NaN keeps nothing
unfoldable pub near_faces : List Point → List Float → Float → List Face → List Face
near_faces ps vertices distance fs = keep (near ps vertices (mul binary32 distance distance)) fs

-- ---- kept vertices are renumbered at first use: `used` and `mesh` of the crate `closed`

-- the coordinates of vertices, in their order
unfoldable pub places_of : List Float → List ℕ → List Float
places_of vertices [] = []
places_of vertices (v ∷ l) = coordinate vertices v 0 ∷ coordinate vertices v 1 ∷ coordinate vertices v 2 ∷ places_of vertices l

-- ---- trimming is either off or within a distance

unfoldable pub trimmed_faces : Trimming → List Point → List Float → List Face → List Face
trimmed_faces Off ps vertices fs = fs
trimmed_faces (Within distance) ps vertices fs = mesh (near_faces ps vertices distance fs)

unfoldable pub trimmed_vertices : Trimming → List Point → List Float → List Face → List Float
trimmed_vertices Off ps vertices fs = vertices
trimmed_vertices (Within distance) ps vertices fs = places_of vertices (used (near_faces ps vertices distance fs))

-- ---- what a call leaves: the mesh at the front of its slices, zeros past it, and its size

pub record Trimmed (trimming : Trimming) (ps : List Point) (vertices : List Float) (numbers : List ℕ) (size : MeshSize) (vertices' : List Float) (numbers' : List ℕ) : Type 0 where
  pub vertex_count : length (trimmed_vertices trimming ps vertices (faces numbers)) ≡ 3 * size.vertices
  pub face_count : length (trimmed_faces trimming ps vertices (faces numbers)) ≡ size.faces
  pub places : vertices' ≡ padded zero32 (length vertices) (trimmed_vertices trimming ps vertices (faces numbers))
  pub corners_at : numbers' ≡ padded 0 (length numbers) (corners (trimmed_faces trimming ps vertices (faces numbers)))

-- ---- the room that it needs: a mark a vertex, and a number a vertex in three slices of one length; vertices and faces that a u32 can count

pub record TrimRoom (vertices : List Float) (numbers table : List ℕ) (a b c : List Float) : Type 0 where
  pub countable : length numbers < 2 ^ 32
  pub marks : vertex_count vertices ≤ length table
  pub second : length b ≡ length a
  pub third : length c ≡ length a
  pub numbers_fit : vertex_count vertices ≤ 3 * length a
