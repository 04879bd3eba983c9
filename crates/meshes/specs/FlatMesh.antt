-- Document 01, "Form by location": a mesh in two flat lists, three f32 a vertex and three vertex numbers a face; its size, when it is well formed, its
-- faces and its vertices one by one. `faces` of the crate `closed` reads the second list whole. Definitions only; assumes nothing.
use Rattle.std.specs.Prelude.{◌≡◌, List, [], ◌∷◌, ℕ, ◌+◌, ◌*◌, ◌/◌, ◌<◌, length, get_or, set, Float}
use Rattle.lists.specs.Lists.{at}

-- ---- its size, and when it is well formed

abbrev pub vertex_count : List Float → ℕ
vertex_count vertices = length vertices / 3

abbrev pub face_count : List ℕ → ℕ
face_count numbers = length numbers / 3

-- whole triples, and each number is that of a vertex
pub record Meshed (vertices : List Float) (numbers : List ℕ) : Type 0 where
  pub places : length vertices ≡ 3 * vertex_count vertices
  pub triples : length numbers ≡ 3 * face_count numbers
  pub below : (k : ℕ) → k < length numbers → get_or numbers k 0 < vertex_count vertices

-- ---- one face, one vertex

-- the three numbers of face t; and the list with other numbers in their place
abbrev pub corners_at : List ℕ → ℕ → List ℕ
corners_at numbers t = get_or numbers (3 * t) 0 ∷ get_or numbers (3 * t + 1) 0 ∷ get_or numbers (3 * t + 2) 0 ∷ []

abbrev pub put_face : List ℕ → ℕ → List ℕ → List ℕ
put_face numbers t f = set (set (set numbers (3 * t) (get_or f 0 0)) (3 * t + 1) (get_or f 1 0)) (3 * t + 2) (get_or f 2 0)

-- each corner is one of so many vertices
pub record Corners (count : ℕ) (f : List ℕ) : Type 0 where
  pub first : get_or f 0 0 < count
  pub second : get_or f 1 0 < count
  pub third : get_or f 2 0 < count

-- a coordinate of vertex v, and all three
abbrev pub coordinate : List Float → ℕ → ℕ → Float
coordinate vertices v axis = at vertices (3 * v + axis)

abbrev pub vertex_at : List Float → ℕ → List Float
vertex_at vertices v = coordinate vertices v 0 ∷ coordinate vertices v 1 ∷ coordinate vertices v 2 ∷ []
