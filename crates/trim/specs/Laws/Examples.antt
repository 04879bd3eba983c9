-- A tetrahedron, trimmed by computation: one face is near the point, its vertices are renumbered at first use, and the limit counts as near. Assumes nothing.
use Rattle.std.specs.Prelude.{◌≡◌, refl, false, List, [], ◌∷◌, pos, Float}
use Rattle.std.specs.Float.{nan, fin}
use Rattle.std.specs.Float.Ieee.{of_bits, neg, add, sub, mul, div, le}
use Rattle.closed.specs.Lists.{member, keep}
use Rattle.closed.specs.Faces.{Face, face}
use Rattle.closed.specs.Numbering.{note, grow, dedup, index_of, used, mesh}
use Rattle.points.specs.declared.point.Point.{Point}
use Rattle.search.specs.Search.{square_of, any_of, within_of}
use Rattle.settings.specs.declared.Trimming.TheVariants.{Off, Within}
use Rattle.orientation.specs.Orientation.{centre_of}
use Rattle.trim.specs.Trim.{near_faces, places_of, trimmed_faces, trimmed_vertices}

abbrev O : Float
O = fin false 0 (pos 0)

-- 3 and 1
abbrev III : Float
III = fin false 3 (pos 0)

abbrev I : Float
I = fin false 1 (pos 0)

abbrev vertices : List Float
vertices = O ∷ O ∷ O ∷ III ∷ O ∷ O ∷ O ∷ III ∷ O ∷ O ∷ O ∷ III ∷ []

abbrev tetrahedron : List Face
tetrahedron = face 0 2 1 ∷ face 0 1 3 ∷ face 0 3 2 ∷ face 3 1 2 ∷ []

-- the last face's centre is (1, 1, 1), the point at distance 1 from it; the other centres are further away
abbrev points : List Point
points = record { at = I ∷ I ∷ fin false 1 (pos 1) ∷ []; normal = O ∷ O ∷ I ∷ [] } ∷ []

pub one_face :
    (trimmed_faces (Within I) points vertices tetrahedron ≡ face 0 1 2 ∷ [])
    × (trimmed_vertices (Within I) points vertices tetrahedron ≡ O ∷ O ∷ III ∷ III ∷ O ∷ O ∷ O ∷ III ∷ O ∷ [])
    × (trimmed_faces (Within (neg I)) points vertices tetrahedron ≡ face 0 1 2 ∷ [])
    × (trimmed_faces (Within nan) points vertices tetrahedron ≡ [])
    × (trimmed_vertices (Within nan) points vertices tetrahedron ≡ [])
    × (trimmed_faces Off points vertices tetrahedron ≡ tetrahedron)
unfolding trimmed_faces trimmed_vertices near_faces keep within_of any_of square_of centre_of places_of mesh used dedup grow note member index_of of_bits neg add sub mul div le
one_face = (refl, refl, refl, refl, refl, refl)
