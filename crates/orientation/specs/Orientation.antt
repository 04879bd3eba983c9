-- Document 01, "Box, level, orientation, trim": the orientation of the faces, and a face's centre and normal; the trim needs the centre too. What a mesh is
-- stands in the crate `meshes`. Definitions only; assumes nothing.
use Rattle.std.specs.Prelude.{cond, ℕ, length, set, Float}
use mathlib.Core.List.{List, [], ◌∷◌, map, foldl}
use Rattle.std.specs.Float.{binary32, binary64}
use Rattle.std.specs.Float.Ieee.{add, sub, mul, div, lt}
use Rattle.lists.specs.Lists.{at}
use Rattle.lists.specs.EveryNth.{stride_for, every_from}
use Rattle.numbers.specs.Constants.{zero64, minus_zero64, half64, three32}
use Rattle.numbers.specs.Arithmetic.{signed}
use Rattle.closed.specs.Faces.{Face, face, turn}
use Rattle.grid.specs.declared.Grid.{Grid}
use Rattle.grid.specs.Grid.{sampled}
use Rattle.meshes.specs.FlatMesh.{coordinate, vertex_at}

-- ---- a face's centre and normal, in f32

abbrev pub centred : Float → Float → Float → Float
centred a b c = div binary32 (add binary32 (add binary32 a b) c) three32

-- ((v0+v1)+v2)/3 in the order of the corners, a component at a time
unfoldable pub centre_of : List Float → Face → List Float
centre_of vertices (face a b c) =
    centred (coordinate vertices a 0) (coordinate vertices b 0) (coordinate vertices c 0)
    ∷ centred (coordinate vertices a 1) (coordinate vertices b 1) (coordinate vertices c 1)
    ∷ centred (coordinate vertices a 2) (coordinate vertices b 2) (coordinate vertices c 2)
    ∷ []

-- q - p, a component at a time
abbrev pub minus : List Float → List Float → List Float
minus q p = sub binary32 (at q 0) (at p 0) ∷ sub binary32 (at q 1) (at p 1) ∷ sub binary32 (at q 2) (at p 2) ∷ []

-- y1·z2 - z1·y2, and the others in turn
abbrev pub cross : List Float → List Float → List Float
cross p q =
    sub binary32 (mul binary32 (at p 1) (at q 2)) (mul binary32 (at p 2) (at q 1))
    ∷ sub binary32 (mul binary32 (at p 2) (at q 0)) (mul binary32 (at p 0) (at q 2))
    ∷ sub binary32 (mul binary32 (at p 0) (at q 1)) (mul binary32 (at p 1) (at q 0))
    ∷ []

-- the cross product of the sides from corner 0 to corners 1 and 2
unfoldable pub normal_of : List Float → Face → List Float
normal_of vertices (face a b c) = cross (minus (vertex_at vertices b) (vertex_at vertices a)) (minus (vertex_at vertices c) (vertex_at vertices a))

-- ---- orientation

-- what the field gains along an axis from half a step before a place to half a step behind it, in f64
unfoldable pub gain_at : Grid → List Float → List Float → ℕ → Float
gain_at g values p axis =
    sub binary64
    (sampled g values (set p axis (add binary64 (at p axis) (mul binary64 g.step half64))))
    (sampled g values (set p axis (sub binary64 (at p axis) (mul binary64 g.step half64))))

-- whether a face looks where the field grows: the sign of normal · gradient, in f64; a float widened is the same number
unfoldable pub sign_at : Grid → List Float → List Float → Face → Float
sign_at g values vertices f =
    let n = normal_of vertices f in
    let p = centre_of vertices f in
    signed
    (add binary64
    (add binary64 (mul binary64 (at n 0) (gain_at g values p 0)) (mul binary64 (at n 1) (gain_at g values p 1)))
    (mul binary64 (at n 2) (gain_at g values p 2)))

-- faces 0, s, 2s.. with s = max(F/500, 1)
abbrev pub asked : List Face → List Face
asked fs = every_from (stride_for 500 (length fs)) 0 fs

abbrev pub plus_sign : Grid → List Float → List Float → Float → Face → Float
plus_sign g values vertices sum f = add binary64 sum (sign_at g values vertices f)

-- the sum of their signs, from -0.0
unfoldable pub agreement_of : Grid → List Float → List Float → List Face → Float
agreement_of g values vertices fs = foldl (plus_sign g values vertices) minus_zero64 (asked fs)

-- below zero swaps corners 1 and 2 of all faces; a NaN sum is not below and swaps nothing
unfoldable pub oriented_faces : Grid → List Float → List Float → List Face → List Face
oriented_faces g values vertices fs = cond (lt (agreement_of g values vertices fs) zero64) (map turn fs) fs
