-- Document 01, "Numbers of refusal, in order of checking": each line of the column "Given exactly when" as a verdict, in the column's order.
-- Definitions only; assumes nothing.
use Rattle.std.specs.Prelude.{Bool, false, not, ◌||◌, List, [], ◌∷◌, ℕ, ◌*◌, ◌%◌, ◌^◌, ltb, eqb, length, Float}
use Rattle.std.specs.Float.Ieee.{lt, eq}
use Rattle.numbers.specs.Constants.{zero64}
use Rattle.lists.specs.Lists.{zero32}
use Rattle.points.specs.Points.{numbers_per_point, given}
use Rattle.settings.specs.declared.Settings.{Settings}
use Rattle.settings.specs.declared.Lengths.{Lengths}
use Rattle.answers.specs.declared.Refusal.TheVariants.{PointSlice, NoPoints, Depth, Smoothing, ScratchRoom, TooFew, Flat, VertexRoom, FaceRoom, NoFace}
use Rattle.answers.specs.Answers.{Verdict, ◌when◌, ◌then◌}

-- ---- before any point is looked at

-- 7: point slice not a multiple of six, or over 1,048,576 points
unfoldable pub point_slice_verdict : (xs : List Float) → Verdict
point_slice_verdict xs = PointSlice when (not (eqb (length xs % numbers_per_point) 0) || ltb 1048576 (given xs))

-- 1: no points
unfoldable pub no_points_verdict : (xs : List Float) → Verdict
no_points_verdict xs = NoPoints when eqb (given xs) 0

-- 2: depth below 3 or above 8
unfoldable pub depth_verdict : (depth : ℕ) → Verdict
depth_verdict depth = Depth when (ltb depth 3 || ltb 8 depth)

-- 3: smoothing NaN, zero or negative: all that is not above zero
unfoldable pub smoothing_verdict : (smoothing : Float) → Verdict
smoothing_verdict smoothing = Smoothing when not (lt zero32 smoothing)

-- 8: a scratch slice is shorter than stated: seven of N = 8^depth, one of 3N, one of one per given point
unfoldable pub any_short : (n : ℕ) → List ℕ → Bool
any_short n [] = false
any_short n (l ∷ ls) = ltb l n || any_short n ls

unfoldable pub scratch_verdict : (depth given : ℕ) → Lengths → Verdict
scratch_verdict depth given lent =
    ScratchRoom when (any_short (8 ^ depth) lent.grids || (ltb lent.edges (3 * 8 ^ depth) || ltb lent.distances given))

abbrev pub early_verdict : (xs : List Float) → Settings → Lengths → Verdict
early_verdict xs st lent =
    point_slice_verdict xs
    then no_points_verdict xs
    then depth_verdict st.depth
    then smoothing_verdict st.smoothing
    then scratch_verdict st.depth (given xs) lent

-- ---- by what is measured on the way

-- 4: fewer than 10 usable points
unfoldable pub usable_verdict : (usable : ℕ) → Verdict
usable_verdict usable = TooFew when ltb usable 10

-- 5: largest extent is zero
unfoldable pub extent_verdict : (extent : Float) → Verdict
extent_verdict extent = Flat when eq extent zero64

-- 9: vertex slice shorter than 3V of the untrimmed mesh
unfoldable pub vertex_room_verdict : (vertices : ℕ) → Lengths → Verdict
vertex_room_verdict vertices lent = VertexRoom when ltb lent.vertices (3 * vertices)

-- 10: face slice shorter than 3F of the untrimmed mesh
unfoldable pub face_room_verdict : (faces : ℕ) → Lengths → Verdict
face_room_verdict faces lent = FaceRoom when ltb lent.faces (3 * faces)

abbrev pub room_verdict : (vertices faces : ℕ) → Lengths → Verdict
room_verdict vertices faces lent = vertex_room_verdict vertices lent then face_room_verdict faces lent

-- 6: no face, before or after trimming
unfoldable pub mesh_verdict : (faces : ℕ) → Verdict
mesh_verdict faces = NoFace when eqb faces 0
