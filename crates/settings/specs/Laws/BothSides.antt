-- Document 01, "Numbers of refusal", its sentence "Both sides": what is refused and what is not, one step to either side of a limit, by computation.
-- Assumes nothing.
use Rattle.std.specs.Prelude.{◌≡◌, refl, false, [], ℕ, Err}
use Rattle.std.specs.Float.{nan, inf}
use Rattle.std.specs.Float.Ieee.{neg, lt, of_bits}
use Rattle.lists.specs.Lists.{zero32}
use Rattle.settings.specs.declared.Lengths.{Lengths}
use Rattle.answers.specs.declared.Refusal.TheVariants.{Depth, Smoothing, TooFew, VertexRoom, FaceRoom, NoFace}
use Rattle.answers.specs.Answers.{Pass}
use Rattle.settings.specs.Refusals.{depth_verdict, smoothing_verdict, usable_verdict, vertex_room_verdict, face_room_verdict, mesh_verdict}

-- result slices of these lengths
abbrev lent : (vertices faces : ℕ) → Lengths
lent vertices faces = record { vertices = vertices; faces = faces; grids = []; edges = 0; distances = 0 }

pub both_sides :
    (depth_verdict 3 ≡ Pass)  -- depths 3 and 8 pass,
    × (depth_verdict 8 ≡ Pass)
    × (depth_verdict 2 ≡ Err Depth)  -- 2 and 9 do not
    × (depth_verdict 9 ≡ Err Depth)
    × (usable_verdict 10 ≡ Pass)
    × (usable_verdict 9 ≡ Err TooFew)  -- 9 usable points give 4
    × (smoothing_verdict (inf false) ≡ Pass)  -- smoothing +infinity passes; NaN and either zero do not
    × (smoothing_verdict nan ≡ Err Smoothing)
    × (smoothing_verdict zero32 ≡ Err Smoothing)
    × (smoothing_verdict (neg zero32) ≡ Err Smoothing)
    × (vertex_room_verdict 5 (lent 15 0) ≡ Pass)  -- 3V elements suffice,
    × (vertex_room_verdict 5 (lent 14 0) ≡ Err VertexRoom)  -- 3V-1 give 9
    × (face_room_verdict 5 (lent 0 15) ≡ Pass)
    × (face_room_verdict 5 (lent 0 14) ≡ Err FaceRoom)
    × (mesh_verdict 1 ≡ Pass)
    × (mesh_verdict 0 ≡ Err NoFace)
unfolding depth_verdict smoothing_verdict usable_verdict vertex_room_verdict face_room_verdict mesh_verdict lt of_bits neg
both_sides = (refl, refl, refl, refl, refl, refl, refl, refl, refl, refl, refl, refl, refl, refl, refl, refl)
