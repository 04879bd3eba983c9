-- No second outcome fits: the public function that is seen outside the crate; `keep_faces`, `number` and `move_vertices` are called for it alone.
-- V is told by 3V. Assumes nothing.
use mathlib.Core.Path.{refl}
use Rattle.lists.specs.OneOutcome.{OneOutcome}
use Rattle.lists.specs.Laws.OneAnswer.{same, ◌&◌, by_thrice}
use Rattle.meshes.proofs.OneAnswer.{by_counts}
use Rattle.trim.specs.contracts as contract
use Rattle.trim.proofs as fn

pub trim : OneOutcome contract.trim.ended fn.trim.Reads.Post
trim κs args o o' p q =
    by_counts (by_thrice p.0.vertex_count q.0.vertex_count) (cc (p.0.face_count, q.0.face_count))
    & refl
    & refl
    & same p.0.places q.0.places
    & same p.0.corners_at q.0.corners_at
    & same p.1.0 q.1.0
    & same p.1.1.0 q.1.1.0
    & same p.1.1.1.0 q.1.1.1.0
    & same p.1.1.1.1 q.1.1.1.1
    & refl
