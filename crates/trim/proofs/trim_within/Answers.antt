-- `trim::trim_within`: the passes together are the trim within a distance (`trimmed_within`), and what is kept is no more than what came (`few`).
-- Assumes nothing.
use Rattle.std.proofs.Common.{List, ℕ, ◌≡◌, ◌*◌, ◌^◌, ◌≤◌, ◌<◌, arith, length, Float}
use Rattle.closed.specs.Faces.{faces}
use Rattle.closed.proofs.Laws.Mesh.{used_no_repeat}
use Rattle.points.specs.declared.point.Point.{Point}
use Rattle.points.specs.Points.{usables}
use Rattle.meshes.specs.FlatMesh.{vertex_count, Meshed}
use Rattle.meshes.specs.declared.MeshSize.{MeshSize}
use Rattle.trim.specs.Trim.{near_faces}
use Rattle.trim.specs.Words.{Front}
use Rattle.trim.proofs.WithinDistance.{slots_le, within_below, within_vertices, within_faces, within_count, trimmed_within}
use Rattle.trim.proofs.trim_within.Goals as goal

-- no more vertices are kept than came, and both counts are small: three vertices at most for each face, and no more faces than came
few : (ps : List Point) (vertices : List Float) (distance : Float) (numbers : List ℕ) {l table : List ℕ} {size : MeshSize} → Meshed vertices numbers
    → length numbers < 2 ^ 32 → Front (near_faces ps vertices distance (faces numbers)) l table size → length l ≡ length numbers
    → (size.vertices ≤ vertex_count vertices) × (size.vertices < 2 ^ 32) × (3 * size.faces < 2 ^ 32)
few ps vertices distance numbers m countable front long =
    let fewer = within_faces ps vertices distance numbers m front long in (
      within_vertices ps vertices distance numbers m front long,
      omega (arith, countable, within_count ps vertices distance numbers m front long, fewer, long),
      omega (arith, countable, fewer, long),
    )

pub overflow_cast-used : goal.overflow_cast-used
overflow_cast-used c = omega (arith, few _ _ _ _ c.requires.meshed c.requires.trim_room.countable c.keep_near-size.ensures c.keep_near-size.auto.faces)

pub move_vertices-requires-clause-used_bound : goal.move_vertices-requires-clause-used_bound
move_vertices-requires-clause-used_bound c =
    let room = c.requires.trim_room in
    let most = (few _ _ _ _ c.requires.meshed room.countable c.keep_near-size.ensures c.keep_near-size.auto.faces).0 in
    (most, omega (arith, most, room.numbers_fit), omega (arith, room.marks, c.keep_near-size.auto.table))

pub move_vertices-requires-clause-by_index : goal.move_vertices-requires-clause-by_index
move_vertices-requires-clause-by_index c =
    λ v h. slots_le c.keep_near-size.ensures.slots v (omega (arith, c.requires.trim_room.marks, c.keep_near-size.auto.table))

pub overflow_mul-used : goal.overflow_mul-used
overflow_mul-used c = omega (arith, (few _ _ _ _ c.requires.meshed c.requires.trim_room.countable c.keep_near-size.ensures c.keep_near-size.auto.faces).1)

pub overflow_mul-kept : goal.overflow_mul-kept
overflow_mul-kept c = omega (arith, (few _ _ _ _ c.requires.meshed c.requires.trim_room.countable c.keep_near-size.ensures c.keep_near-size.auto.faces).2)

pub returns-clause-trimmed : goal.returns-clause-trimmed
returns-clause-trimmed c =
    let ps = usables c.args.points.now in
    let vertices = c.args.vertices.now in
    let numbers = c.args.faces.now in
    let m = c.requires.meshed in
    let near = c.keep_near-size in
    let move = c.move_vertices in
    trimmed_within ps vertices c.args.distance numbers m near.ensures near.auto.faces move.new.vertices _ _ move.auto.vertices
    (move.ensures.places _ near.ensures.slots (used_no_repeat _) (within_below ps vertices c.args.distance numbers m))
    c.clear_from.ensures c.clear_from-2.ensures
