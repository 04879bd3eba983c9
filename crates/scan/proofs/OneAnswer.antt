-- No second outcome fits: each public function, in the order of the source. Results and slices are said by equations, a mesh's V by three times it. Assumes
-- nothing.
use mathlib.Core.Path.{refl, sym}
use Rattle.lists.specs.OneOutcome.{OneOutcome}
use Rattle.lists.specs.Laws.OneAnswer.{same, ◌&◌, by_thrice}
use Rattle.meshes.proofs.OneAnswer.{by_counts}
use Rattle.ending.proofs.SameSlices.{grids_alike}
use Rattle.scan.specs.contracts as contract
use Rattle.scan.proofs as fn

pub check_points : OneOutcome contract.check_points.ended fn.check_points.Reads.Post
check_points κs args o o' p q = same p q & refl

pub lengths_of : OneOutcome contract.lengths_of.ended fn.lengths_of.Reads.Post
lengths_of κs args o o' p q = same p q & refl

pub make_grid : OneOutcome contract.make_grid.ended fn.make_grid.Reads.Post
make_grid κs args o o' p q = same p.is q.is & refl

pub field_and_level : OneOutcome contract.field_and_level.ended fn.field_and_level.Reads.Post
field_and_level κs args o o' p q =
    let d = p.1 in
    let e = q.1 in
    same d.level_is e.level_is
    & refl
    & refl
    & refl
    & refl
    & grids_alike args.1.1.1.1.0.now p.0 q.0 (same d.field e.field) (same d.zero1 e.zero1) (same d.zero2 e.zero2) (same d.zero3 e.zero3)
    (same d.zero4 e.zero4) (same d.zero5 e.zero5) (same d.zero6 e.zero6)
    & same d.no_distances e.no_distances
    & refl

pub make_mesh : OneOutcome contract.make_mesh.ended fn.make_mesh.Reads.Post
make_mesh κs args o o' p q =
    by_counts (by_thrice p.vertex_count q.vertex_count) (same (sym p.face_count) (sym q.face_count))
    & refl
    & refl
    & refl
    & refl
    & same p.places q.places
    & same p.numbers q.numbers
    & refl
    & same p.zero1 q.zero1
    & same p.zero2 q.zero2
    & same p.zero3 q.zero3
    & same p.no_numbers q.no_numbers
    & refl

pub mesh_in_grids : OneOutcome contract.mesh_in_grids.ended fn.mesh_in_grids.Reads.Post
mesh_in_grids κs args o o' p q =
    let d = p.1 in
    let e = q.1 in
    by_counts (by_thrice d.vertex_count e.vertex_count) (same (sym d.face_count) (sym e.face_count))
    & refl
    & refl
    & refl
    & refl
    & same d.places e.places
    & same d.numbers e.numbers
    & grids_alike args.1.1.1.1.1.1.0.now p.0 q.0 (same d.field e.field) (same d.zero1 e.zero1) (same d.zero2 e.zero2) (same d.zero3 e.zero3)
    (same d.kept4 e.kept4) (same d.kept5 e.kept5) (same d.kept6 e.kept6)
    & same d.no_numbers e.no_numbers
    & refl

pub answer_or_refuse : OneOutcome contract.answer_or_refuse.ended fn.answer_or_refuse.Reads.Post
answer_or_refuse κs args o o' p q = same p q & refl

pub make_answer : OneOutcome contract.make_answer.ended fn.make_answer.Reads.Post
make_answer κs args o o' p q = same p q & refl
