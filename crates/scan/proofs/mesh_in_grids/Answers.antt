-- The fronts of N and 3N elements are what the mesh asks, and come back in their places as it leaves them. Assumes nothing.
use Rattle.std.proofs.Common.{refl, ap, ◌*◌, ℕ}
use Rattle.lists.specs.Lists.{zero32}
use Rattle.scan.proofs.ExactParts.{cleared_is}
use Rattle.scan.proofs.MeshMade.{parts}
use Rattle.scan.proofs.mesh_in_grids.Goals as goal

pub make_mesh_front-requires-clause-asked : goal.make_mesh_front-requires-clause-asked
make_mesh_front-requires-clause-asked c = parts c.requires c.nodes-n.ensures.0 refl

pub returns-clause-made : goal.returns-clause-made
returns-clause-made c =
    let n = c.nodes-n.ensures.0 in
    let made = c.make_mesh_front.ensures.made in
    let beside = c.make_mesh_front.ensures.beside in
    record {
      vertex_count = made.vertex_count;
      face_count = made.face_count;
      places = made.places;
      numbers = made.numbers;
      field = c.make_mesh_front.ensures.field_kept;
      zero1 = cleared_is zero32 c.args.grids.now.s1.now n c.requires.room1 made.zero1 beside.0;
      zero2 = cleared_is zero32 c.args.grids.now.s2.now n c.requires.room2 made.zero2 beside.1;
      zero3 = cleared_is zero32 c.args.grids.now.s3.now n c.requires.room3 made.zero3 beside.2;
      kept4 = refl;
      kept5 = refl;
      kept6 = refl;
      no_numbers = cleared_is 0 c.args.edges.now (ap (λ (k : ℕ). 3 * k) n) c.requires.table_room made.no_numbers beside.3;
    }
