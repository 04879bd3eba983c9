-- The fronts are lent, and come back before what stands past them. Assumes nothing.
use Rattle.std.proofs.Common.{◌∙◌, ◌*◌}
use Rattle.scan.proofs.ExactParts.{front_back}
use Rattle.scan.proofs.make_mesh_front.Goals as goal

pub returns-clause-made : goal.returns-clause-made
returns-clause-made c =
    let n = c.args.n in
    let made = c.make_mesh.ensures in
    let back = c.make_mesh.new in
    let auto = c.make_mesh.auto in
    let room = c.requires.room in
    record {
      vertex_count = made.vertex_count;
      face_count = made.face_count;
      places = made.places;
      numbers = made.numbers;
      zero1 = (front_back n c.args.a.now back.a room.1 auto.a).0 ∙ made.zero1;
      zero2 = (front_back n c.args.b.now back.b room.2 auto.b).0 ∙ made.zero2;
      zero3 = (front_back n c.args.c.now back.c room.3 auto.c).0 ∙ made.zero3;
      no_numbers = (front_back (3 * n) c.args.edges.now back.edges room.4 auto.edges).0 ∙ made.no_numbers;
    }

pub returns-clause-beside : goal.returns-clause-beside
returns-clause-beside c =
    let n = c.args.n in
    let back = c.make_mesh.new in
    let auto = c.make_mesh.auto in
    let room = c.requires.room in (
      (front_back n c.args.a.now back.a room.1 auto.a).1,
      (front_back n c.args.b.now back.b room.2 auto.b).1,
      (front_back n c.args.c.now back.c room.3 auto.c).1,
      (front_back (3 * n) c.args.edges.now back.edges room.4 auto.edges).1,
    )
