-- Where the three vertices of a face have room each has at its turn (`fits`), so the calls may be made. What they answer, one after the other, is the face
-- written.
use Rattle.std.proofs.Common.{refl, ap, ◌∙◌, ◌*◌}
use Rattle.std.proofs.Math.Seq.{sets}
use Rattle.extract.specs.Words.{point_of}
use Rattle.extract.specs.Laws.Placing.{place_three, fits_first, fits_rest, three_stores, three_same}
use Rattle.extract.proofs.write.WritingVisit.visit.Goals as goal

pub place-one-requires : goal.place-one-requires
place-one-requires c =
    let s = c.args.self.now in
    let here = c.requires.edges.0 in
    (c.requires.counts, here.1, here.0, fits_first s.table.now (point_of s.surface) (s.vertices.now, s.size.vertices) _ _ c.requires.room.vertices)

pub place-two-requires : goal.place-two-requires
place-two-requires c =
    let s = c.args.self.now in
    let here = c.requires.edges.1.0 in
    let two = fits_rest s.table.now (point_of s.surface) (s.vertices.now, s.size.vertices) _ _ _ c.requires.room.vertices c.place-one.ensures in
    (c.requires.counts, here.1, here.0, fits_first s.table.now (point_of s.surface) (c.place-one.new.vertices, c.place-one.result) _ _ two)

pub place-three-requires : goal.place-three-requires
place-three-requires c =
    let s = c.args.self.now in
    let here = c.requires.edges.1.1.0 in
    let two = fits_rest s.table.now (point_of s.surface) (s.vertices.now, s.size.vertices) _ _ _ c.requires.room.vertices c.place-one.ensures in
    let three = fits_rest s.table.now (point_of s.surface) (c.place-one.new.vertices, c.place-one.result) _ _ _ two c.place-two.ensures in
    (c.requires.counts, here.1, here.0, fits_first s.table.now (point_of s.surface) (c.place-two.new.vertices, c.place-two.result) _ _ three)

pub returns : goal.returns
returns c =
    let s = c.args.self.now in
    let i = 3 * s.size.faces in (
      refl,
      refl,
      refl,
      refl,
      record {
        placed = place_three s.table.now (point_of s.surface) (s.vertices.now, s.size.vertices) _ _ _ _ _ _ c.place-one.ensures c.place-two.ensures c.place-three.ensures;
        written = c.write_face.ensures
            ∙ three_stores s.faces.now i c.number.result c.number-2.result c.number-3.result
            ∙ ap (sets s.faces.now i)
            (three_same (c.number.ensures ∙ c.vertex_of-x.ensures) (c.number-2.ensures ∙ c.vertex_of-y.ensures) (c.number-3.ensures ∙ c.vertex_of-z.ensures));
        counted = refl;
      },
    )
