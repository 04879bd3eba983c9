-- `trim::keep_near`: the kept faces stand at the front and name vertices, each of which has an entry in the table. Assumes nothing.
use Rattle.std.proofs.Common.{ap, ◌∙◌, subst, List, arith}
use Rattle.std.specs.Float.Ieee.{binary32, mul}
use Rattle.closed.specs.Faces.{Face}
use Rattle.closed.specs.Numbering.{used, mesh}
use Rattle.points.specs.Points.{usables}
use Rattle.trim.specs.Trim.{near, near_faces}
use Rattle.trim.specs.Words.{Slots}
use Rattle.trim.proofs.Places.{kept_few, front_below}
use Rattle.trim.proofs.keep_near.Goals as goal

pub number-used-requires-clause-faces_len : goal.number-used-requires-clause-faces_len
number-used-requires-clause-faces_len c =
    let kept = c.keep_faces-kept in
    let m = c.requires.meshed in
    let p = near (usables c.args.points.now) c.args.vertices.now (mul binary32 c.args.distance c.args.distance) in (
      omega (arith, m.triples, kept.auto.faces),
      omega (arith, c.requires.faces_len_bound, kept.auto.faces),
      kept_few m p kept.new.faces kept.result kept.auto.faces kept.ensures.value kept.ensures.faces_after,
    )

pub number-used-requires-clause-by_index : goal.number-used-requires-clause-by_index
number-used-requires-clause-by_index c =
    let kept = c.keep_faces-kept in
    let m = c.requires.meshed in
    let p = near (usables c.args.points.now) c.args.vertices.now (mul binary32 c.args.distance c.args.distance) in
    λ k h.
    omega (arith, c.clear.auto.values, c.requires.faces_len_bound, front_below m p kept.new.faces kept.result kept.auto.faces kept.ensures.value kept.ensures.faces_after k h)

pub returns : goal.returns
unfolding near_faces
returns c =
    let kept = c.keep_faces-kept in
    let number = c.number-used in
    record {
      count = kept.ensures.value;
      renumbered = number.ensures.renumbered ∙ ap mesh kept.ensures.faces_after;
      slots = subst (λ (fs : List Face). Slots (used fs) number.new.table number.result) kept.ensures.faces_after number.ensures.slots;
    }
