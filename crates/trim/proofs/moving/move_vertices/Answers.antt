-- `trim::moving::move_vertices`: one axis after the other (`three_axes`); each call leaves the lengths as they are, so the next has a number for each
-- used vertex as well (`still_room`). Assumes nothing.
use Rattle.trim.specs.Words.{whole}
use Rattle.trim.proofs.Lines.{same_yet, then_same, still_room}
use Rattle.trim.proofs.Places.{three_axes}
use Rattle.trim.proofs.moving.move_vertices.Goals as goal

pub returns-clause-places : goal.returns-clause-places
returns-clause-places c =
    let one = c.move_axis in
    let two = c.move_axis-2 in
    let even = c.requires.even in
    let few = c.requires.used_bound.1 in
    λ seen slots once below.
    three_axes seen c.args.table.now c.args.used slots once c.args.vertices.now one.new.vertices two.new.vertices c.move_axis-3.new.vertices
    (whole c.args.lines.now)
    (whole one.new.lines)
    (whole two.new.lines)
    c.requires.used_bound.0 c.requires.used_bound.2 below
    (still_room even few (same_yet c.args.lines.now))
    (still_room even few one.ensures.same)
    (still_room even few (then_same one.ensures.same two.ensures.same))
    one.ensures.moved two.ensures.moved c.move_axis-3.ensures.moved
