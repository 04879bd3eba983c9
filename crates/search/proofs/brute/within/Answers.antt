-- `search::within`: some point is usable and near. Assumes nothing.
use Rattle.std.proofs.Common.{rules, ap, Bool, ◌∙◌, ◌&&◌}
use Rattle.std.proofs.lemmas.Iterator.Consumers.{YieldsList-from_first}
use Rattle.std.proofs.lemmas.Iterator.Search.{any_from_yields_List}
use borrow.Author.Tests.{tests}
use Rattle.std.specs.Float.Ieee.{le}
use Rattle.points.specs.declared.point.Point.{Point}
use Rattle.points.specs.Points.{points_of, points_left, usable_of}
use Rattle.points.specs.Laws.AllPoints.{usables_are}
use Rattle.search.specs.Search.{square_of, any_of, within_of}
use Rattle.search.proofs.SomeUsable.{any_among}
use Rattle.search.proofs.brute.within.Goals as goal

pub returns : goal.returns
unfolding within_of
returns c =
    let xs = c.args.points.now in
    let near : Point → Bool = λ p. le (square_of c.args.query p) c.args.limit in
    let road = YieldsList-from_first (λ x. x) points_left (points_of xs) c.all.ensures.left in
    let all = any_from_yields_List (λ p. usable_of p && near p) c.any.new.self _ c.any.result c.any.ensures.ran road (λ x b q k. search (rules, tests)) in
    all ∙ any_among (points_of xs) near ∙ ap (any_of near) (usables_are xs)
