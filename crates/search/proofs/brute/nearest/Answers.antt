-- `search::nearest`: a fold over the usable points' squares, and `nearest_root`. Assumes nothing.
use Rattle.std.proofs.Common.{rules, ap, cond, ◌≡◌, ◌∙◌}
use Rattle.std.proofs.iter.runs.Made.{chains}
use Rattle.std.specs.Float.{binary32}
use Rattle.std.specs.List.{fold}
use mathlib.Core.List.{foldl}
use Rattle.numbers.specs.Arithmetic.{rooted}
use Rattle.points.specs.declared.point.Point.{Point}
use Rattle.points.specs.Points.{given, points_of, usable_of, usables}
use Rattle.points.specs.Laws.AllPoints.{fold_usable, usables_are}
use Rattle.points.specs.Laws.UsableFinite.{all_usable}
use Rattle.search.specs.declared.brute.Least.{Least}
use Rattle.search.specs.declared.brute.Least.TheVariants.{Empty}
use Rattle.search.specs.Search.{square_of}
use Rattle.search.specs.Words.{least_with, least_map}
use Rattle.search.proofs.NearestRoots.{nearest_root}
use Rattle.search.proofs.brute.nearest.Goals as goal

pub returns : goal.returns
returns c =
    let xs = c.args.points.now in
    let f : Least → Point → Least = λ s p. least_with s (square_of c.args.query p) in
    let all : c.fold.result ≡ fold (λ s p. cond (usable_of p) (f s p) s) Empty (points_of xs) = search (rules, chains) in
    c.roots.ensures ∙ ap (least_map (rooted binary32)) (all ∙ fold_usable f Empty (points_of xs) ∙ ap (foldl f Empty) (usables_are xs)) ∙ nearest_root c.args.query (usables xs) (all_usable xs (given xs))
