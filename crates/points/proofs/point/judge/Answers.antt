-- `points::point::judge`: the definition makes the same two tests. Assumes nothing.
use Rattle.std.proofs.Common.{◌≡◌, false, rules}
use Rattle.numbers.proofs.Laws.ConstantValues.{trillionth_is}
use Rattle.points.specs.Points.{length_usability}
use Rattle.points.proofs.FiniteTest.{finite_is}
use Rattle.points.proofs.point.judge.Goals as goal

pub returns-then-not-is_finite : goal.returns-then-not-is_finite
unfolding length_usability
returns-then-not-is_finite c = let no : c.is_finite.result ≡ false = search rules in rw (← finite_is c.args.length, ← c.is_finite.ensures.value, no)

pub returns-then-length : goal.returns-then-length
unfolding length_usability
returns-then-length c = rw (← finite_is c.args.length, ← c.is_finite.ensures.value, c.if-not-is_finite.false, trillionth_is, c.if-length.true)

pub returns : goal.returns
unfolding length_usability
returns c = rw (← finite_is c.args.length, ← c.is_finite.ensures.value, c.if-not-is_finite.false, trillionth_is, c.if-length.false)
