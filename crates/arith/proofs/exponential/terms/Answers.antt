-- `arith::terms`: one term less is left after a turn, and none at the end. Assumes nothing.
use Rattle.std.proofs.Common.{◌≡◌, ◌-◌, sym, ◌∙◌, arith}
use Rattle.numbers.specs.Arithmetic.{series}
use Rattle.numbers.proofs.Laws.Series.{series_step}
use Rattle.arith.proofs.exponential.terms.Goals as goal

pub loop-m-preserved : goal.loop-m-preserved
loop-m-preserved c = sym (series_step c.args.u (c.loop-m.m - 1) c.loop-m.s (omega arith)) ∙ c.loop-m.invariant

pub returns : goal.returns
unfolding series
returns c = let none : c.loop-m.m - 1 ≡ 0 = omega arith in rw none at c.loop-m.invariant
