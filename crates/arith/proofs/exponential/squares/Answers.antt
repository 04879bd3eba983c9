-- `arith::squares`: one squaring less is left after a turn, and none at the end. Assumes nothing.
use Rattle.std.proofs.Common.{◌≡◌, ◌+◌, ◌-◌, sym, ◌∙◌, arith}
use Rattle.numbers.specs.Arithmetic.{squared}
use Rattle.numbers.proofs.Laws.Series.{squared_step}
use Rattle.arith.proofs.exponential.squares.Goals as goal

pub loop-preserved : goal.loop-preserved
loop-preserved c =
    let one : 6 - (c.loop.counter + 1) ≡ 6 - c.loop.counter - 1 = omega arith in
    rw one (sym (squared_step (6 - c.loop.counter) c.loop.s (omega arith)) ∙ c.loop.invariant)

pub returns : goal.returns
unfolding squared
returns c = let none : 6 - c.loop.counter ≡ 0 = omega arith in rw none at c.loop.invariant
