-- The loop of `arith::squares`: after each turn the squarings that are left, from the s so far, give all six. Assumes nothing.
use Rattle.std.proofs.Common.{◌≡◌, ◌-◌}
use Rattle.numbers.specs.Arithmetic.{squared}
use Rattle.arith.proofs.exponential.squares.Given as goal

abbrev pub invariant-loop : goal.invariant-loop
invariant-loop l = squared (6 - l.counter) l.s ≡ squared 6 l.x
