-- The loop of `arith::terms`: at each m the terms that are left, from the s so far, give the whole series. Assumes nothing.
use Rattle.std.proofs.Common.{◌≡◌, ◌-◌}
use Rattle.numbers.specs.Constants.{one64}
use Rattle.numbers.specs.Arithmetic.{series}
use Rattle.arith.proofs.exponential.terms.Given as goal

abbrev pub invariant-loop-m : goal.invariant-loop-m
invariant-loop-m l = series l.u (l.m - 1) l.s ≡ series l.u 8 one64
