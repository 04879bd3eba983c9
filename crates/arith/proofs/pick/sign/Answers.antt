-- `arith::sign`: the highest bit of a pattern is the sign. Assumes nothing.
use Rattle.std.proofs.Common.{sym, ◌∙◌}
use Rattle.std.specs.Float.{binary64}
use Rattle.numbers.proofs.Laws.Comparing.{holds}
use Rattle.numbers.proofs.Laws.NanTest.{nan_of, zero_by_zero}
use Rattle.numbers.proofs.Laws.Signs.{sign_clear, sign_set, sign_nan}
use Rattle.arith.proofs.pick.sign.Goals as goal

pub returns-then-is_nan : goal.returns-then-is_nan
returns-then-is_nan c =
    let x = c.args.x in
    let is = sym c.is_nan.ensures.value ∙ c.if-is_nan.true in
    zero_by_zero binary64 ∙ (sym (nan_of x is) ∙ sign_nan x is)

pub returns-then-x-eq0 : goal.returns-then-x-eq0
returns-then-x-eq0 c = sign_clear c.args.x (holds c.well_formed.0.1) (sym c.is_nan.ensures.value ∙ c.if-is_nan.false) c.if-x-eq0.true

pub returns : goal.returns
returns c = sign_set c.args.x (holds c.well_formed.0.1) (sym c.is_nan.ensures.value ∙ c.if-is_nan.false) c.if-x-eq0.false
