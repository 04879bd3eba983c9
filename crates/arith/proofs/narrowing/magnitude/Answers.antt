-- `arith::magnitude`: in the normal range one rounding of the whole pattern moves the exponent's field too, by `NarrowPattern`. Assumes nothing.
use Rattle.std.proofs.Common.{◌*◌, ◌^◌, ◌<◌, ◌≤◌, arith}
use Rattle.numbers.proofs.Laws.NarrowPattern.{magnitude_normal}
use Rattle.arith.proofs.narrowing.magnitude.Goals as goal

pub returns-then-wrapping_sub_u64-lt1143914305352105984 : goal.returns-then-wrapping_sub_u64-lt1143914305352105984
returns-then-wrapping_sub_u64-lt1143914305352105984 c s =
    let m = c.args.m in
    let lo : 897 * 2 ^ 52 ≤ m = omega arith in
    let hi : m < 1151 * 2 ^ 52 = omega arith in
    magnitude_normal m c.rounded.result s lo hi c.rounded.ensures
