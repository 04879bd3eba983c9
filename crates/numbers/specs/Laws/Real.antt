-- The laws of the trait `Real` at both float types: only a NaN differs from itself, and `<` of the type is that of the numbers. By cases. Assumes nothing.
use Rattle.std.specs.Prelude.{◌≡◌, Bool, true, false, not, cond, T, Some, None, Float, refl}
use Rattle.std.proofs.Common.{sym, subst, Less, Equal, Greater}
use Rattle.std.specs.Float.{nan}
use Rattle.std.specs.Float.Ieee.{eq, ne, lt}
use Rattle.std.specs.Float.Ieee.Compare.{differs_from_itself}
use Rattle.std.specs.Ordering.{is_lt, is_some_and, float_partial_cmp, partial_lt}

pub only_nan_of : (x : Float) → not (eq x x) ≡ true → x ≡ nan
unfolding ne eq
only_nan_of x e = differs_from_itself x (subst T (sym e) tt)

-- the first of the three tests decides
by_first : (less same more : Bool) → is_some_and is_lt (cond less (Some Less) (cond same (Some Equal) (cond more (Some Greater) None))) ≡ less
by_first true same more = refl
by_first false true more = refl
by_first false false true = refl
by_first false false false = refl

pub less_of : (x y : Float) → partial_lt float_partial_cmp x y ≡ lt x y
less_of x y = by_first (lt x y) (eq x y) (lt y x)
