-- The sign of an f64 is the highest bit of its pattern: `signed` is 1 where the pattern is below 2 ^ 63, and -1 from there on. Assumes nothing.
use Rattle.std.specs.Prelude.{◌≡◌, ℕ, zero, suc, ◌+◌, ◌/◌, ◌%◌, ◌^◌, Bool, true, false, cond, T, pos, ◌==◌, ◌≢◌, nat_le, to_bits, refl, Float}
use Rattle.std.proofs.Common.{sym, ap, ◌∙◌, true≢false, arith, le-leb}
use Rattle.std.proofs.lemmas.Bool.{lt-leb}
use Rattle.std.specs.Float.{nan, inf, fin, binary64}
use Rattle.std.specs.Float.Ieee.{odd, neg, fits, is_nan, of_fields, of_bits}
use Rattle.std.specs.Float.Ieee.Bits.{of_bits-to_bits}
use Rattle.numbers.specs.Constants.{one64}
use Rattle.numbers.specs.Arithmetic.{signed}

-- 1 with the sign s
abbrev unit : Bool → Float
unit s = fin s 1 (pos 0)

odd_signed : (d : ℕ) (s : Bool) (q k l : ℕ) → signed (odd d s q k l) ≡ unit s
unfolding odd signed
odd_signed d s zero k l = refl
odd_signed d s (suc q) k l = refl

fields_signed : (s : Bool) (x t : ℕ) → is_nan (of_fields binary64 s x t) ≡ false → signed (of_fields binary64 s x t) ≡ unit s
unfolding of_fields is_nan signed
fields_signed s zero t h = odd_signed 53 s t 0 1074
fields_signed s (suc x) t h = go (suc x == 2047) (t == 0) h
  where
    go : (a b : Bool) → is_nan (cond a (cond b (inf s) nan) (odd 53 s (2 ^ 52 + t) x 1074)) ≡ false → signed (cond a (cond b (inf s) nan) (odd 53 s (2 ^ 52 + t) x 1074)) ≡ unit s
    go true true h = refl
    go true false h = absurd (true≢false h)
    go false b h = odd_signed 53 s (2 ^ 52 + t) x 1074

of_bits_is : (b : ℕ) → of_bits binary64 b ≡ of_fields binary64 (nat_le (2 ^ 63) b) (b % 2 ^ 63 / 2 ^ 52) (b % 2 ^ 52)
unfolding of_bits
of_bits_is b = refl

signed_by_bits : (x : Float) → T (fits binary64 x) → is_nan x ≡ false → signed x ≡ unit (nat_le (2 ^ 63) (to_bits binary64 x))
signed_by_bits x F N =
    let b = to_bits binary64 x in
    let is = sym (of_bits-to_bits binary64 x F) ∙ of_bits_is b in
    ap signed is ∙ fields_signed (nat_le (2 ^ 63) b) (b % 2 ^ 63 / 2 ^ 52) (b % 2 ^ 52) (ap is_nan (sym is) ∙ N)

-- ---- the two answers, and a NaN's

pub sign_clear : (x : Float) → T (fits binary64 x) → is_nan x ≡ false → to_bits binary64 x / 2 ^ 63 ≡ 0 → one64 ≡ signed x
unfolding of_bits
sign_clear x F N h = sym (signed_by_bits x F N ∙ ap unit (lt-leb (2 ^ 63) (to_bits binary64 x) (omega arith)))

pub sign_set : (x : Float) → T (fits binary64 x) → is_nan x ≡ false → (to_bits binary64 x / 2 ^ 63 ≢ 0) → neg one64 ≡ signed x
unfolding of_bits neg
sign_set x F N h = sym (signed_by_bits x F N ∙ ap unit (le-leb (2 ^ 63) (to_bits binary64 x) (omega arith)))

pub sign_nan : (x : Float) → is_nan x ≡ true → x ≡ signed x
unfolding is_nan signed
sign_nan nan h = refl
sign_nan (inf s) h = absurd (true≢false (sym h))
sign_nan (fin s m e) h = absurd (true≢false (sym h))
