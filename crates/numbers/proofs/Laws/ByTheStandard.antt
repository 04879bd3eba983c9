-- `rooted` is IEEE 754's squareRoot in both formats, `narrowed` its convertFormat from binary64 to binary32, and the value itself that from binary32 to
-- binary64: at every bit pattern, and nothing else is. What is below zero, no number, infinite or zero goes by the definition's cases; what is finite by
-- `RootNearest`, `RoundNearest` and `RoundOverflow`. Assumes nothing.
use Rattle.std.specs.Prelude.{◌≡◌, ℕ, zero, suc, ◌*◌, ◌^◌, ◌<◌, ◌≤◌, Bool, true, false, T, ℤ, ◌≢◌, from_bits, Float}
use Rattle.std.proofs.Math.Path.{refl, sym}
use Rattle.std.proofs.Common.{◌∙◌, subst, lt_of_lt_of_le, mul-one, mul-le-mul_right, arith, lit≤}
use Prim.Native.Nat.{Ordering}
use Rattle.std.specs.Float.{nan, inf, fin, Format, binary64}
use Rattle.std.specs.Float.Ieee.{binary32, emax, up, down, round, fits}
use Rattle.std.specs.Float.Ieee.Fits.{down_pos, fits_widens}
use Rattle.std.specs.Float.Ieee.Bits.{of_bits-fits}
use Rattle.numbers.specs.Arithmetic.{rooted, narrowed}
use Rattle.numbers.specs.Ieee754.{fraction, root_of, limit, Rounded, SquareRootOf, ConversionOf}
use Rattle.numbers.proofs.Laws.Binary.{cmp, compare_lt}
use Rattle.numbers.specs.Laws.Binary.{Cmp}
use Rattle.numbers.proofs.Laws.Spacing.{held}
use Rattle.numbers.proofs.Laws.RootNearest.{rooted_nearest, rooted_only}
use Rattle.numbers.proofs.Laws.RoundNearest.{round_nearest, round_only}
use Rattle.numbers.proofs.Laws.RoundOverflow.{round_infinite, round_finite}
use Rattle.numbers.proofs.Laws.NarrowKeeps.{round_same_value}

-- ---- `round` delivers what the standard does
module _ (f : Format) (s : Bool) (num den : ℕ) (D : 0 < den) where
  at_limit : Cmp (fraction num den (limit f) 1) num (limit f * den)
  at_limit = rw (mul-one num) (cmp num (limit f * den))

  under : fraction num den (limit f) 1 ≡ Ordering.lt → num < limit f * den
  under e = rw e at at_limit

  over : (fraction num den (limit f) 1 ≢ Ordering.lt) → limit f * den ≤ num
  over past = go (fraction num den (limit f) 1) refl at_limit
    where
      go : (o : Ordering) → fraction num den (limit f) 1 ≡ o → Cmp o num (limit f * den) → limit f * den ≤ num
      go Ordering.lt e c = absurd (past e)
      go Ordering.eq e c = omega arith
      go Ordering.gt e c = omega arith

  pub round_standard : Rounded f s (fraction num den) (round f s num den)
  round_standard = record {
    nearest = λ e. round_nearest f s num den D (round_finite f s num den D (under e));
    overflow = λ past. round_infinite f s num den D (over past);
  }

  pub round_standard_only : (r : Float) → Rounded f s (fraction num den) r → r ≡ round f s num den
  round_standard_only r g = go (fraction num den (limit f) 1) refl
    where
      infinite : (fraction num den (limit f) 1 ≢ Ordering.lt) → r ≡ round f s num den
      infinite past = g.overflow past ∙ sym (round_infinite f s num den D (over past))

      go : (o : Ordering) → fraction num den (limit f) 1 ≡ o → r ≡ round f s num den
      go Ordering.lt e = round_only f s num den D (round_finite f s num den D (under e)) r (g.nearest e)
      go Ordering.eq e = infinite (λ h. let z : ◌≡◌ {A = ℕ} 0 1 = cc in omega arith)
      go Ordering.gt e = infinite (λ h. let z : ◌≡◌ {A = ℕ} 0 1 = cc in omega arith)

-- ---- the square root

-- the root of a value of the format is far below the limit
far_below : (f : Format) → 2 ^ suc (emax f) ≤ limit f * limit f
far_below binary32 = lit≤ tt
far_below binary64 = lit≤ tt

no_overflow : (f : Format) (m : ℕ) (e : ℤ) → T (fits f (fin false (suc m) e)) → root_of (suc m * up e) (down e) (limit f) 1 ≡ Ordering.lt
no_overflow f m e F =
    compare_lt _ _ (rw (mul-one (suc m * up e)) (lt_of_lt_of_le (held f false m e F).high_end (mul-le-mul_right (down e) (far_below f))))

root_standard : (f : Format) (x : Float) → T (fits f x) → SquareRootOf f x (rooted f x)
root_standard f nan F = unfold rooted in refl
root_standard f (inf false) F = unfold rooted in refl
root_standard f (inf true) F = unfold rooted in refl
root_standard f (fin s zero e) F = unfold rooted in refl
root_standard f (fin true (suc m) e) F = unfold rooted in refl
root_standard f (fin false (suc m) e) F = record {
  nearest = λ _. rooted_nearest f m e F;
  overflow = λ past. absurd (past (no_overflow f m e F));
}

root_standard_only : (f : Format) (x : Float) → T (fits f x) → (r : Float) → SquareRootOf f x r → r ≡ rooted f x
root_standard_only f nan F r g = unfold rooted in g
root_standard_only f (inf false) F r g = unfold rooted in g
root_standard_only f (inf true) F r g = unfold rooted in g
root_standard_only f (fin s zero e) F r g = unfold rooted in g
root_standard_only f (fin true (suc m) e) F r g = unfold rooted in g
root_standard_only f (fin false (suc m) e) F r g = rooted_only f m e F r (g.nearest (no_overflow f m e F))

-- for both formats, of every pattern
pub square_root : (f : Format) (b : ℕ) → SquareRootOf f (from_bits f b) (rooted f (from_bits f b))
square_root f b = root_standard f (from_bits f b) (of_bits-fits f b)

pub square_root_only : (f : Format) (b : ℕ) (r : Float) → SquareRootOf f (from_bits f b) r → r ≡ rooted f (from_bits f b)
square_root_only f b = root_standard_only f (from_bits f b) (of_bits-fits f b)

-- ---- the conversions

narrow_standard : (x : Float) → T (fits binary64 x) → ConversionOf binary32 x (narrowed x)
narrow_standard nan F = unfold narrowed in refl
narrow_standard (inf s) F = unfold narrowed in refl
narrow_standard (fin s zero e) F = unfold narrowed in round_same_value binary32 s zero e (unfold fits in F)
narrow_standard (fin s (suc m) e) F = unfold narrowed in round_standard binary32 s (suc m * up e) (down e) (down_pos e)

narrow_standard_only : (x : Float) → T (fits binary64 x) → (r : Float) → ConversionOf binary32 x r → r ≡ narrowed x
narrow_standard_only nan F r g = unfold narrowed in g
narrow_standard_only (inf s) F r g = unfold narrowed in g
narrow_standard_only (fin s zero e) F r g = unfold narrowed in g ∙ sym (round_same_value binary32 s zero e (unfold fits in F))
narrow_standard_only (fin s (suc m) e) F r g = unfold narrowed in round_standard_only binary32 s (suc m * up e) (down e) (down_pos e) r g

-- from binary64 to binary32, of every pattern
pub narrowing : (b : ℕ) → ConversionOf binary32 (from_bits binary64 b) (narrowed (from_bits binary64 b))
narrowing b = narrow_standard (from_bits binary64 b) (of_bits-fits binary64 b)

pub narrowing_only : (b : ℕ) (r : Float) → ConversionOf binary32 (from_bits binary64 b) r → r ≡ narrowed (from_bits binary64 b)
narrowing_only b = narrow_standard_only (from_bits binary64 b) (of_bits-fits binary64 b)

-- a value that a format holds is its own
same_standard : (f : Format) (x : Float) → T (fits f x) → ConversionOf f x x
same_standard f nan F = refl
same_standard f (inf s) F = refl
same_standard f (fin s zero e) F = refl
same_standard f (fin s (suc m) e) F =
    subst (Rounded f s (fraction (suc m * up e) (down e))) (round_same_value f s (suc m) e F) (round_standard f s (suc m * up e) (down e) (down_pos e))

same_standard_only : (f : Format) (x : Float) → T (fits f x) → (r : Float) → ConversionOf f x r → r ≡ x
same_standard_only f nan F r g = g
same_standard_only f (inf s) F r g = g
same_standard_only f (fin s zero e) F r g = g
same_standard_only f (fin s (suc m) e) F r g = round_standard_only f s (suc m * up e) (down e) (down_pos e) r g ∙ round_same_value f s (suc m) e F

-- so from binary32 to binary64 nothing changes
pub widening : (b : ℕ) → ConversionOf binary64 (from_bits binary32 b) (from_bits binary32 b)
widening b = same_standard binary64 (from_bits binary32 b) (fits_widens (from_bits binary32 b) (of_bits-fits binary32 b))

pub widening_only : (b : ℕ) (r : Float) → ConversionOf binary64 (from_bits binary32 b) r → r ≡ from_bits binary32 b
widening_only b = same_standard_only binary64 (from_bits binary32 b) (fits_widens (from_bits binary32 b) (of_bits-fits binary32 b))
