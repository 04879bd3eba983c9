-- The cast to a whole number already takes the floor: what an f64 has past a whole number is cut off, and below zero both give 0. A value that is not
-- whole lies below 2 ^ 52, so its floor is a float exactly; and u, the place of a point along an axis, is an f64 whatever the numbers. Assumes nothing.
use Rattle.std.specs.Prelude.{◌≡◌, Bool, cond, T, ℤ, pos, Float}
use Rattle.std.proofs.Math.Path.{refl, ap}
use Rattle.std.proofs.Common.{sym, ◌∙◌, true≢false, add-zero, le→leb}
use Rattle.std.proofs.Math.Bool.{true, false}
use Prim.Native.Nat.{ℕ, ◌+◌, ◌-◌, ◌*◌, ◌/◌, ◌%◌, ◌^◌, ◌<◌, min}
use Rattle.std.proofs.Math.Decide.{dec_lt}
use native.Mathlib.Omega.{arith}
use Rattle.std.specs.Float.{nan, inf, fin}
use Rattle.std.specs.Float.Ieee.{binary64, up, down, fits, round, of_int, in_float, to_unsigned, sub, div, of_bits, lt}
use Rattle.std.specs.Float.Ieee.Fits.{down_pos, cond-fits, div-fits, of_int-fits}
use Rattle.std.specs.Float.Ieee.Bits.{of_bits-fits}
use Rattle.std.specs.Float.Ieee.Exact.{HasValue}
use Rattle.std.specs.Float.Ieee.Back.{round_whole, unsigned_back}
use Rattle.numbers.specs.Arithmetic.{floored, clamped}
use Rattle.numbers.proofs.Laws.Steps.{whole_step, part_step, large_whole, cut_lt}
use Rattle.grid.specs.Grid.{placed}

-- what is below zero casts to 0
below_zero : (x : Float) (n : ℕ) → HasValue x true n 1 → to_unsigned 64 x ≡ 0
unfolding to_unsigned
below_zero nan n h = absurd h
below_zero (inf s) n h = absurd h
below_zero (fin true m e) n h = refl
below_zero (fin false m e) n h = absurd (true≢false (sym h.0))

-- a whole number up to 2 ^ 52 casts to itself
whole_back : (n : ℕ) → n < 2 ^ 52 → to_unsigned 64 (round binary64 false n 1) ≡ n
unfolding of_int in_float
whole_back n h = (unsigned_back binary64 64 n (le→leb n (2 ^ 53) (omega arith)) (omega arith)).1

-- n / d, of the sign s: what is not whole
module _ (m : ℕ) (e : ℤ) (below : m * up e < 2 ^ 52 * down e) where
  cut : m * up e / down e < 2 ^ 52
  cut = cut_lt (m * up e) (down e) (down_pos e) below

  part : (s : Bool) → (m * up e % down e ≡ 0 → ⊥) → to_unsigned 64 (floored (fin s m e)) ≡ to_unsigned 64 (fin s m e)
  unfolding floored
  part false h =
      ap (to_unsigned 64) (part_step 0 false m e h)
      ∙ ap (λ (q : ℕ). to_unsigned 64 (round binary64 false q 1)) (add-zero (m * up e / down e))
      ∙ whole_back (m * up e / down e) cut
      ∙ unfold to_unsigned in uncapped (m * up e / down e) cut
    where
      uncapped : (q : ℕ) → q < 2 ^ 52 → q ≡ min q (2 ^ 64 - 1)
      uncapped q h = omega arith
  part true h =
      ap (to_unsigned 64) (part_step 1 true m e h)
      ∙ below_zero _ (m * up e / down e + 1) (round_whole binary64 true (m * up e / down e + 1) (let c = cut in omega arith))
      ∙ unfold to_unsigned in refl

pub floor_cast : (x : Float) → T (fits binary64 x) → to_unsigned 64 (floored x) ≡ to_unsigned 64 x
unfolding floored
floor_cast nan F = refl
floor_cast (inf s) F = refl
floor_cast (fin s m e) F = go (dec_lt 0 (m * up e % down e)) (dec_lt (m * up e) (2 ^ 52 * down e))
  where
    go : Dec (0 < m * up e % down e) → Dec (m * up e < 2 ^ 52 * down e) → to_unsigned 64 (floored (fin s m e)) ≡ to_unsigned 64 (fin s m e)
    go (no h) t = ap (to_unsigned 64) (whole_step _ s m e (omega arith))
    go (yes h) (yes l) = part m e l s (λ z. omega arith)
    go (yes h) (no l) = let z = large_whole s m e F (omega arith) in absurd (omega arith)

-- ---- u is an f64, so the cast of u is its floor

clamped_fits : (x lo hi : Float) → T (fits binary64 x) → T (fits binary64 lo) → T (fits binary64 hi) → T (fits binary64 (clamped x lo hi))
clamped_fits x lo hi hx hl hh = cond-fits binary64 (lt x lo) lo (cond (lt hi x) hi x) hl (cond-fits binary64 (lt hi x) hi x hh hx)

pub placed_fits : (n : ℕ) (o h p : Float) → T (fits binary64 (placed n o h p))
unfolding placed
placed_fits n o h p = clamped_fits (div binary64 (sub binary64 p o) h) (of_bits binary64 0) (of_int binary64 (pos (n - 1))) (div-fits binary64 (sub binary64 p o) h) (of_bits-fits binary64 0) (of_int-fits binary64 (pos (n - 1)))
