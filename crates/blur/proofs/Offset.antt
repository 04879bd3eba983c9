-- An i32 offset t - r added to a place p, as the machine computes it: no step wraps, the number is p + t - r, and its two tests are tests of natural
-- numbers. By the laws of `to_z` and `of_z`, an i32's integer and its pattern. Assumes nothing.
use mathlib.Core.Path.{◌≡◌, sym, ap, ◌∙◌, subst}
use mathlib.Core.Bool.{Bool, cond}
use mathlib.Core.Logic.{⊎_elim}
use Prim.Native.Nat.{ℕ, zero, suc, ◌+◌, ◌-◌, ◌<◌, ◌≤◌, ◌^◌}
use native.Mathlib.Nat.{sub-zero, add-zero, lt_of_le_of_lt}
use native.Mathlib.Omega.{arith}
use borrow.Author.Tests.{lt-ltb, le-ltb}
use lib.Dec.{ltb}
use lib.IntN.{ℤ, pos, negsuc, neg_ℤ, ◌+ℤ◌, ◌-ℤ◌, +ℤ_assoc}
use lib.Signed.{mag, lt_z}
use mir.Syntax.{w32}
use mir.Val.{SFits, to_z, of_z}
use mir.Facts.{to_z-of_z, to_z_pos}
use Rattle.lists.specs.Laws.Order.{lt_or_le}

pub diff_pos : (a r : ℕ) → r ≤ a → pos a -ℤ pos r ≡ pos (a - r)
diff_pos a zero h = ap pos (add-zero a ∙ sym (sub-zero a))
diff_pos a (suc r) h = ap (λ (b : Bool). cond b (negsuc (suc r - suc a)) (pos (a - suc r))) (le-ltb a (suc r) h)

pub diff_neg : (a r : ℕ) → a < r → pos a -ℤ pos r ≡ negsuc (r - suc a)
diff_neg a zero h = absurd (omega arith)
diff_neg a (suc r) h = ap (λ (b : Bool). cond b (negsuc (suc r - suc a)) (pos (a - suc r))) (lt-ltb a (suc r) h)

diff_mag : (a r : ℕ) → mag (pos a -ℤ pos r) ≤ a + r
diff_mag a r =
    ⊎_elim
    (λ (lt : a < r). subst (λ (z : ℤ). mag z ≤ a + r) (sym (diff_neg a r lt)) (omega arith))
    (λ (ge : r ≤ a). subst (λ (z : ℤ). mag z ≤ a + r) (sym (diff_pos a r ge)) (omega arith))
    (lt_or_le a r)

diff_fits : (a r : ℕ) → a + r < 2 ^ 31 → SFits w32 (pos a -ℤ pos r)
diff_fits a r h = record { sfits = lt_of_le_of_lt (diff_mag a r) h }

-- what the machine has for `pos as i32 + (t as i32 - radius as i32)`
abbrev pub offset : ℕ → ℕ → ℕ
offset t r = of_z w32 (to_z w32 t -ℤ to_z w32 r)

abbrev pub place : ℕ → ℕ → ℕ → ℕ
place p t r = of_z w32 (to_z w32 p +ℤ to_z w32 (offset t r))

module _ (p t r : ℕ) (hp : p ≤ 256) (ht : t ≤ 36) (hr : r ≤ 18) where
  t_is : to_z w32 t ≡ pos t
  t_is = to_z_pos w32 (omega arith)

  r_is : to_z w32 r ≡ pos r
  r_is = to_z_pos w32 (omega arith)

  p_is : to_z w32 p ≡ pos p
  p_is = to_z_pos w32 (omega arith)

  pub offset_diff : to_z w32 t -ℤ to_z w32 r ≡ pos t -ℤ pos r
  offset_diff = ap (λ (z : ℤ). z -ℤ to_z w32 r) t_is ∙ ap (λ (z : ℤ). pos t -ℤ z) r_is

  pub offset_fits : SFits w32 (to_z w32 t -ℤ to_z w32 r)
  offset_fits = subst (λ (z : ℤ). SFits w32 z) (sym offset_diff) (diff_fits t r (omega arith))

  pub place_sum : to_z w32 p +ℤ to_z w32 (offset t r) ≡ pos (p + t) -ℤ pos r
  place_sum =
      ap (λ (z : ℤ). z +ℤ to_z w32 (offset t r)) p_is
      ∙ ap (λ (z : ℤ). pos p +ℤ z) (to_z-of_z offset_fits ∙ offset_diff)
      ∙ sym (+ℤ_assoc (pos p) (pos t) (neg_ℤ (pos r)))

  pub place_fits : SFits w32 (to_z w32 p +ℤ to_z w32 (offset t r))
  place_fits = subst (λ (z : ℤ). SFits w32 z) (sym place_sum) (diff_fits (p + t) r (omega arith))

  pub place_is : to_z w32 (place p t r) ≡ pos (p + t) -ℤ pos r
  place_is = to_z-of_z place_fits ∙ place_sum

  -- the test against 0
  pub below_zero : lt_z (to_z w32 (place p t r)) (pos 0) ≡ ltb (p + t) r
  below_zero =
      ap (λ (z : ℤ). lt_z z (pos 0)) place_is
      ∙ ⊎_elim
      (λ (lt : p + t < r). ap (λ (z : ℤ). lt_z z (pos 0)) (diff_neg (p + t) r lt) ∙ sym (lt-ltb (p + t) r lt))
      (λ (ge : r ≤ p + t). ap (λ (z : ℤ). lt_z z (pos 0)) (diff_pos (p + t) r ge) ∙ le-ltb (p + t - r) 0 (omega arith) ∙ sym (le-ltb (p + t) r ge))
      (lt_or_le (p + t) r)

  -- from 0 on it is the number itself
  pub place_at : r ≤ p + t → to_z w32 (place p t r) ≡ pos (p + t - r)
  place_at ge = place_is ∙ diff_pos (p + t) r ge

  -- the test against the side's end
  pub below_end : (n : ℕ) → n ≤ 256 → r ≤ p + t → lt_z (to_z w32 (place p t r)) (to_z w32 n) ≡ ltb (p + t - r) n
  below_end n hn ge = ap (λ (z : ℤ). lt_z z (to_z w32 n)) (place_at ge) ∙ ap (λ (z : ℤ). lt_z (pos (p + t - r)) z) (to_z_pos w32 (omega arith))
