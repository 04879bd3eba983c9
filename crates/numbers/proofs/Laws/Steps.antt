-- How floor and ceiling are computed, for an f64 above 0: from 2 ^ 52 on every value is whole, and below that the whole part q, and q + 1, are floats
-- exactly, so the value is whole just where q as a float equals it. Of fin s m e the magnitude is m * up e / down e, and it is whole where the remainder
-- is 0. Assumes nothing.
use Rattle.std.specs.Prelude.{◌≡◌, ℕ, zero, suc, ◌+◌, ◌-◌, ◌*◌, ◌/◌, ◌%◌, ◌^◌, ◌<◌, ◌≤◌, min, Bool, true, false, cond, ◌&&◌, T, ℤ, pos, negsuc, ◌==◌, ◌≢◌, nat_eq, nat_le, nat_lt, refl, Float}
use Rattle.std.proofs.Math.Path.{sym, ap, subst}
use Rattle.std.proofs.Common.{◌∙◌, true≢false, mul-one, add-zero, div-add-mod', mod-eq_of_lt, div-lt_iff_lt-mul, ltb→lt, pow_pos, pow_mono}
use Rattle.std.proofs.lemmas.Bool.{false≢true}
use native.Mathlib.Omega.{arith}
use borrow.Author.Tests.{ltb-true, ltb-false, eqb-true, eqb-false, lt-ltb, eq-eqb, ne_eqb}
use Rattle.std.proofs.Math.Dec.{lt→ltb, le→leb}
use Rattle.std.specs.Float.{nan, inf, fin}
use Rattle.std.specs.Float.Ieee.{binary64, up, down, round, neg, lt, eq, fits, of_bits, to_unsigned, of_int, in_float}
use Rattle.std.specs.Float.Ieee.Fits.{down_pos, and_l, and_r}
use Rattle.std.specs.Float.Ieee.Exact.{HasValue}
use Rattle.std.specs.Float.Ieee.Back.{round_whole}
use Rattle.numbers.specs.Arithmetic.{stepped, floored, ceiled}
use Rattle.numbers.proofs.Laws.Comparing.{eq_values}

-- ---- `stepped`: where the remainder is 0, and where it is not

pub whole_step : (d : ℕ) (s : Bool) (m : ℕ) (e : ℤ) → m * up e % down e ≡ 0 → stepped d s m e ≡ fin s m e
unfolding stepped
whole_step d s m e h = rw (eq-eqb (m * up e % down e) 0 h)

pub part_step : (d : ℕ) (s : Bool) (m : ℕ) (e : ℤ) → (m * up e % down e ≢ 0) → stepped d s m e ≡ round binary64 s (m * up e / down e + d) 1
unfolding stepped
part_step d s m e h = rw (ne_eqb (m * up e % down e) 0 h)

-- ---- the tests against 0

abbrev nought : Float
nought = fin false 0 (pos 0)

pub above_nought : (x : Float) → lt (of_bits binary64 0) x ≡ true → lt nought x ≡ true
unfolding of_bits
above_nought x h = h

pub below_nought : (x : Float) → lt x (of_bits binary64 0) ≡ true → lt nought (neg x) ≡ true
unfolding of_bits neg lt
below_nought nan h = absurd (false≢true h)
below_nought (inf true) h = refl
below_nought (inf false) h = absurd (false≢true h)
below_nought (fin true m e) h = lt-ltb (0 * down e) (m * up e * 1) (go (m * up e) (down e) (ltb-true 0 (m * up e * 1 + 0 * down e) h))
  where
    go : (n d : ℕ) → 0 < n * 1 + 0 * d → 0 * d < n * 1
    go n d h = omega arith
below_nought (fin false m e) h = absurd (go (m * up e) (down e) (ltb-true (m * up e * 1) (0 * down e) h))
  where
    go : (n d : ℕ) → n * 1 < 0 * d → ⊥
    go n d h = omega arith

nothing_left : (n d : ℕ) → 0 < d → n ≡ 0 → n % d ≡ 0
nothing_left n d D h = mod-eq_of_lt (omega arith) ∙ h

at_nought : (s : Bool) (m : ℕ) (e : ℤ) → lt nought (fin s m e) ≡ false → lt (fin s m e) nought ≡ false → m * up e % down e ≡ 0
unfolding lt
at_nought false m e h k = nothing_left (m * up e) (down e) (down_pos e) (go (m * up e) (down e) (ltb-false (0 * down e) (m * up e * 1) h))
  where
    go : (n d : ℕ) → n * 1 ≤ 0 * d → n ≡ 0
    go n d h = omega arith
at_nought true m e h k = nothing_left (m * up e) (down e) (down_pos e) (go (m * up e) (down e) (ltb-false 0 (m * up e * 1 + 0 * down e) k))
  where
    go : (n d : ℕ) → n * 1 + 0 * d ≤ 0 → n ≡ 0
    go n d h = omega arith

-- a NaN or a zero is its own floor and its own ceiling
nought_steps : (x : Float) → lt nought x ≡ false → lt x nought ≡ false → (x ≡ floored x) × (x ≡ ceiled x)
unfolding lt floored ceiled
nought_steps nan h k = (refl, refl)
nought_steps (inf true) h k = absurd (true≢false k)
nought_steps (inf false) h k = absurd (true≢false h)
nought_steps (fin s m e) h k = let z = at_nought s m e h k in (sym (whole_step (cond s 1 0) s m e z), sym (whole_step (cond s 0 1) s m e z))

pub at_rest : (x : Float) → lt (of_bits binary64 0) x ≡ false → lt x (of_bits binary64 0) ≡ false → (x ≡ floored x) × (x ≡ ceiled x)
unfolding of_bits
at_rest x h k = nought_steps x h k

-- ---- from 2 ^ 52 on every value is whole

short : (s : Bool) (m : ℕ) (e : ℤ) → T (fits binary64 (fin s m e)) → m < 2 ^ 53
unfolding fits
short s zero e F = pow_pos 53
short s (suc m) e F =
    let A = nat_eq (suc m % 2) 1 in
    let B = nat_lt (suc m) (2 ^ 53) in
    let C = nat_le (down e) (2 ^ 1074) in
    let D = nat_lt (suc m * up e) (2 ^ 1024 * down e) in
    ltb→lt (suc m) (2 ^ 53) (and_r A B (and_l (A && B) C (and_l (A && B && C) D F)))

pub large_whole : (s : Bool) (m : ℕ) (e : ℤ) → T (fits binary64 (fin s m e)) → 2 ^ 52 * down e ≤ m * up e → m * up e % down e ≡ 0
large_whole s m (pos k) F h = go (m * 2 ^ k)
  where
    go : (n : ℕ) → n % 1 ≡ 0
    go n = omega arith
large_whole s m (negsuc k) F h = absurd (go m (2 ^ suc k) (pow_mono (le k)) h (short s m (negsuc k) F))
  where
    le : (k : ℕ) → 1 ≤ suc k
    le k = omega arith

    go : (m p : ℕ) → 2 ^ 1 ≤ p → 2 ^ 52 * p ≤ m * 1 → m < 2 ^ 53 → ⊥
    go m p a b c = omega arith

abbrev limit : Float
limit = fin false 1 (pos 52)

large : (y : Float) → T (fits binary64 y) → lt nought y ≡ true → lt y limit ≡ false → (y ≡ floored y) × (y ≡ ceiled y)
unfolding lt floored ceiled
large nan F p h = (refl, refl)
large (inf s) F p h = (refl, refl)
large (fin true m e) F p h = absurd (false≢true p)
large (fin false m e) F p h =
    let z = large_whole false m e F (go (m * up e) (down e) (ltb-false (m * up e * 1) (1 * 2 ^ 52 * down e) h)) in
    (sym (whole_step 0 false m e z), sym (whole_step 1 false m e z))
  where
    go : (n d : ℕ) → 1 * 2 ^ 52 * d ≤ n * 1 → 2 ^ 52 * d ≤ n
    go n d h = omega arith

pub from_limit : (y : Float) → T (fits binary64 y) → lt nought y ≡ true → lt y (of_bits binary64 0x4330_0000_0000_0000) ≡ false → (y ≡ floored y) × (y ≡ ceiled y)
unfolding of_bits
from_limit y F p h = large y F p h

-- ---- above 0 and below 2 ^ 52

abbrev Under : Float → Type 0
Under y = (m : ℕ) × (e : ℤ) × (y ≡ fin false m e) × (m * up e < 2 ^ 52 * down e)

under : (y : Float) → lt nought y ≡ true → lt y limit ≡ true → Under y
unfolding lt
under nan p h = absurd (false≢true p)
under (inf true) p h = absurd (false≢true p)
under (inf false) p h = absurd (false≢true h)
under (fin true m e) p h = absurd (false≢true p)
under (fin false m e) p h = (m, e, refl, go (m * up e) (down e) (ltb-true (m * up e * 1) (1 * 2 ^ 52 * down e) h))
  where
    go : (n d : ℕ) → n * 1 < 1 * 2 ^ 52 * d → n < 2 ^ 52 * d
    go n d h = omega arith

pub cut_lt : (n d : ℕ) → 0 < d → n < 2 ^ 52 * d → n / d < 2 ^ 52
cut_lt n d D h = (div-lt_iff_lt-mul D).1 h

-- what has q's size equals n / d exactly where q * d is n
eq_whole : (v : Float) (q m : ℕ) (e : ℤ) → HasValue v false q 1 → eq v (fin false m e) ≡ (q * down e == m * up e)
eq_whole v q m e h =
    eq_values false false q 1 (m * up e) (down e) (omega arith) (down_pos e) v (fin false m e) h (refl, refl)
    ∙ ap (λ (n : ℕ). (q * down e == n) && true) (mul-one (m * up e))
    ∙ and_true (q * down e == m * up e)
  where
    and_true : (b : Bool) → b && true ≡ b
    and_true true = refl
    and_true false = refl

of_int_is : (n : ℕ) → of_int binary64 (pos n) ≡ round binary64 false n 1
unfolding of_int
of_int_is n = refl

-- y is above 0 and below 2 ^ 52, and q is its whole part
module _ (y : Float) (p : lt nought y ≡ true) (h : lt y (of_bits binary64 0x4330_0000_0000_0000) ≡ true) where
  u : Under y
  unfolding of_bits
  u = under y p h

  abbrev m : ℕ
  m = u.0

  abbrev e : ℤ
  e = u.1

  pub in_range : T (lt (fin true 1 (pos 0)) y) × T (lt y (fin false 1 (pos 64)))
  unfolding lt
  in_range =
      subst (λ (v : Float). T (lt (fin true 1 (pos 0)) v) × T (lt v (fin false 1 (pos 64)))) (sym u.2)
      (lt→ltb 0 (1 * 1 * down e + m * up e * 1) (lo (m * up e) (down e) (down_pos e)), lt→ltb (m * up e * 1) (1 * 2 ^ 64 * down e) (hi (m * up e) (down e) u.3))
    where
      lo : (n d : ℕ) → 0 < d → 0 < 1 * 1 * d + n * 1
      lo n d h = omega arith

      hi : (n d : ℕ) → n < 2 ^ 52 * d → n * 1 < 1 * 2 ^ 64 * d
      hi n d h = omega arith

  module _ (q : ℕ) (c : q ≡ to_unsigned 64 y) where
    q_is : q ≡ m * up e / down e
    unfolding to_unsigned
    q_is = c ∙ ap (to_unsigned 64) u.2 ∙ uncapped (m * up e / down e) (cut_lt (m * up e) (down e) (down_pos e) u.3)
      where
        uncapped : (a : ℕ) → a < 2 ^ 52 → min a (2 ^ 64 - 1) ≡ a
        uncapped a h = omega arith

    pub q_lt : q < 2 ^ 52
    q_lt = subst (λ (a : ℕ). a < 2 ^ 52) (sym q_is) (cut_lt (m * up e) (down e) (down_pos e) u.3)

    pub castable : T (in_float binary64 (pos q))
    unfolding in_float
    castable = let l = q_lt in le→leb q (2 ^ 53) (omega arith)

    pub castable_next : T (in_float binary64 (pos (q + 1)))
    unfolding in_float
    castable_next = let l = q_lt in le→leb (q + 1) (2 ^ 53) (omega arith)

    val : HasValue (of_int binary64 (pos q)) false q 1
    val = let l = q_lt in subst (λ (v : Float). HasValue v false q 1) (sym (of_int_is q)) (round_whole binary64 false q (omega arith))

    parts : q * down e + m * up e % down e ≡ m * up e
    parts = ap (λ (a : ℕ). a * down e + m * up e % down e) q_is ∙ div-add-mod' (m * up e) (down e)

    eq_y : eq (of_int binary64 (pos q)) y ≡ (q * down e == m * up e)
    eq_y = ap (λ (v : Float). eq (of_int binary64 (pos q)) v) u.2 ∙ eq_whole (of_int binary64 (pos q)) q m e val

    pub when_whole : eq (of_int binary64 (pos q)) y ≡ true → (y ≡ floored y) × (y ≡ ceiled y)
    unfolding floored ceiled
    when_whole t =
        let n = eqb-true (q * down e) (m * up e) (sym eq_y ∙ t) in
        let w = parts in
        let z : m * up e % down e ≡ 0 = omega arith in
        subst (λ (v : Float). (v ≡ floored v) × (v ≡ ceiled v)) (sym u.2) (sym (whole_step 0 false m e z), sym (whole_step 1 false m e z))

    not_whole : eq (of_int binary64 (pos q)) y ≡ false → m * up e % down e ≢ 0
    not_whole t z = let w = parts in eqb-false (q * down e) (m * up e) (sym eq_y ∙ t) (omega arith)

    pub floor_part : eq (of_int binary64 (pos q)) y ≡ false → of_int binary64 (pos q) ≡ floored y
    unfolding floored
    floor_part t =
        of_int_is q
        ∙ ap (λ (a : ℕ). round binary64 false a 1) (q_is ∙ sym (add-zero (m * up e / down e)))
        ∙ sym (part_step 0 false m e (not_whole t))
        ∙ ap floored (sym u.2)

    pub ceil_part : eq (of_int binary64 (pos q)) y ≡ false → of_int binary64 (pos (q + 1)) ≡ ceiled y
    unfolding ceiled
    ceil_part t =
        of_int_is (q + 1)
        ∙ ap (λ (a : ℕ). round binary64 false (a + 1) 1) q_is
        ∙ sym (part_step 1 false m e (not_whole t))
        ∙ ap ceiled (sym u.2)
