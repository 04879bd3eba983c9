-- A fraction is rounded to the nearest whole number, a tie to the even one, by one addition and a division: n / d gives (n + (h - 1) + n / d % 2) / d
-- for d = 2 * h (`closest_add`). Half a unit less one is added, and one more where the quotient is odd. What that is for a power of two d, as code
-- computes it, follows. Assumes nothing.
use Rattle.std.specs.Prelude.{◌≡◌, ℕ, suc, ◌+◌, ◌-◌, ◌*◌, ◌/◌, ◌%◌, ◌^◌, ◌<◌, ◌≤◌, refl}
use Rattle.std.proofs.Common.{sym, ap, ◌∙◌, subst, inl, inr, add_comm, add-zero, zero-mul, one-mul, suc-mul, le_of_eq, le_of_lt, lt_of_lt_of_le, lt_of_le_of_lt, eq-zero-or-pos, div-add-mod', mod-lt, mod-eq_of_lt, arith, lit≤, pow_pos, pow_mono, shl_lt, shl_exact}
use Prim.Native.Nat.{zero-le, compare, Ordering}
use Rattle.std.proofs.Math.Nat.{div-eq_of_lt}
use Rattle.std.proofs.Math.Arith.{digits_div}
use Rattle.std.specs.Int.Count.{count_leading_zeros}
use Rattle.std.proofs.lemmas.Nat.{leading_length, leading_le}
use Rattle.std.specs.Float.Ieee.{nearest}
use Rattle.std.specs.Float.Ieee.Nearest.{closest, closest_same}
use Rattle.numbers.proofs.Laws.Binary.{pow_lt_back, double, shift_twice, cmp}
use Rattle.numbers.specs.Laws.Binary.{Cmp}

-- ---- the law

quotient : (n w p d : ℕ) → w * d ≡ p → p ≤ n → n < p + d → n / d ≡ w
quotient n w p d e lo hi = ap (λ (x : ℕ). x / d) (join n p lo ∙ ap (λ (x : ℕ). x + (n - p)) (sym e)) ∙ digits_div w (less n p d lo hi)
  where
    join : (n p : ℕ) → p ≤ n → n ≡ p + (n - p)
    join n p h = omega arith

    less : (n p d : ℕ) → p ≤ n → n < p + d → n - p < d
    less n p d h k = omega arith

pub closest_add : (n d h : ℕ) → 0 < h → d ≡ 2 * h → closest n d ≡ (n + (h - 1) + n / d % 2) / d
closest_add n d h H D =
    let w = n / d in
    let r = n % d in
    go w r (w * d) (compare (r * 2) d) (cmp (r * 2) d) refl (div-add-mod' n d) (mod-lt n (let z : 0 < d = omega arith in z))
  where
    go : (w r p : ℕ) (o : Ordering) → Cmp o (r * 2) d → w * d ≡ p → p + r ≡ n → r < d → nearest w o ≡ (n + (h - 1) + w % 2) / d
    go w r p Ordering.lt c e f g = sym (quotient (n + (h - 1) + w % 2) w p d e (omega arith) (omega arith))
    go w r p Ordering.gt c e f g = sym (quotient (n + (h - 1) + w % 2) (suc w) (p + d) d (suc-mul w d ∙ ap (λ (x : ℕ). x + d) e) (omega arith) (omega arith))
    go w r p Ordering.eq c e f g = elim (eq-zero-or-pos (w % 2)) [
      | inl z ↦ sym (quotient (n + (h - 1) + w % 2) (w + w % 2) p d (ap (λ (x : ℕ). (w + x) * d) z ∙ ap (λ (x : ℕ). x * d) (add-zero w) ∙ e) (omega arith) (omega arith))
      | inr z ↦
          let u : w + w % 2 ≡ suc w = omega arith in
          sym (quotient (n + (h - 1) + w % 2) (w + w % 2) (p + d) d (ap (λ (x : ℕ). x * d) u ∙ suc-mul w d ∙ ap (λ (x : ℕ). x + d) e) (omega arith) (omega arith))
    ]

-- ---- a whole number of even units more: k * 2 ^ 52 over 2 ^ 29

pub closest_past : (k a : ℕ) → closest (k * 2 ^ 52 + a) (2 ^ 29) ≡ k * 2 ^ 23 + closest a (2 ^ 29)
closest_past k a =
    closest_add (k * 2 ^ 52 + a) (2 ^ 29) (2 ^ 28) (pow_pos 28) refl
    ∙ over
    ∙ ap (λ (x : ℕ). k * 2 ^ 23 + x) (sym (closest_add a (2 ^ 29) (2 ^ 28) (pow_pos 28) refl))
  where
    past : (k a : ℕ) → (k * 2 ^ 52 + a) / 2 ^ 29 ≡ k * 2 ^ 23 + a / 2 ^ 29
    past k a = omega arith

    even : (k x : ℕ) → (k * 2 ^ 23 + x) % 2 ≡ x % 2
    even k x = omega arith

    regroup : (p a b c : ℕ) → p + a + b + c ≡ p + (a + b + c)
    regroup p a b c = omega arith

    over : (k * 2 ^ 52 + a + (2 ^ 28 - 1) + (k * 2 ^ 52 + a) / 2 ^ 29 % 2) / 2 ^ 29 ≡ k * 2 ^ 23 + (a + (2 ^ 28 - 1) + a / 2 ^ 29 % 2) / 2 ^ 29
    over =
        ap (λ (x : ℕ). (k * 2 ^ 52 + a + (2 ^ 28 - 1) + x) / 2 ^ 29) (ap (λ (x : ℕ). x % 2) (past k a) ∙ even k (a / 2 ^ 29))
        ∙ ap (λ (x : ℕ). x / 2 ^ 29) (regroup (k * 2 ^ 52) a (2 ^ 28 - 1) (a / 2 ^ 29 % 2))
        ∙ past k (a + (2 ^ 28 - 1) + a / 2 ^ 29 % 2)

-- ---- over 2 ^ i, with the half as 64 bits shift it

half_is : (i : ℕ) → 1 ≤ i → i ≤ 53 → 1 * 2 ^ (i - 1) % 2 ^ 64 ≡ 2 ^ (i - 1)
half_is i lo hi = shl_exact {a = 1} 1 (i - 1) 64 (lit≤ tt) (let z : 1 + (i - 1) ≤ 64 = omega arith in z) ∙ one-mul (2 ^ (i - 1))

pub half_in : (i : ℕ) → 1 ≤ i → i ≤ 53 → (1 ≤ 1 * 2 ^ (i - 1) % 2 ^ 64) × (1 * 2 ^ (i - 1) % 2 ^ 64 ≤ 2 ^ 52)
half_in i lo hi =
    subst (λ (x : ℕ). (1 ≤ x) × (x ≤ 2 ^ 52)) (sym (half_is i lo hi)) (pow_pos (i - 1), pow_mono {j = 52} (let z : i - 1 ≤ 52 = omega arith in z))

pub closest_shift : (n i : ℕ) → 1 ≤ i → i ≤ 53 → (n + (1 * 2 ^ (i - 1) % 2 ^ 64 - 1) + n / 2 ^ i % 2) / 2 ^ i ≡ closest n (2 ^ i)
closest_shift n i lo hi =
    ap (λ (x : ℕ). (n + (x - 1) + n / 2 ^ i % 2) / 2 ^ i) (half_is i lo hi) ∙ sym (closest_add n (2 ^ i) (2 ^ (i - 1)) (pow_pos (i - 1)) (double i lo))

-- ---- z zeros after both numbers change nothing; and a fraction below a half gives 0

-- digits that fit 53 places have 11 leading zeros at least, and still fit when they are moved up by the others
pub lifted : (d : ℕ) → d < 2 ^ 53 → (11 ≤ count_leading_zeros 64 d) × (count_leading_zeros 64 d ≤ 64) × (d * 2 ^ (count_leading_zeros 64 d - 11) < 2 ^ 53)
lifted d h =
    let z = count_leading_zeros 64 d in
    let l = leading_length 64 d (lt_of_lt_of_le h (lit≤ tt)) in
    let m = l.0 in
    let sum : z + m ≡ 64 = l.1 in
    let short : m < 54 = pow_lt_back m 54 (lt_of_le_of_lt l.3 (let w : 2 * d + 1 < 2 ^ 54 = omega arith in w)) in (
      omega arith,
      leading_le 64 d,
      lt_of_lt_of_le (shl_lt m (z - 11) l.2) (le_of_eq (ap (λ (x : ℕ). 2 ^ x) (let w : m + (z - 11) ≡ 53 = omega arith in w))),
    )

moved : (d i z : ℕ) → closest (d * 2 ^ z) (2 ^ (i + z)) ≡ closest d (2 ^ i)
moved d i z = closest_same (d * 2 ^ z) (2 ^ (i + z)) d (2 ^ i) (pow_pos (i + z)) (pow_pos i) (shift_twice d z i ∙ ap (λ (x : ℕ). d * 2 ^ x) (add_comm z i))

pub closest_moved : (d i z : ℕ) → d * 2 ^ z < 2 ^ 53 → closest (d * 2 ^ z % 2 ^ 64) (2 ^ (i + z)) ≡ closest d (2 ^ i)
closest_moved d i z h = ap (λ (x : ℕ). closest x (2 ^ (i + z))) (mod-eq_of_lt (lt_of_lt_of_le h (lit≤ tt))) ∙ moved d i z

nothing : (n i : ℕ) → n < 2 ^ 53 → 53 < i → closest n (2 ^ i) ≡ 0
nothing n i h I =
    let D : 2 ^ i ≡ 2 * 2 ^ (i - 1) = double i (let z : 0 < i = omega arith in z) in
    let H : 2 ^ 53 ≤ 2 ^ (i - 1) = pow_mono (let z : 53 ≤ i - 1 = omega arith in z) in
    let w : n / 2 ^ i ≡ 0 = div-eq_of_lt (lt_of_lt_of_le h (pow_mono (le_of_lt I))) in
    closest_add n (2 ^ i) (2 ^ (i - 1)) (pow_pos (i - 1)) D
    ∙ quotient (n + (2 ^ (i - 1) - 1) + n / 2 ^ i % 2) 0 0 (2 ^ i) (zero-mul (2 ^ i)) zero-le (below n (2 ^ (i - 1)) (2 ^ i) (n / 2 ^ i) w D h H)
  where
    below : (n h d w : ℕ) → w ≡ 0 → d ≡ 2 * h → n < 2 ^ 53 → 2 ^ 53 ≤ h → n + (h - 1) + w % 2 < 0 + d
    below n h d w a b c e = omega arith

pub closest_nothing : (d i z : ℕ) → d * 2 ^ z < 2 ^ 53 → 53 < i + z → 0 ≡ closest d (2 ^ i)
closest_nothing d i z h I = sym (nothing (d * 2 ^ z) (i + z) h I) ∙ moved d i z
