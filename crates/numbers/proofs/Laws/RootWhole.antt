-- `whole n` is the whole part of √n (`whole_is`), and `root_rounded` is known from any integer root of prec + 1 digits (`rounded_is`): the law that a
-- program's integer root is to meet. Assumes nothing.
use Rattle.std.specs.Prelude.{◌≡◌, ℕ, zero, suc, ◌+◌, ◌-◌, ◌*◌, ◌/◌, ◌%◌, ◌^◌, ◌<◌, ◌≤◌, Bool, true, false, cond, not, T, nat_le, refl}
use Rattle.std.proofs.Common.{sym, ap, ◌∙◌, subst, le_refl, le_trans, le_of_eq, le_of_suc-le-suc, lt_of_lt_of_le, lt_of_le_of_lt, mul_assoc, mul-pos, mul-le-mul_right, mul-lt-mul_of_pos_right, arith, leb→le, pow-add, pow_pos}
use Prim.Native.Nat.{zero-le, compare}
use Rattle.std.proofs.Math.Nat.{mul-mul-mul_comm, pow-succ', div-eq_of_lt-le}
use Rattle.std.proofs.Math.Dec.{nleb→lt}
use Rattle.std.specs.Float.{Format}
use Rattle.std.specs.Float.Ieee.{prec, size, nearest, units}
use Rattle.std.specs.Float.Ieee.Digits.{size-lt}
use Rattle.std.specs.Float.Ieee.Fits.{two, two-le_pos}
use Rattle.numbers.specs.Arithmetic.{root_in, whole, root_rounded}
use Rattle.numbers.proofs.Laws.Binary.{double, size_is, compare_lt, compare_gt}
use Rattle.numbers.proofs.Laws.Squares.{square_sum, twice_square, square_mono, square_lt_back}
use Rattle.numbers.specs.Laws.Squares.{IsRoot}
use Rattle.numbers.specs.Laws.RootWhole.{dropped, middle, kept}

-- ---- the whole part of a root

-- the root of n / 4 with one more digit
digit : (n s : ℕ) → IsRoot (n / 4) s → IsRoot n (let r = 2 * s in cond (nat_le ((r + 1) * (r + 1)) n) (r + 1) r)
digit n s h = go (nat_le ((2 * s + 1) * (2 * s + 1)) n) (leb→le ((2 * s + 1) * (2 * s + 1)) n) (nleb→lt ((2 * s + 1) * (2 * s + 1)) n)
  where
    low : 2 * s * (2 * s) ≤ n
    low = let a = h.0 in let b = twice_square s in omega arith

    high : n < (2 * s + 1 + 1) * (2 * s + 1 + 1)
    high =
        let a : n / 4 < (s + 1) * (s + 1) = h.1 in
        let b : 2 * (s + 1) * (2 * (s + 1)) ≡ 4 * ((s + 1) * (s + 1)) = twice_square (s + 1) in
        subst (λ (y : ℕ). n < y * y) (let e : 2 * (s + 1) ≡ 2 * s + 1 + 1 = omega arith in e) (omega arith)

    go : (b : Bool) → (T b → (2 * s + 1) * (2 * s + 1) ≤ n) → (T (not b) → n < (2 * s + 1) * (2 * s + 1)) → IsRoot n (cond b (2 * s + 1) (2 * s))
    go true p q = (p tt, high)
    go false p q = (low, q tt)

root_in_is : (d n : ℕ) → n < 4 ^ d → IsRoot n (root_in d n)
unfolding root_in
root_in_is zero n h = (zero-le, h)
root_in_is (suc d) n h = digit n (root_in d (n / 4)) (root_in_is d (n / 4) (let e : 4 ^ suc d ≡ 4 * 4 ^ d = pow-succ' 4 d in omega arith))

two_four : (d : ℕ) → 2 ^ d ≤ 4 ^ d
two_four zero = le_refl 1
two_four (suc d) = let h = two_four d in let a = pow-succ' 2 d in let b = pow-succ' 4 d in omega arith

pub whole_is : (n : ℕ) → IsRoot n (whole n)
unfolding whole
whole_is n = root_in_is (size n) n (lt_of_lt_of_le (size-lt n) (two_four (size n)))

-- any s whose square is at most n, and any whose square is above n
pub whole_ge : (n s : ℕ) → s * s ≤ n → s ≤ whole n
whole_ge n s h =
    le_of_suc-le-suc
    (subst (λ (y : ℕ). s < y) (let e : whole n + 1 ≡ suc (whole n) = omega arith in e) (square_lt_back s (whole n + 1) (lt_of_le_of_lt h (whole_is n).1)))

pub whole_lt : (n s : ℕ) → n < s * s → whole n < s
whole_lt n s h = square_lt_back (whole n) s (lt_of_le_of_lt (whole_is n).0 h)

-- ---- `root_rounded`, opened: how many digits it drops, the middle that decides, and what it keeps where it drops k

pub root_rounded_is : (f : Format) (n : ℕ) → root_rounded f n ≡ units f false (kept n (dropped f n)) (dropped f n)
unfolding root_rounded
root_rounded_is f n = refl

-- ---- The root of n from the root r of a number big of 2 * prec + 1 or 2 * prec + 2 digits, which is 4 * n without 2 * k zeros at its end, and is even.
-- The last digit of r is the one that rounds: big is even, so where r is odd it is no square, and √n is past the middle.
module _ (n big k r : ℕ) (is : IsRoot big r) (scale : 4 * n ≡ big * (2 ^ k * 2 ^ k)) where
  square_of : (a : ℕ) → a * 2 ^ k * (a * 2 ^ k) ≡ a * a * (2 ^ k * 2 ^ k)
  square_of a = mul-mul-mul_comm a (2 ^ k) a (2 ^ k)

  twice_square_of : (q : ℕ) → 2 * q * (2 * q) * (2 ^ k * 2 ^ k) ≡ 4 * (q * 2 ^ k * (q * 2 ^ k))
  twice_square_of q =
      ap (λ (y : ℕ). y * (2 ^ k * 2 ^ k)) (twice_square q) ∙ mul_assoc 4 (q * q) (2 ^ k * 2 ^ k) ∙ ap (λ (y : ℕ). 4 * y) (sym (square_of q))

  unit_pos : 0 < 2 ^ k * 2 ^ k
  unit_pos = mul-pos (pow_pos k) (pow_pos k)

  quotient_ge : r / 2 * 2 ^ k ≤ whole n
  quotient_ge =
      let q = r / 2 in
      let part : 2 * q ≤ r = omega arith in
      let b : 2 * q * (2 * q) * (2 ^ k * 2 ^ k) ≤ big * (2 ^ k * 2 ^ k) = mul-le-mul_right (2 ^ k * 2 ^ k) (le_trans (square_mono part) is.0) in
      let c = twice_square_of q in
      let d = scale in
      whole_ge n (q * 2 ^ k) (omega arith)

  quotient_lt : whole n < (r / 2 + 1) * 2 ^ k
  quotient_lt =
      let q = r / 2 + 1 in
      let part : r + 1 ≤ 2 * q = omega arith in
      let b : big * (2 ^ k * 2 ^ k) < 2 * q * (2 * q) * (2 ^ k * 2 ^ k) = mul-lt-mul_of_pos_right (lt_of_lt_of_le is.1 (square_mono part)) unit_pos in
      let c = twice_square_of q in
      let d = scale in
      whole_lt n (q * 2 ^ k) (omega arith)

  quotient : whole n / 2 ^ k ≡ r / 2
  quotient = div-eq_of_lt-le (2 ^ k) quotient_ge quotient_lt

  -- √n and the middle, compared as big and (2 * q + 1) ^ 2 are
  even_digit : r % 2 ≡ 0 → 4 * n < middle (r / 2) k * middle (r / 2) k
  even_digit e =
      let q = r / 2 in
      let s : r + 1 ≡ 2 * q + 1 = omega arith in
      let l : big < (2 * q + 1) * (2 * q + 1) = subst (λ (y : ℕ). big < y * y) s is.1 in
      let a : big * (2 ^ k * 2 ^ k) < (2 * q + 1) * (2 * q + 1) * (2 ^ k * 2 ^ k) = mul-lt-mul_of_pos_right l unit_pos in
      let b = square_of (2 * q + 1) in
      let d = scale in
      omega arith

  odd_digit : r % 2 ≡ 1 → big % 2 ≡ 0 → middle (r / 2) k * middle (r / 2) k < 4 * n
  odd_digit o even =
      let q = r / 2 in
      let s : r ≡ 2 * q + 1 = omega arith in
      let l : (2 * q + 1) * (2 * q + 1) ≤ big = subst (λ (y : ℕ). y * y ≤ big) s is.0 in
      let t = square_sum (2 * q) 1 in
      let u = twice_square q in
      let m : (2 * q + 1) * (2 * q + 1) < big = omega arith in
      let a : (2 * q + 1) * (2 * q + 1) * (2 ^ k * 2 ^ k) < big * (2 ^ k * 2 ^ k) = mul-lt-mul_of_pos_right m unit_pos in
      let b = square_of (2 * q + 1) in
      let d = scale in
      omega arith

  kept_is : big % 2 ≡ 0 → kept n k ≡ (r + 1) / 2
  kept_is even = ap (λ (q : ℕ). nearest q (compare (4 * n) (middle q k * middle q k))) quotient ∙ go (r % 2) refl
    where
      go : (d : ℕ) → r % 2 ≡ d → nearest (r / 2) (compare (4 * n) (middle (r / 2) k * middle (r / 2) k)) ≡ (r + 1) / 2
      go zero e =
          ap (nearest (r / 2)) (compare_lt (4 * n) (middle (r / 2) k * middle (r / 2) k) (even_digit e)) ∙ (let z : r / 2 ≡ (r + 1) / 2 = omega arith in z)
      go (suc d) e =
          let o : r % 2 ≡ 1 = omega arith in
          ap (nearest (r / 2)) (compare_gt (4 * n) (middle (r / 2) k * middle (r / 2) k) (odd_digit o even)) ∙ (let z : suc (r / 2) ≡ (r + 1) / 2 = omega arith in z)

  -- r has prec + 1 digits
  dropped_is : (f : Format) → 2 ^ prec f ≤ r → r < 2 ^ suc (prec f) → dropped f n ≡ k
  dropped_is f lo hi =
      let p = prec f in
      let P : 0 < p = two-le_pos p (two f) in
      let a : 2 ^ p ≡ 2 * 2 ^ (p - 1) = double p P in
      let b : 2 ^ suc p ≡ 2 * 2 ^ p = pow-succ' 2 p in
      let g : 2 ^ (p - 1) ≤ r / 2 = omega arith in
      let h : r / 2 + 1 ≤ 2 ^ p = omega arith in
      let x : 2 ^ (p - 1 + k) ≤ whole n = le_trans (le_of_eq (pow-add 2 (p - 1) k)) (le_trans (mul-le-mul_right (2 ^ k) g) quotient_ge) in
      let s : p + k ≡ suc (p - 1 + k) = omega arith in
      let y : whole n < 2 ^ (p + k) = lt_of_lt_of_le quotient_lt (le_trans (mul-le-mul_right (2 ^ k) h) (le_of_eq (sym (pow-add 2 p k)))) in
      ap (λ (z : ℕ). z - p) (size_is (p - 1 + k) (whole n) x (subst (λ (z : ℕ). whole n < 2 ^ z) s y)) ∙ (let z : suc (p - 1 + k) - p ≡ k = omega arith in z)

  pub rounded_is : (f : Format) → 2 ^ prec f ≤ r → r < 2 ^ suc (prec f) → big % 2 ≡ 0 → root_rounded f n ≡ units f false ((r + 1) / 2) k
  rounded_is f lo hi even =
      root_rounded_is f n ∙ ap (λ (j : ℕ). units f false (kept n j) j) (dropped_is f lo hi) ∙ ap (λ (q : ℕ). units f false q k) (kept_is even)
