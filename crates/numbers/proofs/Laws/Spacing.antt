-- Which numbers a format holds, in units of its smallest value: a * 2 ^ j with an a of at most prec digits (`digits_of`). So between q * 2 ^ k and (q +
-- 1) * 2 ^ k lies none, where q has prec digits or k is 0 (`gap`): those two are neighbours. Assumes nothing.
use Rattle.std.specs.Prelude.{◌≡◌, ℕ, zero, suc, ◌+◌, ◌-◌, ◌*◌, ◌%◌, ◌^◌, ◌<◌, ◌≤◌, Bool, ◌&&◌, T, ◌⊎◌, ℤ, pos, negsuc, nat_eq, nat_le, nat_lt, refl, Float}
use Rattle.std.proofs.Common.{sym, ap, ◌∙◌, inl, inr, le_trans, le_of_eq, le_of_lt, lt_of_lt_of_le, lt_of_le_of_lt, eq-zero-or-pos, zero-mul, one-mul, mul-one, mul_comm, mul_assoc, mul_right_comm, mul-le-mul_right, mul-lt-mul_of_pos_right, lt_of_mul-lt-mul_right, arith, ltb→lt, leb→le, pow-add, pow_pos, shl_lt}
use Rattle.std.proofs.Math.Nat.{eq_of_mul-eq-mul_right}
use Rattle.std.specs.Float.{nan, inf, fin, Format}
use Rattle.std.specs.Float.Ieee.{prec, emax, low, up, down, fits}
use Rattle.std.specs.Float.Ieee.Fits.{down_pos, and_l, and_r}
use Rattle.std.specs.Float.Ieee.Exact.{HasValue}
use Rattle.numbers.proofs.Laws.Binary.{pow_lt_back, pow_le_back, shift_twice}
use Rattle.numbers.specs.Laws.Spacing.{Held, Digits}

-- ---- no value lies between two neighbours

pub gap : (p k q a j : ℕ) → 0 < p → (0 < k → 2 ^ (p - 1) ≤ q) → a < 2 ^ p → q * 2 ^ k < a * 2 ^ j → (q + 1) * 2 ^ k ≤ a * 2 ^ j
gap p k q a j P full A h = go (eq-zero-or-pos k)
  where
    -- a multiple of 2 ^ k
    multiple : (i : ℕ) → j ≡ i + k → (q + 1) * 2 ^ k ≤ a * 2 ^ j
    multiple i e =
        let s : a * 2 ^ j ≡ a * 2 ^ i * 2 ^ k = ap (λ (y : ℕ). a * 2 ^ y) e ∙ sym (shift_twice a i k) in
        let l : q < a * 2 ^ i = lt_of_mul-lt-mul_right (2 ^ k) (lt_of_lt_of_le h (le_of_eq s)) in
        le_trans (mul-le-mul_right (2 ^ k) (let z : q + 1 ≤ a * 2 ^ i = omega arith in z)) (le_of_eq (sym s))

    go : (k ≡ 0) ⊎ (0 < k) → (q + 1) * 2 ^ k ≤ a * 2 ^ j
    go (inl z) = multiple j (let w : j ≡ j + k = omega arith in w)
    go (inr K) =
        let l : 2 ^ (p - 1 + k) ≤ q * 2 ^ k = le_trans (le_of_eq (pow-add 2 (p - 1) k)) (mul-le-mul_right (2 ^ k) (full K)) in
        let m : p - 1 + k < p + j = pow_lt_back (p - 1 + k) (p + j) (lt_of_le_of_lt l (lt_of_lt_of_le h (le_of_lt (shl_lt p j A)))) in
        multiple (j - k) (let w : j ≡ j - k + k = omega arith in w)

-- ---- what `fits` says of a number that is not zero

pub held : (f : Format) (s : Bool) (m : ℕ) (e : ℤ) → T (fits f (fin s (suc m) e)) → Held f (suc m) e
unfolding fits
held f s m e h =
    let A = nat_eq (suc m % 2) 1 in
    let B = nat_lt (suc m) (2 ^ prec f) in
    let C = nat_le (down e) (2 ^ low f) in
    let D = nat_lt (suc m * up e) (2 ^ suc (emax f) * down e) in
    record {
      digits = ltb→lt (suc m) (2 ^ prec f) (and_r A B (and_l (A && B) C (and_l (A && B && C) D h)));
      low_end = leb→le (down e) (2 ^ low f) (and_r (A && B) C (and_l (A && B && C) D h));
      high_end = ltb→lt (suc m * up e) (2 ^ suc (emax f) * down e) (and_r (A && B && C) D h);
    }

-- ---- a value's size in units

-- 2 ^ e is 2 ^ j units
pub place : (l : ℕ) (e : ℤ) → down e ≤ 2 ^ l → (j : ℕ) × (up e * 2 ^ l ≡ 2 ^ j * down e)
place l (pos a) h = (a + l, sym (pow-add 2 a l) ∙ sym (mul-one (2 ^ (a + l))))
place l (negsuc a) h =
    let le : suc a ≤ l = pow_le_back (suc a) l h in
    (l - suc a, one-mul (2 ^ l) ∙ ap (λ (y : ℕ). 2 ^ y) (let z : l ≡ l - suc a + suc a = omega arith in z) ∙ pow-add 2 (l - suc a) (suc a))

-- m * 2 ^ e is m * 2 ^ j units
pub place_of : (f : Format) (m : ℕ) (e : ℤ) (j : ℕ) → up e * 2 ^ low f ≡ 2 ^ j * down e → m * up e * 2 ^ low f ≡ m * 2 ^ j * down e
place_of f m e j p = mul_assoc m (up e) (2 ^ low f) ∙ ap (λ (y : ℕ). m * y) p ∙ sym (mul_assoc m (2 ^ j) (down e))

-- a fraction has one value
pub value_once : (y : Float) (s t : Bool) (c n m : ℕ) → HasValue y s n c → HasValue y t m c → n ≡ m
value_once nan s t c n m u v = absurd u
value_once (inf b) s t c n m u v = absurd u
value_once (fin b k e) s t c n m u v = eq_of_mul-eq-mul_right (down e) (down_pos e) n m (sym u.1 ∙ v.1)

pub digits_of : (f : Format) (y : Float) (s : Bool) (Y : ℕ) → T (fits f y) → HasValue y s Y (2 ^ low f) → Digits f Y
digits_of f nan s Y h v = absurd v
digits_of f (inf t) s Y h v = absurd v
digits_of f (fin t zero e) s Y h v = record {
  a = 0;
  j = 0;
  few = pow_pos (prec f);
  is = value_once (fin t zero e) s t (2 ^ low f) Y (0 * 2 ^ 0) v (refl, ap (λ (y : ℕ). y * 2 ^ low f) (zero-mul (up e)) ∙ zero-mul (2 ^ low f) ∙ sym (zero-mul (down e)));
}
digits_of f (fin t (suc m) e) s Y h v =
    let H = held f t m e h in
    let p = place (low f) e H.low_end in
    record {
      a = suc m;
      j = p.0;
      few = H.digits;
      is = value_once (fin t (suc m) e) s t (2 ^ low f) Y (suc m * 2 ^ p.0) v (refl, place_of f (suc m) e p.0 p.1);
    }

-- a finite value of the format is a whole number of units, and below 2 ^ (emax + 1)
pub in_units : (f : Format) (s : Bool) (m : ℕ) (e : ℤ) → T (fits f (fin s m e)) → (Y : ℕ) × HasValue (fin s m e) s Y (2 ^ low f) × (Y < 2 ^ (low f + suc (emax f)))
in_units f s zero e h = (0, (refl, ap (λ (y : ℕ). y * 2 ^ low f) (zero-mul (up e)) ∙ zero-mul (2 ^ low f) ∙ sym (zero-mul (down e))), pow_pos (low f + suc (emax f)))
in_units f s (suc m) e h =
    let H = held f s m e h in
    let p = place (low f) e H.low_end in
    let is = place_of f (suc m) e p.0 p.1 in
    let top : 2 ^ suc (emax f) * down e * 2 ^ low f ≡ 2 ^ (low f + suc (emax f)) * down e =
    mul_right_comm (2 ^ suc (emax f)) (down e) (2 ^ low f) ∙ ap (λ (y : ℕ). y * down e) (mul_comm (2 ^ suc (emax f)) (2 ^ low f) ∙ sym (pow-add 2 (low f) (suc (emax f)))) in
    let under : suc m * 2 ^ p.0 < 2 ^ (low f + suc (emax f)) =
    lt_of_mul-lt-mul_right (down e) (lt_of_le_of_lt (le_of_eq (sym is)) (lt_of_lt_of_le (mul-lt-mul_of_pos_right H.high_end (pow_pos (low f))) (le_of_eq top))) in
    (suc m * 2 ^ p.0, (refl, is), under)
