-- Whole numbers in binary: powers of two in order, how many digits a number has, and what `compare` says.
-- `lib.Ieee` proves some of it for itself and keeps it. Assumes nothing.
use Rattle.std.specs.Prelude.{◌≡◌, ℕ, suc, ◌+◌, ◌-◌, ◌*◌, ◌^◌, ◌<◌, ◌≤◌, not, T, ◌==◌, refl}
use Rattle.std.proofs.Common.{sym, ap, ◌∙◌, subst, le_antisymm, le_of_suc-le-suc, lt_irrefl, lt_of_lt_of_le, lt_of_not-le, not-le_of_lt, mul_assoc, arith, leb→le, eqb→eq, pow-add, pow_mono}
use Prim.Native.Nat.{compare, Ordering}
use Rattle.std.proofs.Math.Nat.{pow-succ'}
use Rattle.std.proofs.Math.Dec.{nleb→lt, eqb_refl, is_le, compare_is_eq}
use Rattle.std.proofs.Math.Arith.{lt_of_le-ne}
use Rattle.std.proofs.Math.Pow.{pow-lt}
use Rattle.std.specs.Float.Ieee.{size}
use Rattle.std.specs.Float.Ieee.Digits.{size-lt, size-le}
use Rattle.numbers.specs.Laws.Binary.{Cmp}

-- ---- powers of two

pub pow_lt_back : (i p : ℕ) → 2 ^ i < 2 ^ p → i < p
pow_lt_back i p h = lt_of_not-le (λ (g : p ≤ i). not-le_of_lt h (pow_mono g))

pub pow_le_back : (a l : ℕ) → 2 ^ a ≤ 2 ^ l → a ≤ l
pow_le_back a l h = le_of_suc-le-suc (lt_of_not-le (λ (g : suc l ≤ a). lt_irrefl (2 ^ l) (lt_of_lt_of_le (pow-lt g) h)))

pub double : (p : ℕ) → 0 < p → 2 ^ p ≡ 2 * 2 ^ (p - 1)
double p P = ap (λ (y : ℕ). 2 ^ y) (let e : p ≡ suc (p - 1) = omega arith in e) ∙ pow-succ' 2 (p - 1)

pub shift_twice : (a i j : ℕ) → a * 2 ^ i * 2 ^ j ≡ a * 2 ^ (i + j)
shift_twice a i j = mul_assoc a (2 ^ i) (2 ^ j) ∙ ap (λ (x : ℕ). a * x) (sym (pow-add 2 i j))

-- two powers of two multiplied, by their exponents' sums
pub pow_sums : (a b c d : ℕ) → a + b ≡ c + d → 2 ^ a * 2 ^ b ≡ 2 ^ c * 2 ^ d
pow_sums a b c d e = sym (pow-add 2 a b) ∙ ap (λ (x : ℕ). 2 ^ x) e ∙ pow-add 2 c d

-- ---- how many digits a number has

pub size_gt : (n j : ℕ) → 2 ^ j ≤ n → j < size n
size_gt n j h = lt_of_not-le (λ (g : size n ≤ j). not-le_of_lt (lt_of_lt_of_le (size-lt n) (pow_mono g)) h)

pub size_is : (a n : ℕ) → 2 ^ a ≤ n → n < 2 ^ suc a → size n ≡ suc a
size_is a n lo hi = le_antisymm (size-le n (suc a) hi) (size_gt n a lo)

-- ---- what `compare` says

pub cmp : (a b : ℕ) → Cmp (compare a b) a b
cmp a b = go (compare a b) (leb→le a b) (nleb→lt a b) (eqb→eq a b) (λ (e : a ≡ b). subst (λ (x : ℕ). T (a == x)) e (eqb_refl a))
  where
    go : (o : Ordering) → (T (is_le o) → a ≤ b) → (T (not (is_le o)) → b < a) → (T (compare_is_eq o) → a ≡ b) → (a ≡ b → T (compare_is_eq o)) → Cmp o a b
    go Ordering.lt h k e n = lt_of_le-ne (h tt) n
    go Ordering.eq h k e n = e tt
    go Ordering.gt h k e n = k tt

pub compare_lt : (a b : ℕ) → a < b → compare a b ≡ Ordering.lt
compare_lt a b h = go (compare a b) (cmp a b)
  where
    go : (o : Ordering) → Cmp o a b → o ≡ Ordering.lt
    go Ordering.lt c = refl
    go Ordering.eq c = absurd (let z : ⊥ = omega arith in z)
    go Ordering.gt c = absurd (let z : ⊥ = omega arith in z)

pub compare_gt : (a b : ℕ) → b < a → compare a b ≡ Ordering.gt
compare_gt a b h = go (compare a b) (cmp a b)
  where
    go : (o : Ordering) → Cmp o a b → o ≡ Ordering.gt
    go Ordering.lt c = absurd (let z : ⊥ = omega arith in z)
    go Ordering.eq c = absurd (let z : ⊥ = omega arith in z)
    go Ordering.gt c = refl
