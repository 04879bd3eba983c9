-- Finite sums over ℕ: equal terms, sums of sums, a cut, an exchange, and the shift by one place along each of three axes, on which the closed mesh rests.
-- Each by induction on the number of terms. Assumes nothing.
use Rattle.std.specs.Prelude.{◌≡◌, refl, ℕ, zero, suc, ◌+◌, ◌-◌, ◌*◌, ◌≤◌, ◌<◌}
use Rattle.std.proofs.Common.{sym, ap, ◌∙◌, add-one, add-zero, add-suc, suc-mul, zero-mul, arith}
use Rattle.closed.specs.Lists.{sum, sum3}

-- ---- the two clauses, as equations

pub sum_zero : (f : ℕ → ℕ) → sum 0 f ≡ 0
unfolding sum
sum_zero f = refl

-- the same at the code's n + 1: a turn of a loop
pub sum_one_more : (n : ℕ) (f : ℕ → ℕ) → sum (n + 1) f ≡ sum n f + f n
unfolding sum
sum_one_more n f = rw add-one refl

-- ---- congruence, zero, addition, order

pub sum_cong : (n : ℕ) (f g : ℕ → ℕ) → ((i : ℕ) → i < n → f i ≡ g i) → sum n f ≡ sum n g
unfolding sum
sum_cong zero f g h = refl
sum_cong (suc n) f g h = omega (arith, sum_cong n f g (λ i b. h i (omega arith)), h n (omega arith))

pub sum_nothing : (n : ℕ) (f : ℕ → ℕ) → ((i : ℕ) → i < n → f i ≡ 0) → sum n f ≡ 0
unfolding sum
sum_nothing zero f h = refl
sum_nothing (suc n) f h = omega (arith, sum_nothing n f (λ i b. h i (omega arith)), h n (omega arith))

pub sum_add : (n : ℕ) (f g : ℕ → ℕ) → sum n (λ i. f i + g i) ≡ sum n f + sum n g
unfolding sum
sum_add zero f g = refl
sum_add (suc n) f g = omega (arith, sum_add n f g)

pub sum_const : (n c : ℕ) → sum n (λ i. c) ≡ n * c
unfolding sum
sum_const zero c = omega arith
sum_const (suc n) c = omega (arith, sum_const n c)

pub sum_le : (n : ℕ) (f g : ℕ → ℕ) → ((i : ℕ) → i < n → f i ≤ g i) → sum n f ≤ sum n g
unfolding sum
sum_le zero f g h = omega arith
sum_le (suc n) f g h = omega (arith, sum_le n f g (λ i b. h i (omega arith)), h n (omega arith))

-- ---- the first term, and a cut

pub sum_first : (n : ℕ) (f : ℕ → ℕ) → sum (suc n) f ≡ f 0 + sum n (λ i. f (suc i))
unfolding sum
sum_first zero f = omega arith
sum_first (suc n) f = omega (arith, sum_first n f)

pub sum_split : (m n : ℕ) (f : ℕ → ℕ) → sum (m + n) f ≡ sum m f + sum n (λ i. f (m + i))
unfolding sum
sum_split m zero f = rw (add-zero m) (omega arith)
sum_split m (suc n) f = rw (add-suc m n) (omega (arith, sum_split m n f))

less_one : (n : ℕ) → n ≡ suc n - 1
less_one n = omega arith

-- a last term of 0 may be left out
pub sum_less : (n : ℕ) (f : ℕ → ℕ) → (0 < n → f (n - 1) ≡ 0) → sum n f ≡ sum (n - 1) f
unfolding sum
sum_less zero f h = refl
sum_less (suc n) f h =
    let l : f n ≡ 0 = ap f (less_one n) ∙ h (omega arith) in
    let e : sum n f ≡ sum (suc n - 1) f = ap (λ (m : ℕ). sum m f) (less_one n) in
    omega (arith, l, e)

-- m rows of n, one after the other
pub sum_rows : (m n : ℕ) (f : ℕ → ℕ) → sum (m * n) f ≡ sum m (λ i. sum n (λ j. f (i * n + j)))
unfolding sum
sum_rows zero n f = ap (λ (l : ℕ). sum l f) (zero-mul n)
sum_rows (suc m) n f = ap (λ (l : ℕ). sum l f) (suc-mul m n) ∙ sum_split (m * n) n f ∙ ap (λ (s : ℕ). s + sum n (λ j. f (m * n + j))) (sum_rows m n f)

-- ---- two sums change places

pub sum_swap : (m n : ℕ) (f : ℕ → ℕ → ℕ) → sum m (λ i. sum n (λ j. f i j)) ≡ sum n (λ j. sum m (λ i. f i j))
unfolding sum
sum_swap zero n f = sym (sum_nothing n (λ j. 0) (λ i b. refl))
sum_swap (suc m) n f = omega (arith, sum_swap m n f, sum_add n (λ j. sum m (λ i. f i j)) (λ j. f m j))

-- ---- a shift: what f yields at i is what g yields at i + 1, g yields nothing at the first place, and f nothing at the last.
-- (With n = 0 there is no place, and 0 - 1 is 0.)

pub sum_shift : (n : ℕ) (f g : ℕ → ℕ)
    → ((i : ℕ) → i + 1 < n → f i ≡ g (i + 1)) → (0 < n → g 0 ≡ 0) → (0 < n → f (n - 1) ≡ 0) → sum n f ≡ sum n g
unfolding sum
sum_shift zero f g step first last = refl
sum_shift (suc n) f g step first last =
    let e : sum n f ≡ sum n (λ i. g (suc i)) = sum_cong n f (λ i. g (suc i)) (λ i b. step i (omega arith) ∙ ap g (add-one i)) in
    let l : f n ≡ 0 = ap f (less_one n) ∙ last (omega arith) in
    omega (arith, e, l, first (omega arith), sum_first n g)

-- ---- three sums, in the order i, j, k

module _ (m n p : ℕ) where
  pub sum3_cong : (f g : ℕ → ℕ → ℕ → ℕ) → ((i j k : ℕ) → i < m → j < n → k < p → f i j k ≡ g i j k) → sum3 m n p f ≡ sum3 m n p g
  unfolding sum3
  sum3_cong f g h = sum_cong m _ _ (λ i bi. sum_cong n _ _ (λ j bj. sum_cong p _ _ (λ k bk. h i j k bi bj bk)))

  pub sum3_add : (f g : ℕ → ℕ → ℕ → ℕ) → sum3 m n p (λ i j k. f i j k + g i j k) ≡ sum3 m n p f + sum3 m n p g
  unfolding sum3
  sum3_add f g =
      sum_cong m _ _ (λ i bi. sum_cong n _ _ (λ j bj. sum_add p (f i j) (g i j)) ∙ sum_add n _ _)
      ∙ sum_add m _ _

  pub sum3_le : (f g : ℕ → ℕ → ℕ → ℕ) → ((i j k : ℕ) → i < m → j < n → k < p → f i j k ≤ g i j k) → sum3 m n p f ≤ sum3 m n p g
  unfolding sum3
  sum3_le f g h = sum_le m _ _ (λ i bi. sum_le n _ _ (λ j bj. sum_le p _ _ (λ k bk. h i j k bi bj bk)))

  pub sum3_const : (c : ℕ) → sum3 m n p (λ i j k. c) ≡ m * (n * (p * c))
  unfolding sum3
  sum3_const c = sum_cong m _ _ (λ i bi. sum_cong n _ _ (λ j bj. sum_const p c) ∙ sum_const n (p * c)) ∙ sum_const m (n * (p * c))

  -- the axis whose sum is the outermost may be any of the three
  pub sum3_first_last : (f : ℕ → ℕ → ℕ → ℕ) → sum3 m n p f ≡ sum n (λ j. sum p (λ k. sum m (λ i. f i j k)))
  unfolding sum3
  sum3_first_last f = sum_swap m n _ ∙ sum_cong n _ _ (λ j bj. sum_swap m p _)

  pub sum3_second_last : (f : ℕ → ℕ → ℕ → ℕ) → sum3 m n p f ≡ sum m (λ i. sum p (λ k. sum n (λ j. f i j k)))
  unfolding sum3
  sum3_second_last f = sum_cong m _ _ (λ i bi. sum_swap n p _)

  -- ---- the shift along each axis

  pub sum3_shift_first : (f g : ℕ → ℕ → ℕ → ℕ)
      → ((i j k : ℕ) → i + 1 < m → j < n → k < p → f i j k ≡ g (i + 1) j k)
      → ((j k : ℕ) → 0 < m → j < n → k < p → g 0 j k ≡ 0)
      → ((j k : ℕ) → 0 < m → j < n → k < p → f (m - 1) j k ≡ 0)
      → sum3 m n p f ≡ sum3 m n p g
  sum3_shift_first f g step first last =
      sum3_first_last f
      ∙ sum_cong n _ _ (λ j bj. sum_cong p _ _ (λ k bk.
      sum_shift m (λ i. f i j k) (λ i. g i j k) (λ i bi. step i j k bi bj bk) (λ o. first j k o bj bk) (λ o. last j k o bj bk)))
      ∙ sym (sum3_first_last g)

  pub sum3_shift_second : (f g : ℕ → ℕ → ℕ → ℕ)
      → ((i j k : ℕ) → i < m → j + 1 < n → k < p → f i j k ≡ g i (j + 1) k)
      → ((i k : ℕ) → i < m → 0 < n → k < p → g i 0 k ≡ 0)
      → ((i k : ℕ) → i < m → 0 < n → k < p → f i (n - 1) k ≡ 0)
      → sum3 m n p f ≡ sum3 m n p g
  sum3_shift_second f g step first last =
      sum3_second_last f
      ∙ sum_cong m _ _ (λ i bi. sum_cong p _ _ (λ k bk.
      sum_shift n (λ j. f i j k) (λ j. g i j k) (λ j bj. step i j k bi bj bk) (λ o. first i k bi o bk) (λ o. last i k bi o bk)))
      ∙ sym (sum3_second_last g)

  pub sum3_shift_third : (f g : ℕ → ℕ → ℕ → ℕ)
      → ((i j k : ℕ) → i < m → j < n → k + 1 < p → f i j k ≡ g i j (k + 1))
      → ((i j : ℕ) → i < m → j < n → 0 < p → g i j 0 ≡ 0)
      → ((i j : ℕ) → i < m → j < n → 0 < p → f i j (p - 1) ≡ 0)
      → sum3 m n p f ≡ sum3 m n p g
  unfolding sum3
  sum3_shift_third f g step first last =
      sum_cong m _ _ (λ i bi. sum_cong n _ _ (λ j bj.
      sum_shift p (λ k. f i j k) (λ k. g i j k) (λ k bk. step i j k bi bj bk) (λ o. first i j bi bj o) (λ o. last i j bi bj o)))

  -- ---- a last term of 0 along an axis may be left out

  pub sum3_less_first : (f : ℕ → ℕ → ℕ → ℕ) → ((j k : ℕ) → 0 < m → j < n → k < p → f (m - 1) j k ≡ 0) → sum3 m n p f ≡ sum3 (m - 1) n p f
  unfolding sum3
  sum3_less_first f last = sum_less m _ (λ o. sum_nothing n _ (λ j bj. sum_nothing p _ (λ k bk. last j k o bj bk)))

  pub sum3_less_second : (f : ℕ → ℕ → ℕ → ℕ) → ((i k : ℕ) → i < m → 0 < n → k < p → f i (n - 1) k ≡ 0) → sum3 m n p f ≡ sum3 m (n - 1) p f
  unfolding sum3
  sum3_less_second f last = sum_cong m _ _ (λ i bi. sum_less n _ (λ o. sum_nothing p _ (λ k bk. last i k bi o bk)))

  pub sum3_less_third : (f : ℕ → ℕ → ℕ → ℕ) → ((i j : ℕ) → i < m → j < n → 0 < p → f i j (p - 1) ≡ 0) → sum3 m n p f ≡ sum3 m n (p - 1) f
  unfolding sum3
  sum3_less_third f last = sum_cong m _ _ (λ i bi. sum_cong n _ _ (λ j bj. sum_less p _ (λ o. last i j bi bj o)))
