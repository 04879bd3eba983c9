-- Counting in lists: over joined, mapped and kept lists, and over the lists that cells yield, where a count is a sum of the cells' counts. By induction on
-- the list or on the number of cells. Assumes nothing.
use Rattle.std.specs.Prelude.{◌≡◌, ◌≢◌, ◌⊎◌, Bool, ◌&&◌, eqb, get_or}
use Rattle.std.proofs.Math.Path.{refl, ap, ap₂}
use Rattle.std.proofs.Common.{sym, ◌∙◌, inl, inr, ⊎_elim, eqb-true, eq-eqb, ne_eqb}
use Rattle.std.proofs.Math.Bool.{true, false, cond}
use Rattle.std.proofs.lemmas.Bool.{false≢true, eqb-false}
use mathlib.Core.List.{List, [], ◌∷◌, ◌++◌, map}
use Prim.Native.Nat.{ℕ, zero, suc, ◌+◌, ◌≤◌, ◌<◌}
use Rattle.std.proofs.Math.Numerals.{add-one}
use native.Mathlib.Omega.{arith}
use Rattle.std.proofs.Math.ListN.{length, length-append}
use Rattle.closed.specs.Lists.{bit, count, keep, every, All, sum, sum3, cells, cells3}
use Rattle.closed.proofs.Laws.Sums.{sum_cong}

-- ---- tests, and two numbers compared

pub bit_le : (t : Bool) → bit t ≤ 1
bit_le false = omega arith
bit_le true = omega arith

-- two numbers are equal and the test says so, or they differ and the test says that
pub same? : (x y : ℕ) → ((x ≡ y) × (eqb x y ≡ true)) ⊎ ((x ≢ y) × (eqb x y ≡ false))
same? x y = go (eqb x y) refl
  where
    go : (t : Bool) → eqb x y ≡ t → ((x ≡ y) × (eqb x y ≡ true)) ⊎ ((x ≢ y) × (eqb x y ≡ false))
    go true e = inl (eqb-true x y e, e)
    go false e = inr (eqb-false x y e, e)

-- a map that takes c and a to different numbers unless they are equal
pub eqb_map : (g : ℕ → ℕ) (c a : ℕ) → (g c ≡ g a → c ≡ a) → eqb (g c) (g a) ≡ eqb c a
eqb_map g c a h =
    ⊎_elim
    (λ e. ap (λ (z : ℕ). eqb (g z) (g a)) e.0 ∙ eq-eqb (g a) (g a) refl ∙ sym e.1)
    (λ n. ne_eqb (g c) (g a) (λ e. n.0 (h e)) ∙ sym n.1)
    (same? c a)

pub both_true : (s t : Bool) → (s && t) ≡ true → (s ≡ true) × (t ≡ true)
both_true true true e = (refl, refl)
both_true true false e = absurd (false≢true e)
both_true false true e = absurd (false≢true e)
both_true false false e = absurd (false≢true e)

-- ---- counting

module _ {A : Type 0} where
  pub count_nil : (p : A → Bool) → count p [] ≡ 0
  unfolding count
  count_nil p = refl

  pub count_append : (p : A → Bool) (l m : List A) → count p (l ++ m) ≡ count p l + count p m
  unfolding count
  count_append p [] m = omega arith
  count_append p (x ∷ l) m = omega (arith, count_append p l m)

  -- ---- what holds of each element

  pub all_of : (P : A → Type 0) → ((x : A) → P x) → (l : List A) → All P l
  all_of P h [] = tt
  all_of P h (x ∷ l) = (h x, all_of P h l)

  pub all_map : (P Q : A → Type 0) → ((x : A) → P x → Q x) → (l : List A) → All P l → All Q l
  all_map P Q h [] a = tt
  all_map P Q h (x ∷ l) a = (h x a.0, all_map P Q h l a.1)

  pub all_append : (P : A → Type 0) (l m : List A) → All P l → All P m → All P (l ++ m)
  all_append P [] m a b = b
  all_append P (x ∷ l) m a b = (a.0, all_append P l m a.1 b)

  pub all_four : (P : A → Type 0) (a b c d : A) (l : List A) → P a → P b → P c → P d → All P l → All P (a ∷ b ∷ c ∷ d ∷ l)
  all_four P a b c d l pa pb pc pd rest = (pa, (pb, (pc, (pd, rest))))

  pub all_at : (P : A → Type 0) (l : List A) → All P l → (d : A) (i : ℕ) → i < length l → P (get_or l i d)
  all_at P [] a d i h = absurd (omega arith)
  all_at P (x ∷ l) a d zero h = a.0
  all_at P (x ∷ l) a d (suc i) h = all_at P l a.1 d i (omega arith)

  -- tests that agree on each element count alike
  pub count_cong : (p q : A → Bool) (l : List A) → All (λ x. p x ≡ q x) l → count p l ≡ count q l
  unfolding count
  count_cong p q [] a = refl
  count_cong p q (x ∷ l) a = ap₂ (λ (m n : ℕ). m + n) (ap bit a.0) (count_cong p q l a.1)

-- a test of what f makes of an element
pub count_map : {A B : Type 0} (p : B → Bool) (f : A → B) (l : List A) → count p (map f l) ≡ count (λ x. p (f x)) l
unfolding count
count_map p f [] = refl
count_map p f (x ∷ l) = ap (λ (n : ℕ). bit (p (f x)) + n) (count_map p f l)

pub all_map_map : {A B : Type 0} (P : B → Type 0) (f : A → B) (l : List A) → All (λ x. P (f x)) l → All P (map f l)
all_map_map P f [] a = tt
all_map_map P f (x ∷ l) a = (a.0, all_map_map P f l a.1)

-- element i of a mapped list
pub at_map : {A B : Type 0} (g : A → B) (l : List A) (i : ℕ) (d : A) (d' : B) → i < length l → get_or (map g l) i d' ≡ g (get_or l i d)
at_map g [] i d d' h = absurd (omega arith)
at_map g (x ∷ l) zero d d' h = refl
at_map g (x ∷ l) (suc i) d d' h = at_map g l i d d' (omega arith)

-- ---- the elements that pass a test, in order

module _ {A : Type 0} where
  pub keep_append : (p : A → Bool) (l m : List A) → keep p (l ++ m) ≡ keep p l ++ keep p m
  unfolding keep
  keep_append p [] m = refl
  keep_append p (x ∷ l) m = step (p x) (keep_append p l m)
    where
      step : (t : Bool) → keep p (l ++ m) ≡ keep p l ++ keep p m → cond t (x ∷ keep p (l ++ m)) (keep p (l ++ m)) ≡ cond t (x ∷ keep p l) (keep p l) ++ keep p m
      step true e = ap (λ (r : List A). x ∷ r) e
      step false e = e

  pub length_keep : (p : A → Bool) (l : List A) → length (keep p l) ≡ count p l
  unfolding keep count
  length_keep p [] = refl
  length_keep p (x ∷ l) = step (p x) (length_keep p l)
    where
      step : (t : Bool) → length (keep p l) ≡ count p l → length (cond t (x ∷ keep p l) (keep p l)) ≡ bit t + count p l
      step true e = omega (arith, e)
      step false e = omega (arith, e)

  pub all_keep : (P : A → Type 0) (p : A → Bool) (l : List A) → All P l → All P (keep p l)
  unfolding keep
  all_keep P p [] a = tt
  all_keep P p (x ∷ l) a = step (p x) (all_keep P p l a.1)
    where
      step : (t : Bool) → All P (keep p l) → All P (cond t (x ∷ keep p l) (keep p l))
      step true h = (a.0, h)
      step false h = h

pub keep_map : {A B : Type 0} (p : B → Bool) (f : A → B) (l : List A) → keep p (map f l) ≡ map f (keep (λ x. p (f x)) l)
unfolding keep
keep_map p f [] = refl
keep_map {A} {B} p f (x ∷ l) = step (p (f x)) (keep_map p f l)
  where
    step : (t : Bool) → keep p (map f l) ≡ map f (keep (λ x. p (f x)) l)
        → cond t (f x ∷ keep p (map f l)) (keep p (map f l)) ≡ map f (cond t (x ∷ keep (λ x. p (f x)) l) (keep (λ x. p (f x)) l))
    step true e = ap (λ (r : List B). f x ∷ r) e
    step false e = e

-- what each element passes, all have
pub every_all : {A : Type 0} (p : A → Bool) (l : List A) → every p l ≡ true → All (λ x. p x ≡ true) l
every_all p [] h = tt
every_all p (x ∷ l) h = let t = both_true (p x) (every p l) h in (t.0, every_all p l t.1)

-- ---- the lists that n cells yield, joined in order; and three such joins, one inside the other, in the order i, j, k

module _ {A : Type 0} where
  pub cells_zero : (f : ℕ → List A) → cells 0 f ≡ []
  unfolding cells
  cells_zero f = refl

  -- the same at the code's n + 1: a turn of a loop
  pub cells_one_more : (n : ℕ) (f : ℕ → List A) → cells (n + 1) f ≡ cells n f ++ f n
  unfolding cells
  cells_one_more n f = rw add-one refl

  pub cells_cong : (n : ℕ) (f g : ℕ → List A) → ((i : ℕ) → i < n → f i ≡ g i) → cells n f ≡ cells n g
  unfolding cells
  cells_cong zero f g h = refl
  cells_cong (suc n) f g h = ap₂ (λ (l m : List A). l ++ m) (cells_cong n f g (λ i b. h i (omega arith))) (h n (omega arith))

  pub count_cells : (p : A → Bool) (n : ℕ) (f : ℕ → List A) → count p (cells n f) ≡ sum n (λ i. count p (f i))
  unfolding cells sum
  count_cells p zero f = count_nil p
  count_cells p (suc n) f = omega (arith, count_append p (cells n f) (f n), count_cells p n f)

  pub length_cells : (n : ℕ) (f : ℕ → List A) → length (cells n f) ≡ sum n (λ i. length (f i))
  unfolding cells sum
  length_cells zero f = refl
  length_cells (suc n) f = omega (arith, length-append (cells n f) (f n), length_cells n f)

  pub all_cells : (P : A → Type 0) (n : ℕ) (f : ℕ → List A) → ((i : ℕ) → i < n → All P (f i)) → All P (cells n f)
  unfolding cells
  all_cells P zero f h = tt
  all_cells P (suc n) f h = all_append P (cells n f) (f n) (all_cells P n f (λ i b. h i (omega arith))) (h n (omega arith))

  pub cells3_cong : (m n p : ℕ) (f g : ℕ → ℕ → ℕ → List A)
      → ((i j k : ℕ) → i < m → j < n → k < p → f i j k ≡ g i j k) → cells3 m n p f ≡ cells3 m n p g
  unfolding cells3
  cells3_cong m n p f g h = cells_cong m _ _ (λ i bi. cells_cong n _ _ (λ j bj. cells_cong p _ _ (λ k bk. h i j k bi bj bk)))

  -- the count over the joined list is the triple sum of the cells' counts
  pub count_cells3 : (t : A → Bool) (m n p : ℕ) (f : ℕ → ℕ → ℕ → List A) → count t (cells3 m n p f) ≡ sum3 m n p (λ i j k. count t (f i j k))
  unfolding cells3 sum3
  count_cells3 t m n p f =
      count_cells t m _ ∙ sum_cong m _ _ (λ i bi. count_cells t n _ ∙ sum_cong n _ _ (λ j bj. count_cells t p _))

  pub length_cells3 : (m n p : ℕ) (f : ℕ → ℕ → ℕ → List A) → length (cells3 m n p f) ≡ sum3 m n p (λ i j k. length (f i j k))
  unfolding cells3 sum3
  length_cells3 m n p f =
      length_cells m _ ∙ sum_cong m _ _ (λ i bi. length_cells n _ ∙ sum_cong n _ _ (λ j bj. length_cells p _))

  pub all_cells3 : (P : A → Type 0) (m n p : ℕ) (f : ℕ → ℕ → ℕ → List A)
      → ((i j k : ℕ) → i < m → j < n → k < p → All P (f i j k)) → All P (cells3 m n p f)
  unfolding cells3
  all_cells3 P m n p f h = all_cells P m _ (λ i bi. all_cells P n _ (λ j bj. all_cells P p _ (λ k bk. h i j k bi bj bk)))
