-- A list given by a function of the index: its length, its elements, and when two such lists are one. By recursion on the length; equalities of lists by
-- `ext_get_or`. d is what is read past a list's end: nan for floats, 0 for integers. Assumes nothing.
use Rattle.std.specs.Prelude.{◌≡◌, length, get_or, replicate}
use Rattle.std.proofs.Math.Path.{refl, ap}
use Rattle.std.proofs.Common.{sym, ◌∙◌, subst, not-suc-le-zero, le_of_suc-le-suc, add-one, ext_get_or}
use mathlib.Core.List.{List, [], ◌∷◌, ◌++◌}
use Prim.Native.Nat.{ℕ, zero, suc, ◌+◌, ◌<◌}
use Rattle.lists.specs.Lists.{tabulate}

module _ {A : Type 0} where
  pub length_tabulate : (n : ℕ) (f : ℕ → A) → length (tabulate n f) ≡ n
  unfolding tabulate
  length_tabulate zero f = refl
  length_tabulate (suc n) f = ap suc (length_tabulate n (λ k. f (suc k)))

  pub at_tabulate : (d : A) (n : ℕ) (f : ℕ → A) (k : ℕ) → k < n → get_or (tabulate n f) k d ≡ f k
  unfolding tabulate
  at_tabulate d zero f k h = absurd (not-suc-le-zero h)
  at_tabulate d (suc n) f zero h = refl
  at_tabulate d (suc n) f (suc k) h = at_tabulate d n (λ k. f (suc k)) k (le_of_suc-le-suc h)

  -- whichever way the length is said
  pub of_size : {m n : ℕ} (f : ℕ → A) {xs : List A} → xs ≡ tabulate m f → m ≡ n → xs ≡ tabulate n f
  of_size f e h = e ∙ ap (λ (k : ℕ). tabulate k f) h

  -- one element more, at the end
  pub tabulate_snoc : (n : ℕ) (f : ℕ → A) → tabulate (n + 1) f ≡ tabulate n f ++ (f n ∷ [])
  unfolding tabulate
  tabulate_snoc n f = ap (λ (m : ℕ). tabulate m f) (add-one n) ∙ go n f
    where
      go : (n : ℕ) (f : ℕ → A) → tabulate (suc n) f ≡ tabulate n f ++ (f n ∷ [])
      go zero f = refl
      go (suc n) f = ap (λ (l : List A). f zero ∷ l) (go n (λ k. f (suc k)))

  -- a list of n elements whose k-th is f k
  pub tabulate_by : (d : A) {n : ℕ} (f : ℕ → A) (z : List A) → length z ≡ n → ((k : ℕ) → k < n → get_or z k d ≡ f k) → z ≡ tabulate n f
  tabulate_by d {n} f z l all =
      ext_get_or d z (tabulate n f) (l ∙ sym (length_tabulate n f))
      (λ k h. let b = subst (λ (m : ℕ). k < m) l h in all k b ∙ sym (at_tabulate d n f k b))

  -- two functions that agree below n give one list
  pub tabulate_ext : (n : ℕ) (f g : ℕ → A) → ((k : ℕ) → k < n → f k ≡ g k) → tabulate n f ≡ tabulate n g
  tabulate_ext n f g e = tabulate_by (f 0) g (tabulate n f) (length_tabulate n f) (λ k h. at_tabulate (f 0) n f k h ∙ e k h)

  -- every list is given by its elements
  pub tabulate_self : (d : A) (y : List A) → y ≡ tabulate (length y) (λ k. get_or y k d)
  tabulate_self d y = tabulate_by d (λ k. get_or y k d) y refl (λ k h. refl)

  -- the same element everywhere
  pub tabulate_same : (n : ℕ) (v : A) → tabulate n (λ _. v) ≡ replicate n v
  unfolding tabulate
  tabulate_same zero v = refl
  tabulate_same (suc n) v = ap (λ (l : List A). v ∷ l) (tabulate_same n v)
