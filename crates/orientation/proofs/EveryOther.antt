-- A loop over the elements 0, s, 2s.. of a list: what is left from here gives what all gives from the start (`Asking`). Between two of them no number is
-- a multiple of s, for q·s + r with r below s leaves r. d is what is read past a list's end. Assumes nothing.
use mathlib.Core.Path.{◌≡◌, refl, sym, ap, ◌∙◌}
use mathlib.Core.Bool.{Bool, cond}
use mathlib.Core.List.{List, [], ◌∷◌, foldl}
use Prim.Native.Nat.{ℕ, zero, suc, ◌+◌, ◌-◌, ◌*◌, ◌/◌, ◌%◌, ◌<◌, ◌≤◌}
use native.Mathlib.Nat.{add-mul, one-mul, div-add-mod'}
use native.Mathlib.Omega.{arith}
use borrow.Author.Tests.{eq-eqb, ne_eqb}
use lib.Arith.{digits_mod}
use lib.ListN.{length, get_or, drop, drop_of_length-le}
use lib.Seq.{drop-cons, drop-drop}
use Rattle.lists.specs.EveryNth.{every_from}

-- ---- from one multiple of s to the next

multiple : (q s : ℕ) → 0 < s → (q * s) % s ≡ 0
multiple q s h = let e : q * s ≡ q * s + 0 = omega arith in ap (λ (n : ℕ). n % s) e ∙ digits_mod q h

module _ {A : Type 0} where
  take_one : (s i : ℕ) (x : A) (l : List A) → i % s ≡ 0 → every_from s i (x ∷ l) ≡ x ∷ every_from s (suc i) l
  take_one s i x l h = ap (λ (b : Bool). cond b (x ∷ every_from s (suc i) l) (every_from s (suc i) l)) (eq-eqb (i % s) 0 h)

  skip_one : (s i : ℕ) (x : A) (l : List A) → 0 < i % s → every_from s i (x ∷ l) ≡ every_from s (suc i) l
  skip_one s i x l h = ap (λ (b : Bool). cond b (x ∷ every_from s (suc i) l) (every_from s (suc i) l)) (ne_eqb (i % s) 0 (λ e. omega arith))

  -- the last k numbers before the next multiple
  skip : (s q k : ℕ) (l : List A) → k < s → every_from s (q * s + (s - k)) l ≡ every_from s (q * s + s) (drop k l)
  skip s q zero l h = let e : s - 0 ≡ s = omega arith in ap (λ (n : ℕ). every_from s (q * s + n) l) e
  skip s q (suc k) [] h = refl
  skip s q (suc k) (x ∷ l) h =
      let r : s - suc k < s = omega arith in
      let e : suc (q * s + (s - suc k)) ≡ q * s + (s - k) = omega arith in
      skip_one s (q * s + (s - suc k)) x l (omega (arith, digits_mod q r)) ∙ ap (λ (i : ℕ). every_from s i l) e ∙ skip s q k l (omega arith)

  -- all numbers after a multiple
  next_multiple : (s i : ℕ) (l : List A) → 0 < s → i % s ≡ 0 → every_from s (suc i) l ≡ every_from s (i + s) (drop (s - 1) l)
  next_multiple s i l p h =
      let q : i ≡ i / s * s = omega (arith, div-add-mod' i s) in
      let one : suc i ≡ i / s * s + (s - (s - 1)) = omega arith in
      ap (λ (n : ℕ). every_from s n l) one ∙ skip s (i / s) (s - 1) l (omega arith) ∙ ap (λ (n : ℕ). every_from s (n + s) (drop (s - 1) l)) (sym q)

-- ---- the loop: sum is what f gave so far, from z, and the element that comes next is number t

module _ {A B : Type 0} where
  pub record Asking (f : B → A → B) (z : B) (l : List A) (s : ℕ) (sum : B) (t : ℕ) : Type 0 where
    pub left : foldl f sum (every_from s t (drop t l)) ≡ foldl f z (every_from s 0 l)
    pub turn : t % s ≡ 0

  module _ {f : B → A → B} {z : B} {l : List A} {s : ℕ} where
    pub asking_none : 0 < s → Asking f z l s z 0
    asking_none h = record { left = refl; turn = let e : 0 * s ≡ 0 = omega arith in ap (λ (n : ℕ). n % s) (sym e) ∙ multiple 0 s h }

    module _ {sum : B} {t : ℕ} (inv : Asking f z l s sum t) where
      pub asking_more : (d : A) {more : B} → 0 < s → t < length l → more ≡ f sum (get_or l t d) → Asking f z l s more (t + s)
      asking_more d {more} p h e =
          let x : A = get_or l t d in
          let same : suc t + (s - 1) ≡ t + s = omega arith in
          let rest : every_from s t (drop t l) ≡ x ∷ every_from s (t + s) (drop (t + s) l) =
          ap (every_from s t) (drop-cons l t d h)
          ∙ take_one s t x (drop (suc t) l) inv.turn
          ∙ ap (λ (r : List A). x ∷ r) (next_multiple s t (drop (suc t) l) p inv.turn ∙ ap (every_from s (t + s)) (drop-drop (s - 1) (suc t) l ∙ ap (λ (n : ℕ). drop n l) same)) in
          let q : t + s ≡ (t / s + 1) * s = omega (arith, div-add-mod' t s, inv.turn, times) in
          record {
            left = ap (λ (u : B). foldl f u (every_from s (t + s) (drop (t + s) l))) e ∙ sym (ap (foldl f sum) rest) ∙ inv.left;
            turn = ap (λ (n : ℕ). n % s) q ∙ multiple (t / s + 1) s p;
          }
        where
          times : (t / s + 1) * s ≡ t / s * s + s
          times = omega (arith, add-mul (t / s) 1 s, one-mul s)

      pub asking_done : length l ≤ t → sum ≡ foldl f z (every_from s 0 l)
      asking_done h = sym (ap (λ (r : List A). foldl f sum (every_from s t r)) (drop_of_length-le l h)) ∙ inv.left
