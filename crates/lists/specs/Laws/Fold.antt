-- A left fold, `foldl` of mathlib.Core.List, as a loop takes it: one element more at the end of the list (`fold_snoc`), or the elements of a slice one
-- after the other (`Folded`, the loop's whole invariant). d is what is read past a list's end. Assumes nothing.
use Rattle.std.specs.Prelude.{◌≡◌, refl, ℕ, ◌+◌, ◌<◌, ◌≤◌, length, get_or, take}
use Rattle.std.proofs.Common.{sym, ap, ◌∙◌, add-one, arith, take-suc, take_all}
use mathlib.Core.List.{List, [], ◌∷◌, ◌++◌, foldl, foldl-append}

module _ {A B : Type 0} where
  pub fold_snoc : (f : B → A → B) (z : B) (l : List A) (a : A) → foldl f z (l ++ (a ∷ [])) ≡ f (foldl f z l) a
  fold_snoc f z l a = foldl-append f z l (a ∷ [])

  -- ---- a loop's invariant: s is the fold over the first i elements of l

  pub record Folded (f : B → A → B) (z : B) (l : List A) (s : B) (i : ℕ) : Type 0 where
    pub taken : s ≡ foldl f z (take i l)
    pub within : i ≤ length l

  pub folded_none : {f : B → A → B} {z : B} {l : List A} → Folded f z l z 0
  folded_none = record { taken = refl; within = omega arith }

  -- one turn: t is what s becomes
  pub folded_more : (d : A) {f : B → A → B} {z : B} {l : List A} {s t : B} {i : ℕ} → Folded f z l s i → i < length l → t ≡ f s (get_or l i d) → Folded f z l t (i + 1)
  folded_more d {f} {z} {l} {s} {t} {i} inv h e =
      record {
        taken =
            e
            ∙ ap (λ (u : B). f u (get_or l i d)) inv.taken
            ∙ sym (fold_snoc f z (take i l) (get_or l i d))
            ∙ ap (λ (u : List A). foldl f z u) (sym (take-suc l i d h) ∙ ap (λ (m : ℕ). take m l) (sym (add-one i)));
        within = omega arith;
      }

  pub folded_done : {f : B → A → B} {z : B} {l : List A} {s : B} {i : ℕ} → Folded f z l s i → length l ≤ i → s ≡ foldl f z l
  folded_done {f} {z} {l} {s} {i} inv h = inv.taken ∙ ap (λ (u : List A). foldl f z u) (take_all i l h)
