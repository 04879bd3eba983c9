-- A loop that writes y[q] = f q for q = 0, 1, .., said without the list that came: `take q y ≡ tabulate q f`. Nested loops want this form, since an inner
-- loop's invariant has no name for what came at the function's start. Assumes nothing.
use Rattle.std.specs.Prelude.{◌≡◌, List, [], ◌∷◌, ◌++◌, ℕ, ◌+◌, ◌<◌, length, set, take}
use Rattle.std.proofs.Math.Path.{refl}
use Rattle.std.proofs.Common.{sym, ap, ◌∙◌, le_of_eq, add-one, take-suc-set, take_all}
use Rattle.lists.specs.Lists.{tabulate}
use Rattle.lists.specs.Laws.Tabulate.{tabulate_snoc}

module _ {A : Type 0} where
  pub prefix_none : (f : ℕ → A) (y : List A) → take 0 y ≡ tabulate 0 f
  unfolding tabulate
  prefix_none f y = refl

  -- one turn: v is what is written
  pub prefix_more : (f : ℕ → A) (q : ℕ) (y : List A) {v : A} → take q y ≡ tabulate q f → q < length y → v ≡ f q → take (q + 1) (set y q v) ≡ tabulate (q + 1) f
  prefix_more f q y {v} e h ev =
      ap (λ (m : ℕ). take m (set y q v)) (add-one q)
      ∙ take-suc-set y q v h
      ∙ ap (λ (l : List A). l ++ (v ∷ [])) e ∙ ap (λ (w : A). tabulate q f ++ (w ∷ [])) ev ∙ sym (tabulate_snoc q f)

  pub prefix_done : (f : ℕ → A) (n : ℕ) (y : List A) → take n y ≡ tabulate n f → length y ≡ n → y ≡ tabulate n f
  prefix_done f n y e l = sym (take_all n y (le_of_eq l)) ∙ e
