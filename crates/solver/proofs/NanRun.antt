-- A run whose alpha is NaN: the step makes every element of x, r and p NaN, and rr too (`nan_next`). That state does not stop and is its own next state,
-- so any number of steps from there leaves it (`nan_steps`). Assumes nothing.
use mathlib.Core.Path.{◌≡◌, refl, ap, ◌∙◌}
use mathlib.Core.Bool.{Bool, false, ◌||◌}
use mathlib.Core.List.{List}
use Prim.Native.Nat.{ℕ, zero, suc, ◌<◌}
use lib.Ieee.{Float, nan, binary32, binary64, div, le}
use Rattle.lists.specs.Lists.{tabulate, at}
use Rattle.lists.specs.Laws.Tabulate.{at_tabulate, tabulate_ext}
use Rattle.numbers.specs.Arithmetic.{narrowed}
use Rattle.grid.specs.declared.Grid.{Grid}
use Rattle.grid.specs.Grid.{all_nodes}
use Rattle.laplacian.specs.Laplacian.{applied}
use Rattle.numbers.specs.Constants.{zero64}
use Rattle.vectors.specs.Vectors.{dotted, plus_at, minus_at}
use Rattle.numbers.proofs.Laws.NanThrough.{add_nan, sub_nan, nan_mul, nan_div, nan_narrowed, nan_rooted, nan_le}
use Rattle.vectors.proofs.Laws.Dotted.{dotted_nan}
use Rattle.solver.specs.Solver.{State, pap_of, stops, alpha_of, next, steps}

abbrev nans : (g : Grid) → List Float
nans g = tabulate (all_nodes g) (λ _. nan)

abbrev pub nan_state : (g : Grid) → State
nan_state g = record { x = nans g; r = nans g; p = nans g; rr = nan }

module _ (g : Grid) (some : 0 < all_nodes g) where
  all_nan : (f : ℕ → Float) → ((k : ℕ) → f k ≡ nan) → tabulate (all_nodes g) f ≡ nans g
  all_nan f e = tabulate_ext (all_nodes g) f (λ _. nan) (λ k h. e k)

  dot_nan : {a : List Float} (b : List Float) → a ≡ nans g → dotted g a b ≡ nan
  dot_nan {a} b e = dotted_nan g a b some (ap (λ (l : List Float). at l 0) e ∙ at_tabulate nan (all_nodes g) (λ _. nan) 0 some)

  pub nan_next : (s : State) → alpha_of g s ≡ nan → next g s ≡ nan_state g
  unfolding next
  nan_next s e =
      let alpha = alpha_of g s in
      let r' = tabulate (all_nodes g) (minus_at alpha s.r (applied g s.p)) in
      let rr' = dotted g r' r' in
      let beta = narrowed (div binary64 rr' s.rr) in
      let x= = all_nan (plus_at alpha s.x s.p) (λ k. add_nan binary32 (at s.x k) (nan_mul binary32 (at s.p k) e)) in
      let r= = all_nan (minus_at alpha s.r (applied g s.p)) (λ k. sub_nan binary32 (at s.r k) (nan_mul binary32 (at (applied g s.p) k) e)) in
      let rr= = dot_nan r' r= in
      let beta= = nan_narrowed (nan_div binary64 s.rr rr=) in
      let p= = all_nan (plus_at beta r' s.p) (λ k. add_nan binary32 (at r' k) (nan_mul binary32 (at s.p k) beta=)) in
      λ i. record { x = x= i; r = r= i; p = p= i; rr = rr= i }

  nan_again : next g (nan_state g) ≡ nan_state g
  nan_again = nan_next (nan_state g) (unfold alpha_of in nan_narrowed (nan_div binary64 (pap_of g (nan_state g)) refl))

  nan_on : (limit : Float) → stops g limit (nan_state g) ≡ false
  unfolding stops
  nan_on limit =
      ap (λ (b : Bool). b || le (pap_of g (nan_state g)) zero64) (nan_le limit (nan_rooted binary64 refl))
      ∙ nan_le zero64 (dot_nan (applied g (nans g)) refl)

  pub nan_steps : (limit : Float) (k : ℕ) → steps g limit k (nan_state g) ≡ nan_state g
  unfolding steps
  nan_steps limit zero = refl
  nan_steps limit (suc k) = rw (nan_on limit, nan_again) (nan_steps limit k)
