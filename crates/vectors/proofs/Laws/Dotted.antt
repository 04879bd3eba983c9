-- What is used of the dot product, whose definition is opened nowhere else: a loop's way through it (`Summed`, the loop's whole invariant), and that a
-- NaN element makes it NaN. Assumes nothing.
use Rattle.std.specs.Prelude.{◌≡◌, refl, List, ℕ, zero, suc, ◌+◌, ◌<◌, ◌≤◌, length, Float}
use Rattle.std.proofs.Common.{sym, ap, ◌∙◌, ⊎_elim, not-suc-le-zero, le_of_suc-le-suc, eq-or-lt_of_le, add-one, arith}
use Rattle.std.specs.Float.{nan, binary64}
use Rattle.std.specs.Float.Ieee.{add, mul}
use Rattle.lists.specs.Lists.{at}
use Rattle.grid.specs.declared.Grid.{Grid}
use Rattle.grid.specs.Grid.{all_nodes}
use Rattle.numbers.specs.Constants.{zero64}
use Rattle.vectors.specs.Vectors.{dot_to, dotted}
use Rattle.numbers.proofs.Laws.NanThrough.{nan_add, add_nan, nan_mul}
use Rattle.vectors.specs.Laws.Dotted.{Summed}

-- ---- a loop's start, its turn and its end: s is the sum of the first i products

pub summed_none : {a b : List Float} → Summed a b zero64 0
unfolding dot_to
summed_none = record { sum = refl; within = omega arith }

pub summed_more : {a b : List Float} {s t : Float} {i : ℕ} → Summed a b s i → i < length a → t ≡ add binary64 s (mul binary64 (at a i) (at b i)) → Summed a b t (i + 1)
unfolding dot_to
summed_more {a} {b} {s} {t} {i} so_far h e =
    record {
      sum = e ∙ ap (λ (u : Float). add binary64 u (mul binary64 (at a i) (at b i))) so_far.sum ∙ sym (ap (dot_to a b) (add-one i));
      within = omega arith;
    }

pub summed_done : (g : Grid) {a b : List Float} {s : Float} {i : ℕ} → Summed a b s i → length a ≡ all_nodes g → length a ≤ i → s ≡ dotted g a b
unfolding dotted
summed_done g {a} {b} {s} {i} so_far size h = so_far.sum ∙ ap (dot_to a b) (omega (arith, so_far.within))

-- ---- a NaN element makes it NaN

dot_to_nan : (a b : List Float) (i k : ℕ) → k < i → at a k ≡ nan → dot_to a b i ≡ nan
unfolding dot_to
dot_to_nan a b zero k h e = absurd (not-suc-le-zero h)
dot_to_nan a b (suc i) k h e =
    ⊎_elim
    (λ (here : k ≡ i). add_nan binary64 (dot_to a b i) (nan_mul binary64 (at b i) (sym (ap (at a) here) ∙ e)))
    (λ (before : k < i). nan_add binary64 (mul binary64 (at a i) (at b i)) (dot_to_nan a b i k before e))
    (eq-or-lt_of_le (le_of_suc-le-suc h))

pub dotted_nan : (g : Grid) (a b : List Float) {k : ℕ} → k < all_nodes g → at a k ≡ nan → dotted g a b ≡ nan
unfolding dotted
dotted_nan g a b {k} h e = dot_to_nan a b (all_nodes g) k h e
