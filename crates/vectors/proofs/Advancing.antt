-- The loop of `advance`: x and r are written up to i, and s is the sum of the new r's squares up to there (`Advancing`, the loop's whole invariant). The
-- elements that a turn writes are still as they came. Assumes nothing.
use mathlib.Core.Path.{◌≡◌, sym, ap, ◌∙◌}
use mathlib.Core.List.{List}
use Prim.Native.Nat.{ℕ, ◌+◌, ◌<◌, ◌≤◌}
use native.Mathlib.Omega.{arith}
use lib.ListN.{length, set}
use lib.Ieee.{Float, nan, binary32, binary64, add, sub, mul}
use Rattle.lists.specs.Lists.{tabulate, at}
use Rattle.lists.specs.Laws.Tabulate.{length_tabulate, at_tabulate, of_size}
use Rattle.lists.specs.Laws.Fill.{Filled, filled_none, filled_more, filled_now, filled_done}
use Rattle.grid.specs.declared.Grid.{Grid}
use Rattle.grid.specs.Grid.{all_nodes}
use Rattle.numbers.specs.Constants.{zero64}
use Rattle.vectors.specs.Vectors.{dotted, plus_at, minus_at}
use Rattle.vectors.proofs.Laws.Dotted.{summed_none, summed_more, summed_done}
use Rattle.vectors.specs.Laws.Dotted.{Summed}
use Rattle.vectors.specs.Words.{Advanced}

module _ (alpha : Float) (x₀ r₀ p ap' : List Float) where
  abbrev new_r : List Float
  new_r = tabulate (length r₀) (minus_at alpha r₀ ap')

  pub record Advancing (x r : List Float) (s : Float) (i : ℕ) : Type 0 where
    pub of_x : Filled (plus_at alpha x₀ p) x₀ x i
    pub of_r : Filled (minus_at alpha r₀ ap') r₀ r i
    pub of_s : Summed new_r new_r s i

  pub advancing_none : Advancing x₀ r₀ zero64 0
  advancing_none = record { of_x = filled_none; of_r = filled_none; of_s = summed_none }

  -- w is the new element of r
  pub advancing_more : {x r : List Float} {s w : Float} {i : ℕ} → Advancing x r s i → i < length x₀ → i < length r₀ → w ≡ minus_at alpha r ap' i
      → Advancing (set x i (plus_at alpha x p i)) (set r i (minus_at alpha r ap' i)) (add binary64 s (mul binary64 w w)) (i + 1)
  advancing_more {x} {r} {s} {w} {i} h hx hr e =
      let size = length_tabulate (length r₀) (minus_at alpha r₀ ap') in
      let new : minus_at alpha r ap' i ≡ minus_at alpha r₀ ap' i = ap (λ (v : Float). sub binary32 v (mul binary32 alpha (at ap' i))) (filled_now nan h.of_r) in
      record {
        of_x = filled_more h.of_x hx (ap (λ (v : Float). add binary32 v (mul binary32 alpha (at p i))) (filled_now nan h.of_x));
        of_r = filled_more h.of_r hr new;
        of_s = summed_more h.of_s (omega arith) (ap (λ (v : Float). add binary64 s (mul binary64 v v)) (e ∙ new ∙ sym (at_tabulate nan (length r₀) (minus_at alpha r₀ ap') i hr)));
      }

  pub advancing_done : (g : Grid) {x r : List Float} {s : Float} {i : ℕ} → Advancing x r s i → length x₀ ≡ all_nodes g → length r₀ ≡ all_nodes g → all_nodes g ≤ i
      → Advanced g alpha x₀ r₀ p ap' x r s
  advancing_done g {x} {r} {s} {i} h hx hr end =
      let size = length_tabulate (length r₀) (minus_at alpha r₀ ap') in
      let r= = filled_done h.of_r hr end in
      record {
        of_x = cc (filled_done h.of_x hx end);
        of_r = r=;
        of_rr = summed_done g h.of_s (size ∙ hr) (omega arith) ∙ ap (λ (z : List Float). dotted g z z) (sym (of_size (minus_at alpha r₀ ap') r= (sym hr)));
      }
