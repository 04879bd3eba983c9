-- The loop along a row that is not on the boundary: its first end is written, then what is between the ends, then its last end. Assumes nothing.
use mathlib.Core.Path.{◌≡◌, refl, sym, ap, ◌∙◌, subst}
use mathlib.Core.Bool.{Bool, cond}
use mathlib.Core.List.{List}
use Prim.Native.Nat.{ℕ, ◌+◌, ◌-◌, ◌<◌}
use native.Mathlib.Omega.{arith}
use lib.ListN.{length, set, length-set}
use lib.Seq.{set-set}
use lib.Ieee.{Float}
use Rattle.lists.specs.Lists.{tabulate, zero32}
use Rattle.lists.specs.Laws.Fill.{Filled, filled_none, filled_more, filled_done}
use Rattle.grid.specs.Grid.{at_end}
use Rattle.grid.specs.Laws.Rows.{last_end, no_end}
use Rattle.laplacian.specs.Laplacian.{stencil_at}
use Rattle.laplacian.specs.Words.{inner_row_at}

module _ (plane n : ℕ) (x : List Float) (first : ℕ) where
  row_at_lem : (k : ℕ) (b : Bool) → at_end n k ≡ b → cond b zero32 (stencil_at plane n x (first + k)) ≡ inner_row_at plane n x first k
  unfolding inner_row_at
  row_at_lem k b e = sym (ap (λ (t : Bool). cond t zero32 (stencil_at plane n x (first + k))) e)

  pub row_start : (y : List Float) → 0 < length y → Filled (inner_row_at plane n x first) (set y 0 zero32) (set y 0 zero32) 1
  row_start y some =
      let f = inner_row_at plane n x first in
      let y₀ = set y 0 zero32 in
      let one : Filled f y₀ (set y₀ 0 zero32) 1 = filled_more filled_none (omega (arith, length-set y 0 zero32)) (unfold inner_row_at in refl) in
      subst (λ (z : List Float). Filled f y₀ z 1) (set-set y 0 zero32 zero32) one

  pub row_more : {y₀ y : List Float} {k : ℕ} {v : Float} → Filled (inner_row_at plane n x first) y₀ y k → length y₀ ≡ n → 0 < k → k + 1 < n → v ≡ stencil_at plane n x (first + k)
      → Filled (inner_row_at plane n x first) y₀ (set y k v) (k + 1)
  row_more {y₀} {y} {k} so_far size low high e = filled_more so_far (omega arith) (e ∙ row_at_lem k _ (no_end n k low high))

  pub row_done : {y₀ y : List Float} {k : ℕ} → Filled (inner_row_at plane n x first) y₀ y k → length y₀ ≡ n → k ≡ n - 1 → 0 < n
      → set y (n - 1) zero32 ≡ tabulate n (inner_row_at plane n x first)
  row_done {y₀} {y} {k} so_far size last some =
      ap (λ (m : ℕ). set y m zero32) (sym last)
      ∙ filled_done (filled_more so_far (omega arith) (row_at_lem k _ (ap (at_end n) last ∙ last_end n))) size (omega arith)
