-- The right side at the nodes of row r = i * n + j, as the row's function computes it: +0.0 at all of them or at the two ends, and between them the formula.
-- The boundary row by row is `boundary_row_lem` of the crate grid. Then the same of equal components, and of the kernel as it is made. Assumes nothing.
use mathlib.Core.Path.{◌≡◌, sym, ap, ◌∙◌}
use mathlib.Core.Bool.{Bool, true, false, ◌||◌, cond}
use mathlib.Core.List.{List}
use Prim.Native.Nat.{ℕ, ◌+◌, ◌*◌, ◌<◌}
use lib.ListN.{take}
use lib.Ieee.{Float}
use Rattle.lists.specs.Lists.{tabulate, zero32, zeros32}
use Rattle.lists.specs.Laws.Tabulate.{tabulate_ext, tabulate_same}
use Rattle.grid.specs.Grid.{at_end, boundary_node, boundary_row}
use Rattle.grid.specs.Laws.Rows.{boundary_row_lem, no_end}
use Rattle.grid.specs.declared.Grid.{Grid}
use Rattle.points.specs.declared.point.Point.{Point}
use Rattle.blur.specs.declared.kernel.Kernel.{Kernel}
use Rattle.blur.specs.Blur.{sigma_of, radius_of, offset_count, kernel_of}
use Rattle.blur.specs.Words.{radius_in, KernelOf}
use Rattle.blur.specs.Laws.FirstWeights.{first_weights, front_radius}
use Rattle.field.specs.Field.{right_side_at, right_side_by, right_side}
use Rattle.field.specs.Words.{inner_at, row_at}

module _ (n : ℕ) (h : Float) (x y z : List Float) where
  -- ---- a row off the boundary, element by element

  pub at_ends : (first k : ℕ) → at_end n k ≡ true → zero32 ≡ row_at n h x y z first k
  unfolding row_at
  at_ends first k e = sym (ap (λ (b : Bool). cond b zero32 (inner_at n h x y z (first + k))) e)

  pub between : {q : ℕ} {v : Float} (first k : ℕ) → 0 < k → k + 1 < n → v ≡ inner_at n h x y z q → q ≡ first + k → v ≡ row_at n h x y z first k
  unfolding row_at
  between first k low high e is =
      e
      ∙ ap (λ (m : ℕ). inner_at n h x y z m) is
      ∙ sym (ap (λ (b : Bool). cond b zero32 (inner_at n h x y z (first + k))) (no_end n k low high))

  -- ---- row r of the cube

  node_is : (q : ℕ) (b : Bool) → boundary_node n q ≡ b → cond b zero32 (inner_at n h x y z q) ≡ right_side_at n h x y z q
  unfolding right_side_at
  node_is q b e = sym (ap (λ (t : Bool). cond t zero32 (inner_at n h x y z q)) e)

  row_here : (r k : ℕ) (b : Bool) → k < n → boundary_row n r ≡ b → boundary_node n (r * n + k) ≡ b || at_end n k
  row_here r k b lt e = boundary_row_lem n r lt ∙ ap (λ (t : Bool). t || at_end n k) e

  pub boundary_row_is : {len : ℕ} (r : ℕ) → len ≡ n → boundary_row n r ≡ true → zeros32 len ≡ tabulate n (λ k. right_side_at n h x y z (r * n + k))
  boundary_row_is {len} r size e =
      ap zeros32 size ∙ sym (tabulate_same n zero32)
      ∙ tabulate_ext n (λ _. zero32) (λ k. right_side_at n h x y z (r * n + k)) (λ k lt. node_is (r * n + k) true (row_here r k true lt e))

  pub inner_row_is : {len first : ℕ} (r : ℕ) → len ≡ n → first ≡ r * n → boundary_row n r ≡ false
      → tabulate len (row_at len h x y z first) ≡ tabulate n (λ k. right_side_at n h x y z (r * n + k))
  unfolding row_at
  inner_row_is {len} {first} r size start e =
      ap (λ (m : ℕ). tabulate m (row_at m h x y z first)) size
      ∙ ap (λ (a : ℕ). tabulate n (row_at n h x y z a)) start
      ∙ tabulate_ext n (row_at n h x y z (r * n)) (λ k. right_side_at n h x y z (r * n + k)) (λ k lt. node_is (r * n + k) (at_end n k) (row_here r k false lt e))

-- ---- the components

-- the right side of equal components
pub side_of_lem : (n : ℕ) (h : Float) {x y z x' y' z' : List Float} → x ≡ x' → y ≡ y' → z ≡ z' → tabulate (n * n * n) (right_side_at n h x y z) ≡ tabulate (n * n * n) (right_side_at n h x' y' z')
side_of_lem n h e f g = cc

-- the kernel as it is made, read at the front of its array, is sigma's
pub by_kernel : (g : Grid) (ps : List Point) (spacing smoothing : Float) {sigma : Float} {k : Kernel} {w b : List Float} → sigma ≡ sigma_of smoothing spacing g.step → KernelOf sigma k
    → w ≡ take (offset_count k.radius) k.weights → b ≡ right_side_by g ps (radius_in w) w → b ≡ right_side g ps spacing smoothing
unfolding right_side
by_kernel g ps spacing smoothing {sigma} {k} {w} e made front is =
    is
    ∙ ap (λ (r : ℕ). right_side_by g ps r w) (front_radius made front)
    ∙ ap (λ (l : List Float). right_side_by g ps k.radius l) (front ∙ first_weights made)
    ∙ ap (λ (r : ℕ). right_side_by g ps r (kernel_of sigma)) made.reach
    ∙ ap (λ (s : Float). right_side_by g ps (radius_of s) (kernel_of s)) e
