-- A x row by row and plane by plane: what a row's function says of its row, what the loop over the rows between the outer planes has written, and the
-- whole as three parts. A node's plane is its number divided by n twice, so the first and the last plane are boundary. Assumes nothing.
use mathlib.Core.Path.{◌≡◌, refl, sym, ap, ◌∙◌}
use mathlib.Core.Bool.{Bool, true, false, ◌||◌, cond}
use mathlib.Core.List.{List}
use Prim.Native.Nat.{ℕ, ◌+◌, ◌-◌, ◌*◌, ◌/◌, ◌%◌, ◌<◌, ◌≤◌}
use native.Mathlib.Nat.{add-mul, mul_assoc, zero-mul, one-mul, div-add-mod'}
use native.Mathlib.Omega.{arith}
use lib.Arith.{digits_div}
use lib.ListN.{length}
use lib.Ieee.{Float}
use borrow.Rule.Slice.PartMut.{put_mid}
use Rattle.lists.specs.Lists.{tabulate, part, zero32, zeros32}
use Rattle.lists.specs.Laws.Tabulate.{tabulate_ext, tabulate_same}
use Rattle.lists.specs.Laws.Fill.{Filled, filled_none, filled_done}
use Rattle.lists.specs.Laws.Part.{length_part, filled_part}
use Rattle.grid.specs.Grid.{Sides, at_end, boundary_node, boundary_row}
use Rattle.grid.specs.Laws.Rows.{row_of, row_next, last_end, boundary_row_lem}
use Rattle.laplacian.specs.Laplacian.{stencil_at, apply_at}
use Rattle.laplacian.specs.Words.{inner_row_at}

module _ (n : ℕ) (x : List Float) where
  apply_at_lem : (q : ℕ) (b : Bool) → boundary_node n q ≡ b → cond b zero32 (stencil_at (n * n) n x q) ≡ apply_at n x q
  unfolding apply_at
  apply_at_lem q b e = sym (ap (λ (t : Bool). cond t zero32 (stencil_at (n * n) n x q)) e)

  -- ---- a row

  row_here : (row k : ℕ) (b : Bool) → k < n → boundary_row n row ≡ b → boundary_node n (row * n + k) ≡ b || at_end n k
  row_here row k b h e = boundary_row_lem n row h ∙ ap (λ (t : Bool). t || at_end n k) e

  pub boundary_row_is : {len : ℕ} (row : ℕ) → len ≡ n → boundary_row n row ≡ true → zeros32 len ≡ tabulate n (λ k. apply_at n x (row * n + k))
  boundary_row_is {len} row size e =
      ap zeros32 size ∙ sym (tabulate_same n zero32) ∙ tabulate_ext n (λ _. zero32) (λ k. apply_at n x (row * n + k)) (λ k h. apply_at_lem (row * n + k) true (row_here row k true h e))

  pub inner_row_is : {len first : ℕ} (row : ℕ) → len ≡ n → first ≡ row * n → boundary_row n row ≡ false
      → tabulate len (inner_row_at (n * n) len x first) ≡ tabulate n (λ k. apply_at n x (row * n + k))
  unfolding inner_row_at
  inner_row_is {len} {first} row size start e =
      ap (λ (m : ℕ). tabulate m (inner_row_at (n * n) m x first)) size
      ∙ ap (λ (a : ℕ). tabulate n (inner_row_at (n * n) n x a)) start
      ∙ tabulate_ext n (inner_row_at (n * n) n x (row * n)) (λ k. apply_at n x (row * n + k)) (λ k h. apply_at_lem (row * n + k) (at_end n k) (row_here row k false h e))

  -- ---- the rows between the outer planes: r rows after the first plane are written, and ys is the next

  between_at : (r k : ℕ) → (n + r) * n + k ≡ n * n + (r * n + k)
  between_at r k = omega (arith, add-mul n r n)

  pub between_more : {y z ys : List Float} (r : ℕ) → Filled (λ k. apply_at n x (n * n + k)) y z (r * n) → ys ≡ tabulate n (λ k. apply_at n x ((n + r) * n + k)) → r * n + n ≤ length y
      → Filled (λ k. apply_at n x (n * n + k)) y (put_mid (r * n) (r * n + n - r * n) z ys) ((r + 1) * n)
  between_more {y} {z} {ys} r so_far row within =
      rw (row_next r n) (filled_part (r * n + n) so_far row refl within (λ k h. ap (apply_at n x) (between_at r k)))

  -- ---- the outer planes

  plane_of : (i k : ℕ) → k < n * n → (i * (n * n) + k) / n / n ≡ i
  plane_of i k h =
      let at = row_of n n h in
      let e : i * (n * n) + k ≡ (i * n + k / n) * n + k % n = omega (arith, mul_assoc i n n, add-mul (i * n) (k / n) n, div-add-mod' k n) in
      ap (λ (q : ℕ). q / n / n) e ∙ ap (λ (r : ℕ). r / n) (digits_div (i * n + k / n) at.1) ∙ digits_div i at.0

  outer : (q : ℕ) → at_end n (q / n / n) ≡ true → zero32 ≡ apply_at n x q
  outer q e = apply_at_lem q true (ap (λ (b : Bool). b || at_end n (q / n % n) || at_end n (q % n)) e)

  first_plane : (k : ℕ) → k < n * n → zero32 ≡ apply_at n x (0 + k)
  first_plane k h = outer (0 + k) (ap (at_end n) (ap (λ (m : ℕ). (m + k) / n / n) (sym (zero-mul (n * n))) ∙ plane_of 0 k h))

  last_plane : (k : ℕ) → k < n * n → zero32 ≡ apply_at n x ((n - 1) * (n * n) + k)
  last_plane k h = outer ((n - 1) * (n * n) + k) (ap (at_end n) (plane_of (n - 1) k h) ∙ last_end n)

-- rows of n nodes: those between the outer planes, and the outer planes' own
between_rows : {n : ℕ} → Sides n → n * n ≡ (n - 2) * n + 2 * n
between_rows {n} sides = let two : n ≡ n - 2 + 2 = omega (arith, sides.two) in ap (λ (m : ℕ). m * n) two ∙ add-mul (n - 2) 2 n

pub between_most : {n : ℕ} → Sides n → (n - 2) * n ≤ n * n
between_most sides = let rows = between_rows sides in omega arith

pub between_row : {n : ℕ} (r : ℕ) → Sides n → r < (n - 2) * n → n + r < n * n
between_row r sides h = let rows = between_rows sides in omega (arith, sides.two)

-- planes of n * n nodes: those between the outer ones, and all but the last
pub planes : {n : ℕ} → Sides n → ((n - 2) * n * n + n * n + n * n ≡ n * n * n) × ((n - 1) * (n * n) + n * n ≡ n * n * n)
planes {n} sides =
    let one : n ≡ n - 1 + 1 = omega (arith, sides.two) in
    let row = between_rows sides in
    let all : n * n * n ≡ (n - 2) * n * n + 2 * n * n = ap (λ (m : ℕ). m * n) row ∙ add-mul ((n - 2) * n) (2 * n) n in
    let last : n * (n * n) ≡ (n - 1) * (n * n) + 1 * (n * n) = ap (λ (m : ℕ). m * (n * n)) one ∙ add-mul (n - 1) 1 (n * n) in
    (omega (arith, mul_assoc 2 n n), omega (arith, mul_assoc n n n, one-mul (n * n)))

-- ---- the whole: the first plane, those between, the last, each lent as a part of y and come back as zeros, as A x and as zeros

module _ {n : ℕ} (sides : Sides n) (x y : List Float) (size : length y ≡ n * n * n) where
  abbrev after_first : (first : List Float) → List Float
  after_first first = put_mid 0 (n * n - 0) y first

  abbrev after_between : (first between : List Float) → List Float
  after_between first between = put_mid (n * n) (n * n * n - n * n - n * n) (after_first first) between

  zeros_are : {a : ℕ} {z : List Float} → z ≡ zeros32 a → a ≡ n * n → z ≡ tabulate (n * n) (λ _. zero32)
  zeros_are e h = e ∙ ap zeros32 h ∙ sym (tabulate_same (n * n) zero32)

  first_done : {first : List Float} → first ≡ zeros32 (length (part 0 (n * n) y)) → Filled (apply_at n x) y (after_first first) (n * n)
  first_done e =
      let sizes = planes sides in
      filled_part (n * n) (filled_none {f = apply_at n x} {y = y}) (zeros_are e (length_part 0 (n * n) y (omega arith) ∙ omega arith)) (omega arith) (omega arith) (λ k h. first_plane n x k h)

  pub between_size : {first : List Float} → first ≡ zeros32 (length (part 0 (n * n) y)) → length (part (n * n) (n * n * n - n * n) (after_first first)) ≡ (n - 2) * n * n
  between_size {first} e =
      let sizes = planes sides in
      length_part (n * n) (n * n * n - n * n) (after_first first) (omega (arith, (first_done e).same)) ∙ omega arith

  pub planes_are : {first between last : List Float} → first ≡ zeros32 (length (part 0 (n * n) y)) → between ≡ tabulate ((n - 2) * n * n) (λ k. apply_at n x (n * n + k))
      → last ≡ zeros32 (length (part (n * n * n - n * n) (n * n * n) (after_between first between)))
      → put_mid (n * n * n - n * n) (n * n * n - (n * n * n - n * n)) (after_between first between) last ≡ tabulate (n * n * n) (apply_at n x)
  planes_are {first} {between} {last} e1 e2 e3 =
      let sizes = planes sides in
      let start : n * n * n - n * n ≡ (n - 1) * (n * n) = omega arith in
      let two = filled_part (n * n * n - n * n) (first_done e1) e2 (omega arith) (omega arith) (λ k h. refl) in
      let size3 = length_part (n * n * n - n * n) (n * n * n) (after_between first between) (omega (arith, two.same)) in
      let three = filled_part (n * n * n) two (zeros_are e3 (size3 ∙ omega arith)) (omega arith) (omega arith) (λ k h. last_plane n x k h ∙ ap (λ (m : ℕ). apply_at n x (m + k)) (sym start)) in
      filled_done three size (omega arith)
