-- The blur at the nodes of row r = i * n + j, along each axis, as the row's function computes it. Along axes 0 and 1 the lines run across the row, along
-- axis 2 the row is one itself, read as a part of v. A node's digits give its line. Assumes nothing.
use mathlib.Core.Path.{◌≡◌, refl, sym, ap, ◌∙◌}
use mathlib.Core.List.{List}
use Prim.Native.Nat.{ℕ, zero, suc, ◌+◌, ◌*◌, ◌/◌, ◌%◌, ◌<◌, ◌≤◌}
use native.Mathlib.Nat.{mul_assoc, add-mul, div-add-mod'}
use native.Mathlib.Omega.{arith}
use lib.Arith.{digits_div, digits_mod}
use lib.Ieee.{Float, nan}
use Rattle.lists.specs.Lists.{tabulate, at, part}
use Rattle.lists.specs.Laws.Tabulate.{tabulate_ext}
use Rattle.lists.specs.Laws.Part.{part_at}
use Rattle.closed.specs.Grid.{node}
use Rattle.std.specs.Prelude.{Option, Some, None}
use Rattle.blur.specs.Blur.{moved_to, place_along, line_node, with_term, blur_to, blur_at, offset_count}
use Rattle.blur.specs.Words.{across}
use Rattle.blur.proofs.Moved.{inside_moved}

-- ---- lines that agree

-- at the places on the side two lines lead to the same values
blur_lines : (u v kernel : List Float) (l m : ℕ → ℕ) (n place radius t : ℕ) → ((p : ℕ) → p < n → at u (l p) ≡ at v (m p))
    → blur_to u l n place radius kernel t ≡ blur_to v m n place radius kernel t
unfolding blur_to
blur_lines u v kernel l m n place radius zero same = refl
blur_lines u v kernel l m n place radius (suc t) same =
    go (moved_to n radius place t) (at kernel t) (λ p e. same p (inside_moved n radius place t e).2) (blur_lines u v kernel l m n place radius t same)
  where
    go : (c : Option ℕ) (w : Float) {a b : Float} → ((p : ℕ) → c ≡ Some p → at u (l p) ≡ at v (m p)) → a ≡ b → with_term u l w c a ≡ with_term v m w c b
    go (Some p) w h e = unfold with_term in cc (h p refl)
    go None w h e = unfold with_term in e

-- ---- the three axes

module _ (n r : ℕ) {k : ℕ} (h : k < n) (p : ℕ) where
  line_0 : across (r % n * n) (n * n) k p ≡ line_node 0 n (r * n + k) p
  unfolding node
  line_0 = rw (digits_div r h, digits_mod r h) (omega (arith, add-mul (p * n) (r % n) n, mul_assoc p n n))

  line_1 : across (r / n * (n * n)) n k p ≡ line_node 1 n (r * n + k) p
  unfolding node
  line_1 = rw (digits_div r h, digits_mod r h) (omega (arith, add-mul (r / n * n) p n, mul_assoc (r / n) n n))

  line_2 : (a : ℕ) → r * n + p ≡ line_node (suc (suc a)) n (r * n + k) p
  unfolding node
  line_2 a = rw (digits_div r h) (ap (λ (m : ℕ). m * n + p) (sym (div-add-mod' r n)))

module _ (n r : ℕ) (v kernel : List Float) (radius : ℕ) {last : List Float} {len : ℕ} (size : len ≡ n) where
  -- the sums along the lines of an axis, each node at its place
  along : (axis : ℕ) (u : List Float) (line : ℕ → ℕ → ℕ) (place : ℕ → ℕ)
      → ((k : ℕ) → k < n → (p : ℕ) → p < n → at u (line k p) ≡ at v (line_node axis n (r * n + k) p))
      → ((k : ℕ) → k < n → place k ≡ place_along axis n (r * n + k))
      → last ≡ tabulate len (λ k. blur_to u (line k) n (place k) radius kernel (offset_count radius))
      → last ≡ tabulate n (λ k. blur_at axis n radius kernel v (r * n + k))
  unfolding blur_at
  along axis u line place same there e =
      e
      ∙ ap (λ (m : ℕ). tabulate m (λ k. blur_to u (line k) n (place k) radius kernel (offset_count radius))) size
      ∙ tabulate_ext n _ _
      (λ k h.
      blur_lines u v kernel (line k) (line_node axis n (r * n + k)) n (place k) radius (offset_count radius) (same k h)
      ∙ ap (λ (i : ℕ). blur_to v (line_node axis n (r * n + k)) n i radius kernel (offset_count radius)) (there k h))

  pub axis_0 : {axis first : ℕ} → axis ≡ 0 → first ≡ r % n * n
      → last ≡ tabulate len (λ k. blur_to v (across first (n * n) k) n (r / n) radius kernel (offset_count radius))
      → last ≡ tabulate n (λ k. blur_at axis n radius kernel v (r * n + k))
  axis_0 {axis} {first} is from e =
      along 0 v (across first (n * n)) (λ _. r / n)
      (λ k h p _. ap (λ (f : ℕ). at v (across f (n * n) k p)) from ∙ ap (at v) (line_0 n r h p))
      (λ k h. sym (ap (λ (m : ℕ). m / n) (digits_div r h)))
      e
      ∙ ap (λ (a : ℕ). tabulate n (λ k. blur_at a n radius kernel v (r * n + k))) (sym is)

  pub axis_1 : {axis first : ℕ} → axis ≡ 1 → first ≡ r / n * (n * n)
      → last ≡ tabulate len (λ k. blur_to v (across first n k) n (r % n) radius kernel (offset_count radius))
      → last ≡ tabulate n (λ k. blur_at axis n radius kernel v (r * n + k))
  axis_1 {axis} {first} is from e =
      along 1 v (across first n) (λ _. r % n)
      (λ k h p _. ap (λ (f : ℕ). at v (across f n k p)) from ∙ ap (at v) (line_1 n r h p))
      (λ k h. sym (ap (λ (m : ℕ). m % n) (digits_div r h)))
      e
      ∙ ap (λ (a : ℕ). tabulate n (λ k. blur_at a n radius kernel v (r * n + k))) (sym is)

  pub axis_2 : (axis : ℕ) → 2 ≤ axis
      → last ≡ tabulate len (λ k. blur_to (part (r * n) (r * n + n) v) (λ p. p) len k radius kernel (offset_count radius))
      → last ≡ tabulate n (λ k. blur_at axis n radius kernel v (r * n + k))
  axis_2 zero h e = absurd (omega arith)
  axis_2 (suc zero) h e = absurd (omega arith)
  axis_2 (suc (suc x)) _ e =
      along (suc (suc x)) (part (r * n) (r * n + n) v) (λ _ p. p) (λ k. k)
      (λ k h p hp. part_at nan (r * n) (r * n + n) v p (omega arith) ∙ ap (at v) (line_2 n r h p x))
      (λ k h. sym (digits_mod r h))
      (e ∙ ap (λ (m : ℕ). tabulate len (λ k. blur_to (part (r * n) (r * n + n) v) (λ p. p) m k radius kernel (offset_count radius))) size)
