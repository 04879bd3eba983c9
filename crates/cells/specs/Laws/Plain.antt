-- A line of cells whose four rows of nodes are all below, or all not, has no face: counts of none and of all decide every node, and each case is 0 or 255.
-- Assumes nothing.
use Rattle.std.specs.Prelude.{◌≡◌, refl, Bool, true, ◌||◌, List, [], eqb, Float}
use Rattle.std.proofs.Common.{sym, ◌∙◌, ⊎_elim, eqb-true}
use Rattle.std.proofs.Math.Path.{ap}
use Prim.Native.Nat.{ℕ, zero, suc, ◌+◌, ◌-◌, ◌*◌, ◌≤◌, ◌<◌}
use Rattle.std.proofs.Math.Decide.{dec_lt}
use native.Mathlib.Omega.{arith}
use Rattle.lists.specs.Lists.{at}
use Rattle.closed.specs.Lists.{bit, sum, cells}
use Rattle.closed.specs.Faces.{Face}
use Rattle.closed.proofs.Laws.Counting.{bit_le, same?}
use Rattle.cells.specs.Extraction.{is_below}
use Rattle.cells.specs.Words.{side_at, below_count, line_below, plain_line, case_at, row_faces, edge_offsets, faces_at, line_faces}
use Rattle.cells.specs.Laws.Cells.{two_sides}
use Rattle.cells.specs.Laws.Rows.{none_below, all_below}

-- ---- a sum of bits, at its least and at its most

module _ (f : ℕ → Bool) where
  pub bits_most : (n : ℕ) → sum n (λ k. bit (f k)) ≤ n
  unfolding sum
  bits_most zero = omega arith
  bits_most (suc n) = omega (arith, bits_most n, bit_le (f n))

  -- where b is the last bit, and the bit of each k before it
  up_to : (b n : ℕ) → bit (f n) ≡ b → ((k : ℕ) → k < n → bit (f k) ≡ b) → (k : ℕ) → k < suc n → bit (f k) ≡ b
  up_to b n last before k h = by_case (dec_lt k n)
    where
      by_case : Dec (k < n) → bit (f k) ≡ b
      by_case (yes p) = before k p
      by_case (no p) = let e : k ≡ n = omega arith in ap (λ (m : ℕ). bit (f m)) e ∙ last

  bits_none : (n : ℕ) → sum n (λ k. bit (f k)) ≡ 0 → (k : ℕ) → k < n → bit (f k) ≡ 0
  unfolding sum
  bits_none zero e k h = absurd (omega arith)
  bits_none (suc n) e k h = up_to 0 n (omega arith) (bits_none n (omega arith)) k h

  bits_all : (n : ℕ) → sum n (λ k. bit (f k)) ≡ n → (k : ℕ) → k < n → bit (f k) ≡ 1
  unfolding sum
  bits_all zero e k h = absurd (omega arith)
  bits_all (suc n) e k h =
      let last : bit (f n) ≡ 1 = omega (arith, bits_most n, bit_le (f n)) in
      up_to 1 n last (bits_all n (omega arith)) k h

pub row_most : (values : List Float) (nz : ℕ) (iso : Float) (m : ℕ) → below_count values nz iso m ≤ nz
row_most values nz iso m = bits_most (λ k. is_below (at values (m + k)) iso) nz

cells_nothing : (n : ℕ) (f : ℕ → List Face) → ((i : ℕ) → i < n → f i ≡ []) → cells n f ≡ []
unfolding cells
cells_nothing zero f h = refl
cells_nothing (suc n) f h = rw (cells_nothing n f (λ i b. h i (omega arith)), h n (omega arith)) refl

-- ---- the line from node n on

module _ (values : List Float) (ny nz : ℕ) (iso : Float) (n : ℕ) where
  abbrev low : ℕ → Bool
  low m = is_below (at values m) iso

  -- the bit of the node k of a row whose first node is m, said of k's place i
  placed : (m k i v : ℕ) → i ≡ m + k → bit (low (m + k)) ≡ v → bit (low i) ≡ v
  placed m k i v e h = ap (λ (t : ℕ). bit (low t)) e ∙ h

  -- v is 0 or 1: so many of each row are below, and so is each node
  sides_are : (v : ℕ) → ((m k : ℕ) → k < nz → below_count values nz iso m ≡ nz * v → bit (low (m + k)) ≡ v)
      → below_count values nz iso n ≡ nz * v → below_count values nz iso (n + ny * nz) ≡ nz * v → below_count values nz iso (n + ny * nz + nz) ≡ nz * v → below_count values nz iso (n + nz) ≡ nz * v
      → (k : ℕ) → k < nz → side_at values ny nz iso (n + k) ≡ 15 * v
  unfolding side_at
  sides_are v row p q r t k h =
      omega (
        arith,
        row n k h p,
        placed (n + ny * nz) k (n + k + ny * nz) v (omega arith) (row (n + ny * nz) k h q),
        placed (n + ny * nz + nz) k (n + k + ny * nz + nz) v (omega arith) (row (n + ny * nz + nz) k h r),
        placed (n + nz) k (n + k + nz) v (omega arith) (row (n + nz) k h t),
      )

  no_face : (s : ℕ) → ((k : ℕ) → k < nz → side_at values ny nz iso (n + k) ≡ s) → ((m c : ℕ) → c ≡ s + 16 * s → row_faces (edge_offsets ny nz) m c ≡ [])
      → line_faces values ny nz iso n (nz - 1) ≡ []
  unfolding faces_at
  no_face s sides none =
      cells_nothing (nz - 1) (λ c. faces_at values ny nz iso (n + c)) (λ k h.
      let next : n + (k + 1) ≡ n + k + 1 = omega arith in
      none (3 * (n + k)) (case_at values ny nz iso (n + k))
      (sym (two_sides values ny nz iso (n + k) s s (sym (sides k (omega arith))) (sym (sides (k + 1) (omega arith)) ∙ ap (side_at values ny nz iso) next))))

  none_low : line_below values ny nz iso n ≡ 0 → line_faces values ny nz iso n (nz - 1) ≡ []
  none_low e =
      no_face 0
      (sides_are 0 (λ m k h z. bits_none (λ j. low (m + j)) nz (omega arith) k h) (omega arith) (omega arith) (omega arith) (omega arith))
      (λ m x z. none_below (edge_offsets ny nz) m x z)

  most : (m : ℕ) → below_count values nz iso m ≤ nz
  most = row_most values nz iso

  all_low : line_below values ny nz iso n ≡ 4 * nz → line_faces values ny nz iso n (nz - 1) ≡ []
  all_low e =
      let p : below_count values nz iso n ≡ nz * 1 = omega (arith, most n, most (n + ny * nz), most (n + ny * nz + nz), most (n + nz)) in
      let q : below_count values nz iso (n + ny * nz) ≡ nz * 1 = omega (arith, most n, most (n + ny * nz), most (n + ny * nz + nz), most (n + nz)) in
      let r : below_count values nz iso (n + ny * nz + nz) ≡ nz * 1 = omega (arith, most n, most (n + ny * nz), most (n + ny * nz + nz), most (n + nz)) in
      let t : below_count values nz iso (n + nz) ≡ nz * 1 = omega (arith, most n, most (n + ny * nz), most (n + ny * nz + nz), most (n + nz)) in
      no_face 15 (sides_are 1 (λ m k h z. bits_all (λ j. low (m + j)) nz (omega arith) k h) p q r t) (λ m x z. all_below (edge_offsets ny nz) m x z)

  pub plain_line_lem : plain_line values ny nz iso n ≡ true → line_faces values ny nz iso n (nz - 1) ≡ []
  plain_line_lem h =
      let all = eqb (line_below values ny nz iso n) (4 * nz) in
      ⊎_elim
      (λ q. none_low q.0)
      (λ q. all_low (eqb-true (line_below values ny nz iso n) (4 * nz) (sym (ap (λ (t : Bool). t || all) q.1) ∙ h)))
      (same? (line_below values ny nz iso n) 0)
