-- How many vertices there are: as many as crossed edges, counted over all edges of the grid. A list without repeats is as long as there are numbers that
-- stand in it; over the numbers 3 · node + axis that is a sum over all nodes and axes; and a number stands in it exactly where the edge crosses. Assumes
-- nothing.
use Rattle.std.specs.Prelude.{◌≡◌, refl, ◌≢◌, Bool, true, false, ◌||◌, List, [], ◌∷◌, ℕ, zero, suc, ◌+◌, ◌-◌, ◌*◌, ◌≤◌, ◌<◌, eqb, length}
use Rattle.std.proofs.Math.Path.{sym, ap}
use Rattle.std.proofs.Common.{ap₂, ◌∙◌, subst, arith, ne_eqb}
use Rattle.std.proofs.Math.Logic.{⊎_elim}
use Rattle.std.proofs.Math.Nat.{zero-add}
use Rattle.std.proofs.Math.Numerals.{lt_of_le_of_ne}
use Rattle.closed.specs.Lists.{bit, All, member, In, sum, sum3}
use Rattle.closed.specs.Numbering.{index_of, used, NoRepeat}
use Rattle.closed.specs.Table.{differ}
use Rattle.closed.specs.Grid.{node, edge, grid_faces, Crossed, along_x, along_y, along_z, crossed_count}
use Rattle.closed.proofs.Laws.Sums.{sum_cong, sum_nothing, sum_add, sum_rows, sum3_add, sum3_cong, sum3_less_first, sum3_less_second, sum3_less_third}
use Rattle.closed.proofs.Laws.Counting.{same?}
use Rattle.closed.proofs.Laws.Renumber.{in_or_not, at_index_of, index_of_lt, in_all}
use Rattle.closed.proofs.Laws.Mesh.{used_member, used_no_repeat}
use Rattle.closed.proofs.Laws.Crossings.{edge_unique, node_unique, crossed_lt, crossed_used, used_crossed}

-- ---- small facts

same_bool : (s t : Bool) → (s ≡ true → t ≡ true) → (t ≡ true → s ≡ true) → s ≡ t
same_bool true t f g = sym (f refl)
same_bool false true f g = g refl
same_bool false false f g = refl

moved : (P : ℕ → ℕ → ℕ → Type 0) {a b c x y z : ℕ} → a ≡ x → b ≡ y → c ≡ z → P a b c → P x y z
moved P p q r h = subst (λ (t : Type 0). t) (λ i. P (p i) (q i) (r i)) h

-- ---- a list without repeats is as long as there are numbers in it

sum_one : (n x : ℕ) → x < n → sum n (λ e. bit (eqb e x)) ≡ 1
unfolding sum
sum_one zero x h = absurd (omega arith)
sum_one (suc n) x h = ⊎_elim last (before (sum_one n x)) (same? n x)
  where
    last : (n ≡ x) × (eqb n x ≡ true) → sum n (λ e. bit (eqb e x)) + bit (eqb n x) ≡ 1
    last p = omega (arith, sum_nothing n (λ e. bit (eqb e x)) (λ e b. ap bit (ne_eqb e x (λ q. omega (arith, q, p.0)))), ap bit p.1)

    before : (x < n → sum n (λ e. bit (eqb e x)) ≡ 1) → (n ≢ x) × (eqb n x ≡ false) → sum n (λ e. bit (eqb e x)) + bit (eqb n x) ≡ 1
    before below p = omega (arith, below (lt_of_le_of_ne (omega arith) (λ q. p.0 (sym q))), ap bit p.1)

module _ (x : ℕ) (l : List ℕ) (u : NoRepeat (x ∷ l)) where
  head_new : member x l ≡ false
  head_new =
      ⊎_elim
      (λ h. absurd (zero_suc (index_of x l) (u 0 (suc (index_of x l)) (omega arith) (omega (arith, index_of_lt x l h)) (sym (at_index_of x l 0 h)))))
      (λ n. n)
      (in_or_not x l)
    where
      zero_suc : (n : ℕ) → 0 ≡ suc n → ⊥
      zero_suc n e = omega (arith, e)

  tail_no_repeat : NoRepeat l
  tail_no_repeat i j hi hj e = omega (arith, u (suc i) (suc j) (omega arith) (omega arith) e)

  bit_member : (e : ℕ) → bit (member e (x ∷ l)) ≡ bit (eqb e x) + bit (member e l)
  unfolding member
  bit_member e =
      ⊎_elim
      (λ p. ap (λ (t : Bool). bit (t || member e l)) p.1
      ∙ sym (ap₂ (λ (s t : Bool). bit s + bit t) p.1 (ap (λ (z : ℕ). member z l) p.0 ∙ head_new)))
      (λ n. ap (λ (t : Bool). bit (t || member e l)) n.1
      ∙ sym (ap (λ (s : Bool). bit s + bit (member e l)) n.1 ∙ zero-add (bit (member e l))))
      (same? e x)

pub length_members : (n : ℕ) (l : List ℕ) → NoRepeat l → All (λ x. x < n) l → length l ≡ sum n (λ e. bit (member e l))
unfolding member
length_members n [] u a = sym (sum_nothing n (λ e. 0) (λ e b. refl))
length_members n (x ∷ l) u a =
    omega (
      arith,
      length_members n l (tail_no_repeat x l u) a.1,
      sum_one n x a.0,
      sum_add n (λ e. bit (eqb e x)) (λ e. bit (member e l)),
      sum_cong n (λ e. bit (member e (x ∷ l))) (λ e. bit (eqb e x) + bit (member e l)) (λ e b. bit_member x l u e),
    )

-- ---- a sum over all edge numbers is one over all nodes and axes

sum_axes : (n : ℕ) (f : ℕ → ℕ) → sum (3 * n) f ≡ sum n (λ m. f (edge m 0) + f (edge m 1) + f (edge m 2))
unfolding sum edge
sum_axes zero f = refl
sum_axes (suc n) f =
    ap (λ (l : ℕ). sum l f) (three n)
    ∙ ap (λ (s : ℕ). s + f (3 * n) + f (suc (3 * n)) + f (suc (suc (3 * n)))) (sum_axes n f)
    ∙ omega (arith, ap f (first n), ap f (second n), ap f (third n))
  where
    three : (n : ℕ) → 3 * suc n ≡ suc (suc (suc (3 * n)))
    three n = omega arith

    first : (n : ℕ) → 3 * n ≡ 3 * n + 0
    first n = omega arith

    second : (n : ℕ) → suc (3 * n) ≡ 3 * n + 1
    second n = omega arith

    third : (n : ℕ) → suc (suc (3 * n)) ≡ 3 * n + 2
    third n = omega arith

sum_nodes : (nx ny nz : ℕ) (f : ℕ → ℕ) → sum (nx * ny * nz) f ≡ sum3 nx ny nz (λ i j k. f (node ny nz i j k))
unfolding sum3 node
sum_nodes nx ny nz f = sum_rows (nx * ny) nz f ∙ sum_rows nx ny (λ r. sum nz (λ k. f (r * nz + k)))

sum_edges : (nx ny nz : ℕ) (f : ℕ → ℕ)
    → sum (3 * (nx * ny * nz)) f
    ≡ sum3 nx ny nz (λ i j k. f (edge (node ny nz i j k) 0)) + sum3 nx ny nz (λ i j k. f (edge (node ny nz i j k) 1)) + sum3 nx ny nz (λ i j k. f (edge (node ny nz i j k) 2))
sum_edges nx ny nz f =
    omega (
      arith,
      sum_axes (nx * ny * nz) f,
      sum_nodes nx ny nz (λ m. f (edge m 0) + f (edge m 1) + f (edge m 2)),
      sum3_add nx ny nz (λ i j k. f (edge (node ny nz i j k) 0) + f (edge (node ny nz i j k) 1)) (λ i j k. f (edge (node ny nz i j k) 2)),
      sum3_add nx ny nz (λ i j k. f (edge (node ny nz i j k) 0)) (λ i j k. f (edge (node ny nz i j k) 1)),
    )

-- ---- a number that names an edge of the grid, and is crossed, names an edge that stays in the grid and whose ends differ

module _ (nx ny nz : ℕ) (below : ℕ → ℕ → ℕ → Bool) (i j k : ℕ) (bj : j < ny) (bk : k < nz) where
  same_node : (i' j' k' a b : ℕ) → j' < ny → k' < nz → a < 3 → b < 3 → edge (node ny nz i j k) a ≡ edge (node ny nz i' j' k') b
      → (a ≡ b) × (i' ≡ i) × (j' ≡ j) × (k' ≡ k)
  same_node i' j' k' a b bj' bk' ha hb e =
      let u = edge_unique (node ny nz i j k) a (node ny nz i' j' k') b ha hb e in
      let v = node_unique ny nz i j k i' j' k' bj bk bj' bk' u.0 in
      (u.1, sym v.0, sym v.1, sym v.2)

  crossed_at_x : Crossed nx ny nz below (edge (node ny nz i j k) 0) → (i + 1 < nx) × (differ (below i j k) (below (i + 1) j k) ≡ true)
  crossed_at_x (along_x i' j' k' ci cj ck p h) =
      let s = same_node i' j' k' 0 0 cj ck (omega arith) (omega arith) p in
      (omega (arith, s.1), moved (λ a b c. differ (below a b c) (below (a + 1) b c) ≡ true) s.1 s.2 s.3 h)
  crossed_at_x (along_y i' j' k' ci cj ck p h) = absurd (omega (arith, (same_node i' j' k' 0 1 (omega arith) ck (omega arith) (omega arith) p).0))
  crossed_at_x (along_z i' j' k' ci cj ck p h) = absurd (omega (arith, (same_node i' j' k' 0 2 cj (omega arith) (omega arith) (omega arith) p).0))

  crossed_at_y : Crossed nx ny nz below (edge (node ny nz i j k) 1) → (j + 1 < ny) × (differ (below i j k) (below i (j + 1) k) ≡ true)
  crossed_at_y (along_x i' j' k' ci cj ck p h) = absurd (omega (arith, (same_node i' j' k' 1 0 cj ck (omega arith) (omega arith) p).0))
  crossed_at_y (along_y i' j' k' ci cj ck p h) =
      let s = same_node i' j' k' 1 1 (omega arith) ck (omega arith) (omega arith) p in
      (omega (arith, s.2), moved (λ a b c. differ (below a b c) (below a (b + 1) c) ≡ true) s.1 s.2 s.3 h)
  crossed_at_y (along_z i' j' k' ci cj ck p h) = absurd (omega (arith, (same_node i' j' k' 1 2 cj (omega arith) (omega arith) (omega arith) p).0))

  crossed_at_z : Crossed nx ny nz below (edge (node ny nz i j k) 2) → (k + 1 < nz) × (differ (below i j k) (below i j (k + 1)) ≡ true)
  crossed_at_z (along_x i' j' k' ci cj ck p h) = absurd (omega (arith, (same_node i' j' k' 2 0 cj ck (omega arith) (omega arith) p).0))
  crossed_at_z (along_y i' j' k' ci cj ck p h) = absurd (omega (arith, (same_node i' j' k' 2 1 (omega arith) ck (omega arith) (omega arith) p).0))
  crossed_at_z (along_z i' j' k' ci cj ck p h) =
      let s = same_node i' j' k' 2 2 cj (omega arith) (omega arith) (omega arith) p in
      (omega (arith, s.3), moved (λ a b c. differ (below a b c) (below a b (c + 1)) ≡ true) s.1 s.2 s.3 h)

-- ---- the count

module _ (nx ny nz : ℕ) (hx : 2 ≤ nx) (hy : 2 ≤ ny) (hz : 2 ≤ nz) (below : ℕ → ℕ → ℕ → Bool) where
  vertices : List ℕ
  vertices = used (grid_faces nx ny nz below)

  in_crossed : (e : ℕ) → In e vertices → Crossed nx ny nz below e
  unfolding vertices
  in_crossed e h = used_crossed nx ny nz hx hy hz below e (sym (used_member (grid_faces nx ny nz below) e) ∙ h)

  crossed_in : (e : ℕ) → Crossed nx ny nz below e → In e vertices
  unfolding vertices
  crossed_in e c = used_member (grid_faces nx ny nz below) e ∙ crossed_used nx ny nz hx hy hz below e c

  -- V is how many edge numbers stand in the list
  pub used_members : length (used (grid_faces nx ny nz below)) ≡ sum (3 * (nx * ny * nz)) (λ e. bit (member e (used (grid_faces nx ny nz below))))
  unfolding vertices
  used_members =
      length_members (3 * (nx * ny * nz)) vertices (used_no_repeat (grid_faces nx ny nz below))
      (in_all (λ e. e < 3 * (nx * ny * nz)) vertices (λ e m. crossed_lt nx ny nz below e (in_crossed e m)))

  none_in : (e : ℕ) → (Crossed nx ny nz below e → ⊥) → bit (member e vertices) ≡ 0
  none_in e h = ap bit (⊎_elim (λ m. absurd (h (in_crossed e m))) (λ n. n) (in_or_not e vertices))

  count_x : sum3 nx ny nz (λ i j k. bit (member (edge (node ny nz i j k) 0) vertices))
      ≡ sum3 (nx - 1) ny nz (λ i j k. bit (differ (below i j k) (below (i + 1) j k)))
  count_x =
      sum3_less_first nx ny nz _ (λ j k o bj bk. none_in _ (λ c. omega (arith, (crossed_at_x nx ny nz below (nx - 1) j k bj bk c).0)))
      ∙ sum3_cong (nx - 1) ny nz _ _ (λ i j k bi bj bk.
      ap bit (same_bool _ _ (λ m. (crossed_at_x nx ny nz below i j k bj bk (in_crossed _ m)).1)
      (λ h. crossed_in _ (along_x i j k (omega arith) bj bk refl h))))

  count_y : sum3 nx ny nz (λ i j k. bit (member (edge (node ny nz i j k) 1) vertices))
      ≡ sum3 nx (ny - 1) nz (λ i j k. bit (differ (below i j k) (below i (j + 1) k)))
  count_y =
      sum3_less_second nx ny nz _ (λ i k bi o bk. none_in _ (λ c. omega (arith, (crossed_at_y nx ny nz below i (ny - 1) k (omega arith) bk c).0)))
      ∙ sum3_cong nx (ny - 1) nz _ _ (λ i j k bi bj bk.
      ap bit (same_bool _ _ (λ m. (crossed_at_y nx ny nz below i j k (omega arith) bk (in_crossed _ m)).1)
      (λ h. crossed_in _ (along_y i j k bi (omega arith) bk refl h))))

  count_z : sum3 nx ny nz (λ i j k. bit (member (edge (node ny nz i j k) 2) vertices))
      ≡ sum3 nx ny (nz - 1) (λ i j k. bit (differ (below i j k) (below i j (k + 1))))
  count_z =
      sum3_less_third nx ny nz _ (λ i j bi bj o. none_in _ (λ c. omega (arith, (crossed_at_z nx ny nz below i j (nz - 1) bj (omega arith) c).0)))
      ∙ sum3_cong nx ny (nz - 1) _ _ (λ i j k bi bj bk.
      ap bit (same_bool _ _ (λ m. (crossed_at_z nx ny nz below i j k bj (omega arith) (in_crossed _ m)).1)
      (λ h. crossed_in _ (along_z i j k bi bj (omega arith) refl h))))

  pub vertices_count : length (used (grid_faces nx ny nz below)) ≡ crossed_count nx ny nz below
  unfolding vertices crossed_count
  vertices_count = omega (arith, used_members, sum_edges nx ny nz (λ e. bit (member e vertices)), count_x, count_y, count_z)
