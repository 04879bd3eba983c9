-- The rule of the table, from its test: a table that passes `table_test` keeps the rule in all 256 cases (`table_by_test`), and the table does, by one
-- computed test (`table_rule`). A case is eight bits, so the rule at any corners b is the test at the list of b 0 .. b 7. Assumes nothing.
use Rattle.std.specs.Prelude.{◌≡◌, refl, Bool, true, false, ◌&&◌, List, [], ◌∷◌, ◌++◌, map, ℕ, zero, suc, ◌≤◌, ◌<◌, length, get_or}
use Rattle.std.proofs.Common.{sym, ap, ◌∙◌, ⊎_elim, true≢false, arith}
use Rattle.std.specs.Bool.{beq}
use Rattle.std.proofs.Math.Decide.{dec_lt}
use Rattle.std.proofs.Math.ListN.{get_or-eq_default}
use Rattle.closed.specs.Lists.{count, every, All, member, In, upto}
use Rattle.closed.specs.Faces.{Face, corners}
use Rattle.closed.specs.Table.{Arc, flip, arcs, cube_edges, edges, differ, crosses, case_of, cube_sides, Row, Table, balanced_test, apart_test, row_test, all_bits, table_test}
use Rattle.closed.specs.Rows.{rows, row, triangles, emitted}
use Rattle.closed.proofs.Laws.Counting.{every_all, both_true}
use Rattle.closed.proofs.Laws.Renumber.{all_in, in_or_not, in_at, at_upto}
use Rattle.closed.proofs.Laws.Arcs.{balanced_by_test, apart_by_test, balanced_net}
use Rattle.closed.specs.Laws.Arcs.{ends}

-- ---- a test of all lists of n bits, at one of them

pub all_bits_at : (n : ℕ) (p : List Bool → Bool) → all_bits n p ≡ true → (l : List Bool) → length l ≡ n → p l ≡ true
all_bits_at zero p h [] e = h
all_bits_at zero p h (b ∷ l) e = absurd (omega arith)
all_bits_at (suc n) p h [] e = absurd (omega arith)
all_bits_at (suc n) p h (false ∷ l) e =
    all_bits_at n (λ l. p (false ∷ l)) (both_true (all_bits n (λ l. p (false ∷ l))) (all_bits n (λ l. p (true ∷ l))) h).0 l (omega arith)
all_bits_at (suc n) p h (true ∷ l) e =
    all_bits_at n (λ l. p (true ∷ l)) (both_true (all_bits n (λ l. p (false ∷ l))) (all_bits n (λ l. p (true ∷ l))) h).1 l (omega arith)

-- ---- what is no edge of the cube does not cross

pub in_cube_edges : (e : ℕ) → e < 12 → In e cube_edges
unfolding upto
in_cube_edges e h = sym (ap (λ (x : ℕ). member x (upto 12)) (at_upto 12 e 0 h)) ∙ in_at (upto 12) 0 e h

differ_same : (t : Bool) → differ t t ≡ false
differ_same true = refl
differ_same false = refl

crosses_none : (b : ℕ → Bool) (e : ℕ) → 12 ≤ e → crosses b e ≡ false
crosses_none b e h =
    ap (λ (p : ℕ × ℕ). differ (b p.0) (b p.1)) (get_or-eq_default edges (0, 0) {n = e} h) ∙ differ_same (b 0)

beq_equal : (s t : Bool) → beq s t ≡ true → s ≡ t
beq_equal true true h = refl
beq_equal true false h = sym h
beq_equal false true h = h
beq_equal false false h = refl

exact_by_test : (b : ℕ → Bool) (es : List ℕ) → every (λ e. member e cube_edges) es ≡ true → every (λ e. beq (member e es) (crosses b e)) cube_edges ≡ true
    → (e : ℕ) → member e es ≡ crosses b e
exact_by_test b es known right e = by_cases (dec_lt e 12)
  where
    out : ¬ (e < 12) → member e es ≡ false
    out n = ⊎_elim (λ m. absurd (n (small (all_in (λ x. member x cube_edges ≡ true) es (every_all (λ x. member x cube_edges) es known) e m)))) (λ f. f) (in_or_not e es)
      where
        small : In e cube_edges → e < 12
        small m = all_in (λ x. x < 12) cube_edges (omega arith) e m

    by_cases : Dec (e < 12) → member e es ≡ crosses b e
    by_cases (yes p) =
        beq_equal (member e es) (crosses b e)
        (all_in (λ x. beq (member x es) (crosses b x) ≡ true) cube_edges (every_all (λ x. beq (member x es) (crosses b x)) cube_edges right) e (in_cube_edges e p))
    by_cases (no p) = out p ∙ sym (crosses_none b e (omega arith))

-- ---- the rule, from the test

module _ (tri : ℕ → List Face) (b : ℕ → Bool) where
  row_by_test : row_test tri b ≡ true → Row tri b
  row_by_test h =
      let fs : List Face = tri (case_of b) in
      let xs : List Arc = arcs fs ++ map flip (cube_sides b) in
      let right : Bool = every (λ e. beq (member e (corners fs)) (crosses b e)) cube_edges in
      let known : Bool = every (λ e. member e cube_edges) (corners fs) in
      let t = both_true (every apart_test fs && known && right) (balanced_test xs) h in
      let r = both_true (every apart_test fs && known) right t.0 in
      let u = both_true (every apart_test fs) known r.0 in
      record {
        exact = exact_by_test b (corners fs) u.1 r.1;
        apart = apart_by_test fs u.0;
        even = balanced_net (arcs fs) (cube_sides b) (balanced_by_test xs t.1);
      }

-- the corners of a case, as a list
abbrev eight : (ℕ → Bool) → List Bool
eight b = b 0 ∷ b 1 ∷ b 2 ∷ b 3 ∷ b 4 ∷ b 5 ∷ b 6 ∷ b 7 ∷ []

pub table_by_test : (tri : ℕ → List Face) → table_test tri ≡ true → Table tri
unfolding table_test
table_by_test tri h b = row_by_test tri b (all_bits_at 8 (λ l. row_test tri (λ c. get_or l c false)) h (eight b) refl)

-- the table keeps the rule, over all 256 rows
pub table_rule : Table emitted
unfolding table_test balanced_test count member emitted triangles row rows
table_rule = table_by_test emitted refl

-- ---- what a cube's sides yield runs between the cube's edges, by the same kind of test

pub sides_known : (b : ℕ → Bool) → All (λ e. In e cube_edges) (ends (cube_sides b))
unfolding member
sides_known b =
    every_all (λ e. member e cube_edges) (ends (cube_sides b))
    (all_bits_at 8 (λ l. every (λ e. member e cube_edges) (ends (cube_sides (λ c. get_or l c false)))) refl (eight b) refl)

-- a row uses the cube's edges alone
pub exact_known : (b : ℕ → Bool) (e : ℕ) → In e (corners (emitted (case_of b))) → In e cube_edges
exact_known b e m = by_cases (dec_lt e 12)
  where
    by_cases : Dec (e < 12) → In e cube_edges
    by_cases (yes p) = in_cube_edges e p
    by_cases (no p) = absurd (true≢false (sym m ∙ (table_rule b).exact e ∙ crosses_none b e (omega arith)))
