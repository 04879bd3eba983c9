-- What three nested loops over i, j and k have done when they stand before i j k: the whole of the outer turns, of the middle turns and of the inner turns.
-- For a loop that joins lists (`before3`) and for one that adds numbers (`sum_before3`): the start, a turn, the end of a row, of a layer and of all.
-- For the programs of other crates. Assumes nothing.
use Rattle.std.specs.Prelude.{◌≡◌, ℕ, ◌+◌}
use Rattle.std.proofs.Math.Path.{refl}
use mathlib.Core.List.{List, [], ◌++◌, append_assoc, append-nil}
use native.Mathlib.Omega.{arith}
use Rattle.closed.specs.Lists.{sum, sum3, cells, cells3}
use Rattle.closed.proofs.Laws.Sums.{sum_zero, sum_one_more}
use Rattle.closed.proofs.Laws.Counting.{cells_zero, cells_one_more}
use Rattle.closed.specs.Laws.Loops.{before3, sum_before3}

-- ---- lists

module _ {A : Type 0} where
  pub before3_start : (n p : ℕ) (f : ℕ → ℕ → ℕ → List A) → before3 n p f 0 0 0 ≡ []
  unfolding before3 cells
  before3_start n p f = refl

  -- a turn of the inner loop
  pub before3_turn : (n p : ℕ) (f : ℕ → ℕ → ℕ → List A) (i j k : ℕ) → before3 n p f i j (k + 1) ≡ before3 n p f i j k ++ f i j k
  unfolding before3
  before3_turn n p f i j k = simp (cells_one_more, append_assoc)

  -- the inner loop has ended, and then the middle one
  pub before3_row : (n p : ℕ) (f : ℕ → ℕ → ℕ → List A) (i j : ℕ) → before3 n p f i j p ≡ before3 n p f i (j + 1) 0
  unfolding before3
  before3_row n p f i j = simp (cells_one_more, cells_zero, append_assoc, append-nil)

  pub before3_layer : (n p : ℕ) (f : ℕ → ℕ → ℕ → List A) (i : ℕ) → before3 n p f i n 0 ≡ before3 n p f (i + 1) 0 0
  unfolding before3
  before3_layer n p f i = simp (cells_one_more, cells_zero, append_assoc, append-nil)

  pub before3_end : (m n p : ℕ) (f : ℕ → ℕ → ℕ → List A) → before3 n p f m 0 0 ≡ cells3 m n p f
  unfolding before3 cells3
  before3_end m n p f = simp (cells_zero, append-nil)

-- ---- numbers

module _ (n p : ℕ) (f : ℕ → ℕ → ℕ → ℕ) where
  pub sum_before3_start : sum_before3 n p f 0 0 0 ≡ 0
  unfolding sum_before3 sum
  sum_before3_start = refl

  -- a turn of the inner loop
  pub sum_before3_turn : (i j k : ℕ) → sum_before3 n p f i j (k + 1) ≡ sum_before3 n p f i j k + f i j k
  unfolding sum_before3
  sum_before3_turn i j k = rw (sum_one_more k) (omega arith)

  -- the inner loop has ended, and then the middle one
  pub sum_before3_row : (i j : ℕ) → sum_before3 n p f i j p ≡ sum_before3 n p f i (j + 1) 0
  unfolding sum_before3
  sum_before3_row i j = rw (sum_one_more j, sum_zero) (omega arith)

  pub sum_before3_layer : (i : ℕ) → sum_before3 n p f i n 0 ≡ sum_before3 n p f (i + 1) 0 0
  unfolding sum_before3 sum
  sum_before3_layer i = omega (arith, sum_one_more i (λ a. sum n (λ b. sum p (λ c. f a b c))))

  pub sum_before3_end : (m : ℕ) → sum_before3 n p f m 0 0 ≡ sum3 m n p f
  unfolding sum_before3 sum3 sum
  sum_before3_end m = omega arith
