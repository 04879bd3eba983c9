-- What three nested loops over i, j and k have done when they stand before i j k: the whole of the outer turns, of the middle turns and of the inner turns.
-- For a loop that joins lists (`before3`) and for one that adds numbers (`sum_before3`); their laws are in proofs/Laws/Loops. For the programs of other
-- crates. Definitions only; assumes nothing.
use Rattle.std.specs.Prelude.{ℕ, ◌+◌}
use mathlib.Core.List.{List, ◌++◌}
use Rattle.closed.specs.Lists.{sum, cells}

-- ---- lists

module _ {A : Type 0} where
  unfoldable pub before3 : ℕ → ℕ → (ℕ → ℕ → ℕ → List A) → ℕ → ℕ → ℕ → List A
  before3 n p f i j k =
      cells i (λ a. cells n (λ b. cells p (λ c. f a b c))) ++ cells j (λ b. cells p (λ c. f i b c)) ++ cells k (λ c. f i j c)

-- ---- numbers

unfoldable pub sum_before3 : ℕ → ℕ → (ℕ → ℕ → ℕ → ℕ) → ℕ → ℕ → ℕ → ℕ
sum_before3 n p f i j k = sum i (λ a. sum n (λ b. sum p (λ c. f a b c))) + sum j (λ b. sum p (λ c. f i b c)) + sum k (λ c. f i j c)
