-- Which depths there are, how long the seven slices of the levels are, and what they are left with: the words of this crate's contracts. No definition of
-- what is right rests on them. Assumes nothing.
use Rattle.std.specs.Prelude.{◌≡◌, List, ℕ, ◌≤◌, length, Float}
use Rattle.lists.specs.Lists.{zeros32}

-- the depths that there are
abbrev pub IsDepth : ℕ → Type 0
IsDepth depth = (1 ≤ depth) × (depth ≤ 8)

-- each slice of one level has n elements
pub record LevelSlices (n : ℕ) (x b s r p ap : List Float) : Type 0 where
  pub of_x : length x ≡ n
  pub of_b : length b ≡ n
  pub of_s : length s ≡ n
  pub of_r : length r ≡ n
  pub of_p : length p ≡ n
  pub of_ap : length ap ≡ n

-- the seven slices at exit: x is the solution, the other six are zeros
pub record LevelsLeft (n : ℕ) (solution x before b s r p ap : List Float) : Type 0 where
  pub of_x : x ≡ solution
  pub of_before : before ≡ zeros32 n
  pub of_b : b ≡ zeros32 n
  pub of_s : s ≡ zeros32 n
  pub of_r : r ≡ zeros32 n
  pub of_p : p ≡ zeros32 n
  pub of_ap : ap ≡ zeros32 n
