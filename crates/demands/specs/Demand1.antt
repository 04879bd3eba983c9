-- Demand 1 of the mission: "For every bit pattern of points and settings the call ends and stays inside the slices it was lent. The caller checks nothing
-- first. A refusal is one of the ten numbers in document 01, and leaves all result and scratch slices filled with zeros."
-- Its first two sentences need no definition: that it ends and stays inside is shown of every function before a program is made of it, and the calls have no
-- `requires`. Here is the third, of a call that was lent `before`, answered r and left `after`. Definitions only; assumes nothing.
use Rattle.std.specs.Prelude.{◌≡◌, ◌≢◌, List, [], ◌∷◌, ℕ, length}
use Rattle.lists.specs.Lists.{zero32, zeros32, zeros_u}
use Rattle.closed.specs.Lists.{In}
use Rattle.answers.specs.declared.Answer.{Answer}
use Rattle.ending.specs.Slices.{Slices}
use Rattle.ending.specs.Ending.{Cleared}

-- document 01's ten, in order of checking
abbrev pub refusals : List ℕ
refusals = 7 ∷ 1 ∷ 2 ∷ 3 ∷ 8 ∷ 4 ∷ 5 ∷ 9 ∷ 10 ∷ 6 ∷ []

-- 01: "A refusal has every other answer field zero and all result and scratch slices zero"; the slices over their whole length
pub record NothingLeft (r : Answer) (before after : Slices) : Type 0 where
  pub usable_none : r.usable ≡ 0
  pub vertices_none : r.vertices ≡ 0
  pub faces_none : r.faces ≡ 0
  pub level_zero : r.level ≡ zero32
  pub low_zero : r.low ≡ zeros32 3
  pub high_zero : r.high ≡ zeros32 3
  pub vertices_clear : after.vertices ≡ zeros32 (length before.vertices)
  pub faces_clear : after.faces ≡ zeros_u (length before.faces)
  pub scratch_clear : Cleared before.scratch after.scratch

pub record Demand1 (before : Slices) (r : Answer) (after : Slices) : Type 0 where
  -- 0 is acceptance
  pub number_known : In r.number (0 ∷ refusals)
  pub refusal_empty : r.number ≢ 0 → NothingLeft r before after
