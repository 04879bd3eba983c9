-- What the call for the field alone leaves, in one record: the answer, the values at the front of their slice with zeros past them, and zeros in all
-- scratch; whole slices, also where they are longer than stated. What the results are is `field_results` of the crate `scan`, of the lengths that were lent.
-- Definitions only; assumes nothing.
use Rattle.std.specs.Prelude.{◌≡◌, ℕ, length}
use Rattle.lists.specs.Lists.{zero32, padded}
use Rattle.answers.specs.declared.Answer.{Answer}
use Rattle.settings.specs.declared.Lengths.{Lengths}
use Rattle.ending.specs.Slices.{FieldSlices}
use Rattle.ending.specs.Ending.{Cleared}
use Rattle.scan.specs.FieldAlone.{FieldResults, field_lengths}

-- what the results are, given the slices
abbrev pub field_of : (Lengths → (room : ℕ) → FieldResults) → (lent : FieldSlices) → FieldResults
field_of results lent = results (field_lengths lent.scratch) (length lent.values)

pub record FieldDone (results : Lengths → (room : ℕ) → FieldResults) (r : Answer) (before after : FieldSlices) : Type 0 where
  pub answered : r ≡ (field_of results before).answer
  pub values : after.values ≡ padded zero32 (length before.values) (field_of results before).values
  pub scratch : Cleared before.scratch after.scratch
