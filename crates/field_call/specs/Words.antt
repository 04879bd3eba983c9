-- What the checks and the stages of the call for the field leave, before the ending. Definitions only; assumes nothing.
use Rattle.std.specs.Prelude.{◌≡◌, List, length, Float}
use Rattle.lists.specs.Lists.{zero32, padded}
use Rattle.answers.specs.declared.Answer.{Answer}
use Rattle.scan.specs.FieldAlone.{FieldResults}

-- the values stand in their slice, zeros past them
pub record FieldShown (d : FieldResults) (r : Answer) (field field' : List Float) : Type 0 where
  pub answered : r ≡ d.answer
  pub values : field' ≡ padded zero32 (length field) d.values
