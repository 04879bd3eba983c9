-- What a call leaves, in one record: the answer, the mesh at the front of the result slices with zeros past it, and zeros in all scratch; whole slices, also
-- where they are longer than stated (document 01, "What crosses the counter"). What the results are is `reconstructed` of the crate `scan`, of the lengths
-- that were lent. Definitions only; assumes nothing.
use Rattle.std.specs.Prelude.{◌≡◌, length}
use Rattle.lists.specs.Lists.{zero32, padded}
use Rattle.answers.specs.declared.Answer.{Answer}
use Rattle.settings.specs.declared.Lengths.{Lengths}
use Rattle.ending.specs.Slices.{Slices}
use Rattle.ending.specs.Ending.{Cleared}
use Rattle.scan.specs.Reconstruction.{Results, lengths_of}

pub record Done (results : Lengths → Results) (r : Answer) (before after : Slices) : Type 0 where
  pub answered : r ≡ (results (lengths_of before)).answer
  pub vertices : after.vertices ≡ padded zero32 (length before.vertices) (results (lengths_of before)).vertices
  pub faces : after.faces ≡ padded 0 (length before.faces) (results (lengths_of before)).faces
  pub scratch : Cleared before.scratch after.scratch
