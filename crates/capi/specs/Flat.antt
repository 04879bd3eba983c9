-- Settings and answers as numbers and small arrays, as they cross to other languages. Definitions only; assumes nothing.
use Rattle.std.specs.Prelude.{◌≡◌, cond, List, [], ◌∷◌, ℕ, eqb, Float}
use Rattle.lists.specs.Lists.{at, zero32}
use Rattle.settings.specs.declared.Trimming.{Trimming}
use Rattle.settings.specs.declared.Trimming.TheVariants.{Off, Within}
use Rattle.settings.specs.declared.Settings.{Settings}
use Rattle.answers.specs.declared.Answer.{Answer}
use Rattle.settings.specs.declared.Lengths.{Lengths}
use Rattle.settings.specs.Settings.{defaults}
use Rattle.ending.specs.Slices.{Slices, FieldSlices}
use Rattle.scan.specs.Reconstruction.{Results}
use Rattle.scan.specs.FieldAlone.{FieldResults}
use Rattle.field_call.specs.Outcome.{FieldDone}
use Rattle.poisson.specs.Outcome.{Done}

-- ---- in

-- 0 is off, all else is within the distance
abbrev pub trimming_from : (trimming : ℕ) (distance : Float) → Trimming
trimming_from trimming distance = cond (eqb trimming 0) Off (Within distance)

abbrev pub settings_from : (depth : ℕ) (smoothing isoOffset : Float) (trimming : ℕ) (distance : Float) (iterations : ℕ) (tolerance : Float) → Settings
settings_from depth smoothing isoOffset trimming distance iterations tolerance =
    record {
      depth = depth;
      smoothing = smoothing;
      iso_offset = isoOffset;
      trimming = trimming_from trimming distance;
      max_iterations = iterations;
      tolerance = tolerance;
    }

-- ---- out

-- usable points, V, F, then zeros
abbrev pub counts_of : Answer → List ℕ
counts_of r = r.usable ∷ r.vertices ∷ r.faces ∷ 0 ∷ 0 ∷ 0 ∷ 0 ∷ 0 ∷ []

-- level, low x y z, high x y z, then zero
abbrev pub values_of : Answer → List Float
values_of r = r.level ∷ at r.low 0 ∷ at r.low 1 ∷ at r.low 2 ∷ at r.high 0 ∷ at r.high 1 ∷ at r.high 2 ∷ zero32 ∷ []

-- an answer as it crosses: its number, and the rest in two small arrays
pub record AnswerTold (answer : Answer) (number : ℕ) (counts : List ℕ) (values : List Float) : Type 0 where
  pub number_is : number ≡ answer.number
  pub counts_are : counts ≡ counts_of answer
  pub values_are : values ≡ values_of answer

-- the whole of a call: what is `Done` of the crate `poisson` for an answer, and that is told
pub record Told (results : Lengths → Results) (number : ℕ) (counts : List ℕ) (values : List Float) (before after : Slices) : Type 0 where
  pub answer : Answer
  pub told : AnswerTold answer number counts values
  pub done : Done results answer before after

-- the same of `FieldDone`
pub record FieldTold (results : Lengths → (room : ℕ) → FieldResults) (number : ℕ) (counts : List ℕ) (values : List Float)
    (before after : FieldSlices) : Type 0 where
  pub answer : Answer
  pub told : AnswerTold answer number counts values
  pub done : FieldDone results answer before after

-- ---- the defaults: depth, trimming flag, iterations; smoothing, offset, distance; tolerance

abbrev pub default_words : List ℕ
default_words = defaults.depth ∷ 0 ∷ defaults.max_iterations ∷ 0 ∷ 0 ∷ 0 ∷ 0 ∷ 0 ∷ []

abbrev pub default_values : List Float
default_values = defaults.smoothing ∷ defaults.iso_offset ∷ zero32 ∷ zero32 ∷ zero32 ∷ zero32 ∷ zero32 ∷ zero32 ∷ []

abbrev pub default_tolerance : List Float
default_tolerance = defaults.tolerance ∷ []
