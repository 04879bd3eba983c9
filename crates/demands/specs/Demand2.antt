-- Demand 2 of the mission: "Field, level, mesh and refusal equal the Rust's on every input in 01's domain, the oracle patched with the substitutions 01
-- lists. Square root and narrowing to single precision are proved against IEEE 754-2019, each other stage against 01's rules."
-- Proved, and said here: field, level, mesh and refusal of a call are 01's definitions put together (`scan`, specs/Reconstruction), whatever the input. Each
-- stage's function equals its definition by its own contract; square root and narrowing are said against IEEE 754 in the crate `numbers`.
-- Not proved, but run: that these definitions give what the Rust gives, bit for bit, on recorded and generated calls (docs/DIFFERENCES.md).
-- Definitions only; assumes nothing.
use Rattle.std.specs.Prelude.{◌≡◌, List, length, Float}
use Rattle.lists.specs.Lists.{zero32, padded}
use Rattle.closed.specs.Faces.{corners}
use Rattle.points.specs.Points.{usables}
use Rattle.settings.specs.declared.Settings.{Settings}
use Rattle.answers.specs.declared.Answer.{Answer}
use Rattle.answers.specs.Answers.{number_of}
use Rattle.ending.specs.Slices.{Slices, FieldSlices}
use Rattle.scan.specs.Reconstruction.{field_for, level_for, kept_vertices, kept_faces, lengths_of, verdict_of, accepted_answer}
use Rattle.scan.specs.FieldAlone.{field_lengths, field_verdict}

-- of the whole call
pub record Demand2 (xs : List Float) (st : Settings) (before : Slices) (r : Answer) (after : Slices) : Type 0 where
  -- refusal: the first line of 01's column "given exactly when" that applies, and 0 where none does
  pub refusal : r.number ≡ number_of (verdict_of xs st (lengths_of before))
  -- level
  pub level : r.number ≡ 0 → r.level ≡ level_for (usables xs) st
  -- mesh: at the front of the two slices, zeros past it; its V, F and box, and the count of usable points
  pub vertices : r.number ≡ 0 → after.vertices ≡ padded zero32 (length before.vertices) (kept_vertices (usables xs) st)
  pub faces : r.number ≡ 0 → after.faces ≡ padded 0 (length before.faces) (corners (kept_faces (usables xs) st))
  pub answer : r.number ≡ 0 → r ≡ accepted_answer (usables xs) st

-- of the call for the field alone, which leaves the field where it can be read
pub record Demand2Field (xs : List Float) (st : Settings) (before : FieldSlices) (r : Answer) (after : FieldSlices) : Type 0 where
  pub refusal : r.number ≡ number_of (field_verdict xs st (field_lengths before.scratch) (length before.values))
  pub level : r.number ≡ 0 → r.level ≡ level_for (usables xs) st
  -- field
  pub field : r.number ≡ 0 → after.values ≡ padded zero32 (length before.values) (field_for (usables xs) st)
