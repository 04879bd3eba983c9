-- The call for the field alone: the part of `reconstructed` up to the level, after the same checks as far as they do not speak of the mesh. Definitions
-- only; assumes nothing.
use Rattle.std.specs.Prelude.{cond, List, [], ℕ, ◌^◌, ltb, length, Float}
use Rattle.lists.specs.Lists.{zeros32}
use Rattle.points.specs.declared.point.Point.{Point}
use Rattle.points.specs.Points.{usables}
use Rattle.settings.specs.declared.Settings.{Settings}
use Rattle.settings.specs.declared.Lengths.{Lengths}
use Rattle.answers.specs.declared.Answer.{Answer}
use Rattle.answers.specs.declared.Refusal.TheVariants.{ScratchRoom}
use Rattle.answers.specs.Answers.{Verdict, accepts, answer_under, ◌when◌, ◌then◌}
use Rattle.settings.specs.Refusals.{early_verdict, usable_verdict, extent_verdict}
use Rattle.ending.specs.Slices.{Scratch}
use Rattle.scan.specs.Reconstruction.{lengths_of, extent_for, field_for, level_for}

-- how long the lent scratch is; there are no slices for a mesh
abbrev pub field_lengths : Scratch → Lengths
field_lengths lent = lengths_of (record { vertices = []; faces = []; scratch = lent })

-- 8 is also given where the slice for the values has less than N = 8^depth elements
unfoldable pub values_verdict : (depth room : ℕ) → Verdict
values_verdict depth room = ScratchRoom when ltb room (8 ^ depth)

-- 7, 1, 2, 3, 8, 4, 5
unfoldable pub field_verdict : (xs : List Float) → Settings → Lengths → (room : ℕ) → Verdict
field_verdict xs st lent room =
    early_verdict xs st lent
    then values_verdict st.depth room
    then usable_verdict (length (usables xs))
    then extent_verdict (extent_for (usables xs))

-- the answer of an accepted call: there is no mesh, so V, F and box are zero
unfoldable pub field_answer : (ps : List Point) → Settings → Answer
field_answer ps st = record { number = 0; usable = length ps; vertices = 0; faces = 0; level = level_for ps st; low = zeros32 3; high = zeros32 3 }

-- an answer, and what stands at the front of the slice for the values
pub record FieldResults : Type 0 where
  pub answer : Answer
  pub values : List Float

-- a refusal has no values
abbrev pub field_under : Verdict → (ps : List Point) → Settings → FieldResults
field_under v ps st = record { answer = answer_under v (field_answer ps st); values = cond (accepts v) (field_for ps st) [] }

unfoldable pub field_results : (xs : List Float) → Settings → Lengths → (room : ℕ) → FieldResults
field_results xs st lent room = field_under (field_verdict xs st lent room) (usables xs) st
