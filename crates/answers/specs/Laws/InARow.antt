-- What verdicts in a row tell: only `Pass` accepts and has number 0, the first that refuses stands, and where all pass each does. By cases. Assumes nothing.
use Rattle.std.specs.Prelude.{◌≡◌, refl, Bool, true, false, eqb, Ok, Err}
use Rattle.std.proofs.Common.{sym, ap, ◌∙◌, true≢false, eq-eqb}
use Rattle.answers.specs.declared.Answer.{Answer}
use Rattle.answers.specs.declared.Refusal.{Refusal}
use Rattle.answers.specs.declared.Refusal.TheVariants.{PointSlice, NoPoints, Depth, Smoothing, ScratchRoom, TooFew, Flat, VertexRoom, FaceRoom, NoFace}
use Rattle.answers.specs.Answers.{Verdict, Pass, refusal_number, number_of, accepts, answer_under, ◌when◌, ◌then◌}

-- only `Pass` accepts
pub accepted : (v : Verdict) → accepts v ≡ true → v ≡ Pass
accepted (Ok t) e = refl
accepted (Err r) e = absurd (true≢false (sym e))

-- number 0 is acceptance
nonzero : (r : Refusal) → eqb (refusal_number r) 0 ≡ false
nonzero PointSlice = refl
nonzero NoPoints = refl
nonzero Depth = refl
nonzero Smoothing = refl
nonzero ScratchRoom = refl
nonzero TooFew = refl
nonzero Flat = refl
nonzero VertexRoom = refl
nonzero FaceRoom = refl
nonzero NoFace = refl

pub passed : (v : Verdict) → number_of v ≡ 0 → v ≡ Pass
passed (Ok t) e = refl
passed (Err r) e = absurd (true≢false (sym (eq-eqb (refusal_number r) 0 e) ∙ nonzero r))

-- whatever would be answered under acceptance, the number is the verdict's
pub number_under : (v : Verdict) (a : Answer) → a.number ≡ 0 → (answer_under v a).number ≡ number_of v
number_under (Ok t) a z = z
number_under (Err r) a z = refl

-- where both of two verdicts are asked and none refuses, each passes
pub both_pass : (v w : Verdict) → v then w ≡ Pass → (v ≡ Pass) × (w ≡ Pass)
both_pass (Ok t) w e = (refl, e)
both_pass (Err r) w e = absurd (true≢false (sym (ap accepts e)))

-- it does not matter how checks in a row are grouped
pub then_assoc : (u v w : Verdict) → (u then v) then w ≡ u then (v then w)
then_assoc (Ok t) v w = refl
then_assoc (Err r) v w = refl

-- a refusal stands, whatever would follow
pub refusal_stands : (v w : Verdict) → accepts v ≡ false → v then w ≡ v
refusal_stands (Ok t) w e = absurd (true≢false e)
refusal_stands (Err r) w e = refl

-- a refusal that is not given: its test fails
pub unless : (r : Refusal) (b : Bool) → r when b ≡ Pass → b ≡ false
unless r true h = absurd (true≢false (sym (ap accepts h)))
unless r false h = refl
