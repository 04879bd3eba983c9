-- Document 01, "Numbers of refusal": the number of each refusal, and the answer's values under each verdict. Definitions only; assumes nothing.
use Rattle.std.specs.Prelude.{Bool, cond, ℕ, Result, Ok, Err, is_ok, ⊤}
use Rattle.lists.specs.Lists.{zeros32, zero32}
use Rattle.answers.specs.declared.Answer.{Answer}
use Rattle.answers.specs.declared.Refusal.{Refusal}
use Rattle.answers.specs.declared.Refusal.TheVariants.{PointSlice, NoPoints, Depth, Smoothing, ScratchRoom, TooFew, Flat, VertexRoom, FaceRoom, NoFace}

-- what a check answers: acceptance, or why a call is refused
abbrev pub Verdict : Type 0
Verdict = Result ⊤ Refusal

abbrev pub Pass : Verdict
Pass = Ok tt

-- 1 to 6 are the repository's, 7 to 10 are added
abbrev pub refusal_number : Refusal → ℕ
refusal_number NoPoints = 1
refusal_number Depth = 2
refusal_number Smoothing = 3
refusal_number TooFew = 4
refusal_number Flat = 5
refusal_number NoFace = 6
refusal_number PointSlice = 7
refusal_number ScratchRoom = 8
refusal_number VertexRoom = 9
refusal_number FaceRoom = 10

-- 0 is acceptance
abbrev pub number_of : Verdict → ℕ
number_of (Ok t) = 0
number_of (Err r) = refusal_number r

abbrev pub accepts : Verdict → Bool
accepts v = is_ok v

-- a refusal has every other answer field zero
abbrev pub refused : Verdict → Answer
refused v = record { number = number_of v; usable = 0; vertices = 0; faces = 0; level = zero32; low = zeros32 3; high = zeros32 3 }

-- what is answered under a verdict: under acceptance, what there is to answer
abbrev pub answer_under : Verdict → Answer → Answer
answer_under (Ok t) made = made
answer_under (Err r) made = refused (Err r)

-- what is answered in the end
abbrev pub told : Result Answer Refusal → Answer
told (Ok a) = a
told (Err r) = refused (Err r)

-- ---- checks in a row

-- the refusal r where the test holds
infix 30 ◌when◌
abbrev pub ◌when◌ : Refusal → Bool → Verdict
r when test = cond test (Err r) Pass

-- the first that refuses
infixr 20 ◌then◌
abbrev pub ◌then◌ : Verdict → Verdict → Verdict
(Ok t) then w = w
(Err r) then w = Err r

-- what a check lets through: the answer, where it does not refuse
infix 15 ◌lets◌
abbrev pub ◌lets◌ : Verdict → Answer → Result Answer Refusal
(Ok t) lets a = Ok a
(Err r) lets a = Err r
