-- Demand 1 of whatever meets the contract: the number is the verdict's, and a verdict that refuses has an answer of zeros and no mesh, so the slices are
-- padded from their start. Assumes nothing.
use mathlib.Core.Path.{◌≡◌, refl, sym, ap, ◌∙◌, subst}
use mathlib.Core.Logic.{◌≢◌}
use mathlib.Core.Bool.{cond}
use Rattle.std.specs.Prelude.{Ok, Err}
use mathlib.Core.List.{List, [], ◌∷◌}
use Prim.Native.Nat.{ℕ, ◌-◌}
use native.Mathlib.Omega.{arith}
use lib.ListN.{length, replicate}
use lib.Ieee.{Float}
use Rattle.lists.specs.Lists.{zero32, padded}
use Rattle.closed.specs.Lists.{In, member}
use Rattle.closed.specs.Faces.{corners}
use Rattle.points.specs.Points.{usables}
use Rattle.settings.specs.declared.Settings.{Settings}
use Rattle.answers.specs.declared.Answer.{Answer}
use Rattle.answers.specs.declared.Refusal.{Refusal}
use Rattle.answers.specs.declared.Refusal.TheVariants.{PointSlice, NoPoints, Depth, Smoothing, ScratchRoom, TooFew, Flat, VertexRoom, FaceRoom, NoFace}
use Rattle.answers.specs.Answers.{Verdict, number_of, accepts, refused, answer_under}
use Rattle.ending.specs.Slices.{Slices}
use Rattle.scan.specs.Reconstruction.{kept_vertices, kept_faces, lengths_of, verdict_of, accepted_answer, reconstructed}
use Rattle.demands.specs.Call.{Meets}
use Rattle.demands.specs.Demand1.{refusals, NothingLeft, Demand1}
use Rattle.demands.proofs.Demand2.{number_told}

-- every verdict has one of the ten numbers, or 0
number_in : (v : Verdict) → In (number_of v) (0 ∷ refusals)
unfolding member
number_in (Ok t) = refl
number_in (Err PointSlice) = refl
number_in (Err NoPoints) = refl
number_in (Err Depth) = refl
number_in (Err Smoothing) = refl
number_in (Err ScratchRoom) = refl
number_in (Err TooFew) = refl
number_in (Err Flat) = refl
number_in (Err VertexRoom) = refl
number_in (Err FaceRoom) = refl
number_in (Err NoFace) = refl

-- a number that is not 0 is a refusal's
refuses : (v : Verdict) → number_of v ≢ 0 → (x : Refusal) × (v ≡ Err x)
refuses (Ok t) h = absurd (h refl)
refuses (Err x) h = (x, refl)

-- nothing, padded, is zeros
none_padded : {A : Type 0} (z : A) (n : ℕ) → padded z n [] ≡ replicate n z
none_padded z n = let all : n - 0 ≡ n = omega arith in ap (λ (m : ℕ). replicate m z) all

module _ (xs : List Float) (st : Settings) (before : Slices) (r : Answer) (after : Slices) (met : Meets xs st before r after) where
  abbrev verdict : Verdict
  verdict = verdict_of xs st (lengths_of before)

  refused_empty : r.number ≢ 0 → NothingLeft r before after
  unfolding reconstructed
  refused_empty some =
      let ps = usables xs in
      let refusal = refuses verdict (λ z. some (number_told xs st before r after met ∙ z)) in
      let none = refusal.1 in
      let told : r ≡ refused (Err refusal.0) = met.answered ∙ ap (λ (v : Verdict). answer_under v (accepted_answer ps st)) none in
      let no-vertices = met.vertices ∙ ap (λ (v : Verdict). padded zero32 (length before.vertices) (cond (accepts v) (kept_vertices ps st) [])) none in
      let no_faces = met.faces ∙ ap (λ (v : Verdict). padded 0 (length before.faces) (cond (accepts v) (corners (kept_faces ps st)) [])) none in
      record {
        usable_none = ap (λ (a : Answer). a.usable) told;
        vertices_none = ap (λ (a : Answer). a.vertices) told;
        faces_none = ap (λ (a : Answer). a.faces) told;
        level_zero = ap (λ (a : Answer). a.level) told;
        low_zero = ap (λ (a : Answer). a.low) told;
        high_zero = ap (λ (a : Answer). a.high) told;
        vertices_clear = no-vertices ∙ none_padded zero32 (length before.vertices);
        faces_clear = no_faces ∙ none_padded 0 (length before.faces);
        scratch_clear = met.scratch;
      }

  pub demand_1 : Demand1 before r after
  demand_1 =
      record {
        number_known = subst (λ (n : ℕ). In n (0 ∷ refusals)) (sym (number_told xs st before r after met)) (number_in verdict);
        refusal_empty = refused_empty;
      }
