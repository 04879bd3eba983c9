-- Demand 2 of whatever meets the contracts: answer and slices are those of `reconstructed`, and under a verdict that passes those are the definitions put
-- together; so for the field alone. Assumes nothing.
use mathlib.Core.Path.{◌≡◌, refl, sym, ap, ◌∙◌}
use mathlib.Core.List.{List}
use lib.ListN.{length}
use lib.Ieee.{Float}
use Rattle.lists.specs.Lists.{zero32, padded}
use Rattle.closed.specs.Faces.{corners}
use Rattle.points.specs.declared.point.Point.{Point}
use Rattle.points.specs.Points.{usables}
use Rattle.settings.specs.declared.Settings.{Settings}
use Rattle.answers.specs.declared.Answer.{Answer}
use Rattle.answers.specs.Answers.{Verdict, Pass, number_of}
use Rattle.answers.specs.Laws.InARow.{passed, number_under}
use Rattle.ending.specs.Slices.{Slices, FieldSlices}
use Rattle.scan.specs.Reconstruction.{Results, kept_vertices, kept_faces, lengths_of, verdict_of, accepted_answer, results_under, reconstructed}
use Rattle.scan.specs.FieldAlone.{FieldResults, field_lengths, field_verdict, field_answer, field_under, field_results}
use Rattle.field_call.specs.Outcome.{field_of}
use Rattle.demands.specs.Call.{Meets, FieldMeets}
use Rattle.demands.specs.Demand2.{Demand2, Demand2Field}

-- ---- the whole call

-- what is left under acceptance
abbrev pub made : (ps : List Point) → Settings → Results
made ps st = record { answer = accepted_answer ps st; vertices = kept_vertices ps st; faces = corners (kept_faces ps st) }

module _ (xs : List Float) (st : Settings) (before : Slices) (r : Answer) (after : Slices) (met : Meets xs st before r after) where
  pub number_told : r.number ≡ number_of (verdict_of xs st (lengths_of before))
  unfolding reconstructed accepted_answer
  number_told = ap (λ (a : Answer). a.number) met.answered ∙ number_under (verdict_of xs st (lengths_of before)) (accepted_answer (usables xs) st) refl

  module _ (zero_number : r.number ≡ 0) where
    pub passes : verdict_of xs st (lengths_of before) ≡ Pass
    passes = passed (verdict_of xs st (lengths_of before)) (sym number_told ∙ zero_number)

    is_made : reconstructed xs st (lengths_of before) ≡ made (usables xs) st
    unfolding reconstructed
    is_made = ap (λ (v : Verdict). results_under v (usables xs) st) passes

    pub answer_told : r ≡ accepted_answer (usables xs) st
    answer_told = met.answered ∙ ap (λ (m : Results). m.answer) is_made

    pub vertices_told : after.vertices ≡ padded zero32 (length before.vertices) (kept_vertices (usables xs) st)
    vertices_told = met.vertices ∙ ap (λ (m : Results). padded zero32 (length before.vertices) m.vertices) is_made

    pub faces_told : after.faces ≡ padded 0 (length before.faces) (corners (kept_faces (usables xs) st))
    faces_told = met.faces ∙ ap (λ (m : Results). padded 0 (length before.faces) m.faces) is_made

  pub demand_2 : Demand2 xs st before r after
  unfolding accepted_answer
  demand_2 =
      record {
        refusal = number_told;
        level = λ z. ap (λ (a : Answer). a.level) (answer_told z);
        vertices = vertices_told;
        faces = faces_told;
        answer = answer_told;
      }

-- ---- the field alone

module _ (xs : List Float) (st : Settings) (before : FieldSlices) (r : Answer) (after : FieldSlices) (met : FieldMeets xs st before r after) where
  abbrev verdict : Verdict
  verdict = field_verdict xs st (field_lengths before.scratch) (length before.values)

  field_number_told : r.number ≡ number_of verdict
  unfolding field_results field_answer
  field_number_told = ap (λ (a : Answer). a.number) met.answered ∙ number_under verdict (field_answer (usables xs) st) refl

  is_solved : r.number ≡ 0 → field_of (field_results xs st) before ≡ field_under Pass (usables xs) st
  unfolding field_results
  is_solved z = ap (λ (v : Verdict). field_under v (usables xs) st) (passed verdict (sym field_number_told ∙ z))

  pub demand_2_field : Demand2Field xs st before r after
  unfolding field_answer
  demand_2_field =
      record {
        refusal = field_number_told;
        level = λ z. ap (λ (a : Answer). a.level) met.answered ∙ ap (λ (m : FieldResults). m.answer.level) (is_solved z);
        field = λ z. met.values ∙ ap (λ (m : FieldResults). padded zero32 (length before.values) m.values) (is_solved z);
      }
