-- Document 01, "Numbers of refusal": "an iso offset of NaN puts nothing below and gives 6". Of what a call answers, once the checks before pass: the later
-- ones end in 6 (`scan`, NanOffset), and the number is the verdict's. Assumes nothing.
use mathlib.Core.Path.{◌≡◌, ap, ◌∙◌}
use mathlib.Core.List.{List}
use lib.ListN.{length}
use lib.Ieee.{Float, nan}
use Rattle.points.specs.Points.{usables}
use Rattle.settings.specs.declared.Settings.{Settings}
use Rattle.answers.specs.declared.Answer.{Answer}
use Rattle.answers.specs.Answers.{Verdict, Pass, number_of, ◌then◌}
use Rattle.settings.specs.Refusals.{early_verdict, usable_verdict, extent_verdict}
use Rattle.ending.specs.Slices.{Slices}
use Rattle.scan.specs.Reconstruction.{extent_for, lengths_of, late_verdict}
use Rattle.scan.specs.Laws.NanOffset.{nan_offset_no_face}
use Rattle.poisson.proofs.Order.{first_checks}
use Rattle.demands.specs.Call.{Meets}
use Rattle.demands.proofs.Demand2.{number_told}

-- 7, 1, 2, 3, 8, 4 and 5 do not apply
abbrev FirstPass : (xs : List Float) → Settings → (before : Slices) → Type 0
FirstPass xs st before =
    early_verdict xs st (lengths_of before) then usable_verdict (length (usables xs)) then extent_verdict (extent_for (usables xs)) ≡ Pass

pub nan_offset_refused : (xs : List Float) (st : Settings) (before : Slices) (r : Answer) (after : Slices) → Meets xs st before r after
    → FirstPass xs st before → st.iso_offset ≡ nan → r.number ≡ 6
nan_offset_refused xs st before r after met first e =
    let late = late_verdict (usables xs) st (lengths_of before) in
    number_told xs st before r after met
    ∙ ap number_of (first_checks xs st (lengths_of before) ∙ ap (λ (v : Verdict). v then late) first ∙ nan_offset_no_face (usables xs) st e (lengths_of before))
