-- The results of a call for the field alone by the way that it went: refused, or solved; and what it tells that its checks pass. By the verdict's cases.
-- Assumes nothing.
use mathlib.Core.Path.{◌≡◌, refl, sym, ap, ◌∙◌, subst}
use mathlib.Core.Bool.{Bool}
use Rattle.std.specs.Prelude.{Err}
use mathlib.Core.List.{List, ◌++◌}
use Prim.Native.Nat.{ℕ, ◌-◌, ◌^◌, ◌≤◌, ◌<◌}
use native.Mathlib.Omega.{arith}
use borrow.Author.Tests.{ltb-false, lt-ltb, le-ltb}
use lib.Dec.{ltb}
use lib.ListN.{length, take, drop, length-append, length-drop}
use lib.Seq.{take_at}
use lib.Ieee.{Float}
use Rattle.lists.specs.Lists.{zero32, zeros32, padded}
use Rattle.lists.specs.Laws.Padded.{cleared_padded}
use Rattle.points.specs.Points.{usables}
use Rattle.settings.specs.declared.Settings.{Settings}
use Rattle.settings.specs.declared.Lengths.{Lengths}
use Rattle.answers.specs.declared.Answer.{Answer}
use Rattle.answers.specs.declared.Refusal.{Refusal}
use Rattle.answers.specs.declared.Refusal.TheVariants.{ScratchRoom}
use Rattle.answers.specs.Answers.{Verdict, Pass, refused, ◌when◌, ◌then◌}
use Rattle.settings.specs.Refusals.{early_verdict, usable_verdict, extent_verdict}
use Rattle.answers.specs.Laws.InARow.{both_pass, unless}
use Rattle.settings.specs.Laws.Passed.{ChecksPassed, ready}
use Rattle.scan.specs.Reconstruction.{extent_for, field_for}
use Rattle.ending.specs.Slices.{FieldSlices}
use Rattle.scan.specs.FieldAlone.{FieldResults, values_verdict, field_verdict, field_answer, field_under, field_results}
use Rattle.field_call.specs.Outcome.{FieldDone}
use Rattle.field_call.specs.Words.{FieldShown}

-- ---- the check of the values' slice in the row of checks

pub too_short : (depth room : ℕ) (w : Verdict) → room < 8 ^ depth → Err ScratchRoom ≡ values_verdict depth room then w
unfolding values_verdict
too_short depth room w h = sym (ap (λ (b : Bool). (ScratchRoom when b) then w) (lt-ltb room (8 ^ depth) h))

pub long_enough : (depth room : ℕ) {v w : Verdict} → 8 ^ depth ≤ room → v ≡ w → v ≡ values_verdict depth room then w
unfolding values_verdict
long_enough depth room {v} {w} h e = e ∙ sym (ap (λ (b : Bool). (ScratchRoom when b) then w) (le-ltb room (8 ^ depth) h))

-- ---- by the verdict

module _ (xs : List Float) (st : Settings) (lent : Lengths) (field : List Float) {v : Verdict} (is : v ≡ field_verdict xs st lent (length field)) where
  pub field_refused : (field' : List Float) (x : Refusal) → v ≡ Err x → field' ≡ zeros32 (length field)
      → FieldShown (field_results xs st lent (length field)) (refused (Err x)) field field'
  unfolding field_results
  field_refused field' x e z =
      let ps = usables xs in
      subst (λ (u : Verdict). FieldShown (field_under u ps st) (refused (Err x)) field field') (sym e ∙ is)
      (record { answered = refl; values = z ∙ ap zeros32 (omega arith) })

  pub field_ready : v ≡ Pass → ChecksPassed xs st lent × (8 ^ st.depth ≤ length field)
  unfolding field_verdict values_verdict
  field_ready t =
      let n = 8 ^ st.depth in
      let last = usable_verdict (length (usables xs)) then extent_verdict (extent_for (usables xs)) in
      let a = both_pass (early_verdict xs st lent) (values_verdict st.depth (length field) then last) (sym is ∙ t) in
      let b = both_pass (values_verdict st.depth (length field)) last a.1 in
      (ready xs st lent a.0, ltb-false (length field) n (unless ScratchRoom (ltb (length field) n) b.0))

  pub field_passed : (r : Answer) (field' : List Float)
      → v ≡ Pass → r ≡ field_answer (usables xs) st → field' ≡ padded zero32 (length field) (field_for (usables xs) st)
      → FieldShown (field_results xs st lent (length field)) r field field'
  unfolding field_results
  field_passed r field' t e z =
      subst (λ (u : Verdict). FieldShown (field_under u (usables xs) st) r field field') (sym t ∙ is) (record { answered = e; values = z })

-- ---- handed over

-- values written over the front of a slice, and cleared after them
pub front_padded : (values field : List Float) {ys : List Float} → length values ≤ length field → ys ≡ values
    → take (length values) (ys ++ drop (length values) field) ++ zeros32 (length (ys ++ drop (length values) field) - length values)
    ≡ padded zero32 (length field) values
front_padded values field {ys} h e =
    let n = length values in
    let first = ap (λ (t : List Float). take n (t ++ drop n field)) e ∙ take_at values (drop n field) n refl in
    let same : length (ys ++ drop n field) ≡ length field =
    ap (λ (t : List Float). length (t ++ drop n field)) e ∙ length-append values (drop n field) ∙ omega (arith, length-drop n field) in
    cleared_padded zero32 values (ys ++ drop n field) first refl same

-- ---- the whole call

-- what is done for some results is done for results that are equal
pub carry_field : {p q : Lengths → (room : ℕ) → FieldResults} {r : Answer} {before after : FieldSlices}
    → p ≡ q → FieldDone p r before after → FieldDone q r before after
carry_field {p} {q} {r} {before} {after} e d = subst (λ (o : Lengths → (room : ℕ) → FieldResults). FieldDone o r before after) e d
