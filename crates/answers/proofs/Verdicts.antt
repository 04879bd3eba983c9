-- A check that `?` passes on, and one that goes on to the next: in a row the first refusal stands, and after acceptance the next decides. Assumes nothing.
use Rattle.std.specs.Prelude.{◌≡◌, Ok, Err, ⊤}
use Rattle.std.proofs.Common.{sym, ap, ◌∙◌}
use Rattle.answers.specs.declared.Refusal.{Refusal}
use Rattle.answers.specs.Answers.{Verdict, ◌then◌}

-- ---- checks in a row: v is what was answered where p is right

-- one that refuses stands
pub stops : {p v : Verdict} {r : Refusal} (w : Verdict) → v ≡ p → v ≡ Err r → Err r ≡ p then w
stops w e h = ap (λ (u : Verdict). u then w) (sym h ∙ e)

-- after one that passes the next decides
pub goes_on : {p v w w' : Verdict} {t : ⊤} → v ≡ p → v ≡ Ok t → w ≡ w' → w ≡ p then w'
goes_on {p} {v} {w} {w'} e h n = n ∙ ap (λ (u : Verdict). u then w') (sym h ∙ e)
