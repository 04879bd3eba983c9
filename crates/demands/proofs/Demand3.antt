-- Demand 3 of what a call leaves: an accepted call without trimming leaves the mesh that is made of its usable points at the front of its slices, as long as
-- the answer tells, and that mesh is closed. Assumes nothing.
use mathlib.Core.Path.{◌≡◌, sym, ap, ◌∙◌, subst}
use mathlib.Core.List.{List}
use Prim.Native.Nat.{ℕ, ◌*◌, ◌≤◌, ◌<◌}
use native.Mathlib.Omega.{arith}
use lib.ListN.{length, take}
use lib.Ieee.{Float}
use Rattle.lists.specs.Lists.{zero32}
use Rattle.lists.specs.Laws.Padded.{take_padded}
use Rattle.closed.specs.Faces.{corners}
use Rattle.closed.proofs.Laws.Turning.{length_corners}
use Rattle.closed.specs.Grid.{node}
use Rattle.closed.proofs.Laws.Crossings.{node_lt}
use Rattle.points.specs.Points.{usables}
use Rattle.settings.specs.declared.Settings.{Settings}
use Rattle.settings.specs.declared.Trimming.TheVariants.{Off}
use Rattle.answers.specs.declared.Answer.{Answer}
use Rattle.settings.specs.Refusals.{early_verdict}
use Rattle.answers.specs.Laws.InARow.{both_pass}
use Rattle.settings.specs.Laws.Passed.{ChecksPassed, ready}
use Rattle.ending.specs.Slices.{Slices}
use Rattle.scan.specs.Reconstruction.{field_for, kept_vertices, kept_faces, lengths_of, verdict_of, accepted_answer}
use Rattle.scan.specs.Laws.FieldLength.{cubed, field_length}
use Rattle.demands.specs.Call.{Meets}
use Rattle.demands.specs.Demand3.{side_nodes, Closed, delivered, Demand3}
use Rattle.demands.proofs.Demand2.{made, passes, answer_told, vertices_told, faces_told}
use Rattle.demands.proofs.ClosedMesh.{v_total, closed_made}

-- every node of the cube has its value in the field
node_in_field : (xs : List Float) (st : Settings) (i j k : ℕ) → i < side_nodes st → j < side_nodes st → k < side_nodes st
    → node (side_nodes st) (side_nodes st) i j k < length (field_for (usables xs) st)
node_in_field xs st i j k hi hj hk =
    subst (λ (m : ℕ). node (side_nodes st) (side_nodes st) i j k < m) (cubed st.depth ∙ sym (field_length (usables xs) st))
    (node_lt (side_nodes st) (side_nodes st) (side_nodes st) i j k hi hj hk)

module _ (xs : List Float) (st : Settings) (before : Slices) (r : Answer) (after : Slices) (met : Meets xs st before r after)
    (zero_number : r.number ≡ 0) (off : st.trimming ≡ Off) where
  fits : ChecksPassed xs st (lengths_of before)
  unfolding verdict_of
  fits = ready xs st (lengths_of before) (both_pass (early_verdict xs st (lengths_of before)) _ (passes xs st before r after met zero_number)).0

  deep : 1 ≤ st.depth
  deep = omega (arith, fits.deep)

  told : r ≡ accepted_answer (usables xs) st
  told = answer_told xs st before r after met zero_number

  -- the mesh stands at the front of the slices
  v_front : take (3 * r.vertices) after.vertices ≡ kept_vertices (usables xs) st
  unfolding accepted_answer
  v_front =
      let l = kept_vertices (usables xs) st in
      ap (λ (a : Answer). take (3 * a.vertices) after.vertices) told
      ∙ ap (λ (m : ℕ). take m after.vertices) (sym (v_total (usables xs) st off deep fits.shallow))
      ∙ ap (take (length l)) (vertices_told xs st before r after met zero_number)
      ∙ take_padded zero32 (length before.vertices) l

  f_front : take (3 * r.faces) after.faces ≡ corners (kept_faces (usables xs) st)
  unfolding accepted_answer
  f_front =
      let l = corners (kept_faces (usables xs) st) in
      ap (λ (a : Answer). take (3 * a.faces) after.faces) told
      ∙ ap (λ (m : ℕ). take m after.faces) (sym (length_corners (kept_faces (usables xs) st)))
      ∙ ap (take (length l)) (faces_told xs st before r after met zero_number)
      ∙ take_padded 0 (length before.faces) l

  is_delivered : delivered r after ≡ made (usables xs) st
  is_delivered = λ i. record { answer = told i; vertices = v_front i; faces = f_front i }

  -- demand 3
  pub closed_call : Demand3 xs st r after
  closed_call =
      record {
        closed = subst (Closed xs st) (sym is_delivered) (closed_made xs st off deep fits.shallow);
        node_read = node_in_field xs st;
      }
