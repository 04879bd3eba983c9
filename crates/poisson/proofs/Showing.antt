-- That the results stand at the front of the slices: of a refusal, in any slices, for it has none; of a mesh, where the slices begin with it. Assumes nothing.
use mathlib.Core.Path.{◌≡◌, refl, sym, ap, ◌∙◌}
use mathlib.Core.List.{List}
use Rattle.std.specs.Prelude.{Ok, Err}
use Prim.Native.Nat.{ℕ, ◌*◌, ◌≤◌}
use native.Mathlib.Omega.{arith}
use lib.ListN.{length, take}
use lib.Ieee.{Float}
use Rattle.closed.specs.Faces.{corners}
use Rattle.closed.proofs.Laws.Turning.{length_corners}
use Rattle.points.specs.declared.point.Point.{Point}
use Rattle.settings.specs.declared.Settings.{Settings}
use Rattle.answers.specs.declared.Refusal.{Refusal}
use Rattle.answers.specs.Answers.{Verdict, Pass, refused, told, ◌lets◌}
use Rattle.scan.specs.Reconstruction.{accepted_answer, kept_vertices, kept_faces, results_under}
use Rattle.poisson.specs.Words.{Shown}

pub refused_shown : (ps : List Point) (st : Settings) (vs : List Float) (fs : List ℕ) (x : Refusal) → Shown (results_under (Err x) ps st) (refused (Err x)) vs fs
refused_shown ps st vs fs x =
    record { answered = refl; v_room = omega arith; v_held = refl; v_count = refl; f_room = omega arith; f_held = refl; f_count = refl }

module _ (ps : List Point) (st : Settings) (vs : List Float) (fs : List ℕ) (k : ℕ) (size : length (kept_vertices ps st) ≡ 3 * k)
    (v-fits : length (kept_vertices ps st) ≤ length vs) (v-first : take (length (kept_vertices ps st)) vs ≡ kept_vertices ps st)
    (f-fits : length (corners (kept_faces ps st)) ≤ length fs) (f-first : take (length (corners (kept_faces ps st))) fs ≡ corners (kept_faces ps st)) where
  accepted_shown : Shown (results_under Pass ps st) (accepted_answer ps st) vs fs
  unfolding accepted_answer
  accepted_shown =
      let nv : 3 * (accepted_answer ps st).vertices ≡ length (kept_vertices ps st) = omega (arith, size) in
      let nf : 3 * (accepted_answer ps st).faces ≡ length (corners (kept_faces ps st)) = sym (length_corners (kept_faces ps st)) in
      record {
        answered = refl;
        v_room = omega arith;
        v_held = ap (λ (n : ℕ). take n vs) nv ∙ v-first;
        v_count = sym nv;
        f_room = omega arith;
        f_held = ap (λ (n : ℕ). take n fs) nf ∙ f-first;
        f_count = sym nf;
      }

  pub made_shown : (v : Verdict) → Shown (results_under v ps st) (told (v lets accepted_answer ps st)) vs fs
  made_shown (Ok t) = accepted_shown
  made_shown (Err x) = refused_shown ps st vs fs x
