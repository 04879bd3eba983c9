-- `orientation::agreement` meets its contract: what is left from face t gives what all faces give (`Asking`), one face more leaves it so (`one_more`), and
-- past the last face nothing is left (`over`). Assumes nothing.
use Rattle.std.proofs.Common.{◌≡◌, ◌+◌, ◌<◌, ◌≤◌, sym, ap, ◌∙◌, ℕ, List, Float, arith}
use mathlib.Core.List.{foldl}
use Rattle.std.specs.Float.Ieee.{binary64, add}
use Rattle.grid.specs.declared.Grid.{Grid}
use Rattle.numbers.specs.Constants.{minus_zero64}
use Rattle.lists.specs.EveryNth.{stride_for, every_from}
use Rattle.meshes.specs.FlatMesh.{face_count, corners_at, Meshed}
use Rattle.orientation.specs.Orientation.{sign_at, plus_sign, agreement_of}
use Rattle.meshes.specs.Laws.FlatFaces.{no_face, face_read, meshed_faces}
use Rattle.orientation.proofs.EveryOther.{Asking, asking_more, asking_done}
use Rattle.closed.specs.Faces as Flat
use Rattle.orientation.proofs.agreement.Goals as goal

module _ (g : Grid) (values vertices : List Float) (faces : List ℕ) (meshed : Meshed vertices faces) {s : ℕ} {sum : Float} {t : ℕ} (inv : Asking (plus_sign g values vertices) minus_zero64 (Flat.faces faces) s sum t) (is : s ≡ stride_for 500 (face_count faces)) where
  one_more : {face : List ℕ} {sign : Float} → t < face_count faces → face ≡ corners_at faces t → sign ≡ sign_at g values vertices (Flat.face_of face)
      → Asking (plus_sign g values vertices) minus_zero64 (Flat.faces faces) s (add binary64 sum sign) (t + s)
  one_more here read signed =
      let face = ap Flat.face_of read ∙ face_read (face_count faces) faces t meshed.triples here in
      asking_more inv no_face (omega (arith, is)) (omega (arith, meshed_faces meshed)) (ap (add binary64 sum) (signed ∙ ap (sign_at g values vertices) face))

  over : face_count faces ≤ t → sum ≡ agreement_of g values vertices (Flat.faces faces)
  unfolding agreement_of
  over h =
      asking_done inv (omega (arith, meshed_faces meshed))
      ∙ ap (λ (n : ℕ). foldl (plus_sign g values vertices) minus_zero64 (every_from n 0 (Flat.faces faces))) (is ∙ ap (stride_for 500) (sym (meshed_faces meshed)))

pub loop-t-preserved : goal.loop-t-preserved
loop-t-preserved c = one_more _ _ _ _ c.requires.meshed c.loop-t.invariant c.stride_for-s.ensures (omega arith) c.read_face-face.ensures c.sign_at-sum.ensures

pub returns : goal.returns
returns c = over _ _ _ _ c.requires.meshed c.loop-t.invariant c.stride_for-s.ensures (omega arith)

pub returns-2 : goal.returns-2
returns-2 c =
    let inv = one_more _ _ _ _ c.requires.meshed c.loop-t.invariant c.stride_for-s.ensures (omega arith) c.read_face-face.ensures c.sign_at-sum.ensures in
    over _ _ _ _ c.requires.meshed inv c.stride_for-s.ensures (omega arith)
