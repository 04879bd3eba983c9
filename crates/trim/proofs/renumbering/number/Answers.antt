-- `trim::renumbering::number`: before face t the table holds what the first t faces use, and they are renumbered (`Numbering`). The corners of the face
-- that is read have entries (`known`). Assumes nothing.
use Rattle.std.proofs.Common.{List, ℕ, ◌≡◌, refl, sym, ◌∙◌, subst, arith, ◌*◌, ◌^◌, ◌≤◌, ◌<◌, length, get_or}
use Rattle.meshes.specs.FlatMesh.{Corners, face_count, corners_at}
use Rattle.trim.proofs.FirstUse.{Numbering, numbering_none, numbering_corners, numbering_noted, numbering_more, numbering_done}
use Rattle.trim.proofs.renumbering.number.Goals as goal

-- in a table of as many entries as before
known : {l₀ l table f : List ℕ} {n seen t size now : ℕ} → (length l₀ ≡ 3 * face_count l₀) × (length l₀ < 2 ^ 32) × (n ≤ face_count l₀)
    → ((k : ℕ) → k < 3 * n → get_or l₀ k 0 < size) → Numbering l₀ n l table seen t → t < n → f ≡ corners_at l t → now ≡ size → Corners now f
known {f = f} {size = size} whole below inv here is same =
    subst (λ (m : ℕ). Corners m f) (sym same) (subst (Corners size) (sym is) (numbering_corners whole.0 whole.2 inv here size below))

pub loop-t-init : goal.loop-t-init
loop-t-init c = (numbering_none _ _ _ c.requires.table_value, refl)

pub note_face-seen-requires-clause-corners : goal.note_face-seen-requires-clause-corners
note_face-seen-requires-clause-corners c =
    known c.requires.faces_len c.requires.by_index c.loop-t.invariant.0 (omega arith) c.read_face-face.ensures c.loop-t.invariant.1

pub renamed-requires-clause-corners : goal.renamed-requires-clause-corners
renamed-requires-clause-corners c =
    known c.requires.faces_len c.requires.by_index c.loop-t.invariant.0 (omega arith) c.read_face-face.ensures
    (c.note_face-seen.auto.table ∙ c.loop-t.invariant.1)

pub renamed-requires-clause-noted : goal.renamed-requires-clause-noted
renamed-requires-clause-noted c =
    let whole = c.requires.faces_len in
    let inv = c.loop-t.invariant.0 in
    let read = c.read_face-face.ensures in
    let corners = known whole c.requires.by_index inv (omega arith) read (c.note_face-seen.auto.table ∙ c.loop-t.invariant.1) in
    numbering_noted whole.0 whole.2 inv (omega arith) _ _ _ read corners (c.note_face-seen.ensures.by_index _ inv.slots)

pub loop-t-preserved : goal.loop-t-preserved
loop-t-preserved c =
    let whole = c.requires.faces_len in
    let inv = c.loop-t.invariant.0 in
    let read = c.read_face-face.ensures in
    let noted = c.note_face-seen in
    let same = noted.auto.table ∙ c.loop-t.invariant.1 in
    let corners = known whole c.requires.by_index inv (omega arith) read same in (
      rw c.write_face.ensures
          (numbering_more whole.0 whole.2 inv (omega arith) _ _ _ read corners (noted.ensures.by_index _ inv.slots) _ c.renamed.ensures noted.ensures.upper_bound),
      same,
    )

pub returns : goal.returns
returns c = numbering_done c.requires.faces_len.0 c.requires.faces_len.2 c.loop-t.invariant.0 (omega arith)
