-- Renumbering at first use: before face t the table holds the places of the vertices that the first t faces use, and those faces are over the new numbers
-- (`Numbering`). What is noted keeps its place, so a number that is written early is right at the end. Assumes nothing.
use mathlib.Core.Path.{◌≡◌, refl, sym, ap, ◌∙◌, subst}
use mathlib.Core.Logic.{◌≢◌}
use mathlib.Core.Bool.{Bool, true, false, ◌||◌}
use mathlib.Core.List.{List, [], ◌∷◌, ◌++◌, map}
use Prim.Native.Nat.{ℕ, suc, ◌+◌, ◌-◌, ◌*◌, ◌≤◌, ◌<◌}
use native.Mathlib.Decide.{ℕ_discrete}
use native.Mathlib.Numerals.{add-one}
use native.Mathlib.Omega.{arith}
use lib.ListN.{length, get_or, set, take, drop, length-map, length-set, get_or-replicate, take-append-drop}
use lib.Seq.{take-suc, take-take, length-take-le, get_or-take, get_or-set_same, get_or-set_other, ext_get_or}
use Rattle.lists.specs.Lists.{zeros_u}
use Rattle.lists.specs.Laws.Fill.{fill_below}
use Rattle.closed.specs.Lists.{member, In}
use Rattle.closed.specs.Faces.{Face, faces, face_of, corners}
use Rattle.closed.specs.Numbering.{note, grow, dedup, index_of, used, renumber, mesh, slot}
use Rattle.closed.proofs.Laws.Counting.{at_map}
use Rattle.closed.proofs.Laws.Mesh.{face_cong}
use Rattle.closed.proofs.Laws.Renumber.{in_head, in_tail, note_old, member_grow, dedup_append, index_of_grow, slot_in, slot_nil, in_of_slot, out_of_slot, slot_note_new, slot_note_other, length_note_new}
use Rattle.closed.proofs.Laws.Turning.{corners_append, length_faces}
use Rattle.meshes.specs.FlatMesh.{face_count, corners_at, put_face, Corners}
use Rattle.meshes.specs.Laws.FlatFaces.{no_face, face_read, FacesFilled, faces_none, faces_now, faces_more}
use Rattle.trim.specs.Words.{Slots, Noted, Renumbered}

-- ---- the table

pub slots_none : (table : List ℕ) → table ≡ zeros_u (length table) → Slots [] table 0
slots_none table z =
    record { total = refl; entry = λ v h. ap (λ (l : List ℕ). get_or l v 0) z ∙ get_or-replicate (length table) v 0 0 h ∙ sym (slot_nil v) }

pub slots_new : (seen table : List ℕ) (n v : ℕ) → v < length table → get_or table v 0 ≡ 0 → Slots seen table n → Slots (note seen v) (set table v (n + 1)) (n + 1)
slots_new seen table n v b z s =
    let new : member v seen ≡ false = out_of_slot seen v (sym (s.entry v b) ∙ z) in
    record { total = omega (arith, s.total, length_note_new seen v new); entry = λ e h. at new e (subst (λ (m : ℕ). e < m) (length-set table v (n + 1)) h) (ℕ_discrete e v) }
  where
    at : member v seen ≡ false → (e : ℕ) → e < length table → Dec (e ≡ v) → get_or (set table v (n + 1)) e 0 ≡ slot (note seen v) e
    at new e h (yes t) =
        ap (λ (k : ℕ). get_or (set table v (n + 1)) k 0) t
        ∙ get_or-set_same table v (n + 1) 0 b
        ∙ add-one n
        ∙ ap suc s.total
        ∙ sym (slot_note_new seen v new)
        ∙ ap (slot (note seen v)) (sym t)
    at new e h (no t) = get_or-set_other table v e (n + 1) 0 t ∙ s.entry e h ∙ sym (slot_note_other seen v e t)

pub slots_old : (seen table : List ℕ) (n v : ℕ) → v < length table → get_or table v 0 ≢ 0 → Slots seen table n → Slots (note seen v) table n
slots_old seen table n v b z s =
    let same : note seen v ≡ seen = note_old seen v (in_of_slot seen v (λ e. z (s.entry v b ∙ e))) in
    record { total = s.total ∙ sym (ap length same); entry = λ e h. s.entry e h ∙ sym (ap (λ (l : List ℕ). slot l e) same) }

-- the entry of a vertex that is noted
noted_entry : {seen table : List ℕ} {n : ℕ} (v : ℕ) → Slots seen table n → v < length table → In v seen → get_or table v 0 ≡ suc (index_of v seen)
noted_entry v s b h = s.entry v b ∙ slot_in _ v h

-- ---- the vertices that more faces use

or_true : (a b : Bool) → b ≡ true → (a || b) ≡ true
or_true true b e = refl
or_true false b e = e

in_grow : (seen l : List ℕ) (v : ℕ) → In v l → In v (grow seen l)
in_grow seen l v h = member_grow v seen l ∙ or_true (member v seen) (member v l) h

used_append : (fs gs : List Face) → used (fs ++ gs) ≡ grow (used fs) (corners gs)
unfolding used
used_append fs gs = ap dedup (corners_append fs gs) ∙ dedup_append (corners fs) (corners gs)

used_next : (fs : List Face) (t : ℕ) {f : Face} → t < length fs → f ≡ get_or fs t no_face → used (take (t + 1) fs) ≡ grow (used (take t fs)) (corners (f ∷ []))
used_next fs t {f} h e =
    ap (λ (n : ℕ). used (take n fs)) (add-one t)
    ∙ ap used (take-suc fs t no_face h)
    ∙ used_append (take t fs) (get_or fs t no_face ∷ [])
    ∙ ap (λ (g : Face). grow (used (take t fs)) (corners (g ∷ []))) (sym e)

used_rest : (fs : List Face) (t n : ℕ) → t ≤ n → used (take n fs) ≡ grow (used (take t fs)) (corners (drop t (take n fs)))
used_rest fs t n h =
    ap used (sym (take-append-drop t (take n fs)))
    ∙ used_append (take t (take n fs)) (drop t (take n fs))
    ∙ ap (λ (l : List Face). grow (used l) (corners (drop t (take n fs)))) (take-take t n fs h)

-- ---- the loop: l₀ is the list of numbers that came, whose first n faces are renumbered; l, table and seen are before face t

abbrev pub target : List ℕ → ℕ → ℕ → Face
target l₀ n k = renumber (used (take n (faces l₀))) (get_or (faces l₀) k no_face)

pub record Numbering (l₀ : List ℕ) (n : ℕ) (l table : List ℕ) (seen t : ℕ) : Type 0 where
  pub slots : Slots (used (take t (faces l₀))) table seen
  pub written : FacesFilled (target l₀ n) l₀ l t
  pub within : t ≤ n
  pub few : seen ≤ 3 * t

pub numbering_none : (l₀ : List ℕ) (n : ℕ) (table : List ℕ) → table ≡ zeros_u (length table) → Numbering l₀ n l₀ table 0 0
unfolding used dedup grow
numbering_none l₀ n table z = record { slots = slots_none table z; written = faces_none; within = omega arith; few = omega arith }

module _ {l₀ l table : List ℕ} {n seen t : ℕ} (whole : length l₀ ≡ 3 * face_count l₀) (most : n ≤ face_count l₀) (inv : Numbering l₀ n l table seen t) (here : t < n) where
  -- the face that is read is as it came
  pub numbering_face : face_of (corners_at l t) ≡ get_or (faces l₀) t no_face
  numbering_face = faces_now (face_count l₀) whole inv.written (omega arith)

  -- and its corners have an entry in a table that has one for each number
  pub numbering_corners : (size : ℕ) → ((k : ℕ) → k < 3 * n → get_or l₀ k 0 < size) → Corners size (corners_at l t)
  numbering_corners size known =
      let e : face_of (corners_at l t) ≡ face_of (corners_at l₀ t) = numbering_face ∙ sym (face_read (face_count l₀) l₀ t whole (omega arith)) in
      let x : get_or l (3 * t) 0 ≡ get_or l₀ (3 * t) 0 = cc in
      let y : get_or l (3 * t + 1) 0 ≡ get_or l₀ (3 * t + 1) 0 = cc in
      let z : get_or l (3 * t + 2) 0 ≡ get_or l₀ (3 * t + 2) 0 = cc in
      record {
        first = omega (arith, known (3 * t) (omega arith));
        second = omega (arith, known (3 * t + 1) (omega arith));
        third = omega (arith, known (3 * t + 2) (omega arith));
      }

  -- table' and seen' are those with this face's vertices noted
  module _ (f table' : List ℕ) (seen' : ℕ) (is : f ≡ corners_at l t) (known : Corners (length table') f)
      (noted : Slots (grow (used (take t (faces l₀))) (get_or f 0 0 ∷ get_or f 1 0 ∷ get_or f 2 0 ∷ [])) table' seen') where
    same : used (take (t + 1) (faces l₀)) ≡ grow (used (take t (faces l₀))) (get_or f 0 0 ∷ get_or f 1 0 ∷ get_or f 2 0 ∷ [])
    same = used_next (faces l₀) t {f = face_of f} (omega (arith, length_faces (face_count l₀) l₀ whole)) (ap face_of is ∙ numbering_face)

    after : Slots (used (take (t + 1) (faces l₀))) table' seen'
    after = rw same noted

    in_first : In (get_or f 0 0) (used (take (t + 1) (faces l₀)))
    in_first = rw same (in_grow _ _ _ (in_head (get_or f 0 0) (get_or f 1 0 ∷ get_or f 2 0 ∷ [])))

    in_second : In (get_or f 1 0) (used (take (t + 1) (faces l₀)))
    in_second = rw same (in_grow _ _ _ (in_tail (get_or f 1 0) (get_or f 0 0) (get_or f 1 0 ∷ get_or f 2 0 ∷ []) (in_head (get_or f 1 0) (get_or f 2 0 ∷ []))))

    in_third : In (get_or f 2 0) (used (take (t + 1) (faces l₀)))
    in_third =
        rw same
        (in_grow _ _ _
        (in_tail (get_or f 2 0) (get_or f 0 0) (get_or f 1 0 ∷ get_or f 2 0 ∷ []) (in_tail (get_or f 2 0) (get_or f 1 0) (get_or f 2 0 ∷ []) (in_head (get_or f 2 0) []))))

    pub numbering_noted : Noted table' f
    numbering_noted =
        record {
          first = omega (arith, noted_entry (get_or f 0 0) after known.first in_first);
          second = omega (arith, noted_entry (get_or f 1 0) after known.second in_second);
          third = omega (arith, noted_entry (get_or f 2 0) after known.third in_third);
        }

    -- the number that the table gives now is the one at the end
    lasting : (v : ℕ) → v < length table' → In v (used (take (t + 1) (faces l₀))) → get_or table' v 0 - 1 ≡ index_of v (used (take n (faces l₀)))
    lasting v b h =
        omega (arith, noted_entry v after b h)
        ∙ sym (ap (index_of v) (used_rest (faces l₀) (t + 1) n (omega arith)) ∙ index_of_grow v (used (take (t + 1) (faces l₀))) (corners (drop (t + 1) (take n (faces l₀)))) h)

    pub numbering_more : (a : List ℕ) → a ≡ (get_or table' (get_or f 0 0) 0 - 1) ∷ (get_or table' (get_or f 1 0) 0 - 1) ∷ (get_or table' (get_or f 2 0) 0 - 1) ∷ []
        → seen' ≤ seen + 3 → Numbering l₀ n (put_face l t a) table' seen' (t + 1)
    numbering_more a e few =
        record {
          slots = after;
          written =
              faces_more (face_count l₀) whole inv.written a (omega arith)
              (ap face_of e
              ∙ face_cong (lasting (get_or f 0 0) known.first in_first) (lasting (get_or f 1 0) known.second in_second) (lasting (get_or f 2 0) known.third in_third)
              ∙ ap (renumber (used (take n (faces l₀)))) (ap face_of is ∙ numbering_face));
          within = omega arith;
          few = omega (arith, inv.few);
        }

pub numbering_done : {l₀ l table : List ℕ} {n seen t : ℕ} → length l₀ ≡ 3 * face_count l₀ → n ≤ face_count l₀ → Numbering l₀ n l table seen t → n ≤ t
    → Renumbered (take n (faces l₀)) (take n (faces l)) table seen
unfolding mesh
numbering_done {l₀} {l} {table} {n} {seen} {t} whole most inv h =
    let end : t ≡ n = omega (arith, inv.within) in
    let old : length (faces l₀) ≡ face_count l₀ = length_faces (face_count l₀) l₀ whole in
    let now : length (faces l) ≡ face_count l₀ = length_faces (face_count l₀) l (inv.written.long ∙ whole) in
    let size : length (take n (faces l)) ≡ n = length-take-le n (faces l) (omega arith) in
    let size₀ : length (take n (faces l₀)) ≡ n = length-take-le n (faces l₀) (omega arith) in
    let g : Face → Face = renumber (used (take n (faces l₀))) in
    record {
      renumbered =
          ext_get_or no_face (take n (faces l)) (map g (take n (faces l₀))) (size ∙ sym (length-map (take n (faces l₀)) g ∙ size₀))
          (λ k b.
          let c : k < n = omega arith in
          get_or-take n (faces l) k no_face c
          ∙ ap (λ (r : List Face). get_or r k no_face) inv.written.filled.written
          ∙ fill_below no_face (target l₀ n) t (faces l₀) k (omega arith) (omega arith)
          ∙ ap g (sym (get_or-take n (faces l₀) k no_face c))
          ∙ sym (at_map g (take n (faces l₀)) k no_face no_face (omega arith)));
      slots = subst (λ (m : ℕ). Slots (used (take m (faces l₀))) table seen) end inv.slots;
    }
