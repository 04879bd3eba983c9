-- The faces that pass a test, moved forward in place: before face t the front holds those of the first t faces, and from face t on all is as it came
-- (`Kept`). A face is written no further on than it is read. Assumes nothing.
use mathlib.Core.Path.{◌≡◌, refl, sym, ap, ◌∙◌}
use mathlib.Core.Bool.{Bool, true, false, cond}
use mathlib.Core.List.{List, [], ◌∷◌, ◌++◌, append-nil}
use Prim.Native.Nat.{ℕ, ◌+◌, ◌*◌, ◌≤◌, ◌<◌}
use native.Mathlib.Numerals.{add-one}
use native.Mathlib.Omega.{arith}
use lib.ListN.{length, get_or, set, take, length-append}
use lib.Seq.{take-suc, take_all, take-suc-set, get_or-set_other}
use Rattle.closed.specs.Lists.{keep}
use Rattle.closed.specs.Faces.{Face, faces, face_of}
use Rattle.closed.proofs.Laws.Counting.{keep_append}
use Rattle.closed.proofs.Laws.Turning.{length_faces}
use Rattle.meshes.specs.FlatMesh.{face_count, corners_at, put_face}
use Rattle.meshes.specs.Laws.FlatFaces.{no_face, face_read, face_put, length_put}

-- ---- one element more

module _ {A : Type 0} (p : A → Bool) where
  keep_one : (x : A) {b : Bool} → p x ≡ b → keep p (x ∷ []) ≡ cond b (x ∷ []) []
  unfolding keep
  keep_one x e = ap (λ (b : Bool). cond b (x ∷ []) []) e

  keep_next : (l : List A) (t : ℕ) (d : A) {b : Bool} → t < length l → p (get_or l t d) ≡ b
      → keep p (take (t + 1) l) ≡ keep p (take t l) ++ cond b (get_or l t d ∷ []) []
  keep_next l t d h e =
      ap (λ (n : ℕ). keep p (take n l)) (add-one t)
      ∙ ap (keep p) (take-suc l t d h)
      ∙ keep_append p (take t l) (get_or l t d ∷ [])
      ∙ ap (λ (r : List A). keep p (take t l) ++ r) (keep_one (get_or l t d) e)

-- what stands behind a written face stays
put_other : (l : List ℕ) (t : ℕ) (f : List ℕ) (k : ℕ) → 3 * t + 2 < k → get_or (put_face l t f) k 0 ≡ get_or l k 0
put_other l t f k h =
    get_or-set_other (set (set l (3 * t) (get_or f 0 0)) (3 * t + 1) (get_or f 1 0)) (3 * t + 2) k (get_or f 2 0) 0 (λ e. omega arith)
    ∙ get_or-set_other (set l (3 * t) (get_or f 0 0)) (3 * t + 1) k (get_or f 1 0) 0 (λ e. omega arith)
    ∙ get_or-set_other l (3 * t) k (get_or f 0 0) 0 (λ e. omega arith)

-- ---- the loop: l₀ is the list that came, l the list before face t, m the faces kept

pub record Kept (p : Face → Bool) (l₀ l : List ℕ) (m t : ℕ) : Type 0 where
  pub long : length l ≡ length l₀
  pub within : t ≤ face_count l₀
  pub few : m ≤ t
  pub size : m ≡ length (keep p (take t (faces l₀)))
  pub front : take m (faces l) ≡ keep p (take t (faces l₀))
  pub rest : (k : ℕ) → 3 * t ≤ k → get_or l k 0 ≡ get_or l₀ k 0

pub kept_none : {p : Face → Bool} {l₀ : List ℕ} → Kept p l₀ l₀ 0 0
unfolding keep
kept_none = record { long = refl; within = omega arith; few = omega arith; size = refl; front = refl; rest = λ k h. refl }

module _ {p : Face → Bool} {l₀ l : List ℕ} {m t : ℕ} (whole : length l₀ ≡ 3 * face_count l₀) (inv : Kept p l₀ l m t) where
  pub kept_corners : corners_at l t ≡ corners_at l₀ t
  kept_corners = rw (inv.rest (3 * t) (omega arith), inv.rest (3 * t + 1) (omega arith), inv.rest (3 * t + 2) (omega arith))

  kept_face : t < face_count l₀ → face_of (corners_at l t) ≡ get_or (faces l₀) t no_face
  kept_face h = ap face_of kept_corners ∙ face_read (face_count l₀) l₀ t whole h

  pub kept_dropped : t < face_count l₀ → p (face_of (corners_at l t)) ≡ false → Kept p l₀ l m (t + 1)
  kept_dropped h e =
      let same : keep p (take (t + 1) (faces l₀)) ≡ keep p (take t (faces l₀)) =
      keep_next p (faces l₀) t no_face (omega (arith, length_faces (face_count l₀) l₀ whole)) (ap p (sym (kept_face h)) ∙ e)
      ∙ append-nil (keep p (take t (faces l₀))) in
      record {
        long = inv.long;
        within = omega arith;
        few = omega (arith, inv.few);
        size = inv.size ∙ ap length (sym same);
        front = inv.front ∙ sym same;
        rest = λ k b. inv.rest k (omega arith);
      }

  pub kept_more : t < face_count l₀ → p (face_of (corners_at l t)) ≡ true → Kept p l₀ (put_face l m (corners_at l t)) (m + 1) (t + 1)
  kept_more h e =
      let f : Face = face_of (corners_at l t) in
      let old : List Face = keep p (take t (faces l₀)) in
      let now : length (faces l) ≡ face_count l₀ = length_faces (face_count l₀) l (inv.long ∙ whole) in
      let same : keep p (take (t + 1) (faces l₀)) ≡ old ++ (f ∷ []) =
      keep_next p (faces l₀) t no_face (omega (arith, length_faces (face_count l₀) l₀ whole)) (ap p (sym (kept_face h)) ∙ e)
      ∙ ap (λ (g : Face). old ++ (g ∷ [])) (sym (kept_face h)) in
      record {
        long = length_put l m (corners_at l t) ∙ inv.long;
        within = omega arith;
        few = omega (arith, inv.few);
        size = omega (arith, inv.size, length-append old (f ∷ []), ap length same);
        front =
            ap (take (m + 1)) (face_put (face_count l₀) l m (corners_at l t) (inv.long ∙ whole) (omega (arith, inv.few)))
            ∙ ap (λ (n : ℕ). take n (set (faces l) m f)) (add-one m)
            ∙ take-suc-set (faces l) m f (omega (arith, now, inv.few))
            ∙ ap (λ (r : List Face). r ++ (f ∷ [])) inv.front
            ∙ sym same;
        rest = λ k b. put_other l m (corners_at l t) k (omega (arith, inv.few)) ∙ inv.rest k (omega arith);
      }

  pub kept_done : face_count l₀ ≤ t → (m ≡ length (keep p (faces l₀))) × (take m (faces l) ≡ keep p (faces l₀))
  kept_done h =
      let all : take t (faces l₀) ≡ faces l₀ = take_all t (faces l₀) (omega (arith, length_faces (face_count l₀) l₀ whole)) in
      (inv.size ∙ ap (λ (r : List Face). length (keep p r)) all, inv.front ∙ ap (keep p) all)
