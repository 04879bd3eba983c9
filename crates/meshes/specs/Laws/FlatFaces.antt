-- A flat list of faces, read and written a face at a time: a face that is read is that of the list of faces, and one that is written is set there.
-- So a loop over faces is proved over the list of faces. By induction on the list, three numbers at a time. Assumes nothing.
use Rattle.std.specs.Prelude.{◌≡◌, refl, List, [], ◌∷◌, ℕ, zero, suc, ◌+◌, ◌*◌, ◌<◌, ◌≤◌, length, get_or, set, Float}
use Rattle.std.proofs.Common.{sym, ap, ◌∙◌, arith, length-set}
use Rattle.lists.specs.Lists.{tabulate}
use Rattle.lists.specs.Laws.Fill.{Filled, filled_none, filled_more, filled_now, filled_done}
use Rattle.closed.specs.Faces.{Face, face, faces, face_of, corners}
use Rattle.closed.proofs.Laws.Turning.{face_at, corners_faces, length_faces}
use Rattle.meshes.specs.FlatMesh.{vertex_count, face_count, Meshed, corners_at, put_face, Corners}

-- a face of no list
abbrev pub no_face : Face
no_face = face 0 0 0

-- ---- one face

pub face_read : (n : ℕ) (l : List ℕ) (t : ℕ) → length l ≡ 3 * n → t < n → face_of (corners_at l t) ≡ get_or (faces l) t no_face
face_read n l t long h =
    sym (face_at (faces l) t (omega (arith, length_faces n l long))
    ∙ ap (λ (c : List ℕ). face (get_or c (3 * t) 0) (get_or c (3 * t + 1) 0) (get_or c (3 * t + 2) 0)) (corners_faces n l long))

pub face_put : (n : ℕ) (l : List ℕ) (t : ℕ) (f : List ℕ) → length l ≡ 3 * n → t < n → faces (put_face l t f) ≡ set (faces l) t (face_of f)
face_put zero l t f long h = absurd (omega arith)
face_put (suc n) [] t f long h = absurd (omega arith)
face_put (suc n) (x ∷ []) t f long h = absurd (omega arith)
face_put (suc n) (x ∷ y ∷ []) t f long h = absurd (omega arith)
face_put (suc n) (x ∷ y ∷ z ∷ l) zero f long h = refl
face_put (suc n) (x ∷ y ∷ z ∷ l) (suc t) f long h =
    let e : 3 * suc t ≡ suc (suc (suc (3 * t))) = omega arith in
    let e1 : 3 * suc t + 1 ≡ suc (suc (suc (3 * t + 1))) = omega arith in
    let e2 : 3 * suc t + 2 ≡ suc (suc (suc (3 * t + 2))) = omega arith in
    rw (e1, e2, e) (ap (λ (r : List Face). face x y z ∷ r) (face_put n l t f (omega arith) (omega arith)))

pub length_put : (l : List ℕ) (t : ℕ) (f : List ℕ) → length (put_face l t f) ≡ length l
length_put l t f = simp length-set

-- ---- a loop that writes f t as face t, for t = 0, 1 ..: l is the list after t turns, l₀ the list that came

pub record FacesFilled (f : ℕ → Face) (l₀ l : List ℕ) (t : ℕ) : Type 0 where
  pub filled : Filled f (faces l₀) (faces l) t
  pub long : length l ≡ length l₀

pub faces_none : {f : ℕ → Face} {l₀ : List ℕ} → FacesFilled f l₀ l₀ 0
faces_none = record { filled = filled_none; long = refl }

module _ (n : ℕ) {f : ℕ → Face} {l₀ l : List ℕ} {t : ℕ} (size : length l₀ ≡ 3 * n) (inv : FacesFilled f l₀ l t) where
  -- the face that the turn is about to write is as it came
  pub faces_now : t < n → face_of (corners_at l t) ≡ get_or (faces l₀) t no_face
  faces_now h = face_read n l t (inv.long ∙ size) h ∙ filled_now no_face inv.filled

  pub faces_more : (a : List ℕ) → t < n → face_of a ≡ f t → FacesFilled f l₀ (put_face l t a) (t + 1)
  faces_more a h e =
      record {
        filled = rw (face_put n l t a (inv.long ∙ size) h) (filled_more inv.filled (omega (arith, length_faces n l₀ size)) e);
        long = length_put l t a ∙ inv.long;
      }

  pub faces_done : n ≤ t → l ≡ corners (tabulate n f)
  faces_done h =
      sym (corners_faces n l (inv.long ∙ size)) ∙ ap corners (filled_done inv.filled (length_faces n l₀ size) h)

-- ---- of a mesh

module _ {vertices : List Float} {numbers : List ℕ} (m : Meshed vertices numbers) where
  pub meshed_faces : length (faces numbers) ≡ face_count numbers
  meshed_faces = length_faces (face_count numbers) numbers m.triples

  pub meshed_corners : corners (faces numbers) ≡ numbers
  meshed_corners = corners_faces (face_count numbers) numbers m.triples

  pub meshed_face : (t : ℕ) → t < face_count numbers → Corners (vertex_count vertices) (corners_at numbers t)
  meshed_face t h = record { first = m.below (3 * t) (omega (arith, m.triples)); second = m.below (3 * t + 1) (omega (arith, m.triples)); third = m.below (3 * t + 2) (omega (arith, m.triples)) }
