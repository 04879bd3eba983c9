-- A face that is turned runs the other way, so turning all faces keeps the balance and keeps three corners apart; faces written out flat read back as they
-- were; and a face with three different corners has each of its directed pairs once. Assumes nothing.
use Rattle.std.specs.Prelude.{◌≡◌, refl, Bool, true, false, ◌||◌, List, [], ◌∷◌, ◌++◌, map, ℕ, zero, suc, ◌+◌, ◌*◌, ◌<◌, eqb, length, get_or}
use Rattle.std.proofs.Common.{sym, ap, ap₂, ◌∙◌, arith, eqb-true}
use Rattle.std.proofs.Math.Bool.{and_comm}
use Rattle.closed.specs.Lists.{bit, count, All}
use Rattle.closed.specs.Faces.{Face, face, pair, runs, Balanced, Apart, turn, corners, faces}
use Rattle.closed.proofs.Laws.Counting.{both_true, count_cong, count_map, all_of, all_map, all_map_map}
use Rattle.closed.specs.Laws.Turning.{passes}

-- ---- turned faces

or_three : (p q r p' q' r' : Bool) → p ≡ r' → q ≡ q' → r ≡ p' → (p || q || r) ≡ (p' || q' || r')
or_three p q r p' q' r' e f g = ap₂ (λ (s t : Bool). s || t) (ap₂ (λ (s t : Bool). s || t) e f) g ∙ turned r' q' p'
  where
    turned : (s t u : Bool) → (s || t || u) ≡ (u || t || s)
    turned true true true = refl
    turned true true false = refl
    turned true false true = refl
    turned true false false = refl
    turned false true true = refl
    turned false true false = refl
    turned false false true = refl
    turned false false false = refl

pub runs_turn : (a b : ℕ) (f : Face) → runs a b (turn f) ≡ runs b a f
runs_turn a b (face x y z) =
    or_three (pair a b x z) (pair a b z y) (pair a b y x) (pair b a x y) (pair b a y z) (pair b a z x)
    (and_comm (eqb x a) (eqb z b)) (and_comm (eqb z a) (eqb y b)) (and_comm (eqb y a) (eqb x b))

pub count_turn : (a b : ℕ) (fs : List Face) → count (runs a b) (map turn fs) ≡ count (runs b a) fs
count_turn a b fs =
    count_map (runs a b) turn fs
    ∙ count_cong (λ f. runs a b (turn f)) (runs b a) fs (all_of (λ f. runs a b (turn f) ≡ runs b a f) (runs_turn a b) fs)

pub balanced_turn : (fs : List Face) → Balanced fs → Balanced (map turn fs)
balanced_turn fs h a b = count_turn a b fs ∙ h b a ∙ sym (count_turn b a fs)

pub apart_turn : (f : Face) → Apart f → Apart (turn f)
apart_turn (face x y z) h = (λ e. h.2 (sym e), λ e. h.1 (sym e), λ e. h.0 (sym e))

pub all_apart_turn : (fs : List Face) → All Apart fs → All Apart (map turn fs)
all_apart_turn fs h = all_map_map Apart turn fs (all_map Apart (λ f. Apart (turn f)) apart_turn fs h)

-- ---- faces in a flat list

pub faces_corners : (fs : List Face) → faces (corners fs) ≡ fs
faces_corners [] = refl
faces_corners (face x y z ∷ fs) = ap (λ (r : List Face). face x y z ∷ r) (faces_corners fs)

pub corners_append : (fs gs : List Face) → corners (fs ++ gs) ≡ corners fs ++ corners gs
corners_append [] gs = refl
corners_append (face x y z ∷ fs) gs = ap (λ (r : List ℕ). x ∷ y ∷ z ∷ r) (corners_append fs gs)

pub length_corners : (fs : List Face) → length (corners fs) ≡ 3 * length fs
length_corners [] = refl
length_corners (face x y z ∷ fs) = omega (arith, length_corners fs)

-- a list that is three times as long as a number says is the corners of its faces
pub corners_faces : (n : ℕ) (l : List ℕ) → length l ≡ 3 * n → corners (faces l) ≡ l
corners_faces n [] h = refl
corners_faces n (x ∷ []) h = absurd (omega arith)
corners_faces n (x ∷ y ∷ []) h = absurd (omega arith)
corners_faces zero (x ∷ y ∷ z ∷ l) h = absurd (omega arith)
corners_faces (suc n) (x ∷ y ∷ z ∷ l) h = ap (λ (r : List ℕ). x ∷ y ∷ z ∷ r) (corners_faces n l (omega arith))

pub length_faces : (n : ℕ) (l : List ℕ) → length l ≡ 3 * n → length (faces l) ≡ n
length_faces n l h = omega (arith, length_corners (faces l), ap length (corners_faces n l h))

-- face t, read by place
pub face_at : (fs : List Face) (t : ℕ) → t < length fs
    → get_or fs t (face 0 0 0) ≡ face (get_or (corners fs) (3 * t) 0) (get_or (corners fs) (3 * t + 1) 0) (get_or (corners fs) (3 * t + 2) 0)
face_at [] t h = absurd (omega arith)
face_at (face x y z ∷ fs) zero h = refl
face_at (face x y z ∷ fs) (suc t) h =
    let e : 3 * suc t ≡ suc (suc (suc (3 * t))) = omega arith in
    let e1 : 3 * suc t + 1 ≡ suc (suc (suc (3 * t + 1))) = omega arith in
    let e2 : 3 * suc t + 2 ≡ suc (suc (suc (3 * t + 2))) = omega arith in
    rw (e1, e2, e) (face_at fs t (omega arith))

-- ---- a face's directed pairs, counted: to count pairs is to count faces

at_most_one : (p q r : Bool) → (p ≡ true → q ≡ true → ⊥) → (q ≡ true → r ≡ true → ⊥) → (r ≡ true → p ≡ true → ⊥) → bit p + bit q + bit r ≡ bit (p || q || r)
at_most_one true true r h k l = absurd (h refl refl)
at_most_one true false true h k l = absurd (l refl refl)
at_most_one true false false h k l = refl
at_most_one false true true h k l = absurd (k refl refl)
at_most_one false true false h k l = refl
at_most_one false false true h k l = refl
at_most_one false false false h k l = refl

pub pair_true : (a b x y : ℕ) → pair a b x y ≡ true → (x ≡ a) × (y ≡ b)
pair_true a b x y e = let t = both_true (eqb x a) (eqb y b) e in (eqb-true x a t.0, eqb-true y b t.1)

pub passes_runs : (a b : ℕ) (f : Face) → Apart f → passes a b f ≡ bit (runs a b f)
passes_runs a b (face x y z) h =
    at_most_one (pair a b x y) (pair a b y z) (pair a b z x)
    (λ e f. h.0 ((pair_true a b x y e).0 ∙ sym (pair_true a b y z f).0))
    (λ e f. h.1 ((pair_true a b y z e).0 ∙ sym (pair_true a b z x f).0))
    (λ e f. h.2 ((pair_true a b z x e).0 ∙ sym (pair_true a b x y f).0))
