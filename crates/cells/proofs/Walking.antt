-- The walk by the laws of `Visit`: part by part, and face by face in a row, what was visited joins, and where all may be visited so may the next part.
-- Assumes nothing.
use Rattle.std.proofs.Common.{◌≡◌, refl, sym, subst, ap, ◌∙◌, List, [], ◌∷◌, ◌++◌, ℕ, zero, suc, ◌+◌, ◌≤◌, ◌<◌, arith, length, get_or}
use Rattle.std.proofs.Math.Decide.{dec_lt}
use mathlib.Core.List.{map, append_assoc, append-nil}
use lib.ListN.{drop}
use Rattle.closed.specs.Lists.{All, cells}
use Rattle.closed.specs.Faces.{Face, face, map_face, face_of, corners}
use Rattle.closed.specs.Rows.{emitted}
use Rattle.closed.proofs.Laws.Counting.{cells_one_more}
use Rattle.closed.proofs.Laws.Turning.{corners_append}
use Rattle.cells.specs.Words.{row_faces, EdgesIn, CubeFace}
use Rattle.cells.specs.Laws.Rows.{first_faces, one_more, rest_faces, cube_face}

-- ---- cells in two parts

cells_rest : {A : Type 0} (n : ℕ) (f : ℕ → List A) (k : ℕ) → k ≤ n → (r : List A) × (cells n f ≡ cells k f ++ r)
unfolding cells
cells_rest zero f k h = let e : k ≡ 0 = omega arith in ([], subst (λ (m : ℕ). [] ≡ cells m f ++ []) (sym e) refl)
cells_rest {A} (suc n) f k h = by_cases (dec_lt k (suc n)) (cells_rest n f k)
  where
    by_cases : Dec (k < suc n) → (k ≤ n → (r : List A) × (cells n f ≡ cells k f ++ r)) → (r : List A) × (cells n f ++ f n ≡ cells k f ++ r)
    by_cases (yes p) rest =
        let t = rest (omega arith) in
        (t.0 ++ f n, ap (λ (l : List A). l ++ f n) t.1 ∙ append_assoc (cells k f) t.0 (f n))
    by_cases (no p) rest =
        let e : k ≡ suc n = omega arith in
        ([], sym (append-nil (cells n f ++ f n)) ∙ ap (λ (m : ℕ). cells m f ++ []) (sym e))

-- ---- what holds of each edge of all faces holds of those of a part

all_part : (P : ℕ → Type 0) (a b c : List ℕ) → All P (a ++ b ++ c) → All P b
all_part P [] [] c h = tt
all_part P [] (x ∷ b) c h = (h.0, all_part P [] b c h.1)
all_part P (x ∷ a) b c h = all_part P a b c h.1

pub part_edges : (P : ℕ → Type 0) (fs gs hs : List Face) → All P (corners (fs ++ gs ++ hs)) → All P (corners gs)
part_edges P fs gs hs h =
    all_part P (corners fs) (corners gs) (corners hs)
    (subst (All P) (corners_append (fs ++ gs) hs ∙ ap (λ (l : List ℕ). l ++ corners hs) (corners_append fs gs)) h)

-- ---- a row's face as code has it: each of its three edges is that of the cell

pub edges_of : (offsets : List ℕ) (first : ℕ) (l : List ℕ) {f : Face} {a b c : ℕ} → face_of l ≡ f
    → a ≡ first + get_or offsets (get_or l 0 0) 0 → b ≡ first + get_or offsets (get_or l 1 0) 0 → c ≡ first + get_or offsets (get_or l 2 0) 0
    → map_face (λ e. first + get_or offsets e 0) f ∷ [] ≡ face a b c ∷ []
edges_of offsets first l {f} {a} {b} {c} e p q r = subst (λ (x : Face). map_face (λ e. first + get_or offsets e 0) x ∷ [] ≡ face a b c ∷ []) e (rw (p, q, r) refl)

-- and each is one of the cube's twelve, and near enough to be read
pub row_edges : (offsets : List ℕ) (first case k : ℕ) (l : List ℕ) {m n : ℕ} → EdgesIn offsets first m → case < 256 → k < n → n ≡ length (emitted case) → face_of l ≡ get_or (emitted case) k (face 0 0 0)
    → (i : ℕ) → i < 3 → (get_or l i 0 < 12) × (first + get_or offsets (get_or l i 0) 0 < 50331648)
row_edges offsets first case k l inside h b len e = at
  where
    its : CubeFace l
    its = cube_face case k l h (omega (arith, b, len)) e

    read : (x : ℕ) → x < 12 → (x < 12) × (first + get_or offsets x 0 < 50331648)
    read x t = (t, omega (arith, inside.0 x t, inside.1))

    at : (i : ℕ) → i < 3 → (get_or l i 0 < 12) × (first + get_or offsets (get_or l i 0) 0 < 50331648)
    at zero t = read _ its.a
    at (suc zero) t = read _ its.b
    at (suc (suc zero)) t = read _ its.c
    at (suc (suc (suc i))) t = absurd (omega arith)

module _ {S : Type 0} (Visited : S → S → List Face → Type 0) where
  pub none_as : ((s : S) → Visited s s []) → {fs : List Face} → fs ≡ [] → (s : S) → Visited s s fs
  none_as none e s = subst (Visited s s) (sym e) (none s)

  -- ---- the cells of a part, and of the next part

  module _ (f : ℕ → List Face) where
    pub cells_none : ((s : S) → Visited s s []) → (s : S) → Visited s s (cells 0 f)
    unfolding cells
    cells_none none s = none s

    pub cells_more : ((s t u : S) (fs gs : List Face) → Visited s t fs → Visited t u gs → Visited s u (fs ++ gs))
        → {s t u : S} (k : ℕ) → Visited s t (cells k f) → Visited t u (f k) → Visited s u (cells (k + 1) f)
    cells_more append {s} {t} {u} k v w = subst (Visited s u) (sym (cells_one_more k f)) (append s t u (cells k f) (f k) v w)

    pub cells_next : (Ready : S → List Face → Type 0) → ((s t : S) (fs gs hs : List Face) → Ready s (fs ++ gs ++ hs) → Visited s t fs → Ready t gs)
        → {s t : S} (n k : ℕ) → k < n → Ready s (cells n f) → Visited s t (cells k f) → Ready t (f k)
    cells_next Ready next {s} {t} n k h r v =
        let rest = cells_rest n f (k + 1) (omega arith) in
        next s t (cells k f) (f k) rest.0 (subst (Ready s) (rest.1 ∙ ap (λ (l : List Face). l ++ rest.0) (cells_one_more k f)) r) v

  -- ---- the faces of a row, one after the other, as code has them

  module _ (offsets : List ℕ) (first case k : ℕ) (l : List ℕ) {n a b c : ℕ} (h : k < n) (len : n ≡ length (emitted case)) (e : face_of l ≡ get_or (emitted case) k (face 0 0 0))
      (p : a ≡ first + get_or offsets (get_or l 0 0) 0) (q : b ≡ first + get_or offsets (get_or l 1 0) 0) (r : c ≡ first + get_or offsets (get_or l 2 0) 0) where
    pub row_more : ((s t u : S) (fs gs : List Face) → Visited s t fs → Visited t u gs → Visited s u (fs ++ gs))
        → {s t u : S} → Visited s t (first_faces offsets first case k) → Visited t u (face a b c ∷ []) → Visited s u (first_faces offsets first case (k + 1))
    row_more append {s} {t} {u} v w =
        subst (Visited s u) (sym (one_more offsets first case k (omega (arith, h, len))))
        (append s t u _ _ v (subst (Visited t u) (sym (edges_of offsets first l e p q r)) w))

    pub row_next : (Ready : S → List Face → Type 0) → ((s t : S) (fs gs hs : List Face) → Ready s (fs ++ gs ++ hs) → Visited s t fs → Ready t gs)
        → {s t : S} → Ready s (row_faces offsets first case) → Visited s t (first_faces offsets first case k) → Ready t (face a b c ∷ [])
    row_next Ready next {s} {t} x v =
        let rest : List Face = map (map_face (λ e. first + get_or offsets e 0)) (drop (k + 1) (emitted case)) in
        subst (Ready t) (edges_of offsets first l e p q r)
        (next s t (first_faces offsets first case k) _ rest
        (subst (Ready s) (rest_faces offsets first case (k + 1) ∙ ap (λ (l : List Face). l ++ rest) (one_more offsets first case k (omega (arith, h, len)))) x) v)
