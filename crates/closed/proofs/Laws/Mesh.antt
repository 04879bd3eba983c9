-- The mesh of faces over edges has the balance that the faces have, three different corners where they have, and the vertex numbers 0 .. V - 1, one for each
-- used edge: for the numbering is one to one (Renumber), and a renaming one to one changes no count. Assumes nothing.
use Rattle.std.specs.Prelude.{◌≡◌, refl, ◌≢◌, ◌⊎◌, Bool, true, false, cond, ◌&&◌, ◌||◌, List, [], ◌∷◌, ◌++◌, map, ℕ, zero, suc, ◌+◌, ◌<◌, eqb, length, get_or}
use Rattle.std.proofs.Common.{sym, ap, ap₂, ◌∙◌, subst, inl, inr, ⊎_elim, true≢false, arith, ne_eqb}
use Rattle.std.proofs.Math.Bool.{and-false}
use Rattle.std.proofs.Math.Decide.{dec_lt}
use Rattle.std.proofs.lemmas.List.{length-map}
use Rattle.closed.specs.Lists.{bit, count, keep, All, member, In, upto, cells, cells3}
use Rattle.closed.specs.Faces.{Face, face, pair, runs, Balanced, Apart, map_face, corners}
use Rattle.closed.specs.Numbering.{index_of, dedup, used, edge_of, renumber, mesh, NoRepeat, Injective}
use Rattle.closed.proofs.Laws.Counting.{eqb_map, keep_map}
use Rattle.closed.proofs.Laws.Turning.{corners_append}
use Rattle.closed.proofs.Laws.Renumber.{in_or_not, not_in_nil, in_head, in_tail, in_cases, in_append_left, in_append_right, in_append_cases, in_at, in_all, in_map, map_in, index_of_lt, at_index_of, index_of_injective, index_of_at, index_of_map, member_dedup, no_repeat_dedup, dedup_map, map_index_of}

-- ---- the corners of the faces that cells yield: each is a corner of a cell's face, and each of those is one

pub cells_corner : (n : ℕ) (f : ℕ → List Face) (e : ℕ) → In e (corners (cells n f)) → (i : ℕ) × (i < n) × In e (corners (f i))
unfolding cells
cells_corner zero f e h = absurd (not_in_nil e h)
cells_corner (suc n) f e h =
    ⊎_elim
    (λ p. let r = cells_corner n f e p in (r.0, omega (arith, r.1), r.2))
    (λ q. (n, omega arith, q))
    (in_append_cases e (corners (cells n f)) (corners (f n)) (sym (ap (member e) (corners_append (cells n f) (f n))) ∙ h))

pub corner_cells : (n : ℕ) (f : ℕ → List Face) (e i : ℕ) → i < n → In e (corners (f i)) → In e (corners (cells n f))
unfolding cells
corner_cells zero f e i b h = absurd (omega arith)
corner_cells (suc n) f e i b h =
    ap (member e) (corners_append (cells n f) (f n)) ∙ by_cases (corner_cells n f e i) (dec_lt i n)
  where
    by_cases : (i < n → In e (corners (f i)) → In e (corners (cells n f))) → Dec (i < n) → In e (corners (cells n f) ++ corners (f n))
    by_cases below (yes p) = in_append_left e (corners (cells n f)) (corners (f n)) (below p h)
    by_cases below (no p) =
        let q : i ≡ n = omega arith in
        in_append_right e (corners (cells n f)) (corners (f n)) (subst (λ (m : ℕ). In e (corners (f m))) q h)

pub cells3_corner : (m n p : ℕ) (f : ℕ → ℕ → ℕ → List Face) (e : ℕ) → In e (corners (cells3 m n p f))
    → (i : ℕ) × (j : ℕ) × (k : ℕ) × (i < m) × (j < n) × (k < p) × In e (corners (f i j k))
unfolding cells3
cells3_corner m n p f e h =
    let x = cells_corner m (λ i. cells n (λ j. cells p (λ k. f i j k))) e h in
    let y = cells_corner n (λ j. cells p (λ k. f x.0 j k)) e x.2 in
    let z = cells_corner p (λ k. f x.0 y.0 k) e y.2 in
    (x.0, y.0, z.0, x.1, y.1, z.1, z.2)

pub corner_cells3 : (m n p : ℕ) (f : ℕ → ℕ → ℕ → List Face) (e i j k : ℕ) → i < m → j < n → k < p
    → In e (corners (f i j k)) → In e (corners (cells3 m n p f))
unfolding cells3
corner_cells3 m n p f e i j k bi bj bk h =
    corner_cells m (λ i. cells n (λ j. cells p (λ k. f i j k))) e i bi
    (corner_cells n (λ j. cells p (λ k. f i j k)) e j bj (corner_cells p (λ k. f i j k) e k bk h))

-- ---- faces under a map of their corners

pub corners_map : (g : ℕ → ℕ) (fs : List Face) → corners (map (map_face g) fs) ≡ map g (corners fs)
corners_map g [] = refl
corners_map g (face x y z ∷ fs) = ap (λ (r : List ℕ). g x ∷ g y ∷ g z ∷ r) (corners_map g fs)

pub pair_map : (g : ℕ → ℕ) (a b x y : ℕ) → (g x ≡ g a → x ≡ a) → (g y ≡ g b → y ≡ b) → pair (g a) (g b) (g x) (g y) ≡ pair a b x y
pair_map g a b x y h k = ap₂ (λ (s t : Bool). s && t) (eqb_map g x a h) (eqb_map g y b k)

pub face_cong : {a b c x y z : ℕ} → a ≡ x → b ≡ y → c ≡ z → face a b c ≡ face x y z
face_cong p q r = λ i. face (p i) (q i) (r i)

-- g tells a and b from every other corner: the faces that run from g a to g b are those that ran from a to b
pub count_map_face : (g : ℕ → ℕ) (a b : ℕ) (fs : List Face)
    → All (λ c. g c ≡ g a → c ≡ a) (corners fs) → All (λ c. g c ≡ g b → c ≡ b) (corners fs)
    → count (runs (g a) (g b)) (map (map_face g) fs) ≡ count (runs a b) fs
unfolding count
count_map_face g a b [] p q = refl
count_map_face g a b (face x y z ∷ fs) p q =
    ap₂ (λ (m n : ℕ). m + n)
    (ap bit
    (ap₂ (λ (s t : Bool). s || t)
    (ap₂ (λ (s t : Bool). s || t) (pair_map g a b x y p.0 q.1.0) (pair_map g a b y z p.1.0 q.1.1.0))
    (pair_map g a b z x p.1.1.0 q.0)))
    (count_map_face g a b fs p.1.1.1 q.1.1.1)

-- where no corner is a, no face runs from a, and none to a
pub count_from_none : (a b : ℕ) (fs : List Face) → All (λ c. c ≢ a) (corners fs) → count (runs a b) fs ≡ 0
unfolding count
count_from_none a b [] p = refl
count_from_none a b (face x y z ∷ fs) p =
    ap₂ (λ (m n : ℕ). m + n)
    (ap bit
    (ap₂ (λ (s t : Bool). s || t)
    (ap₂ (λ (s t : Bool). s || t) (no_pair x y p.0) (no_pair y z p.1.0))
    (no_pair z x p.1.1.0)))
    (count_from_none a b fs p.1.1.1)
  where
    no_pair : (u v : ℕ) → u ≢ a → pair a b u v ≡ false
    no_pair u v d = ap (λ (s : Bool). s && eqb v b) (ne_eqb u a d)

pub count_to_none : (a b : ℕ) (fs : List Face) → All (λ c. c ≢ b) (corners fs) → count (runs a b) fs ≡ 0
unfolding count
count_to_none a b [] p = refl
count_to_none a b (face x y z ∷ fs) p =
    ap₂ (λ (m n : ℕ). m + n)
    (ap bit
    (ap₂ (λ (s t : Bool). s || t)
    (ap₂ (λ (s t : Bool). s || t) (no_pair x y p.1.0) (no_pair y z p.1.1.0))
    (no_pair z x p.0)))
    (count_to_none a b fs p.1.1.1)
  where
    no_pair : (u v : ℕ) → v ≢ b → pair a b u v ≡ false
    no_pair u v d = ap (λ (s : Bool). eqb u a && s) (ne_eqb v b d) ∙ and-false (eqb u a)

-- a map that takes different corners to different numbers keeps the balance, and keeps three corners apart
module _ (g : ℕ → ℕ) (fs : List Face) (inj : Injective g (corners fs)) where
  none : (z : ℕ) → member z (map g (corners fs)) ≡ false → All (λ c. c ≢ z) (corners (map (map_face g) fs))
  none z h =
      subst (All (λ c. c ≢ z)) (sym (corners_map g fs))
      (in_all (λ c. c ≢ z) (map g (corners fs)) (λ c m e. true≢false (sym m ∙ ap (λ (n : ℕ). member n (map g (corners fs))) e ∙ h)))

  tells : (a : ℕ) → In a (corners fs) → All (λ c. g c ≡ g a → c ≡ a) (corners fs)
  tells a m = in_all (λ c. g c ≡ g a → c ≡ a) (corners fs) (λ c k. inj c a k m)

  pub balanced_map_face : Balanced fs → Balanced (map (map_face g) fs)
  balanced_map_face h v w = by_cases (in_or_not v (map g (corners fs))) (in_or_not w (map g (corners fs)))
    where
      by_cases : In v (map g (corners fs)) ⊎ (member v (map g (corners fs)) ≡ false) → In w (map g (corners fs)) ⊎ (member w (map g (corners fs)) ≡ false)
          → count (runs v w) (map (map_face g) fs) ≡ count (runs w v) (map (map_face g) fs)
      by_cases (inl p) (inl q) =
          let a = map_in g v (corners fs) p in
          let b = map_in g w (corners fs) q in
          let ta = tells a.0 a.1 in
          let tb = tells b.0 b.1 in
          ap₂ (λ (m n : ℕ). count (runs m n) (map (map_face g) fs)) a.2 b.2
          ∙ count_map_face g a.0 b.0 fs ta tb
          ∙ h a.0 b.0
          ∙ sym (count_map_face g b.0 a.0 fs tb ta)
          ∙ sym (ap₂ (λ (m n : ℕ). count (runs n m) (map (map_face g) fs)) a.2 b.2)
      by_cases (inl p) (inr q) = count_to_none v w _ (none w q) ∙ sym (count_from_none w v _ (none w q))
      by_cases (inr p) (inl q) = count_from_none v w _ (none v p) ∙ sym (count_to_none w v _ (none v p))
      by_cases (inr p) (inr q) = count_from_none v w _ (none v p) ∙ sym (count_to_none w v _ (none v p))

pub apart_map_face : (g : ℕ → ℕ) (fs : List Face) → Injective g (corners fs) → All Apart fs → All Apart (map (map_face g) fs)
apart_map_face g [] inj a = tt
apart_map_face g (face x y z ∷ fs) inj a =
    let c : List ℕ = x ∷ y ∷ z ∷ corners fs in
    let ix : In x c = in_head x (y ∷ z ∷ corners fs) in
    let iy : In y c = in_tail y x (y ∷ z ∷ corners fs) (in_head y (z ∷ corners fs)) in
    let iz : In z c = in_tail z x (y ∷ z ∷ corners fs) (in_tail z y (z ∷ corners fs) (in_head z (corners fs))) in (
      (λ e. a.0.0 (inj x y ix iy e), λ e. a.0.1 (inj y z iy iz e), λ e. a.0.2 (inj z x iz ix e)),
      apart_map_face g fs
          (λ u v hu hv e. inj u v (in_tail u x (y ∷ z ∷ corners fs) (in_tail u y (z ∷ corners fs) (in_tail u z (corners fs) hu)))
          (in_tail v x (y ∷ z ∷ corners fs) (in_tail v y (z ∷ corners fs) (in_tail v z (corners fs) hv))) e)
          a.1,
    )

-- ---- the mesh

pub used_member : (fs : List Face) (e : ℕ) → member e (used fs) ≡ member e (corners fs)
unfolding used
used_member fs e = member_dedup e (corners fs)

pub used_no_repeat : (fs : List Face) → NoRepeat (used fs)
unfolding used
used_no_repeat fs = no_repeat_dedup (corners fs)

pub number_injective : (fs : List Face) → Injective (λ e. index_of e (used fs)) (corners fs)
number_injective fs x y hx hy e = index_of_injective x y (used fs) (used_member fs x ∙ hx) (used_member fs y ∙ hy) e

pub mesh_balanced : (fs : List Face) → Balanced fs → Balanced (mesh fs)
unfolding mesh
mesh_balanced fs h = balanced_map_face (λ e. index_of e (used fs)) fs (number_injective fs) h

-- three different edges, three different vertices
pub mesh_apart : (fs : List Face) → All Apart fs → All Apart (mesh fs)
unfolding mesh
mesh_apart fs h = apart_map_face (λ e. index_of e (used fs)) fs (number_injective fs) h

pub mesh_length : (fs : List Face) → length (mesh fs) ≡ length fs
unfolding mesh
mesh_length fs = length-map fs (renumber (used fs))

pub mesh_corners : (fs : List Face) → corners (mesh fs) ≡ map (λ e. index_of e (used fs)) (corners fs)
unfolding mesh
mesh_corners fs = corners_map (λ e. index_of e (used fs)) fs

-- the same over the flat list: what a pass that numbers the corners at first use leaves in the face slice
pub mesh_flat : (fs : List Face) → corners (mesh fs) ≡ map (λ e. index_of e (dedup (corners fs))) (corners fs)
unfolding used
mesh_flat fs = mesh_corners fs

-- ---- a vertex and its edge: the numbers are 0 .. V - 1, with V = length (used fs), and different vertices have different edges

pub number_lt : (fs : List Face) (e : ℕ) → In e (corners fs) → index_of e (used fs) < length (used fs)
number_lt fs e h = index_of_lt e (used fs) (used_member fs e ∙ h)

pub edge_of_number : (fs : List Face) (e : ℕ) → In e (corners fs) → edge_of fs (index_of e (used fs)) ≡ e
unfolding edge_of
edge_of_number fs e h = at_index_of e (used fs) 0 (used_member fs e ∙ h)

pub edge_used : (fs : List Face) (v : ℕ) → v < length (used fs) → In (edge_of fs v) (corners fs)
unfolding edge_of
edge_used fs v h = sym (used_member fs (get_or (used fs) v 0)) ∙ in_at (used fs) 0 v h

pub number_of_edge : (fs : List Face) (v : ℕ) → v < length (used fs) → index_of (edge_of fs v) (used fs) ≡ v
unfolding edge_of
number_of_edge fs v h = index_of_at (used fs) (used_no_repeat fs) v h

pub edge_of_injective : (fs : List Face) (v w : ℕ) → v < length (used fs) → w < length (used fs) → edge_of fs v ≡ edge_of fs w → v ≡ w
unfolding edge_of
edge_of_injective fs v w hv hw e = used_no_repeat fs v w hv hw e

-- the corners of the mesh are these numbers, each of them
pub corner_lt : (fs : List Face) (v : ℕ) → In v (corners (mesh fs)) → v < length (used fs)
corner_lt fs v h =
    let m = map_in (λ e. index_of e (used fs)) v (corners fs) (sym (ap (member v) (mesh_corners fs)) ∙ h) in
    subst (λ (n : ℕ). n < length (used fs)) (sym m.2) (number_lt fs m.0 m.1)

pub lt_corner : (fs : List Face) (v : ℕ) → v < length (used fs) → In v (corners (mesh fs))
lt_corner fs v h =
    ap (member v) (mesh_corners fs)
    ∙ ap (λ (n : ℕ). member n (map (λ (c : ℕ). index_of c (used fs)) (corners fs))) (sym (number_of_edge fs v h))
    ∙ in_map (λ (c : ℕ). index_of c (used fs)) (edge_of fs v) (corners fs) (edge_used fs v h)

-- each corner's edge, read back, gives the faces over edges again
pub mesh_edges : (fs : List Face) → map (map_face (edge_of fs)) (mesh fs) ≡ fs
unfolding mesh
mesh_edges fs = again fs (in_all (λ e. edge_of fs (index_of e (used fs)) ≡ e) (corners fs) (edge_of_number fs))
  where
    again : (hs : List Face) → All (λ e. edge_of fs (index_of e (used fs)) ≡ e) (corners hs) → map (map_face (edge_of fs)) (map (renumber (used fs)) hs) ≡ hs
    again [] a = refl
    again (face x y z ∷ hs) a = ap₂ (λ (h : Face) (r : List Face). h ∷ r) (face_cong a.0 a.1.0 a.1.1.0) (again hs a.1.1.1)

-- ---- vertices are numbered at first use: read in order, the mesh's corners name 0, 1, 2 .. each for the first time in this order

pub mesh_first_use : (fs : List Face) → used (mesh fs) ≡ upto (length (used fs))
unfolding used
mesh_first_use fs =
    ap dedup (mesh_corners fs)
    ∙ dedup_map (λ e. index_of e (used fs)) (corners fs) (number_injective fs)
    ∙ map_index_of (used fs) (used_no_repeat fs)

-- ---- the mesh does not depend on how the corners were numbered before

pub used_map_face : (g : ℕ → ℕ) (fs : List Face) → Injective g (corners fs) → used (map (map_face g) fs) ≡ map g (used fs)
unfolding used
used_map_face g fs inj = ap dedup (corners_map g fs) ∙ dedup_map g (corners fs) inj

-- faces renumbered one to one have the same mesh
pub mesh_map_face : (g : ℕ → ℕ) (fs : List Face) → Injective g (corners fs) → mesh (map (map_face g) fs) ≡ mesh fs
unfolding mesh
mesh_map_face g fs inj =
    ap (λ (vs : List ℕ). map (renumber vs) (map (map_face g) fs)) (used_map_face g fs inj)
    ∙ again fs (in_all (λ x. (y : ℕ) → In y (used fs) → g y ≡ g x → y ≡ x) (corners fs) (λ x m y k e. inj y x (sym (used_member fs y) ∙ k) m e))
  where
    again : (hs : List Face) → All (λ x. (y : ℕ) → In y (used fs) → g y ≡ g x → y ≡ x) (corners hs)
        → map (renumber (map g (used fs))) (map (map_face g) hs) ≡ map (renumber (used fs)) hs
    again [] a = refl
    again (face x y z ∷ hs) a =
        ap₂ (λ (h : Face) (r : List Face). h ∷ r)
        (face_cong (index_of_map g x (used fs) a.0) (index_of_map g y (used fs) a.1.0) (index_of_map g z (used fs) a.1.1.0))
        (again hs a.1.1.1)

-- a corner of a kept face is a corner
pub in_keep : (p : Face → Bool) (fs : List Face) (e : ℕ) → In e (corners (keep p fs)) → In e (corners fs)
unfolding keep
in_keep p [] e h = h
in_keep p (face x y z ∷ fs) e h = step (p (face x y z)) (in_keep p fs e) h
  where
    step : (t : Bool) → (In e (corners (keep p fs)) → In e (corners fs))
        → In e (corners (cond t (face x y z ∷ keep p fs) (keep p fs))) → In e (x ∷ y ∷ z ∷ corners fs)
    step true below m =
        ⊎_elim (λ q. ap (λ (n : ℕ). member n (x ∷ y ∷ z ∷ corners fs)) q ∙ in_head x (y ∷ z ∷ corners fs))
        (λ m. in_tail e x (y ∷ z ∷ corners fs)
        (⊎_elim (λ q. ap (λ (n : ℕ). member n (y ∷ z ∷ corners fs)) q ∙ in_head y (z ∷ corners fs))
        (λ m. in_tail e y (z ∷ corners fs)
        (⊎_elim (λ q. ap (λ (n : ℕ). member n (z ∷ corners fs)) q ∙ in_head z (corners fs))
        (λ m. in_tail e z (corners fs) (below m))
        (in_cases e z (corners (keep p fs)) m)))
        (in_cases e y (z ∷ corners (keep p fs)) m)))
        (in_cases e x (y ∷ z ∷ corners (keep p fs)) m)
    step false below m = in_tail e x (y ∷ z ∷ corners fs) (in_tail e y (z ∷ corners fs) (in_tail e z (corners fs) (below m)))

-- so numbering the kept faces of a mesh anew gives the mesh of the kept faces over edges
mesh_is : (fs : List Face) → mesh fs ≡ map (renumber (used fs)) fs
unfolding mesh
mesh_is fs = refl

pub mesh_keep : (p : Face → Bool) (fs : List Face) → mesh (keep p (mesh fs)) ≡ mesh (keep (λ f. p (renumber (used fs) f)) fs)
mesh_keep p fs =
    let g : ℕ → ℕ = λ e. index_of e (used fs) in
    let q : Face → Bool = λ f. p (renumber (used fs) f) in
    ap (λ (m : List Face). mesh (keep p m)) (mesh_is fs)
    ∙ ap mesh (keep_map p (renumber (used fs)) fs)
    ∙ mesh_map_face g (keep q fs) (λ x y hx hy e. number_injective fs x y (in_keep q fs x hx) (in_keep q fs y hy) e)
