-- Arcs, directed pairs of numbers: that a list of arcs balances can be computed (`balanced_by_test`), and a map that takes different ends to different numbers
-- keeps the balance, so a rule that is computed over a cube's twelve edges holds of the edges of a grid (`lift_cell`). Assumes nothing.
use Rattle.std.specs.Prelude.{◌≡◌, refl, ◌≢◌, ◌⊎◌, Bool, true, false, not, ◌&&◌, List, [], ◌∷◌, ◌++◌, map, ℕ, ◌+◌, eqb}
use Rattle.std.proofs.Common.{sym, ap, ap₂, ◌∙◌, subst, inl, inr, true≢false, arith, eqb-true, eq-eqb, ne_eqb}
use Rattle.std.proofs.Math.Bool.{and_comm, and-false}
use Rattle.std.proofs.lemmas.List.{map-append}
use Rattle.closed.specs.Lists.{bit, count, every, All, member, In}
use Rattle.closed.specs.Faces.{Face, face, runs, Balanced, Apart, map_face}
use Rattle.closed.specs.Numbering.{Injective}
use Rattle.closed.specs.Table.{Arc, arc, goes, flip, map_arc, arcs, evenly, balanced_test, apart_test}
use Rattle.closed.proofs.Laws.Counting.{count_append, count_map, count_cong, all_of, every_all, both_true}
use Rattle.closed.proofs.Laws.Turning.{pair_true, passes_runs}
use Rattle.closed.proofs.Laws.Mesh.{pair_map}
use Rattle.closed.proofs.Laws.Renumber.{in_or_not, in_all, map_in}
use Rattle.closed.specs.Laws.Arcs.{BalancedArcs, ends}

-- ---- the other way round

pub goes_flip : (a b : ℕ) (x : Arc) → goes a b (flip x) ≡ goes b a x
goes_flip a b (arc x y) = and_comm (eqb y a) (eqb x b)

pub count_flip : (a b : ℕ) (xs : List Arc) → count (goes a b) (map flip xs) ≡ count (goes b a) xs
count_flip a b xs =
    count_map (goes a b) flip xs
    ∙ count_cong (λ x. goes a b (flip x)) (goes b a) xs (all_of (λ x. goes a b (flip x) ≡ goes b a x) (goes_flip a b) xs)

-- xs balance but for ys, as a sum and as a list
pub balanced_net : (xs ys : List Arc) → BalancedArcs (xs ++ map flip ys)
    → (a b : ℕ) → count (goes a b) xs + count (goes b a) ys ≡ count (goes b a) xs + count (goes a b) ys
balanced_net xs ys h a b =
    omega (arith, h a b, count_append (goes a b) xs (map flip ys), count_append (goes b a) xs (map flip ys), count_flip a b ys, count_flip b a ys)

pub net_balanced : (xs ys : List Arc) → ((a b : ℕ) → count (goes a b) xs + count (goes b a) ys ≡ count (goes b a) xs + count (goes a b) ys)
    → BalancedArcs (xs ++ map flip ys)
net_balanced xs ys h a b =
    omega (arith, h a b, count_append (goes a b) xs (map flip ys), count_append (goes b a) xs (map flip ys), count_flip a b ys, count_flip b a ys)

-- ---- the arcs of faces

-- where each face has three different corners, arcs count as faces do
pub count_arcs : (a b : ℕ) (fs : List Face) → All Apart fs → count (goes a b) (arcs fs) ≡ count (runs a b) fs
unfolding count
count_arcs a b [] h = refl
count_arcs a b (face x y z ∷ fs) h = omega (arith, passes_runs a b (face x y z) h.0, count_arcs a b fs h.1)

-- ---- the balance, computed

-- no element passes the test, or one does, and has what all have
found : {A : Type 0} (p : A → Bool) (P : A → Type 0) (l : List A) → All P l → (count p l ≡ 0) ⊎ ((x : A) × (p x ≡ true) × P x)
unfolding count
found p P [] a = inl refl
found {A} p P (x ∷ l) a = here (p x) refl (found p P l a.1)
  where
    here : (t : Bool) → p x ≡ t → (count p l ≡ 0) ⊎ ((y : A) × (p y ≡ true) × P y) → (bit (p x) + count p l ≡ 0) ⊎ ((y : A) × (p y ≡ true) × P y)
    here true e r = inr (x, e, a.0)
    here false e (inl z) = inl (ap₂ (λ (m n : ℕ). m + n) (ap bit e) z)
    here false e (inr s) = inr s

even_at : (xs : List Arc) (a b : ℕ) (x : Arc) → goes a b x ≡ true → evenly xs x ≡ true → count (goes a b) xs ≡ count (goes b a) xs
even_at xs a b (arc x y) g e =
    let t = pair_true a b x y g in
    sym (ap₂ (λ (m n : ℕ). count (goes m n) xs) t.0 t.1)
    ∙ eqb-true (count (goes x y) xs) (count (goes y x) xs) e
    ∙ ap₂ (λ (m n : ℕ). count (goes n m) xs) t.0 t.1

pub balanced_by_test : (xs : List Arc) → balanced_test xs ≡ true → BalancedArcs xs
unfolding balanced_test
balanced_by_test xs h a b =
    by_cases (found (goes a b) (λ x. evenly xs x ≡ true) xs each) (found (goes b a) (λ x. evenly xs x ≡ true) xs each)
  where
    each : All (λ x. evenly xs x ≡ true) xs
    each = every_all (evenly xs) xs h

    by_cases : (count (goes a b) xs ≡ 0) ⊎ ((x : Arc) × (goes a b x ≡ true) × (evenly xs x ≡ true))
        → (count (goes b a) xs ≡ 0) ⊎ ((x : Arc) × (goes b a x ≡ true) × (evenly xs x ≡ true))
        → count (goes a b) xs ≡ count (goes b a) xs
    by_cases (inr s) t = even_at xs a b s.0 s.1 s.2
    by_cases (inl z) (inr t) = sym (even_at xs b a t.0 t.1 t.2)
    by_cases (inl z) (inl w) = z ∙ sym w

-- three different corners, computed
differ_by_test : (x y : ℕ) → not (eqb x y) ≡ true → x ≢ y
differ_by_test x y h e = true≢false (sym h ∙ ap not (ap (λ (z : ℕ). eqb z y) e ∙ eq-eqb y y refl))

apart_one : (f : Face) → apart_test f ≡ true → Apart f
apart_one (face x y z) h =
    let t = both_true (not (eqb x y) && not (eqb y z)) (not (eqb z x)) h in
    let s = both_true (not (eqb x y)) (not (eqb y z)) t.0 in
    (differ_by_test x y s.0, differ_by_test y z s.1, differ_by_test z x t.1)

pub apart_by_test : (fs : List Face) → every apart_test fs ≡ true → All Apart fs
apart_by_test [] h = tt
apart_by_test (f ∷ fs) h = let t = both_true (apart_test f) (every apart_test fs) h in (apart_one f t.0, apart_by_test fs t.1)

-- a mesh that is written out is closed, by computing
pub faces_by_test : (fs : List Face) → every apart_test fs ≡ true → balanced_test (arcs fs) ≡ true → Balanced fs
faces_by_test fs h k a b =
    let p = apart_by_test fs h in
    sym (count_arcs a b fs p) ∙ balanced_by_test (arcs fs) k a b ∙ count_arcs b a fs p

-- ---- arcs under a map of their ends

pub ends_map : (g : ℕ → ℕ) (xs : List Arc) → ends (map (map_arc g) xs) ≡ map g (ends xs)
ends_map g [] = refl
ends_map g (arc x y ∷ xs) = ap (λ (r : List ℕ). g x ∷ g y ∷ r) (ends_map g xs)

pub ends_append : (xs ys : List Arc) → ends (xs ++ ys) ≡ ends xs ++ ends ys
ends_append [] ys = refl
ends_append (arc x y ∷ xs) ys = ap (λ (r : List ℕ). x ∷ y ∷ r) (ends_append xs ys)

pub arcs_map : (g : ℕ → ℕ) (fs : List Face) → arcs (map (map_face g) fs) ≡ map (map_arc g) (arcs fs)
arcs_map g [] = refl
arcs_map g (face x y z ∷ fs) = ap (λ (r : List Arc). arc (g x) (g y) ∷ arc (g y) (g z) ∷ arc (g z) (g x) ∷ r) (arcs_map g fs)

pub flip_map : (g : ℕ → ℕ) (xs : List Arc) → map flip (map (map_arc g) xs) ≡ map (map_arc g) (map flip xs)
flip_map g [] = refl
flip_map g (arc x y ∷ xs) = ap (λ (r : List Arc). arc (g y) (g x) ∷ r) (flip_map g xs)

pub count_map_arc : (g : ℕ → ℕ) (a b : ℕ) (xs : List Arc)
    → All (λ c. g c ≡ g a → c ≡ a) (ends xs) → All (λ c. g c ≡ g b → c ≡ b) (ends xs)
    → count (goes (g a) (g b)) (map (map_arc g) xs) ≡ count (goes a b) xs
unfolding count
count_map_arc g a b [] p q = refl
count_map_arc g a b (arc x y ∷ xs) p q =
    ap₂ (λ (m n : ℕ). m + n) (ap bit (pair_map g a b x y p.0 q.1.0)) (count_map_arc g a b xs p.1.1 q.1.1)

-- where no arc ends at a, none goes from a, and none to a
pub arcs_from_none : (a b : ℕ) (xs : List Arc) → All (λ c. c ≢ a) (ends xs) → count (goes a b) xs ≡ 0
unfolding count
arcs_from_none a b [] p = refl
arcs_from_none a b (arc x y ∷ xs) p =
    ap₂ (λ (m n : ℕ). m + n) (ap bit (ap (λ (s : Bool). s && eqb y b) (ne_eqb x a p.0))) (arcs_from_none a b xs p.1.1)

pub arcs_to_none : (a b : ℕ) (xs : List Arc) → All (λ c. c ≢ b) (ends xs) → count (goes a b) xs ≡ 0
unfolding count
arcs_to_none a b [] p = refl
arcs_to_none a b (arc x y ∷ xs) p =
    ap₂ (λ (m n : ℕ). m + n) (ap bit (ap (λ (t : Bool). eqb x a && t) (ne_eqb y b p.1.0) ∙ and-false (eqb x a))) (arcs_to_none a b xs p.1.1)

module _ (g : ℕ → ℕ) (xs : List Arc) (inj : Injective g (ends xs)) where
  none_end : (z : ℕ) → member z (map g (ends xs)) ≡ false → All (λ c. c ≢ z) (ends (map (map_arc g) xs))
  none_end z h =
      subst (All (λ c. c ≢ z)) (sym (ends_map g xs))
      (in_all (λ c. c ≢ z) (map g (ends xs)) (λ c m e. true≢false (sym m ∙ ap (λ (n : ℕ). member n (map g (ends xs))) e ∙ h)))

  tells_end : (a : ℕ) → In a (ends xs) → All (λ c. g c ≡ g a → c ≡ a) (ends xs)
  tells_end a m = in_all (λ c. g c ≡ g a → c ≡ a) (ends xs) (λ c k. inj c a k m)

  pub balanced_map_arc : BalancedArcs xs → BalancedArcs (map (map_arc g) xs)
  balanced_map_arc h v w = by_cases (in_or_not v (map g (ends xs))) (in_or_not w (map g (ends xs)))
    where
      by_cases : In v (map g (ends xs)) ⊎ (member v (map g (ends xs)) ≡ false) → In w (map g (ends xs)) ⊎ (member w (map g (ends xs)) ≡ false)
          → count (goes v w) (map (map_arc g) xs) ≡ count (goes w v) (map (map_arc g) xs)
      by_cases (inl p) (inl q) =
          let a = map_in g v (ends xs) p in
          let b = map_in g w (ends xs) q in
          let ta = tells_end a.0 a.1 in
          let tb = tells_end b.0 b.1 in
          ap₂ (λ (m n : ℕ). count (goes m n) (map (map_arc g) xs)) a.2 b.2
          ∙ count_map_arc g a.0 b.0 xs ta tb
          ∙ h a.0 b.0
          ∙ sym (count_map_arc g b.0 a.0 xs tb ta)
          ∙ sym (ap₂ (λ (m n : ℕ). count (goes n m) (map (map_arc g) xs)) a.2 b.2)
      by_cases (inl p) (inr q) = arcs_to_none v w _ (none_end w q) ∙ sym (arcs_from_none w v _ (none_end w q))
      by_cases (inr p) (inl q) = arcs_from_none v w _ (none_end v p) ∙ sym (arcs_to_none w v _ (none_end v p))
      by_cases (inr p) (inr q) = arcs_from_none v w _ (none_end v p) ∙ sym (arcs_to_none w v _ (none_end v p))

-- ---- a cell's balance, lifted: what is computed over local edges holds over the edges that g names

pub lift_cell : (g : ℕ → ℕ) (fs : List Face) (sides : List Arc) → Injective g (ends (arcs fs ++ map flip sides))
    → BalancedArcs (arcs fs ++ map flip sides) → BalancedArcs (arcs (map (map_face g) fs) ++ map flip (map (map_arc g) sides))
lift_cell g fs sides inj h =
    subst BalancedArcs
    (map-append (map_arc g) (arcs fs) (map flip sides) ∙ sym (ap₂ (λ (l m : List Arc). l ++ m) (arcs_map g fs) (flip_map g sides)))
    (balanced_map_arc g (arcs fs ++ map flip sides) inj h)
