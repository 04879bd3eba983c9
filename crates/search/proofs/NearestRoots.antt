-- The two smallest distances are the roots of the two smallest squares, found with `<` alone: `nearest_root`. For the squares of one query are all NaN or
-- none is, since usable points are finite; where none is, the roots stand in the squares' order or are one value. Assumes nothing.
use mathlib.Core.Path.{◌≡◌, refl, sym, ap, ◌∙◌}
use mathlib.Core.Logic.{◌⊎◌, inl, inr}
use mathlib.Core.Bool.{Bool, true, false, cond, not, ◌&&◌, ◌||◌, true≢false, false≢true}
use mathlib.Core.List.{List, [], ◌∷◌, map, foldl}
use lib.Ieee.{Float, nan, inf, fin, binary32, sub, lt, is_nan}
use Rattle.numbers.specs.Arithmetic.{rooted}
use Rattle.numbers.proofs.Laws.SumOfSquares.{mul_square, add_square, is_nan_mul, is_nan_add, is_nan_sub}
use Rattle.numbers.proofs.Laws.RootSquares.{root_nan, roots_agree}
use Rattle.numbers.specs.Laws.RootSquares.{HeldSquare}
use Rattle.lists.specs.Lists.{at}
use Rattle.points.specs.declared.point.Point.{Point}
use Rattle.search.specs.declared.brute.Least.{Least}
use Rattle.search.specs.declared.brute.Least.TheVariants.{Empty, One, Two}
use Rattle.search.specs.Search.{square_of, distance_of, before, inserted, sorted, least_of, nearest_of}
use Rattle.search.specs.Words.{least_with, open_to, least_map}
use Rattle.points.specs.Laws.UsableFinite.{Finite, usable_finite, AllUsable}
use Rattle.points.specs.Laws.SquaresHeld.{squares_held}

-- ---- what the loop holds: the first two of a list in order follow from the first two before

with_inserted : (l : List Float) (d : Float) → least_with (least_of l) d ≡ least_of (inserted lt l d)
with_inserted [] d = refl
with_inserted (a ∷ []) d = refl
with_inserted (a ∷ (b ∷ l)) d = refl

fold_with : (g : Point → Float) (l : List Point) (z : List Float) → foldl (λ (s : Least) (p : Point). least_with s (g p)) (least_of z) l ≡ least_of (foldl (inserted lt) z (map g l))
fold_with g [] z = refl
fold_with g (p ∷ l) z =
    ap (λ (s : Least). foldl (λ (s : Least) (p : Point). least_with s (g p)) s l) (with_inserted z (g p)) ∙ fold_with g l (inserted lt z (g p))

-- a number that is below neither changes nothing
pub not_open : (s : Least) (d : Float) → open_to s d ≡ false → least_with s d ≡ s
not_open Empty d h = absurd (true≢false h)
not_open (One a) d h = absurd (true≢false h)
not_open (Two a b) d h = let t = or-false (lt d a) (lt d b) h in rw (t.0, t.1)
  where
    or-false : (x y : Bool) → x || y ≡ false → (x ≡ false) × (y ≡ false)
    or-false true y e = absurd (true≢false e)
    or-false false y e = (refl, e)

-- ---- the squares of one query are all NaN or none is

abbrev nan_place : List Float → Bool
nan_place q = (is_nan (at q 0) || is_nan (at q 1)) || is_nan (at q 2)

square_nan : (q : List Float) (p : Point) → Finite p → is_nan (square_of q p) ≡ nan_place q
unfolding square_of
square_nan q p h =
    let dx = sub binary32 (at p.at 0) (at q 0) in
    let dy = sub binary32 (at p.at 1) (at q 1) in
    let dz = sub binary32 (at p.at 2) (at q 2) in
    let xx = mul_square binary32 dx in
    let yy = mul_square binary32 dy in
    is_nan_add binary32 _ _ (add_square binary32 _ _ xx yy) (mul_square binary32 dz)
    ∙ rw (is_nan_add binary32 _ _ xx yy, is_nan_mul binary32 dx, is_nan_mul binary32 dy, is_nan_mul binary32 dz, is_nan_sub binary32 _ (at q 0) h.x, is_nan_sub binary32 _ (at q 1) h.y, is_nan_sub binary32 _ (at q 2) h.z)

-- one of the squares of a query, where b says whether they are NaN
record Term (b : Bool) (x : Float) : Type 0 where
  held : HeldSquare binary32 x
  tells : is_nan x ≡ b

abbrev r : Float → Float
r x = rooted binary32 x

is_nan_lem : (x : Float) → is_nan x ≡ true → x ≡ nan
unfolding is_nan
is_nan_lem nan h = refl
is_nan_lem (inf s) h = absurd (false≢true h)
is_nan_lem (fin s m e) h = absurd (false≢true h)

-- ---- so their roots rank as they do, or are one

agree : (b : Bool) (d a : Float) → Term b d → Term b a → (before (r d) (r a) ≡ lt d a) ⊎ (r d ≡ r a)
agree true d a D A = inr (ap r (is_nan_lem d D.tells ∙ sym (is_nan_lem a A.tells)))
agree false d a D A = go (roots_agree binary32 d a D.held A.held D.tells A.tells)
  where
    plain : (x y : Bool) → x ≡ false → y || (x && not (is_nan (r d))) ≡ y
    plain x true h = refl
    plain x false h = rw h

    go : (lt (r d) (r a) ≡ lt d a) ⊎ (r d ≡ r a) → (before (r d) (r a) ≡ lt d a) ⊎ (r d ≡ r a)
    go (inl e) = inl (plain (is_nan (r a)) (lt (r d) (r a)) (root_nan binary32 a A.held ∙ A.tells) ∙ e)
    go (inr e) = inr e

-- the one that stands before, and the other, are the roots of the lesser and of the other
picked : (x y : Float) (o c : Bool) → (o ≡ c) ⊎ (r x ≡ r y) → cond o (r x) (r y) ≡ r (cond c x y)
picked x y true true e = refl
picked x y false false e = refl
picked x y true false (inl e) = absurd (true≢false e)
picked x y true false (inr e) = e
picked x y false true (inl e) = absurd (false≢true e)
picked x y false true (inr e) = sym e

turned : {o c : Bool} {x y : Float} → (o ≡ c) ⊎ (x ≡ y) → (o ≡ c) ⊎ (y ≡ x)
turned (inl e) = inl e
turned (inr e) = inr (sym e)

other : (x y : Float) (o c : Bool) → (o ≡ c) ⊎ (r y ≡ r x) → cond o (r x) (r y) ≡ r (cond c x y)
other x y o c e = picked x y o c (turned e)

-- ---- and the lists in order are the roots of the lists in order

abbrev AllTerm : Bool → List Float → Type 0
AllTerm b [] = Unit {0}
AllTerm b (a ∷ l) = Term b a × AllTerm b l

either : {b : Bool} (c : Bool) (x y : Float) → Term b x → Term b y → Term b (cond c x y)
either true x y p q = p
either false x y p q = q

inserted_term : (b : Bool) (l : List Float) (d : Float) → AllTerm b l → Term b d → AllTerm b (inserted lt l d)
inserted_term b [] d g h = (h, tt)
inserted_term b (a ∷ l) d g h = (either (lt d a) d a h g.0, inserted_term b l (cond (lt d a) a d) g.1 (either (lt d a) a d g.0 h))

inserted_root : (b : Bool) (l : List Float) (d : Float) → AllTerm b l → Term b d → inserted before (map r l) (r d) ≡ map r (inserted lt l d)
inserted_root b [] d g h = refl
inserted_root b (a ∷ l) d g h =
    let e = agree b d a h g.0 in
    rw (picked d a (before (r d) (r a)) (lt d a) e, other a d (before (r d) (r a)) (lt d a) e, inserted_root b l (cond (lt d a) a d) g.1 (either (lt d a) a d g.0 h))

sorted_root : (b : Bool) (l z : List Float) → AllTerm b l → AllTerm b z → foldl (inserted before) (map r z) (map r l) ≡ map r (foldl (inserted lt) z l)
sorted_root b [] z g h = refl
sorted_root b (a ∷ l) z g h =
    ap (λ (t : List Float). foldl (inserted before) t (map r l)) (inserted_root b z a h g.0) ∙ sorted_root b l (inserted lt z a) g.1 (inserted_term b z a h g.0)

-- ---- the two smallest

least_root : (l : List Float) → least_map r (least_of l) ≡ least_of (map r l)
least_root [] = refl
least_root (a ∷ []) = refl
least_root (a ∷ (b ∷ l)) = refl

terms : (q : List Float) (l : List Point) → AllUsable l → AllTerm (nan_place q) (map (square_of q) l)
terms q [] u = tt
terms q (p ∷ l) u = (record { held = unfold square_of in squares_held _ _ _; tells = square_nan q p (usable_finite p u.0) }, terms q l u.1)

map_root : (q : List Float) (l : List Point) → map r (map (square_of q) l) ≡ map (distance_of q) l
map_root q [] = refl
map_root q (p ∷ l) = ap (λ (t : List Float). distance_of q p ∷ t) (map_root q l)

pub nearest_root : (q : List Float) (l : List Point) → AllUsable l → least_map r (foldl (λ (s : Least) (p : Point). least_with s (square_of q p)) Empty l) ≡ nearest_of l q
unfolding nearest_of sorted
nearest_root q l u =
    ap (least_map r) (fold_with (square_of q) l [])
    ∙ least_root (foldl (inserted lt) [] (map (square_of q) l))
    ∙ ap least_of (sym (sorted_root (nan_place q) (map (square_of q) l) [] (terms q l u) tt))
    ∙ ap (λ (t : List Float). least_of (foldl (inserted before) [] t)) (map_root q l)
