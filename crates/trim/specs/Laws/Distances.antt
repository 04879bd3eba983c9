-- A distance and its negative keep the same faces, so -0.5 acts as 0.5; and NaN keeps nothing, for nothing is at most NaN. Assumes nothing.
use Rattle.std.specs.Prelude.{◌≡◌, refl, Bool, false, cond, ◌||◌, List, [], ◌∷◌, Float}
use Rattle.std.proofs.Common.{ap, ◌∙◌}
use Rattle.std.specs.Float.{nan, inf, fin, binary32}
use Rattle.std.specs.Float.Ieee.{neg, mul, lt, eq, le}
use Rattle.numbers.proofs.Laws.Symmetry.{mul_neg_both}
use Rattle.closed.specs.Lists.{keep}
use Rattle.closed.specs.Faces.{Face}
use Rattle.points.specs.declared.point.Point.{Point}
use Rattle.search.specs.Search.{square_of, any_of, within_of}
use Rattle.trim.specs.Trim.{near, near_faces}

pub opposite_distance : (ps : List Point) (vertices : List Float) (distance : Float) (fs : List Face)
    → near_faces ps vertices (neg distance) fs ≡ near_faces ps vertices distance fs
unfolding near_faces
opposite_distance ps vertices distance fs = ap (λ (limit : Float). keep (near ps vertices limit) fs) (mul_neg_both binary32 distance distance)

-- ---- NaN

le_nan : (x : Float) → le x nan ≡ false
unfolding le lt eq
le_nan nan = refl
le_nan (inf s) = refl
le_nan (fin s m e) = refl

none_within : (ps : List Point) (q : List Float) → within_of ps q nan ≡ false
unfolding within_of any_of
none_within [] q = refl
none_within (p ∷ ps) q = ap (λ (b : Bool). b || any_of (λ r. le (square_of q r) nan) ps) (le_nan (square_of q p)) ∙ none_within ps q

keep_none : (p : Face → Bool) → ((f : Face) → p f ≡ false) → (fs : List Face) → keep p fs ≡ []
unfolding keep
keep_none p h [] = refl
keep_none p h (f ∷ fs) = ap (λ (b : Bool). cond b (f ∷ keep p fs) (keep p fs)) (h f) ∙ keep_none p h fs

pub nan_keeps_nothing : (ps : List Point) (vertices : List Float) (fs : List Face) → near_faces ps vertices nan fs ≡ []
unfolding near_faces mul
nan_keeps_nothing ps vertices fs = keep_none (near ps vertices nan) (λ f. none_within ps _) fs
