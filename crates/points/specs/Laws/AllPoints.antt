-- The points of a slice one after the other, as the iterator of `Point::all` gives them: how many (`length_points`), none where fewer numbers are left
-- than a point has (`points_none`), else the first and those of the rest (`points_more`); so the iterator gives them all, in order (`points_run`). The
-- usable ones among them are `usables` (`usables_are`). A chain's `fold` is the definitions' `foldl` (`fold_is`), and over the usable points it is one that
-- leaves the others out (`fold_usable`). Assumes nothing.
use Rattle.std.specs.Prelude.{◌≡◌, refl, Bool, true, false, cond, ℕ, suc, ◌+◌, ◌*◌, ◌≤◌, ◌<◌, length, drop, Float}
use Rattle.std.specs.Float.{nan}
use Rattle.std.specs.List.{fold}
use Rattle.std.specs.Iterator.{YieldsFirst}
use Rattle.std.specs.Iterator.Runs.{YieldsInOrder}
use Rattle.std.proofs.Common.{sym, ap, ◌∙◌, arith, length-drop}
use Rattle.std.proofs.lemmas.List.{get_or-drop}
use Rattle.std.proofs.iter.runs.Sources.{from_front, as_is}
use mathlib.Core.List.{List, [], ◌∷◌, foldl}
use Rattle.lists.specs.Lists.{tabulate, at}
use Rattle.lists.specs.Laws.Tabulate.{length_tabulate, tabulate_ext}
use Rattle.points.specs.declared.point.Point.{Point}
use Rattle.points.specs.Points.{given, point_at, points_of, points_left, usable_of, usable_among, usable_to, usables}

-- ---- a slice's points

pub length_points : (xs : List Float) → length (points_of xs) ≡ given xs
unfolding points_of
length_points xs = length_tabulate (given xs) (point_at xs)

pub points_none : (xs : List Float) → length xs < 6 → points_of xs ≡ []
unfolding points_of tabulate
points_none xs h = let none : given xs ≡ 0 = omega arith in ap (λ (n : ℕ). tabulate n (point_at xs)) none

-- point i + 1 is point i of the rest
later : (xs : List Float) (i : ℕ) → point_at xs (suc i) ≡ point_at (drop 6 xs) i
unfolding point_at
later xs i =
    λ t. record {
      at = back (suc i * 6) (i * 6) (omega arith) t ∷ back (suc i * 6 + 1) (i * 6 + 1) (omega arith) t ∷ back (suc i * 6 + 2) (i * 6 + 2) (omega arith) t ∷ [];
      normal = back (suc i * 6 + 3) (i * 6 + 3) (omega arith) t ∷ back (suc i * 6 + 4) (i * 6 + 4) (omega arith) t ∷ back (suc i * 6 + 5) (i * 6 + 5) (omega arith) t ∷ [];
    }
  where
    back : (j k : ℕ) → j ≡ 6 + k → at xs j ≡ at (drop 6 xs) k
    back j k e = ap (at xs) e ∙ sym (get_or-drop 6 xs k nan)

pub points_more : (xs : List Float) → 6 ≤ length xs → points_of xs ≡ point_at xs 0 ∷ points_of (drop 6 xs)
unfolding points_of tabulate
points_more xs h =
    let count : given xs ≡ suc (given (drop 6 xs)) = omega (arith, length-drop 6 xs) in
    ap (λ (n : ℕ). tabulate n (point_at xs)) count
    ∙ ap (λ (l : List Point). point_at xs 0 ∷ l) (tabulate_ext (given (drop 6 xs)) (λ k. point_at xs (suc k)) (point_at (drop 6 xs)) (λ k h. later xs k))

-- the usable ones among them
pub usables_are : (xs : List Float) → usable_among (points_of xs) ≡ usables xs
unfolding points_of usable_to
usables_are xs = refl

pub among_le : (l : List Point) → length (usable_among l) ≤ length l
unfolding usable_among
among_le [] = omega arith
among_le (p ∷ l) = go (usable_of p) (among_le l)
  where
    go : (b : Bool) → length (usable_among l) ≤ length l → length (cond b (p ∷ usable_among l) (usable_among l)) ≤ suc (length l)
    go true h = omega (arith, h)
    go false h = omega (arith, h)

-- ---- the iterator, and a fold over what it gives

pub points_run : YieldsInOrder (YieldsFirst points_left) points_left
points_run p s = as_is p (points_left p.from) (from_front (YieldsFirst points_left) (λ x. x) points_left (λ s t h. ap length h.0) (λ s x t h. h) p s)

pub fold_is : {A B : Type 0} (f : B → A → B) (z : B) (l : List A) → fold f z l ≡ foldl f z l
fold_is f z [] = refl
fold_is f z (x ∷ l) = fold_is f (f z x) l

module _ {B : Type 0} (f : B → Point → B) where
  pub fold_usable : (z : B) (l : List Point) → fold (λ s p. cond (usable_of p) (f s p) s) z l ≡ foldl f z (usable_among l)
  unfolding usable_among
  fold_usable z [] = refl
  fold_usable z (p ∷ l) = go (usable_of p) (fold_usable (f z p) l) (fold_usable z l)
    where
      keep : B → Point → B
      keep s q = cond (usable_of q) (f s q) s

      go : (b : Bool) → fold keep (f z p) l ≡ foldl f (f z p) (usable_among l) → fold keep z l ≡ foldl f z (usable_among l)
          → fold keep (cond b (f z p) z) l ≡ foldl f z (cond b (p ∷ usable_among l) (usable_among l))
      go true used skipped = used
      go false used skipped = skipped
