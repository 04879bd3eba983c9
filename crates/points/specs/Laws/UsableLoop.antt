-- A loop over the given points that acts on the usable ones: one point more is either used or skipped, so a left fold over `usables` is what such a loop
-- computes. `FoldedUsable` is its whole invariant, with `folded_none`, `folded_used`, `folded_skipped` (or `folded_more`, both in one) and `folded_done`;
-- `count_le` bounds how many there are. Assumes nothing.
use Rattle.std.specs.Prelude.{◌≡◌, refl, Bool, true, false, cond, ℕ, zero, suc, ◌+◌, ◌≤◌, ◌<◌, length, Float}
use Rattle.std.proofs.Common.{sym, ap, ◌∙◌, arith, length-append}
use mathlib.Core.List.{List, [], ◌∷◌, ◌++◌, foldl}
use Rattle.lists.specs.Lists.{tabulate}
use Rattle.lists.specs.Laws.Tabulate.{tabulate_snoc}
use Rattle.lists.specs.Laws.Fold.{fold_snoc}
use Rattle.points.specs.declared.point.Point.{Point}
use Rattle.points.specs.Points.{given, point_at, usable_of, usable_among, usable_to, usables}

-- ---- one point more

pub among_snoc : (l : List Point) (p : Point) → usable_among (l ++ (p ∷ [])) ≡ cond (usable_of p) (usable_among l ++ (p ∷ [])) (usable_among l)
unfolding usable_among
among_snoc [] p = refl
among_snoc (x ∷ l) p = rw (among_snoc l p) (go (usable_of x) (usable_of p) (usable_among l))
  where
    go : (a b : Bool) (r : List Point) → cond a (x ∷ cond b (r ++ (p ∷ [])) r) (cond b (r ++ (p ∷ [])) r) ≡ cond b (cond a (x ∷ r) r ++ (p ∷ [])) (cond a (x ∷ r) r)
    go true true r = refl
    go true false r = refl
    go false true r = refl
    go false false r = refl

pub usable_none : (xs : List Float) → usable_to xs 0 ≡ []
unfolding usable_to usable_among tabulate
usable_none xs = refl

pub usable_more : (xs : List Float) (i : ℕ) → usable_to xs (i + 1) ≡ cond (usable_of (point_at xs i)) (usable_to xs i ++ (point_at xs i ∷ [])) (usable_to xs i)
unfolding usable_to
usable_more xs i = ap usable_among (tabulate_snoc i (point_at xs)) ∙ among_snoc (tabulate i (point_at xs)) (point_at xs i)

-- as the code meets it: p is what was read, b what the test said
module _ (xs : List Float) (i : ℕ) {p : Point} {b : Bool} (is : p ≡ point_at xs i) (test : b ≡ usable_of p) where
  pub used : b ≡ true → usable_to xs (i + 1) ≡ usable_to xs i ++ (p ∷ [])
  used t = usable_more xs i ∙ rw (ap usable_of (sym is) ∙ sym test ∙ t, is)

  pub skipped : b ≡ false → usable_to xs (i + 1) ≡ usable_to xs i
  skipped t = usable_more xs i ∙ rw (ap usable_of (sym is) ∙ sym test ∙ t)

-- ---- how many there are

pub count_le : (xs : List Float) (i : ℕ) → length (usable_to xs i) ≤ i
count_le xs zero = rw (usable_none xs) (omega arith)
count_le xs (suc i) = go (usable_of (point_at xs i)) refl (count_le xs i)
  where
    one : suc i ≡ i + 1
    one = omega arith

    go : (b : Bool) → usable_of (point_at xs i) ≡ b → length (usable_to xs i) ≤ i → length (usable_to xs (suc i)) ≤ suc i
    go true h t = rw (one, used xs i refl (sym h) refl) (omega (arith, length-append (usable_to xs i) (point_at xs i ∷ [])))
    go false h t = rw (one, skipped xs i refl (sym h) refl) (omega arith)

-- ---- the loop

module _ {B : Type 0} where
  -- s is the fold over the usable ones of the first i points
  pub record FoldedUsable (f : B → Point → B) (z : B) (xs : List Float) (s : B) (i : ℕ) : Type 0 where
    pub state : s ≡ foldl f z (usable_to xs i)
    pub within : i ≤ given xs

  module _ {f : B → Point → B} {z : B} {xs : List Float} where
    pub folded_none : FoldedUsable f z xs z 0
    folded_none = record { state = sym (ap (foldl f z) (usable_none xs)); within = omega arith }

    module _ {s t : B} {i : ℕ} {p : Point} {b : Bool} (w : FoldedUsable f z xs s i) (here : i < given xs) (is : p ≡ point_at xs i) (test : b ≡ usable_of p) where
      pub folded_used : b ≡ true → t ≡ f s p → FoldedUsable f z xs t (i + 1)
      folded_used h e =
          record {
            state = e ∙ ap (λ (u : B). f u p) w.state ∙ sym (ap (foldl f z) (used xs i is test h) ∙ fold_snoc f z (usable_to xs i) p);
            within = omega arith;
          }

      pub folded_skipped : b ≡ false → t ≡ s → FoldedUsable f z xs t (i + 1)
      folded_skipped h e = record { state = e ∙ w.state ∙ sym (ap (foldl f z) (skipped xs i is test h)); within = omega arith }

      pub folded_more : t ≡ cond b (f s p) s → FoldedUsable f z xs t (i + 1)
      folded_more e = go b refl
        where
          go : (a : Bool) → b ≡ a → FoldedUsable f z xs t (i + 1)
          go true h = folded_used h (e ∙ rw h)
          go false h = folded_skipped h (e ∙ rw h)

    pub folded_done : {s : B} {i : ℕ} → FoldedUsable f z xs s i → given xs ≤ i → s ≡ foldl f z (usables xs)
    folded_done {s} {i} w h = let n : i ≡ given xs = omega (arith, w.within) in w.state ∙ ap (λ (k : ℕ). foldl f z (usable_to xs k)) n
