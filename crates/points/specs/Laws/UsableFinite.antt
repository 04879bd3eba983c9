-- A usable point's position is finite, and every point of the list of usable points is usable. By the order of the checks. Assumes nothing.
use Rattle.std.specs.Prelude.{◌≡◌, refl, Bool, true, false, cond, ◌&&◌, List, [], ◌∷◌, ℕ, Err, is_ok, Float}
use Rattle.std.proofs.lemmas.Bool.{false≢true}
use Rattle.std.specs.Float.Ieee.Scale.{finite}
use Rattle.lists.specs.Lists.{tabulate, at}
use Rattle.points.specs.declared.point.Point.{Point}
use Rattle.points.specs.declared.point.Unusable.TheVariants.{PositionNotFinite}
use Rattle.points.specs.Points.{point_at, length_of, length_usability, placed_of, usability_of, usable_of, usable_among, usable_to}

-- ---- one point

pub record Finite (p : Point) : Type 0 where
  pub x : finite (at p.at 0) ≡ true
  pub y : finite (at p.at 1) ≡ true
  pub z : finite (at p.at 2) ≡ true

placed : (p : Point) → usable_of p ≡ true → placed_of p ≡ true
unfolding usable_of usability_of
placed p h = go (placed_of p) h
  where
    go : (b : Bool) → is_ok (cond b (length_usability (length_of p)) (Err PositionNotFinite)) ≡ true → b ≡ true
    go true h = refl
    go false h = h

and_split : (a b : Bool) → a && b ≡ true → (a ≡ true) × (b ≡ true)
and_split true b h = (refl, h)
and_split false b h = absurd (false≢true h)

pub usable_finite : (p : Point) → usable_of p ≡ true → Finite p
usable_finite p h =
    let s = and_split (finite (at p.at 0)) (finite (at p.at 1) && finite (at p.at 2)) (unfold placed_of in placed p h) in
    let t = and_split (finite (at p.at 1)) (finite (at p.at 2)) s.1 in
    record { x = s.0; y = t.0; z = t.1 }

-- ---- all of them

abbrev pub AllUsable : List Point → Type 0
AllUsable [] = Unit {0}
AllUsable (p ∷ l) = (usable_of p ≡ true) × AllUsable l

among_usable : (l : List Point) → AllUsable (usable_among l)
unfolding usable_among
among_usable [] = tt
among_usable (p ∷ l) = go (usable_of p) refl (among_usable l)
  where
    go : (b : Bool) → usable_of p ≡ b → AllUsable (usable_among l) → AllUsable (cond b (p ∷ usable_among l) (usable_among l))
    go true h t = (h, t)
    go false h t = t

pub all_usable : (xs : List Float) (i : ℕ) → AllUsable (usable_to xs i)
unfolding usable_to
all_usable xs i = among_usable (tabulate i (point_at xs))
