-- No second outcome fits: each public function, in the order of the sources. Assumes nothing.
use mathlib.Core.Path.{◌≡◌, refl}
use Prim.Native.Nat.{ℕ}
use Rattle.std.specs.Prelude.{List, [], ◌∷◌, Option, Some, None, Bool, true, false, ◌≢◌}
use Rattle.std.specs.Iterator.{YieldsFirst}
use Rattle.std.proofs.Common.{sym, ap, ◌∙◌, true≢false}
use Rattle.lists.specs.OneOutcome.{OneOutcome, OneOutcomeAmong, OneOutcomeSeen}
use Rattle.lists.specs.Laws.OneAnswer.{same, ◌&◌}
use Rattle.points.specs.declared.point.Point.{Point}
use Rattle.points.specs.declared.point.Points.{Points}
use Rattle.points.specs.Points.{points_of, points_left}
use Rattle.points.specs.contracts as contract
use Rattle.points.proofs as fn

-- ---- bounds.rt

pub bounds_of : OneOutcome contract.bounds.Bounds.of.ended fn.bounds.Bounds.of.Reads.Post
bounds_of κs args o o' p q = same p q & refl

pub bounds_extent : OneOutcome contract.bounds.Bounds.extent.ended fn.bounds.Bounds.extent.Reads.Post
bounds_extent κs args o o' p q = same p q & refl

pub bounds_side : OneOutcome contract.bounds.Bounds.side.ended fn.bounds.Bounds.side.Reads.Post
bounds_side κs args o o' p q = same p q & refl

pub bounds_origin : OneOutcome contract.bounds.Bounds.origin.ended fn.bounds.Bounds.origin.Reads.Post
bounds_origin κs args o o' p q = same p q & refl

-- ---- point.rt

pub squares : OneOutcome contract.point.squares.ended fn.point.squares.Reads.Post
squares κs args o o' p q = same p q & refl

pub point_given : OneOutcome contract.point.Point.given.ended fn.point.Point.given.Reads.Post
point_given κs args o o' p q = same p q & refl

by_lent : {a b : Points} → a.rest.ref_ptr ≡ b.rest.ref_ptr → a.rest.now ≡ b.rest.now → a ≡ b
by_lent place now = λ i. record { rest = record { ref_ptr = place i; now = now i } }

-- where the lent slice lies is no part of the answer: of those at one place, no second fits
module _ (place : ℕ × ℕ) where
  pub point_all : OneOutcomeAmong contract.point.Point.all.ended (λ κs r. r.rest.ref_ptr ≡ place) fn.point.Point.all.Reads.Post
  point_all κs args o o' p q = by_lent (same p.0 q.0) (same p.1.0 q.1.0) & refl

pub point_read : OneOutcome contract.point.Point.read.ended fn.point.Point.read.Reads.Post
point_read κs args o o' p q = same p q & refl

pub point_usability : OneOutcome contract.point.Point.usability.ended fn.point.Point.usability.Reads.Post
point_usability κs args o o' p q = same p q & refl

pub point_usable : OneOutcome contract.point.Point.usable.ended fn.point.Point.usable.Reads.Post
point_usable κs args o o' p q = same p q & refl

pub point_place : OneOutcome contract.point.Point.place.ended fn.point.Point.place.Reads.Post
point_place κs args o o' p q = same p q & refl

pub point_unit : OneOutcome contract.point.Point.unit.ended fn.point.Point.unit.Reads.Post
point_unit κs args o o' p q = same p q & refl

-- two lists that are one have one first element, and one rest
first_of : (d : Point) → List Point → Point
first_of d [] = d
first_of d (x ∷ xs) = x

rest_of : List Point → List Point
rest_of [] = []
rest_of (x ∷ xs) = xs

full : {x : Point} {xs : List Point} → x ∷ xs ≢ []
full e = absurd (true≢false (ap is_full e))
  where
    is_full : List Point → Bool
    is_full [] = false
    is_full (x ∷ xs) = true

yields : (s t u : Points) (r r' : Option Point) → YieldsFirst points_left s r t → YieldsFirst points_left s r' u → ◌≡◌ {A = Option Point × List Point} (r, points_left t) (r', points_left u)
unfolding first_of rest_of points_of
yields s t u None None p q = λ i. (None, same p.1 q.1 i)
yields s t u None (Some y) p q = absurd (full (sym q ∙ p.0))
yields s t u (Some x) None p q = absurd (full (sym p ∙ q.0))
yields s t u (Some x) (Some y) p q = λ i. (Some (first_of x ((sym p ∙ q) i)), rest_of ((sym p ∙ q) i))

-- an iterator is told by the points that it has still to give
pub points_next : OneOutcomeSeen contract.point.PointsIterator.next.ended {B = Option Point × List Point} (λ κs args o. (o.0, points_left o.1.0)) fn.point.PointsIterator.next.Reads.Post
points_next κs args o o' p q = yields args.0.now o.1.0 o'.1.0 o.0 o'.0 p.0 q.0

pub usable_count : OneOutcome contract.point.usable_count.ended fn.point.usable_count.Reads.Post
usable_count κs args o o' p q = same p q & refl
