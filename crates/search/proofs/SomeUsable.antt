-- Some usable point passes a test where some point is usable and passes it. Point by point. Assumes nothing.
use mathlib.Core.Path.{◌≡◌, refl, ap}
use mathlib.Core.Bool.{Bool, true, false, cond, ◌&&◌, ◌||◌}
use mathlib.Core.List.{List, [], ◌∷◌}
use Rattle.std.specs.List.{list_any}
use Rattle.points.specs.declared.point.Point.{Point}
use Rattle.search.specs.Search.{any_of}
use Rattle.points.specs.Points.{usable_of, usable_among}

pub any_among : (l : List Point) (f : Point → Bool) → list_any (λ p. usable_of p && f p) l ≡ any_of f (usable_among l)
unfolding usable_among any_of
any_among [] f = refl
any_among (p ∷ l) f = go (usable_of p) (any_among l f)
  where
    go : (b : Bool) → list_any (λ p. usable_of p && f p) l ≡ any_of f (usable_among l) → (b && f p) || list_any (λ p. usable_of p && f p) l ≡ any_of f (cond b (p ∷ usable_among l) (usable_among l))
    go true h = unfold any_of in ap (λ (t : Bool). f p || t) h
    go false h = h
