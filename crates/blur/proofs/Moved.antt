-- Where an offset leads, said by numbers: to the place place + t - radius, which lies on the side, or outside, before the side or past it. By cases on
-- the two tests. Assumes nothing.
use mathlib.Core.Path.{◌≡◌, refl, ap, subst}
use mathlib.Core.Bool.{Bool, true, false, ◌&&◌, cond}
use mathlib.Core.Logic.{◌⊎◌, inl, inr}
use Prim.Native.Nat.{ℕ, ◌+◌, ◌-◌, ◌*◌, ◌<◌, ◌≤◌}
use native.Mathlib.Omega.{arith}
use borrow.Author.Tests.{lt-ltb, le-ltb, le-leb, lt-leb, ltb-true, ltb-false, leb-true, leb-false}
use lib.Dec.{leb, ltb}
use Rattle.std.specs.Prelude.{Option, Some, None}
use Rattle.blur.specs.Blur.{moved_to}
use Rattle.blur.specs.Words.{Reach}

module _ (n radius place t : ℕ) where
  pub moved_inside : {p : ℕ} → radius ≤ place + t → place + t - radius ≡ p → p < n → moved_to n radius place t ≡ Some p
  unfolding moved_to
  moved_inside {p} low is high = rw (le-leb radius (place + t) low, lt-ltb (place + t - radius) n (omega arith)) (ap Some is)

  pub moved_before : place + t < radius → moved_to n radius place t ≡ None
  unfolding moved_to
  moved_before h = rw (lt-leb radius (place + t) h)

  pub moved_past : n ≤ place + t - radius → moved_to n radius place t ≡ None
  unfolding moved_to
  moved_past h = rw (le-ltb (place + t - radius) n h) (go (leb radius (place + t)))
    where
      go : (b : Bool) → cond (b && false) (Some (place + t - radius)) None ≡ None
      go true = refl
      go false = refl

  -- ---- and back

  pub inside_moved : {p : ℕ} → moved_to n radius place t ≡ Some p → (radius ≤ place + t) × (place + t - radius ≡ p) × (p < n)
  unfolding moved_to
  inside_moved {p} e = go (leb radius (place + t)) (ltb (place + t - radius) n) refl refl e
    where
      go : (a b : Bool) → leb radius (place + t) ≡ a → ltb (place + t - radius) n ≡ b → cond (a && b) (Some (place + t - radius)) None ≡ Some p
          → (radius ≤ place + t) × (place + t - radius ≡ p) × (p < n)
      go true true a b e =
          let is : place + t - radius ≡ p = cc in
          (leb-true radius (place + t) a, is, subst (λ (m : ℕ). m < n) is (ltb-true (place + t - radius) n b))
      go true false a b e = let z : ◌≡◌ {A = ℕ} 0 1 = cc in absurd (omega arith)
      go false b a h e = let z : ◌≡◌ {A = ℕ} 0 1 = cc in absurd (omega arith)

  pub outside_moved : moved_to n radius place t ≡ None → (place + t < radius) ⊎ (n ≤ place + t - radius)
  unfolding moved_to
  outside_moved e = go (leb radius (place + t)) (ltb (place + t - radius) n) refl refl e
    where
      go : (a b : Bool) → leb radius (place + t) ≡ a → ltb (place + t - radius) n ≡ b → cond (a && b) (Some (place + t - radius)) None ≡ None
          → (place + t < radius) ⊎ (n ≤ place + t - radius)
      go true true a b e = let z : ◌≡◌ {A = ℕ} 0 1 = cc in absurd (omega arith)
      go true false a b e = inr (ltb-false (place + t - radius) n b)
      go false b a h e = inl (leb-false radius (place + t) a)

-- a row at each place lies within the slice, and so does a row at the place where an offset leads
pub moved_reach : (n radius place t first stride len room : ℕ) → ((p : ℕ) → p < n → first + p * stride + len ≤ room) → Reach first stride len room (moved_to n radius place t)
moved_reach n radius place t first stride len room all = go (moved_to n radius place t) (λ p e. (inside_moved n radius place t e).2)
  where
    go : (l : Option ℕ) → ((p : ℕ) → l ≡ Some p → p < n) → Reach first stride len room l
    go (Some p) h = all p (h p refl)
    go None h = tt
