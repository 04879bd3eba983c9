-- The roots of sums of squares stand in the squares' order, or are one value: `roots_agree`. So a search may compare squares and take roots at its end.
-- By `rooted_mono`, and equal roots are one value since the format holds them. Assumes nothing.
use Rattle.std.specs.Prelude.{◌≡◌, ℕ, zero, suc, Bool, true, false, T, ◌⊎◌, Float}
use Rattle.std.proofs.Math.Path.{refl}
use Rattle.std.proofs.Common.{◌∙◌, inl, inr, true≢false}
use Rattle.std.specs.Float.{nan, inf, fin, Format}
use Rattle.std.specs.Float.Ieee.{lt, eq, fits, is_nan}
use Rattle.std.specs.Float.Ieee.Bits.{is_true}
use Rattle.std.specs.Float.Ieee.Exact.{HasValue}
use Rattle.std.specs.Float.Ieee.Fits.{nan-fits, inf-fits}
use Rattle.numbers.specs.Arithmetic.{rooted}
use Rattle.numbers.proofs.Laws.RootOrder.{rooted_mono}
use Rattle.numbers.proofs.Laws.RootNearest.{rooted_nearest}
use Rattle.numbers.proofs.Laws.SumOfSquares.{le_split, lt_le, not_below, le_not, not_negative, equal_is_same}
use Rattle.numbers.specs.Laws.SumOfSquares.{Square, none, far, some}
use Rattle.numbers.specs.Laws.RootSquares.{HeldSquare}

of_value : (x : Float) (a c : ℕ) → HasValue x false a c → Square x
of_value nan a c v = absurd v
of_value (inf s) a c v = absurd v
of_value (fin true m e) a c v = absurd (true≢false v.0)
of_value (fin false m e) a c v = some

-- ---- its root is one too, and NaN just where it is

pub root_held : (f : Format) (x : Float) → HeldSquare f x → HeldSquare f (rooted f x)
root_held f x g = go x g.kind g.fit
  where
    go : (x : Float) → Square x → T (fits f x) → HeldSquare f (rooted f x)
    go nan none h = unfold rooted in record { kind = none; fit = nan-fits f }
    go (inf false) far h = unfold rooted in record { kind = far; fit = inf-fits f false }
    go (fin false zero e) some h = unfold rooted in record { kind = some; fit = h }
    go (fin false (suc m) e) some h =
        let r = rooted_nearest f m e h in
        record { kind = of_value _ _ _ r.value.1; fit = r.value.0 }
    go (inf true) x6 h = elim x6 [ ]
    go (fin true _ e) x9 h = elim x9 [ ]

value_number : (x : Float) (a c : ℕ) → HasValue x false a c → is_nan x ≡ false
unfolding is_nan
value_number nan a c v = absurd v
value_number (inf s) a c v = absurd v
value_number (fin s m e) a c v = refl

pub root_nan : (f : Format) (x : Float) → HeldSquare f x → is_nan (rooted f x) ≡ is_nan x
root_nan f x g = go x g.kind g.fit
  where
    go : (x : Float) → Square x → T (fits f x) → is_nan (rooted f x) ≡ is_nan x
    go nan none h = unfold rooted in refl
    go (inf false) far h = unfold rooted in refl
    go (fin false zero e) some h = unfold rooted in refl
    go (fin false (suc m) e) some h =
        let r = rooted_nearest f m e h in
        value_number _ _ _ r.value.1 ∙ (unfold is_nan in refl)
    go (inf true) x6 h = elim x6 [ ]
    go (fin true _ e) x9 h = elim x9 [ ]

-- ---- the order

module _ (f : Format) (d a : Float) (D : HeldSquare f d) (A : HeldSquare f a) (p : is_nan d ≡ false) (q : is_nan a ≡ false) where
  if_below : lt d a ≡ true → (lt (rooted f d) (rooted f a) ≡ true) ⊎ (rooted f d ≡ rooted f a)
  if_below t = go (le_split (rooted f d) (rooted f a) (rooted_mono f d a (not_negative d D.kind p) (lt_le d a t)))
    where
      go : T (lt (rooted f d) (rooted f a)) ⊎ T (eq (rooted f d) (rooted f a)) → (lt (rooted f d) (rooted f a) ≡ true) ⊎ (rooted f d ≡ rooted f a)
      go (inl u) = inl (is_true (lt (rooted f d) (rooted f a)) u)
      go (inr u) = inr (equal_is_same f (rooted f d) (rooted f a) (root_held f d D).kind (root_held f a A).kind (root_held f d D).fit (root_held f a A).fit u)

  if_not : lt d a ≡ false → lt (rooted f d) (rooted f a) ≡ false
  if_not t =
      le_not (rooted f a) (rooted f d) (root_held f a A).kind (root_held f d D).kind
      (rooted_mono f a d (not_negative a A.kind q) (not_below d a D.kind A.kind p q t))

  pub roots_agree : (lt (rooted f d) (rooted f a) ≡ lt d a) ⊎ (rooted f d ≡ rooted f a)
  roots_agree = go (lt d a) refl
    where
      go : (b : Bool) → lt d a ≡ b → (lt (rooted f d) (rooted f a) ≡ b) ⊎ (rooted f d ≡ rooted f a)
      go true e = if_below e
      go false e = inl (if_not e)
