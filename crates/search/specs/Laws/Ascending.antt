-- What `sorted` is, for any order that is one: the same numbers (`same_numbers`), none behind one that it stands before (`ascends`), so that its k-th
-- element is the one of rank k (`rank`). By the insertion of one number. No function's proof needs this: it says that the definition is right. The
-- spacing's two lists are in SpacingOrder. Assumes nothing.
use Rattle.std.specs.Prelude.{◌≡◌, refl, Bool, true, false, cond, not, ℕ, zero, suc, ◌+◌, ◌≤◌, ◌<◌, length, get_or, Float}
use Rattle.std.proofs.Common.{◌∙◌, zero-add, arith}
use mathlib.Core.List.{List, [], ◌∷◌, foldl}
use Rattle.search.specs.Search.{inserted, sorted}

-- ---- the same numbers: as many pass any test

abbrev one : Bool → ℕ
one true = 1
one false = 0

abbrev pub passing : (Float → Bool) → List Float → ℕ
passing test [] = 0
passing test (a ∷ l) = one (test a) + passing test l

swap : (test : Float → Bool) (b : Bool) (d a : Float) → one (test (cond b d a)) + one (test (cond b a d)) ≡ one (test d) + one (test a)
swap test true d a = refl
swap test false d a = omega arith

passing_inserted : (order : Float → Float → Bool) (test : Float → Bool) (l : List Float) (d : Float)
    → passing test (inserted order l d) ≡ one (test d) + passing test l
passing_inserted order test [] d = refl
passing_inserted order test (a ∷ l) d = omega (arith, swap test (order d a) d a, passing_inserted order test l (cond (order d a) a d))

pub same_numbers : (order : Float → Float → Bool) (test : Float → Bool) (l : List Float) → passing test (sorted order l) ≡ passing test l
unfolding sorted
same_numbers order test l = go l [] ∙ zero-add (passing test l)
  where
    go : (l z : List Float) → passing test (foldl (inserted order) z l) ≡ passing test z + passing test l
    go [] z = omega arith
    go (a ∷ l) z = omega (arith, go l (inserted order z a), passing_inserted order test z a)

-- ---- in order

-- none of l stands before a; and so of each element and those behind it
abbrev pub Leads : (Float → Float → Bool) → Float → List Float → Type 0
Leads order a [] = Unit {0}
Leads order a (x ∷ l) = (order x a ≡ false) × Leads order a l

abbrev pub Ascends : (Float → Float → Bool) → List Float → Type 0
Ascends order [] = Unit {0}
Ascends order (a ∷ l) = Leads order a l × Ascends order l

abbrev pub Each : (Float → Type 0) → List Float → Type 0
Each P [] = Unit {0}
Each P (a ∷ l) = P a × Each P l

either : (P : Float → Type 0) (b : Bool) (x y : Float) → P x → P y → P (cond b x y)
either P true x y p q = p
either P false x y p q = q

-- an order of the floats in P
pub record Order (P : Float → Type 0) (order : Float → Float → Bool) : Type 0 where
  pub one_way : (a d : Float) → P a → P d → order d a ≡ true → order a d ≡ false
  pub onward : (a b c : Float) → P a → P b → P c → order b a ≡ false → order c b ≡ false → order c a ≡ false

module _ (P : Float → Type 0) (order : Float → Float → Bool) (is : Order P order) where
  each_inserted : (l : List Float) (d : Float) → Each P l → P d → Each P (inserted order l d)
  each_inserted [] d p q = (q, tt)
  each_inserted (a ∷ l) d p q = (either P (order d a) d a q p.0, each_inserted l (cond (order d a) a d) p.1 (either P (order d a) a d p.0 q))

  leads_inserted : (a : Float) (l : List Float) (d : Float) → Leads order a l → order d a ≡ false → Leads order a (inserted order l d)
  leads_inserted a [] d u h = (h, tt)
  leads_inserted a (x ∷ l) d u h =
      let P : Float → Type 0 = λ y. order y a ≡ false in
      (either P (order d x) d x h u.0, leads_inserted a l (cond (order d x) x d) u.1 (either P (order d x) x d u.0 h))

  leads_onward : (d a : Float) (l : List Float) → P d → P a → Each P l → order a d ≡ false → Leads order a l → Leads order d l
  leads_onward d a [] p q r h u = tt
  leads_onward d a (x ∷ l) p q r h u = (is.onward d a x p q r.0 h u.0, leads_onward d a l p q r.1 h u.1)

  ascends_inserted : (l : List Float) (d : Float) → Each P l → P d → Ascends order l → Ascends order (inserted order l d)
  ascends_inserted [] d p q s = (tt, tt)
  ascends_inserted (a ∷ l) d p q s = go (order d a) refl (ascends_inserted l a p.1 p.0 s.1) (ascends_inserted l d p.1 q s.1)
    where
      go : (b : Bool) → order d a ≡ b → Ascends order (inserted order l a) → Ascends order (inserted order l d)
          → Leads order (cond b d a) (inserted order l (cond b a d)) × Ascends order (inserted order l (cond b a d))
      go true e v w = let h = is.one_way a d p.0 q e in (leads_inserted d l a (leads_onward d a l q p.0 p.1 h s.0) h, v)
      go false e v w = (leads_inserted a l d s.0 e, w)

  pub ascends : (l : List Float) → Each P l → Ascends order (sorted order l)
  unfolding sorted
  ascends l p = go l [] p tt tt
    where
      go : (l z : List Float) → Each P l → Each P z → Ascends order z → Ascends order (foldl (inserted order) z l)
      go [] z p q s = s
      go (a ∷ l) z p q s = go l (inserted order z a) p.1 (each_inserted z a q p.0) (ascends_inserted z a q p.0 s)

-- ---- the element of rank k, counted from 0

-- d is it in l: at most k numbers stand before it, more than k do not stand behind it, and it is one of them: a test that it passes is passed in l
pub record Ranked (order : Float → Float → Bool) (l : List Float) (k : ℕ) (d : Float) : Type 0 where
  pub before_it : passing (λ x. order x d) l ≤ k
  pub up_to_it : k < passing (λ x. not (order d x)) l
  pub one_of_them : (test : Float → Bool) → test d ≡ true → 0 < passing test l

pub passing_all : (l : List Float) → passing (λ _. true) l ≡ length l
passing_all [] = refl
passing_all (a ∷ l) = omega (arith, passing_all l)

module _ (P : Float → Type 0) (order : Float → Float → Bool) (is : Order P order) where
  itself : (a : Float) → P a → order a a ≡ false
  itself a p = go (order a a) refl
    where
      go : (b : Bool) → order a a ≡ b → order a a ≡ false
      go true e = is.one_way a a p p e
      go false e = e

  none_leads : (a : Float) (l : List Float) → Leads order a l → passing (λ x. order x a) l ≡ 0
  none_leads a [] u = refl
  none_leads a (x ∷ l) u = rw u.0 (omega (arith, none_leads a l u.1))

  led : (a : Float) (l : List Float) (k : ℕ) (z : Float) → Leads order a l → k < length l → order (get_or l k z) a ≡ false
  led a [] k z u h = absurd (omega arith)
  led a (x ∷ l) zero z u h = u.0
  led a (x ∷ l) (suc k) z u h = led a l k z u.1 (omega arith)

  at_most_one : (b : Bool) → one b ≤ 1
  at_most_one true = omega arith
  at_most_one false = omega arith

  ascending_rank : (l : List Float) (k : ℕ) (z : Float) → Each P l → Ascends order l → k < length l → Ranked order l k (get_or l k z)
  ascending_rank [] k z p s h = absurd (omega arith)
  ascending_rank (a ∷ l) zero z p s h =
      let e = itself a p.0 in
      record {
        before_it = rw e (omega (arith, none_leads a l s.0));
        up_to_it = rw e (omega arith);
        one_of_them = λ test t. rw t (omega arith);
      }
  ascending_rank (a ∷ l) (suc k) z p s h =
      let t = ascending_rank l k z p.1 s.1 (omega arith) in
      let e = led a l k z s.0 (omega arith) in
      record {
        before_it = omega (arith, at_most_one (order a (get_or l k z)), t.before_it);
        up_to_it = rw e (omega (arith, t.up_to_it));
        one_of_them = λ test u. omega (arith, t.one_of_them test u);
      }

  each_sorted : (l : List Float) → Each P l → Each P (sorted order l)
  unfolding sorted
  each_sorted l p = go l [] p tt
    where
      go : (l z : List Float) → Each P l → Each P z → Each P (foldl (inserted order) z l)
      go [] z p q = q
      go (a ∷ l) z p q = go l (inserted order z a) p.1 (each_inserted P order is z a q p.0)

  pub rank : (l : List Float) (k : ℕ) (z : Float) → Each P l → k < length l → Ranked order l k (get_or (sorted order l) k z)
  rank l k z p h =
      let same = same_numbers order in
      let long : k < length (sorted order l) = omega (arith, same (λ _. true) l, passing_all l, passing_all (sorted order l)) in
      let t = ascending_rank (sorted order l) k z (each_sorted l p) (ascends P order is l p) long in
      let d = get_or (sorted order l) k z in
      record {
        before_it = omega (arith, same (λ x. order x d) l, t.before_it);
        up_to_it = omega (arith, same (λ x. not (order d x)) l, t.up_to_it);
        one_of_them = λ test u. omega (arith, same test l, t.one_of_them test u);
      }
