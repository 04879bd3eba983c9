-- An array that a closure makes, which each call leaves as it was: its elements are those of a function. Assumes nothing.
use mathlib.Core.Path.{◌≡◌, refl, subst, ◌∙◌}
use Prim.Native.Nat.{ℕ, zero, suc, ◌+◌, ◌<◌}
use native.Mathlib.Omega.{arith}
use mathlib.Core.List.{List}
use lib.ListN.{get_or}
use denote.Param.Members.{Mut, Called}
use Rattle.std.specs.Array.{IsFromFnResult, IsFromFnResultFrom}
use Rattle.lists.specs.Lists.{tabulate}
use Rattle.lists.specs.Laws.Tabulate.{tabulate_by}

module _ {F B : Type 0} (g : Mut F (ℕ × Unit {0}) B) (f : F) (h : ℕ → B) (N : ℕ) (same : (i : ℕ) (y : B) (q : F) → i < N → Called g f (i, tt) y q → (y ≡ h i) × (q ≡ f)) where
  made_from : (ys : List B) (d : B) (n i : ℕ) (p : F) → p ≡ f → i + n ≡ N → IsFromFnResultFrom g p ys i n → (k : ℕ) → k < n → get_or ys (i + k) d ≡ h (i + k)
  made_from ys d zero i p e l m k b = absurd (omega arith)
  made_from ys d (suc n) i p e l m zero b =
      let one = same i m.1 m.0 (omega arith) (subst (λ (x : F). Called g x (i, tt) m.1 m.0) e m.3) in
      let here : i ≡ i + 0 = omega arith in
      subst (λ (j : ℕ). get_or ys j d ≡ h j) here (m.2.1 d ∙ one.0)
  made_from ys d (suc n) i p e l m (suc k) b =
      let one = same i m.1 m.0 (omega arith) (subst (λ (x : F). Called g x (i, tt) m.1 m.0) e m.3) in
      let next : i + 1 + k ≡ i + suc k = omega arith in
      subst (λ (j : ℕ). get_or ys j d ≡ h j) next (made_from ys d n (i + 1) m.0 one.1 (omega arith) m.4 k (omega arith))

  pub made : (d : B) (ys : List B) → IsFromFnResult g f ys N → ys ≡ tabulate N h
  made d ys r =
      tabulate_by d h ys r.long (λ k b. let e : 0 + k ≡ k = omega arith in subst (λ (j : ℕ). get_or ys j d ≡ h j) e (made_from ys d N 0 f refl (omega arith) r.each k b))
