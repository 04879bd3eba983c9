-- Insertion in a slice: the part before k is in place and v goes into the rest of the first m, which is what `inserted` has left to do. By `take` and
-- `set` at k. Assumes nothing.
use mathlib.Core.Path.{◌≡◌, refl, sym, ap, ◌∙◌}
use mathlib.Core.Bool.{true, false, cond}
use mathlib.Core.List.{List, [], ◌∷◌, ◌++◌}
use Prim.Native.Nat.{ℕ, suc, ◌+◌, ◌≤◌, ◌<◌}
use native.Mathlib.Numerals.{add-one}
use native.Mathlib.Omega.{arith}
use lib.ListN.{length, get_or, take, drop, set, length-set}
use lib.Seq.{take-suc, drop-cons, take-suc-set, take-set-lt, drop-set-lt, append_snoc, get_or-take, drop-length, length-take-le}
use lib.Ieee.{Float, nan, lt}
use Rattle.search.specs.Search.{inserted}

pub record Carried (l₀ : List Float) (m : ℕ) (d : Float) (l : List Float) (v : Float) (k : ℕ) : Type 0 where
  pub left : take k l ++ inserted lt (drop k (take m l)) v ≡ inserted lt (take m l₀) d
  pub same : length l ≡ length l₀
  pub within : k ≤ m

pub carried_none : {l : List Float} {m : ℕ} {d : Float} → Carried l m d l d 0
carried_none = record { left = refl; same = refl; within = omega arith }

module _ {l₀ : List Float} {m : ℕ} {d : Float} {l : List Float} {v : Float} {k : ℕ} (inv : Carried l₀ m d l v k) (room : m < length l₀) where
  module _ (here : k < m) where
    in_list : k < length l
    in_list = omega (arith, inv.same)

    rest : drop k (take m l) ≡ get_or l k nan ∷ drop (suc k) (take m l)
    rest =
        let n : length (take m l) ≡ m = length-take-le m l (omega (arith, inv.same)) in
        let h : k < length (take m l) = omega arith in
        drop-cons (take m l) k nan h ∙ ap (λ (x : Float). x ∷ drop (suc k) (take m l)) (get_or-take m l k nan here)

    now_is : take k l ++ (cond (lt v (get_or l k nan)) v (get_or l k nan) ∷ inserted lt (drop (suc k) (take m l)) (cond (lt v (get_or l k nan)) (get_or l k nan) v)) ≡ inserted lt (take m l₀) d
    now_is = ap (λ (r : List Float). take k l ++ inserted lt r v) (sym rest) ∙ inv.left

    -- the element stays
    pub carried_past : lt v (get_or l k nan) ≡ false → Carried l₀ m d l v (k + 1)
    carried_past t =
        record {
          left = rw (add-one, take-suc l k nan in_list, append_snoc (take k l) (get_or l k nan)) (rw t at now_is);
          same = inv.same;
          within = omega arith;
        }

    -- v takes its place, and it is carried on
    pub carried_swapped : lt v (get_or l k nan) ≡ true → Carried l₀ m d (set l k v) (get_or l k nan) (k + 1)
    carried_swapped t =
        let s : k < suc k = omega arith in
        record {
          left =
              rw (add-one, take-suc-set l k v in_list, append_snoc (take k l) v, take-set-lt m l k v here, drop-set-lt (suc k) (take m l) k v s) (rw t at now_is);
          same = length-set l k v ∙ inv.same;
          within = omega arith;
        }

  pub carried_done : m ≤ k → take (m + 1) (set l m v) ≡ inserted lt (take m l₀) d
  carried_done h =
      let e : k ≡ m = omega (arith, inv.within) in
      let n : length (take m l) ≡ m = length-take-le m l (omega (arith, inv.same)) in
      let r : m < length l = omega (arith, inv.same) in
      let none : drop m (take m l) ≡ [] = ap (λ (j : ℕ). drop j (take m l)) (sym n) ∙ drop-length (take m l) in
      rw (add-one, take-suc-set l m v r) (ap (λ (t : List Float). take m l ++ inserted lt t v) (sym none) ∙ rw e at inv.left)
