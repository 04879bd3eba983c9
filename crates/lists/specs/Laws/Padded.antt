-- A slice cleared from a place on: the loop that clears it (`ClearedFrom`, its whole invariant), and what it leaves as what was kept, padded. z is the
-- zero of the element type, d what is read past a list's end. Assumes nothing.
use Rattle.std.specs.Prelude.{◌≡◌, refl, List, [], ◌∷◌, ◌++◌, ℕ, suc, ◌+◌, ◌-◌, ◌<◌, ◌≤◌, length, get_or, set, take, drop, replicate}
use Rattle.std.proofs.Common.{sym, ap, ◌∙◌, append-nil, append_assoc, add-one, arith, length-append, length-set, drop_of_length-le, take-append-drop, length-take-le, take_at, drop-cons, get_or-append-add}
use Rattle.std.proofs.Math.Nat.{sub-zero}
use Rattle.std.proofs.lemmas.List.{length-replicate, get_or-replicate, replicate-append-replicate, set_at}
use Rattle.std.proofs.Math.ListN.{get_or-append}
use Rattle.std.proofs.Math.Seq.{append_snoc}
use Rattle.lists.specs.Lists.{padded}

module _ {A : Type 0} where
  -- ---- a loop that clears from a place on

  -- s is y with z written at from, from + 1, .., i - 1; where from is past the end, i stays there
  pub record ClearedFrom (z : A) (from : ℕ) (y s : List A) (i : ℕ) : Type 0 where
    pub written : s ≡ take from y ++ replicate (i - from) z ++ drop i y
    pub same : length s ≡ length y
    pub since : from ≤ i
    pub within : i - from ≤ length y - from

  pub cleared_none : {z : A} {from : ℕ} {y : List A} → ClearedFrom z from y y from
  cleared_none {z} {from} {y} =
      let none : from - from ≡ 0 = omega arith in
      record {
        written = sym (ap (λ (m : ℕ). take from y ++ replicate m z ++ drop from y) none ∙ ap (λ (t : List A). t ++ drop from y) (append-nil (take from y)) ∙ take-append-drop from y);
        same = refl;
        since = omega arith;
        within = omega arith;
      }

  -- what stands before i is as long as it should
  front : (z : A) (from i : ℕ) (y : List A) → from ≤ i → i ≤ length y → length (take from y ++ replicate (i - from) z) ≡ i
  front z from i y h l =
      length-append (take from y) (replicate (i - from) z)
      ∙ ap (λ (m : ℕ). m + length (replicate (i - from) z)) (length-take-le from y (omega arith))
      ∙ ap (λ (m : ℕ). from + m) (length-replicate (i - from) z)
      ∙ omega arith

  pub cleared_more : {z : A} {from : ℕ} {y s : List A} {i : ℕ} → ClearedFrom z from y s i → i < length y → ClearedFrom z from y (set s i z) (i + 1)
  cleared_more {z} {from} {y} {s} {i} t l =
      let kept = take from y in
      let zeros = replicate (i - from) z in
      let one : i - from + 1 ≡ i + 1 - from = omega (arith, t.since) in
      record {
        written =
            ap (λ (u : List A). set u i z) t.written
            ∙ ap (λ (u : List A). set (kept ++ zeros ++ u) i z) (drop-cons y i z l)
            ∙ set_at (kept ++ zeros) (get_or y i z) (drop (suc i) y) z i (front z from i y t.since (omega arith))
            ∙ sym (append_snoc (kept ++ zeros) z (drop (suc i) y))
            ∙ ap (λ (u : List A). u ++ drop (suc i) y) (append_assoc kept zeros (z ∷ []) ∙ ap (λ (u : List A). kept ++ u) (replicate-append-replicate (i - from) 1 z ∙ ap (λ (m : ℕ). replicate m z) one))
            ∙ ap (λ (m : ℕ). kept ++ replicate (i + 1 - from) z ++ drop m y) (sym (add-one i));
        same = length-set s i z ∙ t.same;
        since = omega (arith, t.since);
        within = omega (arith, t.since);
      }

  pub cleared_done : {z : A} {from : ℕ} {y s : List A} {i : ℕ} → ClearedFrom z from y s i → length y ≤ i → s ≡ take from y ++ replicate (length y - from) z
  cleared_done {z} {from} {y} {s} {i} t l =
      let all : i - from ≡ length y - from = omega (arith, t.since, t.within) in
      t.written
      ∙ ap (λ (u : List A). take from y ++ replicate (i - from) z ++ u) (drop_of_length-le y l)
      ∙ append-nil (take from y ++ replicate (i - from) z)
      ∙ ap (λ (m : ℕ). take from y ++ replicate m z) all

  -- ---- what is kept, padded

  -- a slice of n elements whose first are l, cleared after them
  pub cleared_padded : (z : A) (l s : List A) {from n : ℕ} → take from s ≡ l → length l ≡ from → length s ≡ n
      → take from s ++ replicate (length s - from) z ≡ padded z n l
  cleared_padded z l s {from} {n} q r p =
      let e : length s - from ≡ n - length l = omega arith in
      ap (λ (t : List A). t ++ replicate (length s - from) z) q ∙ ap (λ (m : ℕ). l ++ replicate m z) e

  -- grown at its end, from nothing: what comes next takes the place of the first z
  pub padded_none : (z : A) (n : ℕ) → replicate n z ≡ padded z n []
  padded_none z n = ap (λ (m : ℕ). replicate m z) (sym (sub-zero n))

  pub padded_more : (z : A) (n : ℕ) (l : List A) {s : List A} {i : ℕ} (v : A) → s ≡ padded z n l → length l ≡ i → i < n → set s i v ≡ padded z n (l ++ (v ∷ []))
  padded_more z n l {s} {i} v e at h =
      let one : n - length l ≡ suc (n - suc (length l)) = omega arith in
      ap (λ (t : List A). set t i v) (e ∙ ap (λ (m : ℕ). l ++ replicate m z) one)
      ∙ set_at l z (replicate (n - suc (length l)) z) v i at
      ∙ sym (append_snoc l v (replicate (n - suc (length l)) z))
      ∙ ap (λ (m : ℕ). l ++ (v ∷ []) ++ replicate (n - m) z) (sym (length-append l (v ∷ []) ∙ add-one (length l)))

  pub length_padded : (z : A) (n : ℕ) (l : List A) → length l ≤ n → length (padded z n l) ≡ n
  length_padded z n l h = length-append l (replicate (n - length l) z) ∙ ap (λ (m : ℕ). length l + m) (length-replicate (n - length l) z) ∙ omega arith

  -- what was kept stands at the front
  pub take_padded : (z : A) (n : ℕ) (l : List A) → take (length l) (padded z n l) ≡ l
  take_padded z n l = take_at l (replicate (n - length l) z) (length l) refl

  pub padded_at : (d z : A) (n : ℕ) (l : List A) (k : ℕ) → k < length l → get_or (padded z n l) k d ≡ get_or l k d
  padded_at d z n l k h = get_or-append l (replicate (n - length l) z) d k h

  -- and zeros after it
  pub padded_after : (d z : A) (n : ℕ) (l : List A) (k : ℕ) → length l ≤ k → k < n → get_or (padded z n l) k d ≡ z
  padded_after d z n l k h t =
      let j : length l + (k - length l) ≡ k = omega arith in
      ap (λ (m : ℕ). get_or (padded z n l) m d) (sym j)
      ∙ get_or-append-add l (replicate (n - length l) z) (k - length l) d
      ∙ get_or-replicate (n - length l) (k - length l) z d (omega arith)
