-- A part x[a..e] of a slice: read, it is `part a e x`; lent as `&mut` and come back as ys, it leaves `put_mid a (e - a) x ys`. What stands in each, index
-- by index, and a loop that writes part after part (`filled_part`). d is what is read past a list's end. Assumes nothing.
use Rattle.std.specs.Prelude.{◌≡◌, List, ◌++◌, ℕ, ◌+◌, ◌-◌, ◌<◌, ◌≤◌, length, get_or, take, drop}
use Rattle.std.proofs.Common.{sym, ap, ◌∙◌, subst, ⊎_elim, le_trans, arith, get_or-take, get_or-drop, get_or-append-add, length-take-le, ext_get_or}
use Rattle.std.proofs.Math.ListN.{get_or-append}
use borrow.Rule.Slice.PartMut.{post_of, put_mid, same_len_mid, mid_len, drop_put}
use Rattle.lists.specs.Lists.{tabulate, part, fill}
use Rattle.lists.specs.Laws.Order.{lt_or_le}
use Rattle.lists.specs.Laws.Tabulate.{length_tabulate, at_tabulate}
use Rattle.lists.specs.Laws.Fill.{length_fill, fill_at, fill_below, Filled}

module _ {A : Type 0} where
  -- ---- a part that is read

  pub length_part : (a e : ℕ) (x : List A) → e ≤ length x → length (part a e x) ≡ e - a
  length_part a e x h = mid_len a e x h

  pub part_at : (d : A) (a e : ℕ) (x : List A) (k : ℕ) → k < e - a → get_or (part a e x) k d ≡ get_or x (a + k) d
  part_at d a e x k h = get_or-take (e - a) (drop a x) k d h ∙ get_or-drop a x k d

  -- ---- a part y[a..e] that was lent, and came back as ys

  pub put_length : (a e : ℕ) (y ys : List A) → e ≤ length y → length ys ≡ e - a → length (put_mid a (e - a) y ys) ≡ length y
  put_length a e y ys to l = same_len_mid a (e - a) y ys (l ∙ sym (mid_len a e y to))

  module _ (d : A) (a e : ℕ) (y ys : List A) (le : a ≤ e) (to : e ≤ length y) (l : length ys ≡ e - a) where
    front : length (take a y) ≡ a
    front = length-take-le a y (le_trans le to)

    pub put_before : (k : ℕ) → k < a → get_or (put_mid a (e - a) y ys) k d ≡ get_or y k d
    put_before k h = get_or-append (take a y) (ys ++ post_of a (e - a) y) d k (subst (λ (m : ℕ). k < m) (sym front) h) ∙ get_or-take a y k d h

    pub put_in : (k : ℕ) → k < e - a → get_or (put_mid a (e - a) y ys) (a + k) d ≡ get_or ys k d
    put_in k h =
        ap (λ (m : ℕ). get_or (put_mid a (e - a) y ys) (m + k) d) (sym front)
        ∙ get_or-append-add (take a y) (ys ++ post_of a (e - a) y) k d
        ∙ get_or-append ys (post_of a (e - a) y) d k (subst (λ (m : ℕ). k < m) (sym l) h)

    pub put_after : (k : ℕ) → e ≤ k → get_or (put_mid a (e - a) y ys) k d ≡ get_or y k d
    put_after k h =
        let j : e + (k - e) ≡ k = omega arith in
        ap (λ (m : ℕ). get_or (put_mid a (e - a) y ys) m d) (sym j)
        ∙ sym (get_or-drop e (put_mid a (e - a) y ys) (k - e) d)
        ∙ ap (λ (z : List A). get_or z (k - e) d) (drop_put a e y ys le to l)
        ∙ get_or-drop e y (k - e) d
        ∙ ap (λ (m : ℕ). get_or y m d) j

  -- ---- a loop that writes part after part: z is y with its first a elements written, and ys the next part, y[a..e]

  pub fill_part : (d : A) (f : ℕ → A) (a e : ℕ) (y ys : List A) {z : List A} → z ≡ fill f a y → a ≤ e → e ≤ length y → length ys ≡ e - a
      → ((k : ℕ) → k < e - a → get_or ys k d ≡ f (a + k)) → put_mid a (e - a) z ys ≡ fill f e y
  fill_part d f a e y ys {z} same le to l here =
      let lz : length z ≡ length y = ap length same ∙ length_fill f a y in
      let toz : e ≤ length z = omega arith in
      let lp : length (put_mid a (e - a) z ys) ≡ length y = put_length a e z ys toz l ∙ lz in
      ext_get_or d (put_mid a (e - a) z ys) (fill f e y) (lp ∙ sym (length_fill f e y))
      (λ k h.
      let hy : k < length y = subst (λ (m : ℕ). k < m) lp h in
      ⊎_elim
      (λ (lt : k < e). ⊎_elim (before toz k hy lt) (within toz k hy lt) (lt_or_le k a))
      (λ (ge : e ≤ k). put_after d a e z ys le toz l k ge ∙ ap (λ (t : List A). get_or t k d) same ∙ fill_at d f a y k (omega arith) ∙ sym (fill_at d f e y k ge))
      (lt_or_le k e))
    where
      before : e ≤ length z → (k : ℕ) → k < length y → k < e → k < a → get_or (put_mid a (e - a) z ys) k d ≡ get_or (fill f e y) k d
      before toz k hy lt lta =
          put_before d a e z ys le toz l k lta ∙ ap (λ (t : List A). get_or t k d) same ∙ fill_below d f a y k lta hy ∙ sym (fill_below d f e y k lt hy)

      within : e ≤ length z → (k : ℕ) → k < length y → k < e → a ≤ k → get_or (put_mid a (e - a) z ys) k d ≡ get_or (fill f e y) k d
      within toz k hy lt ge =
          let j : a + (k - a) ≡ k = omega arith in
          ap (λ (m : ℕ). get_or (put_mid a (e - a) z ys) m d) (sym j)
          ∙ put_in d a e z ys le toz l (k - a) (omega arith) ∙ here (k - a) (omega arith) ∙ ap f j ∙ sym (fill_below d f e y k lt hy)

  -- the same over the whole invariant, with the part given as a function's contract gives it: m elements, the k-th of them g k
  pub filled_part : {f g : ℕ → A} {y z ys : List A} {a m : ℕ} (e : ℕ) → Filled f y z a → ys ≡ tabulate m g → e ≡ a + m → e ≤ length y
      → ((k : ℕ) → k < m → g k ≡ f (a + k)) → Filled f y (put_mid a (e - a) z ys) e
  filled_part {f} {g} {y} {z} {ys} {a} {m} e t row size to agree =
      let l : length ys ≡ m = ap length row ∙ length_tabulate m g in
      record {
        written =
            fill_part (f 0) f a e y ys t.written (omega arith) to (omega arith)
            (λ k h. ap (λ (u : List A). get_or u k (f 0)) row ∙ at_tabulate (f 0) m g k (omega arith) ∙ agree k (omega arith));
        same = put_length a e z ys (omega (arith, t.same)) (omega arith) ∙ t.same;
        within = to;
      }
