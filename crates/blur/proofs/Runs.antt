-- One offset's terms along a row that is a line itself: the nodes that it leads inside are a run, and so are those that it leads them to. The run's ends
-- are known by the first node or by the last: from the first node's place on (`run_ahead`), up to the last node's place (`run_back`), or nothing at all
-- (`run_none`). Lists by their elements; which node is where, by `Moved` and omega. Assumes nothing.
use mathlib.Core.Path.{◌≡◌, sym, ap, ◌∙◌}
use mathlib.Core.List.{List}
use mathlib.Core.Logic.{⊎_elim}
use Prim.Native.Nat.{ℕ, ◌+◌, ◌-◌, ◌<◌, ◌≤◌}
use native.Mathlib.Omega.{arith}
use borrow.Rule.Slice.PartMut.{put_mid}
use lib.ListN.{length}
use lib.Ieee.{Float, nan, binary32, add, mul}
use Rattle.lists.specs.Lists.{tabulate, at, part}
use Rattle.lists.specs.Laws.Order.{lt_or_le}
use Rattle.lists.specs.Laws.Tabulate.{length_tabulate, at_tabulate, tabulate_by, tabulate_ext, tabulate_self}
use Rattle.lists.specs.Laws.Part.{length_part, part_at, put_length, put_before, put_in, put_after}
use Rattle.std.specs.Prelude.{Some, None}
use Rattle.blur.specs.Blur.{moved_to, with_term}
use Rattle.blur.specs.Words.{plus_times, FirstOutside}
use Rattle.blur.proofs.Moved.{moved_inside, moved_before, moved_past, inside_moved, outside_moved}
use Rattle.blur.proofs.Terms.{term_at, term_outside}

-- out[a..e] += w * v[b..f], said of the whole of out
run_put : (w : Float) (a e b f : ℕ) (out v : List Float) {ys : List Float} (g : ℕ → Float) → a ≤ e → e ≤ length out → e - a ≤ f - b
    → ys ≡ tabulate (length (part a e out)) (plus_times w (part a e out) (part b f v))
    → ((k : ℕ) → k < a → g k ≡ at out k)
    → ((k : ℕ) → k < e - a → g (a + k) ≡ add binary32 (at out (a + k)) (mul binary32 w (at v (b + k))))
    → ((k : ℕ) → e ≤ k → k < length out → g k ≡ at out k)
    → put_mid a (e - a) out ys ≡ tabulate (length out) g
run_put w a e b f out v {ys} g le to wide is low mid high =
    let size = length_part a e out to in
    let l : length ys ≡ e - a = ap length is ∙ length_tabulate (length (part a e out)) _ ∙ size in
    tabulate_by nan g (put_mid a (e - a) out ys) (put_length a e out ys to l)
    (λ k h.
    ⊎_elim
    (λ (lt : k < e).
    ⊎_elim
    (λ (before : k < a). put_before nan a e out ys le to l k before ∙ sym (low k before))
    (λ (since : a ≤ k).
    let j : a + (k - a) ≡ k = omega arith in
    let in_part : k - a < e - a = omega arith in
    ap (λ (m : ℕ). at (put_mid a (e - a) out ys) m) (sym j)
    ∙ put_in nan a e out ys le to l (k - a) in_part
    ∙ ap (λ (z : List Float). at z (k - a)) is
    ∙ at_tabulate nan (length (part a e out)) _ (k - a) (omega arith)
    ∙ ap (λ (z : Float). add binary32 z (mul binary32 w (at (part b f v) (k - a)))) (part_at nan a e out (k - a) in_part)
    ∙ ap (λ (z : Float). add binary32 (at out (a + (k - a))) (mul binary32 w z)) (part_at nan b f v (k - a) (omega arith))
    ∙ sym (mid (k - a) in_part) ∙ ap g j)
    (lt_or_le k a))
    (λ (ge : e ≤ k). put_after nan a e out ys le to l k ge ∙ sym (high k ge h))
    (lt_or_le k e))

module _ (out v : List Float) (w : Float) (radius t : ℕ) where
  -- the sums with this offset's terms
  abbrev with_offset : ℕ → Float
  with_offset k = with_term v (λ p. p) w (moved_to (length out) radius k t) (at out k)

  -- the first node is led to place p
  pub run_ahead : (p e : ℕ) {ys : List Float} → moved_to (length out) radius 0 t ≡ Some p → e ≡ length out - p
      → ys ≡ tabulate (length (part 0 e out)) (plus_times w (part 0 e out) (part p (length out) v))
      → put_mid 0 (e - 0) out ys ≡ tabulate (length out) with_offset
  run_ahead p e first end is =
      let n = length out in
      let f = inside_moved n radius 0 t first in
      run_put w 0 e p n out v with_offset (omega arith) (omega arith) (omega arith) is
      (λ k h. absurd (omega arith))
      (λ k h. term_at v (λ p. p) w (at out (0 + k)) (moved_inside n radius (0 + k) t {p = p + k} (omega arith) (omega arith) (omega arith)))
      (λ k low h. term_outside v (λ p. p) w (at out k) (moved_past n radius k t (omega arith)))

  -- the first node is led outside, and the last to place p
  pub run_back : (p a e : ℕ) {ys : List Float} → FirstOutside (length out) radius t → moved_to (length out) radius (length out - 1) t ≡ Some p → a ≡ length out - 1 - p → e ≡ p + 1
      → ys ≡ tabulate (length (part a (length out) out)) (plus_times w (part a (length out) out) (part 0 e v))
      → put_mid a (length out - a) out ys ≡ tabulate (length out) with_offset
  run_back p a e none last from to is =
      let n = length out in
      let f = inside_moved n radius (n - 1) t last in
      let back : t < radius = ⊎_elim (λ (h : 0 + t < radius). omega arith) (λ (h : n ≤ 0 + t - radius). absurd (omega arith)) (outside_moved n radius 0 t none) in
      run_put w a n 0 e out v with_offset (omega arith) (omega arith) (omega arith) is
      (λ k h. term_outside v (λ p. p) w (at out k) (moved_before n radius k t (omega arith)))
      (λ k h. term_at v (λ p. p) w (at out (a + k)) (moved_inside n radius (a + k) t {p = 0 + k} (omega arith) (omega arith) (omega arith)))
      (λ k low h. absurd (omega arith))

  -- both are led outside, and so are all between them
  pub run_none : FirstOutside (length out) radius t → moved_to (length out) radius (length out - 1) t ≡ None → out ≡ tabulate (length out) with_offset
  run_none none last =
      let n = length out in
      tabulate_self nan out
      ∙ tabulate_ext n (at out) with_offset
      (λ k h.
      sym
      (term_outside v (λ p. p) w (at out k)
      (⊎_elim
      (λ (low : 0 + t < radius). moved_before n radius k t (⊎_elim (λ (l : n - 1 + t < radius). omega arith) (λ (l : n ≤ n - 1 + t - radius). absurd (omega arith)) (outside_moved n radius (n - 1) t last)))
      (λ (high : n ≤ 0 + t - radius). moved_past n radius k t (omega arith))
      (outside_moved n radius 0 t none))))
