-- One offset's terms are added to the sums of a row: the row of sums is then that of one offset more (`blur_more`), whatever the lines of its nodes and
-- their places on them. A row whose lines run across it takes a part of v, or nothing (`across_at`, `across_outside`). Lists by their elements. Assumes
-- nothing.
use mathlib.Core.Path.{◌≡◌, sym, ap, ◌∙◌}
use mathlib.Core.List.{List}
use Prim.Native.Nat.{ℕ, suc, ◌+◌, ◌*◌}
use native.Mathlib.Numerals.{add-one}
use native.Mathlib.Omega.{arith}
use lib.ListN.{length}
use lib.Ieee.{Float, nan, binary32, add, mul}
use Rattle.lists.specs.Lists.{tabulate, at, part, zeros32, zero32}
use Rattle.lists.specs.Laws.Tabulate.{length_tabulate, at_tabulate, tabulate_ext, tabulate_self, tabulate_same}
use Rattle.lists.specs.Laws.Part.{part_at}
use Rattle.std.specs.Prelude.{Option, Some, None}
use Rattle.blur.specs.Blur.{moved_to, with_term, blur_to}
use Rattle.blur.specs.Words.{plus_times, across}

-- ---- one term

pub term_at : (v : List Float) (line : ℕ → ℕ) (w s : Float) {l : Option ℕ} {p : ℕ} → l ≡ Some p → with_term v line w l s ≡ add binary32 s (mul binary32 w (at v (line p)))
unfolding with_term
term_at v line w s e = ap (λ (l : Option ℕ). with_term v line w l s) e

pub term_outside : (v : List Float) (line : ℕ → ℕ) (w s : Float) {l : Option ℕ} → l ≡ None → with_term v line w l s ≡ s
unfolding with_term
term_outside v line w s e = ap (λ (l : Option ℕ). with_term v line w l s) e

-- ---- the sums of a row

module _ (v kernel : List Float) (n radius len : ℕ) (line : ℕ → ℕ → ℕ) (place : ℕ → ℕ) where
  pub blur_none : zeros32 len ≡ tabulate len (λ k. blur_to v (line k) n (place k) radius kernel 0)
  unfolding blur_to
  blur_none = sym (tabulate_same len zero32)

  pub blur_more : (t : ℕ) {out last : List Float} (l : ℕ → Option ℕ) → out ≡ tabulate len (λ k. blur_to v (line k) n (place k) radius kernel t)
      → ((k : ℕ) → length out ≡ len → l k ≡ moved_to n radius (place k) t)
      → last ≡ tabulate (length out) (λ k. with_term v (line k) (at kernel t) (l k) (at out k))
      → last ≡ tabulate len (λ k. blur_to v (line k) n (place k) radius kernel (t + 1))
  unfolding blur_to
  blur_more t {out} {last} l e led row =
      let f : ℕ → Float = λ k. blur_to v (line k) n (place k) radius kernel t in
      let size : length out ≡ len = ap length e ∙ length_tabulate len f in
      row
      ∙ ap (λ (m : ℕ). tabulate m (λ k. with_term v (line k) (at kernel t) (l k) (at out k))) size
      ∙ tabulate_ext len _ (λ k. blur_to v (line k) n (place k) radius kernel (suc t))
      (λ k h.
      ap (λ (c : Option ℕ). with_term v (line k) (at kernel t) c (at out k)) (led k size)
      ∙ ap (λ (s : Float). with_term v (line k) (at kernel t) (moved_to n radius (place k) t) s) (ap (λ (y : List Float). at y k) e ∙ at_tabulate nan len f k h))
      ∙ ap (λ (m : ℕ). tabulate len (λ k. blur_to v (line k) n (place k) radius kernel m)) (sym (add-one t))

-- the loop's end: the length and the number of offsets as they are known
pub blur_done : (f : ℕ → ℕ → ℕ → Float) {len size t all : ℕ} {out : List Float} → out ≡ tabulate len (λ k. f len k t) → len ≡ size → t ≡ all → out ≡ tabulate size (λ k. f size k all)
blur_done f {len} {size} {t} {all} e l h = e ∙ ap (λ (m : ℕ). tabulate m (λ k. f m k t)) l ∙ ap (λ (m : ℕ). tabulate size (λ k. f size k m)) h

-- ---- a row whose lines run across it

module _ (v out : List Float) (first stride : ℕ) (w : Float) {place : Option ℕ} where
  pub across_at : (p e : ℕ) → place ≡ Some p → e ≡ first + p * stride + length out
      → tabulate (length out) (plus_times w out (part (first + p * stride) e v)) ≡ tabulate (length out) (λ k. with_term v (across first stride k) w place (at out k))
  across_at p e is end =
      tabulate_ext (length out) (plus_times w out (part (first + p * stride) e v)) (λ k. with_term v (across first stride k) w place (at out k))
      (λ k h.
      let same : first + p * stride + k ≡ first + k + p * stride = omega arith in
      ap (λ (z : Float). add binary32 (at out k) (mul binary32 w z)) (part_at nan (first + p * stride) e v k (omega arith) ∙ ap (at v) same)
      ∙ sym (term_at v (across first stride k) w (at out k) is))

  pub across_outside : place ≡ None → out ≡ tabulate (length out) (λ k. with_term v (across first stride k) w place (at out k))
  across_outside is = tabulate_self nan out ∙ tabulate_ext (length out) (at out) _ (λ k h. sym (term_outside v (across first stride k) w (at out k) is))
