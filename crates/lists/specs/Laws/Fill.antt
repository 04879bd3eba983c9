-- A loop that writes y[i] = f i for i = 0, 1, ..: after i turns the list is `fill f i y`, which `fill_more` carries over a turn by `set` alone. What is
-- not yet written is as it came (`fill_at`), so a loop may read the element that it is about to write. With every element written it is `tabulate`
-- (`fill_all`). `Filled` is such a loop's whole invariant, with `filled_none`, `filled_more` and `filled_done` for its start, its turn and its end.
-- Assumes nothing.
use Rattle.std.specs.Prelude.{◌≡◌}
use Rattle.std.proofs.Math.Path.{refl, sym, ap}
use Rattle.std.proofs.Common.{◌∙◌, subst, not-suc-le-zero, le_of_suc-le-suc, le_of_lt, ne_of_lt, ne_of_gt, eq-or-lt_of_le, le_refl, add-one, arith}
use mathlib.Core.List.{List}
use Rattle.std.proofs.Math.Logic.{⊎_elim}
use Prim.Native.Nat.{ℕ, zero, suc, ◌+◌, ◌<◌, ◌≤◌}
use Rattle.std.proofs.Math.ListN.{length, get_or, set, length-set}
use Rattle.std.proofs.Math.Seq.{get_or-set_same, get_or-set_other}
use Rattle.lists.specs.Lists.{tabulate, fill}
use Rattle.lists.specs.Laws.Tabulate.{tabulate_by}

module _ {A : Type 0} where
  -- ---- what stands in it

  pub length_fill : (f : ℕ → A) (i : ℕ) (y : List A) → length (fill f i y) ≡ length y
  unfolding fill
  length_fill f zero y = refl
  length_fill f (suc i) y = length-set (fill f i y) i (f i) ∙ length_fill f i y

  -- not yet written
  pub fill_at : (d : A) (f : ℕ → A) (i : ℕ) (y : List A) (k : ℕ) → i ≤ k → get_or (fill f i y) k d ≡ get_or y k d
  unfolding fill
  fill_at d f zero y k h = refl
  fill_at d f (suc i) y k h = get_or-set_other (fill f i y) i k (f i) d (ne_of_gt h) ∙ fill_at d f i y k (le_of_lt h)

  -- written
  pub fill_below : (d : A) (f : ℕ → A) (i : ℕ) (y : List A) (k : ℕ) → k < i → k < length y → get_or (fill f i y) k d ≡ f k
  unfolding fill
  fill_below d f zero y k h l = absurd (not-suc-le-zero h)
  fill_below d f (suc i) y k h l =
      ⊎_elim
      (λ e. ap (λ (j : ℕ). get_or (set (fill f i y) i (f i)) j d) e ∙ get_or-set_same (fill f i y) i (f i) d (subst (λ (m : ℕ). i < m) (sym (length_fill f i y)) (subst (λ (m : ℕ). m < length y) e l)) ∙ sym (ap f e))
      (λ lt. get_or-set_other (fill f i y) i k (f i) d (ne_of_lt lt) ∙ fill_below d f i y k lt l)
      (eq-or-lt_of_le (le_of_suc-le-suc h))

  -- ---- a loop's start, its turn and its end

  pub fill_none : (f : ℕ → A) (y : List A) → y ≡ fill f 0 y
  unfolding fill
  fill_none f y = refl

  -- one turn: z is the list, v what is written
  pub fill_more : (f : ℕ → A) (i : ℕ) (y : List A) {z : List A} {v : A} → z ≡ fill f i y → v ≡ f i → set z i v ≡ fill f (i + 1) y
  unfolding fill
  fill_more f i y {z} {v} e h = ap (λ (l : List A). set l i v) e ∙ ap (λ (w : A). set (fill f i y) i w) h ∙ sym (ap (λ (k : ℕ). fill f k y) (add-one i))

  -- the element that the turn is about to write
  pub fill_now : (d : A) (f : ℕ → A) (i : ℕ) (y : List A) {z : List A} → z ≡ fill f i y → get_or z i d ≡ get_or y i d
  fill_now d f i y e = ap (λ (l : List A). get_or l i d) e ∙ fill_at d f i y i (le_refl i)

  -- every element written
  pub fill_all : (f : ℕ → A) (n : ℕ) (y : List A) → length y ≡ n → fill f n y ≡ tabulate n f
  fill_all f n y e = tabulate_by (f 0) f (fill f n y) (length_fill f n y ∙ e) (λ k h. fill_below (f 0) f n y k h (subst (λ (m : ℕ). k < m) (sym e) h))

  -- the loop's end: the index is the length
  pub fill_done : (f : ℕ → A) {i n : ℕ} (y : List A) {z : List A} → z ≡ fill f i y → i ≡ n → length y ≡ n → z ≡ tabulate n f
  fill_done f {i} {n} y e h l = e ∙ ap (λ (k : ℕ). fill f k y) h ∙ fill_all f n y l

  -- ---- the three as one invariant: z is y with its first i elements written

  pub record Filled (f : ℕ → A) (y z : List A) (i : ℕ) : Type 0 where
    pub written : z ≡ fill f i y
    pub same : length z ≡ length y
    pub within : i ≤ length y

  pub filled_none : {f : ℕ → A} {y : List A} → Filled f y y 0
  filled_none {f} {y} = record { written = fill_none f y; same = refl; within = omega arith }

  pub filled_more : {f : ℕ → A} {y z : List A} {i : ℕ} {v : A} → Filled f y z i → i < length y → v ≡ f i → Filled f y (set z i v) (i + 1)
  filled_more {f} {y} {z} {i} {v} t l e = record { written = fill_more f i y t.written e; same = length-set z i v ∙ t.same; within = omega arith }

  pub filled_now : (d : A) {f : ℕ → A} {y z : List A} {i : ℕ} → Filled f y z i → get_or z i d ≡ get_or y i d
  filled_now d {f} {y} {z} {i} t = fill_now d f i y t.written

  pub filled_done : {f : ℕ → A} {y z : List A} {i n : ℕ} → Filled f y z i → length y ≡ n → n ≤ i → z ≡ tabulate n f
  filled_done {f} {y} {z} {i} {n} t l h = fill_done f y t.written (omega (arith, t.within)) l
