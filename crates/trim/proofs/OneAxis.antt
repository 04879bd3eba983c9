-- One axis moved: the new vertex w has the coordinate of the w-th vertex that is used, and the other axes stay. The places in the table are one to one,
-- so what was carried to one of them is not overwritten. By induction on the vertices passed. Assumes nothing.
use mathlib.Core.Path.{◌≡◌, refl, sym, ap, ◌∙◌, subst}
use mathlib.Core.Logic.{◌≢◌, ⊎_elim}
use mathlib.Core.List.{List}
use Prim.Native.Nat.{ℕ, zero, suc, ◌+◌, ◌-◌, ◌*◌, ◌≤◌, ◌<◌}
use native.Mathlib.Decide.{ℕ_discrete}
use native.Mathlib.Omega.{arith}
use lib.ListN.{length, get_or, set, length-set}
use lib.Seq.{get_or-set_same, get_or-set_other}
use lib.Ieee.{Float, nan}
use Rattle.lists.specs.Lists.{at}
use Rattle.closed.specs.Numbering.{index_of, slot, NoRepeat}
use Rattle.closed.proofs.Laws.Renumber.{in_or_not, in_at, at_index_of, index_of_at, slot_in, slot_out}
use Rattle.meshes.specs.FlatMesh.{vertex_count, coordinate}
use Rattle.trim.specs.Words.{Slots, carried, gathered, scattered}

-- ---- carried

pub carried_some : (line : List Float) (e : ℕ) (x : Float) → e ≢ 0 → carried line e x ≡ set line (e - 1) x
carried_some line zero x h = absurd (h refl)
carried_some line (suc w) x h = let e : w ≡ suc w - 1 = omega arith in ap (λ (k : ℕ). set line k x) e

length_carried : (line : List Float) (e : ℕ) (x : Float) → length (carried line e x) ≡ length line
length_carried line zero x = refl
length_carried line (suc w) x = length-set line w x

length_gathered : (table : List ℕ) (vertices : List Float) (axis : ℕ) (line : List Float) (v : ℕ) → length (gathered table vertices axis line v) ≡ length line
unfolding gathered
length_gathered table vertices axis line zero = refl
length_gathered table vertices axis line (suc v) = length_carried (gathered table vertices axis line v) (get_or table v 0) _ ∙ length_gathered table vertices axis line v

-- ---- gathered: seen are the used vertices, in the order of their new numbers

module _ (seen table : List ℕ) (count : ℕ) (slots : Slots seen table count) (once : NoRepeat seen) (vertices : List Float) (axis : ℕ) (line : List Float) (room : length seen ≤ length line) where
  pub gathered_at : (v : ℕ) → v ≤ length table → (w : ℕ) → w < length seen → get_or seen w 0 < v
      → at (gathered table vertices axis line v) w ≡ coordinate vertices (get_or seen w 0) axis
  unfolding gathered
  gathered_at zero b w hw h = absurd (omega arith)
  gathered_at (suc v) b w hw h = here (λ l. gathered_at v (omega arith) w hw l) (ℕ_discrete (get_or seen w 0) v)
    where
      so_far : List Float
      so_far = gathered table vertices axis line v

      long : length so_far ≡ length line
      long = length_gathered table vertices axis line v

      here : (get_or seen w 0 < v → at so_far w ≡ coordinate vertices (get_or seen w 0) axis) → Dec (get_or seen w 0 ≡ v)
          → at (carried so_far (get_or table v 0) (coordinate vertices v axis)) w ≡ coordinate vertices (get_or seen w 0) axis
      here before (yes e) =
          let place : get_or table v 0 ≡ suc w =
          slots.entry v (omega arith)
          ∙ ap (slot seen) (sym e)
          ∙ slot_in seen (get_or seen w 0) (in_at seen 0 w hw)
          ∙ ap suc (index_of_at seen once w hw) in
          ap (λ (k : ℕ). at (carried so_far k (coordinate vertices v axis)) w) place
          ∙ get_or-set_same so_far w (coordinate vertices v axis) nan (omega (arith, long))
          ∙ ap (λ (k : ℕ). coordinate vertices k axis) (sym e)
      here before (no d) =
          ⊎_elim
          (λ m.
          ap (λ (k : ℕ). at (carried so_far k (coordinate vertices v axis)) w) (slots.entry v (omega arith) ∙ slot_in seen v m)
          ∙ get_or-set_other so_far (index_of v seen) w (coordinate vertices v axis) nan (λ e. d (ap (λ (k : ℕ). get_or seen k 0) e ∙ at_index_of v seen 0 m))
          ∙ before (omega arith))
          (λ n.
          ap (λ (k : ℕ). at (carried so_far k (coordinate vertices v axis)) w) (slots.entry v (omega arith) ∙ slot_out seen v n)
          ∙ before (omega arith))
          (in_or_not v seen)

-- ---- scattered

pub length_scattered : (line : List Float) (axis : ℕ) (vertices : List Float) (w : ℕ) → length (scattered line axis vertices w) ≡ length vertices
unfolding scattered
length_scattered line axis vertices zero = refl
length_scattered line axis vertices (suc w) = length-set (scattered line axis vertices w) (3 * w + axis) _ ∙ length_scattered line axis vertices w

module _ (line : List Float) (axis : ℕ) (vertices : List Float) where
  scattered_at : (n w : ℕ) → w < n → 3 * w + axis < length vertices → at (scattered line axis vertices n) (3 * w + axis) ≡ at line w
  unfolding scattered
  scattered_at zero w h b = absurd (omega arith)
  scattered_at (suc n) w h b = here (λ l. scattered_at n w l b) (ℕ_discrete w n)
    where
      here : (w < n → at (scattered line axis vertices n) (3 * w + axis) ≡ at line w) → Dec (w ≡ n) → at (set (scattered line axis vertices n) (3 * n + axis) (at line n)) (3 * w + axis) ≡ at line w
      here before (yes e) =
          ap (λ (k : ℕ). at (set (scattered line axis vertices n) (3 * n + axis) (at line n)) (3 * k + axis)) e
          ∙ get_or-set_same (scattered line axis vertices n) (3 * n + axis) (at line n) nan (omega (arith, length_scattered line axis vertices n))
          ∙ ap (at line) (sym e)
      here before (no d) =
          get_or-set_other (scattered line axis vertices n) (3 * n + axis) (3 * w + axis) (at line n) nan (λ e. omega arith)
          ∙ before (omega arith)

  scattered_other : axis < 3 → (n w other : ℕ) → other < 3 → other ≢ axis → at (scattered line axis vertices n) (3 * w + other) ≡ at vertices (3 * w + other)
  unfolding scattered
  scattered_other a zero w other b d = refl
  scattered_other a (suc n) w other b d =
      get_or-set_other (scattered line axis vertices n) (3 * n + axis) (3 * w + other) (at line n) nan (λ e. omega arith)
      ∙ scattered_other a n w other b d

-- ---- one axis

pub record Moved (seen : List ℕ) (axis : ℕ) (y z : List Float) : Type 0 where
  pub long : length z ≡ length y
  pub here : (w : ℕ) → w < length seen → at z (3 * w + axis) ≡ at y (3 * get_or seen w 0 + axis)
  pub others : (w other : ℕ) → other < 3 → other ≢ axis → at z (3 * w + other) ≡ at y (3 * w + other)

pub moved : (seen table : List ℕ) (count : ℕ) → Slots seen table count → NoRepeat seen → (y : List Float) (axis : ℕ) (line : List Float) {z : List Float} → axis < 3
    → count ≤ length line → count ≤ vertex_count y → vertex_count y ≤ length table → ((w : ℕ) → w < length seen → get_or seen w 0 < vertex_count y)
    → z ≡ scattered (gathered table y axis line (vertex_count y)) axis y count → Moved seen axis y z
moved seen table count slots once y axis line a room few marks below e =
    let line' : List Float = gathered table y axis line (vertex_count y) in
    subst (Moved seen axis y) (sym (e ∙ ap (scattered line' axis y) slots.total))
    (record {
      long = length_scattered line' axis y (length seen);
      here = λ w h.
          scattered_at line' axis y (length seen) w h (omega (arith, slots.total))
          ∙ gathered_at seen table count slots once y axis line (omega (arith, slots.total)) (vertex_count y) marks w h (below w h);
      others = scattered_other line' axis y a (length seen);
    })
