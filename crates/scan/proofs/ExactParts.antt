-- Once the checks pass, all scratch is at least as long as stated, which is what the stages ask (`lent_room`), so its fronts have just the stated lengths
-- (`front_length`), and come back in their places (`front_back`, `cleared_is`). Assumes nothing.
use Rattle.std.specs.Prelude.{◌≡◌, ◌≤◌, ◌^◌, ◌++◌, List, ℕ, take, drop, replicate, length, Float}
use Rattle.std.proofs.Common.{sym, ap, ap₂, subst, ◌∙◌, arith}
use Rattle.std.proofs.lemmas.List.{take_at, drop_at, take-append-drop, length-append, length-drop, length-replicate}
use Rattle.lists.specs.Lists.{zero32, zeros32}
use Rattle.meshes.specs.declared.MeshSize.{MeshSize}
use Rattle.points.specs.declared.point.Point.{Point}
use lib.Seq.{length-take-le}
use Rattle.ending.specs.declared.Grids.{Grids}
use Rattle.ending.specs.Slices.{grid_lengths, SameLengths}
use Rattle.settings.specs.declared.Settings.{Settings}
use Rattle.settings.specs.declared.Lengths.{Lengths}
use Rattle.settings.specs.Laws.Passed.{Fit, ChecksPassed}
use Rattle.scan.specs.Reconstruction.{field_for}
use Rattle.scan.specs.Laws.FieldLength.{field_length}
use Rattle.scan.specs.Words.{Lent, Solved, GridsMade, cleared_front}

-- a front of n elements has as many
pub front_length : {A : Type 0} {n m : ℕ} (s : List A) → n ≡ m → m ≤ length s → length (take n s) ≡ m
front_length {n = n} s e h = length-take-le n s (omega (arith, e, h)) ∙ e

-- one that was lent and came back as x stands before what stood past it
pub front_back : {A : Type 0} (n : ℕ) (s x : List A) → n ≤ length s → length x ≡ length (take n s) → (take n (x ++ drop n s) ≡ x) × (drop n (x ++ drop n s) ≡ drop n s)
front_back n s x h l = let e = l ∙ length-take-le n s h in (take_at x (drop n s) n e, drop_at x (drop n s) n e)

-- one that was cleared
pub cleared_is : {A : Type 0} (z : A) {n m : ℕ} (s : List A) {s' : List A} → n ≡ m → m ≤ length s
    → take n s' ≡ replicate (length (take n s)) z → drop n s' ≡ drop n s → s' ≡ replicate m z ++ drop m s
cleared_is z {n} s {s'} e h cleared beside =
    sym (take-append-drop n s')
    ∙ ap₂ ◌++◌ (cleared ∙ ap (λ (k : ℕ). replicate k z) (front_length s e h)) (beside ∙ ap (λ (k : ℕ). drop k s) e)

pub lent_room : {xs : List Float} {st : Settings} (long : Lengths) {lent : Grids} {distances : List Float}
    → ChecksPassed xs st long → long.grids ≡ grid_lengths lent → long.distances ≡ length distances → Lent xs st lent distances
lent_room long {lent} passed grids given =
    let room = subst (Fit _) grids passed.grids_fit in
    record {
      deep = passed.deep;
      shallow = passed.shallow;
      few = passed.few;
      room0 = room.0;
      room1 = room.1.0;
      room2 = room.1.1.0;
      room3 = room.1.1.1.0;
      room4 = room.1.1.1.1.0;
      room5 = room.1.1.1.1.1.0;
      room6 = room.1.1.1.1.1.1.0;
      enough = omega (arith, given, passed.distances_fit);
    }

-- ---- what the stages leave is as long as what they found

-- n elements written over the front of a slice
front_kept : {A : Type 0} (n : ℕ) (x s : List A) → length x ≡ n → n ≤ length s → length (x ++ drop n s) ≡ length s
front_kept n x s e h = omega (arith, e, h, length-append x (drop n s), length-drop n s)

front_cleared : (n : ℕ) (s : List Float) → n ≤ length s → length (cleared_front n s) ≡ length s
front_cleared n s h = front_kept n (zeros32 n) s (length-replicate n zero32) h

pub solved_lengths : {ps : List Point} {xs : List Float} {st : Settings} {level : Float} {before after : Grids} {distances distances' : List Float}
    → Lent xs st before distances → Solved ps st level before after distances distances' → SameLengths before after
solved_lengths {ps} {xs} {st} {before = before} lent solved =
    let n = 8 ^ st.depth in record {
      l0 = ap length solved.field ∙ front_kept n (field_for ps st) before.s0.now (field_length ps st) lent.room0;
      l1 = ap length solved.zero1 ∙ front_cleared n before.s1.now lent.room1;
      l2 = ap length solved.zero2 ∙ front_cleared n before.s2.now lent.room2;
      l3 = ap length solved.zero3 ∙ front_cleared n before.s3.now lent.room3;
      l4 = ap length solved.zero4 ∙ front_cleared n before.s4.now lent.room4;
      l5 = ap length solved.zero5 ∙ front_cleared n before.s5.now lent.room5;
      l6 = ap length solved.zero6 ∙ front_cleared n before.s6.now lent.room6;
    }

pub made_lengths : {ps : List Point} {xs : List Float} {st : Settings} {r : MeshSize} {vs vs' : List Float} {fs fs' : List ℕ} {first before after : Grids}
    {distances : List Float} {edges edges' : List ℕ}
    → Lent xs st first distances → SameLengths first before → GridsMade ps st r vs vs' fs fs' before after edges edges' → SameLengths first after
made_lengths {st = st} {before = before} lent so_far made =
    let n = 8 ^ st.depth in
    record {
      l0 = ap length made.field ∙ so_far.l0;
      l1 = ap length made.zero1 ∙ front_cleared n before.s1.now (omega (arith, lent.room1, so_far.l1)) ∙ so_far.l1;
      l2 = ap length made.zero2 ∙ front_cleared n before.s2.now (omega (arith, lent.room2, so_far.l2)) ∙ so_far.l2;
      l3 = ap length made.zero3 ∙ front_cleared n before.s3.now (omega (arith, lent.room3, so_far.l3)) ∙ so_far.l3;
      l4 = ap length made.kept4 ∙ so_far.l4;
      l5 = ap length made.kept5 ∙ so_far.l5;
      l6 = ap length made.kept6 ∙ so_far.l6;
    }
