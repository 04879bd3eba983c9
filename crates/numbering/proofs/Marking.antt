-- Numbering edges one by one in a table: the table of the edges noted so far becomes that of all, each at its place of first use (`marked`). Assumes nothing.
use mathlib.Core.Path.{◌≡◌, refl, sym, ap, ◌∙◌}
use mathlib.Core.Logic.{⊎_elim}
use mathlib.Core.Bool.{Bool, false, cond}
use mathlib.Core.List.{List, [], ◌∷◌}
use Prim.Native.Nat.{ℕ, ◌+◌, ◌<◌}
use native.Mathlib.Omega.{arith}
use borrow.Author.Tests.{eq-eqb, ne_eqb}
use lib.Dec.{eqb}
use lib.ListN.{length, get_or, set, length-set}
use lib.Seq.{get_or-set_same, get_or-set_other}
use Rattle.lists.specs.Lists.{tabulate}
use Rattle.lists.specs.Laws.Tabulate.{tabulate_by, at_tabulate, length_tabulate}
use Rattle.closed.specs.Lists.{All, member, In}
use Rattle.closed.specs.Numbering.{note, grow, slot}
use Rattle.closed.proofs.Laws.Counting.{same?}
use Rattle.closed.proofs.Laws.Renumber.{in_or_not, note_old, slot_in, slot_out, slot_note_new, slot_note_other, length_note_new}
use Rattle.numbering.specs.Words.{Marks, mark1, mark_all}

-- ---- the edges noted so far, as the pass holds them

abbrev pub noted : (m : ℕ) (seen : List ℕ) → Marks
noted m seen = (tabulate m (slot seen), length seen)

marked_one : (m : ℕ) (seen : List ℕ) (e : ℕ) → e < m → mark1 (noted m seen) e ≡ noted m (note seen e)
marked_one m seen e b =
    ap (λ (n : ℕ). cond (eqb n 0) (set t e (length seen + 1), length seen + 1) (t, length seen)) (at_tabulate 0 m (slot seen) e b)
    ∙ ⊎_elim old new (in_or_not e seen)
  where
    t : List ℕ
    t = tabulate m (slot seen)

    old : In e seen → cond (eqb (slot seen e) 0) (set t e (length seen + 1), length seen + 1) (t, length seen) ≡ noted m (note seen e)
    old h =
        ap (λ (s : Bool). cond s (set t e (length seen + 1), length seen + 1) (t, length seen)) (ne_eqb (slot seen e) 0 (λ z. omega (arith, slot_in seen e h, z)))
        ∙ ap (noted m) (sym (note_old seen e h))

    written : member e seen ≡ false → (k : ℕ) → k < m → get_or (set t e (length seen + 1)) k 0 ≡ slot (note seen e) k
    written h k bk =
        ⊎_elim
        (λ q. ap (λ (i : ℕ). get_or (set t e (length seen + 1)) i 0) q.0
        ∙ get_or-set_same t e (length seen + 1) 0 (omega (arith, length_tabulate m (slot seen)))
        ∙ omega (arith, slot_note_new seen e h) ∙ ap (slot (note seen e)) (sym q.0))
        (λ q. get_or-set_other t e k (length seen + 1) 0 q.0 ∙ at_tabulate 0 m (slot seen) k bk ∙ sym (slot_note_other seen e k q.0))
        (same? k e)

    new : member e seen ≡ false → cond (eqb (slot seen e) 0) (set t e (length seen + 1), length seen + 1) (t, length seen) ≡ noted m (note seen e)
    new h =
        let l : set t e (length seen + 1) ≡ tabulate m (slot (note seen e)) =
        tabulate_by 0 (slot (note seen e)) (set t e (length seen + 1)) (length-set t e (length seen + 1) ∙ length_tabulate m (slot seen)) (written h) in
        let n : length seen + 1 ≡ length (note seen e) = omega (arith, length_note_new seen e h) in
        ap (λ (s : Bool). cond s (set t e (length seen + 1), length seen + 1) (t, length seen)) (eq-eqb (slot seen e) 0 (slot_out seen e h))
        ∙ ap (λ (x : List ℕ). (x, length seen + 1)) l ∙ ap (λ (x : ℕ). (tabulate m (slot (note seen e)), x)) n

pub marked : (m : ℕ) (seen es : List ℕ) → All (λ e. e < m) es → mark_all (noted m seen) es ≡ noted m (grow seen es)
unfolding mark_all grow
marked m seen [] a = refl
marked m seen (e ∷ es) a = ap (λ (s : Marks). mark_all s es) (marked_one m seen e a.0) ∙ marked m (note seen e) es a.1

-- a face's three
pub mark_three : (s0 : Marks) {s1 s2 s3 : Marks} (x y z : ℕ) → s1 ≡ mark1 s0 x → s2 ≡ mark1 s1 y → s3 ≡ mark1 s2 z → s3 ≡ mark_all s0 (x ∷ y ∷ z ∷ [])
unfolding mark_all
mark_three s0 x y z a b c = rw (c, b, a) refl
