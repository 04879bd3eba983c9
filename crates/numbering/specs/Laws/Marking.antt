-- What the first pass does to the table, edge by edge and over joined lists of faces, and what may be gone through next. Assumes nothing.
use mathlib.Core.Path.{◌≡◌, refl, sym, ap, ◌∙◌, subst}
use mathlib.Core.Bool.{Bool, true, false, cond}
use mathlib.Core.List.{List, [], ◌∷◌, ◌++◌}
use Prim.Native.Nat.{ℕ, ◌+◌, ◌*◌, ◌≤◌, ◌<◌}
use native.Mathlib.Omega.{arith}
use lib.Dec.{eqb}
use lib.ListN.{length, get_or, set, length-set, length-append}
use Rattle.closed.specs.Lists.{All}
use Rattle.closed.specs.Faces.{Face, corners}
use Rattle.closed.proofs.Laws.Turning.{corners_append, length_corners}
use Rattle.numbering.specs.Words.{Marks, mark1, mark_all, Markable, Numbered}
use Rattle.cells.proofs.Walking.{part_edges}
use Rattle.meshes.specs.declared.MeshSize.{MeshSize}

-- ---- one edge, and several

pub mark_kept : (s : Marks) (e : ℕ) → length (mark1 s e).0 ≡ length s.0
mark_kept s e = by_case (eqb (get_or s.0 e 0) 0)
  where
    by_case : (t : Bool) → length (cond t (set s.0 e (s.1 + 1), s.1 + 1) s).0 ≡ length s.0
    by_case true = length-set s.0 e (s.1 + 1)
    by_case false = refl

pub mark_more : (s : Marks) (e : ℕ) → (mark1 s e).1 ≤ s.1 + 1
mark_more s e = by_case (eqb (get_or s.0 e 0) 0)
  where
    by_case : (t : Bool) → (cond t (set s.0 e (s.1 + 1), s.1 + 1) s).1 ≤ s.1 + 1
    by_case true = omega arith
    by_case false = omega arith

pub marks_append : (s : Marks) (a b : List ℕ) → mark_all s (a ++ b) ≡ mark_all (mark_all s a) b
unfolding mark_all
marks_append s [] b = refl
marks_append s (e ∷ a) b = marks_append (mark1 s e) a b

pub marks_kept : (s : Marks) (es : List ℕ) → length (mark_all s es).0 ≡ length s.0
unfolding mark_all
marks_kept s [] = refl
marks_kept s (e ∷ es) = marks_kept (mark1 s e) es ∙ mark_kept s e

pub marks_more : (s : Marks) (es : List ℕ) → (mark_all s es).1 ≤ s.1 + length es
unfolding mark_all
marks_more s [] = omega arith
marks_more s (e ∷ es) = omega (arith, marks_more (mark1 s e) es, mark_more s e)

-- ---- the faces of a part, and of the next part

pub numbered_none : {t : List ℕ} {had : MeshSize} → Numbered t t had had []
unfolding mark_all
numbered_none = record { marks = refl; counted = omega arith }

pub numbered_append : {t u v : List ℕ} {a b c : MeshSize} {fs gs : List Face} → Numbered t u a b fs → Numbered u v b c gs → Numbered t v a c (fs ++ gs)
numbered_append {t} {u} {v} {a} {b} {c} {fs} {gs} x y =
    record {
      marks = y.marks
          ∙ ap (λ (s : Marks). mark_all s (corners gs)) x.marks
          ∙ sym (marks_append (t, a.vertices) (corners fs) (corners gs))
          ∙ ap (mark_all (t, a.vertices)) (sym (corners_append fs gs));
      counted = omega (arith, x.counted, y.counted, length-append fs gs);
    }

-- once the faces fs are gone through, the next may be too
pub markable_next : {t u : List ℕ} {a b : MeshSize} (fs gs hs : List Face) → Markable t a (fs ++ gs ++ hs) → Numbered t u a b fs → Markable u b gs
markable_next {t} {u} {a} {b} fs gs hs r x =
    let kept : length u ≡ length t = ap (λ (s : Marks). length s.0) x.marks ∙ marks_kept (t, a.vertices) (corners fs) in
    let more : b.vertices ≤ a.vertices + 3 * length fs = omega (arith, ap (λ (s : Marks). s.1) x.marks, marks_more (t, a.vertices) (corners fs), length_corners fs) in
    record {
      edges = subst (λ (n : ℕ). All (λ e. e < n) (corners gs)) (sym kept) (part_edges (λ e. e < length t) fs gs hs r.edges);
      vertices = omega (arith, r.vertices, more, length-append (fs ++ gs) hs, length-append fs gs);
      faces = omega (arith, r.faces, x.counted, length-append (fs ++ gs) hs, length-append fs gs);
    }
