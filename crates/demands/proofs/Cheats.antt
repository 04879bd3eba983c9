-- Document 01, "How answers are marked", names cheats: refusing all, one stock mesh, a call that does nothing, invented V or F. Each is shut out by the
-- contract of the whole call: here is what it says against each, of a call that was lent `before`, answered r and left `after`. By demands 2 and 3. Assumes
-- nothing.
use mathlib.Core.Path.{◌≡◌, sym, ap, ◌∙◌}
use mathlib.Core.Bool.{Bool}
use mathlib.Core.List.{List, [], ◌∷◌, ◌++◌}
use Prim.Native.Nat.{ℕ, ◌-◌}
use native.Mathlib.Omega.{arith}
use lib.ListN.{length, length-append}
use lib.Ieee.{Float}
use Rattle.lists.specs.Lists.{zero32, zeros32, padded}
use Rattle.closed.specs.Faces.{corners}
use Rattle.closed.specs.Lists.{sum3}
use Rattle.closed.specs.Rows.{triangles}
use Rattle.closed.specs.Grid.{cell_case, crossed_count}
use Rattle.cells.specs.Extraction.{below_at}
use Rattle.points.specs.Points.{usables}
use Rattle.settings.specs.declared.Settings.{Settings}
use Rattle.settings.specs.declared.Trimming.TheVariants.{Off}
use Rattle.answers.specs.declared.Answer.{Answer}
use Rattle.answers.specs.Answers.{Pass, number_of}
use Rattle.ending.specs.Slices.{Slices}
use Rattle.scan.specs.Reconstruction.{Results, field_for, level_for, kept_vertices, kept_faces, lengths_of, verdict_of}
use Rattle.demands.specs.Call.{Meets}
use Rattle.demands.specs.Demand3.{ClosedMesh, side_nodes}
use Rattle.demands.proofs.Demand2.{demand_2}
use Rattle.demands.proofs.Demand3.{closed_call}

module _ (xs : List Float) (st : Settings) (before : Slices) (r : Answer) (after : Slices) (met : Meets xs st before r after) where
  -- ---- refusing all: the number is the verdict's, so a call is refused exactly when a line of the column "given exactly when" applies

  pub accepted_when_none_applies : verdict_of xs st (lengths_of before) ≡ Pass → r.number ≡ 0
  accepted_when_none_applies p = (demand_2 xs st before r after met).refusal ∙ ap number_of p

  -- ---- invented V or F: without trimming V is the number of crossed edges, and F the sum of the row lengths

  module _ (zero_number : r.number ≡ 0) (off : st.trimming ≡ Off) where
    pub v_told : r.vertices
        ≡ crossed_count (side_nodes st) (side_nodes st) (side_nodes st) (below_at (field_for (usables xs) st) (side_nodes st) (side_nodes st) r.level)
    v_told = (closed_call xs st before r after met zero_number off).closed.vertex_count

    pub f_told : r.faces
        ≡ sum3 (side_nodes st - 1) (side_nodes st - 1) (side_nodes st - 1)
        (λ i j k. length (triangles (cell_case (below_at (field_for (usables xs) st) (side_nodes st) (side_nodes st) r.level) i j k)))
    f_told = (closed_call xs st before r after met zero_number off).closed.face_count

  -- ---- a call that does nothing: a slice that is left as it came was right as it came, and any other rubbish tells

  pub idle_scratch : after.scratch.s0 ≡ before.scratch.s0 → before.scratch.s0 ≡ zeros32 (length before.scratch.s0)
  idle_scratch same = sym same ∙ met.scratch.s0_clear

  pub idle_vertices : after.vertices ≡ before.vertices → r.number ≡ 0
      → before.vertices ≡ padded zero32 (length before.vertices) (kept_vertices (usables xs) st)
  idle_vertices same zero_number = sym same ∙ (demand_2 xs st before r after met).vertices zero_number

-- ---- a mesh with a number too many: a face is three numbers, so one appended to a closed mesh's leaves no closed mesh

pub none_appended : (n : ℕ) (below : ℕ → ℕ → ℕ → Bool) (place : ℕ → List Float) (m : Results) (x : ℕ) → ClosedMesh n below place m
    → ClosedMesh n below place (record { answer = m.answer; vertices = m.vertices; faces = m.faces ++ (x ∷ []) }) → ⊥
none_appended n below place m x c d = omega (arith, c.face_total, d.face_total, length-append m.faces (x ∷ []))

-- ---- one stock mesh: one outcome serves two accepted inputs only where they have the same level and the same mesh

pub stock_mesh : (xs₁ xs₂ : List Float) (st₁ st₂ : Settings) (before : Slices) (r : Answer) (after : Slices)
    → Meets xs₁ st₁ before r after → Meets xs₂ st₂ before r after → r.number ≡ 0
    → (level_for (usables xs₁) st₁ ≡ level_for (usables xs₂) st₂)
    × (padded zero32 (length before.vertices) (kept_vertices (usables xs₁) st₁) ≡ padded zero32 (length before.vertices) (kept_vertices (usables xs₂) st₂))
    × (padded 0 (length before.faces) (corners (kept_faces (usables xs₁) st₁)) ≡ padded 0 (length before.faces) (corners (kept_faces (usables xs₂) st₂)))
stock_mesh xs₁ xs₂ st₁ st₂ before r after p q z =
    let first = demand_2 xs₁ st₁ before r after p in
    let second = demand_2 xs₂ st₂ before r after q in
    (sym (first.level z) ∙ second.level z, sym (first.vertices z) ∙ second.vertices z, sym (first.faces z) ∙ second.faces z)
