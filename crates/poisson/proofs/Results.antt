-- The results of a call by the way that it went: refused before any slice was touched, refused for want of room or of a face, or with a mesh. The verdict in
-- the groups of Order decides which results there are, and Showing where they stand. Assumes nothing.
use mathlib.Core.Path.{◌≡◌, refl, sym, ap, ap₂, ◌∙◌, subst}
use Rattle.std.specs.Prelude.{Result, Err}
use mathlib.Core.List.{List, ◌++◌, append_assoc}
use Prim.Native.Nat.{ℕ, ◌-◌, ◌*◌, ◌≤◌}
use native.Mathlib.Omega.{arith}
use lib.ListN.{length, take, replicate, length-append}
use lib.Seq.{take_at}
use lib.Ieee.{Float}
use Rattle.lists.specs.Lists.{zero32, padded}
use Rattle.closed.specs.Faces.{corners}
use Rattle.grid.specs.Grid.{Sides, Counts, lattice_of}
use Rattle.grid.specs.Laws.Rows.{cube_counts}
use Rattle.points.specs.declared.point.Point.{Point}
use Rattle.points.specs.Points.{usables}
use Rattle.settings.specs.declared.Settings.{Settings}
use Rattle.settings.specs.declared.Lengths.{Lengths}
use Rattle.answers.specs.declared.Answer.{Answer}
use Rattle.answers.specs.declared.Refusal.{Refusal}
use Rattle.answers.specs.Answers.{Verdict, Pass, refused, told, ◌then◌, ◌lets◌}
use Rattle.settings.specs.Refusals.{early_verdict, usable_verdict, extent_verdict, room_verdict, mesh_verdict}
use Rattle.answers.specs.Laws.InARow.{both_pass}
use Rattle.settings.specs.Laws.Passed.{ChecksPassed, ready, room_fits}
use Rattle.meshes.specs.declared.MeshSize.{MeshSize}
use Rattle.scan.specs.Reconstruction.{Results, grid_for, lattice_for, field_for, level_for, extent_for, vertex_total}
use Rattle.scan.specs.Reconstruction.{face_total, kept_vertices, kept_faces, accepted_answer, late_verdict, verdict_of, results_under, reconstructed}
use Rattle.ending.specs.Slices.{Slices}
use Rattle.scan.specs.Words.{mesh_outcome}
use Rattle.scan.specs.Laws.MeshRoom.{few_vertices, few_faces}
use Rattle.poisson.specs.Outcome.{Done}
use Rattle.poisson.specs.Words.{Shown}
use Rattle.poisson.proofs.Order.{first_checks, late_checks}
use Rattle.poisson.proofs.Showing.{refused_shown, made_shown}

-- ---- V and F fit machine words: at most three vertices and five faces a node

pub few_totals : (ps : List Point) (st : Settings) → Sides (grid_for ps st).nodes → (vertex_total ps st ≤ 50331648) × (face_total ps st ≤ 83886080)
unfolding vertex_total face_total lattice_of
few_totals ps st sides =
    let fine : Counts (lattice_for ps st).counts = cube_counts sides in
    let most = fine.most in (
      omega (arith, few_vertices (field_for ps st) (lattice_for ps st) (level_for ps st) fine),
      omega (arith, few_faces (field_for ps st) (lattice_for ps st) (level_for ps st) fine),
    )

-- ---- before any slice is touched

module _ (xs : List Float) (st : Settings) (lent : Lengths) {v : Verdict}
    (is : v ≡ early_verdict xs st lent then usable_verdict (length (usables xs)) then extent_verdict (extent_for (usables xs))) where
  pub first_refused : (vs : List Float) (fs : List ℕ) (x : Refusal) (r : Result Answer Refusal) → v ≡ Err x → r ≡ Err x → Shown (reconstructed xs st lent) (told r) vs fs
  unfolding reconstructed
  first_refused vs fs x r e o =
      let l = late_verdict (usables xs) st lent in
      let whole = first_checks xs st lent ∙ ap (λ (u : Verdict). u then l) (sym is ∙ e) in
      subst (λ (a : Result Answer Refusal). Shown (results_under (verdict_of xs st lent) (usables xs) st) (told a) vs fs) (sym o)
      (subst (λ (u : Verdict). Shown (results_under u (usables xs) st) (refused (Err x)) vs fs) (sym whole) (refused_shown (usables xs) st vs fs x))

  pub first_ready : v ≡ Pass → ChecksPassed xs st lent
  first_ready t =
      ready xs st lent (both_pass (early_verdict xs st lent) (usable_verdict (length (usables xs)) then extent_verdict (extent_for (usables xs))) (sym is ∙ t)).0

  pub first_passed : (r : Answer) (vs : List Float) (fs : List ℕ) → v ≡ Pass
      → Shown (results_under (late_verdict (usables xs) st lent) (usables xs) st) r vs fs → Shown (reconstructed xs st lent) r vs fs
  unfolding reconstructed
  first_passed r vs fs t s =
      let l = late_verdict (usables xs) st lent in
      let whole = first_checks xs st lent ∙ ap (λ (u : Verdict). u then l) (sym is ∙ t) in
      subst (λ (u : Verdict). Shown (results_under u (usables xs) st) r vs fs) (sym whole) s

-- ---- a slice that begins with a list and zeros

module _ {A : Type 0} (z : A) (n : ℕ) (l rest : List A) {s : List A} (is : s ≡ padded z n l) where
  split : s ++ rest ≡ l ++ (replicate (n - length l) z ++ rest)
  split = ap (λ (t : List A). t ++ rest) is ∙ append_assoc l (replicate (n - length l) z) rest

  pub begins : take (length l) (s ++ rest) ≡ l
  begins = ap (take (length l)) split ∙ take_at l (replicate (n - length l) z ++ rest) (length l) refl

  pub holds : length l ≤ length (s ++ rest)
  holds = omega (arith, ap length split, length-append l (replicate (n - length l) z ++ rest))

  pub no_longer : length l ≤ length s
  no_longer = omega (arith, ap length is, length-append l (replicate (n - length l) z))

-- ---- once V and F are known

module _ (ps : List Point) (st : Settings) (lent : Lengths) (counts : MeshSize) {v : Verdict}
    (is : v ≡ room_verdict counts.vertices counts.faces lent then mesh_verdict counts.faces)
    (nv : counts.vertices ≡ vertex_total ps st) (nf : counts.faces ≡ face_total ps st) where
  same : v ≡ room_verdict (vertex_total ps st) (face_total ps st) lent then mesh_verdict (face_total ps st)
  same = is ∙ ap₂ (λ (a b : ℕ). room_verdict a b lent then mesh_verdict b) nv nf

  pub mesh_refused : (vs : List Float) (fs : List ℕ) (x : Refusal) (r : Result Answer Refusal) → v ≡ Err x → r ≡ Err x
      → Shown (results_under (late_verdict ps st lent) ps st) (told r) vs fs
  mesh_refused vs fs x r e o =
      let k = mesh_verdict (length (kept_faces ps st)) in
      let whole = late_checks ps st lent ∙ ap (λ (u : Verdict). u then k) (sym same ∙ e) in
      subst (λ (a : Result Answer Refusal). Shown (results_under (late_verdict ps st lent) ps st) (told a) vs fs) (sym o)
      (subst (λ (u : Verdict). Shown (results_under u ps st) (refused (Err x)) vs fs) (sym whole) (refused_shown ps st vs fs x))

  pub mesh_room : v ≡ Pass → (3 * counts.vertices ≤ lent.vertices) × (3 * counts.faces ≤ lent.faces)
  mesh_room t =
      room_fits counts.vertices counts.faces lent
      (both_pass (room_verdict counts.vertices counts.faces lent) (mesh_verdict counts.faces) (sym is ∙ t)).0

  -- the mesh is made in the front of the slices, and the answer of it
  module _ (n m : ℕ) (vs1 : List Float) (fs1 : List ℕ) (k f usable : ℕ) (v-rest : List Float) (f-rest : List ℕ)
      (v_count : length (kept_vertices ps st) ≡ 3 * k) (f_count : length (kept_faces ps st) ≡ f)
      (places : vs1 ≡ padded zero32 n (kept_vertices ps st)) (numbers : fs1 ≡ padded 0 m (corners (kept_faces ps st)))
      {level : Float} (level_is : level ≡ level_for ps st) (all : usable ≡ length ps) where
    pub mesh_shown : (r : Result Answer Refusal) → v ≡ Pass → r ≡ mesh_outcome usable level f (take (3 * k) (vs1 ++ v-rest))
        → Shown (results_under (late_verdict ps st lent) ps st) (told r) (vs1 ++ v-rest) (fs1 ++ f-rest)
    unfolding mesh_outcome accepted_answer
    mesh_shown r t e =
        let last = mesh_verdict (length (kept_faces ps st)) in
        let first = begins zero32 n (kept_vertices ps st) v-rest places in
        let here : take (3 * k) (vs1 ++ v-rest) ≡ kept_vertices ps st = ap (λ (j : ℕ). take j (vs1 ++ v-rest)) (sym v_count) ∙ first in
        let outcome : r ≡ (last lets accepted_answer ps st) = e ∙ (λ i. mesh_outcome (all i) (level_is i) (sym f_count i) (here i)) in
        let whole = late_checks ps st lent ∙ ap (λ (u : Verdict). u then last) (sym same ∙ t) in
        subst (λ (o : Result Answer Refusal). Shown (results_under (late_verdict ps st lent) ps st) (told o) (vs1 ++ v-rest) (fs1 ++ f-rest)) (sym outcome)
        (subst (λ (u : Verdict). Shown (results_under u ps st) (told (last lets accepted_answer ps st)) (vs1 ++ v-rest) (fs1 ++ f-rest)) (sym whole)
        (made_shown ps st (vs1 ++ v-rest) (fs1 ++ f-rest) k v_count
        (holds zero32 n (kept_vertices ps st) v-rest places) first
        (holds 0 m (corners (kept_faces ps st)) f-rest numbers) (begins 0 m (corners (kept_faces ps st)) f-rest numbers) last))

-- ---- the whole call

-- what is done for some results is done for results that are equal
pub carry : {p q : Lengths → Results} {r : Answer} {before after : Slices} → p ≡ q → Done p r before after → Done q r before after
carry {p} {q} {r} {before} {after} e d = subst (λ (o : Lengths → Results). Done o r before after) e d
