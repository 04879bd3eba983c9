-- What it tells that the early checks pass: the depth's two sides, a positive smoothing, points, and scratch as long as stated. By taking `then` and
-- `when` apart. Assumes nothing.
use Rattle.std.specs.Prelude.{◌≡◌, refl, Bool, true, false, not, ◌||◌, List, [], ◌∷◌, ℕ, ◌*◌, ◌%◌, ◌^◌, ◌≤◌, ◌<◌, ltb, eqb, length, Float}
use Rattle.std.proofs.Common.{true≢false, arith, ltb-false, eqb-true}
use Rattle.std.proofs.lemmas.Bool.{eqb-false}
use Rattle.std.specs.Float.Ieee.{lt}
use Rattle.lists.specs.Lists.{zero32}
use Rattle.points.specs.Points.{numbers_per_point, given}
use Rattle.settings.specs.declared.Settings.{Settings}
use Rattle.settings.specs.declared.Lengths.{Lengths}
use Rattle.answers.specs.declared.Refusal.TheVariants.{PointSlice, NoPoints, Depth, Smoothing, ScratchRoom, TooFew, VertexRoom, FaceRoom, NoFace}
use Rattle.answers.specs.Answers.{Pass, ◌then◌}
use Rattle.answers.specs.Laws.InARow.{both_pass, unless}
use Rattle.settings.specs.Refusals.{point_slice_verdict, no_points_verdict, depth_verdict, smoothing_verdict, any_short, scratch_verdict, early_verdict, usable_verdict, vertex_room_verdict, face_room_verdict, room_verdict, mesh_verdict}

neither : (a b : Bool) → (a || b) ≡ false → (a ≡ false) × (b ≡ false)
neither true b e = absurd (true≢false e)
neither false b e = (refl, e)

indeed : (b : Bool) → not b ≡ false → b ≡ true
indeed true e = refl
indeed false e = absurd (true≢false e)

-- ---- the early checks

-- none of the lengths is below n
abbrev pub Fit : ℕ → List ℕ → Type 0
Fit n [] = Unit {0}
Fit n (l ∷ ls) = (n ≤ l) × Fit n ls

pub all_fit : (n : ℕ) (ls : List ℕ) → any_short n ls ≡ false → Fit n ls
unfolding any_short
all_fit n [] e = tt
all_fit n (l ∷ ls) e = let t = neither (ltb l n) (any_short n ls) e in (ltb-false l n t.0, all_fit n ls t.1)

pub record ChecksPassed (xs : List Float) (st : Settings) (lent : Lengths) : Type 0 where
  pub whole : length xs % numbers_per_point ≡ 0
  pub few : given xs ≤ 1048576
  pub some : 0 < given xs
  pub deep : 3 ≤ st.depth
  pub shallow : st.depth ≤ 8
  pub smooth : lt zero32 st.smoothing ≡ true
  pub grids_fit : Fit (8 ^ st.depth) lent.grids
  pub edges_fit : 3 * 8 ^ st.depth ≤ lent.edges
  pub distances_fit : given xs ≤ lent.distances

pub depth_fits : (depth : ℕ) → depth_verdict depth ≡ Pass → (3 ≤ depth) × (depth ≤ 8)
unfolding depth_verdict
depth_fits depth e =
    let t = neither (ltb depth 3) (ltb 8 depth) (unless Depth (ltb depth 3 || ltb 8 depth) e) in
    (ltb-false depth 3 t.0, ltb-false 8 depth t.1)

slice_fits : (xs : List Float) → point_slice_verdict xs ≡ Pass → (length xs % numbers_per_point ≡ 0) × (given xs ≤ 1048576)
unfolding point_slice_verdict
slice_fits xs e =
    let t = neither (not (eqb (length xs % numbers_per_point) 0)) (ltb 1048576 (given xs)) (unless PointSlice (not (eqb (length xs % numbers_per_point) 0) || ltb 1048576 (given xs)) e) in
    (eqb-true (length xs % numbers_per_point) 0 (indeed (eqb (length xs % numbers_per_point) 0) t.0), ltb-false 1048576 (given xs) t.1)

some_points : (xs : List Float) → no_points_verdict xs ≡ Pass → 0 < given xs
unfolding no_points_verdict
some_points xs e = let t = eqb-false (given xs) 0 (unless NoPoints (eqb (given xs) 0) e) in omega arith

smooth_enough : (s : Float) → smoothing_verdict s ≡ Pass → lt zero32 s ≡ true
unfolding smoothing_verdict
smooth_enough s e = indeed (lt zero32 s) (unless Smoothing (not (lt zero32 s)) e)

scratch_fits : (depth points : ℕ) (lent : Lengths) → scratch_verdict depth points lent ≡ Pass
    → Fit (8 ^ depth) lent.grids × (3 * 8 ^ depth ≤ lent.edges) × (points ≤ lent.distances)
unfolding scratch_verdict
scratch_fits depth points lent e =
    let n = 8 ^ depth in
    let t = neither (any_short n lent.grids) (ltb lent.edges (3 * n) || ltb lent.distances points)
    (unless ScratchRoom (any_short n lent.grids || (ltb lent.edges (3 * n) || ltb lent.distances points)) e) in
    let u = neither (ltb lent.edges (3 * n)) (ltb lent.distances points) t.1 in
    (all_fit n lent.grids t.0, ltb-false lent.edges (3 * n) u.0, ltb-false lent.distances points u.1)

pub ready : (xs : List Float) (st : Settings) (lent : Lengths) → early_verdict xs st lent ≡ Pass → ChecksPassed xs st lent
ready xs st lent e =
    let a = both_pass (point_slice_verdict xs) (no_points_verdict xs then depth_verdict st.depth then smoothing_verdict st.smoothing then scratch_verdict st.depth (given xs) lent) e in
    let b = both_pass (no_points_verdict xs) (depth_verdict st.depth then smoothing_verdict st.smoothing then scratch_verdict st.depth (given xs) lent) a.1 in
    let c = both_pass (depth_verdict st.depth) (smoothing_verdict st.smoothing then scratch_verdict st.depth (given xs) lent) b.1 in
    let d = both_pass (smoothing_verdict st.smoothing) (scratch_verdict st.depth (given xs) lent) c.1 in
    let room = scratch_fits st.depth (given xs) lent d.1 in
    record {
      whole = (slice_fits xs a.0).0;
      few = (slice_fits xs a.0).1;
      some = some_points xs b.0;
      deep = (depth_fits st.depth c.0).0;
      shallow = (depth_fits st.depth c.0).1;
      smooth = smooth_enough st.smoothing d.0;
      grids_fit = room.0;
      edges_fit = room.1;
      distances_fit = room.2;
    }

-- ---- the later checks

pub enough_usable : (usable : ℕ) → usable_verdict usable ≡ Pass → 10 ≤ usable
unfolding usable_verdict
enough_usable usable e = ltb-false usable 10 (unless TooFew (ltb usable 10) e)

pub room_fits : (vertices faces : ℕ) (lent : Lengths) → room_verdict vertices faces lent ≡ Pass → (3 * vertices ≤ lent.vertices) × (3 * faces ≤ lent.faces)
unfolding vertex_room_verdict face_room_verdict
room_fits vertices faces lent e =
    let t = both_pass (vertex_room_verdict vertices lent) (face_room_verdict faces lent) e in (
      ltb-false lent.vertices (3 * vertices) (unless VertexRoom (ltb lent.vertices (3 * vertices)) t.0),
      ltb-false lent.faces (3 * faces) (unless FaceRoom (ltb lent.faces (3 * faces)) t.1),
    )

pub some_face : (faces : ℕ) → mesh_verdict faces ≡ Pass → 0 < faces
unfolding mesh_verdict
some_face faces e = let t = eqb-false faces 0 (unless NoFace (eqb faces 0) e) in omega arith
