-- `preview` has room for any mesh of depth 3: at most 3·8·8·7 = 1,344 vertices, one an edge (`most_vertices`), and 5·7·7·7 = 1,715 faces, five a cell
-- (`most_faces`). So neither 9 nor 10 is answered, and with whole points and scratch for 512 nodes neither 7 nor 8 (`told_to_6`). By the counts of the crate
-- `closed`. Assumes nothing.
use mathlib.Core.Path.{◌≡◌, refl, sym, ap, subst}
use mathlib.Core.Bool.{Bool, true, false, not, ◌||◌}
use Rattle.std.specs.Prelude.{Ok, Err}
use mathlib.Core.List.{List, [], ◌∷◌}
use Prim.Native.Nat.{ℕ, ◌+◌, ◌-◌, ◌*◌, ◌%◌, ◌^◌, ◌≤◌}
use native.Mathlib.Decide.{dec_le}
use native.Mathlib.Omega.{arith}
use borrow.Author.Tests.{eq-eqb, le-ltb}
use lib.Dec.{ltb, eqb}
use lib.ListN.{length}
use lib.Ieee.{Float, of_bits, binary64, lt, eq}
use Rattle.lists.specs.Lists.{zero32}
use Rattle.closed.specs.Lists.{bit, sum3}
use Rattle.closed.specs.Numbering.{used}
use Rattle.closed.specs.Table.{differ}
use Rattle.closed.specs.Grid.{grid_faces, crossed_count}
use Rattle.closed.proofs.Laws.Sums.{sum3_le, sum3_const}
use Rattle.closed.proofs.Laws.Counting.{bit_le}
use Rattle.closed.proofs.Laws.Vertices.{vertices_count}
use Rattle.closed.proofs.Laws.Bounds.{faces_le}
use Rattle.grid.specs.Grid.{grid_of, lattice_of}
use Rattle.points.specs.declared.point.Point.{Point}
use Rattle.points.specs.Points.{numbers_per_point, given, usables}
use Rattle.settings.specs.declared.Settings.{Settings}
use Rattle.settings.specs.declared.Lengths.{Lengths}
use Rattle.answers.specs.declared.Answer.{Answer}
use Rattle.answers.specs.declared.Refusal.{Refusal}
use Rattle.answers.specs.declared.Refusal.TheVariants.{PointSlice, NoPoints, Depth, Smoothing, ScratchRoom, TooFew, Flat, VertexRoom, FaceRoom, NoFace}
use Rattle.answers.specs.Answers.{Verdict, Pass, refusal_number, number_of, ◌when◌, ◌then◌}
use Rattle.settings.specs.Refusals.{point_slice_verdict, no_points_verdict, depth_verdict, smoothing_verdict, any_short, scratch_verdict}
use Rattle.settings.specs.Refusals.{early_verdict, usable_verdict, extent_verdict, vertex_room_verdict, face_room_verdict, mesh_verdict}
use Rattle.answers.specs.Laws.InARow.{number_under}
use Rattle.settings.specs.Laws.Passed.{depth_fits, Fit, ready}
use Rattle.cells.specs.Extraction.{edge_faces, vertex_edges}
use Rattle.scan.specs.Reconstruction.{grid_for, extent_for, vertex_total, face_total, kept_faces, accepted_answer, late_verdict, verdict_of, reconstructed}
use Rattle.preview.specs.Preview.{Previewed}

-- ---- how many vertices and faces there can be

-- one vertex an edge: the edges along x, y and z
crossed_most : (nx ny nz : ℕ) (below : ℕ → ℕ → ℕ → Bool)
    → crossed_count nx ny nz below ≤ (nx - 1) * (ny * (nz * 1)) + nx * ((ny - 1) * (nz * 1)) + nx * (ny * ((nz - 1) * 1))
unfolding crossed_count
crossed_most nx ny nz below =
    omega (
      arith,
      along (nx - 1) ny nz (λ i j k. differ (below i j k) (below (i + 1) j k)),
      along nx (ny - 1) nz (λ i j k. differ (below i j k) (below i (j + 1) k)),
      along nx ny (nz - 1) (λ i j k. differ (below i j k) (below i j (k + 1))),
    )
  where
    along : (m n p : ℕ) (f : ℕ → ℕ → ℕ → Bool) → sum3 m n p (λ i j k. bit (f i j k)) ≤ m * (n * (p * 1))
    along m n p f =
        subst (λ (t : ℕ). sum3 m n p (λ i j k. bit (f i j k)) ≤ t) (sum3_const m n p 1)
        (sum3_le m n p _ _ (λ i j k bi bj bk. bit_le (f i j k)))

module _ (ps : List Point) (st : Settings) (three : st.depth ≡ 3) where
  eight : 2 ^ st.depth ≡ 8
  eight = ap (λ (d : ℕ). 2 ^ d) three

  pub most_vertices : vertex_total ps st ≤ 1344
  unfolding vertex_total vertex_edges edge_faces grid_for grid_of lattice_of
  most_vertices = go (2 ^ st.depth) eight _
    where
      go : (n : ℕ) → n ≡ 8 → (below : ℕ → ℕ → ℕ → Bool) → length (used (grid_faces n n n below)) ≤ 1344
      go n e below =
          subst (λ (m : ℕ). length (used (grid_faces m m m below)) ≤ 1344) (sym e)
          (omega (arith, vertices_count 8 8 8 (omega arith) (omega arith) (omega arith) below, crossed_most 8 8 8 below))

  pub most_faces : face_total ps st ≤ 1715
  unfolding face_total edge_faces grid_for grid_of lattice_of
  most_faces = go (2 ^ st.depth) eight _
    where
      go : (n : ℕ) → n ≡ 8 → (below : ℕ → ℕ → ℕ → Bool) → length (grid_faces n n n below) ≤ 1715
      go n e below = subst (λ (m : ℕ). length (grid_faces m m m below) ≤ 1715) (sym e) (omega (arith, faces_le 8 8 8 below))

-- ---- so no slice is short

-- room for 3V and 3F numbers, seven values a node of 512, three numbers a node in the edge table, and 256 distances
pub record Enough (lent : Lengths) : Type 0 where
  pub vertices : 3 * 1344 ≤ lent.vertices
  pub faces : 3 * 1715 ≤ lent.faces
  pub grids : Fit 512 lent.grids
  pub edges : 3 * 512 ≤ lent.edges
  pub distances : 256 ≤ lent.distances

abbrev Small : Verdict → Type 0
Small v = number_of v ≤ 6

small_when : (x : Refusal) (b : Bool) → refusal_number x ≤ 6 → Small (x when b)
small_when x true s = s
small_when x false s = omega arith

-- one that is not given
never : (x : Refusal) (b : Bool) → b ≡ false → Small (x when b)
never x b e = rw e (omega arith)

small_then : (v w : Verdict) → Small v → (v ≡ Pass → Small w) → Small (v then w)
small_then (Ok u) w s t = t refl
small_then (Err x) w s t = s

none : (a b : Bool) → a ≡ false → b ≡ false → (a || b) ≡ false
none a b p q = rw p q

none_short : (n : ℕ) (ls : List ℕ) → Fit n ls → any_short n ls ≡ false
unfolding any_short
none_short n [] f = refl
none_short n (l ∷ ls) f = none (ltb l n) (any_short n ls) (le-ltb l n f.0) (none_short n ls f.1)

module _ (xs : List Float) (st : Settings) (lent : Lengths) (p : Previewed xs st) (room : Enough lent) where
  depth_3 : 3 ≤ st.depth → st.depth ≤ 8 → st.depth ≡ 3
  depth_3 a b = by_cases (dec_le 4 st.depth)
    where
      by_cases : Dec (4 ≤ st.depth) → st.depth ≡ 3
      by_cases (yes q) = absurd (omega (arith, p.not_deep q))
      by_cases (no q) = omega arith

  -- 7
  whole_points : Small (point_slice_verdict xs)
  unfolding point_slice_verdict
  whole_points =
      never PointSlice (not (eqb (length xs % numbers_per_point) 0) || ltb 1048576 (given xs))
      (none _ _ (ap not (eq-eqb (length xs % numbers_per_point) 0 p.whole)) (le-ltb 1048576 (given xs) (omega (arith, p.few))))

  -- 8
  scratch_held : st.depth ≡ 3 → Small (scratch_verdict st.depth (given xs) lent)
  unfolding scratch_verdict
  scratch_held d =
      let n = 8 ^ st.depth in
      let size : n ≡ 512 = ap (λ (k : ℕ). 8 ^ k) d in
      never ScratchRoom (any_short n lent.grids || (ltb lent.edges (3 * n) || ltb lent.distances (given xs)))
      (none (any_short n lent.grids) _ (none_short n lent.grids (subst (λ (k : ℕ). Fit k lent.grids) (sym size) room.grids))
      (none (ltb lent.edges (3 * n)) (ltb lent.distances (given xs)) (le-ltb lent.edges (3 * n) (omega (arith, size, room.edges)))
      (le-ltb lent.distances (given xs) (omega (arith, room.distances, p.few)))))

  early_small : Small (early_verdict xs st lent)
  unfolding no_points_verdict depth_verdict smoothing_verdict
  early_small =
      small_then (point_slice_verdict xs) _ whole_points (λ _.
      small_then (no_points_verdict xs) _ (small_when NoPoints (eqb (given xs) 0) (omega arith)) (λ _.
      small_then (depth_verdict st.depth) _ (small_when Depth (ltb st.depth 3 || ltb 8 st.depth) (omega arith)) (λ e.
      let t = depth_fits st.depth e in
      small_then (smoothing_verdict st.smoothing) _ (small_when Smoothing (not (lt zero32 st.smoothing)) (omega arith)) (λ _.
      scratch_held (depth_3 t.0 t.1)))))

  -- 9 and 10
  late_small : st.depth ≡ 3 → Small (late_verdict (usables xs) st lent)
  unfolding late_verdict vertex_room_verdict face_room_verdict mesh_verdict
  late_small d =
      let v = vertex_total (usables xs) st in
      let f = face_total (usables xs) st in
      let fit_v : 3 * v ≤ lent.vertices = omega (arith, most_vertices (usables xs) st d, room.vertices) in
      let fit_f : 3 * f ≤ lent.faces = omega (arith, most_faces (usables xs) st d, room.faces) in
      small_then (vertex_room_verdict v lent) _ (never VertexRoom (ltb lent.vertices (3 * v)) (le-ltb lent.vertices (3 * v) fit_v)) (λ _.
      small_then (face_room_verdict f lent) _ (never FaceRoom (ltb lent.faces (3 * f)) (le-ltb lent.faces (3 * f) fit_f)) (λ _.
      small_then (mesh_verdict f) _ (small_when NoFace (eqb f 0) (omega arith)) (λ _.
      small_when NoFace (eqb (length (kept_faces (usables xs) st)) 0) (omega arith))))

  verdict_small : Small (verdict_of xs st lent)
  unfolding verdict_of usable_verdict extent_verdict
  verdict_small =
      small_then (early_verdict xs st lent) _ early_small (λ e.
      let c = ready xs st lent e in
      small_then (usable_verdict (length (usables xs))) _ (small_when TooFew (ltb (length (usables xs)) 10) (omega arith)) (λ _.
      small_then (extent_verdict (extent_for (usables xs))) _ (small_when Flat (eq (extent_for (usables xs)) (of_bits binary64 0)) (omega arith)) (λ _.
      late_small (depth_3 c.deep c.shallow))))

  -- the answer's number is the verdict's
  number_is : (reconstructed xs st lent).answer.number ≡ number_of (verdict_of xs st lent)
  unfolding reconstructed accepted_answer
  number_is = number_under (verdict_of xs st lent) (accepted_answer (usables xs) st) refl

  pub told_to_6 : (r : Answer) → r ≡ (reconstructed xs st lent).answer → r.number ≤ 6
  told_to_6 r e = omega (arith, ap (λ (a : Answer). a.number) e, number_is, verdict_small)
