-- A case's faces taken one after the other, and what a cell of the grid asks and gives: its edges lie in the table, it has five faces at most, and cases 0 and
-- 255 have none. Assumes nothing.
use Rattle.std.specs.Prelude.{◌≡◌, refl, List, [], ◌∷◌, ◌++◌, map, ℕ, ◌+◌, ◌*◌, ◌≤◌, ◌<◌, Float, length, get_or, take, drop}
use Rattle.std.proofs.Common.{sym, ap, ◌∙◌, subst, add-one, arith, take-append-drop, take-suc, take_all}
use Rattle.std.proofs.lemmas.List.{length-map}
use Rattle.closed.specs.Faces.{Face, face, map_face, face_of}
use Rattle.closed.specs.Rows.{rows, row, triangles, emitted}
use Rattle.closed.specs.Grid.{edge}
use Rattle.closed.proofs.Laws.Bounds.{emitted_le}
use Rattle.cubes.specs.Laws.Emitted.{OfCube, face_edges}
use Rattle.cells.specs.Words.{case_at, row_faces, edge_offsets, faces_at, EdgesIn, CubeFace}
use Rattle.cells.specs.Laws.Cells.{edge_small, offset_at, case_below}

-- ---- the first k faces of a case, and one more

abbrev pub first_faces : (offsets : List ℕ) (first case k : ℕ) → List Face
first_faces offsets first case k = map (map_face (λ e. first + get_or offsets e 0)) (take k (emitted case))

map-append : (f : Face → Face) (a b : List Face) → map f (a ++ b) ≡ map f a ++ map f b
map-append f [] b = refl
map-append f (x ∷ a) b = ap (λ (r : List Face). f x ∷ r) (map-append f a b)

pub one_more : (offsets : List ℕ) (first case k : ℕ) → k < length (emitted case)
    → first_faces offsets first case (k + 1) ≡ first_faces offsets first case k ++ (map_face (λ e. first + get_or offsets e 0) (get_or (emitted case) k (face 0 0 0)) ∷ [])
one_more offsets first case k h =
    let g : Face → Face = map_face (λ e. first + get_or offsets e 0) in
    ap (λ (m : ℕ). map g (take m (emitted case))) (add-one k)
    ∙ ap (map g) (take-suc (emitted case) k (face 0 0 0) h)
    ∙ map-append g (take k (emitted case)) (get_or (emitted case) k (face 0 0 0) ∷ [])

pub all_faces : (offsets : List ℕ) (first case k : ℕ) → length (emitted case) ≤ k → first_faces offsets first case k ≡ row_faces offsets first case
unfolding row_faces
all_faces offsets first case k h = ap (map (map_face (λ e. first + get_or offsets e 0))) (take_all k (emitted case) h)

pub rest_faces : (offsets : List ℕ) (first case k : ℕ)
    → row_faces offsets first case ≡ first_faces offsets first case k ++ map (map_face (λ e. first + get_or offsets e 0)) (drop k (emitted case))
unfolding row_faces
rest_faces offsets first case k =
    let g : Face → Face = map_face (λ e. first + get_or offsets e 0) in
    ap (map g) (sym (take-append-drop k (emitted case))) ∙ map-append g (take k (emitted case)) (drop k (emitted case))

pub cube_face : (c k : ℕ) (f : List ℕ) → c < 256 → k < length (emitted c) → face_of f ≡ get_or (emitted c) k (face 0 0 0) → CubeFace f
cube_face c k f h b e =
    let t = subst OfCube (sym e) (face_edges c k h b) in
    record { a = t.0; b = t.1.0; c = t.1.1.0 }

-- ---- all faces of a case

pub row_length : (offsets : List ℕ) (first case : ℕ) → case < 256 → length (row_faces offsets first case) ≤ 5
unfolding row_faces
row_length offsets first case h = omega (arith, length-map (emitted case) (map_face (λ e. first + get_or offsets e 0)), emitted_le case h)

pub row_count : (offsets : List ℕ) (first case : ℕ) → length (row_faces offsets first case) ≡ length (emitted case)
unfolding row_faces
row_count offsets first case = length-map (emitted case) (map_face (λ e. first + get_or offsets e 0))

pub none_below : (offsets : List ℕ) (first case : ℕ) → case ≡ 0 → row_faces offsets first case ≡ []
unfolding row_faces emitted triangles row rows
none_below offsets first case e = ap (row_faces offsets first) e

pub all_below : (offsets : List ℕ) (first case : ℕ) → case ≡ 255 → row_faces offsets first case ≡ []
unfolding row_faces emitted triangles row rows
all_below offsets first case e = ap (row_faces offsets first) e

-- ---- the cell at node m

pub edges_in : (ny nz m N all first : ℕ) (offsets : List ℕ) → offsets ≡ edge_offsets ny nz → first ≡ edge m 0 → m + ny * nz + nz + 1 < N → all ≡ 3 * N
    → N ≤ 16777216 → EdgesIn offsets first all
unfolding edge
edges_in ny nz m N all first offsets o f h a few = (
  λ e b.
      omega (
        arith,
        ap (λ (l : List ℕ). get_or l e 0) o,
        offset_at ny nz e b,
        edge_small ny nz m N e h b,
      ),
  omega arith,
)

pub cell_faces : (values : List Float) (ny nz : ℕ) (iso : Float) (m first case : ℕ) (offsets : List ℕ) → offsets ≡ edge_offsets ny nz → first ≡ edge m 0
    → case ≡ case_at values ny nz iso m → row_faces offsets first case ≡ faces_at values ny nz iso m
unfolding faces_at edge
cell_faces values ny nz iso m first case offsets o f e =
    let q : first ≡ 3 * m = omega arith in rw (o, e, q) refl

pub few_cell : (values : List Float) (ny nz : ℕ) (iso : Float) (m : ℕ) → length (faces_at values ny nz iso m) ≤ 5
unfolding faces_at
few_cell values ny nz iso m = row_length (edge_offsets ny nz) (3 * m) (case_at values ny nz iso m) (case_below values ny nz iso m)
