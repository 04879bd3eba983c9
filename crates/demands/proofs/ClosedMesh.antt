-- Demand 3 of the mesh that is made of usable points without trimming, even where the field holds infinities or NaN: it is the extracted one, oriented;
-- extraction's claims hold at the field and the level, orientation keeps them, and the outer nodes are all on one side by the solver's law of the boundary.
-- Assumes nothing.
use mathlib.Core.Path.{◌≡◌, sym, ap, ◌∙◌, subst}
use mathlib.Core.Bool.{Bool}
use mathlib.Core.List.{List}
use Prim.Native.Nat.{ℕ, ◌*◌, ◌≤◌, ◌<◌}
use native.Mathlib.Nat.{pow-le-pow_right}
use lib.Dec.{lit<}
use lib.ListN.{length, get_or}
use lib.Ieee.{Float, lt}
use Rattle.closed.specs.Lists.{All}
use Rattle.closed.specs.Faces.{Balanced, Apart, corners, faces}
use Rattle.closed.specs.Numbering.{used}
use Rattle.closed.proofs.Laws.Turning.{faces_corners, length_corners}
use Rattle.closed.specs.Grid.{grid_faces, Outer}
use Rattle.grid.specs.Grid.{Counts, grid_of, lattice_of}
use Rattle.grid.specs.Laws.Rows.{cube_counts}
use Rattle.levels.proofs.Laws.BoundaryAlike.{boundary_alike, outer}
use Rattle.cells.specs.Extraction.{is_below, below_at, extracted_faces, extracted_vertices, vertex_edges, edge_faces}
use Rattle.extract.specs.Laws.Claims.{one_to_one, places, three_different, faces_counted, closed}
use Rattle.meshes.specs.FlatMesh.{vertex_count}
use Rattle.orientation.specs.Orientation.{oriented_faces}
use Rattle.orientation.specs.Laws.Orienting.{oriented_balanced, oriented_apart, oriented_length, oriented_meshed}
use Rattle.trim.specs.Trim.{trimmed_vertices, trimmed_faces}
use Rattle.points.specs.declared.point.Point.{Point}
use Rattle.points.specs.Points.{usables}
use Rattle.settings.specs.declared.Settings.{Settings}
use Rattle.settings.specs.declared.Trimming.{Trimming}
use Rattle.settings.specs.declared.Trimming.TheVariants.{Off}
use Rattle.scan.specs.Reconstruction.{problem_for, grid_for, lattice_for, field_for, level_for, whole_vertices, whole_faces, kept_vertices, kept_faces, accepted_answer}
use Rattle.scan.specs.Laws.MeshRoom.{length_vertices, count_vertices, extracted_meshed}
use Rattle.demands.specs.Demand3.{side_nodes, Closed}
use Rattle.demands.proofs.Demand2.{made}

module _ (ps : List Point) (st : Settings) (off : st.trimming ≡ Off) (deep : 1 ≤ st.depth) (shallow : st.depth ≤ 8) where
  abbrev field : List Float
  field = field_for ps st

  abbrev level : Float
  level = level_for ps st

  abbrev n : ℕ
  n = side_nodes st

  abbrev below : ℕ → ℕ → ℕ → Bool
  below = below_at field n n level

  counts : Counts (lattice_for ps st).counts
  unfolding grid_for grid_of lattice_of
  counts = cube_counts (record { two = pow-le-pow_right {n = 2} (lit< tt) deep; most = pow-le-pow_right {n = 2} (lit< tt) shallow })

  -- without trimming the whole mesh is returned
  kept_vertices_lem : kept_vertices ps st ≡ extracted_vertices field (lattice_for ps st) level
  unfolding kept_vertices trimmed_vertices whole_vertices
  kept_vertices_lem = ap (λ (t : Trimming). trimmed_vertices t ps (whole_vertices ps st) (whole_faces ps st)) off

  kept_faces_lem : kept_faces ps st ≡ oriented_faces (grid_for ps st) field (whole_vertices ps st) (extracted_faces field (lattice_for ps st) level)
  unfolding kept_faces trimmed_faces whole_faces
  kept_faces_lem = ap (λ (t : Trimming). trimmed_faces t ps (whole_vertices ps st) (whole_faces ps st)) off

  -- the outer nodes are all on one side
  one_side : Outer n n n below (lt (boundary_alike (problem_for ps st) ps st.depth).value level)
  unfolding field_for is_below below_at
  one_side = outer (problem_for ps st) ps st.depth level

  balanced : Balanced (kept_faces ps st)
  unfolding grid_for grid_of lattice_of
  balanced =
      subst Balanced (sym kept_faces_lem)
      (oriented_balanced (grid_for ps st) field (whole_vertices ps st) (extracted_faces field (lattice_for ps st) level)
      (closed field (lattice_for ps st) level counts _ one_side))

  apart : All Apart (kept_faces ps st)
  apart =
      subst (All Apart) (sym kept_faces_lem)
      (oriented_apart (grid_for ps st) field (whole_vertices ps st) (extracted_faces field (lattice_for ps st) level)
      (three_different field (lattice_for ps st) level counts))

  -- V is the number of used edges, with three coordinates each
  v_count : vertex_count (kept_vertices ps st) ≡ length (used (grid_faces n n n below))
  unfolding grid_for grid_of lattice_of vertex_edges edge_faces
  v_count = ap vertex_count kept_vertices_lem ∙ count_vertices field (lattice_for ps st) level

  pub v_total : length (kept_vertices ps st) ≡ 3 * vertex_count (kept_vertices ps st)
  v_total =
      ap length kept_vertices_lem
      ∙ length_vertices field (lattice_for ps st) level
      ∙ ap (λ (m : ℕ). 3 * m) (sym (ap vertex_count kept_vertices_lem ∙ count_vertices field (lattice_for ps st) level))

  -- every number is that of a vertex
  named : (k : ℕ) → k < length (corners (kept_faces ps st)) → get_or (corners (kept_faces ps st)) k 0 < vertex_count (kept_vertices ps st)
  unfolding whole_vertices
  named k h =
      let raw = extracted_faces field (lattice_for ps st) level in
      let again : corners (kept_faces ps st) ≡ corners (oriented_faces (grid_for ps st) field (whole_vertices ps st) (faces (corners raw))) =
      ap corners (kept_faces_lem ∙ ap (oriented_faces (grid_for ps st) field (whole_vertices ps st)) (sym (faces_corners raw))) in
      let meshed = oriented_meshed (grid_for ps st) field (whole_vertices ps st) (corners raw) (extracted_meshed field (lattice_for ps st) level) in
      subst (λ (m : ℕ). get_or (corners (kept_faces ps st)) k 0 < m) (ap vertex_count (sym kept_vertices_lem))
      (subst (λ (l : List ℕ). get_or l k 0 < vertex_count (whole_vertices ps st)) (sym again) (meshed.below k (subst (λ (l : List ℕ). k < length l) again h)))

-- ---- what is answered and left

pub closed_made : (xs : List Float) (st : Settings) → st.trimming ≡ Off → 1 ≤ st.depth → st.depth ≤ 8 → Closed xs st (made (usables xs) st)
unfolding accepted_answer grid_for grid_of lattice_of
closed_made xs st off deep shallow =
    let ps = usables xs in
    let o = one_to_one (field_for ps st) (lattice_for ps st) (level_for ps st) (counts ps st off deep shallow) in
    let total = v_count ps st off deep shallow in
    record {
      different = λ v w hv hw e. o.different v w (subst (λ (m : ℕ). v < m) total hv) (subst (λ (m : ℕ). w < m) total hw) e;
      crossed = λ v h. o.crossed v (subst (λ (m : ℕ). v < m) total h);
      covered = λ e x. let t = o.covered e x in (t.0, subst (λ (m : ℕ). t.0 < m) (sym total) t.1, t.2);
      vertex_total = v_total ps st off deep shallow;
      places = kept_vertices_lem ps st off deep shallow ∙ places (field_for ps st) (lattice_for ps st) (level_for ps st) (counts ps st off deep shallow);
      vertex_count = total ∙ o.counted;
      face_count =
          ap length (kept_faces_lem ps st off deep shallow)
          ∙ oriented_length (grid_for ps st) (field_for ps st) (whole_vertices ps st) (extracted_faces (field_for ps st) (lattice_for ps st) (level_for ps st))
          ∙ faces_counted (field_for ps st) (lattice_for ps st) (level_for ps st) (counts ps st off deep shallow);
      face_total = length_corners (kept_faces ps st);
      named = named ps st off deep shallow;
      apart = subst (All Apart) (sym (faces_corners (kept_faces ps st))) (apart ps st off deep shallow);
      balanced = subst Balanced (sym (faces_corners (kept_faces ps st))) (balanced ps st off deep shallow);
    }
