-- The stages in the order of the definition: each is given what it asks by those before. Once V and F are counted they are the definition's, and few
-- (`known`); once the checks of the mesh pass there is room for it (`room`), and it stands at the front of the two slices. The verdict in its groups decides
-- what is answered (Results). Assumes nothing.
use Rattle.std.proofs.Common.{List, ℕ, ◌≡◌, ◌*◌, ◌^◌, ◌≤◌, rules, refl, sym, ap, ◌∙◌, subst, length, Float, arith, take, drop}
use lib.Seq.{length-take-le}
use Rattle.grid.specs.declared.Grid.{Grid}
use Rattle.grid.specs.Grid.{Sides, lattice_of, all_nodes}
use Rattle.points.specs.declared.point.Point.{Point}
use Rattle.points.specs.declared.bounds.Bounds.{Bounds}
use Rattle.points.specs.Points.{usables}
use Rattle.points.specs.Box.{bounds_of}
use Rattle.settings.specs.declared.Settings.{Settings}
use Rattle.settings.specs.declared.Lengths.{Lengths}
use Rattle.settings.specs.Refusals.{room_verdict, mesh_verdict}
use Rattle.answers.specs.Answers.{Verdict, Pass, ◌then◌}
use Rattle.meshes.specs.declared.MeshSize.{MeshSize}
use Rattle.numbering.specs.Words.{Counted, edge_table}
use Rattle.ending.specs.declared.Grids.{Grids}
use Rattle.ending.proofs.SameSlices.{then_same}
use Rattle.scan.specs.Reconstruction.{lattice_for, field_for, level_for, vertex_total, face_total}
use Rattle.scan.specs.Words.{GridOver, Solved}
use Rattle.scan.proofs.PutTogether.{nodes_cubed, grid_is, counted_is, front_field}
use Rattle.scan.proofs.ExactParts.{solved_lengths, made_lengths}
use Rattle.poisson.proofs.Results.{few_totals, mesh_refused, mesh_room, mesh_shown}
use Rattle.poisson.proofs.reconstruct.Goals as goal

-- what is known once V and F are counted
record Known (ps : List Point) (st : Settings) (counts : MeshSize) (edges : List ℕ) : Type 0 where
  vertices : counts.vertices ≡ vertex_total ps st
  faces : counts.faces ≡ face_total ps st
  few_vertices : counts.vertices ≤ 50331648
  few_faces : counts.faces ≤ 83886080
  numbers : take (3 * 8 ^ st.depth) edges ≡ edge_table (field_for ps st) (lattice_for ps st) (level_for ps st)

known : {ps : List Point} {st : Settings} {b : Bounds} {g : Grid} {level : Float} {before after : Grids} {distances distances' : List Float}
    {edges : List ℕ} {counts : MeshSize} → b ≡ bounds_of ps → GridOver b st g → Solved ps st level before after distances distances'
    → Counted (take (all_nodes g) after.s0.now) (take (3 * all_nodes g) edges) (lattice_of g) level counts → Known ps st counts edges
unfolding vertex_total face_total
known {ps} {st} {edges = edges} box over solved counted =
    let grid = grid_is ps st box over in
    let nodes = nodes_cubed over in
    let done = counted_is ps st grid (front_field solved nodes).1 refl solved.level_is counted in
    let most = few_totals ps st (subst (λ (h : Grid). Sides h.nodes) grid over.sides) in
    record {
      vertices = done.vertices;
      faces = done.faces;
      few_vertices = omega (arith, most.0, done.vertices);
      few_faces = omega (arith, most.1, done.faces);
      numbers = ap (λ (n : ℕ). take (3 * n) edges) (sym nodes) ∙ done.numbers;
    }

-- once the checks of the mesh pass the two slices hold the untrimmed mesh
room : {ps : List Point} {st : Settings} {counts : MeshSize} {edges : List ℕ} (lent : Lengths) (vs : List Float) (fs : List ℕ) {v : Verdict}
    → Known ps st counts edges → v ≡ room_verdict counts.vertices counts.faces lent then mesh_verdict counts.faces → v ≡ Pass
    → (lent.vertices ≡ length vs) × (lent.faces ≡ length fs)
    → (3 * counts.vertices ≤ length vs) × (3 * counts.faces ≤ length fs)
room {ps} {st} {counts} lent vs fs k is passed long =
    let fit = mesh_room ps st lent counts is k.vertices k.faces passed in (omega (arith, fit.0, long.0), omega (arith, fit.1, long.1))

pub count-counts-requires-clause-room : goal.count-counts-requires-clause-room
count-counts-requires-clause-room c =
    let nodes = nodes_cubed c.make_grid-g.ensures in
    ((front_field c.field_and_level-level.ensures.solved nodes).0, omega (arith, nodes, c.requires.edges_len))

pub check_mesh-requires : goal.check_mesh-requires
check_mesh-requires c =
    let k = known c.of-bounds.ensures c.make_grid-g.ensures c.field_and_level-level.ensures.solved c.count-counts.ensures.counted in
    (omega (arith, k.few_vertices), omega (arith, k.few_faces))

pub returns-in_err-check_mesh-clause-same : goal.returns-in_err-check_mesh-clause-same
returns-in_err-check_mesh-clause-same c = (c.field_and_level-level.ensures.same, solved_lengths c.requires.lent c.field_and_level-level.ensures.solved)

pub returns-in_err-check_mesh-clause-shown : goal.returns-in_err-check_mesh-clause-shown
returns-in_err-check_mesh-clause-shown c =
    let k = known c.of-bounds.ensures c.make_grid-g.ensures c.field_and_level-level.ensures.solved c.count-counts.ensures.counted in
    mesh_refused _ c.args.settings c.args.lengths _ c.check_mesh.ensures k.vertices k.faces _ _ _ c.from_residual.result c.in_err-check_mesh.was (search rules)

pub overflow_mul-v : goal.overflow_mul-v
overflow_mul-v c =
    omega (arith, (known c.of-bounds.ensures c.make_grid-g.ensures c.field_and_level-level.ensures.solved c.count-counts.ensures.counted).few_vertices)

pub overflow_mul-w : goal.overflow_mul-w
overflow_mul-w c =
    omega (arith, (known c.of-bounds.ensures c.make_grid-g.ensures c.field_and_level-level.ensures.solved c.count-counts.ensures.counted).few_faces)

pub slice_bounds-mesh_in_grids-end : goal.slice_bounds-mesh_in_grids-end
slice_bounds-mesh_in_grids-end c =
    let k = known c.of-bounds.ensures c.make_grid-g.ensures c.field_and_level-level.ensures.solved c.count-counts.ensures.counted in
    (room c.args.lengths _ _ k c.check_mesh.ensures c.in_ok-check_mesh.was c.requires.lengths_are).0

pub slice_bounds-mesh_in_grids-end-2 : goal.slice_bounds-mesh_in_grids-end-2
slice_bounds-mesh_in_grids-end-2 c =
    let k = known c.of-bounds.ensures c.make_grid-g.ensures c.field_and_level-level.ensures.solved c.count-counts.ensures.counted in
    sym (length-take-le _ _ (room c.args.lengths _ _ k c.check_mesh.ensures c.in_ok-check_mesh.was c.requires.lengths_are).0)

pub slice_bounds-mesh_in_grids-end-3 : goal.slice_bounds-mesh_in_grids-end-3
slice_bounds-mesh_in_grids-end-3 c =
    let k = known c.of-bounds.ensures c.make_grid-g.ensures c.field_and_level-level.ensures.solved c.count-counts.ensures.counted in
    (room c.args.lengths _ _ k c.check_mesh.ensures c.in_ok-check_mesh.was c.requires.lengths_are).1

pub slice_bounds-mesh_in_grids-end-4 : goal.slice_bounds-mesh_in_grids-end-4
slice_bounds-mesh_in_grids-end-4 c =
    let k = known c.of-bounds.ensures c.make_grid-g.ensures c.field_and_level-level.ensures.solved c.count-counts.ensures.counted in
    sym (length-take-le _ _ (room c.args.lengths _ _ k c.check_mesh.ensures c.in_ok-check_mesh.was c.requires.lengths_are).1)

pub mesh_in_grids-size-requires : goal.mesh_in_grids-size-requires
mesh_in_grids-size-requires c =
    let over = c.make_grid-g.ensures in
    let field = c.field_and_level-level.ensures.solved in
    let k = known c.of-bounds.ensures over field c.count-counts.ensures.counted in
    let fit = room c.args.lengths _ _ k c.check_mesh.ensures c.in_ok-check_mesh.was c.requires.lengths_are in
    let lent = c.requires.lent in
    let long = solved_lengths lent field in
    record {
      grid = grid_is (usables c.args.points.now) c.args.settings c.of-bounds.ensures over;
      sides = over.sides;
      depth = nodes_cubed over;
      shallow = lent.shallow;
      level_is = field.level_is;
      places = length-take-le _ _ fit.0 ∙ ap (λ (i : ℕ). 3 * i) k.vertices;
      triples = length-take-le _ _ fit.1 ∙ ap (λ (i : ℕ). 3 * i) k.faces;
      field = (front_field field refl).1;
      room0 = omega (arith, long.l0, lent.room0);
      room1 = omega (arith, long.l1, lent.room1);
      room2 = omega (arith, long.l2, lent.room2);
      room3 = omega (arith, long.l3, lent.room3);
      table_room = omega (arith, c.count-counts.ensures.len, c.requires.edges_len);
      numbers = k.numbers;
    }

pub returns-clause-same : goal.returns-clause-same
returns-clause-same c =
    let field = c.field_and_level-level.ensures in
    let made = c.mesh_in_grids-size.ensures in (
      then_same c.args.grids.now c.field_and_level-level.new.grids c.mesh_in_grids-size.new.grids field.same made.same,
      made_lengths c.requires.lent (solved_lengths c.requires.lent field.solved) made.made,
    )

pub returns-clause-shown : goal.returns-clause-shown
returns-clause-shown c =
    let field = c.field_and_level-level.ensures.solved in
    let k = known c.of-bounds.ensures c.make_grid-g.ensures field c.count-counts.ensures.counted in
    let vs = c.args.vertices.now in
    let fs = c.args.faces.now in
    let v = 3 * c.count-counts.result.vertices in
    let w = 3 * c.count-counts.result.faces in
    let made = c.mesh_in_grids-size in
    let done = made.ensures.made in
    mesh_shown (usables c.args.points.now) c.args.settings c.args.lengths _ c.check_mesh.ensures k.vertices k.faces
    (length (take v vs)) (length (take w fs)) made.new.vertices made.new.faces made.result.vertices made.result.faces
    c.usable_count.result (drop v vs) (drop w fs)
    done.vertex_count done.face_count done.places done.numbers field.level_is
    c.usable_count.ensures
    _ c.in_ok-check_mesh.was c.answer_or_refuse.ensures
