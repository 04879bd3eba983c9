-- What the first stages leave is what Reconstruction puts together: each stage's definition at the results of those before. By congruence, stage after
-- stage. Assumes nothing.
use Rattle.std.proofs.Common.{◌≡◌, sym, ap, ◌∙◌, subst, take, drop, length, arith}
use Rattle.std.proofs.lemmas.List.{take_at, length-append}
use mathlib.Core.List.{List}
use Prim.Native.Nat.{ℕ, ◌*◌, ◌^◌, ◌≤◌}
use lib.Ieee.{Float}
use Rattle.grid.specs.declared.Grid.{Grid}
use Rattle.grid.specs.declared.Lattice.{Lattice}
use Rattle.grid.specs.Grid.{grid_of, lattice_of, all_nodes}
use Rattle.points.specs.declared.point.Point.{Point}
use Rattle.points.specs.declared.bounds.Bounds.{Bounds}
use Rattle.points.specs.Box.{bounds_of, extent_of, side_of, origin_of}
use Rattle.search.specs.Spacing.{spacing_of}
use Rattle.settings.specs.declared.Settings.{Settings}
use Rattle.cells.specs.Extraction.{count_x, count_y, count_z}
use Rattle.numbering.specs.Words.{Counted}
use Rattle.meshes.specs.declared.MeshSize.{MeshSize}
use Rattle.surface.specs.Surface.{level_of}
use Rattle.levels.specs.declared.Problem.{Problem}
use Rattle.levels.specs.Levels.{solution}
use Rattle.scan.specs.Reconstruction.{problem_for, grid_for, lattice_for, field_for, level_for}
use Rattle.ending.specs.declared.Grids.{Grids}
use Rattle.scan.specs.Words.{GridOver, Solved}
use Rattle.scan.specs.Laws.FieldLength.{cubed, field_length}

-- ---- N

pub nodes_cubed : {b : Bounds} {st : Settings} {g : Grid} → GridOver b st g → all_nodes g ≡ 8 ^ st.depth
unfolding grid_of
nodes_cubed {b} {st} {g} o = ap (λ (h : Grid). all_nodes h) o.is ∙ cubed st.depth

pub lattice_size : (g : Grid) {l : Lattice} → l ≡ lattice_of g → count_x l * count_y l * count_z l ≡ all_nodes g
unfolding lattice_of
lattice_size g {l} e = ap (λ (m : Lattice). count_x m * count_y m * count_z m) e

-- ---- stage by stage

pub field_is : (ps : List Point) (st : Settings) {b : Bounds} {problem : Problem} {extent : Float} {x : List Float}
    → b ≡ bounds_of ps → problem.origin ≡ origin_of b → problem.size ≡ side_of b → extent ≡ extent_of b → problem.spacing ≡ spacing_of ps extent
    → problem.smoothing ≡ st.smoothing → problem.cap ≡ st.max_iterations → problem.tolerance ≡ st.tolerance
    → x ≡ solution problem ps st.depth → x ≡ field_for ps st
unfolding field_for
field_is ps st {b} {problem} {extent} {x} box origin side wide gap s c t e =
    let same : problem ≡ problem_for ps st = λ i.
    record {
      origin = (origin ∙ ap origin_of box) i;
      size = (side ∙ ap side_of box) i;
      spacing = (gap ∙ ap (spacing_of ps) (wide ∙ ap extent_of box)) i;
      smoothing = s i;
      cap = c i;
      tolerance = t i;
    } in
    e ∙ ap (λ (q : Problem). solution q ps st.depth) same

pub grid_is : (ps : List Point) (st : Settings) {b : Bounds} {g : Grid} → b ≡ bounds_of ps → GridOver b st g → g ≡ grid_for ps st
unfolding grid_for
grid_is ps st box o = let e = o.is in cc

pub level_is : (ps : List Point) (st : Settings) {g : Grid} {x : List Float} {level : Float}
    → g ≡ grid_for ps st → x ≡ field_for ps st → level ≡ level_of g x ps st.iso_offset → level ≡ level_for ps st
unfolding level_for
level_is ps st grid field e = cc

pub counted_is : (ps : List Point) (st : Settings) {g : Grid} {x : List Float} {l : Lattice} {level : Float} {table : List ℕ} {r : MeshSize}
    → g ≡ grid_for ps st → x ≡ field_for ps st → l ≡ lattice_of g → level ≡ level_for ps st → Counted x table l level r
    → Counted (field_for ps st) table (lattice_for ps st) (level_for ps st) r
counted_is ps st {g} {x} {l} {level} {table} {r} grid field block top k =
    let a = subst (λ (v : List Float). Counted v table l level r) field k in
    let b = subst (λ (m : Lattice). Counted (field_for ps st) table m level r) (block ∙ ap lattice_of grid) a in
    subst (λ (t : Float). Counted (field_for ps st) table (lattice_for ps st) t r) top b

-- ---- the field at the front of the first grid

pub front_field : {ps : List Point} {st : Settings} {level : Float} {before after : Grids} {distances distances' : List Float} {n : ℕ}
    → Solved ps st level before after distances distances' → n ≡ 8 ^ st.depth → (n ≤ length after.s0.now) × (take n after.s0.now ≡ field_for ps st)
front_field {ps} {st} {before = before} {n = n} solved e =
    let rest = drop (8 ^ st.depth) before.s0.now in
    let size = field_length ps st in (
      omega (arith, e, size, ap length solved.field, length-append (field_for ps st) rest),
      ap (λ (s : List Float). take n s) solved.field ∙ take_at (field_for ps st) rest n (size ∙ sym e),
    )
