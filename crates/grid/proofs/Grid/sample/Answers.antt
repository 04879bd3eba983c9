-- `grid::Grid::sample`: each corner is a node, whose value is added with its weight. Assumes nothing.
use Rattle.std.proofs.Common.{◌≡◌, ℕ, List, ◌<◌, ◌≤◌, length, refl, ◌∙◌, add-one, arith}
use Rattle.std.specs.Float.Ieee.{Float}
use Rattle.grid.specs.declared.Grid.{Grid}
use Rattle.grid.specs.declared.Cell.{Cell}
use Rattle.grid.specs.Grid.{all_nodes, cell_corner, sum_to, sampled, Sides, CellInside}
use Rattle.grid.specs.Laws.Cells.{corner_below}
use Rattle.grid.specs.Laws.Rows.{cube_most}
use Rattle.grid.proofs.Grid.sample.Goals as goal

-- a corner's value stands in the slice
reach : (g : Grid) (values : List Float) {cell : Cell} {c place : ℕ} → Sides g.nodes → length values ≡ all_nodes g → CellInside g.nodes cell → c < 8
    → place ≡ cell_corner g.nodes cell c → (place < length values) × (length values ≤ 16777216)
reach g values {c = c} sides all inside few e = let below = corner_below c inside in omega (arith, e, below, all, cube_most sides.most)

pub loop-c-init : goal.loop-c-init
unfolding sum_to
loop-c-init c = refl

pub offset_bounds-values-place : goal.offset_bounds-values-place
offset_bounds-values-place c = omega (arith, reach c.args.self c.args.values.now c.requires.sides c.requires.values_len c.cell-cell.ensures.1 c.loop-c-test.true (c.place-place.ensures ∙ c.corner.ensures))

pub bounds-values-place : goal.bounds-values-place
bounds-values-place c = omega (arith, reach c.args.self c.args.values.now c.requires.sides c.requires.values_len c.cell-cell.ensures.1 c.loop-c-test.true (c.place-place.ensures ∙ c.corner.ensures))

pub loop-c-preserved : goal.loop-c-preserved
unfolding sum_to
loop-c-preserved c = rw (c.widen.ensures, c.weight.ensures, c.place-place.ensures, c.corner.ensures, c.loop-c.invariant, add-one)

pub returns : goal.returns
unfolding sampled
returns c =
    let all : c.loop-c.c ≡ 8 = omega arith in
    rw (← c.cell-cell.ensures.0, ← all) c.loop-c.invariant
