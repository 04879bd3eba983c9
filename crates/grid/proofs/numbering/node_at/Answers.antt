-- `grid::node_at`: each step of the sum is at most the number itself. Assumes nothing.
use Rattle.std.proofs.Common.{ℕ, List, ◌+◌, ◌*◌, ◌<◌, get_or, refl, arith, le-mul_of_pos_right}
use Rattle.closed.specs.Grid.{node}
use Rattle.grid.specs.Grid.{node_at}
use Rattle.grid.proofs.numbering.node_at.Goals as goal

abbrev Steps : (ny nz i j k : ℕ) → Type 0
Steps ny nz i j k = (i * ny < 16777216) × (i * ny + j < 16777216) × ((i * ny + j) * nz < 16777216) × ((i * ny + j) * nz + k < 16777216)

room : (ny nz : ℕ) (at : List ℕ) → (0 < nz) × (node_at ny nz at < 16777216) → Steps ny nz (get_or at 0 0) (get_or at 1 0) (get_or at 2 0)
unfolding node
room ny nz at p = let row = le-mul_of_pos_right (get_or at 0 0 * ny + get_or at 1 0) p.0 in (omega arith, omega arith, omega arith, p.1)

pub overflow_mul-result : goal.overflow_mul-result
overflow_mul-result c = omega (arith, room c.args.ny c.args.nz c.args.at c.requires)

pub overflow_add-result : goal.overflow_add-result
overflow_add-result c = omega (arith, room c.args.ny c.args.nz c.args.at c.requires)

pub overflow_mul-result-2 : goal.overflow_mul-result-2
overflow_mul-result-2 c = omega (arith, room c.args.ny c.args.nz c.args.at c.requires)

pub overflow_add-result-2 : goal.overflow_add-result-2
overflow_add-result-2 c = omega (arith, room c.args.ny c.args.nz c.args.at c.requires)

pub returns : goal.returns
unfolding node
returns c = refl
