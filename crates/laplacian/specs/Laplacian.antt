-- Document 01, "Solver", its A x: 6x minus six neighbours at a node, at every node of the grid. Values are f32. Conjugate gradients are in Solver of the
-- crate `solver`. Definitions only; assumes nothing.
use Rattle.std.specs.Prelude.{cond, List, ℕ, ◌+◌, ◌-◌, ◌*◌, Float}
use Rattle.std.specs.Float.{binary32}
use Rattle.std.specs.Float.Ieee.{sub, mul}
use Rattle.numbers.specs.Constants.{six32}
use Rattle.lists.specs.Lists.{tabulate, at, zero32}
use Rattle.grid.specs.declared.Grid.{Grid}
use Rattle.grid.specs.Grid.{all_nodes, boundary_node}

-- ---- A x = 6x minus six neighbours, subtracted -x,+x,-y,+y,-z,+z; 0 on the boundary

-- at node q, whose neighbours along x, y and z are plane, row and 1 numbers away
abbrev pub stencil_at : (plane row : ℕ) (x : List Float) (q : ℕ) → Float
stencil_at plane row x q =
    sub binary32
    (sub binary32
    (sub binary32
    (sub binary32 (sub binary32 (sub binary32 (mul binary32 six32 (at x q)) (at x (q - plane))) (at x (q + plane))) (at x (q - row)))
    (at x (q + row)))
    (at x (q - 1)))
    (at x (q + 1))

unfoldable pub apply_at : (n : ℕ) (x : List Float) (q : ℕ) → Float
apply_at n x q = cond (boundary_node n q) zero32 (stencil_at (n * n) n x q)

abbrev pub applied : (g : Grid) (x : List Float) → List Float
applied g x = tabulate (all_nodes g) (apply_at g.nodes x)
