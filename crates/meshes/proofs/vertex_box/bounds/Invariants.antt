-- `meshes::bounds` meets its contract: before vertex v the box is that of the vertices 0 to v - 1. Assumes nothing.
use Rattle.std.proofs.Common.{◌≡◌, ◌-◌}
use Rattle.meshes.specs.BoxOfVertices.{box_to}
use Rattle.meshes.proofs.vertex_box.bounds.Given as goal

abbrev pub invariant-loop-v : goal.invariant-loop-v
invariant-loop-v l = l.b ≡ box_to l.vertices (l.v - 1)
