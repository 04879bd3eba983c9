-- No second outcome fits: each public function, in the order of the sources. A Node, an Edge and a Vertex are told by their numbers. Assumes nothing.
use mathlib.Core.Path.{◌≡◌, refl}
use Rattle.lists.specs.OneOutcome.{OneOutcome}
use Rattle.lists.specs.Laws.OneAnswer.{same, ◌&◌}
use Rattle.grid.specs.declared.Node.{Node}
use Rattle.grid.specs.declared.Edge.{Edge}
use Rattle.grid.specs.declared.Vertex.{Vertex}
use Rattle.grid.specs.contracts as contract
use Rattle.grid.proofs as fn

pub by_node : {a b : Node} → a.0 ≡ b.0 → a ≡ b
by_node e = λ i. record { 0 = e i }

pub by_edge : {a b : Edge} → a.0 ≡ b.0 → a ≡ b
by_edge e = λ i. record { 0 = e i }

pub by_vertex : {a b : Vertex} → a.0 ≡ b.0 → a ≡ b
by_vertex e = λ i. record { 0 = e i }

-- ---- block.rt

pub lattice_node : OneOutcome contract.Lattice.node.ended fn.Lattice.node.Reads.Post
lattice_node κs args o o' p q = by_node (same p q) & refl

pub lattice_line_start : OneOutcome contract.Lattice.line_start.ended fn.Lattice.line_start.Reads.Post
lattice_line_start κs args o o' p q = by_node (same p q) & refl

pub lattice_coords : OneOutcome contract.Lattice.coords.ended fn.Lattice.coords.Reads.Post
lattice_coords κs args o o' p q = same p q & refl

-- ---- cube.rt

pub grid_new : OneOutcome contract.Grid.new.ended fn.Grid.new.Reads.Post
grid_new κs args o o' p q = same p.0 q.0 & refl

pub grid_len : OneOutcome contract.Grid.len.ended fn.Grid.len.Reads.Post
grid_len κs args o o' p q = same p q & refl

pub grid_node : OneOutcome contract.Grid.node.ended fn.Grid.node.Reads.Post
grid_node κs args o o' p q = by_node (same p q) & refl

pub grid_coords : OneOutcome contract.Grid.coords.ended fn.Grid.coords.Reads.Post
grid_coords κs args o o' p q = same p q & refl

pub grid_row_start : OneOutcome contract.Grid.row_start.ended fn.Grid.row_start.Reads.Post
grid_row_start κs args o o' p q = by_node (same p q) & refl

pub grid_is_boundary : OneOutcome contract.Grid.is_boundary.ended fn.Grid.is_boundary.Reads.Post
grid_is_boundary κs args o o' p q = same p q & refl

pub grid_boundary_row : OneOutcome contract.Grid.boundary_row.ended fn.Grid.boundary_row.Reads.Post
grid_boundary_row κs args o o' p q = same p q & refl

pub grid_world : OneOutcome contract.Grid.world.ended fn.Grid.world.Reads.Post
grid_world κs args o o' p q = same p q & refl

pub grid_lattice : OneOutcome contract.Grid.lattice.ended fn.Grid.lattice.Reads.Post
grid_lattice κs args o o' p q = same p.0 q.0 & refl

-- ---- numbering.rt

pub node_at : OneOutcome contract.numbering.node_at.ended fn.numbering.node_at.Reads.Post
node_at κs args o o' p q = by_node (same p q) & refl

pub coords_of : OneOutcome contract.numbering.coords_of.ended fn.numbering.coords_of.Reads.Post
coords_of κs args o o' p q = same p q & refl

pub node_of : OneOutcome contract.Node.of.ended fn.Node.of.Reads.Post
node_of κs args o o' p q = by_node (same p q) & refl

pub node_place : OneOutcome contract.Node.place.ended fn.Node.place.Reads.Post
node_place κs args o o' p q = same p q & refl

pub node_after : OneOutcome contract.Node.after.ended fn.Node.after.Reads.Post
node_after κs args o o' p q = by_node (same p q) & refl

pub edge_of : OneOutcome contract.Edge.of.ended fn.Edge.of.Reads.Post
edge_of κs args o o' p q = by_edge (same p q) & refl

pub edge_node : OneOutcome contract.Edge.node.ended fn.Edge.node.Reads.Post
edge_node κs args o o' p q = by_node (same p q) & refl

pub edge_axis : OneOutcome contract.Edge.axis.ended fn.Edge.axis.Reads.Post
edge_axis κs args o o' p q = same p q & refl

pub edge_at : OneOutcome contract.Edge.at.ended fn.Edge.at.Reads.Post
edge_at κs args o o' p q = by_edge (same p q) & refl

pub edge_place : OneOutcome contract.Edge.place.ended fn.Edge.place.Reads.Post
edge_place κs args o o' p q = same p q & refl

pub vertex_of : OneOutcome contract.Vertex.of.ended fn.Vertex.of.Reads.Post
vertex_of κs args o o' p q = by_vertex (same p q) & refl

pub vertex_number : OneOutcome contract.Vertex.number.ended fn.Vertex.number.Reads.Post
vertex_number κs args o o' p q = same p q & refl

-- ---- trilinear.rt

pub cell_weight : OneOutcome contract.Cell.weight.ended fn.Cell.weight.Reads.Post
cell_weight κs args o o' p q = same p q & refl

pub grid_cell : OneOutcome contract.Grid.cell.ended fn.Grid.cell.Reads.Post
grid_cell κs args o o' p q = same p.0 q.0 & refl

pub grid_corner : OneOutcome contract.Grid.corner.ended fn.Grid.corner.Reads.Post
grid_corner κs args o o' p q = by_node (same p q) & refl

pub grid_sample : OneOutcome contract.Grid.sample.ended fn.Grid.sample.Reads.Post
grid_sample κs args o o' p q = same p q & refl
