-- No second outcome fits: each public function, in the order of the sources. Assumes nothing.
use mathlib.Core.Path.{◌≡◌, refl}
use mathlib.Core.List.{List}
use mir.Syntax.{Dict}
use denote.RattleType.{RattleType}
use denote.Param.Laws.{Laws}
use Rattle.closed.specs.Faces.{Face}
use Rattle.cells.specs.declared.walk.Visit.{Ghosts}
use Rattle.lists.specs.OneOutcome.{OneOutcome}
use Rattle.lists.specs.Laws.OneAnswer.{same, ◌&◌}
use Rattle.grid.proofs.OneAnswer.{by_edge}
use Rattle.cells.specs.contracts as contract
use Rattle.cells.proofs as fn

-- ---- cell.rt

pub below : OneOutcome contract.cell.below.ended fn.cell.below.Reads.Post
below κs args o o' p q = same p q & refl

pub isosurface_side_of : OneOutcome contract.Isosurface.side_of.ended fn.Isosurface.side_of.Reads.Post
isosurface_side_of κs args o o' p q = same p q & refl

pub isosurface_is_plain : OneOutcome contract.Isosurface.is_plain.ended fn.Isosurface.is_plain.Reads.Post
isosurface_is_plain κs args o o' p q = same p q & refl

pub edge_offsets : OneOutcome contract.cell.edge_offsets.ended fn.cell.edge_offsets.Reads.Post
edge_offsets κs args o o' p q = same p q & refl

pub cell_edge : OneOutcome contract.cell.cell_edge.ended fn.cell.cell_edge.Reads.Post
cell_edge κs args o o' p q = by_edge (same p q) & refl

-- ---- vertex.rt

pub isosurface_point : OneOutcome contract.Isosurface.point.ended fn.Isosurface.point.Reads.Post
isosurface_point κs args o o' p q = same p q & refl

-- ---- walk.rt

-- of a visitor whose `Visited` says one state
module _ (V : RattleType) (L : Laws V) (visits : Ghosts V.Denot) (dict : Dict)
    (tight : (s t u : V.Denot) (fs : List Face) → visits.Visited s t fs → visits.Visited s u fs → t ≡ u) where
  pub isosurface_visit_faces : OneOutcome (contract.Isosurface.visit_faces.ended V visits dict) (fn.Isosurface.visit_faces.Reads.Post V L visits dict)
  isosurface_visit_faces κs args o o' p q = refl & refl & tight _ _ _ _ p q & refl
