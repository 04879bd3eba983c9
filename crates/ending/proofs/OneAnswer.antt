-- No second outcome fits: each public function, in the order of the source. Each slice at exit is said by an equation. Assumes nothing.
use mathlib.Core.Path.{refl}
use Rattle.lists.specs.OneOutcome.{OneOutcome}
use Rattle.lists.specs.Laws.OneAnswer.{same, ◌&◌}
use Rattle.ending.proofs.SameSlices.{grids_cleared}
use Rattle.ending.specs.contracts as contract
use Rattle.ending.proofs as fn

pub grids_lengths : OneOutcome contract.Grids.lengths.ended fn.Grids.lengths.Reads.Post
grids_lengths κs args o o' p q = same p q & refl

pub clear_scratch : OneOutcome contract.clear_scratch.ended fn.clear_scratch.Reads.Post
clear_scratch κs args o o' p q =
    refl
    & grids_cleared args.0.now p.0 q.0 p.1 q.1
    & same p.1.edges_clear q.1.edges_clear
    & same p.1.distances_clear q.1.distances_clear
    & refl

pub tidy : OneOutcome contract.tidy.ended fn.tidy.Reads.Post
tidy κs args o o' p q =
    refl
    & refl
    & refl
    & same p.1.vertices q.1.vertices
    & same p.1.faces q.1.faces
    & grids_cleared args.1.1.1.1.0.now p.0 q.0 p.1.scratch q.1.scratch
    & same p.1.scratch.edges_clear q.1.scratch.edges_clear
    & same p.1.scratch.distances_clear q.1.scratch.distances_clear
    & refl
