-- No second outcome fits: each public function, in the order of the source. Answer and slices are said by equations. Assumes nothing.
use mathlib.Core.Path.{refl}
use Rattle.lists.specs.OneOutcome.{OneOutcome}
use Rattle.lists.specs.Laws.OneAnswer.{same, ◌&◌}
use Rattle.ending.proofs.SameSlices.{grids_cleared}
use Rattle.field_call.specs.contracts as contract
use Rattle.field_call.proofs as fn

pub poisson_field : OneOutcome contract.poisson_field.ended fn.poisson_field.Reads.Post
poisson_field κs args o o' p q =
    let d = p.1 in
    let e = q.1 in
    same d.answered e.answered
    & refl
    & refl
    & same d.values e.values
    & grids_cleared args.1.1.1.0.now p.0 q.0 d.scratch e.scratch
    & same d.scratch.edges_clear e.scratch.edges_clear
    & same d.scratch.distances_clear e.scratch.distances_clear
    & refl
