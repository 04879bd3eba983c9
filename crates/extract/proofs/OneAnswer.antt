-- No second outcome fits: each public function, in the order of the sources. Assumes nothing.
use mathlib.Core.Path.{refl}
use Rattle.lists.specs.OneOutcome.{OneOutcome}
use Rattle.lists.specs.Laws.OneAnswer.{same, ◌&◌}
use Rattle.extract.specs.contracts as contract
use Rattle.extract.proofs as fn

-- ---- write.rt

pub write_mesh : OneOutcome contract.write.write_mesh.ended fn.write.write_mesh.Reads.Post
write_mesh κs args o o' p q = refl & refl & refl & refl & refl & same p.points q.points & same p.triples q.triples & refl
