-- `trim::trim_as_chosen`: the choice is off or within a distance. Assumes nothing.
use Rattle.trim.proofs.WithinDistance.{trimmed_off}
use Rattle.trim.proofs.trim_as_chosen.Goals as goal

pub returns-in-Off-clause-trimmed : goal.returns-in-Off-clause-trimmed
returns-in-Off-clause-trimmed c = rw c.in-Off.is (trimmed_off c.requires.meshed)
