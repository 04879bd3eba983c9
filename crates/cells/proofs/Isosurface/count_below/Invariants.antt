-- After k turns the first k nodes of the row are counted.
use Rattle.std.proofs.Common.{◌≡◌}
use Rattle.cells.specs.Extraction.{count_z}
use Rattle.cells.specs.Words.{below_count}
use Rattle.cells.proofs.Isosurface.count_below.Given as goal

abbrev pub invariant-loop-k : goal.invariant-loop-k
invariant-loop-k l = (l.count ≡ below_count l.self.values.now l.k l.self.iso l.first.0) × (l.k-end ≡ count_z l.self.lattice)
