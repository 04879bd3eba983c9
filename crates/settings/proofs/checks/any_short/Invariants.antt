-- Whether a length is short from some place on, is whether one is from the start: that is the invariant, and at each turn one length is looked at.
use Rattle.std.proofs.Common.{◌≡◌}
use Rattle.std.proofs.Math.ListN.{drop}
use Rattle.settings.specs.Refusals.{any_short}
use Rattle.settings.proofs.checks.any_short.Given as goal

abbrev pub invariant-loop-length : goal.invariant-loop-length
invariant-loop-length l = any_short l.n (drop l.length-index l.fn.grids) ≡ any_short l.n l.fn.grids
