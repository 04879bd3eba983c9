-- `levels::start` meets its contract: after q turns the first q nodes are written. Assumes nothing.
use Rattle.std.proofs.Common.{◌≡◌, length}
use Rattle.lists.specs.Laws.Fill.{Filled}
use Rattle.levels.specs.Levels.{start_at}
use Rattle.levels.proofs.starting.start.Given as goal

abbrev pub invariant-loop-q : goal.invariant-loop-q
invariant-loop-q l = Filled (start_at l.coarse l.g l.before) l.initial.x l.x l.q × (l.q-end ≡ length l.initial.x)
