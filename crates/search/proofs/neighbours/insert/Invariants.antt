-- `search::neighbours::insert`: what `inserted` has left to do stays the same (`Carried`). Assumes nothing.
use Rattle.search.proofs.Carry.{Carried}
use Rattle.search.proofs.neighbours.insert.Given as goal

abbrev pub invariant-loop-k : goal.invariant-loop-k
invariant-loop-k l = Carried l.initial.list l.m l.d l.list l.v l.k
