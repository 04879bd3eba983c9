-- `search::brute::square`: the squares of the three differences. Assumes nothing.
use Rattle.search.specs.Search.{square_of}
use Rattle.search.proofs.brute.square.Goals as goal

pub returns : goal.returns
unfolding square_of
returns c = c.squares.ensures
