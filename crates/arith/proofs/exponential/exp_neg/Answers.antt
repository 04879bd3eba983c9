-- `arith::exp_neg`: the three calls are the definition's three parts. Assumes nothing.
use Rattle.numbers.specs.Arithmetic.{exp_neg}
use Rattle.arith.proofs.exponential.exp_neg.Goals as goal

pub returns : goal.returns
unfolding exp_neg
returns c = rw (c.narrow.ensures, c.squares.ensures, c.terms.ensures)
