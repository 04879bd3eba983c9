-- `numbers::canonical`: only a NaN differs from itself. Assumes nothing.
use Rattle.std.proofs.Common.{sym, ◌∙◌}
use Rattle.numbers.proofs.canonical.Goals as goal

pub returns-then-ne : goal.returns-then-ne
returns-then-ne g c = c.NAN.ensures ∙ sym (g.met.T.Real.only_nan c.args.x (sym c.if-ne.ensures))
