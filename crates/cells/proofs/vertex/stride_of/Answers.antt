-- Each arm is that of the definition, by the tests that lead to it. Assumes nothing.
use Rattle.std.proofs.Common.{refl, eq-eqb, ne_eqb}
use Rattle.cells.specs.Words.{stride}
use Rattle.cells.proofs.vertex.stride_of.Goals as goal

pub returns-then-axis-eq0 : goal.returns-then-axis-eq0
unfolding stride
returns-then-axis-eq0 c = rw (eq-eqb c.args.axis 0 c.if-axis-eq0.true) refl

pub returns-then-axis-eq1 : goal.returns-then-axis-eq1
unfolding stride
returns-then-axis-eq1 c = rw (ne_eqb c.args.axis 0 c.if-axis-eq0.false, eq-eqb c.args.axis 1 c.if-axis-eq1.true) refl

pub returns-else-axis-eq1 : goal.returns-else-axis-eq1
unfolding stride
returns-else-axis-eq1 c = rw (ne_eqb c.args.axis 0 c.if-axis-eq0.false, ne_eqb c.args.axis 1 c.if-axis-eq1.false) refl
