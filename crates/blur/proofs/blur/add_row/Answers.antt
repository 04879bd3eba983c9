-- `blur::blur::add_row` meets its contract: the row takes a part of v, or nothing (`Terms`). The part lies within v since the row's place does.
-- Assumes nothing.
use Rattle.std.proofs.Common.{refl, ◌∙◌}
use Rattle.blur.proofs.Terms.{across_at, across_outside}
use Rattle.blur.proofs.blur.add_row.Goals as goal

pub returns-in-Some : goal.returns-in-Some
returns-in-Some c = c.add_times.ensures ∙ across_at c.args.v.now c.args.out.now c.args.first.0 c.args.stride c.args.w c.in-Some.p _ c.in-Some.is refl

pub returns-in_default : goal.returns-in_default
returns-in_default c = across_outside c.args.v.now c.args.out.now c.args.first.0 c.args.stride c.args.w c.in_default.is
