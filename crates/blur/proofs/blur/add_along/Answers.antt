-- `blur::blur::add_along` meets its contract: the run of nodes inside begins at the first node, or `add_to_end` has it (`Runs`).
-- Assumes nothing.
use Rattle.std.proofs.Common.{refl, sym}
use Rattle.blur.proofs.Runs.{run_ahead}
use Rattle.blur.proofs.blur.add_along.Goals as goal

pub returns-in-Some : goal.returns-in-Some
returns-in-Some c = run_ahead c.args.out.now c.args.v.now c.args.w c.args.radius c.args.t c.in-Some.p _ (sym c.in-Some.ensures) refl c.add_times.ensures
