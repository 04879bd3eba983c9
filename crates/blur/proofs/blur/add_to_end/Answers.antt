-- `blur::blur::add_to_end` meets its contract: the run of nodes inside ends at the last node, or there is none (`Runs`).
-- Assumes nothing.
use Rattle.std.proofs.Common.{refl, sym}
use Rattle.blur.proofs.Runs.{run_back, run_none}
use Rattle.blur.proofs.blur.add_to_end.Goals as goal

pub returns-in-Some : goal.returns-in-Some
returns-in-Some c = run_back c.args.out.now c.args.v.now c.args.w c.args.radius c.args.t c.in-Some.p _ _ c.requires.3 (sym c.in-Some.ensures) refl refl c.add_times.ensures

pub returns-in_default : goal.returns-in_default
returns-in_default c = run_none c.args.out.now c.args.v.now c.args.w c.args.radius c.args.t c.requires.3 (sym c.in_default.ensures)
