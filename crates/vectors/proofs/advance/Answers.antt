-- `vectors::advance` meets its contract: after i turns x and r are written, and the squares summed, up to there (Advancing). Assumes nothing.
use Rattle.std.proofs.Common.{refl, arith}
use Rattle.vectors.proofs.Advancing.{advancing_none, advancing_more, advancing_done}
use Rattle.vectors.proofs.advance.Goals as goal

pub loop-i-init : goal.loop-i-init
loop-i-init c = (advancing_none c.args.alpha c.args.x.now c.args.r.now c.args.p.now c.args.ap.now, refl)

pub loop-i-preserved : goal.loop-i-preserved
loop-i-preserved c = (advancing_more c.args.alpha c.args.x.now c.args.r.now c.args.p.now c.args.ap.now c.loop-i.invariant.0 (omega (arith, c.requires)) (omega (arith, c.requires)) c.widen-w.ensures, refl)

pub returns : goal.returns
returns c = advancing_done c.args.alpha c.args.x.now c.args.r.now c.args.p.now c.args.ap.now c.args.g c.loop-i.invariant.0 c.requires.of_x c.requires.of_r (omega (arith, c.requires))
