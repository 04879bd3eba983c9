-- `calls_replayed::words::read_settings`: seven words come off, one after the other. Assumes nothing.
use Rattle.replay.specs.Laws.Ends.{end_by, end_then}
use Rattle.calls_replayed.proofs.words.read_settings.Goals as goal

pub returns-clause-rest : goal.returns-clause-rest
returns-clause-rest c =
    let first = end_then _ _ _ (end_by _ _ _ c.decimal-depth.ensures.left) (end_then _ _ _ (end_by _ _ _ c.hex32-smoothing.ensures.left) (end_by _ _ _ c.hex32-offset.ensures.left)) in
    let trimming = end_then _ _ _ (end_by _ _ _ c.decimal-flag.ensures.left) (end_by _ _ _ c.hex32-distance.ensures.left) in
    let stops = end_then _ _ _ (end_by _ _ _ c.hex-iterations.ensures.left) (end_by _ _ _ c.hex-tolerance.ensures.left) in
    end_then _ _ _ first (end_then _ _ _ trimming stops)
