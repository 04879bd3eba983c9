-- `extract_vectors::words::read_origin`: three words come off, one after the other. Assumes nothing.
use Rattle.replay.specs.Laws.Ends.{end_by, end_then}
use Rattle.extract_vectors.proofs.words.read_origin.Goals as goal

pub returns-clause-rest : goal.returns-clause-rest
returns-clause-rest c =
    end_then _ _ _ (end_by _ _ _ c.hex.ensures.left) (end_then _ _ _ (end_by _ _ _ c.hex-2.ensures.left) (end_by _ _ _ c.hex-3.ensures.left))
