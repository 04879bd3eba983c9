-- `extract_vectors::words::read_header`: what each reader leaves, the next one reads. Assumes nothing.
use Rattle.replay.specs.Laws.Ends.{end_by, end_then}
use Rattle.extract_vectors.proofs.words.read_header.Goals as goal

pub returns-clause-rest : goal.returns-clause-rest
returns-clause-rest c =
    let place = end_then _ _ _ c.read_sides-counts.ensures.rest (end_then _ _ _ c.skip_word.ensures.rest c.read_origin-origin.ensures.rest) in
    let step = end_then _ _ _ c.skip_word-2.ensures.rest (end_by _ _ _ c.hex.ensures.left) in
    let iso = end_then _ _ _ c.skip_word-3.ensures.rest (end_by _ _ _ c.hex32.ensures.left) in
    end_then _ _ _ place (end_then _ _ _ step (end_then _ _ _ iso c.skip_word-4.ensures.rest))
