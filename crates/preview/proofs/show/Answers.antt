-- A sheet that fits has its points. Assumes nothing.
use Rattle.std.proofs.Common.{sym, ◌∙◌}
use Rattle.sheet.specs.Laws.SheetRoom.{fits_roomy}
use Rattle.preview.proofs.show.Goals as goal

pub draw-requires : goal.draw-requires
draw-requires g c = fits_roomy c.args.bytes.now _ (sym c.parse.ensures ∙ c.in-Ok.is)
