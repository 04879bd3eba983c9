-- Each digit is the remainder of what is left after the digits behind it are divided off. Assumes nothing.
use Rattle.preview.proofs.Digits.{hex_is}
use Rattle.preview.proofs.hex.Goals as goal

pub returns : goal.returns
returns c = cc (hex_is c.args.n)
