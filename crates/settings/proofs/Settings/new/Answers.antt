-- `settings::Settings::new`: the literals are the constants, and 1e-4's pattern is the fraction's. Assumes nothing.
use Rattle.numbers.proofs.Laws.ConstantValues.{ten_thousandth_is}
use Rattle.settings.proofs.Settings.new.Goals as goal

pub returns : goal.returns
returns c = rw ten_thousandth_is
