-- Document 01, "What crosses the counter": the settings that a call has where none are given. Definitions only; assumes nothing.
use Rattle.numbers.specs.Constants.{one32, ten_thousandth64}
use Rattle.lists.specs.Lists.{zero32}
use Rattle.settings.specs.declared.Settings.{Settings}
use Rattle.settings.specs.declared.Trimming.TheVariants.{Off}

-- 7, 1.0, 0.0, off, 1000, 1e-4
abbrev pub defaults : Settings
defaults =
    record {
      depth = 7;
      smoothing = one32;
      iso_offset = zero32;
      trimming = Off;
      max_iterations = 1000;
      tolerance = ten_thousandth64;
    }
