-- The two calls as the demands speak of them: what the contract says of a call on the points xs and the settings st that was lent the slices `before`,
-- answered r, and left the slices `after`. The contracts are those in the sources of `poisson` and `field_call`. Definitions only; assumes nothing.
use Rattle.std.specs.Prelude.{List, Float}
use Rattle.settings.specs.declared.Settings.{Settings}
use Rattle.answers.specs.declared.Answer.{Answer}
use Rattle.ending.specs.Slices.{Slices, FieldSlices}
use Rattle.scan.specs.Reconstruction.{reconstructed}
use Rattle.scan.specs.FieldAlone.{field_results}
use Rattle.field_call.specs.Outcome.{FieldDone}
use Rattle.poisson.specs.Outcome.{Done}

-- of `poisson_reconstruction`, and with `defaults` for the settings of `poisson_reconstruction_default`
abbrev pub Meets : (xs : List Float) → Settings → (before : Slices) → Answer → (after : Slices) → Type 0
Meets xs st before r after = Done (reconstructed xs st) r before after

-- of `poisson_field`, the call for the field alone
abbrev pub FieldMeets : (xs : List Float) → Settings → (before : FieldSlices) → Answer → (after : FieldSlices) → Type 0
FieldMeets xs st before r after = FieldDone (field_results xs st) r before after
