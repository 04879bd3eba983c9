-- No second outcome fits: each public function, in the order of the sources. Assumes nothing.
use mathlib.Core.Path.{refl}
use Rattle.lists.specs.OneOutcome.{OneOutcome}
use Rattle.lists.specs.Laws.OneAnswer.{same, ◌&◌}
use Rattle.sheet.specs.contracts as contract
use Rattle.sheet.proofs as fn

-- ---- lib.rt

pub parse : OneOutcome contract.parse.ended fn.parse.Reads.Post
parse κs args o o' p q = same p q & refl

-- ---- bytes.rt

pub read16 : OneOutcome contract.bytes.read16.ended fn.bytes.read16.Reads.Post
read16 κs args o o' p q = same p q & refl

pub read_f32 : OneOutcome contract.bytes.read_f32.ended fn.bytes.read_f32.Reads.Post
read_f32 κs args o o' p q = same p q & refl

pub read_f64 : OneOutcome contract.bytes.read_f64.ended fn.bytes.read_f64.Reads.Post
read_f64 κs args o o' p q = same p q & refl

pub read_floats : OneOutcome contract.bytes.read_floats.ended fn.bytes.read_floats.Reads.Post
read_floats κs args o o' p q = refl & refl & refl & same p q & refl
