-- No second outcome fits: each public function, in the order of the sources. Assumes nothing.
use mathlib.Core.Path.{refl}
use Rattle.lists.specs.OneOutcome.{OneOutcome}
use Rattle.lists.specs.Laws.OneAnswer.{same, ◌&◌}
use Rattle.settings.specs.contracts as contract
use Rattle.settings.proofs as fn

-- ---- lib.rt

pub settings_new : OneOutcome contract.Settings.new.ended fn.Settings.new.Reads.Post
settings_new κs args o o' p q = same p q & refl

-- ---- checks.rt

pub nodes : OneOutcome contract.checks.nodes.ended fn.checks.nodes.Reads.Post
nodes κs args o o' p q = same p.0 q.0 & refl

pub early : OneOutcome contract.checks.early.ended fn.checks.early.Reads.Post
early κs args o o' p q = same p q & refl

pub usable_verdict_lem : OneOutcome contract.checks.usable_verdict.ended fn.checks.usable_verdict.Reads.Post
usable_verdict_lem κs args o o' p q = same p q & refl

pub extent_verdict_lem : OneOutcome contract.checks.extent_verdict.ended fn.checks.extent_verdict.Reads.Post
extent_verdict_lem κs args o o' p q = same p q & refl

pub room_verdict : OneOutcome contract.checks.room_verdict.ended fn.checks.room_verdict.Reads.Post
room_verdict κs args o o' p q = same p q & refl

pub mesh_verdict : OneOutcome contract.checks.mesh_verdict.ended fn.checks.mesh_verdict.Reads.Post
mesh_verdict κs args o o' p q = same p q & refl
