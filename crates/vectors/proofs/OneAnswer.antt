-- No second outcome fits: each public function, in the order of the sources. Assumes nothing.
use mathlib.Core.Path.{refl}
use Rattle.lists.specs.OneOutcome.{OneOutcome}
use Rattle.lists.specs.Laws.OneAnswer.{same, ◌&◌}
use Rattle.vectors.specs.contracts as contract
use Rattle.vectors.proofs as fn

pub dot : OneOutcome contract.dot.ended fn.dot.Reads.Post
dot κs args o o' p q = same p q & refl

pub advance : OneOutcome contract.advance.ended fn.advance.Reads.Post
advance κs args o o' p q = cc (p.of_rr, q.of_rr, same p.of_r q.of_r) & refl & same p.of_x q.of_x & same p.of_r q.of_r & refl

pub xpay : OneOutcome contract.xpay.ended fn.xpay.Reads.Post
xpay κs args o o' p q = refl & same p q & refl

pub less : OneOutcome contract.less.ended fn.less.Reads.Post
less κs args o o' p q = refl & same p q & refl

pub copy : OneOutcome contract.copy.ended fn.copy.Reads.Post
copy κs args o o' p q = refl & same p q & refl
