-- No second outcome fits: each public function, in the order of the sources. Assumes nothing.
use mathlib.Core.Path.{◌≡◌, refl}
use mathlib.Core.List.{List}
use Prim.Native.Nat.{ℕ}
use denote.Bor.{Bor}
use lib.Ieee.{Float}
use Rattle.lists.specs.OneOutcome.{OneOutcome, OneOutcomeAmong}
use Rattle.lists.specs.Laws.OneAnswer.{same, ◌&◌}
use Rattle.blur.specs.declared.kernel.Kernel.{Kernel}
use Rattle.blur.specs.contracts as contract
use Rattle.blur.proofs as fn

by_parts : {a b : Kernel} → a.radius ≡ b.radius → a.weights ≡ b.weights → a ≡ b
by_parts radius weights = λ i. record { radius = radius i; weights = weights i }

by_lent : {a b : Bor (List Float)} → a.ref_ptr ≡ b.ref_ptr → a.now ≡ b.now → a ≡ b
by_lent place now = λ i. record { ref_ptr = place i; now = now i }

-- ---- lib.rt

pub blur_all : OneOutcome contract.blur_all.ended fn.blur_all.Reads.Post
blur_all κs args o o' p q = refl & refl & refl & same p.1 q.1 & same p.0 q.0 & refl

-- ---- blur.rt

pub blur_axis : OneOutcome contract.blur.blur_axis.ended fn.blur.blur_axis.Reads.Post
blur_axis κs args o o' p q = refl & refl & refl & same p q & refl

-- ---- kernel.rt

pub kernel_sigma : OneOutcome contract.kernel.Kernel.sigma.ended fn.kernel.Kernel.sigma.Reads.Post
kernel_sigma κs args o o' p q = same p q & refl

pub kernel_radius_of : OneOutcome contract.kernel.Kernel.radius_of.ended fn.kernel.Kernel.radius_of.Reads.Post
kernel_radius_of κs args o o' p q = same p q & refl

pub kernel_new : OneOutcome contract.kernel.Kernel.new.ended fn.kernel.Kernel.new.Reads.Post
kernel_new κs args o o' p q = by_parts (same p.reach q.reach) (same p.all q.all) & refl

-- where the lent slice lies is no part of the answer: of those at one place, no second fits
module _ (place : ℕ × ℕ) where
  pub kernel_weights : OneOutcomeAmong contract.kernel.Kernel.weights.ended (λ κs r. r.ref_ptr ≡ place) fn.kernel.Kernel.weights.Reads.Post
  kernel_weights κs args o o' p q = by_lent (same p.0 q.0) (same p.1 q.1) & refl
