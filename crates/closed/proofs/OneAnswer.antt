-- No second outcome fits: the public function. An array of three is told by the face that it holds. Assumes nothing.
use mathlib.Core.Path.{◌≡◌, refl}
use mathlib.Core.List.{List}
use Prim.Native.Nat.{ℕ}
use lib.ListN.{length}
use Rattle.lists.specs.OneOutcome.{OneOutcomeAmong}
use Rattle.lists.specs.Laws.OneAnswer.{same, ◌&◌, by_three}
use Rattle.closed.specs.Faces.{face_of}
use Rattle.closed.specs.contracts as contract
use Rattle.closed.proofs as fn

pub by_face : {a b : List ℕ} → length a ≡ 3 → length b ≡ 3 → face_of a ≡ face_of b → a ≡ b
by_face la lb e = by_three 0 _ _ la lb (cc) (cc) (cc)

pub turned : OneOutcomeAmong contract.turned.ended (λ κs r. length r ≡ 3) fn.turned.Reads.Post
turned κs args o o' p q = by_face p.0 q.0 (same p.1 q.1) & refl
