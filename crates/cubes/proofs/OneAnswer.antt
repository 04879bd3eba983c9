-- No second outcome fits: each public function, in the order of the sources. An array of three is told by the place or the face that it holds.
-- Assumes nothing.
use mathlib.Core.Path.{◌≡◌, refl}
use mathlib.Core.List.{List}
use Prim.Native.Nat.{ℕ}
use lib.ListN.{length}
use Rattle.lists.specs.OneOutcome.{OneOutcome, OneOutcomeAmong}
use Rattle.lists.specs.Laws.OneAnswer.{same, ◌&◌, by_three}
use Rattle.closed.proofs.OneAnswer.{by_face}
use Rattle.cubes.specs.Words.{place_of}
use Rattle.cubes.specs.contracts as contract
use Rattle.cubes.proofs as fn

by_place : {a b : List ℕ} → length a ≡ 3 → length b ≡ 3 → place_of a ≡ place_of b → a ≡ b
by_place la lb e = by_three 0 _ _ la lb (λ i. (e i).0) (λ i. (e i).1) (λ i. (e i).2)

-- ---- cube.rt

pub corner : OneOutcomeAmong contract.cube.corner.ended (λ κs r. length r ≡ 3) fn.cube.corner.Reads.Post
corner κs args o o' p q = by_place p.0 q.0 (same p.1 q.1) & refl

pub axis_of : OneOutcome contract.cube.axis_of.ended fn.cube.axis_of.Reads.Post
axis_of κs args o o' p q = same p q & refl

pub low_of : OneOutcome contract.cube.low_of.ended fn.cube.low_of.Reads.Post
low_of κs args o o' p q = same p q & refl

-- ---- rows.rt

pub row_faces : OneOutcome contract.rows.row_faces.ended fn.rows.row_faces.Reads.Post
row_faces κs args o o' p q = same p q & refl

pub row_face : OneOutcomeAmong contract.rows.row_face.ended (λ κs r. length r ≡ 3) fn.rows.row_face.Reads.Post
row_face κs args o o' p q = by_face p.0 q.0 (same p.1 q.1) & refl

-- ---- table.rt

pub triangle_table : OneOutcome contract.table.triangle_table.ended fn.table.triangle_table.Reads.Post
triangle_table κs args o o' p q = same p q & refl
