-- `field::splat::add_point` meets its contract. The loop's invariant: the first c corners are added.
-- Assumes nothing.
use Rattle.std.proofs.Common.{◌≡◌, length}
use Rattle.field.specs.Field.{corners_added}
use Rattle.field.proofs.splat.add_point.Given as goal

abbrev pub invariant-loop-c : goal.invariant-loop-c
invariant-loop-c l = (l.v ≡ corners_added l.g.nodes l.cell l.u l.c l.initial.v) × (length l.v ≡ length l.initial.v)
