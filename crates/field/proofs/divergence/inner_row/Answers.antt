-- `field::divergence::inner_row` meets its contract. The loop's invariant: the first k elements of `b` are the row's.
-- Assumes nothing.
use Rattle.std.proofs.Common.{◌≡◌, refl, ◌∙◌, subst, ℕ, ◌-◌, ◌+◌, length, take, set, length-set, arith}
use Rattle.lists.specs.Lists.{tabulate, zero32}
use Rattle.lists.specs.Laws.Prefix.{prefix_none, prefix_more, prefix_done}
use Rattle.grid.specs.Laws.Rows.{first_end, last_end}
use Rattle.field.specs.Words.{row_at}
use Rattle.field.proofs.RightSide.{at_ends, between}
use Rattle.field.proofs.divergence.inner_row.Goals as goal

pub loop-k-init : goal.loop-k-init
loop-k-init c =
    let f = row_at (length c.args.b.now) c.args.h c.args.x.now c.args.y.now c.args.z.now c.args.first.0 in
    (prefix_more f 0 c.args.b.now (prefix_none f c.args.b.now) (omega arith) (at_ends (length c.args.b.now) _ _ _ _ c.args.first.0 0 (first_end (length c.args.b.now))), length-set c.args.b.now 0 _, omega arith, omega arith, refl)

pub loop-k-preserved : goal.loop-k-preserved
loop-k-preserved c =
    let n = length c.args.b.now in
    let f = row_at n c.args.h c.args.x.now c.args.y.now c.args.z.now c.args.first.0 in (
      prefix_more f c.loop-k.k c.loop-k.b c.loop-k.invariant.0 (omega arith) (between n _ _ _ _ c.args.first.0 c.loop-k.k (omega arith) (omega arith) c.inner.ensures c.after.ensures),
      length-set c.loop-k.b c.loop-k.k _ ∙ c.loop-k.invariant.1,
      omega arith,
      omega arith,
      refl,
    )

pub returns : goal.returns
returns c =
    let n = length c.args.b.now in
    let f = row_at n c.args.h c.args.x.now c.args.y.now c.args.z.now c.args.first.0 in
    let last : c.loop-k.k ≡ n - 1 = omega arith in
    let all : n - 1 + 1 ≡ n = omega arith in
    let written = rw last at c.loop-k.invariant.0 in
    let row = prefix_more f (n - 1) c.loop-k.b written (omega arith) (at_ends n _ _ _ _ c.args.first.0 (n - 1) (last_end n)) in
    prefix_done f n _ (subst (λ (m : ℕ). take m (set c.loop-k.b (n - 1) zero32) ≡ tabulate m f) all row) (length-set c.loop-k.b (n - 1) _ ∙ c.loop-k.invariant.1)
