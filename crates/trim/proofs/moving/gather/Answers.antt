-- `trim::moving::gather`: before vertex v the coordinates of the vertices before it are carried, and the turn carries one more (`one_more`). Assumes
-- nothing.
use Rattle.std.proofs.Common.{List, ℕ, ◌≡◌, refl, sym, ap, ◌∙◌, ◌+◌, add-one, get_or, Float}
use Rattle.meshes.specs.FlatMesh.{coordinate}
use Rattle.trim.specs.Words.{carried, gathered}
use Rattle.trim.proofs.Lines.{same_yet, then_same}
use Rattle.trim.proofs.moving.gather.Goals as goal

one_more : (table : List ℕ) (vertices line : List Float) (axis v : ℕ)
    → gathered table vertices axis line (v + 1) ≡ carried (gathered table vertices axis line v) (get_or table v 0) (coordinate vertices v axis)
unfolding gathered
one_more table vertices line axis v = rw add-one refl

pub loop-v-init : goal.loop-v-init
unfolding gathered
loop-v-init c = (same_yet c.args.lines.now, refl)

pub loop-v-preserved : goal.loop-v-preserved
loop-v-preserved c = (
  then_same c.loop-v.invariant.0 c.carry.ensures.same,
  c.carry.ensures.carried
      ∙ ap (λ (l : List Float). carried l (get_or c.args.table.now c.loop-v.v 0) (coordinate c.args.vertices.now c.loop-v.v c.args.axis)) c.loop-v.invariant.1
      ∙ sym (one_more _ _ _ _ _),
)
