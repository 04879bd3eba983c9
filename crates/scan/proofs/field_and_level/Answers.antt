-- Each stage is given what it asks by the one before, in fronts of just N elements, and what is left is put together by PutTogether.
use Rattle.std.proofs.Common.{ℕ, List, Float, refl, sym, ap, ap₂, ◌∙◌, ◌++◌, drop, arith}
use Rattle.std.proofs.lemmas.List.{take_at, length-append}
use Rattle.lists.specs.Lists.{zeros32}
use Rattle.points.specs.Points.{usables}
use Rattle.surface.specs.Surface.{level_of}
use Rattle.scan.specs.Laws.FieldLength.{cubed}
use Rattle.scan.proofs.ExactParts.{front_length}
use Rattle.scan.proofs.PutTogether.{nodes_cubed, field_is, grid_is, level_is}
use Rattle.scan.proofs.field_and_level.Goals as goal

pub solve-requires-clause-level_slices : goal.solve-requires-clause-level_slices
solve-requires-clause-level_slices c =
    let n = sym (cubed c.args.settings.depth) in
    let e = c.nodes-n.ensures.0 in
    let lent = c.requires.lent in record {
      of_x = front_length _ e lent.room0 ∙ n;
      of_b = front_length _ e lent.room2 ∙ n;
      of_s = front_length _ e lent.room3 ∙ n;
      of_r = front_length _ e lent.room4 ∙ n;
      of_p = front_length _ e lent.room5 ∙ n;
      of_ap = front_length _ e lent.room6 ∙ n;
    }

pub solve-requires-clause-before_len : goal.solve-requires-clause-before_len
solve-requires-clause-before_len c =
    front_length _ c.nodes-n.ensures.0 c.requires.lent.room1 ∙ sym (cubed c.args.settings.depth)

pub level_of-requires-clause-room : goal.level_of-requires-clause-room
level_of-requires-clause-room c =
    let over = nodes_cubed c.requires.bounds_value.1 in
    let x = c.solve.auto.x ∙ front_length _ c.nodes-n.ensures.0 c.requires.lent.room0 in
    omega (arith, over, x, length-append c.solve.new.x (drop c.nodes-n.result c.args.grids.now.s0.now))

pub returns-clause-solved : goal.returns-clause-solved
returns-clause-solved c =
    let ps = usables c.args.points.now in
    let e = c.nodes-n.ensures.0 in
    let over = nodes_cubed c.requires.bounds_value.1 in
    let x = c.solve.auto.x ∙ front_length _ e c.requires.lent.room0 ∙ sym over in
    let front = take_at c.solve.new.x (drop c.nodes-n.result c.args.grids.now.s0.now) _ x in
    let level = c.level_of.ensures ∙ ap (λ (v : List Float). level_of c.args.g v ps c.args.settings.iso_offset) front in
    let eight = ap zeros32 (cubed c.args.settings.depth) in
    let beside = λ (s : List Float). ap (λ (n : ℕ). drop n s) e in
    let field = field_is ps c.args.settings c.requires.bounds_value.0 c.origin-origin.ensures c.side.ensures
    c.extent.ensures c.spacing-spacing.ensures.0 refl refl refl c.solve.ensures.of_x in
    record {
      level_is = level_is ps c.args.settings (grid_is ps c.args.settings c.requires.bounds_value.0 c.requires.bounds_value.1) field level;
      field = ap₂ ◌++◌ field (beside _);
      zero1 = ap₂ ◌++◌ (c.solve.ensures.of_before ∙ eight) (beside _);
      zero2 = ap₂ ◌++◌ (c.solve.ensures.of_b ∙ eight) (beside _);
      zero3 = ap₂ ◌++◌ (c.solve.ensures.of_s ∙ eight) (beside _);
      zero4 = ap₂ ◌++◌ (c.solve.ensures.of_r ∙ eight) (beside _);
      zero5 = ap₂ ◌++◌ (c.solve.ensures.of_p ∙ eight) (beside _);
      zero6 = ap₂ ◌++◌ (c.solve.ensures.of_ap ∙ eight) (beside _);
      no_distances = c.spacing-spacing.ensures.1;
    }
