-- The field and the level as the stages leave them; the values are handed over.
use Rattle.std.proofs.Common.{ap, ◌∙◌, Float, List, length, arith}
use Rattle.lists.specs.Lists.{zero32, zeros32, padded}
use Rattle.scan.specs.FieldAlone.{field_answer}
use Rattle.scan.proofs.ExactParts.{solved_lengths}
use Rattle.scan.proofs.PutTogether.{nodes_cubed, front_field}
use Rattle.field_call.proofs.solve_field.Goals as goal

pub hand_over_front-requires : goal.hand_over_front-requires
hand_over_front-requires c =
    let nodes = c.len.ensures ∙ nodes_cubed c.make_grid-g.ensures in
    ((front_field c.field_and_level-level.ensures.solved nodes).0, omega (arith, nodes, c.requires.depth_in_bounds))

pub returns-clause-same : goal.returns-clause-same
returns-clause-same c = (c.field_and_level-level.ensures.same, solved_lengths c.requires.lent c.field_and_level-level.ensures.solved)

pub returns-clause-answered : goal.returns-clause-answered
unfolding field_answer
returns-clause-answered c =
    λ i. record { number = 0; usable = c.usable_count.ensures i; vertices = 0; faces = 0; level = c.field_and_level-level.ensures.solved.level_is i; low = zeros32 3; high = zeros32 3 }

pub returns-clause-values : goal.returns-clause-values
returns-clause-values c =
    let field = (front_field c.field_and_level-level.ensures.solved (c.len.ensures ∙ nodes_cubed c.make_grid-g.ensures)).1 in
    c.hand_over_front.ensures ∙ ap (λ (l : List Float). padded zero32 (length c.args.field.now) l) field
