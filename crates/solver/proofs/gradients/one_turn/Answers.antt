-- `solver::one_turn` meets its contract: its two tests are those of `stops`, and its update is `next` (Steps); where alpha is NaN any number of further
-- steps gives the same (NanRun). Assumes nothing.
use Rattle.std.proofs.Common.{sym, ap, ◌∙◌, true}
use Rattle.numbers.proofs.Laws.NanTest.{nan_of}
use Rattle.solver.specs.Solver.{State}
use Rattle.solver.specs.Runs.{state_of}
use Rattle.solver.proofs.Steps.{some_node, steps_stop, low_stops, pap_stops, stepped, nan_done}
use Rattle.solver.proofs.gradients.one_turn.Goals as goal

pub returns-then-root-limit-clause-turned : goal.returns-then-root-limit-clause-turned
returns-then-root-limit-clause-turned c =
    let s = state_of c.args.run.now c.args.rr in
    λ k. ap (λ (t : State). t.x) (steps_stop c.args.g c.args.limit k s (low_stops c.args.g c.args.limit s c.root.ensures c.if-root-limit.true))

pub returns-then-pap-clause-turned : goal.returns-then-pap-clause-turned
returns-then-pap-clause-turned c =
    let s = state_of c.args.run.now c.args.rr in
    let stop = pap_stops c.args.g c.args.limit s true c.root.ensures c.if-root-limit.false c.apply.ensures c.dot-pap.ensures c.if-pap.true in
    λ k. ap (λ (t : State). t.x) (steps_stop c.args.g c.args.limit k s stop)

pub returns-then-is_nan-clause-turned : goal.returns-then-is_nan-clause-turned
returns-then-is_nan-clause-turned c =
    let s = state_of c.args.run.now c.args.rr in
    let t =
    stepped c.args.g c.args.limit s c.root.ensures c.if-root-limit.false c.apply.ensures c.dot-pap.ensures c.if-pap.false c.narrow-alpha.ensures
    c.update-rr_new.ensures.updated in
    let alpha = nan_of c.narrow-alpha.result (sym c.is_nan.ensures.value ∙ c.if-is_nan.true) in
    nan_done c.args.g c.args.limit s (some_node c.args.g c.requires.sides) t.0 (sym alpha ∙ t.1) t.2

pub returns-clause-turned : goal.returns-clause-turned
returns-clause-turned c =
    let s = state_of c.args.run.now c.args.rr in
    let t =
    stepped c.args.g c.args.limit s c.root.ensures c.if-root-limit.false c.apply.ensures c.dot-pap.ensures c.if-pap.false c.narrow-alpha.ensures
    c.update-rr_new.ensures.updated in
    (t.0, t.2)
