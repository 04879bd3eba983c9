-- `blur::blur::moved` meets its contract: what the machine computes in i32 is the place itself (`Offset`), and its tests are those of `Moved`.
-- Assumes nothing.
use Rattle.std.proofs.Common.{refl, sym, ap, ◌∙◌, ◌≤◌, ◌<◌, ◌+◌, ◌-◌, ltb-true, ltb-false, nat_abs}
use Rattle.std.specs.Prelude.{Some}
use Rattle.blur.proofs.Offset.{place_at, below_zero, below_end}
use Rattle.blur.proofs.Moved.{moved_inside, moved_before, moved_past}
use Rattle.blur.proofs.blur.moved.Goals as goal

pub returns-then-at-lt0 : goal.returns-then-at-lt0
returns-then-at-lt0 c = sym (moved_before c.args.n c.args.radius c.args.place c.args.t (ltb-true (c.args.place + c.args.t) c.args.radius (sym (below_zero c.args.place c.args.t c.args.radius c.requires.0 c.requires.1 c.requires.2) ∙ c.if-at-lt0.true)))

pub returns-then-at-n : goal.returns-then-at-n
returns-then-at-n c =
    let ge : c.args.radius ≤ c.args.place + c.args.t = ltb-false (c.args.place + c.args.t) c.args.radius (sym (below_zero c.args.place c.args.t c.args.radius c.requires.0 c.requires.1 c.requires.2) ∙ c.if-at-lt0.false) in
    let lt : c.args.place + c.args.t - c.args.radius < c.args.n = ltb-true (c.args.place + c.args.t - c.args.radius) c.args.n (sym (below_end c.args.place c.args.t c.args.radius c.requires.0 c.requires.1 c.requires.2 c.args.n c.requires.3 ge) ∙ c.if-at-n.true) in
    ap (λ z. Some (nat_abs z)) (place_at c.args.place c.args.t c.args.radius c.requires.0 c.requires.1 c.requires.2 ge) ∙ sym (moved_inside c.args.n c.args.radius c.args.place c.args.t ge refl lt)

pub returns-else-at-n : goal.returns-else-at-n
returns-else-at-n c =
    let ge : c.args.radius ≤ c.args.place + c.args.t = ltb-false (c.args.place + c.args.t) c.args.radius (sym (below_zero c.args.place c.args.t c.args.radius c.requires.0 c.requires.1 c.requires.2) ∙ c.if-at-lt0.false) in
    let past : c.args.n ≤ c.args.place + c.args.t - c.args.radius = ltb-false (c.args.place + c.args.t - c.args.radius) c.args.n (sym (below_end c.args.place c.args.t c.args.radius c.requires.0 c.requires.1 c.requires.2 c.args.n c.requires.3 ge) ∙ c.if-at-n.false) in
    sym (moved_past c.args.n c.args.radius c.args.place c.args.t past)
