-- Whether a length is short from some place on, is whether one is from the start: that is the invariant, and at each turn one length is looked at.
use Rattle.std.proofs.Common.{Bool, List, ap, arith, false, length, lt-ltb, sym, ℕ, ◌+◌, ◌<◌, ◌||◌, ◌∙◌, ◌≡◌, ◌≤◌, le-ltb}
use Rattle.std.proofs.Math.Numerals.{add-one}
use Rattle.std.proofs.Math.Dec.{ltb}
use Rattle.std.proofs.Math.ListN.{get_or, drop, drop_of_length-le}
use Rattle.std.proofs.Math.Seq.{drop-cons}
use Rattle.settings.specs.Refusals.{any_short}
use Rattle.settings.proofs.checks.any_short.Goals as goal

-- the length at i, and those after it
one_more : (n i : ℕ) (ls : List ℕ) → i < length ls → any_short n (drop i ls) ≡ ltb (get_or ls i 0) n || any_short n (drop (i + 1) ls)
unfolding any_short
one_more n i ls h = ap (any_short n) (drop-cons ls i 0 h) ∙ ap (λ (m : ℕ). ltb (get_or ls i 0) n || any_short n (drop m ls)) (sym (add-one i))

none_left : (n i : ℕ) (ls : List ℕ) → length ls ≤ i → any_short n (drop i ls) ≡ false
unfolding any_short
none_left n i ls h = ap (any_short n) (drop_of_length-le ls h)

pub returns-then-length-n : goal.returns-then-length-n
returns-then-length-n c =
    let n = c.args.n in
    let ls = c.args.grids in
    let i = c.loop-length.length-index in
    sym (sym c.loop-length.invariant ∙ one_more n i ls (omega (arith, c.loop-length-test.true)) ∙ ap (λ (b : Bool). b || any_short n (drop (i + 1) ls)) (lt-ltb _ _ c.if-length-n.true))

pub loop-length-preserved : goal.loop-length-preserved
loop-length-preserved c =
    let n = c.args.n in
    let ls = c.args.grids in
    let i = c.loop-length.length-index in
    sym (one_more n i ls (omega (arith, c.loop-length-test.true)) ∙ ap (λ (b : Bool). b || any_short n (drop (i + 1) ls)) (le-ltb _ _ c.if-length-n.false)) ∙ c.loop-length.invariant

pub returns : goal.returns
returns c = sym (sym c.loop-length.invariant ∙ none_left c.args.n c.loop-length.length-index c.args.grids (omega (arith, c.loop-length-test.false)))
