-- The goals of `roots::root`: by the tests x is finite and above zero, the infinity, a zero, or none of these (`RootCases`), and the
-- first has `root_pattern`'s pattern. The laws of `Real` say of the numbers what the tests say of the type's values. Assumes nothing.
use Rattle.std.proofs.Common.{◌≡◌, ℕ, ◌+◌, ◌-◌, ◌*◌, ◌^◌, ◌<◌, Bool, false, pos, refl, sym, ap, ◌∙◌, subst}
use Rattle.std.specs.Float.{Format, binary32, binary64, inf, fin}
use Rattle.std.specs.Float.Ieee.{lt, eq, prec, emax, ones, hid, of_bits}
use Rattle.std.specs.Float.Ieee.Bits.{of_bits-to_bits}
use Rattle.std.specs.Ordering.{partial_lt}
use Rattle.numbers.specs.Arithmetic.{rooted}
use Rattle.numbers.proofs.Laws.Comparing.{holds}
use Rattle.numbers.proofs.Laws.RootCases.{positive_of, infinite_of, zero_of, other_of, pattern_of}
use Rattle.roots.specs.Words.{IsFormat}
use Rattle.roots.proofs.root.Given.{Over}
use Rattle.roots.proofs.root.Goals as goal

-- what a test, which gave b, says of the number of x
module _ (g : Over) (x : g.row.T.Denot) {b : Bool} {k : g.row.T.Denot} where
  above_zero : b ≡ partial_lt g.T.PartialOrd.partial_cmp k x → k ≡ g.T.Real.ZERO → lt (fin false 0 (pos 0)) (g.T.Real.value x) ≡ b
  above_zero given is = sym (given ∙ g.met.T.Real.less k x ∙ ap (λ z. lt z (g.T.Real.value x)) (ap g.T.Real.value is ∙ g.met.T.Real.zero_value))

  below_infinity : b ≡ partial_lt g.T.PartialOrd.partial_cmp x k → k ≡ g.T.Real.INFINITY → lt (g.T.Real.value x) (inf false) ≡ b
  below_infinity given is = sym (given ∙ g.met.T.Real.less x k ∙ ap (lt (g.T.Real.value x)) (ap g.T.Real.value is ∙ g.met.T.Real.infinity_value))

  at_zero : b ≡ g.T.PartialEq.eq x k → k ≡ g.T.Real.ZERO → eq (g.T.Real.value x) (fin false 0 (pos 0)) ≡ b
  at_zero given is = sym (given ∙ g.met.T.Real.equal x k ∙ ap (eq (g.T.Real.value x)) (ap g.T.Real.value is ∙ g.met.T.Real.zero_value))

-- a pattern between 0 and the infinity's is one that `root_pattern` takes
taken : (f : Format) {p e b : ℕ} → p ≡ prec f → e ≡ emax f → 0 < b → b < ones f * hid f → IsFormat p e b
taken f {p} {e} {b} dp de above below =
    record { format = f; digits = dp; reach = de; above = above; finite = rw (dp, de, sym (infinity f)) below }
  where
    infinity : (f : Format) → ones f * hid f ≡ (2 * emax f + 1) * 2 ^ (prec f - 1)
    infinity binary32 = refl
    infinity binary64 = refl

pub root_pattern-requires : goal.root_pattern-requires
root_pattern-requires g c =
    let f = g.T.Real.format in
    let m = g.met.T.Real in
    let positive = positive_of _ (above_zero g c.args.x c.if-lt.ensures c.ZERO.ensures) (below_infinity g c.args.x c.if-lt-2.ensures c.INFINITY.ensures) in
    let b = pattern_of f _ (holds c.pattern.ensures.held) positive in
    let at = sym c.pattern.ensures.value in
    taken f (c.DIGITS.ensures ∙ m.digits) (c.LARGEST_EXPONENT.ensures ∙ m.largest_exponent) (subst (λ (y : ℕ). 0 < y) at b.0) (subst (λ (y : ℕ). y < ones f * hid f) at b.1)

pub returns-then-lt-2 : goal.returns-then-lt-2
returns-then-lt-2 g c =
    let f = g.T.Real.format in
    let m = g.met.T.Real in
    let root = c.root_pattern.ensures f (c.DIGITS.ensures ∙ m.digits) (c.LARGEST_EXPONENT.ensures ∙ m.largest_exponent) in
    c.of_pattern.ensures ∙ root.0 ∙ ap (rooted f) (ap (of_bits f) c.pattern.ensures.value ∙ of_bits-to_bits f _ (holds c.pattern.ensures.held))

pub returns-then-lt : goal.returns-then-lt
returns-then-lt g c = infinite_of _ _ (above_zero g c.args.x c.if-lt.ensures c.ZERO.ensures) (below_infinity g c.args.x c.if-lt-2.ensures c.INFINITY.ensures)

pub returns-then-eq : goal.returns-then-eq
returns-then-eq g c = zero_of _ _ (at_zero g c.args.x c.if-eq.ensures c.ZERO-2.ensures)

pub returns-else-eq : goal.returns-else-eq
returns-else-eq g c =
    ap g.T.Real.value c.NAN.ensures ∙ g.met.T.Real.nan_value ∙ other_of _ _ (above_zero g c.args.x c.if-lt.ensures c.ZERO.ensures) (at_zero g c.args.x c.if-eq.ensures c.ZERO-2.ensures)
