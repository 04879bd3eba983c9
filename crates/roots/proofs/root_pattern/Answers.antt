-- The goals of `roots::root_pattern` that need more than the code says: `RootPattern` bounds its numbers, and says that its result is the root's pattern.
-- Assumes nothing.
use Rattle.std.proofs.Common.{ℕ, ◌≡◌, ◌+◌, ◌-◌, ◌*◌, ◌/◌, ◌^◌, ◌≤◌, ◌<◌, sym, subst, arith}
use Rattle.std.proofs.Math.Pow.{pow_mono}
use Rattle.std.specs.Float.Ieee.{prec, emax, hid, ones, of_bits}
use Rattle.numbers.specs.Arithmetic.{rooted}
use Rattle.numbers.specs.Laws.Squares.{IsRoot}
use Rattle.numbers.specs.Laws.Patterns.{expo}
use Rattle.numbers.proofs.Laws.RootPattern.{sizes, known, root_pattern}
use Rattle.numbers.specs.Laws.RootPattern.{Sizes, Known, power, wide}
use Rattle.roots.specs.Words.{IsFormat, RootOf}
use Rattle.roots.proofs.root_pattern.Goals as goal

-- what the `requires` says of p and e
of_format : {p e b : ℕ} → IsFormat p e b → Sizes p e
of_format {p} {e} i = subst (λ (y : ℕ). Sizes p y) (sym i.reach) (subst (λ (y : ℕ). Sizes y (emax i.format)) (sym i.digits) (sizes i.format))

-- the pattern that the code makes of its numbers
abbrev made : ℕ → ℕ → ℕ → ℕ → ℕ → ℕ
made p e k m r = power p e k m / 2 * 2 ^ (p - 1) + (r + 1) / 2

-- the law, at any format whose numbers p and e are
meets : (p e b k s r g : ℕ) → IsFormat p e b → k ≡ expo p b → s ≡ k * 2 ^ (p - 1) → IsRoot (wide p e k (b - s) * 2 ^ (p + 1)) r
    → g ≡ power p e k (b - s) / 2 * 2 ^ (p - 1) → RootOf p e b (g + (r + 1) / 2)
meets p e b k s r g i ke se is ge f dp de = subst (λ (y : ℕ). Right (y + (r + 1) / 2)) (sym ge) (at p e dp de i.above i.finite ke se is)
  where
    Right : ℕ → Type 0
    Right y = (of_bits f y ≡ rooted f (of_bits f b)) × (y < ones f * hid f)

    Goal : ℕ → ℕ → Type 0
    Goal p e = 0 < b → b < (2 * e + 1) * 2 ^ (p - 1) → k ≡ expo p b → s ≡ k * 2 ^ (p - 1) → IsRoot (wide p e k (b - s) * 2 ^ (p + 1)) r → Right (made p e k (b - s) r)

    at : (p e : ℕ) → p ≡ prec f → e ≡ emax f → Goal p e
    at p e dp de = subst (λ (y : ℕ). Goal p y) (sym de) (subst (λ (y : ℕ). Goal y (emax f)) (sym dp) (root_pattern f b k s r))

-- of k and of k shifted
at_shifted : {p e b k s : ℕ} → IsFormat p e b → k ≡ expo p b → s ≡ k * 2 ^ (p - 1) → Known p e b k s
at_shifted {p} {e} {b} {k} {s} i ke se = known p e b k s (of_format i) i.above i.finite ke se

pub overflow_sub-z : goal.overflow_sub-z
overflow_sub-z c = (at_shifted c.requires c.saturating_sub-k.ensures c.shifted.ensures).shift.enough

pub shifted-requires-2 : goal.shifted-requires-2
shifted-requires-2 c =
    let z = of_format c.requires in
    let k = at_shifted c.requires c.saturating_sub-k.ensures c.shifted.ensures in
    (omega (arith, k.wide_under, pow_mono {j = 60} (let x : c.args.p + 1 ≤ 60 = omega arith in x)), omega (arith, k.shift.few))

pub whole_root-r-requires : goal.whole_root-r-requires
whole_root-r-requires c =
    let p = c.args.p in
    let k = at_shifted c.requires c.saturating_sub-k.ensures c.shifted.ensures in
    let z = of_format c.requires in
    let e = sym c.shifted-2.ensures in
    (subst (λ (y : ℕ). y < 2 ^ (p + 1)) e k.wide_under, subst (λ (y : ℕ). 2 ^ (p + 1) ≤ 4 * y) e k.wide_over, omega arith, omega arith)

pub returns : goal.returns
returns c =
    let a = c.args in
    let at-root = subst (λ (y : ℕ). IsRoot (y * 2 ^ (a.p + 1)) c.whole_root-r.result) c.shifted-2.ensures c.whole_root-r.ensures in
    meets a.p a.e a.b c.saturating_sub-k.result c.shifted.result c.whole_root-r.result c.shifted-3.result c.requires c.saturating_sub-k.ensures c.shifted.ensures at-root c.shifted-3.ensures
