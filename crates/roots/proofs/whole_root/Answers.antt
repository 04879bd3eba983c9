-- The goals of `roots::whole_root` that need more than the code says: `RootDivide` has its numbers. Assumes nothing.
use Rattle.std.proofs.Common.{ℕ, ◌≡◌, ◌+◌, ◌-◌, ◌*◌, ◌/◌, ◌%◌, ◌^◌, ◌<◌, ◌≤◌, sym, subst, arith}
use Rattle.numbers.specs.Laws.Squares.{IsRoot}
use Rattle.numbers.proofs.Laws.RootDivide.{split_of, top_lt, rest_lt, lower_lt, q_le, over_small, square_small, exact, less, product_lt}
use Rattle.numbers.specs.Laws.RootDivide.{Split}
use Rattle.roots.proofs.whole_root.Goals as goal

-- what the numbers are, where the upper half s of the root of t is known
at_root : (x h t s : ℕ) → (x < 2 ^ h) × (2 ^ h ≤ 4 * x) × (2 ≤ h) × (h ≤ 54) → t ≡ x * 2 ^ (h % 2) → IsRoot t s → Split (x * 2 ^ h) t s (2 ^ (h / 2))
at_root x h t s p e root =
    subst (λ (y : ℕ). Split (x * 2 ^ h) y s (2 ^ (h / 2))) (sym e)
    (split_of x h s p.0 p.1 p.2 p.3 (subst (λ (y : ℕ). IsRoot y s) e root))

pub shifted-t-requires : goal.shifted-t-requires
shifted-t-requires c = (omega (arith, top_lt c.args.x c.args.h c.requires.0 c.requires.3), omega arith)

pub small_root-s-requires : goal.small_root-s-requires
small_root-s-requires c = (subst (λ (y : ℕ). y < 2 ^ 54) (sym c.shifted-t.ensures) (top_lt c.args.x c.args.h c.requires.0 c.requires.3), omega arith, omega arith)

pub shifted-rest-requires : goal.shifted-rest-requires
shifted-rest-requires c =
    let k = at_root c.args.x c.args.h c.shifted-t.result c.small_root-s.result c.requires c.shifted-t.ensures c.small_root-s.ensures in
    (omega (arith, rest_lt _ _ _ _ k), omega arith)

pub overflow_add-r : goal.overflow_add-r
overflow_add-r c =
    let k = at_root c.args.x c.args.h c.shifted-t.result c.small_root-s.result c.requires c.shifted-t.ensures c.small_root-s.ensures in
    omega (arith, lower_lt _ _ _ _ k, q_le _ _ _ _ k c.shifted-rest.result c.shifted-rest.ensures, k.small, c.shifted.ensures)

pub overflow_mul-q-2 : goal.overflow_mul-q-2
overflow_mul-q-2 c =
    let k = at_root c.args.x c.args.h c.shifted-t.result c.small_root-s.result c.requires c.shifted-t.ensures c.small_root-s.ensures in
    omega (arith, square_small _ _ _ _ k c.shifted-rest.result c.shifted-rest.ensures)

pub shifted-requires-2 : goal.shifted-requires-2
shifted-requires-2 c =
    let k = at_root c.args.x c.args.h c.shifted-t.result c.small_root-s.result c.requires c.shifted-t.ensures c.small_root-s.ensures in
    (omega (arith, over_small _ _ _ _ k c.shifted-rest.result c.shifted-rest.ensures, product_lt _ _ _ _ k), omega arith)

pub returns-then-q-shifted : goal.returns-then-q-shifted
returns-then-q-shifted c =
    let k = at_root c.args.x c.args.h c.shifted-t.result c.small_root-s.result c.requires c.shifted-t.ensures c.small_root-s.ensures in
    subst (λ (y : ℕ). IsRoot (c.args.x * 2 ^ c.args.h) (y + c.shifted-rest.result / (c.small_root-s.result * 2))) (sym c.shifted.ensures)
    (exact _ _ _ _ k c.shifted-rest.result c.shifted-rest.ensures (omega (arith, c.if-q-shifted.true, c.shifted-2.ensures)))

pub returns-else-q-shifted : goal.returns-else-q-shifted
returns-else-q-shifted c =
    let k = at_root c.args.x c.args.h c.shifted-t.result c.small_root-s.result c.requires c.shifted-t.ensures c.small_root-s.ensures in
    subst (λ (y : ℕ). IsRoot (c.args.x * 2 ^ c.args.h) (y + c.shifted-rest.result / (c.small_root-s.result * 2) - 1)) (sym c.shifted.ensures)
    (less _ _ _ _ k c.shifted-rest.result c.shifted-rest.ensures (omega (arith, c.if-q-shifted.false, c.shifted-2.ensures)))
