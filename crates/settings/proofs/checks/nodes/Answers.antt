-- 2 shifted 3·depth places is 8^depth, and at most 8^8.
use Rattle.std.proofs.Common.{ap, arith, refl, suc, sym, zero, ℕ, ◌%◌, ◌*◌, ◌+◌, ◌^◌, ◌∙◌, ◌≡◌, ◌≤◌}
use Rattle.std.proofs.Math.Dec.{lit<}
use Rattle.std.proofs.Math.Nat.{one-mul, pow-succ', pow-le-pow_right}
use Rattle.std.proofs.Math.Pow.{shl_exact}
use Rattle.std.proofs.lemmas.Nat.{pow-add}
use Rattle.settings.proofs.checks.nodes.Goals as goal

-- 2^(3·d) is 8^d
eights : (d : ℕ) → 2 ^ (3 * d) ≡ 8 ^ d
eights zero = refl
eights (suc d) =
    let e : 3 * suc d ≡ 3 + 3 * d = omega arith in
    ap (λ (k : ℕ). 2 ^ k) e ∙ (pow-add 2 3 (3 * d) ∙ (ap (λ (k : ℕ). 8 * k) (eights d) ∙ sym (pow-succ' 8 d)))

exact : (d : ℕ) → d ≤ 8 → (1 * 2 ^ (3 * d)) % 2 ^ 64 ≡ 8 ^ d
exact d h = shl_exact 1 (3 * d) 64 (lit< tt) (omega arith) ∙ (one-mul (2 ^ (3 * d)) ∙ eights d)

most : (d : ℕ) → d ≤ 8 → 8 ^ d ≤ 16777216
most d h = pow-le-pow_right (lit< tt) h

pub returns : goal.returns
returns c = let e = exact c.args.depth c.requires in (e, omega (arith, e, most c.args.depth c.requires))
