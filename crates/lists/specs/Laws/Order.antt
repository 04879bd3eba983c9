-- A number is below another or it is not: what a proof goes by cases on, index by index. Assumes nothing.
use Rattle.std.specs.Prelude.{◌≡◌, ◌⊎◌, ℕ, ◌-◌, ◌<◌, ◌≤◌}
use Rattle.std.proofs.Common.{inl, inr, ⊎_elim, eq-zero-or-pos, arith}

pub lt_or_le : (k e : ℕ) → (k < e) ⊎ (e ≤ k)
lt_or_le k e = ⊎_elim (λ (z : e - k ≡ 0). inr (omega arith)) (λ (p : 0 < e - k). inl (omega arith)) (eq-zero-or-pos (e - k))
