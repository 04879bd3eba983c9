-- Whether a rest is taken up, a word of the laws on IEEE 754's roundTiesToEven (proofs/Laws/RoundNearest). Definitions only; assumes nothing.
use Rattle.std.specs.Prelude.{◌≡◌, ℕ, suc, ◌*◌, ◌%◌, ◌≤◌, ◌⊎◌}

abbrev pub Taken : ℕ → ℕ → ℕ → ℕ → Type 0
Taken q u rest c = ((c ≡ q) × (rest * 2 ≤ u) × (rest * 2 ≡ u → q % 2 ≡ 0)) ⊎ ((c ≡ suc q) × (u ≤ rest * 2) × (rest * 2 ≡ u → suc q % 2 ≡ 0))
