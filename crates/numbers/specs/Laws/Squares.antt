-- The number r that is √n cut to a whole number: r * r ≤ n < (r + 1) * (r + 1). The laws on it are in proofs/Laws/Squares. Definitions only; assumes
-- nothing.
use Rattle.std.specs.Prelude.{ℕ, ◌+◌, ◌*◌, ◌<◌, ◌≤◌}

abbrev pub IsRoot : ℕ → ℕ → Type 0
IsRoot n r = (r * r ≤ n) × (n < (r + 1) * (r + 1))
