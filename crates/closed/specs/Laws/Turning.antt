-- How often a face passes from one number to another, a word of the laws on turned faces (proofs/Laws/Turning). Definitions only; assumes nothing.
use Rattle.std.specs.Prelude.{ℕ, ◌+◌}
use Rattle.closed.specs.Lists.{bit}
use Rattle.closed.specs.Faces.{Face, face, pair}

abbrev pub passes : ℕ → ℕ → Face → ℕ
passes a b (face x y z) = bit (pair a b x y) + bit (pair a b y z) + bit (pair a b z x)
