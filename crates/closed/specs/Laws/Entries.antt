-- What a row is as a program reads it: whole triples, at most five, of edges below 12. proofs/Laws/Entries proves it of all rows. Definitions only; assumes
-- nothing.
use Rattle.std.specs.Prelude.{◌≡◌, List, ℕ, ◌*◌, ◌≤◌, ◌<◌, length, get_or}
use Rattle.closed.specs.Faces.{faces}

pub record RightRow (r : List ℕ) : Type 0 where
  pub thirds : length r ≡ 3 * length (faces r)
  pub fits : length r ≤ 15
  pub edges : (t : ℕ) → t < length r → get_or r t 0 < 12
