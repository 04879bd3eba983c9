-- Places and pairs as code holds them, in arrays of three and of two. Definitions only; assumes nothing.
use Rattle.std.specs.Prelude.{List, ℕ, get_or}

abbrev pub place_of : List ℕ → ℕ × ℕ × ℕ
place_of l = (get_or l 0 0, get_or l 1 0, get_or l 2 0)

abbrev pub pair_of : List ℕ → ℕ × ℕ
pair_of l = (get_or l 0 0, get_or l 1 0)
