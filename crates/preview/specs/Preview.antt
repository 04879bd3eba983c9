-- Document 01, "The preview program": hexadecimal as it is printed, and the calls that a sheet can ask for. Definitions only; assumes nothing.
use Rattle.std.specs.Prelude.{◌≡◌, List, [], ◌∷◌, ◌++◌, ℕ, zero, suc, ◌/◌, ◌%◌, ◌≤◌, ◌<◌, length, get_or, Float}
use Rattle.points.specs.Points.{numbers_per_point, given}
use Rattle.settings.specs.declared.Settings.{Settings}

-- ---- "eight-digit upper-case hex"

-- the characters 0 to 9 and A to F
abbrev pub hex_characters : List ℕ
hex_characters = 48 ∷ 49 ∷ 50 ∷ 51 ∷ 52 ∷ 53 ∷ 54 ∷ 55 ∷ 56 ∷ 57 ∷ 65 ∷ 66 ∷ 67 ∷ 68 ∷ 69 ∷ 70 ∷ []

-- that of a digit below 16
unfoldable pub hex_digit : ℕ → ℕ
hex_digit d = get_or hex_characters d 0

-- n in so many digits, most significant first
unfoldable pub in_hex : (digits n : ℕ) → List ℕ
in_hex zero n = []
in_hex (suc k) n = in_hex k (n / 16) ++ (hex_digit (n % 16) ∷ [])

-- ---- "depth 3 and up to 256 points"

-- what the call is asked: whole points, and no depth from 4 to 8
pub record Previewed (xs : List Float) (st : Settings) : Type 0 where
  pub whole : length xs % numbers_per_point ≡ 0
  pub few : given xs ≤ 256
  pub not_deep : 4 ≤ st.depth → 8 < st.depth
