-- Document 01, "Arithmetic": what "the greatest whole number not above x" and "the least whole number not below x" say of a result r.
-- The order is that of the numbers, in which -0 and +0 are one. Definitions only; assumes nothing.
use Rattle.std.specs.Prelude.{◌≡◌, ◌*◌, ◌%◌, true, ◌≢◌, Float}
use Rattle.std.specs.Float.{nan, inf, fin}
use Rattle.std.specs.Float.Ieee.{up, down, lt, le}

-- x is finite, and m * 2 ^ e leaves no remainder
abbrev pub WholeNumber : Float → Type 0
WholeNumber nan = ⊥
WholeNumber (inf s) = ⊥
WholeNumber (fin s m e) = m * up e % down e ≡ 0

-- no whole number is above r and not above x
pub record Floor (x r : Float) : Type 0 where
  pub whole : WholeNumber r
  pub not_above : le r x ≡ true
  pub greatest : (w : Float) → WholeNumber w → lt r w ≡ true → le w x ≢ true

-- no whole number is below r and not below x
pub record Ceiling (x r : Float) : Type 0 where
  pub whole : WholeNumber r
  pub not_below : le x r ≡ true
  pub least : (w : Float) → WholeNumber w → lt w r ≡ true → le x w ≢ true
