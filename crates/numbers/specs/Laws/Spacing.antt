-- Which numbers a format holds, in units of its smallest value: a * 2 ^ j with an a of at most prec digits. The laws on them are in proofs/Laws/Spacing.
-- Definitions only; assumes nothing.
use Rattle.std.specs.Prelude.{◌≡◌, ℕ, suc, ◌*◌, ◌^◌, ◌<◌, ◌≤◌, ℤ}
use Rattle.std.specs.Float.{Format}
use Rattle.std.specs.Float.Ieee.{prec, emax, low, up, down}

pub record Held (f : Format) (m : ℕ) (e : ℤ) : Type 0 where
  pub digits : m < 2 ^ prec f
  pub low_end : down e ≤ 2 ^ low f
  pub high_end : m * up e < 2 ^ suc (emax f) * down e

pub record Digits (f : Format) (Y : ℕ) : Type 0 where
  pub a : ℕ
  pub j : ℕ
  pub few : a < 2 ^ prec f
  pub is : Y ≡ a * 2 ^ j
