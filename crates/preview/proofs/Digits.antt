-- What `hex` computes is what the definition says: eight digits by dividing by 16 again and again (`hex_is`). Assumes nothing.
use mathlib.Core.Path.{◌≡◌}
use mathlib.Core.List.{[], ◌∷◌}
use Prim.Native.Nat.{ℕ, ◌/◌, ◌%◌}
use native.Mathlib.Omega.{arith}
use Rattle.preview.specs.Preview.{hex_digit, in_hex}

pub hex_is : (n : ℕ)
    → in_hex 8 n
    ≡ hex_digit (n / 0x1000_0000 % 16) ∷ hex_digit (n / 0x100_0000 % 16) ∷ hex_digit (n / 0x10_0000 % 16) ∷ hex_digit (n / 0x1_0000 % 16)
    ∷ hex_digit (n / 0x1000 % 16) ∷ hex_digit (n / 0x100 % 16) ∷ hex_digit (n / 0x10 % 16) ∷ hex_digit (n % 16) ∷ []
unfolding in_hex
hex_is n =
    let a : n / 16 / 16 ≡ n / 0x100 = omega arith in
    let b : n / 16 / 16 / 16 ≡ n / 0x1000 = omega arith in
    let c : n / 16 / 16 / 16 / 16 ≡ n / 0x1_0000 = omega arith in
    let d : n / 16 / 16 / 16 / 16 / 16 ≡ n / 0x10_0000 = omega arith in
    let e : n / 16 / 16 / 16 / 16 / 16 / 16 ≡ n / 0x100_0000 = omega arith in
    let f : n / 16 / 16 / 16 / 16 / 16 / 16 / 16 ≡ n / 0x1000_0000 = omega arith in
    rw (f, e, d, c, b, a)
