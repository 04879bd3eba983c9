-- A level takes the fronts of longer slices: the front that was lent is what it came back as, and has as many elements as the level has nodes. Assumes nothing.
use mathlib.Core.Path.{◌≡◌, refl, sym, ap, ◌∙◌}
use mathlib.Core.List.{List, ◌++◌}
use Prim.Native.Nat.{ℕ, ◌+◌, ◌-◌, ◌≤◌}
use native.Mathlib.Nat.{mul-le-mul}
use native.Mathlib.Omega.{arith}
use lib.ListN.{length, take, drop, length-replicate, replicate-append-replicate}
use lib.Pow.{pow_mono}
use lib.Seq.{length-take-le, take_at}
use lib.Ieee.{Float}
use Rattle.lists.specs.Lists.{zero32, zeros32}
use Rattle.levels.specs.Levels.{nodes_at}

-- ---- a front of n elements; the code counted them as m

pub front_size : {n m : ℕ} (y : List Float) → m ≡ n → n ≤ length y → length (take m y) ≡ n
front_size {n} {m} y e h = length-take-le m y (omega arith) ∙ e

-- lent, and come back as ys
pub front_is : {n m : ℕ} (y : List Float) {ys : List Float} → m ≡ n → n ≤ length y → length ys ≡ length (take m y) → take n (ys ++ drop m y) ≡ ys
front_is {n} {m} y {ys} e h l = take_at ys (drop m y) n (l ∙ front_size y e h)

-- and lent once more
pub back_size : {n m : ℕ} (y ys : List Float) → m ≡ n → n ≤ length y → length ys ≡ length (take m y) → length (take m (ys ++ drop m y)) ≡ n
back_size {n} {m} y ys e h l = ap length (take_at ys (drop m y) m (l ∙ front_size y refl (omega arith))) ∙ l ∙ front_size y e h

pub zeros_front : {n : ℕ} (m : ℕ) → n ≤ m → take n (zeros32 m) ≡ zeros32 n
zeros_front {n} m h =
    let all : n + (m - n) ≡ m = omega arith in
    ap (λ (k : ℕ). take n (zeros32 k)) (sym all)
    ∙ ap (take n) (sym (replicate-append-replicate n (m - n) zero32))
    ∙ take_at (zeros32 n) (zeros32 (m - n)) n (length-replicate n zero32)

-- ---- how many nodes a level has

pub nodes_mono : {a b : ℕ} → a ≤ b → nodes_at a ≤ nodes_at b
nodes_mono h = mul-le-mul (mul-le-mul (pow_mono h) (pow_mono h)) (pow_mono h)
