-- Words for contracts: what a slice of weights is, one element of a row, what a row reads, and a kernel with room to spare. No definition rests on them;
-- callers see `radius_in`, `IsKernel` and `KernelOf` alone.
use Rattle.std.specs.Prelude.{◌≡◌, List, ℕ, ◌+◌, ◌*◌, ◌/◌, ◌≤◌, ◌<◌, length, Option, Some, None, Float}
use Rattle.std.specs.Float.{binary32}
use Rattle.std.specs.Float.Ieee.{add, mul}
use Rattle.lists.specs.Lists.{at, zero32, padded}
use Rattle.blur.specs.declared.kernel.Kernel.{Kernel}
use Rattle.blur.specs.Blur.{radius_of, kernel_of, offset_count, moved_to, blur_to}

-- weights alone say how far they reach: to each side of the middle one
abbrev pub radius_in : (kernel : List Float) → ℕ
radius_in kernel = length kernel / 2

-- one weight for each offset, and no more offsets than the widest blur has
pub record IsKernel (kernel : List Float) : Type 0 where
  pub odd : length kernel ≡ offset_count (radius_in kernel)
  pub most : radius_in kernel ≤ 18

-- the sum of all the terms of a kernel, at a place of a line
abbrev pub blur_by : (v : List Float) (line : ℕ → ℕ) (n place : ℕ) (kernel : List Float) → Float
blur_by v line n place kernel = blur_to v line n place (radius_in kernel) kernel (offset_count (radius_in kernel))

-- x[k] + w * p[k]
abbrev pub plus_times : (w : Float) (x p : List Float) (k : ℕ) → Float
plus_times w x p k = add binary32 (at x k) (mul binary32 w (at p k))

-- the line of a row's element k, across the row: the row at place 0 is from `first` on, and the places are `stride` numbers apart
abbrev pub across : (first stride k p : ℕ) → ℕ
across first stride k p = first + k + p * stride

-- a row of `len` elements at a place lies within `room` elements
abbrev pub Reach : (first stride len room : ℕ) → Option ℕ → Type 0
Reach first stride len room (Some p) = first + p * stride + len ≤ room
Reach first stride len room None = Unit {0}

-- a row that is a line itself: its sums, and its values
abbrev pub Line : (out v : List Float) → Type 0
Line out v = (0 < length out) × (length out ≤ 256) × (length v ≡ length out)

-- offset t - radius leads the first node of a side of n nodes outside
abbrev pub FirstOutside : (n radius t : ℕ) → Type 0
FirstOutside n radius t = moved_to n radius 0 t ≡ None

-- a kernel's radius and weights are sigma's; behind them its array is filled up with +0.0
pub record KernelOf (sigma : Float) (k : Kernel) : Type 0 where
  pub reach : k.radius ≡ radius_of sigma
  pub most : k.radius ≤ 18
  pub room : length k.weights ≡ 37
  pub all : k.weights ≡ padded zero32 37 (kernel_of sigma)
