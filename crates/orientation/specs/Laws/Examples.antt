-- Edges of the stride, by computation: F/500 is rounded down, and is at least 1. Assumes nothing.
use Rattle.std.specs.Prelude.{◌≡◌, refl}
use Rattle.lists.specs.EveryNth.{stride_for}

pub strides : (stride_for 500 1 ≡ 1) × (stride_for 500 999 ≡ 1) × (stride_for 500 1000 ≡ 2)
strides = (refl, refl, refl)
