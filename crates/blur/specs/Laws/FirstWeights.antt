-- The weights that a kernel uses stand at the front of its array: what is read of it, up to the last offset's, is sigma's, and is a kernel of the same
-- radius. Assumes nothing.
use Rattle.std.specs.Prelude.{◌≡◌, List, ℕ, length, take, Float}
use Rattle.std.proofs.Common.{sym, ap, ◌∙◌, arith}
use Rattle.std.proofs.Math.Seq.{length-take-le}
use Rattle.lists.specs.Lists.{zero32}
use Rattle.lists.specs.Laws.Tabulate.{length_tabulate}
use Rattle.lists.specs.Laws.Padded.{take_padded}
use Rattle.blur.specs.declared.kernel.Kernel.{Kernel}
use Rattle.blur.specs.Blur.{radius_of, offset_count, kernel_of}
use Rattle.blur.specs.Words.{radius_in, IsKernel, KernelOf}

pub first_weights : {sigma : Float} {k : Kernel} → KernelOf sigma k → take (offset_count k.radius) k.weights ≡ kernel_of sigma
unfolding kernel_of
first_weights {sigma} {k} made =
    ap (λ (m : ℕ). take m k.weights) (ap offset_count made.reach ∙ sym (length_tabulate (offset_count (radius_of sigma)) _))
    ∙ ap (λ (l : List Float). take (length (kernel_of sigma)) l) made.all
    ∙ take_padded zero32 37 (kernel_of sigma)

module _ {sigma : Float} {k : Kernel} {w : List Float} (made : KernelOf sigma k) (front : w ≡ take (offset_count k.radius) k.weights) where
  front_size : length w ≡ offset_count k.radius
  front_size = ap length front ∙ length-take-le (offset_count k.radius) k.weights (omega (arith, made.most, made.room))

  pub front_radius : radius_in w ≡ k.radius
  front_radius = let size = front_size in omega arith

  pub front_is_kernel : IsKernel w
  front_is_kernel = record { odd = front_size ∙ ap offset_count (sym front_radius); most = omega (arith, front_radius, made.most) }
