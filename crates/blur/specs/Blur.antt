-- Document 01, "Field", its blur: sigma, radius and weights, one pass of the blur along an axis, and all three.
-- All values at the nodes are f32; n is the number of nodes per side, and N = n * n * n. Definitions only; assumes nothing.
use Rattle.std.specs.Prelude.{◌&&◌, cond, List, ℕ, zero, suc, ◌+◌, ◌-◌, ◌*◌, pos, leb, ltb, Option, Some, None, Float}
use Rattle.std.specs.Float.{binary32, binary64}
use Rattle.std.specs.Float.Ieee.{of_int, to_unsigned, add, mul, div}
use Rattle.lists.specs.Lists.{tabulate, at, zero32, fold_to}
use Rattle.numbers.specs.Constants.{half64, two64, three64, six64}
use Rattle.numbers.specs.Arithmetic.{ceiled, clamped, exp_neg}
use Rattle.closed.specs.Grid.{node}
use Rattle.grid.specs.Grid.{digit_i, digit_j, digit_k}

-- ---- sigma, radius, weights

-- smoothing·spacing/h, clamped to 0.5..6.0
unfoldable pub sigma_of : (smoothing spacing h : Float) → Float
sigma_of smoothing spacing h = clamped (div binary64 (mul binary64 smoothing spacing) h) half64 six64

-- ceiling(3·sigma); a NaN as a whole number is 0
unfoldable pub radius_of : (sigma : Float) → ℕ
radius_of sigma = to_unsigned 64 (ceiled (mul binary64 three64 sigma))

-- the weight of the offsets d and -d: the exponential of -x, x = d²/((2·sigma)·sigma)
unfoldable pub weight_of : (sigma : Float) (d : ℕ) → Float
weight_of sigma d = exp_neg (div binary64 (of_int binary64 (pos (d * d))) (mul binary64 (mul binary64 two64 sigma) sigma))

-- Offsets run from minus the radius to the radius. Number t of them, counted from 0, is t - radius, and this is its size
abbrev pub reach_of : (radius t : ℕ) → ℕ
reach_of radius t = (t - radius) + (radius - t)

-- how many there are
abbrev pub offset_count : (radius : ℕ) → ℕ
offset_count radius = radius + radius + 1

-- their weights
unfoldable pub kernel_of : (sigma : Float) → List Float
kernel_of sigma = tabulate (offset_count (radius_of sigma)) (λ t. weight_of sigma (reach_of (radius_of sigma) t))

-- ---- the blur along one axis: 0, 1 or 2

-- the place that lies offset t - radius from a place on a side of n nodes; none before the first node and past the last
unfoldable pub moved_to : (n radius place t : ℕ) → Option ℕ
moved_to n radius place t = cond (leb radius (place + t) && ltb (place + t - radius) n) (Some (place + t - radius)) None

-- node q's place along the axis
abbrev pub place_along : (axis n q : ℕ) → ℕ
place_along zero n q = digit_i n n q
place_along (suc zero) n q = digit_j n n q
place_along (suc (suc a)) n q = digit_k n q

-- the node at place p of the line along the axis through node q
abbrev pub line_node : (axis n q p : ℕ) → ℕ
line_node zero n q p = node n n p (digit_j n n q) (digit_k n q)
line_node (suc zero) n q p = node n n (digit_i n n q) p (digit_k n q)
line_node (suc (suc a)) n q p = node n n (digit_i n n q) (digit_j n n q) p

-- the sum s with one term more, weight·value; a term with no place is skipped. The line says which node stands at a place
unfoldable pub with_term : (v : List Float) (line : ℕ → ℕ) (w : Float) → Option ℕ → (s : Float) → Float
with_term v line w (Some p) s = add binary32 s (mul binary32 w (at v (line p)))
with_term v line w None s = s

-- the terms of the first t offsets, in f32 from +0.0; nothing is divided by the weights
unfoldable pub blur_to : (v : List Float) (line : ℕ → ℕ) (n place radius : ℕ) (kernel : List Float) (t : ℕ) → Float
blur_to v line n place radius kernel t = fold_to (λ s u. with_term v line (at kernel u) (moved_to n radius place u) s) zero32 t

-- of all offsets, at node q
unfoldable pub blur_at : (axis n radius : ℕ) (kernel v : List Float) (q : ℕ) → Float
blur_at axis n radius kernel v q = blur_to v (line_node axis n q) n (place_along axis n q) radius kernel (offset_count radius)

-- at every node
abbrev pub blurred_along : (axis n radius : ℕ) (kernel v : List Float) → List Float
blurred_along axis n radius kernel v = tabulate (n * n * n) (blur_at axis n radius kernel v)

-- ---- axes 0, 1, 2

unfoldable pub blurred : (n radius : ℕ) (kernel v : List Float) → List Float
blurred n radius kernel v = blurred_along 2 n radius kernel (blurred_along 1 n radius kernel (blurred_along 0 n radius kernel v))
