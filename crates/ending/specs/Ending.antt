-- Document 01, "What crosses the counter": what the one ending of every call leaves in the lent slices. Definitions only; assumes nothing.
use Rattle.std.specs.Prelude.{◌≡◌, ◌++◌, ℕ, ◌-◌, length, take}
use Rattle.lists.specs.Lists.{zeros32, zeros_u}
use Rattle.ending.specs.Slices.{Scratch, Slices}

-- "all scratch are zero on return", whole slices, also where they are longer than stated
pub record Cleared (before after : Scratch) : Type 0 where
  pub s0_clear : after.s0 ≡ zeros32 (length before.s0)
  pub s1_clear : after.s1 ≡ zeros32 (length before.s1)
  pub s2_clear : after.s2 ≡ zeros32 (length before.s2)
  pub s3_clear : after.s3 ≡ zeros32 (length before.s3)
  pub s4_clear : after.s4 ≡ zeros32 (length before.s4)
  pub s5_clear : after.s5 ≡ zeros32 (length before.s5)
  pub s6_clear : after.s6 ≡ zeros32 (length before.s6)
  pub edges_clear : after.edges ≡ zeros_u (length before.edges)
  pub distances_clear : after.distances ≡ zeros32 (length before.distances)

-- "unused result elements": those from number v of the vertex slice on, and from number w of the face slice on
pub record Tidied (v w : ℕ) (before after : Slices) : Type 0 where
  pub vertices : after.vertices ≡ take v before.vertices ++ zeros32 (length before.vertices - v)
  pub faces : after.faces ≡ take w before.faces ++ zeros_u (length before.faces - w)
  pub scratch : Cleared before.scratch after.scratch
