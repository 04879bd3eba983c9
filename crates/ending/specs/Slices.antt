-- Document 01, "What crosses the counter": all that a call is lent to write in. Each slice is the list of its elements, before or after the call.
-- Definitions only; assumes nothing.
use Rattle.std.specs.Prelude.{◌≡◌, List, [], ◌∷◌, ℕ, length, Float}
use Rattle.ending.specs.declared.Grids.{Grids}

-- "Scratch, with N = 8^depth: seven f32 slices of N, a u32 slice of 3N, an f32 slice of one per given point"
pub record Scratch : Type 0 where
  pub s0 : List Float
  pub s1 : List Float
  pub s2 : List Float
  pub s3 : List Float
  pub s4 : List Float
  pub s5 : List Float
  pub s6 : List Float
  pub edges : List ℕ
  pub distances : List Float

-- "Out: vertices as f32 triples, faces as u32 triples", and scratch
pub record Slices : Type 0 where
  pub vertices : List Float
  pub faces : List ℕ
  pub scratch : Scratch

-- where the field alone is asked for: its values, and scratch
pub record FieldSlices : Type 0 where
  pub values : List Float
  pub scratch : Scratch

-- ---- the seven grids as one

-- what stands in them and in the two other slices of scratch
abbrev pub scratch_of : Grids → (edges : List ℕ) → (distances : List Float) → Scratch
scratch_of g edges distances =
    record {
      s0 = g.s0.now;
      s1 = g.s1.now;
      s2 = g.s2.now;
      s3 = g.s3.now;
      s4 = g.s4.now;
      s5 = g.s5.now;
      s6 = g.s6.now;
      edges = edges;
      distances = distances;
    }

abbrev pub slices_of : (vertices : List Float) → (faces : List ℕ) → Grids → (edges : List ℕ) → (distances : List Float) → Slices
slices_of vertices faces g edges distances = record { vertices = vertices; faces = faces; scratch = scratch_of g edges distances }

abbrev pub field_slices_of : (values : List Float) → Grids → (edges : List ℕ) → (distances : List Float) → FieldSlices
field_slices_of values g edges distances = record { values = values; scratch = scratch_of g edges distances }

-- the same seven slices: none is another's, whatever stands in them
abbrev pub SameGrids : Grids → Grids → Type 0
SameGrids g h =
    h
    ≡ record {
      s0 = record g.s0 { now = h.s0.now };
      s1 = record g.s1 { now = h.s1.now };
      s2 = record g.s2 { now = h.s2.now };
      s3 = record g.s3 { now = h.s3.now };
      s4 = record g.s4 { now = h.s4.now };
      s5 = record g.s5 { now = h.s5.now };
      s6 = record g.s6 { now = h.s6.now };
    }

-- each is as long as it was
pub record SameLengths (g h : Grids) : Type 0 where
  pub l0 : length h.s0.now ≡ length g.s0.now
  pub l1 : length h.s1.now ≡ length g.s1.now
  pub l2 : length h.s2.now ≡ length g.s2.now
  pub l3 : length h.s3.now ≡ length g.s3.now
  pub l4 : length h.s4.now ≡ length g.s4.now
  pub l5 : length h.s5.now ≡ length g.s5.now
  pub l6 : length h.s6.now ≡ length g.s6.now

-- how long each is
abbrev pub grid_lengths : Grids → List ℕ
grid_lengths g =
    length g.s0.now
    ∷ length g.s1.now
    ∷ length g.s2.now
    ∷ length g.s3.now
    ∷ length g.s4.now
    ∷ length g.s5.now
    ∷ length g.s6.now
    ∷ []
