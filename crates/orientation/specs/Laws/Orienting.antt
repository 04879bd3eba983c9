-- Orientation changes no count of faces, no vertex number, no balance and no face's three different corners: it turns all faces or none. By cases.
-- Assumes nothing.
use Rattle.std.specs.Prelude.{◌≡◌, refl, Bool, List, [], ◌∷◌, map, ℕ, suc, ◌<◌, length, get_or, Float}
use Rattle.std.proofs.Math.Path.{ap}
use Rattle.std.proofs.Math.Bool.{true, false, cond}
use Rattle.std.proofs.Common.{arith}
use Rattle.std.proofs.lemmas.List.{length-map}
use Rattle.std.specs.Float.{nan}
use Rattle.std.specs.Float.Ieee.{binary64, of_bits, lt}
use Rattle.closed.specs.Lists.{All}
use Rattle.closed.specs.Faces.{Face, face, Balanced, Apart, turn, corners, faces}
use Rattle.closed.proofs.Laws.Counting.{all_at}
use Rattle.closed.proofs.Laws.Turning.{balanced_turn, all_apart_turn, length_corners}
use Rattle.grid.specs.declared.Grid.{Grid}
use Rattle.meshes.specs.FlatMesh.{vertex_count, Meshed}
use Rattle.orientation.specs.Orientation.{agreement_of, oriented_faces}
use Rattle.meshes.specs.Laws.FlatFaces.{meshed_faces, meshed_corners}

-- a turned face has the same corners
all_turned : (P : ℕ → Type 0) (fs : List Face) → All P (corners fs) → All P (corners (map turn fs))
all_turned P [] a = tt
all_turned P (face x y z ∷ fs) a = (a.0, (a.1.1.0, (a.1.0, all_turned P fs a.1.1.1)))

module _ (g : Grid) (values vertices : List Float) (fs : List Face) where
  -- what faces have, and have when all are turned, they have when oriented
  oriented_has : (P : List Face → Type 0) → P fs → P (map turn fs) → P (oriented_faces g values vertices fs)
  unfolding oriented_faces
  oriented_has P here there = go (lt (agreement_of g values vertices fs) (of_bits binary64 0))
    where
      go : (b : Bool) → P (cond b (map turn fs) fs)
      go true = there
      go false = here

  -- a NaN sum turns nothing
  pub nan_turns_nothing : agreement_of g values vertices fs ≡ nan → oriented_faces g values vertices fs ≡ fs
  unfolding oriented_faces lt
  nan_turns_nothing e = ap (λ (sum : Float). cond (lt sum (of_bits binary64 0)) (map turn fs) fs) e

  pub oriented_balanced : Balanced fs → Balanced (oriented_faces g values vertices fs)
  oriented_balanced h = oriented_has Balanced h (balanced_turn fs h)

  pub oriented_apart : All Apart fs → All Apart (oriented_faces g values vertices fs)
  oriented_apart h = oriented_has (All Apart) h (all_apart_turn fs h)

  pub oriented_length : length (oriented_faces g values vertices fs) ≡ length fs
  oriented_length = oriented_has (λ gs. length gs ≡ length fs) refl (length-map fs turn)

  -- each corner is one of the corners before
  pub oriented_corners : (P : ℕ → Type 0) → All P (corners fs) → All P (corners (oriented_faces g values vertices fs))
  oriented_corners P a = oriented_has (λ gs. All P (corners gs)) a (all_turned P fs a)

-- so the oriented faces are a mesh over the same vertices
pub oriented_meshed : (g : Grid) (values vertices : List Float) (numbers : List ℕ) → Meshed vertices numbers
    → Meshed vertices (corners (oriented_faces g values vertices (faces numbers)))
oriented_meshed g values vertices numbers m =
    let fs = faces numbers in
    let out = corners (oriented_faces g values vertices fs) in
    let long : length out ≡ length numbers = omega (arith, length_corners (oriented_faces g values vertices fs), oriented_length g values vertices fs, meshed_faces m, m.triples) in
    let before : All (λ v. v < vertex_count vertices) (corners fs) =
    rw (meshed_corners m) (all_of_at numbers m.below) in
    record {
      places = m.places;
      triples = omega (arith, m.triples, long);
      below = λ k h. all_at (λ v. v < vertex_count vertices) out (oriented_corners g values vertices fs (λ v. v < vertex_count vertices) before) 0 k h;
    }
  where
    all_of_at : (l : List ℕ) → ((k : ℕ) → k < length l → get_or l k 0 < vertex_count vertices) → All (λ v. v < vertex_count vertices) l
    all_of_at [] h = tt
    all_of_at (x ∷ l) h = (h 0 (omega arith), all_of_at l (λ k b. h (suc k) (omega arith)))
