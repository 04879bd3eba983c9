-- The three axes moved, the front of the vertices is the places of the used ones; the front of the faces is the mesh; and there are no more of either
-- than before. Assumes nothing.
use mathlib.Core.Path.{◌≡◌, refl, sym, ap, ◌∙◌, subst}
use mathlib.Core.Bool.{Bool}
use mathlib.Core.List.{List, [], ◌∷◌}
use Prim.Native.Nat.{ℕ, zero, suc, ◌+◌, ◌*◌, ◌/◌, ◌%◌, ◌≤◌, ◌<◌}
use native.Mathlib.Omega.{arith}
use lib.ListN.{length, get_or, take, drop, length-take, take-append-drop}
use lib.Seq.{get_or-take, length-take-le, take_at, ext_get_or}
use lib.Ieee.{Float, nan}
use Rattle.lists.specs.Lists.{at}
use Rattle.closed.specs.Lists.{bit, member, In, keep}
use Rattle.closed.specs.Faces.{Face, faces, corners}
use Rattle.closed.specs.Numbering.{used, index_of, NoRepeat}
use Rattle.closed.proofs.Laws.Sums.{sum_le, sum_const}
use Rattle.closed.proofs.Laws.Counting.{bit_le}
use Rattle.closed.proofs.Laws.Renumber.{in_at, in_all, at_index_of, index_of_lt}
use Rattle.closed.proofs.Laws.Mesh.{in_keep, used_member, used_no_repeat}
use Rattle.closed.proofs.Laws.Vertices.{length_members}
use Rattle.closed.proofs.Laws.Turning.{corners_append, corners_faces, length_corners, length_faces}
use Rattle.meshes.specs.FlatMesh.{vertex_count, face_count, coordinate, Meshed}
use Rattle.trim.specs.Trim.{places_of}
use Rattle.trim.specs.Laws.TrimmedMesh.{length_places}
use Rattle.trim.specs.Words.{Slots, gathered, scattered}
use Rattle.trim.proofs.OneAxis.{Moved, moved}

-- ---- the coordinates

places_at : (y : List Float) (l : List ℕ) (w axis : ℕ) → w < length l → axis < 3 → at (places_of y l) (3 * w + axis) ≡ coordinate y (get_or l w 0) axis
unfolding places_of
places_at y [] w axis h b = absurd (omega arith)
places_at y (v ∷ l) zero zero h b = refl
places_at y (v ∷ l) zero (suc zero) h b = refl
places_at y (v ∷ l) zero (suc (suc zero)) h b = refl
places_at y (v ∷ l) zero (suc (suc (suc axis))) h b = absurd (omega arith)
places_at y (v ∷ l) (suc w) axis h b =
    let e : 3 * suc w + axis ≡ suc (suc (suc (3 * w + axis))) = omega arith in
    ap (λ (k : ℕ). at (coordinate y v 0 ∷ coordinate y v 1 ∷ coordinate y v 2 ∷ places_of y l) k) e ∙ places_at y l w axis (omega arith) b

places_by : (y : List Float) (l : List ℕ) (z : List Float) → 3 * length l ≤ length z
    → ((w axis : ℕ) → w < length l → axis < 3 → at z (3 * w + axis) ≡ coordinate y (get_or l w 0) axis) → take (3 * length l) z ≡ places_of y l
places_by y l z room h =
    let size : length (take (3 * length l) z) ≡ 3 * length l = length-take-le (3 * length l) z room in
    ext_get_or nan (take (3 * length l) z) (places_of y l) (size ∙ sym (length_places y l))
    (λ k b.
    let split : k ≡ 3 * (k / 3) + k % 3 = omega arith in
    get_or-take (3 * length l) z k nan (omega arith)
    ∙ ap (at z) split
    ∙ h (k / 3) (k % 3) (omega arith) (omega arith)
    ∙ sym (places_at y l (k / 3) (k % 3) (omega arith) (omega arith))
    ∙ ap (at (places_of y l)) (sym split))

module _ (seen : List ℕ) (y₀ y₁ y₂ y₃ : List Float) (x : Moved seen 0 y₀ y₁) (y : Moved seen 1 y₁ y₂) (z : Moved seen 2 y₂ y₃) where
  three_long : length y₃ ≡ length y₀
  three_long = z.long ∙ y.long ∙ x.long

  three_moved : 3 * length seen ≤ length y₀ → take (3 * length seen) y₃ ≡ places_of y₀ seen
  three_moved room = places_by y₀ seen y₃ (omega (arith, three_long)) each
    where
      each : (w axis : ℕ) → w < length seen → axis < 3 → at y₃ (3 * w + axis) ≡ coordinate y₀ (get_or seen w 0) axis
      each w zero h b =
          z.others w 0 (omega arith) (λ e. omega arith) ∙ y.others w 0 (omega arith) (λ e. omega arith) ∙ x.here w h
      each w (suc zero) h b =
          z.others w 1 (omega arith) (λ e. omega arith) ∙ y.here w h ∙ x.others (get_or seen w 0) 1 (omega arith) (λ e. omega arith)
      each w (suc (suc zero)) h b =
          z.here w h ∙ y.others (get_or seen w 0) 2 (omega arith) (λ e. omega arith) ∙ x.others (get_or seen w 0) 2 (omega arith) (λ e. omega arith)
      each w (suc (suc (suc axis))) h b = absurd (omega arith)

-- the passes of the three axes, each by way of a list of its own
module _ (seen table : List ℕ) (count : ℕ) (slots : Slots seen table count) (once : NoRepeat seen) (y₀ y₁ y₂ y₃ l₀ l₁ l₂ : List Float)
    (few : count ≤ vertex_count y₀) (marks : vertex_count y₀ ≤ length table) (below : (w : ℕ) → w < length seen → get_or seen w 0 < vertex_count y₀)
    (room₀ : count ≤ length l₀) (room₁ : count ≤ length l₁) (room₂ : count ≤ length l₂)
    (x : y₁ ≡ scattered (gathered table y₀ 0 l₀ (vertex_count y₀)) 0 y₀ count)
    (y : y₂ ≡ scattered (gathered table y₁ 1 l₁ (vertex_count y₁)) 1 y₁ count)
    (z : y₃ ≡ scattered (gathered table y₂ 2 l₂ (vertex_count y₂)) 2 y₂ count) where
  first : Moved seen 0 y₀ y₁
  first = moved seen table count slots once y₀ 0 l₀ (omega arith) room₀ few marks below x

  count₁ : vertex_count y₁ ≡ vertex_count y₀
  count₁ = ap (λ (n : ℕ). n / 3) first.long

  second : Moved seen 1 y₁ y₂
  second = moved seen table count slots once y₁ 1 l₁ (omega arith) room₁ (omega (arith, count₁)) (omega (arith, count₁)) (λ w h. omega (arith, count₁, below w h)) y

  count₂ : vertex_count y₂ ≡ vertex_count y₀
  count₂ = ap (λ (n : ℕ). n / 3) second.long ∙ count₁

  third : Moved seen 2 y₂ y₃
  third = moved seen table count slots once y₂ 2 l₂ (omega arith) room₂ (omega (arith, count₂)) (omega (arith, count₂)) (λ w h. omega (arith, count₂, below w h)) z

  pub three_axes : take (3 * count) y₃ ≡ places_of y₀ seen
  three_axes = ap (λ (n : ℕ). take (3 * n) y₃) slots.total ∙ three_moved seen y₀ y₁ y₂ y₃ first second third (omega (arith, slots.total))

-- ---- the front of a flat list of faces

pub front_corners : (l : List ℕ) (n : ℕ) → length l ≡ 3 * face_count l → n ≤ face_count l → take (3 * n) l ≡ corners (take n (faces l))
front_corners l n whole h =
    let fs : List Face = faces l in
    let size : length (take n fs) ≡ n = length-take-le n fs (omega (arith, length_faces (face_count l) l whole)) in
    ap (take (3 * n))
    (sym (corners_faces (face_count l) l whole) ∙ ap corners (sym (take-append-drop n fs)) ∙ corners_append (take n fs) (drop n fs))
    ∙ take_at (corners (take n fs)) (corners (drop n fs)) (3 * n) (length_corners (take n fs) ∙ ap (λ (k : ℕ). 3 * k) size)

-- ---- numbers of vertices

-- distinct numbers below n are at most n
pub at_most : (n : ℕ) (l : List ℕ) → NoRepeat l → ((v : ℕ) → In v l → v < n) → length l ≤ n
at_most n l once below =
    omega (
      arith,
      length_members n l once (in_all (λ v. v < n) l below),
      sum_le n (λ e. bit (member e l)) (λ e. 1) (λ e b. bit_le (member e l)),
      sum_const n 1,
    )

module _ {vertices : List Float} {numbers : List ℕ} (m : Meshed vertices numbers) (p : Face → Bool) where
  -- a kept face names vertices
  pub kept_below : (v : ℕ) → In v (corners (keep p (faces numbers))) → v < vertex_count vertices
  kept_below v h =
      let i : In v numbers = subst (In v) (corners_faces (face_count numbers) numbers m.triples) (in_keep p (faces numbers) v h) in
      subst (λ (k : ℕ). k < vertex_count vertices) (at_index_of v numbers 0 i) (m.below (index_of v numbers) (index_of_lt v numbers i))

  pub used_below : (v : ℕ) → In v (used (keep p (faces numbers))) → v < vertex_count vertices
  used_below v h = kept_below v (sym (used_member (keep p (faces numbers)) v) ∙ h)

  pub used_few : length (used (keep p (faces numbers))) ≤ vertex_count vertices
  used_few = at_most (vertex_count vertices) (used (keep p (faces numbers))) (used_no_repeat (keep p (faces numbers))) used_below

  -- the kept faces at the front of a list as long
  module _ (l : List ℕ) (n : ℕ) (long : length l ≡ length numbers) (size : n ≡ length (keep p (faces numbers))) (front : take n (faces l) ≡ keep p (faces numbers)) where
    whole : length l ≡ 3 * face_count l
    whole = omega (arith, m.triples)

    pub kept_few : n ≤ face_count l
    kept_few = omega (arith, length-take n (faces l), ap length front, length_faces (face_count l) l whole)

    pub front_below : (k : ℕ) → k < 3 * n → get_or l k 0 < vertex_count vertices
    front_below k h =
        let same : take (3 * n) l ≡ corners (keep p (faces numbers)) = front_corners l n whole kept_few ∙ ap corners front in
        let here : k < length (corners (keep p (faces numbers))) = omega (arith, length_corners (keep p (faces numbers))) in
        subst (λ (v : ℕ). v < vertex_count vertices)
        (ap (λ (r : List ℕ). get_or r k 0) (sym same) ∙ get_or-take (3 * n) l k 0 h)
        (kept_below (get_or (corners (keep p (faces numbers))) k 0) (in_at (corners (keep p (faces numbers))) 0 k here))
