-- Writing vertices and faces edge by edge and face by face: what joined lists of faces give, and that there is room for each part where there is room for all.
-- Assumes nothing.
use mathlib.Core.Path.{◌≡◌, refl, sym, ap, ◌∙◌, subst}
use mathlib.Core.Bool.{Bool, true, false, cond}
use mathlib.Core.List.{List, [], ◌∷◌, ◌++◌, map}
use Prim.Native.Nat.{ℕ, suc, ◌+◌, ◌*◌, ◌≤◌, ◌<◌}
use native.Mathlib.Nat.{add-zero}
use native.Mathlib.Omega.{arith}
use lib.Dec.{eqb}
use lib.Ieee.{Float}
use lib.ListN.{length, get_or, set, length-append, length-map}
use lib.Seq.{sets, length-sets}
use Rattle.closed.specs.Faces.{Face, corners}
use Rattle.closed.proofs.Laws.Turning.{corners_append, length_corners}
use Rattle.cells.specs.Words.{Inner}
use Rattle.cells.specs.declared.Isosurface.{Isosurface}
use Rattle.cells.proofs.Walking.{part_edges}
use Rattle.extract.specs.Words.{Places, place1, place_all, vertex_in, point_of, Written, RoomFor, Placeable}
use Rattle.meshes.specs.declared.MeshSize.{MeshSize}

-- ---- a run of stores in two parts

pub sets_append : {A : Type 0} (l : List A) (i : ℕ) (a b : List A) → sets l i (a ++ b) ≡ sets (sets l i a) (i + length a) b
sets_append l i [] b = ap (λ (k : ℕ). sets l k b) (sym (add-zero i))
sets_append l i (x ∷ a) b =
    let e : suc i + length a ≡ i + suc (length a) = omega arith in
    sets_append (set l i x) (suc i) a b ∙ ap (λ (k : ℕ). sets (sets (set l i x) (suc i) a) k b) e

map-append : (f : ℕ → ℕ) (a b : List ℕ) → map f (a ++ b) ≡ map f a ++ map f b
map-append f [] b = refl
map-append f (x ∷ a) b = ap (λ (r : List ℕ). f x ∷ r) (map-append f a b)

module _ (table : List ℕ) (point : ℕ → List Float) where
  -- ---- one edge

  place_cases : (P : Places → Type 0) (s : Places) (e : ℕ) → P (sets s.0 (3 * s.1) (point e), s.1 + 1) → P s → P (place1 table point s e)
  place_cases P s e new old = by_case (eqb (get_or table e 0) (s.1 + 1))
    where
      by_case : (t : Bool) → P (cond t (sets s.0 (3 * s.1) (point e), s.1 + 1) s)
      by_case true = new
      by_case false = old

  pub place_kept : (s : Places) (e : ℕ) → length (place1 table point s e).0 ≡ length s.0
  place_kept s e = place_cases (λ p. length p.0 ≡ length s.0) s e (length-sets s.0 (3 * s.1) (point e)) refl

  pub place_more : (s : Places) (e : ℕ) → s.1 ≤ (place1 table point s e).1
  place_more s e = place_cases (λ p. s.1 ≤ p.1) s e (omega arith) (omega arith)

  -- ---- several edges

  pub places_append : (s : Places) (a b : List ℕ) → place_all table point s (a ++ b) ≡ place_all table point (place_all table point s a) b
  unfolding place_all
  places_append s [] b = refl
  places_append s (e ∷ a) b = places_append (place1 table point s e) a b

  pub places_kept : (s : Places) (es : List ℕ) → length (place_all table point s es).0 ≡ length s.0
  unfolding place_all
  places_kept s [] = refl
  places_kept s (e ∷ es) = places_kept (place1 table point s e) es ∙ place_kept s e

  pub places_more : (s : Places) (es : List ℕ) → s.1 ≤ (place_all table point s es).1
  unfolding place_all
  places_more s [] = omega arith
  places_more s (e ∷ es) = omega (arith, place_more s e, places_more (place1 table point s e) es)

  pub place_three : (s0 s1 s2 s3 : Places) (x y z : ℕ) → s1 ≡ place1 table point s0 x → s2 ≡ place1 table point s1 y → s3 ≡ place1 table point s2 z
      → s3 ≡ place_all table point s0 (x ∷ y ∷ z ∷ [])
  unfolding place_all
  place_three s0 s1 s2 s3 x y z a b c = c ∙ ap (λ (s : Places). place1 table point s z) (b ∙ ap (λ (s : Places). place1 table point s y) a)

  -- there is room for the vertices of several edges: so there is for the first, and once that is placed for the rest
  abbrev pub Fits : Places → List ℕ → Type 0
  Fits s es = 3 * (place_all table point s es).1 ≤ length s.0

  pub fits_first : (s : Places) (e : ℕ) (es : List ℕ) → Fits s (e ∷ es) → 3 * (place1 table point s e).1 ≤ length s.0
  unfolding place_all
  fits_first s e es h = omega (arith, h, places_more (place1 table point s e) es)

  pub fits_rest : (s t : Places) (e : ℕ) (es : List ℕ) → Fits s (e ∷ es) → t ≡ place1 table point s e → Fits t es
  unfolding place_all
  fits_rest s t e es h q = subst (λ (p : Places). Fits p es) (sym q) (omega (arith, h, place_kept s e))

module _ {table : List ℕ} {point : ℕ → List Float} where
  -- ---- the faces of a part, and of the next part

  pub written_none : {vs : List Float} {os : List ℕ} {had : MeshSize} → Written table point vs vs os os had had []
  unfolding place_all
  written_none = record { placed = refl; written = refl; counted = omega arith }

  pub written_append : {vs vt vu : List Float} {os ot ou : List ℕ} {a b c : MeshSize} {fs gs : List Face}
      → Written table point vs vt os ot a b fs → Written table point vt vu ot ou b c gs → Written table point vs vu os ou a c (fs ++ gs)
  written_append {vs} {vt} {vu} {os} {ot} {ou} {a} {b} {c} {fs} {gs} x y =
      let place : 3 * b.faces ≡ 3 * a.faces + length (map (vertex_in table) (corners fs)) =
      omega (arith, x.counted, length-map (corners fs) (vertex_in table), length_corners fs) in
      record {
        placed = y.placed
            ∙ ap (λ (s : Places). place_all table point s (corners gs)) x.placed
            ∙ sym (places_append table point (vs, a.vertices) (corners fs) (corners gs))
            ∙ ap (place_all table point (vs, a.vertices)) (sym (corners_append fs gs));
        written = y.written
            ∙ ap (λ (l : List ℕ). sets l (3 * b.faces) (map (vertex_in table) (corners gs))) x.written
            ∙ ap (λ (i : ℕ). sets (sets os (3 * a.faces) (map (vertex_in table) (corners fs))) i (map (vertex_in table) (corners gs))) place
            ∙ sym (sets_append os (3 * a.faces) (map (vertex_in table) (corners fs)) (map (vertex_in table) (corners gs)))
            ∙ ap (sets os (3 * a.faces)) (sym (map-append (vertex_in table) (corners fs) (corners gs)) ∙ ap (map (vertex_in table)) (sym (corners_append fs gs)));
        counted = omega (arith, x.counted, y.counted, length-append fs gs);
      }

  pub vertices_kept : {vs vt : List Float} {os ot : List ℕ} {a b : MeshSize} {fs : List Face} → Written table point vs vt os ot a b fs → length vt ≡ length vs
  vertices_kept {vs} {vt} {os} {ot} {a} {b} {fs} x = ap (λ (s : Places). length s.0) x.placed ∙ places_kept table point (vs, a.vertices) (corners fs)

  pub faces_kept : {vs vt : List Float} {os ot : List ℕ} {a b : MeshSize} {fs : List Face} → Written table point vs vt os ot a b fs → length ot ≡ length os
  faces_kept {vs} {vt} {os} {ot} {a} {b} {fs} x = ap length x.written ∙ length-sets os (3 * a.faces) (map (vertex_in table) (corners fs))

  -- ---- room for the next part, where there is room for all

  pub room_next : {vs vt : List Float} {os ot : List ℕ} {a b : MeshSize} (fs gs hs : List Face) → RoomFor table point vs os a (fs ++ gs ++ hs)
      → Written table point vs vt os ot a b fs → RoomFor table point vt ot b gs
  room_next {vs} {vt} {os} {ot} {a} {b} fs gs hs r w =
      let append = places_append table point in
      let all : place_all table point (vs, a.vertices) (corners (fs ++ gs ++ hs)) ≡ place_all table point (place_all table point (vt, b.vertices) (corners gs)) (corners hs) =
      ap (place_all table point (vs, a.vertices)) (corners_append (fs ++ gs) hs ∙ ap (λ (l : List ℕ). l ++ corners hs) (corners_append fs gs))
      ∙ append (vs, a.vertices) (corners fs ++ corners gs) (corners hs)
      ∙ ap (λ (s : Places). place_all table point s (corners hs)) (append (vs, a.vertices) (corners fs) (corners gs)
      ∙ ap (λ (s : Places). place_all table point s (corners gs)) (sym w.placed)) in
      record {
        vertices = omega (
          arith,
          r.vertices,
          ap (λ (s : Places). s.1) all,
          places_more table point (place_all table point (vt, b.vertices) (corners gs)) (corners hs),
          vertices_kept w,
        );
        faces = omega (arith, r.faces, w.counted, length-append (fs ++ gs) hs, length-append fs gs, faces_kept w);
      }

-- ---- the same of a surface, which stays as it is

pub written_at : {x y : Isosurface} {t u : List ℕ} {vs vt : List Float} {os ot : List ℕ} {a b : MeshSize} {fs : List Face}
    → x ≡ y → t ≡ u → Written t (point_of x) vs vt os ot a b fs → Written u (point_of y) vs vt os ot a b fs
written_at {x} {y} {t} {u} {vs} {vt} {os} {ot} {a} {b} {fs} e q w =
    subst (λ (z : Isosurface). Written u (point_of z) vs vt os ot a b fs) e (subst (λ (z : List ℕ). Written z (point_of x) vs vt os ot a b fs) q w)

pub placeable_next : {x y : Isosurface} {t u : List ℕ} {vs vt : List Float} {os ot : List ℕ} {a b : MeshSize} (fs gs hs : List Face)
    → y ≡ x → u ≡ t → Placeable x t vs os a (fs ++ gs ++ hs) → Written t (point_of x) vs vt os ot a b fs → Placeable y u vt ot b gs
placeable_next {x} {y} {t} {u} {vs} {vt} {os} {ot} {a} {b} fs gs hs e q r w =
    subst (λ (z : Isosurface). Placeable z u vt ot b gs) (sym e)
    (subst (λ (z : List ℕ). Placeable x z vt ot b gs) (sym q)
    (record {
      counts = r.counts;
      edges = part_edges (λ e. (e < length t) × Inner x.values.now x.lattice e) fs gs hs r.edges;
      room = room_next fs gs hs r.room w;
    }))

-- ---- the three numbers of a face

pub three_stores : (v : List ℕ) (i a b c : ℕ) → set (set (set v i a) (i + 1) b) (i + 2) c ≡ sets v i (a ∷ b ∷ c ∷ [])
three_stores v i a b c =
    let one : i + 1 ≡ suc i = omega arith in
    let two : i + 2 ≡ suc (suc i) = omega arith in
    ap (λ (k : ℕ). set (set (set v i a) k b) (i + 2) c) one ∙ ap (λ (k : ℕ). set (set (set v i a) (suc i) b) k c) two

pub three_same : {a b c x y z : ℕ} → a ≡ x → b ≡ y → c ≡ z → a ∷ b ∷ c ∷ [] ≡ x ∷ y ∷ z ∷ []
three_same p q r = rw (p, q, r) refl
