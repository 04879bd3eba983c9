-- What a case emits is over the cube's twelve edges: each entry of a row is one. Assumes nothing.
use Rattle.std.proofs.Common.{sym, subst, arith}
use Rattle.std.specs.Prelude.{List, [], ◌∷◌, ℕ, suc, ◌+◌, ◌*◌, ◌<◌, length, get_or}
use Rattle.closed.specs.Lists.{All}
use Rattle.closed.specs.Faces.{Face, face, corners}
use Rattle.closed.specs.Rows.{emitted}
use Rattle.closed.proofs.Laws.Entries.{row_right, emitted_length, emitted_at}

abbrev pub OfCube : Face → Type 0
OfCube f = All (λ e. e < 12) (corners (f ∷ []))

pub face_edges : (c k : ℕ) → c < 256 → k < length (emitted c) → OfCube (get_or (emitted c) k (face 0 0 0))
face_edges c k h b =
    let n = emitted_length c h in
    let edge = (row_right c h).edges in
    subst OfCube (sym (emitted_at c k h b))
    (edge (3 * k) (omega arith), (edge (3 * k + 2) (omega arith), (edge (3 * k + 1) (omega arith), tt)))

by_faces : (fs : List Face) → ((k : ℕ) → k < length fs → OfCube (get_or fs k (face 0 0 0))) → All (λ e. e < 12) (corners fs)
by_faces [] h = tt
by_faces (face x y z ∷ fs) h =
    let f = h 0 (omega arith) in (f.0, (f.1.0, (f.1.1.0, by_faces fs (λ k b. h (suc k) (omega arith)))))

pub emitted_edges : (c : ℕ) → c < 256 → All (λ e. e < 12) (corners (emitted c))
emitted_edges c h = by_faces (emitted c) (λ k b. face_edges c k h b)
