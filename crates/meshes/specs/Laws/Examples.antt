-- Edges of the box of the vertices, by computation: equal coordinates stay, NaN replaces nothing. Assumes nothing.
use Rattle.std.specs.Prelude.{◌≡◌, refl, true, false, [], ◌∷◌, pos, Float}
use Rattle.std.specs.Float.{nan, fin}
use Rattle.std.specs.Float.Ieee.{of_bits, lt}
use Rattle.meshes.specs.BoxOfVertices.{reached_by, box_to, box_of}

-- +0, -0 and 1
abbrev O : Float
O = fin false 0 (pos 0)

abbrev minus_o : Float
minus_o = fin true 0 (pos 0)

abbrev I : Float
I = fin false 1 (pos 0)

pub boxes :
    (box_of [] ≡ record { low = O ∷ O ∷ O ∷ []; high = O ∷ O ∷ O ∷ [] })
    × (box_of (O ∷ I ∷ nan ∷ minus_o ∷ nan ∷ I ∷ []) ≡ record { low = O ∷ I ∷ nan ∷ []; high = O ∷ I ∷ nan ∷ [] })
    × (box_of (I ∷ O ∷ O ∷ O ∷ I ∷ O ∷ []) ≡ record { low = O ∷ O ∷ O ∷ []; high = I ∷ I ∷ O ∷ [] })
unfolding box_of box_to reached_by of_bits lt
boxes = (refl, refl, refl)
