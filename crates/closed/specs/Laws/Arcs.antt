-- Words of the laws on arcs, directed pairs of numbers (proofs/Laws/Arcs): a list that balances, and the ends of a list. Definitions only; assumes nothing.
use Rattle.std.specs.Prelude.{◌≡◌, List, [], ◌∷◌, ℕ}
use Rattle.closed.specs.Lists.{count}
use Rattle.closed.specs.Table.{Arc, arc, goes}

abbrev pub BalancedArcs : List Arc → Type 0
BalancedArcs xs = (a b : ℕ) → count (goes a b) xs ≡ count (goes b a) xs

abbrev pub ends : List Arc → List ℕ
ends [] = []
ends (arc x y ∷ xs) = x ∷ y ∷ ends xs
