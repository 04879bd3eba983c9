-- What the machine reads back of an entry that it holds as eight bits: the entry, for it is an edge or -1.
-- Assumes nothing.
use mathlib.Core.Path.{◌≡◌, ap, ◌∙◌}
use Prim.Native.Nat.{ℕ, ◌<◌}
use native.Mathlib.Nat.{lt_of_lt_of_le}
use lib.Dec.{leb, lit≤}
use lib.IntN.{ℤ, pos}
use lib.ListN.{length}
use lib.Signed.{lt_z}
use mir.Syntax.{w8}
use mir.Val.{to_z, of_z}
use mir.ValLaws.{to_z-of_z}
use Rattle.closed.specs.Rows.{row, entry}
use Rattle.closed.proofs.Laws.Entries.{entry_small, entry_neg}

pub entry_back : (c t : ℕ) (z : ℤ) → c < 256 → z ≡ entry c t → to_z w8 (of_z w8 z) ≡ entry c t
entry_back c t z h e =
    ap (λ (y : ℤ). to_z w8 (of_z w8 y)) e ∙ to_z-of_z w8 (entry c t) (record { sfits = lt_of_lt_of_le (entry_small c t h) (lit≤ tt) })

-- the code's test for the row's end
pub tested : (c t : ℕ) (z : ℤ) → c < 256 → z ≡ entry c t → lt_z (to_z w8 (of_z w8 z)) (pos 0) ≡ leb (length (row c)) t
tested c t z h e = ap (λ (y : ℤ). lt_z y (pos 0)) (entry_back c t z h e) ∙ entry_neg c t
