-- A row has no more nodes than there are (`few`), so the sums of the four counts fit.
use Rattle.std.proofs.Common.{◌≡◌, List, ℕ, ◌≤◌, arith}
use Rattle.std.specs.Prelude.{Float}
use Rattle.cells.specs.Extraction.{count_z}
use Rattle.cells.specs.Words.{below_count}
use Rattle.cells.specs.Laws.Plain.{row_most}
use Rattle.cells.proofs.Isosurface.is_plain.Goals as goal

few : (values : List Float) (nz : ℕ) (iso : Float) (n : ℕ) {r : ℕ} → nz ≤ 16777216 → r ≡ below_count values nz iso n → r ≤ 16777216
few values nz iso n h e = omega (arith, e, row_most values nz iso n, h)

pub overflow_add-count : goal.overflow_add-count
overflow_add-count c =
    let few_row : count_z c.args.self.now.lattice ≤ 16777216 = omega (arith, c.requires.0, c.requires.1) in
    omega (arith, few _ _ _ _ few_row c.count_below.ensures, few _ _ _ _ few_row c.count_below-2.ensures)

pub overflow_add-count-2 : goal.overflow_add-count-2
overflow_add-count-2 c =
    let few_row : count_z c.args.self.now.lattice ≤ 16777216 = omega (arith, c.requires.0, c.requires.1) in
    omega (arith, few _ _ _ _ few_row c.count_below.ensures, few _ _ _ _ few_row c.count_below-2.ensures, few _ _ _ _ few_row c.count_below-3.ensures)

pub overflow_add-count-3 : goal.overflow_add-count-3
overflow_add-count-3 c =
    let few_row : count_z c.args.self.now.lattice ≤ 16777216 = omega (arith, c.requires.0, c.requires.1) in
    omega (
      arith,
      few _ _ _ _ few_row c.count_below.ensures,
      few _ _ _ _ few_row c.count_below-2.ensures,
      few _ _ _ _ few_row c.count_below-3.ensures,
      few _ _ _ _ few_row c.count_below-4.ensures,
    )
