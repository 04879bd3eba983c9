-- The four bits are those of the definition, each read at its node.
use Rattle.std.proofs.Common.{◌≡◌, ap, ◌∙◌, ℕ, ◌+◌, ◌*◌, arith}
use Rattle.lists.specs.Lists.{at}
use Rattle.closed.specs.Lists.{bit}
use Rattle.cells.specs.Extraction.{is_below}
use Rattle.cells.specs.Extraction.{count_y, count_z}
use Rattle.cells.specs.Words.{side_at}
use Rattle.cells.proofs.Isosurface.side_of.Goals as goal

pub returns : goal.returns
unfolding side_at
returns c =
    let n = c.args.node.0 in
    let read : (i j : ℕ) → i ≡ j → bit (is_below (at c.args.self.now.values.now i) c.args.self.now.iso) ≡ bit (is_below (at c.args.self.now.values.now j) c.args.self.now.iso) = λ i j e. ap (λ (m : ℕ). bit (is_below (at c.args.self.now.values.now m) c.args.self.now.iso)) e in
    omega (
      arith,
      c.bit_of.ensures.0 ∙ read c.place-n.result n c.place-n.ensures,
      c.bit_of-2.ensures.0 ∙ read (c.place-n.result + count_y c.args.self.now.lattice * count_z c.args.self.now.lattice) (n + count_y c.args.self.now.lattice * count_z c.args.self.now.lattice) (omega (arith, c.place-n.ensures)),
      c.bit_of-3.ensures.0 ∙ read (c.place-n.result + count_y c.args.self.now.lattice * count_z c.args.self.now.lattice + count_z c.args.self.now.lattice) (n + count_y c.args.self.now.lattice * count_z c.args.self.now.lattice + count_z c.args.self.now.lattice) (omega (arith, c.place-n.ensures)),
      c.bit_of-4.ensures.0 ∙ read (c.place-n.result + count_z c.args.self.now.lattice) (n + count_z c.args.self.now.lattice) (omega (arith, c.place-n.ensures)),
    )
