-- The fronts have just N and 3N elements.
use Rattle.std.proofs.Common.{sym, ◌∙◌, ap, ℕ, ◌*◌, arith}
use lib.Seq.{length-take-le}
use Rattle.scan.proofs.PutTogether.{lattice_size}
use Rattle.poisson.proofs.count.Goals as goal

pub number_edges-requires : goal.number_edges-requires
number_edges-requires c =
    let size = lattice_size c.args.g c.lattice.ensures.0 in
    record {
      counts = c.lattice.ensures.1;
      nodes = length-take-le _ _ (omega (arith, c.len-n.ensures, c.requires.room.0)) ∙ c.len-n.ensures ∙ sym size;
      edges = length-take-le _ _ (omega (arith, c.len-n.ensures, c.requires.room.1)) ∙ ap (λ (n : ℕ). 3 * n) (c.len-n.ensures ∙ sym size);
    }
