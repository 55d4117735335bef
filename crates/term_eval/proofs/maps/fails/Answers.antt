use Rattle.std.proofs.Common.{ap, arith, length}
use Rattle.term_eval.proofs.Made.{each_fault}
use Rattle.term_eval.proofs.maps.fails.Goals as goal

pub returns : goal.returns
returns g c = rw c.from.ensures (each_fault c.args.name c.args.places.now (λ e. let n = ap length e in grind (arith, n)))
