use Rattle.std.proofs.Common.{◌≡◌, ◌∷◌, drop}
use Rattle.std.specs.List.{All}
use Rattle.ws_space.specs.Shapes as spec
use Rattle.term_eval.specs.Limits.{IsFew}
use Rattle.term_eval.proofs.shapes.agreed_on.Given as goal

abbrev pub invariant-loop-shape : goal.invariant-loop-shape
invariant-loop-shape l = record {
  same : spec.agreed (l.fn.first ∷ l.more) ≡ spec.agreed (l.last ∷ drop l.shape-index l.more);
  few : IsFew l.fn.first → All IsFew l.more → IsFew l.last;
}
