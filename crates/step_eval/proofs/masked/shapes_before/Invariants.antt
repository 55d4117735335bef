use Rattle.std.proofs.Common.{◌≡◌, ◌++◌, All, map, take, drop}
use Rattle.ws_space.specs.Masks.{shapes_of}
use Rattle.array_meaning.specs.Where.{operands_of}
use Rattle.term_eval.specs.Limits.{IsFew}
use Rattle.step_eval.specs.Narrow.{IsNarrow}
use Rattle.step_eval.specs.Masked.{splits_of}
use Rattle.step_eval.proofs.masked.shapes_before.Given as goal

abbrev pub invariant-loop-mask : goal.invariant-loop-mask
invariant-loop-mask l = record {
  value : l.shapes ≡ shapes_of (splits_of (take l.mask-index l.evaluated));
  few : All IsFew l.shapes;
  narrow : All IsNarrow l.shapes;
}

abbrev pub invariant-loop-mask-2 : goal.invariant-loop-mask-2
invariant-loop-mask-2 l = record {
  value : shapes_of (splits_of l.evaluated) ++ operands_of (map (λ t. t.term) l.terms) ≡ l.shapes ++ operands_of (map (λ t. t.term) (drop l.mask-index l.terms));
  few : All IsFew l.shapes;
  narrow : All IsNarrow l.shapes;
}
