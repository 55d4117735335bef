use Rattle.std.proofs.Common.{◌≡◌, drop, length}
use Rattle.ws_base.specs.Numbers.{unary_value, default_half}
use Rattle.ws_base.specs.Outcomes.{each}
use Rattle.term_eval.specs.Made.{made_then}
use Rattle.term_eval.proofs.maps.unary_map.Given as goal

abbrev pub invariant-loop-value : goal.invariant-loop-value
invariant-loop-value l = record {
  as_many : length l.made ≡ l.value-index;
  same : each (unary_value default_half l.op) l.operand ≡ made_then l.made (each (unary_value default_half l.op) (drop l.value-index l.operand));
}
