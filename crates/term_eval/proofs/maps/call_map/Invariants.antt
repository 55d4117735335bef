use Rattle.std.proofs.Common.{◌≡◌, drop, length}
use Rattle.ws_base.specs.Numbers.{call_value, default_half}
use Rattle.ws_base.specs.Outcomes.{each, rows}
use Rattle.term_eval.specs.Made.{made_then}
use Rattle.term_eval.proofs.maps.call_map.Given as goal

abbrev pub invariant-loop-i : goal.invariant-loop-i
invariant-loop-i l = record {
  as_many : length l.made ≡ l.i;
  same : each (call_value default_half l.word) (rows l.places l.columns) ≡ made_then l.made (each (call_value default_half l.word) (drop l.i (rows l.places l.columns)));
}
