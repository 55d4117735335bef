use Rattle.std.proofs.Common.{◌≡◌, ◌∷◌, [], drop, length}
use Rattle.ws_base.specs.Outcomes.{each, rows}
use Rattle.ws_space.specs.Maps.{pair_value}
use Rattle.term_eval.specs.Made.{made_then}
use Rattle.term_eval.proofs.maps.binary_map.Given as goal

abbrev pub invariant-loop-i : goal.invariant-loop-i
invariant-loop-i l = record {
  as_many : length l.made ≡ l.i;
  same : each (pair_value l.op) (rows l.places (l.left ∷ l.right ∷ [])) ≡ made_then l.made (each (pair_value l.op) (drop l.i (rows l.places (l.left ∷ l.right ∷ []))));
}
