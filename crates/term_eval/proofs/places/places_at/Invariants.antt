use Rattle.std.proofs.Common.{◌≡◌, drop, length}
use Rattle.ws_base.specs.Outcomes.{each, rows}
use Rattle.ws_space.specs.Shapes as spec
use Rattle.term_eval.specs.Made.{made_then}
use Rattle.term_eval.proofs.places.places_at.Given as goal

abbrev pub invariant-loop-i : goal.invariant-loop-i
invariant-loop-i l = record {
  as_many : length l.made ≡ l.i;
  same : each (spec.place (spec.dims l.array.shape)) (rows l.places l.columns) ≡ made_then l.made (each (spec.place (spec.dims l.array.shape)) (drop l.i (rows l.places l.columns)));
}
