use Rattle.lower_values.specs.Values.{value}
use Rattle.lower_values.proofs.Appended.{if-map}
use Rattle.lower_assign.proofs.Lefts.{yields}
use Rattle.lower_assign.proofs.sides.yield_value.Goals as goal

pub returns : goal.returns
returns c = if-map c.yielded.result (λ y h. yields (value c.args.e.now) c.in_ok-x.ensures (h c.args.names.now)) c.yielded.ensures
