-- What the code has around an op.
use Rattle.hlfir_ops.specs.RulesPlaces as places
use Rattle.rule_limits.specs.declared.around.Around.{Around}

abbrev pub around_seen : Around → places.Around
around_seen a = record { own = a.own; bodies = a.bodies; masked = a.masked; shared = a.shared; elemental = a.elemental }
