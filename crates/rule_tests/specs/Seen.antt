-- What the tables of the code stand for.
use Rattle.std.specs.Prelude.{List, map, Option, Some, None}
use Rattle.hlfir_ops.specs.RulesValues as values
use Rattle.rule_tests.specs.declared.value.Source.{Source}
use Rattle.rule_tests.specs.declared.value.Source.TheVariants as source
use Rattle.rule_tests.specs.declared.value.Value.{Value}

abbrev pub source_seen : Source → values.Source
source_seen source.Declares = values.Declares
source_seen (source.Designates vector) = values.Designates vector
source_seen source.Lists = values.Lists
source_seen source.Other = values.Other

abbrev pub seen_as : Value → values.Value
seen_as v = record { kind = v.kind; source = source_seen v.source }

abbrev pub value_seen : Option Value → Option values.Value
value_seen (Some v) = Some (seen_as v)
value_seen None = None

abbrev pub seen : List Value → List values.Value
seen = map seen_as
