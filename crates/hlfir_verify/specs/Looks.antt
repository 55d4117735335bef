-- What the tables of a module say.
use Rattle.hlfir_ops.specs.Rules.{Facts, facts_of}
use Rattle.hlfir_verify.specs.declared.look.Look.{Look}
use Rattle.rule_tests.specs.Seen.{seen}

abbrev pub facts_seen : Look → Facts
facts_seen look = record { values = seen look.table.items; used = (facts_of look.module.now).used }
