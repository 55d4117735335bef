-- The values of the module that the code looks at.
use Rattle.std.specs.Prelude.{List}
use Rattle.hlfir_ops.specs.declared.op.Op.{Op}
use Rattle.alias_test.specs.Givers.{ops_at}
use Rattle.assign_schedule.specs.declared.look.Look.{Look}

-- the op that gives each of them
abbrev pub givers_seen : Look → List Op
givers_seen look = ops_at look.givers.items
