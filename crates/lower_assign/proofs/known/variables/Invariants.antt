use Rattle.std.proofs.Common.{◌≡◌, ◌++◌, drop}
use Rattle.lower_assign.specs.Known.{numbered, variable_decls}
use Rattle.lower_assign.proofs.known.variables.Given as goal

abbrev pub invariant-each : goal.invariant-each
invariant-each l = l.variables ++ numbered l.next l.constants (variable_decls (drop l.decl-index l.decls)) ≡ numbered 0 l.constants (variable_decls l.decls)
