use Rattle.std.proofs.Common.{◌≡◌, ◌++◌, drop}
use Rattle.lower_assign.specs.Known.{truths_of}
use Rattle.lower_assign.proofs.known.truths_of.Given as goal

abbrev pub invariant-each : goal.invariant-each
invariant-each l = l.truths ++ truths_of (drop l.decl-index l.decls) ≡ truths_of l.decls
