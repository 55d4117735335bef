use Rattle.std.proofs.Common.{drop}
use Rattle.slow_eval.proofs.Declares.{NamesSoFar}
use Rattle.slow_eval.proofs.declarations.allocatables.Given as goal

abbrev pub invariant-each : goal.invariant-each
invariant-each l = NamesSoFar (λ d. d.allocatable) l.decls (drop l.decl-index l.decls) l.names
