use Rattle.std.proofs.Common.{drop, All}
use Rattle.term_eval.specs.Limits.{IsWorld, IsVar}
use Rattle.slow_eval.specs.Known.{IsAlone}
use Rattle.slow_eval.proofs.Declares.{DeclaresSoFar}
use Rattle.slow_eval.proofs.declarations.declared.Given as goal

abbrev pub invariant-each : goal.invariant-each
invariant-each l = record {
  declares : DeclaresSoFar l.decls (drop l.decl-index l.decls) l.known.constants l.vars;
  world : IsWorld l.known;
  alone : IsAlone l.known;
  vars : All IsVar l.vars;
}
