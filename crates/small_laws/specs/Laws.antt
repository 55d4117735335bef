-- What holds of every program that is accepted.
use Rattle.std.specs.Prelude.{[]}
use Rattle.std.specs.List.{All}
use Rattle.ws_tree.specs.declared.stmt.Tree.{Tree}
use Rattle.ws_sema.specs.Checks.{IsAccepted}
use Rattle.small_laws.specs.Small.{IsSmallStmt, AreSmallDecls}

abbrev pub EveryAcceptedStatementIsSmall : Type 0
EveryAcceptedStatementIsSmall = (t : Tree) → IsAccepted t → All IsSmallStmt t.body

-- before the first declaration no constant is known
abbrev pub EveryAcceptedDeclarationIsSmall : Type 0
EveryAcceptedDeclarationIsSmall = (t : Tree) → IsAccepted t → AreSmallDecls [] t.decls
