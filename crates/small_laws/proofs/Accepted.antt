-- An evaluation can take the numbers of every accepted program.
use Rattle.std.proofs.Common.{[], refl, All}
use Rattle.ws_tree.specs.declared.stmt.Tree.{Tree}
use Rattle.ws_sema.specs.declared.within.Within.TheVariants.{Outside}
use Rattle.ws_sema.specs.Checks.{IsAccepted}
use Rattle.ws_sema.specs.Declarations.{table_of}
use Rattle.ws_sema.proofs.Accepted.{no_decl_faults, no_stmt_faults}
use Rattle.small_laws.specs.Small.{IsSmallStmt, AreSmallDecls}
use Rattle.small_laws.proofs.Tables.{declared_fit}
use Rattle.small_laws.proofs.SmallStatements.{stmts_small}
use Rattle.small_laws.proofs.SmallDeclarations.{decls_small}

pub accepted_small : (t : Tree) → IsAccepted t → All IsSmallStmt t.body
accepted_small t h = stmts_small (table_of t.decls) Outside t.body (declared_fit [] [] t.decls (no_decl_faults t h)) h.grammatical.body (no_stmt_faults t h)

pub accepted_declarations : (t : Tree) → IsAccepted t → AreSmallDecls [] t.decls
accepted_declarations t h = decls_small [] [] [] t.decls (λ x. tt) (λ x _. refl) (no_decl_faults t h)
