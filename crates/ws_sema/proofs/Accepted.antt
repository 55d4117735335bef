-- What an accepted tree is free of.
use Rattle.std.proofs.Common.{◌≡◌, refl, false, List, [], ◌∷◌, ◌++◌}
use Rattle.ws_base.specs.declared.refusal.Refusal.{Refusal}
use Rattle.ws_tree.specs.declared.stmt.Tree.{Tree}
use Rattle.ws_sema.specs.declared.within.Within.TheVariants.{Outside}
use Rattle.ws_sema.specs.Declarations.{decls_faults, table_of}
use Rattle.ws_sema.specs.Statements.{stmts_faults}
use Rattle.ws_counts.specs.Limits.{stmts_limits}
use Rattle.ws_sema.specs.Checks.{IsAccepted}

none_first : (xs ys : List Refusal) → xs ++ ys ≡ [] → xs ≡ []
none_first [] ys e = refl
none_first (x ∷ xs) ys e = cc

none_after : (xs ys : List Refusal) → xs ++ ys ≡ [] → ys ≡ []
none_after [] ys e = e
none_after (x ∷ xs) ys e = cc

pub no_decl_faults : (t : Tree) → IsAccepted t → decls_faults [] [] t.decls ≡ []
no_decl_faults t h =
    none_first (decls_faults [] [] t.decls) (stmts_faults (table_of t.decls) Outside t.body)
    (none_first (decls_faults [] [] t.decls ++ stmts_faults (table_of t.decls) Outside t.body) (stmts_limits (table_of t.decls) false t.body) h.faultless)

pub no_stmt_faults : (t : Tree) → IsAccepted t → stmts_faults (table_of t.decls) Outside t.body ≡ []
no_stmt_faults t h =
    none_after (decls_faults [] [] t.decls) (stmts_faults (table_of t.decls) Outside t.body)
    (none_first (decls_faults [] [] t.decls ++ stmts_faults (table_of t.decls) Outside t.body) (stmts_limits (table_of t.decls) false t.body) h.faultless)

pub no_limit_faults : (t : Tree) → IsAccepted t → stmts_limits (table_of t.decls) false t.body ≡ []
no_limit_faults t h = none_after (decls_faults [] [] t.decls ++ stmts_faults (table_of t.decls) Outside t.body) (stmts_limits (table_of t.decls) false t.body) h.faultless
