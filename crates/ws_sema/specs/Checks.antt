-- All faults of a tree, and the trees that are accepted.
use Rattle.std.specs.Prelude.{◌≡◌, ⊤, false, List, [], ◌++◌}
use Rattle.ws_base.specs.declared.refusal.Refusal.{Refusal}
use Rattle.ws_tree.specs.declared.stmt.Tree.{Tree}
use Rattle.ws_tree.specs.Grammatical.{IsGrammatical}
use Rattle.ws_types.specs.declared.constant.Constant.{Constant}
use Rattle.ws_types.specs.declared.types.Row.{Row}
use Rattle.ws_types.specs.Kinds.{IsLeast}
use Rattle.ws_counts.specs.Limits.{stmts_limits}
use Rattle.ws_sema.specs.declared.checked.CheckEnd.{CheckEnd}
use Rattle.ws_sema.specs.declared.checked.CheckEnd.TheVariants.{Refused, Memory}
use Rattle.ws_sema.specs.declared.within.Within.TheVariants.{Outside}
use Rattle.ws_sema.specs.Declarations.{decls_faults, table_of, constants_after}
use Rattle.ws_sema.specs.Statements.{stmts_faults}

-- the faults of the declarations, those of the statements, and the limits on what one statement or region may count
abbrev pub rule_faults : Tree → List Refusal
rule_faults t = decls_faults [] [] t.decls ++ stmts_faults (table_of t.decls) Outside t.body ++ stmts_limits (table_of t.decls) false t.body

-- a tree that the grammar can give, which breaks no rule
pub record IsAccepted (t : Tree) : Type 0 where
  pub grammatical : IsGrammatical t
  pub faultless : rule_faults t ≡ []

-- the first fault of the tree, or want of memory, which is free
abbrev pub IsCheckEnd : Tree → CheckEnd → Type 0
IsCheckEnd t (Refused r) = IsLeast r (rule_faults t)
IsCheckEnd t Memory = ⊤

-- what is kept of an accepted tree beside it: its names, and its named INTEGER constants
pub record IsKnown (t : Tree) (table : List Row) (constants : List Constant) : Type 0 where
  pub accepted : IsAccepted t
  pub names : table ≡ table_of t.decls
  pub values : constants ≡ constants_after [] t.decls
