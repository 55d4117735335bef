-- A worked example: a source, the lines of its data, and the lines of its report. Each line ends with LF.
use Rattle.std.specs.Prelude.{◌≡◌, ℕ, true, false, List, [], ◌∷◌, ◌++◌, Option, Some, None, codes}
use Rattle.ws_tree.specs.declared.expr.Expr.{Expr}
use Rattle.ws_tree.specs.declared.stmt.Bound.{Bound}
use Rattle.ws_tree.specs.declared.stmt.Decl.{Decl}
use Rattle.ws_tree.specs.declared.stmt.Tree.{Tree}
use Rattle.ws_tree.specs.declared.stmt.Stmt.{Stmt}
use Rattle.ws_tree.specs.declared.stmt.Else.{Else, roll-Else}
use Rattle.ws_tree.specs.declared.stmt.Body.{Body}
use Rattle.ws_space.specs.Runs.{ended}
use Rattle.list_io.specs.ReportText.{report_text}
use Rattle.array_meaning.specs.Program.{run}

abbrev pub Text : Type 0
Text = List ℕ

pub record Example : Type 0 where
  pub tree : Tree
  pub input : List Text
  pub report : List Text

abbrev pub text_of : List Text → Text
text_of [] = []
text_of (l ∷ ls) = l ++ 10 ∷ text_of ls

-- the run of the source over the data has this report
abbrev pub Reports : Example → Type 0
Reports x = report_text (ended (run x.tree (text_of x.input)).end) ≡ text_of x.report

-- ---- a shorter spelling of trees

abbrev pub integer : ℕ → Text → List Bound → Decl
integer line x shape = record { line = line; truth = false; constant = None; allocatable = false; name = x; shape = shape }

abbrev pub logical : ℕ → Text → List Bound → Decl
logical line x shape = record { line = line; truth = true; constant = None; allocatable = false; name = x; shape = shape }

abbrev pub allocatable : ℕ → Text → List Bound → Decl
allocatable line x shape = record { line = line; truth = false; constant = None; allocatable = true; name = x; shape = shape }

abbrev pub constant : ℕ → Text → Expr → Decl
constant line x e = record { line = line; truth = false; constant = Some e; allocatable = false; name = x; shape = [] }

abbrev pub line : ℕ → Body → Stmt
line n body = record { line = n; body = body }

abbrev pub else_of : ℕ → Option Expr → List Stmt → Else
else_of line mask block = roll-Else (record { line = line; mask = mask; block = block })

abbrev pub example : List Decl → List Stmt → List Text → List Text → Example
example decls body input report = record { tree = record { name = codes "main"; decls = decls; body = body }; input = input; report = report }
