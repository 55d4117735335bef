-- The module of a source: its declares, and then its statements in order.
use Rattle.std.specs.Prelude.{ℕ, ⊤, List, [], ◌∷◌, ◌++◌, map, Option, Some, None}
use Rattle.ws_tree.specs.declared.expr.Expr.{Expr}
use Rattle.ws_tree.specs.declared.stmt.Index.{Index}
use Rattle.ws_tree.specs.declared.stmt.Stmt.{Stmt}
use Rattle.ws_tree.specs.declared.stmt.Else.{Else'}
use Rattle.ws_tree.specs.declared.stmt.Tree.{Tree}
use Rattle.ws_tree.specs.declared.stmt.Body.{Body}
use Rattle.ws_tree.specs.declared.stmt.Body.TheVariants.{Masked', Forall', Loop', Shared'}
use Rattle.ws_tree.specs.Trees.{Stmts, end_stmts, more_stmts, Elses, end_elses, more_elses}
use Rattle.hlfir_ops.specs.declared.what.What.TheVariants as what
use Rattle.hlfir_ops.specs.declared.op.ValueId.{ValueId}
use Rattle.hlfir_ops.specs.declared.op.Module.{Module}
use Rattle.lower_values.specs.declared.names.Variable.{Variable}
use Rattle.lower_values.specs.Scopes.{scope_at}
use Rattle.lower_values.specs.Lowerings.{Lowering, done, ◌>>=◌, ◌>>◌, scoped, in_turn, giving, statement_of}
use Rattle.lower_values.specs.References.{declare_of}
use Rattle.lower_values.specs.Values.{value}
use Rattle.lower_values.specs.Lists.{stride}
use Rattle.lower_assign.specs.Statements.{yielded, all_yielded, plain}
use Rattle.lower_assign.specs.Known.{names_of}

-- ---- headers

-- the three values of an index or a DO
unfoldable pub triple : Expr → Expr → Option Expr → Lowering (List ValueId)
triple l u s = do
  x ← value l
  y ← value u
  z ← stride s
  done (x.value ∷ y.value ∷ z.value ∷ [])

unfoldable pub triples : List Index → Lowering (List ValueId)
triples [] = done []
triples (i ∷ is) = do
  vs ← triple i.l i.u i.s
  ws ← triples is
  done (vs ++ ws)

-- the mask of a FORALL, which stands first in its body
unfoldable pub forall_mask : Option Expr → Lowering ⊤
forall_mask None = done tt
forall_mask (Some e) = scoped (λ s. statement_of what.ForallMask s.line [] (yielded (value e) ∷ []))

-- ---- constructs

-- A WHERE has a third region where it has an ELSEWHERE.
abbrev pub third : {m : _} → Elses m → Lowering ⊤ → List (Lowering ⊤)
third end_elses p = []
third (more_elses e es) p = p ∷ []

-- ELSEWHERE with a mask, or without one
abbrev pub elsewhere : ℕ → Option Expr → Lowering ⊤ → Lowering ⊤
elsewhere line (Some e) block = statement_of what.Elsewhere line [] (yielded (value e) ∷ block ∷ [])
elsewhere line None block = statement_of what.Elsewhere line [] (block ∷ [])

abbrev mutual
  pub statement : ℕ → Body → Lowering ⊤
  statement line (Masked' mask _ block _ rest) = statement_of what.Masked line [] (yielded (value mask) ∷ statements block ∷ third rest (elsewheres rest))
  statement line (Forall' is mask _ block) = statement_of (what.Forall (map (λ i. i.name) is)) line [] (all_yielded (triples is) ∷ (forall_mask mask >> statements block) ∷ [])
  statement line (Loop' x l u s _ block) = scoped (λ c. statement_of what.DoLoop line ((declare_of c.names x).value ∷ []) (all_yielded (triple l u s) ∷ statements block ∷ []))
  statement line (Shared' _ block) = statement_of what.Workshare line [] (statements block ∷ [])
  statement line body = plain line body

  pub statements : {m : _} → Stmts m → Lowering ⊤
  statements end_stmts = done tt
  statements (more_stmts line body rest) = do
    statement line body
    statements rest

  pub elsewheres : {m : _} → Elses m → Lowering ⊤
  elsewheres end_elses = done tt
  elsewheres (more_elses (Else' line mask _ block) rest) = do
    elsewhere line mask (statements block)
    elsewheres rest

abbrev pub statement_list : List Stmt → Lowering ⊤
statement_list [] = done tt
statement_list (t ∷ ts) = do
  statement t.line t.body
  statement_list ts

-- ---- sources

unfoldable pub declaration : ℕ → Variable → Lowering ⊤
declaration k v = giving (what.Declare v.name) [] v.declare.kind >>= (λ _. done tt)

-- the whole source, in the scope outside all statements
abbrev pub program : Tree → Lowering ⊤
program t = do
  in_turn declaration 0 (names_of t).variables
  statement_list t.body

unfoldable pub lowered : Tree → Module
lowered t = record { name = t.name; ops = (program t (scope_at (names_of t) []) 0).ops }
