-- The forms of expressions, and the lists inside expressions and statements, under one name each. The type of such a list counts its items.
use Rattle.std.specs.Prelude.{ℕ}
use mathlib.Core.Former.{Count, none_left, one_more}
use Rattle.ws_base.specs.declared.op.UnOp.{UnOp}
use Rattle.ws_base.specs.declared.op.BinOp.{BinOp}
use Rattle.ws_tree.specs.declared.expr.Expr.{Expr}
use Rattle.ws_tree.specs.declared.expr.Expr.TheVariants.{Paren', Unary', Binary'}
use Rattle.ws_tree.specs.declared.expr.Sub.{Sub}
use Rattle.ws_tree.specs.declared.stmt.Body.{Body}
use Rattle.ws_tree.specs.declared.stmt.Else.{Else}
use Rattle.ws_tree.specs.declared.expr.Expr.TheBlock as expr
use Rattle.ws_tree.specs.declared.stmt.Body.TheBlock as stmt

abbrev pub Exprs : Count → Type 0
Exprs = expr.Row_of-Expr

abbrev pub Subs : Count → Type 0
Subs = expr.Row_of-Sub

abbrev pub Stmts : Count → Type 0
Stmts = stmt.Row_of-Stmt

abbrev pub Elses : Count → Type 0
Elses = stmt.Row_of-Else

-- the empty lists

pattern abbrev pub end_exprs : Exprs none_left
end_exprs = expr.end_of-Expr

pattern abbrev pub end_subs : Subs none_left
end_subs = expr.end_of-Sub

pattern abbrev pub end_stmts : Stmts none_left
end_stmts = stmt.end_of-Stmt

pattern abbrev pub end_elses : Elses none_left
end_elses = stmt.end_of-Else

-- an item in front of a list

pattern abbrev pub more_exprs : {m : Count} → Expr → Exprs m → Exprs (one_more m)
more_exprs e es = expr.more_of-Expr e es

pattern abbrev pub more_subs : {m : Count} → Sub → Subs m → Subs (one_more m)
more_subs s ss = expr.more_of-Sub s ss

pattern abbrev pub more_stmts : {m : Count} → ℕ → Body → Stmts m → Stmts (one_more m)
more_stmts line body rest = stmt.more_of-Stmt line body rest

pattern abbrev pub more_elses : {m : Count} → Else → Elses m → Elses (one_more m)
more_elses e es = stmt.more_of-Else e es

-- a part of a triplet, which may be omitted
abbrev pub Given : Type 0
Given = expr.Held-Sub-Range-0

pattern abbrev pub absent : Given
absent = expr.None'

pattern abbrev pub given : Expr → Given
given e = expr.Some' e

-- expressions with operands

pattern abbrev pub paren : Expr → Expr
paren e = Paren' tt (more_exprs e end_exprs)

pattern abbrev pub unary : UnOp → Expr → Expr
unary op e = Unary' op tt (more_exprs e end_exprs)

pattern abbrev pub binary : BinOp → Expr → Expr → Expr
binary op a b = Binary' op tt (more_exprs a end_exprs) tt (more_exprs b end_exprs)
