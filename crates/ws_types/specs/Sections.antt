-- Subscripts that select elements without being evaluated first.
use Rattle.std.specs.Prelude.{Bool, true, false}
use Rattle.ws_base.specs.declared.op.UnOp.TheVariants as unop
use Rattle.ws_tree.specs.declared.expr.Expr.{Expr}
use Rattle.ws_tree.specs.declared.expr.Expr.TheVariants.{Named, Part', Vector'}
use Rattle.ws_tree.specs.Trees.{paren, unary}

-- a section or constructor; parentheses and a plus in front of one are no operation
abbrev pub is_section : Expr → Bool
is_section (Part' x _ subs) = true
is_section (Vector' _ es) = true
is_section (paren e) = is_section e
is_section (unary unop.Plus e) = is_section e
is_section _ = false

-- a vector subscript that is not evaluated whole: a designator, as a whole array's name alone, or a constructor
abbrev pub is_designator : Expr → Bool
is_designator (Named x) = true
is_designator e = is_section e
