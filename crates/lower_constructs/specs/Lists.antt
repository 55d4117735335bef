-- The lowering of constructs over lists.
use Rattle.std.specs.Prelude.{⊤, List, [], ◌∷◌, Option, Some, None}
use Rattle.ws_tree.specs.declared.expr.Expr.{Expr}
use Rattle.ws_tree.specs.declared.stmt.Stmt.{Stmt}
use Rattle.ws_tree.specs.declared.stmt.Else.{Else, out-Else}
use Rattle.lower_values.specs.Lowerings.{Lowering, done, ◌>>◌}
use Rattle.lower_values.specs.Values.{value}
use Rattle.lower_assign.specs.Statements.{yielded}
use Rattle.lower_constructs.specs.Modules.{forall_mask, elsewhere, statement_list}

-- the region of ELSEWHERE's mask, if it has one
abbrev pub mask_of : Option Expr → List (Lowering ⊤)
mask_of None = []
mask_of (Some e) = yielded (value e) ∷ []

abbrev pub else_part : Else → Lowering ⊤
else_part e = elsewhere (out-Else e).line (out-Else e).mask (statement_list (out-Else e).block)

abbrev pub else_list : List Else → Lowering ⊤
else_list [] = done tt
else_list (e ∷ es) = do
  else_part e
  else_list es

-- the third region of a WHERE, if it has an ELSEWHERE
abbrev pub third_of : List Else → List (Lowering ⊤)
third_of [] = []
third_of (e ∷ es) = else_list (e ∷ es) ∷ []

abbrev pub forall_body : Option Expr → List Stmt → Lowering ⊤
forall_body mask block = do
  forall_mask mask
  statement_list block
