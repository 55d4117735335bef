-- What is counted of a statement, in the order of the text.
use Rattle.std.specs.Prelude.{Bool, true, false, not, ◌&&◌, nat_eq, if◌then◌else◌, List, [], ◌∷◌, ◌++◌, Option, Some, None}
use Rattle.std.specs.List.{flat_map}
use Rattle.ws_base.specs.declared.op.CallWord.{CallWord}
use Rattle.ws_tree.specs.declared.expr.Expr.{Expr}
use Rattle.ws_tree.specs.declared.expr.Expr.TheVariants.{Number, TooWide, TooDeep, Truth, Named, Part', Call', Vector'}
use Rattle.ws_tree.specs.declared.expr.Sub.{Sub}
use Rattle.ws_tree.specs.declared.expr.Sub.TheVariants as sub
use Rattle.ws_tree.specs.declared.stmt.Index.{Index}
use Rattle.ws_tree.specs.declared.stmt.Body.{Body}
use Rattle.ws_tree.specs.declared.stmt.Body.TheVariants.{Assign, Masked', Forall', Loop', Allocate, Deallocate, Read, Shared', Unsupported, TooDeep as TooDeep'}
use Rattle.ws_tree.specs.declared.stmt.Else.{Else, Else'}
use Rattle.ws_tree.specs.Trees.{Exprs, end_exprs, more_exprs, Subs, end_subs, more_subs, Given, absent, given, Stmts, end_stmts, more_stmts, Elses, end_elses, more_elses, paren, unary, binary}
use Rattle.ws_types.specs.declared.types.Typed.{Typed}
use Rattle.ws_types.specs.declared.types.Row.{Row}
use Rattle.ws_types.specs.Operations.{is_reduction}
use Rattle.ws_types.specs.Expressions.{typed}
use Rattle.ws_types.specs.Sections.{is_designator}
use Rattle.ws_types.specs.Tables.{barred, inner}
use Rattle.ws_counts.specs.declared.tally.Piece.{Piece}
use Rattle.ws_counts.specs.declared.tally.Piece.TheVariants.{Part, Reduction, Whole, Mask, Assigned}

-- ---- expressions. `inside` says that the expression stands in the mask or body of a FORALL, and `mask` that it stands in a mask.

-- an INTEGER of rank 1
abbrev pub is_vector : Option Typed → Bool
is_vector None = false
is_vector (Some t) = not t.truth && nat_eq t.rank 1

-- a vector subscript that is evaluated whole
unfoldable pub is_whole : List Row → Bool → Expr → Bool
is_whole t inside e = not (is_designator e) && is_vector (typed t inside e)

unfoldable pub call_pieces : CallWord → List Piece
call_pieces w = if is_reduction w then Part ∷ Reduction ∷ [] else Part ∷ []

unfoldable pub subscript_pieces : Bool → Bool → List Piece
subscript_pieces mask whole = if whole then Part ∷ Whole mask ∷ [] else Part ∷ []

-- Operators, calls, their arguments, constructor items and subscripts are parts; a triplet is one subscript.
abbrev mutual
  pub pieces : List Row → Bool → Bool → Expr → List Piece
  pieces t inside mask (Part' x _ subs) = subs_pieces t inside mask subs
  pieces t inside mask (Call' w _ es) = call_pieces w ++ all_pieces t inside mask es
  pieces t inside mask (Vector' _ es) = all_pieces t inside mask es
  pieces t inside mask (paren e) = pieces t inside mask e
  pieces t inside mask (unary op e) = Part ∷ pieces t inside mask e
  pieces t inside mask (binary op a b) = Part ∷ (pieces t inside mask a ++ pieces t inside mask b)
  pieces t inside mask (Number n) = []
  pieces t inside mask TooWide = []
  pieces t inside mask TooDeep = []
  pieces t inside mask (Truth b) = []
  pieces t inside mask (Named x) = []

  pub all_pieces : {m : _} → List Row → Bool → Bool → Exprs m → List Piece
  all_pieces t inside mask end_exprs = []
  all_pieces t inside mask (more_exprs e es) = Part ∷ (pieces t inside mask e ++ all_pieces t inside mask es)

  pub subs_pieces : {m : _} → List Row → Bool → Bool → Subs m → List Piece
  subs_pieces t inside mask end_subs = []
  subs_pieces t inside mask (more_subs x xs) = sub_pieces t inside mask x ++ subs_pieces t inside mask xs

  pub sub_pieces : List Row → Bool → Bool → Sub → List Piece
  sub_pieces t inside mask (sub.One e) = subscript_pieces mask (is_whole t inside e) ++ pieces t inside mask e
  sub_pieces t inside mask (sub.Range' l u s) = Part ∷ (held_pieces t inside mask l ++ held_pieces t inside mask u ++ held_pieces t inside mask s)

  pub held_pieces : List Row → Bool → Bool → Given → List Piece
  held_pieces t inside mask absent = []
  held_pieces t inside mask (given e) = pieces t inside mask e

-- an expression that may be omitted
abbrev pub given_pieces : List Row → Bool → Bool → Option Expr → List Piece
given_pieces t inside mask None = []
given_pieces t inside mask (Some e) = pieces t inside mask e

-- ---- masks, assignments and headers

abbrev pub mask_pieces : List Row → Bool → Expr → List Piece
mask_pieces t inside e = Mask ∷ pieces t inside true e

abbrev pub given_mask_pieces : List Row → Bool → Option Expr → List Piece
given_mask_pieces t inside None = []
given_mask_pieces t inside (Some e) = mask_pieces t inside e

-- the two sides, after which the step ends
abbrev pub assigned_pieces : List Row → Bool → Expr → Expr → List Piece
assigned_pieces t inside left right = pieces t inside false left ++ pieces t inside false right ++ Assigned ∷ []

abbrev pub index_pieces : List Row → Index → List Piece
index_pieces t i = Part ∷ (pieces t false false i.l ++ pieces t false false i.u ++ given_pieces t false false i.s)

abbrev pub indexes_pieces : List Row → List Index → List Piece
indexes_pieces t = flat_map (index_pieces t)

abbrev pub header_pieces : List Row → List Index → Option Expr → List Piece
header_pieces t is mask = indexes_pieces (barred t is) is ++ given_mask_pieces (inner t is) true mask

-- ---- an assignment or WHERE, and a FORALL

-- An ELSEWHERE without a mask is the last one.
abbrev pub unless_last : Else → List Piece → List Piece
unless_last (Else' line None _ block) ps = []
unless_last (Else' line (Some test) _ block) ps = ps

abbrev mutual
  pub where_pieces : List Row → Bool → Body → List Piece
  where_pieces t inside (Assign left right) = assigned_pieces t inside left right
  where_pieces t inside (Masked' test _ block _ rest) = mask_pieces t inside test ++ block_pieces t inside block ++ elses_pieces t inside rest
  where_pieces t inside (Forall' is mask _ block) = []
  where_pieces t inside (Loop' x l u s _ block) = []
  where_pieces t inside (Allocate ps) = []
  where_pieces t inside (Deallocate xs) = []
  where_pieces t inside (Read es) = []
  where_pieces t inside (Shared' _ block) = []
  where_pieces t inside Unsupported = []
  where_pieces t inside TooDeep' = []

  pub block_pieces : {m : _} → List Row → Bool → Stmts m → List Piece
  block_pieces t inside end_stmts = []
  block_pieces t inside (more_stmts line body rest) = where_pieces t inside body ++ block_pieces t inside rest

  pub elses_pieces : {m : _} → List Row → Bool → Elses m → List Piece
  elses_pieces t inside end_elses = []
  elses_pieces t inside (more_elses e es) = else_pieces t inside e ++ unless_last e (elses_pieces t inside es)

  pub else_pieces : List Row → Bool → Else → List Piece
  else_pieces t inside (Else' line test _ block) = given_mask_pieces t inside test ++ block_pieces t inside block

-- A WHERE or FORALL in a FORALL is refused, and counts for it.
abbrev mutual
  pub statement_pieces : List Row → Bool → Body → List Piece
  statement_pieces t inside (Forall' is mask _ block) = header_pieces t is mask ++ forall_pieces (inner t is) block
  statement_pieces t inside body = where_pieces t inside body

  pub forall_pieces : {m : _} → List Row → Stmts m → List Piece
  forall_pieces t end_stmts = []
  forall_pieces t (more_stmts line body rest) = statement_pieces t true body ++ forall_pieces t rest
