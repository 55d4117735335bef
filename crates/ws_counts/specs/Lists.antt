-- The same over lists.
use Rattle.std.specs.Prelude.{Bool, true, List, [], ◌∷◌, ◌++◌}
use Rattle.std.specs.List.{flat_map}
use Rattle.ws_tree.specs.declared.expr.Expr.{Expr}
use Rattle.ws_tree.specs.declared.expr.Sub.{Sub}
use Rattle.ws_tree.specs.declared.stmt.Stmt.{Stmt}
use Rattle.ws_tree.specs.declared.stmt.Else.{Else}
use Rattle.ws_types.specs.declared.types.Row.{Row}
use Rattle.ws_counts.specs.declared.tally.Piece.{Piece}
use Rattle.ws_counts.specs.declared.tally.Piece.TheVariants.{Part}
use Rattle.ws_counts.specs.Pieces.{pieces, sub_pieces, where_pieces, else_pieces, unless_last, statement_pieces}

abbrev pub item_pieces : List Row → Bool → Bool → Expr → List Piece
item_pieces t inside mask e = Part ∷ pieces t inside mask e

abbrev pub all_pieces : List Row → Bool → Bool → List Expr → List Piece
all_pieces t inside mask = flat_map (item_pieces t inside mask)

abbrev pub subs_pieces : List Row → Bool → Bool → List Sub → List Piece
subs_pieces t inside mask = flat_map (sub_pieces t inside mask)

abbrev pub stmt_pieces : List Row → Bool → Stmt → List Piece
stmt_pieces t inside s = where_pieces t inside s.body

abbrev pub block_pieces : List Row → Bool → List Stmt → List Piece
block_pieces t inside = flat_map (stmt_pieces t inside)

abbrev pub elses_pieces : List Row → Bool → List Else → List Piece
elses_pieces t inside [] = []
elses_pieces t inside (e ∷ es) = else_pieces t inside e ++ unless_last e (elses_pieces t inside es)

abbrev pub part_pieces : List Row → Stmt → List Piece
part_pieces t s = statement_pieces t true s.body

abbrev pub forall_pieces : List Row → List Stmt → List Piece
forall_pieces t = flat_map (part_pieces t)
