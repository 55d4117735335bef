-- The limits on what one statement, one region, or the expressions of one DO, ALLOCATE or READ may count. A break has their first line.
use Rattle.std.specs.Prelude.{ℕ, ◌+◌, max, Bool, true, false, ◌||◌, nat_lt, if◌then◌else◌, List, [], ◌∷◌, ◌++◌, Option}
use Rattle.std.specs.List.{flat_map}
use Rattle.ws_base.specs.declared.refusal.RefusalKind.TheVariants as kind
use Rattle.ws_base.specs.declared.refusal.Refusal.{Refusal}
use Rattle.ws_tree.specs.declared.expr.Expr.{Expr}
use Rattle.ws_tree.specs.declared.stmt.Bound.{Bound}
use Rattle.ws_tree.specs.declared.stmt.Bound.TheVariants as bound
use Rattle.ws_tree.specs.declared.stmt.Part.{Part}
use Rattle.ws_tree.specs.declared.stmt.Stmt.{Stmt}
use Rattle.ws_tree.specs.declared.stmt.Body.{Body}
use Rattle.ws_tree.specs.declared.stmt.Body.TheVariants.{Assign, Masked', Forall', Loop', Allocate, Deallocate, Read, Shared', Unsupported, TooDeep}
use Rattle.ws_tree.specs.Trees.{Stmts, end_stmts, more_stmts}
use Rattle.ws_types.specs.declared.types.Row.{Row}
use Rattle.ws_types.specs.Kinds.{when}
use Rattle.ws_counts.specs.declared.tally.Piece.{Piece}
use Rattle.ws_counts.specs.Pieces.{pieces, given_pieces}
use Rattle.ws_counts.specs.Counts.{parts_of, phases_of, temporaries_of, statement_steps}

abbrev pub part_limit : ℕ
part_limit = 1024

abbrev pub phase_limit : ℕ
phase_limit = 512

abbrev pub temporary_limit : ℕ
temporary_limit = 64

-- ---- the sum of the phases of several statements, and the greatest number of temporaries

abbrev pub all_phases : List (List (List Piece)) → ℕ
all_phases [] = 0
all_phases (ss ∷ more) = phases_of ss + all_phases more

abbrev pub all_temporaries : List (List (List Piece)) → ℕ
all_temporaries [] = 0
all_temporaries (ss ∷ more) = max (temporaries_of ss) (all_temporaries more)

unfoldable pub parts_faults : ℕ → List (List Piece) → List Refusal
parts_faults line ss = when (nat_lt part_limit (parts_of ss)) line kind.OverLimit

unfoldable pub steps_faults : ℕ → List (List (List Piece)) → List Refusal
steps_faults line all = when (nat_lt phase_limit (all_phases all) || nat_lt temporary_limit (all_temporaries all)) line kind.OverLimit

-- The steps of a statement in a region count for the region.
abbrev pub own_steps_faults : Bool → ℕ → List (List Piece) → List Refusal
own_steps_faults true line ss = []
own_steps_faults false line ss = steps_faults line (ss ∷ [])

abbrev pub statement_faults : Bool → ℕ → List (List Piece) → List Refusal
statement_faults shared line ss = parts_faults line ss ++ own_steps_faults shared line ss

-- ---- the expressions of a DO, ALLOCATE or READ, which are one step

abbrev pub expressions_faults : ℕ → List Piece → List Refusal
expressions_faults line ps = statement_faults false line (ps ∷ [])

abbrev pub loop_pieces : List Row → Expr → Expr → Option Expr → List Piece
loop_pieces t l u s = pieces t false false l ++ pieces t false false u ++ given_pieces t false false s

abbrev pub bound_pieces : List Row → Bound → List Piece
bound_pieces t (bound.Upper u) = pieces t false false u
bound_pieces t (bound.Both l u) = pieces t false false l ++ pieces t false false u
bound_pieces t bound.Deferred = []

abbrev pub part_pieces : List Row → Part → List Piece
part_pieces t p = flat_map (bound_pieces t) p.shape

abbrev pub allocate_pieces : List Row → List Part → List Piece
allocate_pieces t = flat_map (part_pieces t)

abbrev pub read_pieces : List Row → List Expr → List Piece
read_pieces t = flat_map (pieces t false false)

-- ---- statements. `shared` says that they stand in a region. A DO changes no type, so the table stays what it is.

abbrev mutual
  pub block_limits : {m : _} → List Row → Bool → Stmts m → List Refusal
  block_limits t shared end_stmts = []
  block_limits t shared (more_stmts line body rest) = body_limits t shared line body ++ block_limits t shared rest

  pub body_limits : List Row → Bool → ℕ → Body → List Refusal
  body_limits t shared line (Assign left right) = statement_faults shared line (statement_steps t line (Assign left right))
  body_limits t shared line (Masked' mask h block g rest) = statement_faults shared line (statement_steps t line (Masked' mask h block g rest))
  body_limits t shared line (Forall' is mask h block) = statement_faults shared line (statement_steps t line (Forall' is mask h block))
  body_limits t shared line (Loop' x l u s _ block) = expressions_faults line (loop_pieces t l u s) ++ block_limits t shared block
  body_limits t shared line (Allocate ps) = expressions_faults line (allocate_pieces t ps)
  body_limits t shared line (Deallocate xs) = []
  body_limits t shared line (Read es) = expressions_faults line (read_pieces t es)
  body_limits t shared line (Shared' _ block) = if shared then [] else (block_limits t true block ++ steps_faults line (block_steps t block))
  body_limits t shared line Unsupported = []
  body_limits t shared line TooDeep = []

  -- the steps of each statement of a region, also of one in a DO
  pub block_steps : {m : _} → List Row → Stmts m → List (List (List Piece))
  block_steps t end_stmts = []
  block_steps t (more_stmts line body rest) = body_steps t line body ++ block_steps t rest

  pub body_steps : List Row → ℕ → Body → List (List (List Piece))
  body_steps t line (Assign left right) = statement_steps t line (Assign left right) ∷ []
  body_steps t line (Masked' mask h block g rest) = statement_steps t line (Masked' mask h block g rest) ∷ []
  body_steps t line (Forall' is mask h block) = statement_steps t line (Forall' is mask h block) ∷ []
  body_steps t line (Loop' x l u s _ block) = block_steps t block
  body_steps t line (Allocate ps) = []
  body_steps t line (Deallocate xs) = []
  body_steps t line (Read es) = []
  body_steps t line (Shared' _ block) = []
  body_steps t line Unsupported = []
  body_steps t line TooDeep = []

-- ---- the same over lists

abbrev pub stmt_limits : List Row → Bool → Stmt → List Refusal
stmt_limits t shared s = body_limits t shared s.line s.body

abbrev pub stmts_limits : List Row → Bool → List Stmt → List Refusal
stmts_limits t shared = flat_map (stmt_limits t shared)

abbrev pub stmt_steps : List Row → Stmt → List (List (List Piece))
stmt_steps t s = body_steps t s.line s.body

abbrev pub stmts_steps : List Row → List Stmt → List (List (List Piece))
stmts_steps t = flat_map (stmt_steps t)
