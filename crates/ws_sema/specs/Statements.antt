-- The rules on statements.
use Rattle.std.specs.Prelude.{ℕ, Bool, true, false, not, ◌&&◌, ◌||◌, nat_lt, nat_eq, if◌then◌else◌, List, [], ◌∷◌, ◌++◌, length, Option, Some, None, bytes_eq}
use Rattle.std.specs.List.{flat_map}
use Rattle.ws_base.specs.declared.refusal.RefusalKind.TheVariants as kind
use Rattle.ws_base.specs.declared.refusal.Refusal.{Refusal}
use Rattle.ws_tree.specs.declared.expr.Expr.{Expr}
use Rattle.ws_tree.specs.declared.expr.Expr.TheVariants.{TooDeep, Named, Part'}
use Rattle.ws_tree.specs.declared.stmt.Bound.{Bound}
use Rattle.ws_tree.specs.declared.stmt.Bound.TheVariants as bound
use Rattle.ws_tree.specs.declared.stmt.Index.{Index}
use Rattle.ws_tree.specs.declared.stmt.Part.{Part}
use Rattle.ws_tree.specs.declared.stmt.Stmt.{Stmt}
use Rattle.ws_tree.specs.declared.stmt.Body.{Body}
use Rattle.ws_tree.specs.declared.stmt.Body.TheVariants.{Assign, Masked', Forall', Loop', Allocate, Deallocate, Read, Shared', Unsupported, TooDeep as TooDeep'}
use Rattle.ws_tree.specs.declared.stmt.Else.{Else, Else'}
use Rattle.ws_tree.specs.Trees.{Stmts, end_stmts, more_stmts, Elses, end_elses, more_elses}
use Rattle.ws_types.specs.declared.types.Typed.{Typed}
use Rattle.ws_types.specs.declared.types.Standing.{Standing}
use Rattle.ws_types.specs.declared.types.Standing.TheVariants.{Declared, Active}
use Rattle.ws_types.specs.declared.types.Row.{Row}
use Rattle.ws_sema.specs.declared.within.Within.{Within}
use Rattle.ws_sema.specs.declared.within.Within.TheVariants as within
use Rattle.ws_types.specs.Kinds.{when}
use Rattle.ws_types.specs.Names.{Name, standing_of, name_type, name_faults, is_constant, is_active, is_no_allocatable, target_faults, target_type}
use Rattle.ws_types.specs.Operations.{is_other_type, is_above, scalar_faults, no_subscripts}
use Rattle.ws_types.specs.Expressions.{typed, faults, subscripts}
use Rattle.ws_types.specs.Lists.{given_faults}
use Rattle.ws_types.specs.Tables.{barred, inner}

-- ---- sides

abbrev pub target_standing : List Row → Expr → Option Standing
target_standing t (Named x) = standing_of t x
target_standing t (Part' x _ subs) = standing_of t x
target_standing t _ = None

abbrev pub is_designator : Expr → Bool
is_designator (Named x) = true
is_designator (Part' x _ subs) = true
is_designator TooDeep = true
is_designator _ = false

-- a variable or part of it that is assigned or read
abbrev pub left_faults : List Row → Bool → ℕ → Expr → List Refusal
left_faults t inside line e = faults t inside line e ++ target_faults line (target_standing t e) ++ when (not (is_designator e)) line kind.Unsupported

abbrev pub left_type : List Row → Bool → Expr → Option Typed
left_type t inside e = target_type (target_standing t e) (typed t inside e)

-- Whether a statement stands in a FORALL, in a WHERE or FORALL, directly in a workshare region, and outside all of these. What a place is to
-- the rules stands here once for each.
pub record Place : Type 0 where
  pub inside : Bool
  pub masked : Bool
  pub shared : Bool
  pub outside : Bool

abbrev pub nowhere : Place
nowhere = record { inside = false; masked = false; shared = false; outside = false }

abbrev pub place_of : Within → Place
place_of within.Outside = record nowhere { outside = true }
place_of within.Shared = record nowhere { shared = true }
place_of (within.Masked line rank) = record nowhere { masked = true }
place_of within.Forall = record nowhere { inside = true; masked = true }

abbrev pub is_inside : Within → Bool
is_inside w = (place_of w).inside

abbrev pub is_outside : Within → Bool
is_outside w = (place_of w).outside

abbrev pub types_differ : Option Typed → Option Typed → Bool
types_differ (Some a) b = is_other_type a.truth b
types_differ None b = false

-- a right side whose rank is not 0 and not the left side's
abbrev pub is_wrong_right : Option Typed → Option Typed → Bool
is_wrong_right (Some a) (Some b) = nat_lt 0 b.rank && not (nat_eq a.rank b.rank)
is_wrong_right _ _ = false

abbrev pub has_no_subscripts : Expr → Bool
has_no_subscripts (Named x) = true
has_no_subscripts _ = false

abbrev pub is_other_rank : Option ℕ → Option Typed → Bool
is_other_rank (Some rank) (Some t) = not (nat_eq rank t.rank)
is_other_rank _ _ = false

-- the mask that controls an assignment has its rank; a break of this has the mask's line
unfoldable pub control_faults : Within → Option Typed → List Refusal
control_faults (within.Masked line rank) left = when (is_other_rank rank left) line kind.RankWrong
control_faults within.Outside left = []
control_faults within.Shared left = []
control_faults within.Forall left = []

unfoldable pub sides_faults : Within → ℕ → Bool → Option Typed → Option Typed → List Refusal
sides_faults w line bare a b =
    when (is_inside w && (is_above 0 a || is_above 0 b)) line kind.Unsupported
    ++ when (types_differ a b) line kind.TypeWrong
    ++ when (is_wrong_right a b || is_inside w && bare) line kind.RankWrong

abbrev pub assign_faults : List Row → Within → ℕ → Expr → Expr → List Refusal
assign_faults t w line left right =
    left_faults t (is_inside w) line left
    ++ faults t (is_inside w) line right
    ++ sides_faults w line (has_no_subscripts left) (left_type t (is_inside w) left) (typed t (is_inside w) right)
    ++ control_faults w (left_type t (is_inside w) left)

-- ---- masks

abbrev pub rank_of : Option Typed → Option ℕ
rank_of (Some t) = Some t.rank
rank_of None = None

abbrev pub is_rank_0 : Option Typed → Bool
is_rank_0 (Some t) = nat_eq t.rank 0
is_rank_0 None = false

abbrev pub enclosing_rank : Within → Option ℕ
enclosing_rank (within.Masked line rank) = rank
enclosing_rank within.Outside = None
enclosing_rank within.Shared = None
enclosing_rank within.Forall = None

-- the mask of a WHERE or ELSEWHERE inside a mask of this rank
unfoldable pub mask_faults : ℕ → Option ℕ → Option Typed → List Refusal
mask_faults line enclosing m =
    when (is_other_type true m) line kind.TypeWrong
    ++ when (is_rank_0 m || is_other_rank enclosing m) line kind.RankWrong

-- ---- headers, bounds and items

-- a DO variable or index name: an INTEGER scalar variable
unfoldable pub variable_faults : ℕ → Option Standing → List Refusal
variable_faults line s = name_faults line s ++ when (is_constant s) line kind.TypeWrong ++ scalar_faults line (name_type s)

unfoldable pub loop_faults : Within → ℕ → Option Standing → List Refusal
loop_faults w line s = variable_faults line s ++ when (is_active s) line kind.DoVariable

abbrev pub scalar_expr_faults : List Row → ℕ → Expr → List Refusal
scalar_expr_faults t line e = faults t false line e ++ scalar_faults line (typed t false e)

abbrev pub is_listed : List Index → Name → Bool
is_listed [] x = false
is_listed (i ∷ is) x = bytes_eq i.name x || is_listed is x

abbrev pub index_faults : List Row → List Row → ℕ → List Index → Index → List Refusal
index_faults t barred line before i =
    variable_faults line (standing_of t i.name)
    ++ when (is_listed before i.name) line kind.DoVariable
    ++ scalar_expr_faults barred line i.l
    ++ scalar_expr_faults barred line i.u
    ++ given_faults barred false line i.s

abbrev pub header_faults : List Row → List Row → ℕ → List Index → List Index → List Refusal
header_faults t barred line before [] = []
header_faults t barred line before (i ∷ is) = index_faults t barred line before i ++ header_faults t barred line (before ++ i ∷ []) is

-- the mask of a FORALL: a LOGICAL of rank 0
unfoldable pub scalar_mask_faults : ℕ → Option Typed → List Refusal
scalar_mask_faults line m = when (is_other_type true m) line kind.TypeWrong ++ when (is_above 0 m) line kind.RankWrong

abbrev pub forall_mask_faults : List Row → ℕ → Option Expr → List Refusal
forall_mask_faults t line None = []
forall_mask_faults t line (Some e) = faults t true line e ++ scalar_mask_faults line (typed t true e)

abbrev pub has_vector : List Row → Expr → Bool
has_vector t (Part' x _ subs) = (subscripts t false no_subscripts subs).vectors
has_vector t _ = false

abbrev pub item_faults : List Row → ℕ → Expr → List Refusal
item_faults t line e = left_faults t false line e ++ when (has_vector t e) line kind.RankWrong

abbrev pub items_faults : List Row → ℕ → List Expr → List Refusal
items_faults t line = flat_map (item_faults t line)

abbrev pub is_other_bounds : Option Standing → ℕ → Bool
is_other_bounds (Some (Declared e)) count = e.allocatable && not (nat_eq e.rank count)
is_other_bounds _ count = false

unfoldable pub allocatable_faults : ℕ → Option Standing → List Refusal
allocatable_faults line s = name_faults line s ++ when (is_no_allocatable s) line kind.NotAllocatable

abbrev pub allocated_bound_faults : List Row → ℕ → Bound → List Refusal
allocated_bound_faults t line (bound.Upper u) = scalar_expr_faults t line u
allocated_bound_faults t line (bound.Both l u) = scalar_expr_faults t line l ++ scalar_expr_faults t line u
allocated_bound_faults t line bound.Deferred = when true line kind.NotAllocatable

abbrev pub allocated_bounds_faults : List Row → ℕ → List Bound → List Refusal
allocated_bounds_faults t line = flat_map (allocated_bound_faults t line)

abbrev pub allocation_faults : List Row → ℕ → Part → List Refusal
allocation_faults t line p =
    allocatable_faults line (standing_of t p.name)
    ++ when (is_other_bounds (standing_of t p.name) (length p.shape)) line kind.RankWrong
    ++ allocated_bounds_faults t line p.shape

abbrev pub allocations_faults : List Row → ℕ → List Part → List Refusal
allocations_faults t line = flat_map (allocation_faults t line)

abbrev pub deallocation_faults : List Row → ℕ → Name → List Refusal
deallocation_faults t line x = allocatable_faults line (standing_of t x)

abbrev pub deallocations_faults : List Row → ℕ → List Name → List Refusal
deallocations_faults t line = flat_map (deallocation_faults t line)

-- ---- where statements may stand

abbrev pub is_masked : Within → Bool
is_masked w = (place_of w).masked

abbrev pub is_shared : Within → Bool
is_shared w = (place_of w).shared

-- DO, ALLOCATE, DEALLOCATE or READ in a workshare block
unfoldable pub serial_faults : Within → ℕ → List Refusal
serial_faults w line = when (is_shared w) line kind.NotInWorkshare

-- in the block of a DO its variable is active
abbrev pub activated : List Row → Name → Option Standing → List Row
activated t x (Some (Declared e)) = record { name = x; standing = Active e } ∷ t
activated t x _ = t

abbrev pub with_active : List Row → Name → List Row
with_active t x = activated t x (standing_of t x)

abbrev pub else_mask_faults : List Row → ℕ → Option ℕ → Option Expr → List Refusal
else_mask_faults t line first None = []
else_mask_faults t line first (Some e) = faults t false line e ++ mask_faults line first (typed t false e)

-- what controls the block of an ELSEWHERE: its own mask, or else that of the WHERE
abbrev pub else_control : List Row → ℕ → ℕ → Option ℕ → Option Expr → Within
else_control t line first_line first None = within.Masked first_line first
else_control t line first_line first (Some e) = within.Masked line (rank_of (typed t false e))

abbrev pub mask_rank : List Row → Expr → Option ℕ
mask_rank t mask = rank_of (typed t false mask)

-- what the mask of a WHERE controls
abbrev pub under : List Row → ℕ → Expr → Within
under t line mask = within.Masked line (mask_rank t mask)

abbrev pub where_mask_faults : List Row → Within → ℕ → Expr → List Refusal
where_mask_faults t w line mask = faults t false line mask ++ mask_faults line (enclosing_rank w) (typed t false mask)

abbrev pub forall_header_faults : List Row → ℕ → List Index → Option Expr → List Refusal
forall_header_faults t line is mask = header_faults t (barred t is) line [] is ++ forall_mask_faults (inner t is) line mask

-- the variable and the expressions of a DO
abbrev pub loop_header_faults : List Row → Within → ℕ → Name → Expr → Expr → Option Expr → List Refusal
loop_header_faults t w line x l u s = serial_faults w line ++ loop_faults w line (standing_of t x) ++ scalar_expr_faults t line l ++ scalar_expr_faults t line u ++ given_faults t false line s

abbrev pub serial_parts : List Row → ℕ → Body → List Refusal
serial_parts t line (Allocate ps) = allocations_faults t line ps
serial_parts t line (Deallocate xs) = deallocations_faults t line xs
serial_parts t line (Read es) = items_faults t line es
serial_parts t line (Assign left right) = []
serial_parts t line (Masked' mask _ block _ rest) = []
serial_parts t line (Forall' is mask _ block) = []
serial_parts t line (Loop' x l u s _ block) = []
serial_parts t line (Shared' _ block) = []
serial_parts t line Unsupported = []
serial_parts t line TooDeep' = []

-- ALLOCATE, DEALLOCATE or READ
abbrev pub serial_body_faults : List Row → Within → ℕ → Body → List Refusal
serial_body_faults t w line body = if is_masked w then when true line kind.Unsupported else (serial_faults w line ++ serial_parts t line body)

-- A construct that may not stand where it does is not looked into.
abbrev mutual
  pub block_faults : {m : _} → List Row → Within → Stmts m → List Refusal
  block_faults t w end_stmts = []
  block_faults t w (more_stmts line body rest) = body_faults t w line body ++ block_faults t w rest

  pub body_faults : List Row → Within → ℕ → Body → List Refusal
  body_faults t w line (Assign left right) = assign_faults t w line left right
  body_faults t w line (Masked' mask _ block _ rest) =
      if is_inside w then when true line kind.Unsupported
      else (where_mask_faults t w line mask ++ block_faults t (under t line mask) block ++ elses_faults t line (mask_rank t mask) rest)
  body_faults t w line (Forall' is mask _ block) =
      if is_masked w then when true line kind.Unsupported
      else (forall_header_faults t line is mask ++ block_faults (inner t is) within.Forall block)
  body_faults t w line (Loop' x l u s _ block) =
      if is_masked w then when true line kind.Unsupported
      else (loop_header_faults t w line x l u s ++ block_faults (with_active t x) w block)
  body_faults t w line (Allocate ps) = serial_body_faults t w line (Allocate ps)
  body_faults t w line (Deallocate xs) = serial_body_faults t w line (Deallocate xs)
  body_faults t w line (Read es) = serial_body_faults t w line (Read es)
  body_faults t w line (Shared' _ block) = if is_outside w then block_faults t within.Shared block else when true line kind.Unsupported
  body_faults t w line Unsupported = when true line kind.Unsupported
  body_faults t w line TooDeep' = when true line kind.OverLimit

  pub elses_faults : {m : _} → List Row → ℕ → Option ℕ → Elses m → List Refusal
  elses_faults t line first end_elses = []
  elses_faults t line first (more_elses e es) = else_faults t line first e ++ elses_faults t line first es

  pub else_faults : List Row → ℕ → Option ℕ → Else → List Refusal
  else_faults t line first (Else' own mask _ block) = else_mask_faults t own first mask ++ block_faults t (else_control t own line first mask) block

-- ---- the same over lists

abbrev pub stmt_faults : List Row → Within → Stmt → List Refusal
stmt_faults t w s = body_faults t w s.line s.body

abbrev pub stmts_faults : List Row → Within → List Stmt → List Refusal
stmts_faults t w = flat_map (stmt_faults t w)

abbrev pub else_list_faults : List Row → ℕ → Option ℕ → List Else → List Refusal
else_list_faults t line first = flat_map (else_faults t line first)
