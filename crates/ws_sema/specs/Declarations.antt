-- The rules on declarations.
use Rattle.std.specs.Prelude.{ℕ, ◌*◌, Bool, true, false, not, ◌&&◌, ◌||◌, nat_lt, nat_le, List, [], ◌∷◌, ◌++◌, map, length, Option, Some, None, ℤ, pos, bytes_eq}
use Rattle.std.specs.List.{flat_map}
use Rattle.ws_base.specs.declared.refusal.RefusalKind.TheVariants as kind
use Rattle.ws_base.specs.declared.refusal.Refusal.{Refusal}
use Rattle.ws_space.specs.declared.shape.TheConstants.{ELEMENT_LIMIT}
use Rattle.ws_space.specs.Shapes.{declared_dim}
pub use Rattle.ws_space.specs.Shapes.{natural}
use Rattle.ws_tree.specs.declared.expr.Expr.{Expr}
use Rattle.ws_tree.specs.declared.stmt.Bound.{Bound}
use Rattle.ws_tree.specs.declared.stmt.Bound.TheVariants as bound
use Rattle.ws_tree.specs.declared.stmt.Decl.{Decl}
use Rattle.ws_tree.specs.Words.{is_keyword}
use Rattle.ws_types.specs.declared.constant.Constant.{Constant}
use Rattle.ws_types.specs.declared.constant.Constancy.{Constancy}
use Rattle.ws_types.specs.declared.types.Row.{Row}
use Rattle.ws_types.specs.declared.types.Standing.TheVariants.{Declared}
use Rattle.ws_types.specs.Kinds.{when}
use Rattle.ws_types.specs.Names.{Name}
use Rattle.ws_types.specs.Constants.{constancy, truth_constancy, constant_faults, value_of}

abbrev pub name_limit : ℕ
name_limit = 64

abbrev pub element_limit : ℕ
element_limit = ELEMENT_LIMIT

abbrev pub rank_limit : ℕ
rank_limit = 3

abbrev pub is_declared : List Decl → Name → Bool
is_declared [] x = false
is_declared (d ∷ ds) x = bytes_eq d.name x || is_declared ds x

-- a keyword, a name declared twice, more than 64 names
unfoldable pub heading_faults : List Decl → Decl → List Refusal
heading_faults before d =
    when (is_keyword d.name) d.line kind.Unsupported
    ++ when (is_declared before d.name) d.line kind.Redeclared
    ++ when (nat_le name_limit (length before)) d.line kind.OverLimit

abbrev pub is_some : Option Expr → Bool
is_some (Some e) = true
is_some None = false

abbrev pub is_empty : List Bound → Bool
is_empty [] = true
is_empty (b ∷ bs) = false

-- the value of a named constant
abbrev pub declared_constancy : List Constant → Bool → Expr → Constancy
declared_constancy cs true e = truth_constancy e
declared_constancy cs false e = constancy cs e

abbrev pub value_faults : List Constant → ℕ → Bool → Option Expr → List Refusal
value_faults cs line truth None = []
value_faults cs line truth (Some e) = constant_faults line (declared_constancy cs truth e)

unfoldable pub bound_faults : List Constant → ℕ → Bool → Bound → List Refusal
bound_faults cs line allocatable (bound.Upper u) = constant_faults line (constancy cs u) ++ when allocatable line kind.NotAllocatable
bound_faults cs line allocatable (bound.Both l u) = constant_faults line (constancy cs l) ++ constant_faults line (constancy cs u) ++ when allocatable line kind.NotAllocatable
bound_faults cs line allocatable bound.Deferred = when (not allocatable) line kind.NotAllocatable

abbrev pub bounds_faults : List Constant → ℕ → Bool → List Bound → List Refusal
bounds_faults cs line allocatable = flat_map (bound_faults cs line allocatable)

abbrev pub extent_between : Option ℤ → Option ℤ → Option ℕ
extent_between (Some l) (Some u) = Some (declared_dim l u).extent
extent_between _ _ = None

-- the extent of a dimension, where its bounds have values
abbrev pub extent_of : List Constant → Bound → Option ℕ
extent_of cs (bound.Upper u) = extent_between (Some (pos 1)) (value_of (constancy cs u))
extent_of cs (bound.Both l u) = extent_between (value_of (constancy cs l)) (value_of (constancy cs u))
extent_of cs bound.Deferred = None

abbrev pub times : Option ℕ → Option ℕ → Option ℕ
times (Some m) (Some n) = Some (m * n)
times _ _ = None

-- so many elements, times the extents of these dimensions, are too many
abbrev pub is_too_large : List Constant → Option ℕ → List Bound → Bool
is_too_large cs None bs = false
is_too_large cs (Some n) [] = nat_lt element_limit n
is_too_large cs (Some n) (b ∷ bs) = is_too_large cs (times (Some n) (extent_of cs b)) bs

-- an allocatable without shape, an array constant, a rank above 3, too many elements
abbrev pub is_left_out : Bool → Bool → Bool → Bool
is_left_out allocatable constant scalar = allocatable && scalar || constant && not scalar

abbrev pub is_large : List Constant → List Bound → Bool
is_large cs bs = nat_lt rank_limit (length bs) || is_too_large cs (Some 1) bs

unfoldable pub shape_faults : List Constant → Decl → List Refusal
shape_faults cs d =
    when (is_left_out d.allocatable (is_some d.constant) (is_empty d.shape)) d.line kind.Unsupported
    ++ when (is_large cs d.shape) d.line kind.OverLimit

abbrev pub decl_faults : List Decl → List Constant → Decl → List Refusal
decl_faults before cs d = heading_faults before d ++ value_faults cs d.line d.truth d.constant ++ bounds_faults cs d.line d.allocatable d.shape ++ shape_faults cs d

-- what is known after a declaration
abbrev pub constant_row : List Constant → Name → Expr → Constant
constant_row cs x e = record { name = x; value = value_of (constancy cs e) }

abbrev pub constants_from : List Constant → Name → Bool → Option Expr → List Constant
constants_from cs x true e = cs
constants_from cs x false None = cs
constants_from cs x false (Some e) = cs ++ constant_row cs x e ∷ []

abbrev pub with_constant : List Constant → Decl → List Constant
with_constant cs d = constants_from cs d.name d.truth d.constant

-- constants are known from their declaration on
abbrev pub decls_faults : List Decl → List Constant → List Decl → List Refusal
decls_faults before cs [] = []
decls_faults before cs (d ∷ ds) = decl_faults before cs d ++ decls_faults (before ++ d ∷ []) (with_constant cs d) ds

abbrev pub constants_after : List Constant → List Decl → List Constant
constants_after cs [] = cs
constants_after cs (d ∷ ds) = constants_after (with_constant cs d) ds

abbrev pub row_of : Decl → Row
row_of d = record { name = d.name; standing = Declared (record { truth = d.truth; rank = length d.shape; constant = is_some d.constant; allocatable = d.allocatable }) }

abbrev pub table_of : List Decl → List Row
table_of ds = map row_of ds
