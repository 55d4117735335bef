-- What names stand for, and the rules on their use.
use Rattle.std.specs.Prelude.{ℕ, Bool, true, false, not, ◌||◌, if◌then◌else◌, List, [], ◌∷◌, ◌++◌, Option, Some, None, bytes_eq}
use Rattle.ws_base.specs.declared.refusal.RefusalKind.TheVariants as kind
use Rattle.ws_base.specs.declared.refusal.Refusal.{Refusal}
use Rattle.ws_types.specs.declared.types.Typed.{Typed}
use Rattle.ws_types.specs.declared.types.Entry.{Entry}
use Rattle.ws_types.specs.declared.types.Standing.{Standing}
use Rattle.ws_types.specs.declared.types.Standing.TheVariants.{Declared, Active, Index, Barred}
use Rattle.ws_types.specs.declared.types.Row.{Row}
use Rattle.ws_types.specs.Kinds.{when}

abbrev pub Name : Type 0
Name = List ℕ

abbrev pub standing_of : List Row → Name → Option Standing
standing_of [] x = None
standing_of (r ∷ rs) x = if bytes_eq r.name x then Some r.standing else standing_of rs x

abbrev pub integer : Typed
integer = record { truth = false; rank = 0 }

abbrev pub logical : Typed
logical = record { truth = true; rank = 0 }

abbrev pub entry_type : Entry → Typed
entry_type e = record { truth = e.truth; rank = e.rank }

-- type and rank of a name, where no rule refuses its use
abbrev pub name_type : Option Standing → Option Typed
name_type None = None
name_type (Some (Declared e)) = Some (entry_type e)
name_type (Some (Active e)) = Some (entry_type e)
name_type (Some Index) = Some integer
name_type (Some Barred) = None

-- What the rules on names ask, which stands here once for each standing: whether a name is not declared, an index name in a bound of its own
-- header, a named constant, an active DO variable or index name, and neither a variable of ALLOCATE nor refused anyway.
pub record Asked : Type 0 where
  pub undeclared : Bool
  pub barred : Bool
  pub constant : Bool
  pub active : Bool
  pub no_allocatable : Bool

abbrev pub unasked : Asked
unasked = record { undeclared = false; barred = false; constant = false; active = false; no_allocatable = false }

abbrev pub asked_of : Option Standing → Asked
asked_of None = record unasked { undeclared = true }
asked_of (Some (Declared e)) = record unasked { constant = e.constant; no_allocatable = not e.allocatable }
asked_of (Some (Active e)) = record unasked { active = true; no_allocatable = not e.allocatable }
asked_of (Some Index) = record unasked { active = true; no_allocatable = true }
asked_of (Some Barred) = record unasked { barred = true }

abbrev pub is_undeclared : Option Standing → Bool
is_undeclared s = (asked_of s).undeclared

abbrev pub is_barred : Option Standing → Bool
is_barred s = (asked_of s).barred

unfoldable pub name_faults : ℕ → Option Standing → List Refusal
name_faults line s = when (is_undeclared s) line kind.Undeclared ++ when (is_barred s) line kind.DoVariable

abbrev pub is_constant : Option Standing → Bool
is_constant s = (asked_of s).constant

abbrev pub is_active : Option Standing → Bool
is_active s = (asked_of s).active

-- type and rank of a variable that is assigned, where no rule refuses it
abbrev pub target_type : Option Standing → Option Typed → Option Typed
target_type s type = if is_constant s || is_active s then None else type

-- a variable that is assigned or read
unfoldable pub target_faults : ℕ → Option Standing → List Refusal
target_faults line s = when (is_constant s) line kind.TypeWrong ++ when (is_active s) line kind.DoVariable

abbrev pub is_no_allocatable : Option Standing → Bool
is_no_allocatable s = (asked_of s).no_allocatable
