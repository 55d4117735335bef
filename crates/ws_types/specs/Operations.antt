-- The rules on operators, subscripts, constructors and calls.
use Rattle.std.specs.Prelude.{ℕ, ◌+◌, Bool, true, false, not, ◌||◌, ◌&&◌, nat_lt, nat_eq, max, if◌then◌else◌, List, ◌∷◌, ◌++◌, Option, Some, None}
use Rattle.ws_base.specs.declared.op.UnOp.{UnOp}
use Rattle.ws_base.specs.declared.op.UnOp.TheVariants as un
use Rattle.ws_base.specs.declared.op.BinOp.{BinOp}
use Rattle.ws_base.specs.declared.op.CallWord.{CallWord}
use Rattle.ws_base.specs.declared.refusal.RefusalKind.TheVariants as kind
use Rattle.ws_base.specs.declared.refusal.Refusal.{Refusal}
use Rattle.ws_base.specs.Sorts.{ValueType, integer, logical, either, operator_sort, call_sort}
pub use Rattle.ws_base.specs.Sorts.{is_reduction, is_inquiry}
pub use Rattle.ws_space.specs.Masks.{same_truth}
pub use Rattle.ws_tree.specs.Calls.{is_name, is_digits, is_one_name, is_with_dimension, takes}
use Rattle.ws_tree.specs.declared.expr.Expr.{Expr}
use Rattle.ws_tree.specs.declared.expr.Expr.TheVariants.{Number, TooWide}
use Rattle.ws_types.specs.declared.types.Typed.{Typed}
use Rattle.ws_types.specs.declared.types.Standing.{Standing}
use Rattle.ws_types.specs.declared.types.Arguments.{Arguments}
use Rattle.ws_types.specs.declared.types.Subscripts.{Subscripts}
use Rattle.ws_types.specs.Kinds.{when}
use Rattle.ws_types.specs.Names.{name_type, name_faults, is_no_allocatable}

-- ---- operators

abbrev pub takes_truth : UnOp → Bool
takes_truth un.Minus = false
takes_truth un.Plus = false
takes_truth un.Not = true

abbrev pub is_logical : ValueType → Bool
is_logical integer = false
is_logical logical = true
is_logical either = false

-- the operands are LOGICAL
abbrev pub joins_truths : BinOp → Bool
joins_truths op = is_logical (operator_sort op).taken

-- the result is LOGICAL
abbrev pub gives_truth : BinOp → Bool
gives_truth op = is_logical (operator_sort op).given

-- the part has a type, and another one than this
abbrev pub is_other_type : Bool → Option Typed → Bool
is_other_type truth None = false
is_other_type truth (Some t) = not (same_truth truth t.truth)

-- the part has a rank above this
abbrev pub is_above : ℕ → Option Typed → Bool
is_above rank None = false
is_above rank (Some t) = nat_lt rank t.rank

-- two ranks that differ and are not 0
abbrev pub differ : ℕ → ℕ → Bool
differ m n = nat_lt 0 m && nat_lt 0 n && not (nat_eq m n)

abbrev pub ranks_differ : Option Typed → Option Typed → Bool
ranks_differ (Some a) (Some b) = differ a.rank b.rank
ranks_differ _ _ = false

unfoldable pub unary_faults : ℕ → UnOp → Option Typed → List Refusal
unary_faults line op t = when (is_other_type (takes_truth op) t) line kind.TypeWrong

unfoldable pub unary_type : UnOp → Option Typed → Option Typed
unary_type op t = if is_other_type (takes_truth op) t then None else t

unfoldable pub binary_faults : ℕ → BinOp → Option Typed → Option Typed → List Refusal
binary_faults line op a b =
    when (is_other_type (joins_truths op) a || is_other_type (joins_truths op) b) line kind.TypeWrong
    ++ when (ranks_differ a b) line kind.RankWrong

abbrev pub joined_type : BinOp → Option Typed → Option Typed → Option Typed
joined_type op (Some a) (Some b) = Some (record { truth = gives_truth op; rank = max a.rank b.rank })
joined_type op _ _ = None

unfoldable pub binary_type : BinOp → Option Typed → Option Typed → Option Typed
binary_type op a b =
    if is_other_type (joins_truths op) a || is_other_type (joins_truths op) b || ranks_differ a b then None else joined_type op a b

-- ---- subscripts

-- an INTEGER of at most this rank
abbrev pub integer_faults : ℕ → ℕ → Option Typed → List Refusal
integer_faults rank line t = when (is_other_type false t) line kind.TypeWrong ++ when (is_above rank t) line kind.RankWrong

-- a triplet part, a bound, a header or DO expression: INTEGER, of rank 0
unfoldable pub scalar_faults : ℕ → Option Typed → List Refusal
scalar_faults line t = integer_faults 0 line t

abbrev pub is_scalar : Option Typed → Bool
is_scalar None = false
is_scalar (Some t) = not t.truth && nat_eq t.rank 0

-- a subscript that is no triplet: INTEGER, of rank 0 or 1
unfoldable pub subscript_faults : ℕ → Option Typed → List Refusal
subscript_faults line t = integer_faults 1 line t

abbrev pub with_subscript : Subscripts → Option Typed → Subscripts
with_subscript s None = record { sound = false; rank = s.rank; vectors = s.vectors }
with_subscript s (Some t) = record { sound = s.sound && not t.truth && not (nat_lt 1 t.rank); rank = if nat_lt 0 t.rank then s.rank + 1 else s.rank; vectors = s.vectors || nat_lt 0 t.rank }

-- a triplet, whose parts are sound or not
abbrev pub with_triplet : Subscripts → Bool → Subscripts
with_triplet s sound = record { sound = s.sound && sound; rank = s.rank + 1; vectors = s.vectors }

abbrev pub no_subscripts : Subscripts
no_subscripts = record { sound = true; rank = 0; vectors = false }

-- a number of subscripts that is not the rank
abbrev pub is_other_number : Option Typed → ℕ → Bool
is_other_number None count = false
is_other_number (Some t) count = not (nat_eq t.rank count)

unfoldable pub part_faults : ℕ → Option Typed → ℕ → List Refusal
part_faults line t count = when (is_other_number t count) line kind.RankWrong

abbrev pub selected_type : Option Typed → Subscripts → Option Typed
selected_type None s = None
selected_type (Some t) s = if s.sound then Some (record { truth = t.truth; rank = s.rank }) else None

unfoldable pub part_type : Option Typed → ℕ → Subscripts → Option Typed
part_type t count s = if is_other_number t count then None else selected_type t s

-- ---- arguments

abbrev pub no_arguments : Arguments
no_arguments = record { sound = true; truths = false; numbers = false; scalars = false; rank = 0; mixed = false; truths_before = false; numbers_before = false; last = None }

abbrev pub with_argument : Arguments → Option Typed → Arguments
with_argument a None = record a { sound = false; truths_before = a.truths; numbers_before = a.numbers; last = None }
with_argument a (Some t) = record {
  sound = a.sound;
  truths = a.truths || t.truth;
  numbers = a.numbers || not t.truth;
  scalars = a.scalars || nat_eq t.rank 0;
  rank = max a.rank t.rank;
  mixed = a.mixed || differ a.rank t.rank;
  truths_before = a.truths;
  numbers_before = a.numbers;
  last = Some t;
}

-- ---- constructors

abbrev pub item_limit : ℕ
item_limit = 256

unfoldable pub vector_faults : ℕ → Bool → ℕ → Arguments → List Refusal
vector_faults line inside count a =
    when (inside || nat_lt 0 a.rank) line kind.Unsupported
    ++ when (a.truths && a.numbers) line kind.TypeWrong
    ++ when (nat_lt item_limit count) line kind.OverLimit

unfoldable pub vector_type : Bool → ℕ → Arguments → Option Typed
vector_type inside count a =
    if inside || nat_lt 0 a.rank || (a.truths && a.numbers) || nat_lt item_limit count || not a.sound then None else Some (record { truth = a.truths; rank = 1 })

-- ---- calls

-- MERGE chooses by its last argument, which is LOGICAL, between two of one type
abbrev pub is_wrong_choice : Arguments → Bool
is_wrong_choice a = a.truths_before && a.numbers_before || is_other_type true a.last

-- an argument of another type than is taken, or two of different type
abbrev pub is_wrong_for : ValueType → Arguments → Bool
is_wrong_for integer a = a.truths
is_wrong_for logical a = a.numbers
is_wrong_for either a = is_wrong_choice a

abbrev pub has_wrong_type : CallWord → Arguments → Bool
has_wrong_type w a = is_wrong_for (call_sort w).taken a

-- arguments whose ranks differ and are not 0; of a reduction, one of rank 0
abbrev pub has_wrong_rank : CallWord → Arguments → Bool
has_wrong_rank w a = if is_reduction w then a.scalars else a.mixed

-- what is given is LOGICAL
abbrev pub is_truth_for : ValueType → Arguments → Bool
is_truth_for integer a = false
is_truth_for logical a = true
is_truth_for either a = a.truths_before

abbrev pub call_gives_truth : CallWord → Arguments → Bool
call_gives_truth w a = is_truth_for (call_sort w).given a

unfoldable pub call_faults : ℕ → Bool → CallWord → Arguments → List Refusal
call_faults line inside w a =
    when (inside && is_reduction w) line kind.Unsupported
    ++ when (has_wrong_type w a) line kind.TypeWrong
    ++ when (has_wrong_rank w a) line kind.RankWrong

unfoldable pub call_type : Bool → CallWord → Arguments → Option Typed
call_type inside w a =
    if inside && is_reduction w || has_wrong_type w a || has_wrong_rank w a || not a.sound then None
    else Some (record { truth = call_gives_truth w a; rank = if is_reduction w then 0 else a.rank })

-- ---- inquiries

abbrev pub is_allocated_word : CallWord → Bool
is_allocated_word w = (call_sort w).allocation

-- a dimension outside the rank, or none where the rank is 0
abbrev pub is_outside : ℕ → List Expr → Bool
is_outside rank (x ∷ Number d ∷ es) = nat_eq d 0 || nat_lt rank d
is_outside rank (x ∷ e ∷ es) = true
is_outside rank _ = nat_eq rank 0

abbrev pub is_outside_type : Option Typed → List Expr → Bool
is_outside_type None es = false
is_outside_type (Some t) es = is_outside t.rank es

abbrev pub has_wide_dimension : List Expr → Bool
has_wide_dimension (x ∷ TooWide ∷ es) = true
has_wide_dimension _ = false

unfoldable pub inquiry_faults : ℕ → CallWord → Option Standing → List Expr → List Refusal
inquiry_faults line w s es =
    name_faults line s
    ++ when (not (is_allocated_word w) && is_outside_type (name_type s) es) line kind.RankWrong
    ++ when (is_allocated_word w && is_no_allocatable s) line kind.NotAllocatable
    ++ when (has_wide_dimension es) line kind.OverLimit

abbrev pub inquired_type : CallWord → Option Typed → Option Typed
inquired_type w None = None
inquired_type w (Some t) = Some (record { truth = is_allocated_word w; rank = 0 })

unfoldable pub inquiry_type : CallWord → Option Standing → List Expr → Option Typed
inquiry_type w s es =
    if not (is_allocated_word w) && is_outside_type (name_type s) es || is_allocated_word w && is_no_allocatable s || has_wide_dimension es then None else inquired_type w (name_type s)
