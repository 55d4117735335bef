-- Type and rank of an expression, and the faults in it. A part that a rule refuses has neither, and rules that need them do not apply.
use Rattle.std.specs.Prelude.{ℕ, suc, Bool, true, ◌&&◌, nat_lt, if◌then◌else◌, List, [], ◌∷◌, ◌++◌, Option, Some, None, length}
use Rattle.ws_base.specs.declared.refusal.RefusalKind.TheVariants as kind
use Rattle.ws_base.specs.declared.refusal.Refusal.{Refusal}
use Rattle.ws_base.specs.declared.op.CallWord.{CallWord}
use Rattle.ws_base.specs.Sorts.{is_inquiry}
use Rattle.ws_tree.specs.Calls.{takes}
use Rattle.ws_tree.specs.declared.expr.Expr.{Expr}
use Rattle.ws_tree.specs.declared.expr.Expr.TheVariants.{Number, TooWide, TooDeep, Truth, Named, Part', Call', Vector'}
use Rattle.ws_tree.specs.declared.expr.Sub.{Sub}
use Rattle.ws_tree.specs.declared.expr.Sub.TheVariants as sub
use Rattle.ws_tree.specs.Trees.{Exprs, end_exprs, more_exprs, Subs, end_subs, more_subs, Given, absent, given, paren, unary, binary}
use Rattle.ws_types.specs.declared.types.Typed.{Typed}
use Rattle.ws_types.specs.declared.types.Row.{Row}
use Rattle.ws_types.specs.declared.types.Standing.{Standing}
use Rattle.ws_types.specs.declared.types.Arguments.{Arguments}
use Rattle.ws_types.specs.declared.types.Subscripts.{Subscripts}
use Rattle.ws_types.specs.Kinds.{when}
use Rattle.ws_types.specs.Names.{Name, standing_of, name_type, name_faults, logical, integer}
use Rattle.ws_types.specs.Operations.{unary_faults, unary_type, binary_faults, binary_type, scalar_faults, is_scalar, subscript_faults, with_subscript, with_triplet, no_subscripts, part_faults, part_type, no_arguments, with_argument, vector_faults, vector_type, call_faults, call_type, inquiry_faults, inquiry_type}

abbrev pub listed : {m : _} → Exprs m → List Expr
listed end_exprs = []
listed (more_exprs e es) = e ∷ listed es

abbrev pub how_many : {m : _} → Subs m → ℕ
how_many end_subs = 0
how_many (more_subs s ss) = suc (how_many ss)

-- a digit string above 2147483647
abbrev pub number_limit : ℕ
number_limit = 2147483647

abbrev pub number_type : ℕ → Option Typed
number_type n = if nat_lt number_limit n then None else Some integer

abbrev pub named_type : List Row → Name → Option Typed
named_type t x = name_type (standing_of t x)

-- what the first argument, a name, stands for
abbrev pub first_standing : List Row → List Expr → Option Standing
first_standing t (Named x ∷ es) = standing_of t x
first_standing t _ = None

abbrev pub called_type : List Row → Bool → CallWord → List Expr → Arguments → Option Typed
called_type t inside w es a = if takes w es then (if is_inquiry w then inquiry_type w (first_standing t es) es else call_type inside w a) else None

-- ---- types and ranks. `inside` says that the expression stands in the mask or body of a FORALL.

abbrev mutual
  pub typed : List Row → Bool → Expr → Option Typed
  typed t inside (Number n) = number_type n
  typed t inside TooWide = None
  typed t inside TooDeep = None
  typed t inside (Truth b) = Some logical
  typed t inside (Named x) = named_type t x
  typed t inside (Part' x _ subs) = part_type (named_type t x) (how_many subs) (subscripts t inside no_subscripts subs)
  typed t inside (Call' w _ es) = called_type t inside w (listed es) (arguments t inside no_arguments es)
  typed t inside (Vector' _ es) = vector_type inside (length (listed es)) (arguments t inside no_arguments es)
  typed t inside (paren e) = typed t inside e
  typed t inside (unary op e) = unary_type op (typed t inside e)
  typed t inside (binary op a b) = binary_type op (typed t inside a) (typed t inside b)

  pub arguments : {m : _} → List Row → Bool → Arguments → Exprs m → Arguments
  arguments t inside a end_exprs = a
  arguments t inside a (more_exprs e es) = arguments t inside (with_argument a (typed t inside e)) es

  pub subscripts : {m : _} → List Row → Bool → Subscripts → Subs m → Subscripts
  subscripts t inside s end_subs = s
  subscripts t inside s (more_subs x xs) = subscripts t inside (with_sub t inside s x) xs

  pub with_sub : List Row → Bool → Subscripts → Sub → Subscripts
  with_sub t inside s (sub.One e) = with_subscript s (typed t inside e)
  with_sub t inside s (sub.Range' l u st) = with_triplet s (is_sound t inside l && is_sound t inside u && is_sound t inside st)

  pub is_sound : List Row → Bool → Given → Bool
  is_sound t inside absent = true
  is_sound t inside (given e) = is_scalar (typed t inside e)

-- ---- faults

unfoldable pub number_faults : ℕ → ℕ → List Refusal
number_faults line n = when (nat_lt number_limit n) line kind.OverLimit

unfoldable pub wide_faults : ℕ → List Refusal
wide_faults line = when true line kind.OverLimit

abbrev pub named_faults : List Row → ℕ → Name → List Refusal
named_faults t line x = name_faults line (standing_of t x)

abbrev pub called_faults : List Row → Bool → ℕ → CallWord → List Expr → List Refusal → Arguments → List Refusal
called_faults t inside line w es parts a =
    if takes w es then (if is_inquiry w then inquiry_faults line w (first_standing t es) es else (parts ++ call_faults line inside w a)) else when true line kind.Unsupported

abbrev mutual
  pub faults : List Row → Bool → ℕ → Expr → List Refusal
  faults t inside line (Number n) = number_faults line n
  faults t inside line TooWide = wide_faults line
  faults t inside line TooDeep = wide_faults line
  faults t inside line (Truth b) = []
  faults t inside line (Named x) = named_faults t line x
  faults t inside line (Part' x _ subs) = named_faults t line x ++ subs_faults t inside line subs ++ part_faults line (named_type t x) (how_many subs)
  faults t inside line (Call' w _ es) = called_faults t inside line w (listed es) (all_faults t inside line es) (arguments t inside no_arguments es)
  faults t inside line (Vector' _ es) = all_faults t inside line es ++ vector_faults line inside (length (listed es)) (arguments t inside no_arguments es)
  faults t inside line (paren e) = faults t inside line e
  faults t inside line (unary op e) = faults t inside line e ++ unary_faults line op (typed t inside e)
  faults t inside line (binary op a b) = faults t inside line a ++ faults t inside line b ++ binary_faults line op (typed t inside a) (typed t inside b)

  pub all_faults : {m : _} → List Row → Bool → ℕ → Exprs m → List Refusal
  all_faults t inside line end_exprs = []
  all_faults t inside line (more_exprs e es) = faults t inside line e ++ all_faults t inside line es

  pub subs_faults : {m : _} → List Row → Bool → ℕ → Subs m → List Refusal
  subs_faults t inside line end_subs = []
  subs_faults t inside line (more_subs x xs) = sub_faults t inside line x ++ subs_faults t inside line xs

  pub sub_faults : List Row → Bool → ℕ → Sub → List Refusal
  sub_faults t inside line (sub.One e) = faults t inside line e ++ subscript_faults line (typed t inside e)
  sub_faults t inside line (sub.Range' l u st) = given_faults t inside line l ++ given_faults t inside line u ++ given_faults t inside line st

  pub given_faults : List Row → Bool → ℕ → Given → List Refusal
  given_faults t inside line absent = []
  given_faults t inside line (given e) = faults t inside line e ++ scalar_faults line (typed t inside e)
