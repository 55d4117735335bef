-- Expressions that can be lowered, and where their lowering has vector subscripts.
use Rattle.std.specs.Prelude.{suc, ◌≡◌, ◌≤◌, ℕ, ◌+◌, ◌==◌, Bool, true, false, List, Option, Some, None, length}
use Rattle.ws_base.specs.declared.name.Name.{Name}
use Rattle.ws_base.specs.declared.op.CallWord.{CallWord}
use Rattle.ws_base.specs.declared.op.CallWord.TheVariants as word
use Rattle.ws_base.specs.declared.op.UnOp.TheVariants as unop
use Rattle.ws_space.specs.Values.{is_among}
use Rattle.ws_tree.specs.declared.expr.Expr.{Expr}
use Rattle.ws_tree.specs.declared.expr.Expr.TheVariants.{Number, TooWide, TooDeep, Truth, Named, Part', Call', Vector'}
use Rattle.ws_tree.specs.declared.expr.Sub.{Sub}
use Rattle.ws_tree.specs.declared.expr.Sub.TheVariants as sub
use Rattle.ws_tree.specs.Trees.{Exprs, end_exprs, more_exprs, Subs, end_subs, more_subs, Given, absent, given, paren, unary, binary}
use Rattle.ws_types.specs.declared.constant.Constancy.{Constancy}
use Rattle.ws_types.specs.declared.constant.Constancy.TheVariants.{Value}
use Rattle.ws_types.specs.Constants.{constant_of, constancy, has_no_value}
use Rattle.ws_types.specs.Expressions.{listed, how_many}
use Rattle.ws_types.specs.Operations.{is_inquiry}
use Rattle.hlfir_ops.specs.declared.kinds.ValueKind.{ValueKind}
use Rattle.hlfir_ops.specs.declared.kinds.ValueKind.TheVariants as kind
use Rattle.hlfir_ops.specs.declared.what.BoundWord.TheVariants.{Lower, Upper}
use Rattle.hlfir_ops.specs.declared.what.ValueBinary.{ValueBinary}
use Rattle.hlfir_ops.specs.Numbers.{numbers_of}
use Rattle.hlfir_ops.specs.RulesValues.{rank_of}
use Rattle.lower_values.specs.declared.operand.Operand.{Operand}
use Rattle.lower_values.specs.Scopes.{Scope, index_of}
use Rattle.lower_values.specs.Operations.{nesting_of, joined}
use Rattle.lower_values.specs.References.{variable_of, first_name, reference, bound}
use Rattle.lower_values.specs.Values.{value, values, subscript, given_or}
use Rattle.value_laws.specs.Arguments.{where_last, IsTaken, is_settled}

-- ---- what can be lowered in a scope

-- so many arguments
abbrev pub TakesMany : CallWord → ℕ → Type 0
TakesMany word.Mod n = n ≡ 2
TakesMany word.Modulo n = n ≡ 2
TakesMany word.Merge n = n ≡ 3
TakesMany word.Min n = 2 ≤ n
TakesMany word.Max n = 2 ≤ n
TakesMany w n = n ≡ 1

-- the name of a variable
abbrev pub IsVariable : Scope → Option Name → Type 0
IsVariable s None = ⊥
IsVariable s (Some x) = (d : Operand) × (variable_of s.names.variables x ≡ Some d)

-- an item of a constructor is a scalar wherever it is lowered
abbrev pub IsItem : Scope → Expr → Type 0
IsItem s e = (n : ℕ) → (rank_of (value e s n).made.kind == 0) ≡ true

abbrev pub AreItems : {k : _} → Scope → Exprs k → Type 0
AreItems s end_exprs = Unit {0}
AreItems s (more_exprs e es) = IsItem s e × AreItems s es

-- an inquiry is of a variable; any other call has its number of arguments
abbrev pub IsSoundCall : {k : _} → Bool → Scope → CallWord → Exprs k → Type 0 → Type 0
IsSoundCall true s w es arguments = IsVariable s (first_name (listed es))
IsSoundCall false s w es arguments = TakesMany w (length (listed es)) × arguments

-- a variable of so many dimensions
abbrev pub IsSoundPart : Bool → Scope → Name → ℕ → Type 0 → Type 0
IsSoundPart true s x many subscripts = (d : Operand) × (variable_of s.names.variables x ≡ Some d) × (rank_of d.kind ≡ many) × subscripts
IsSoundPart false s x many subscripts = ⊥

-- Where `parts` is false, no designator but a name stands in it.
abbrev mutual
  pub IsSound : Bool → Scope → Expr → Type 0
  IsSound parts s (Number n) = Unit {0}
  IsSound parts s TooWide = Unit {0}
  IsSound parts s TooDeep = Unit {0}
  IsSound parts s (Truth b) = Unit {0}
  IsSound parts s (Named x) = (index_of s.indexes x ≡ None) × (has_no_value (constant_of s.names.constants x) ≡ false)
  IsSound parts s (Part' x _ subs) = IsSoundPart parts s x (how_many subs) (AreSoundSubs parts s subs)
  IsSound parts s (Call' w _ es) = IsSoundCall (is_inquiry w) s w es (AreSound parts s es)
  IsSound parts s (Vector' _ es) = AreSound parts s es × AreItems s es
  IsSound parts s (paren e) = IsSound parts s e
  IsSound parts s (unary op e) = IsSound parts s e
  IsSound parts s (binary op a b) = IsSound parts s a × IsSound parts s b

  pub AreSound : {k : _} → Bool → Scope → Exprs k → Type 0
  AreSound parts s end_exprs = Unit {0}
  AreSound parts s (more_exprs e es) = IsSound parts s e × AreSound parts s es

  pub AreSoundSubs : {k : _} → Bool → Scope → Subs k → Type 0
  AreSoundSubs parts s end_subs = Unit {0}
  AreSoundSubs parts s (more_subs x xs) = IsSoundSub parts s x × AreSoundSubs parts s xs

  -- a subscript that is no triplet may be a vector
  pub IsSoundSub : Bool → Scope → Sub → Type 0
  IsSoundSub parts s (sub.One e) = IsSound parts s e × ((n : ℕ) → rank_of (value e s n).made.kind ≤ 1)
  IsSoundSub parts s (sub.Range' l u st) = IsSoundGiven parts s l × IsSoundGiven parts s u × IsSoundGiven parts s st

  pub IsSoundGiven : Bool → Scope → Given → Type 0
  IsSoundGiven parts s absent = Unit {0}
  IsSoundGiven parts s (given e) = IsSound parts s e × IsItem s e

-- ---- vector subscripts

-- nothing is left of an expression that has a constant value
abbrev pub UnlessValue : Constancy → Type 0 → Type 0
UnlessValue (Value z) P = Unit {0}
UnlessValue c P = P

-- where parentheses or a plus copy the operand; where they do nothing
abbrev pub ByCopy : ValueKind → Type 0 → Type 0 → Type 0
ByCopy (kind.Declared e shape) copies not = copies
ByCopy (kind.Allocatable e rank) copies not = copies
ByCopy k copies not = not

-- an inquiry has no such op
abbrev pub ByCall : Option ValueBinary → Bool → (ValueBinary → Type 0) → Type 0 → Type 0
ByCall (Some op) inquires nested all = nested op
ByCall None true nested all = Unit {0}
ByCall None false nested all = all

-- Lowered from the value of this number on, no op of the expression that gives an array is a vector subscript, but for the last one where this is said.
abbrev mutual
  pub IsClear : List ℕ → Scope → Bool → ℕ → Expr → Type 0
  IsClear vectors s b n (Call' w _ es) = ByCall (nesting_of w) (is_inquiry w) (λ op. AreJoined vectors s op b None n es) (AreClear vectors s n es × (is_among (n + numbers_of (values es s n).ops) vectors ≡ b))
  IsClear vectors s b n (Part' x _ subs) = AreClearSubs vectors s (reference x s n).made 1 (n + numbers_of (reference x s n).ops) subs
  IsClear vectors s b n (Vector' _ es) = AreClear vectors s n es
  IsClear vectors s b n (paren e) = UnlessValue (constancy s.names.constants (paren e)) (
      ByCopy (value e s n).made.kind (IsClear vectors s false n e × (is_among (n + numbers_of (value e s n).ops) vectors ≡ b)) (IsClear vectors s b n e))
  IsClear vectors s b n (unary unop.Plus e) = UnlessValue (constancy s.names.constants (unary unop.Plus e)) (
      ByCopy (value e s n).made.kind (IsClear vectors s false n e × (is_among (n + numbers_of (value e s n).ops) vectors ≡ b)) (IsClear vectors s b n e))
  IsClear vectors s b n (unary op e) = UnlessValue (constancy s.names.constants (unary op e)) (IsClear vectors s false n e × (is_among (n + numbers_of (value e s n).ops) vectors ≡ b))
  IsClear vectors s b n (binary op e f) = UnlessValue (constancy s.names.constants (binary op e f)) (
      let m = n + numbers_of (value e s n).ops in
      IsClear vectors s false n e × IsClear vectors s false m f × (is_among (m + numbers_of (value f s m).ops) vectors ≡ b))
  IsClear vectors s b n e = Unit {0}

  pub AreClear : {k : _} → List ℕ → Scope → ℕ → Exprs k → Type 0
  AreClear vectors s n end_exprs = Unit {0}
  AreClear vectors s n (more_exprs e es) = IsClear vectors s false n e × AreClear vectors s (n + numbers_of (value e s n).ops) es

  -- the arguments of MIN or MAX, and the ops that join them
  pub AreJoined : {k : _} → List ℕ → Scope → ValueBinary → Bool → Option Operand → ℕ → Exprs k → Type 0
  AreJoined vectors s op b before n end_exprs = Unit {0}
  AreJoined vectors s op b before n (more_exprs e es) =
      let y = (value e s n).made in
      let m = n + numbers_of (value e s n).ops in
      let z = joined op before y s m in
      IsClear vectors s false n e × IsTaken vectors before m (where_last es b) × AreJoined vectors s op b (Some z.made) (m + numbers_of z.ops) es

  -- the subscripts from the dimension of this number on
  pub AreClearSubs : {k : _} → List ℕ → Scope → Operand → ℕ → ℕ → Subs k → Type 0
  AreClearSubs vectors s r dim n end_subs = Unit {0}
  AreClearSubs vectors s r dim n (more_subs x xs) = IsClearSub vectors s r dim n x × AreClearSubs vectors s r (suc dim) (n + numbers_of (subscript r dim x s n).ops) xs

  pub IsClearSub : List ℕ → Scope → Operand → ℕ → ℕ → Sub → Type 0
  IsClearSub vectors s r dim n (sub.One e) = IsClear vectors s (is_settled e (value e s n).made.kind) n e
  IsClearSub vectors s r dim n (sub.Range' l u st) =
      let m = n + numbers_of (given_or (bound Lower dim r) l s n).ops in
      let k = m + numbers_of (given_or (bound Upper dim r) u s m).ops in
      IsClearGiven vectors s n l × IsClearGiven vectors s m u × IsClearGiven vectors s k st

  pub IsClearGiven : List ℕ → Scope → ℕ → Given → Type 0
  IsClearGiven vectors s n absent = Unit {0}
  IsClearGiven vectors s n (given e) = IsClear vectors s false n e
