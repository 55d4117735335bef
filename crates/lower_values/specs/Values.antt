-- The lowering of expressions: operands before operators, from left to right.
use Rattle.std.specs.Prelude.{ℕ, suc, Bool, true, false, List, [], ◌∷◌, Option, Some, None, pos}
use Rattle.ws_base.specs.Numbers.{truth}
use Rattle.ws_base.specs.declared.name.Name.{Name}
use Rattle.ws_base.specs.declared.op.CallWord.{CallWord}
use Rattle.ws_tree.specs.declared.expr.Expr.{Expr}
use Rattle.ws_tree.specs.declared.expr.Expr.TheVariants.{Number, TooWide, TooDeep, Truth, Named, Part', Call', Vector'}
use Rattle.ws_tree.specs.declared.expr.Sub.{Sub}
use Rattle.ws_tree.specs.declared.expr.Sub.TheVariants as sub
use Rattle.ws_tree.specs.Trees.{Exprs, end_exprs, more_exprs, Subs, end_subs, more_subs, Given, absent, given, paren, unary, binary}
use Rattle.ws_types.specs.declared.constant.Constancy.{Constancy}
use Rattle.ws_types.specs.declared.constant.Constancy.TheVariants.{Value}
use Rattle.ws_types.specs.Constants.{constancy}
use Rattle.ws_types.specs.Expressions.{listed}
use Rattle.ws_types.specs.Operations.{is_inquiry}
use Rattle.hlfir_ops.specs.declared.kinds.Elem.TheVariants.{I32, I1}
use Rattle.hlfir_ops.specs.declared.what.BoundWord.TheVariants.{Lower, Upper}
use Rattle.hlfir_ops.specs.declared.what.ValueBinary.{ValueBinary}
use Rattle.lower_values.specs.declared.operand.Operand.{Operand}
use Rattle.lower_values.specs.declared.operand.Subscript.{Subscript}
use Rattle.lower_values.specs.declared.operand.Subscript.TheVariants.{Range}
use Rattle.lower_values.specs.Lowerings.{Lowering, done, ◌>>=◌, scoped}
use Rattle.lower_values.specs.Operations.{constant, binary_of, binary_operation, in_parentheses, unary_operation, nesting_of, joined, call_on, vector}
use Rattle.lower_values.specs.References.{or_nothing, reference, loaded, named, subscript_of, bound, designated, inquiry}

-- one constant where there is a value
abbrev pub constant_or : Constancy → Lowering Operand → Lowering Operand
constant_or (Value z) p = constant I32 z
constant_or _ p = p

-- A constant expression that has a value is one constant, whatever its parts become.
unfoldable pub folded : Expr → Lowering Operand → Lowering Operand
folded e p = scoped (λ s. constant_or (constancy s.names.constants e) p)

-- a call: by its arguments one after another, as an inquiry, or by all its arguments at once
abbrev pub call_by : Option ValueBinary → Bool → (ValueBinary → Lowering Operand) → Lowering Operand → Lowering Operand → Lowering Operand
call_by (Some op) inquires nested inquiry all = nested op
call_by None true nested inquiry all = inquiry
call_by None false nested inquiry all = all

abbrev pub called : CallWord → List Expr → Lowering (List Operand) → (ValueBinary → Lowering Operand) → Lowering Operand
called w es ps nested = call_by (nesting_of w) (is_inquiry w) nested (inquiry w es) (ps >>= call_on w)

-- an element or section of the variable, as a place
unfoldable pub part_of : Name → (Operand → Lowering (List Subscript)) → Lowering Operand
part_of x subscripts = do
  r ← reference x
  ss ← subscripts r
  designated r ss

abbrev mutual
  pub value : Expr → Lowering Operand
  value (Number n) = constant I32 (pos n)
  value TooWide = constant I32 (pos 0)
  value TooDeep = constant I32 (pos 0)
  value (Truth b) = constant I1 (truth b)
  value (Named x) = folded (Named x) (named x)
  value (Part' x _ subs) = do
    p ← part_of x (λ r. subscripts r 1 subs)
    loaded p
  value (Call' w _ es) = called w (listed es) (values es) (λ op. nested op None es)
  value (Vector' _ es) = do
    xs ← values es
    vector xs
  value (paren e) = folded (paren e) (do
    x ← value e
    in_parentheses x)
  value (unary op e) = folded (unary op e) (do
    x ← value e
    unary_operation op x)
  value (binary op a b) = folded (binary op a b) (do
    x ← value a
    y ← value b
    binary_operation (binary_of op) x y)

  pub values : {m : _} → Exprs m → Lowering (List Operand)
  values end_exprs = done []
  values (more_exprs e es) = do
    x ← value e
    xs ← values es
    done (x ∷ xs)

  -- MIN or MAX of these arguments, after what the ones before them gave
  pub nested : {m : _} → ValueBinary → Option Operand → Exprs m → Lowering Operand
  nested op before end_exprs = done (or_nothing before)
  nested op before (more_exprs e es) = do
    y ← value e
    z ← joined op before y
    nested op (Some z) es

  -- the subscripts from the dimension of this number on
  pub subscripts : {m : _} → Operand → ℕ → Subs m → Lowering (List Subscript)
  subscripts r dim end_subs = done []
  subscripts r dim (more_subs x xs) = do
    s ← subscript r dim x
    ss ← subscripts r (suc dim) xs
    done (s ∷ ss)

  pub subscript : Operand → ℕ → Sub → Lowering Subscript
  subscript r dim (sub.One e) = do
    x ← value e
    done (subscript_of x)
  subscript r dim (sub.Range' l u s) = do
    x ← given_or (bound Lower dim r) l
    y ← given_or (bound Upper dim r) u
    z ← given_or (constant I32 (pos 1)) s
    done (Range x.value y.value z.value)

  -- a part of a triplet, or what stands for it where it is omitted
  pub given_or : Lowering Operand → Given → Lowering Operand
  given_or other absent = other
  given_or other (given e) = value e
