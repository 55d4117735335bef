-- Names, parts of arrays and whole expressions are lowered to value ops alone.
use Rattle.std.proofs.Common.{refl, ℕ, suc, Bool, true, false, List, [], ◌∷◌, map, Option, Some, None, pos}
use Rattle.std.specs.List.{flat_map}
use mathlib.Core.Former.{Count}
use Rattle.ws_base.specs.Numbers.{truth}
use Rattle.ws_base.specs.declared.name.Name.{Name}
use Rattle.ws_tree.specs.declared.expr.Expr.{Expr}
use Rattle.ws_tree.specs.declared.expr.Expr.TheVariants.{Number, TooWide, TooDeep, Truth, Named, Part', Call', Vector'}
use Rattle.ws_tree.specs.declared.expr.Sub.{Sub}
use Rattle.ws_tree.specs.declared.expr.Sub.TheVariants as sub
use Rattle.ws_tree.specs.Trees.{Exprs, end_exprs, more_exprs, Subs, end_subs, more_subs, Given, absent, given, paren, unary, binary}
use Rattle.ws_types.specs.Expressions.{listed}
use Rattle.ws_types.specs.Operations.{is_inquiry}
use Rattle.hlfir_ops.specs.declared.kinds.Elem.TheVariants.{I32, I1}
use Rattle.hlfir_ops.specs.declared.what.BoundWord.{BoundWord}
use Rattle.hlfir_ops.specs.declared.what.BoundWord.TheVariants.{Lower, Upper}
use Rattle.hlfir_ops.specs.declared.what.ValueBinary.{ValueBinary}
use Rattle.hlfir_ops.specs.declared.what.What.TheVariants as what
use Rattle.hlfir_ops.specs.RulesValues.{elem_of}
use Rattle.hlfir_ops.specs.RulesForms.{section_rank}
use Rattle.lower_values.specs.declared.operand.Operand.{Operand}
use Rattle.lower_values.specs.declared.operand.Subscript.{Subscript}
use Rattle.lower_values.specs.declared.operand.Subscript.TheVariants.{Range}
use Rattle.lower_values.specs.Lowerings.{Lowering, done, ◌>>=◌}
use Rattle.lower_values.specs.Operations.{constant, binary_of, binary_operation, in_parentheses, unary_operation, nesting_of, joined, call_on, vector}
use Rattle.lower_values.specs.References.{or_nothing, boxed, reference, loaded, named, subscript_of, sub_kind, sub_values, bound, part_kind, designated, inquiry}
use Rattle.lower_values.specs.Values.{folded, call_by, part_of, value, values, nested, subscripts, subscript, given_or}
use Rattle.place_laws.proofs.Simple.{simple-boxed, simple-reference, simple-loaded, simple-named, simple-bound, simple-inquiry, simple-folded}
use Rattle.place_laws.proofs.Plain.{Plain, simple_plain, plain, plain-done, plain-then, plain-giving, plain-constant, plain-binary, plain-in_parentheses, plain-unary, plain-joined, plain-call, plain-vector}

pub plain-boxed : (d : Operand) → Plain (boxed d)
plain-boxed d = simple-boxed plain simple_plain d

plain-reference : (x : Name) → Plain (reference x)
plain-reference x = simple-reference plain simple_plain x

plain-loaded : (r : Operand) → Plain (loaded r)
plain-loaded r = simple-loaded plain simple_plain r

plain-bound : (w : BoundWord) (dim : ℕ) (r : Operand) → Plain (bound w dim r)
plain-bound w dim r = simple-bound plain simple_plain w dim r

plain-folded : (e : Expr) (p : Lowering Operand) → Plain p → Plain (folded e p)
plain-folded e p h = simple-folded plain simple_plain e p h

plain-designated : (r : Operand) (ss : List Subscript) → Plain (designated r ss)
unfolding designated
plain-designated r ss = plain-giving (what.Designate (map sub_kind ss)) (r.value ∷ flat_map sub_values ss) (part_kind (elem_of r.kind) (section_rank (map sub_kind ss))) refl

-- ---- expressions

plain-call_by : (op : Option ValueBinary) (inquires : Bool) (nested : ValueBinary → Lowering Operand) (inquiry all : Lowering Operand) →
    ((op : ValueBinary) → Plain (nested op)) → Plain inquiry → Plain all → Plain (call_by op inquires nested inquiry all)
plain-call_by (Some op) inquires nested inquiry all h g k = h op
plain-call_by None true nested inquiry all h g k = g
plain-call_by None false nested inquiry all h g k = k

pub plain-part : (x : Name) (ss : Operand → Lowering (List Subscript)) → ((r : Operand) → Plain (ss r)) → Plain (part_of x ss)
unfolding part_of
plain-part x ss h = plain-then (reference x) (λ r. ss r >>= designated r) (plain-reference x) (λ r. plain-then (ss r) (designated r) (h r) (plain-designated r))

mutual
  pub plain-value : (e : Expr) → Plain (value e)
  plain-value (Number n) = plain-constant I32 (pos n)
  plain-value TooWide = plain-constant I32 (pos 0)
  plain-value TooDeep = plain-constant I32 (pos 0)
  plain-value (Truth b) = plain-constant I1 (truth b)
  plain-value (Named x) = plain-folded (Named x) (named x) (simple-named plain simple_plain x)
  plain-value (Part' x _ subs) = plain-then (part_of x (λ r. subscripts r 1 subs)) loaded (plain-part x (λ r. subscripts r 1 subs) (λ r. plain-subscripts r 1 subs)) plain-loaded
  plain-value (Call' w _ es) =
      plain-call_by (nesting_of w) (is_inquiry w) (λ op. nested op None es) (inquiry w (listed es)) (values es >>= call_on w) (λ op. plain-nested op None es) (simple-inquiry plain simple_plain w (listed es))
      (plain-then (values es) (call_on w) (plain-values es) (plain-call w))
  plain-value (Vector' _ es) = plain-then (values es) vector (plain-values es) plain-vector
  plain-value (paren e) = plain-folded (paren e) (value e >>= in_parentheses) (plain-then (value e) in_parentheses (plain-value e) plain-in_parentheses)
  plain-value (unary op e) = plain-folded (unary op e) (value e >>= unary_operation op) (plain-then (value e) (unary_operation op) (plain-value e) (plain-unary op))
  plain-value (binary op a b) =
      plain-folded (binary op a b) (value a >>= (λ x. value b >>= (λ y. binary_operation (binary_of op) x y)))
      (plain-then (value a) (λ x. value b >>= (λ y. binary_operation (binary_of op) x y)) (plain-value a)
      (λ x. plain-then (value b) (λ y. binary_operation (binary_of op) x y) (plain-value b) (λ y. plain-binary (binary_of op) x y)))

  plain-values : {m : Count} (es : Exprs m) → Plain (values es)
  plain-values end_exprs = plain-done []
  plain-values (more_exprs e es) =
      plain-then (value e) (λ x. values es >>= (λ xs. done (x ∷ xs))) (plain-value e) (λ x. plain-then (values es) (λ xs. done (x ∷ xs)) (plain-values es) (λ xs. plain-done (x ∷ xs)))

  plain-nested : {m : Count} (op : ValueBinary) (before : Option Operand) (es : Exprs m) → Plain (nested op before es)
  plain-nested op before end_exprs = plain-done (or_nothing before)
  plain-nested op before (more_exprs e es) =
      plain-then (value e) (λ y. joined op before y >>= (λ z. nested op (Some z) es)) (plain-value e)
      (λ y. plain-then (joined op before y) (λ z. nested op (Some z) es) (plain-joined op before y) (λ z. plain-nested op (Some z) es))

  pub plain-subscripts : {m : Count} (r : Operand) (dim : ℕ) (ss : Subs m) → Plain (subscripts r dim ss)
  plain-subscripts r dim end_subs = plain-done []
  plain-subscripts r dim (more_subs x xs) =
      plain-then (subscript r dim x) (λ s. subscripts r (suc dim) xs >>= (λ ss. done (s ∷ ss))) (plain-subscript r dim x)
      (λ s. plain-then (subscripts r (suc dim) xs) (λ ss. done (s ∷ ss)) (plain-subscripts r (suc dim) xs) (λ ss. plain-done (s ∷ ss)))

  plain-subscript : (r : Operand) (dim : ℕ) (x : Sub) → Plain (subscript r dim x)
  plain-subscript r dim (sub.One e) = plain-then (value e) (λ x. done (subscript_of x)) (plain-value e) (λ x. plain-done (subscript_of x))
  plain-subscript r dim (sub.Range' l u s) =
      plain-then (given_or (bound Lower dim r) l) (λ x. given_or (bound Upper dim r) u >>= (λ y. given_or (constant I32 (pos 1)) s >>= (λ z. done (Range x.value y.value z.value))))
      (plain-given (bound Lower dim r) l (plain-bound Lower dim r))
      (λ x. plain-then (given_or (bound Upper dim r) u) (λ y. given_or (constant I32 (pos 1)) s >>= (λ z. done (Range x.value y.value z.value))) (plain-given (bound Upper dim r) u (plain-bound Upper dim r))
      (λ y. plain-then (given_or (constant I32 (pos 1)) s) (λ z. done (Range x.value y.value z.value)) (plain-given (constant I32 (pos 1)) s (plain-constant I32 (pos 1))) (λ z. plain-done (Range x.value y.value z.value))))

  plain-given : (other : Lowering Operand) (e : Given) → Plain other → Plain (given_or other e)
  plain-given other absent h = h
  plain-given other (given e) h = plain-value e
