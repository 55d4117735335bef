-- The lowering of expressions at each form, over the lists that the code goes over.
use Rattle.std.proofs.Common.{◌≡◌, refl, ap, ◌∙◌, ℕ, suc, List, [], ◌∷◌, Option, Some, None}
use mathlib.Core.Path.{fun_ext}
use Rattle.ws_base.specs.declared.name.Name.{Name}
use Rattle.ws_base.specs.declared.op.CallWord.{CallWord}
use Rattle.ws_base.specs.declared.op.UnOp.{UnOp}
use Rattle.ws_base.specs.declared.op.BinOp.{BinOp}
use Rattle.ws_tree.specs.declared.expr.Expr.{Expr}
use Rattle.ws_tree.specs.declared.expr.Expr.TheVariants.{Part, Call, Vector, Paren, Unary, Binary}
use Rattle.ws_tree.specs.declared.expr.Expr.TheBlock.{hidden-the_row-Expr-1, hidden-the_row-Sub-0}
use Rattle.ws_tree.specs.declared.expr.Sub.{Sub}
use Rattle.ws_tree.specs.declared.expr.Sub.TheVariants as sub
use Rattle.ws_tree.specs.Opened.{trees_open}
use Rattle.ws_types.specs.declared.constant.Constant.{Constant}
use Rattle.ws_types.specs.Constants.{constancy}
use Rattle.ws_types.specs.Expressions.{listed}
use Rattle.hlfir_ops.specs.declared.what.BoundWord.TheVariants.{Lower, Upper}
use Rattle.hlfir_ops.specs.declared.what.ValueBinary.{ValueBinary}
use Rattle.lower_values.specs.declared.operand.Operand.{Operand}
use Rattle.lower_values.specs.declared.operand.Subscript.TheVariants as subscripts_of
use Rattle.lower_values.specs.Lowerings.{done, ◌>>=◌}
use Rattle.lower_values.specs.Operations.{in_parentheses, unary_operation, joined, vector}
use Rattle.lower_values.specs.References.{loaded, subscript_of, bound}
use Rattle.lower_values.specs.Values as one
use Rattle.lower_values.specs.Values.{value, folded, part_of}
use Rattle.lower_values.specs.Lists as lists
use Rattle.lower_values.specs.Folding.{with_right, signed, joined as both}

-- ---- lists

listed-list : (es : List Expr) → listed (hidden-the_row-Expr-1 es) ≡ es
unfolding trees_open
listed-list [] = refl
listed-list (e ∷ es) = ap (λ l. e ∷ l) (listed-list es)

values-list : (es : List Expr) → one.values (hidden-the_row-Expr-1 es) ≡ lists.values es
unfolding trees_open lists.values
values-list [] = refl
values-list (e ∷ es) = ap (λ p. value e >>= (λ x. p >>= (λ xs. done (x ∷ xs)))) (values-list es)

nested-list : (op : ValueBinary) (before : Option Operand) (es : List Expr) → one.nested op before (hidden-the_row-Expr-1 es) ≡ lists.nested op before es
unfolding trees_open lists.nested
nested-list op before [] = refl
nested-list op before (e ∷ es) = ap (λ f. value e >>= (λ y. joined op before y >>= f)) (fun_ext (λ z. nested-list op (Some z) es))

subscripts-list : (r : Operand) (dim : ℕ) (ss : List Sub) → one.subscripts r dim (hidden-the_row-Sub-0 ss) ≡ lists.subscripts r dim ss
unfolding trees_open lists.subscripts
subscripts-list r dim [] = refl
subscripts-list r dim (s ∷ ss) = ap (λ p. one.subscript r dim s >>= (λ x. p >>= (λ xs. done (x ∷ xs)))) (subscripts-list r (suc dim) ss)

-- ---- expressions

pub part-list : (x : Name) (ss : List Sub) → part_of x (λ r. one.subscripts r 1 (hidden-the_row-Sub-0 ss)) ≡ lists.part x ss
part-list x ss = ap (part_of x) (fun_ext (λ r. subscripts-list r 1 ss))

pub value-part : (x : Name) (ss : List Sub) → value (Part x ss) ≡ (lists.part x ss >>= loaded)
unfolding trees_open
value-part x ss = ap (λ p. p >>= loaded) (part-list x ss)

pub value-call : (w : CallWord) (es : List Expr) → value (Call w es) ≡ lists.called w es
unfolding trees_open
value-call w es =
    ap (λ l. one.called w l (one.values (hidden-the_row-Expr-1 es)) (λ op. one.nested op None (hidden-the_row-Expr-1 es))) (listed-list es) ∙
    (ap (λ p. one.called w es p (λ op. one.nested op None (hidden-the_row-Expr-1 es))) (values-list es) ∙ ap (one.called w es (lists.values es)) (fun_ext (λ op. nested-list op None es)))

pub value-vector : (es : List Expr) → value (Vector es) ≡ (lists.values es >>= vector)
unfolding trees_open
value-vector es = ap (λ p. p >>= vector) (values-list es)

pub value-paren : (e : Expr) → value (Paren e) ≡ folded (Paren e) (value e >>= in_parentheses)
unfolding trees_open
value-paren e = refl

pub value-unary : (op : UnOp) (e : Expr) → value (Unary op e) ≡ folded (Unary op e) (value e >>= unary_operation op)
unfolding trees_open
value-unary op e = refl

pub value-binary : (op : BinOp) (a b : Expr) → value (Binary op a b) ≡ folded (Binary op a b) (value a >>= with_right op (value b))
unfolding trees_open
value-binary op a b = refl

-- ---- constant expressions

pub constancy-paren : (cs : List Constant) (e : Expr) → constancy cs (Paren e) ≡ constancy cs e
unfolding trees_open
constancy-paren cs e = refl

pub constancy-unary : (cs : List Constant) (op : UnOp) (e : Expr) → constancy cs (Unary op e) ≡ signed op (constancy cs e)
unfolding trees_open
constancy-unary cs op e = refl

pub constancy-binary : (cs : List Constant) (op : BinOp) (a b : Expr) → constancy cs (Binary op a b) ≡ both op (constancy cs a) (constancy cs b)
unfolding trees_open
constancy-binary cs op a b = refl

-- ---- subscripts

pub subscript-one : (r : Operand) (dim : ℕ) (e : Expr) → one.subscript r dim (sub.One e) ≡ (value e >>= (λ x. done (subscript_of x)))
unfolding trees_open
subscript-one r dim e = refl

pub subscript-range : (r : Operand) (dim : ℕ) (l u s : Option Expr) → one.subscript r dim (sub.Range l u s) ≡
    (lists.given_or (bound Lower dim r) l >>= (λ x. lists.given_or (bound Upper dim r) u >>= (λ y. lists.stride s >>= (λ z. done (subscripts_of.Range x.value y.value z.value)))))
unfolding trees_open
subscript-range r dim None None None = refl
subscript-range r dim None None (Some s) = refl
subscript-range r dim None (Some u) None = refl
subscript-range r dim None (Some u) (Some s) = refl
subscript-range r dim (Some l) None None = refl
subscript-range r dim (Some l) None (Some s) = refl
subscript-range r dim (Some l) (Some u) None = refl
subscript-range r dim (Some l) (Some u) (Some s) = refl
