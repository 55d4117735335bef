-- What regions of statements yield is lowered to value ops, and a yield last.
use Rattle.std.proofs.Common.{refl, Bool, true, false, List, [], ◌∷◌, ◌++◌, Option, Some, None, pos}
use Rattle.ws_tree.specs.declared.expr.Expr.{Expr}
use Rattle.ws_tree.specs.declared.expr.Expr.TheVariants.{Named, Part'}
use Rattle.ws_tree.specs.declared.stmt.Bound.{Bound}
use Rattle.ws_tree.specs.declared.stmt.Bound.TheVariants as bounds
use Rattle.ws_tree.specs.declared.stmt.Index.{Index}
use Rattle.hlfir_ops.specs.declared.kinds.Elem.TheVariants.{I32}
use Rattle.hlfir_ops.specs.declared.what.What.TheVariants as what
use Rattle.hlfir_ops.specs.declared.op.ValueId.{ValueId}
use Rattle.lower_values.specs.declared.operand.Operand.{Operand}
use Rattle.lower_values.specs.Lowerings.{Lowering, done, ◌>>=◌, acting}
use Rattle.lower_values.specs.Operations.{constant}
use Rattle.lower_values.specs.References.{nothing, declare_of}
use Rattle.lower_values.specs.Values.{value, subscripts}
use Rattle.lower_values.specs.Lists.{given_or, stride}
use Rattle.lower_assign.specs.Statements.{yielded, all_yielded, whole_left, left_of, left, bounds_of, all_bounds}
use Rattle.lower_constructs.specs.Modules.{triple, triples}
use Rattle.place_laws.proofs.Plain.{Plain, plain-done, plain-then, plain-acting, plain-scoped, plain-constant}
use Rattle.place_laws.proofs.PlainValues.{plain-boxed, plain-part, plain-subscripts, plain-value}

pub plain-yielded : (p : Lowering Operand) → Plain p → Plain (yielded p)
plain-yielded p h = plain-then p (λ x. acting what.Yield (x.value ∷ [])) h (λ x. plain-acting what.Yield (x.value ∷ []) refl)

pub plain-all_yielded : (p : Lowering (List ValueId)) → Plain p → Plain (all_yielded p)
plain-all_yielded p h = plain-then p (acting what.Yield) h (λ vs. plain-acting what.Yield vs refl)

-- ---- left sides

plain-whole_left : (by_box : Bool) (d : Operand) → Plain (whole_left by_box d)
plain-whole_left true d = plain-boxed d
plain-whole_left false d = plain-done d

pub plain-left_of : (by_box : Bool) (e : Expr) → Plain (left_of by_box e)
plain-left_of by_box (Named x) = plain-scoped (λ s. whole_left by_box (declare_of s.names x)) (λ s. plain-whole_left by_box (declare_of s.names x))
plain-left_of by_box (Part' x _ subs) = plain-part x (λ r. subscripts r 1 subs) (λ r. plain-subscripts r 1 subs)
plain-left_of by_box e = plain-done nothing

pub plain-left : (e : Expr) → Plain (left e)
unfolding left
plain-left e = plain-scoped (λ s. left_of s.masked e) (λ s. plain-left_of s.masked e)

-- ---- bounds and headers

plain-pair : (p q : Lowering Operand) → Plain p → Plain q → Plain (p >>= (λ x. q >>= (λ y. done (x.value ∷ y.value ∷ []))))
plain-pair p q h g =
    plain-then p (λ x. q >>= (λ y. done (x.value ∷ y.value ∷ []))) h (λ x. plain-then q (λ y. done (x.value ∷ y.value ∷ [])) g (λ y. plain-done (x.value ∷ y.value ∷ [])))

plain-bounds_of : (b : Bound) → Plain (bounds_of b)
unfolding bounds_of
plain-bounds_of (bounds.Upper u) = plain-pair (constant I32 (pos 1)) (value u) (plain-constant I32 (pos 1)) (plain-value u)
plain-bounds_of (bounds.Both l u) = plain-pair (value l) (value u) (plain-value l) (plain-value u)
plain-bounds_of bounds.Deferred = plain-done []

-- the values of one item and of the items after it
plain-more : (p q : Lowering (List ValueId)) → Plain p → Plain q → Plain (p >>= (λ vs. q >>= (λ ws. done (vs ++ ws))))
plain-more p q h g = plain-then p (λ vs. q >>= (λ ws. done (vs ++ ws))) h (λ vs. plain-then q (λ ws. done (vs ++ ws)) g (λ ws. plain-done (vs ++ ws)))

pub plain-all_bounds : (bs : List Bound) → Plain (all_bounds bs)
unfolding all_bounds
plain-all_bounds [] = plain-done []
plain-all_bounds (b ∷ bs) = plain-more (bounds_of b) (all_bounds bs) (plain-bounds_of b) (plain-all_bounds bs)

plain-given_or : (other : Lowering Operand) (e : Option Expr) → Plain other → Plain (given_or other e)
plain-given_or other None h = h
plain-given_or other (Some e) h = plain-value e

plain-stride : (s : Option Expr) → Plain (stride s)
plain-stride s = plain-given_or (constant I32 (pos 1)) s (plain-constant I32 (pos 1))

pub plain-triple : (l u : Expr) (s : Option Expr) → Plain (triple l u s)
unfolding triple
plain-triple l u s =
    plain-then (value l) (λ x. value u >>= (λ y. stride s >>= (λ z. done (x.value ∷ y.value ∷ z.value ∷ [])))) (plain-value l)
    (λ x. plain-then (value u) (λ y. stride s >>= (λ z. done (x.value ∷ y.value ∷ z.value ∷ []))) (plain-value u)
    (λ y. plain-then (stride s) (λ z. done (x.value ∷ y.value ∷ z.value ∷ [])) (plain-stride s) (λ z. plain-done (x.value ∷ y.value ∷ z.value ∷ []))))

pub plain-triples : (is : List Index) → Plain (triples is)
unfolding triples
plain-triples [] = plain-done []
plain-triples (i ∷ is) = plain-more (triple i.l i.u i.s) (triples is) (plain-triple i.l i.u i.s) (plain-triples is)
