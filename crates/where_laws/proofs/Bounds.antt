-- The bounds of a new left side have the rank of its right side.
use Rattle.std.proofs.Common.{◌≡◌, sym, ap, ◌∙◌, subst, List, [], ◌∷◌, length, Option, Some, None, Ok, ℤ, pos}
use Rattle.std.proofs.lemmas.List.{length-map}
use Rattle.ws_base.specs.Outcomes.{Staged}
use Rattle.ws_space.specs.declared.shape.Dim.{Dim}
use Rattle.ws_space.specs.declared.state.VarState.{VarState}
use Rattle.ws_space.specs.declared.state.VarState.TheVariants as state
use Rattle.ws_space.specs.Shapes.{Extents, dims, extents_of}
use Rattle.ws_space.specs.Values.{state_of}
use Rattle.ws_space.specs.Replace.{from_one}
use Rattle.ws_tree.specs.declared.expr.Expr.{Expr}
use Rattle.ws_tree.specs.declared.expr.Expr.TheVariants.{Number, TooWide, Truth, Named, Part', Call', Vector', Paren', Unary', Binary'}
use Rattle.ws_tree.specs.declared.expr.Expr.TheVariants as expr
use Rattle.array_meaning.specs.declared.world.World.{World}
use Rattle.array_meaning.specs.declared.term.Term.{Term}
use Rattle.array_meaning.specs.declared.term.Term.TheVariants as term
use Rattle.array_meaning.specs.Stage1.{walk, constant_of, named, whole_array}
use Rattle.array_meaning.specs.Stage2.{operands, array_operand}
use Rattle.array_meaning.specs.Assign.{new_bounds, bounds_from}
use Rattle.value_laws.proofs.Names.{whole_operands}
use Rattle.where_laws.proofs.Same.{ok_same, IsOk}

operand_head : (es o : Extents) (os : List Extents) → array_operand es ≡ o ∷ os → es ≡ o
operand_head [] o os h = let f : ⊥ = cc in absurd f
operand_head (n ∷ ns) o os h = cc

from_one-length : (e : Extents) → length (from_one e) ≡ length e
from_one-length e = length-map e (λ n. let d : Dim = record { lower = pos 1; extent = n } in d)

module _ (r : Term) (o : Extents) (os : List Extents) (e : Extents) (some : operands r ≡ o ∷ os) (same : o ≡ e) where
  no_scalar : {P : Type 0} (z : ℤ) → (let s : Staged Term = Ok (term.Scalar z) in s) ≡ Ok r → P
  no_scalar z h =
      let is : term.Scalar z ≡ r = ok_same (term.Scalar z) r h in
      let none : [] ≡ o ∷ os = ap operands is ∙ some in
      let f : ⊥ = cc in absurd f

  named_length : (c : Option ℤ) (s : VarState) → named c s ≡ Ok r → length (bounds_from s e) ≡ length e
  named_length (Some z) s h = no_scalar z h
  named_length None (state.Scalar z) h = no_scalar z h
  named_length None (state.Array a) h =
      let is : whole_array a ≡ r = ok_same (whole_array a) r h in
      let all : array_operand (extents_of (dims a.shape)) ≡ o ∷ os = sym (whole_operands a) ∙ (ap operands is ∙ some) in
      let shape : extents_of (dims a.shape) ≡ e = operand_head (extents_of (dims a.shape)) o os all ∙ same in
      length-map (dims a.shape) _ ∙ (sym (length-map (dims a.shape) (λ (d : Dim). d.extent)) ∙ ap length shape)
  named_length None (state.Unallocated k) h = let P : Staged Term → Type 0 = λ x. IsOk x in absurd (subst P (sym h) tt)

  pub bounds_length : (w : World) (right : Expr) → walk w right ≡ Ok r → length (new_bounds w right e) ≡ length e
  bounds_length w (Named y) h = named_length (constant_of w.constants y) (state_of w.vars y) h
  bounds_length w (Number n) h = from_one-length e
  bounds_length w TooWide h = from_one-length e
  bounds_length w expr.TooDeep h = from_one-length e
  bounds_length w (Truth b) h = from_one-length e
  bounds_length w (Part' x i subs) h = from_one-length e
  bounds_length w (Call' word i es) h = from_one-length e
  bounds_length w (Vector' i es) h = from_one-length e
  bounds_length w (Paren' i es) h = from_one-length e
  bounds_length w (Unary' op i es) h = from_one-length e
  bounds_length w (Binary' op i es k fs) h = from_one-length e
