-- Operands that are found among the values of a module, and what is a value of an expression.
use Rattle.std.proofs.Common.{◌≡◌, refl, sym, ap, ◌∙◌, ℕ, ◌==◌, Bool, true, false, List, [], ◌∷◌, Some}
use Rattle.std.proofs.lemmas.Bool.{true≢false}
use Rattle.hlfir_ops.specs.declared.kinds.Elem.{Elem}
use Rattle.hlfir_ops.specs.declared.kinds.ValueKind.{ValueKind}
use Rattle.hlfir_ops.specs.declared.kinds.ValueKind.TheVariants.{Scalar, Place, Declared, Allocatable, Section, Array}
use Rattle.hlfir_ops.specs.declared.what.What.{What}
use Rattle.hlfir_ops.specs.declared.op.ValueId.{ValueId}
use Rattle.hlfir_ops.specs.RulesValues.{Value, kind_of, kind_at, elem_of, rank_of, is_array}
use Rattle.lower_values.specs.declared.operand.Operand.{Operand}
use Rattle.lower_values.specs.Scopes.{Scope}
use Rattle.lower_values.specs.Lowerings.{Lowered, giving}
use Rattle.kind_laws.specs.Found.{Holds, Found}
use Rattle.form_laws.proofs.Passing.{AreFit, fit-op, part_fits}
use Rattle.kind_laws.proofs.Finding.{own_value}

-- a scalar, or what has a rank above 0
abbrev pub IsSolid : ValueKind → Type 0
IsSolid (Scalar e) = Unit {0}
IsSolid (Place e) = ⊥
IsSolid (Declared e shape) = (shape.rank == 0) ≡ false
IsSolid (Allocatable e rank) = (rank == 0) ≡ false
IsSolid (Section e rank) = (rank == 0) ≡ false
IsSolid (Array e rank) = (rank == 0) ≡ false

pub scalar_kind : (k : ValueKind) → IsSolid k → (rank_of k == 0) ≡ true → k ≡ Scalar (elem_of k)
scalar_kind (Scalar e) h is = refl
scalar_kind (Place e) h is = absurd h
scalar_kind (Declared e shape) h is = absurd (true≢false (sym is ∙ h))
scalar_kind (Allocatable e rank) h is = absurd (true≢false (sym is ∙ h))
scalar_kind (Section e rank) h is = absurd (true≢false (sym is ∙ h))
scalar_kind (Array e rank) h is = absurd (true≢false (sym is ∙ h))

pub array_kind : (k : ValueKind) → (rank_of k == 0) ≡ false → is_array (Some k) ≡ true
array_kind (Scalar e) is = absurd (true≢false is)
array_kind (Place e) is = absurd (true≢false is)
array_kind (Declared e shape) is = refl
array_kind (Allocatable e rank) is = refl
array_kind (Section e rank) is = refl
array_kind (Array e rank) is = refl

module _ (vs : List Value) where
  -- the value is found, with the operand's kind
  abbrev pub IsFound : Operand → Type 0
  IsFound x = kind_at vs x.value ≡ Some x.kind

  pub found_of : (x : Operand) → Found vs x → IsFound x
  found_of x h = ap kind_of h.found ∙ ap Some h.kind

  pub record Stands (x : Operand) : Type 0 where
    pub found : IsFound x
    pub solid : IsSolid x.kind

  -- scalars of these types
  abbrev pub AreScalars : List Operand → List Elem → Type 0
  AreScalars [] [] = Unit {0}
  AreScalars (y ∷ ys) (e ∷ es) = (kind_at vs y.value ≡ Some (Scalar e)) × AreScalars ys es
  AreScalars _ _ = ⊥

  -- a lowering's ops have their forms, and its operand stands
  pub record Made (b : Bool) (l : Lowered Operand) : Type 0 where
    pub fit : AreFit vs b l.ops
    pub stands : Stands l.made

  -- one op that gives a value
  module _ (b : Bool) (w : What) (os : List ValueId) (k : ValueKind) (s : Scope) (n : ℕ) (h : Holds vs n (giving w os k s n).ops) where
    pub giving-found : IsFound (giving w os k s n).made
    unfolding giving
    giving-found = ap kind_of (own_value vs n w s.line os k [] [] h)

    pub giving-fit : part_fits vs b w s.line os (Some k) [] ≡ true → AreFit vs b (giving w os k s n).ops
    unfolding giving
    giving-fit g = fit-op vs b w s.line os (Some k) [] g tt
