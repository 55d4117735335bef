-- What the relation of two designators comes to, and what each designator of a module has.
use Rattle.std.specs.Prelude.{◌≡◌, Bool, true, false, List, length, Option, Some, None, ℤ, slice_get}
use Rattle.std.specs.List.{Contains}
use Rattle.hlfir_ops.specs.declared.op.ValueId.{ValueId}
use Rattle.hlfir_ops.specs.declared.op.Op.{Op}
use Rattle.hlfir_ops.specs.declared.op.Module.{Module}
use Rattle.hlfir_ops.specs.RulesValues.{kind_at, is_target, values_of}
use Rattle.hlfir_ops.specs.RulesForms.{rank_of_kind}
use Rattle.hlfir_ops.specs.RulesStatements.{declares}
use Rattle.hlfir_ops.specs.Rules.{KeepsRules}
use Rattle.alias_test.specs.declared.designator.Relation.TheVariants.{Same, Disjoint}
use Rattle.alias_test.specs.declared.designator.Designator.{Designator}
use Rattle.alias_test.specs.Givers.{kind_given, givers_of}
use Rattle.alias_test.specs.Normal.{designator_at}
use Rattle.alias_test.specs.Relations.{relation}
use Rattle.alias_test.specs.Elements.{Valuation, AgreesWith, elements_of}

-- Disjoint designators of one variable have no element in common, whatever values two runs bring.
abbrev pub DisjointHaveNoElementInCommon : Designator → Designator → Type 0
DisjointHaveNoElementInCommon a b = relation a b ≡ Disjoint → a.var ≡ b.var → (v w : Valuation) (is : List ℤ) → Contains (elements_of v a) is → Contains (elements_of w b) is → ⊥

-- Designators that are Same are of one variable, and have the same elements in the same order.
abbrev pub SameHaveTheSameElements : Designator → Designator → Type 0
SameHaveTheSameElements a b = relation a b ≡ Same → (a.var ≡ b.var) × ((v w : Valuation) → AgreesWith v w → elements_of v a ≡ elements_of w b)

-- a reference of the module or a section of one
abbrev pub IsDesignator : Module → ValueId → Type 0
IsDesignator m v = is_target (kind_at (values_of m.ops) v) ≡ true

-- It has a form for each dimension of its variable.
abbrev pub HasDimensions : Module → Designator → Type 0
HasDimensions m d = length d.forms ≡ rank_of_kind (kind_given (slice_get (givers_of m.ops) d.var))

abbrev pub EachHasItsDimensions : Module → Type 0
EachHasItsDimensions m = KeepsRules m → (v : ValueId) → IsDesignator m v → HasDimensions m (designator_at (givers_of m.ops) v.number)

abbrev pub is_declared : Option Op → Bool
is_declared (Some op) = declares op
is_declared None = false

-- A declare gives its variable.
abbrev pub IsOfADeclare : Module → Designator → Type 0
IsOfADeclare m d = is_declared (slice_get (givers_of m.ops) d.var) ≡ true

abbrev pub EachIsOfADeclare : Module → Type 0
EachIsOfADeclare m = KeepsRules m → (v : ValueId) → IsDesignator m v → IsOfADeclare m (designator_at (givers_of m.ops) v.number)
