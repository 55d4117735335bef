-- The ops of a region that yields several values.
use Rattle.std.proofs.Common.{◌≡◌, refl, ap, ◌∙◌, ℕ, List, [], ◌∷◌, ◌++◌, None, append-nil}
use Rattle.hlfir_ops.specs.declared.what.What.TheVariants as what
use Rattle.hlfir_ops.specs.declared.op.ValueId.{ValueId}
use Rattle.hlfir_ops.specs.declared.op.Op.{Op}
use Rattle.hlfir_ops.specs.Trees.{op_of}
use Rattle.hlfir_meaning.specs.Stage1.{subscript_numbers}
use Rattle.lower_values.specs.Scopes.{Scope}
use Rattle.lower_values.specs.Lowerings.{Lowering, ◌>>=◌, acting}
use Rattle.lower_assign.specs.Statements.{all_yielded}
use Rattle.value_laws.proofs.VectorNumbers.{subscripts-append, subscripts-op}

abbrev pub yield_of : Scope → List ValueId → Op
yield_of s vs = op_of what.Yield s.line vs None []

pub yielded_ops : (p : Lowering (List ValueId)) (s : Scope) (n : ℕ) → (all_yielded p s n).ops ≡ (p s n).ops ++ yield_of s (p s n).made ∷ []
unfolding ◌>>=◌ acting
yielded_ops p s n = refl

pub yield_subscripts : (s : Scope) (vs : List ValueId) (ops : List Op) → subscript_numbers (ops ++ yield_of s vs ∷ []) ≡ subscript_numbers ops
yield_subscripts s vs ops = subscripts-append ops (yield_of s vs ∷ []) ∙ (ap (λ ns. subscript_numbers ops ++ ns) (subscripts-op what.Yield s.line vs None []) ∙ append-nil (subscript_numbers ops))
