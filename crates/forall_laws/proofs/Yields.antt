-- Regions over combinations that yield one value.
use Rattle.std.proofs.Common.{◌≡◌, refl, sym, ◌∙◌, subst, ℕ, ◌+◌, List, [], ◌∷◌, ◌++◌, None, Ok, Err}
use Rattle.ws_base.specs.Outcomes.{Staged}
use Rattle.hlfir_ops.specs.declared.what.What.TheVariants as what
use Rattle.hlfir_ops.specs.declared.op.Op.{Op}
use Rattle.hlfir_ops.specs.Trees.{op_of}
use Rattle.hlfir_ops.specs.Numbers.{numbers_of}
use Rattle.hlfir_meaning.specs.Environments.{Value, Environment, Yielded, yielding}
use Rattle.hlfir_meaning.specs.Places.{over, over_ops}
use Rattle.hlfir_ops.specs.declared.op.Op.{out-Op}
use Rattle.lower_values.specs.declared.operand.Operand.{Operand}
use Rattle.lower_values.specs.Scopes.{Scope}
use Rattle.lower_values.specs.Lowerings.{Lowering, ◌>>=◌, acting}
use Rattle.lower_assign.specs.Statements.{yielded}
use Rattle.value_laws.proofs.Ops.{ending}
use Rattle.forall_laws.specs.Walks.{DoesOver}

-- the region faults alike, or yields what stands for the same value
abbrev pub YieldsOver : {A : Type 0} → List ℕ → ℕ → Environment → List Op → Staged A → (A → Yielded → Type 0) → Type 0
YieldsOver at n env ops (Ok a) P = (y : Yielded) × (over_ops at n env ops ≡ Ok y) × P a y
YieldsOver at n env ops (Err t) P = over_ops at n env ops ≡ Err t

module _ (at : List ℕ) (s : Scope) (n : ℕ) (env : Environment) (p : Lowering Operand) where
  abbrev yield : Op
  yield = op_of what.Yield s.line ((p s n).made.value ∷ []) None []

  yielded_ops : (yielded p s n).ops ≡ (p s n).ops ++ yield ∷ []
  unfolding ◌>>=◌ acting
  yielded_ops = refl

  by_result : {A : Type 0} (r : Staged A) (Q : Operand → A → ℕ → Environment → Type 0) (P : A → Yielded → Type 0) →
      ((a : A) (after : Environment) → Q (p s n).made a (n + numbers_of (p s n).ops) after → P a (yielding after ((p s n).made.value ∷ []))) → DoesOver at s n env p r Q → YieldsOver at n env ((p s n).ops ++ yield ∷ []) r P
  by_result (Ok a) Q P g h =
      let gives : ℕ → Environment → Op → Staged Value = λ m rho op. over at rho (out-Op op).what (out-Op op).operands in (
        yielding h.0 ((p s n).made.value ∷ []),
        h.1.walked (yield ∷ []) ∙ ending what.Yield s.line ((p s n).made.value ∷ []) None [] gives (n + numbers_of (p s n).ops) h.0 [] refl,
        g a h.0 h.2,
      )
  by_result (Err t) Q P g h = h (yield ∷ [])

  pub over-yielded : {A : Type 0} (r : Staged A) (Q : Operand → A → ℕ → Environment → Type 0) (P : A → Yielded → Type 0) →
      ((a : A) (after : Environment) → Q (p s n).made a (n + numbers_of (p s n).ops) after → P a (yielding after ((p s n).made.value ∷ []))) → DoesOver at s n env p r Q → YieldsOver at n env (yielded p s n).ops r P
  over-yielded r Q P g h = subst (λ ops. YieldsOver at n env ops r P) (sym yielded_ops) (by_result r Q P g h)
