-- A region that yields what a lowering makes: its walk ends with the walk of the lowering.
use Rattle.std.proofs.Common.{refl, ◌∙◌, ℕ, ◌+◌, [], ◌∷◌, None, Ok, Err}
use Rattle.ws_base.specs.Outcomes.{Staged}
use Rattle.hlfir_ops.specs.declared.what.What.TheVariants as what
use Rattle.hlfir_ops.specs.Numbers.{numbers_of}
use Rattle.hlfir_meaning.specs.Environments.{Environment, Yielded, yielding}
use Rattle.hlfir_meaning.specs.Stage1.{subscript_numbers, once}
use Rattle.lower_values.specs.declared.operand.Operand.{Operand}
use Rattle.lower_values.specs.Scopes.{Scope}
use Rattle.lower_values.specs.Lowerings.{Lowering, acting, ◌>>=◌ as ◌then◌}
use Rattle.value_laws.specs.Standing.{Does}
use Rattle.value_laws.proofs.Ops.{ending}
use Rattle.part_laws.specs.Lefts.{region_of, Ends}

module _ {B : Type 0} (s : Scope) (n : ℕ) (env : Environment) (p : Lowering Operand) (P : Operand → B → ℕ → Environment → Type 0) (Q : Yielded → B → Type 0)
    (after_walk : (b : B) (m : ℕ) (after : Environment) → P (p s n).made b m after → Q (yielding after ((p s n).made.value ∷ [])) b) where
  pub does-ends : (r : Staged B) → Does (subscript_numbers (region_of p s n).ops) s n env p r P → Ends env (region_of p s n) r Q
  unfolding acting ◌then◌
  does-ends (Ok b) h = (
    yielding h.0 ((p s n).made.value ∷ []),
    h.1.walked _ ∙ ending what.Yield s.line ((p s n).made.value ∷ []) None [] (once (subscript_numbers (region_of p s n).ops)) (n + numbers_of (p s n).ops) h.0 [] refl,
    after_walk b (n + numbers_of (p s n).ops) h.0 h.2,
  )
  does-ends (Err t) h = h _
