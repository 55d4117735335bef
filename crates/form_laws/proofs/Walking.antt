-- Forms through one lowering after another.
use Rattle.std.proofs.Common.{ℕ, ◌+◌, false, List}
use Rattle.hlfir_ops.specs.Numbers.{numbers_of}
use Rattle.hlfir_ops.specs.RulesValues.{Value}
use Rattle.lower_values.specs.declared.operand.Operand.{Operand}
use Rattle.lower_values.specs.Scopes.{Scope}
use Rattle.lower_values.specs.Lowerings.{Lowering, Lowered, done, ◌>>=◌}
use Rattle.form_laws.proofs.Passing.{AreFit, fit-none, fit-append}
use Rattle.form_laws.proofs.Operands.{IsSolid, Made}

module _ (vs : List Value) where
  -- the ops of an expression have their forms, and it is no place
  pub record Good (l : Lowered Operand) : Type 0 where
    pub fit : AreFit vs false l.ops
    pub solid : IsSolid l.made.kind

  pub good-made : (l : Lowered Operand) → Made vs false l → Good l
  good-made l h = record { fit = h.fit; solid = h.stands.solid }

  pub then-good : {A : Type 0} (p : Lowering A) (q : A → Lowering Operand) (s : Scope) (n : ℕ) → AreFit vs false (p s n).ops → Good (q (p s n).made s (n + numbers_of (p s n).ops)) → Good ((p >>= q) s n)
  unfolding ◌>>=◌
  then-good p q s n h g = record { fit = fit-append vs false (p s n).ops (q (p s n).made s (n + numbers_of (p s n).ops)).ops h g.fit; solid = g.solid }

  pub done-good : (x : Operand) (s : Scope) (n : ℕ) → IsSolid x.kind → Good (done x s n)
  unfolding done
  done-good x s n h = record { fit = fit-none vs false; solid = h }

  -- ---- what any lowering leaves

  -- ops that have their forms, and what this holds of
  pub record Leaves {A : Type 0} (P : A → Type 0) (l : Lowered A) : Type 0 where
    pub fit : AreFit vs false l.ops
    pub holds : P l.made

  pub then-leaves : {A B : Type 0} (P : B → Type 0) (p : Lowering A) (q : A → Lowering B) (s : Scope) (n : ℕ) → AreFit vs false (p s n).ops → Leaves P (q (p s n).made s (n + numbers_of (p s n).ops)) → Leaves P ((p >>= q) s n)
  unfolding ◌>>=◌
  then-leaves P p q s n h g = record { fit = fit-append vs false (p s n).ops (q (p s n).made s (n + numbers_of (p s n).ops)).ops h g.fit; holds = g.holds }

  pub done-leaves : {A : Type 0} (P : A → Type 0) (x : A) (s : Scope) (n : ℕ) → P x → Leaves P (done x s n)
  unfolding done
  done-leaves P x s n h = record { fit = fit-none vs false; holds = h }
