-- Walks through lowerings: each op passes, and what is made passes, where the values of the module hold those of the ops.
use Rattle.std.proofs.Common.{◌≡◌, refl, ℕ, ◌+◌, Bool, true, false, ◌||◌, List, [], All, Some, if◌then◌else◌}
use Rattle.std.proofs.lemmas.List.Elements.{All-nil, All-cons, All-append}
use Rattle.hlfir_ops.specs.declared.kinds.ValueKind.{ValueKind}
use Rattle.hlfir_ops.specs.declared.what.What.{What}
use Rattle.hlfir_ops.specs.declared.op.ValueId.{ValueId}
use Rattle.hlfir_ops.specs.declared.op.Op.{Op}
use Rattle.hlfir_ops.specs.Trees.{op_of}
use Rattle.hlfir_ops.specs.Numbers.{numbers_of}
use Rattle.hlfir_ops.specs.RulesValues.{Value}
use Rattle.hlfir_ops.specs.RulesRegions.{is_value_op}
use Rattle.hlfir_ops.specs.RulesStatements.{may_take_allocatable, no_allocatable}
use Rattle.lower_values.specs.Scopes.{Scope}
use Rattle.lower_values.specs.Lowerings.{Lowering, done, ◌>>=◌, scoped, giving}
use Rattle.kind_laws.specs.Found.{Holds}
use Rattle.kind_laws.proofs.Finding.{holds_first, holds_after}
use Rattle.yield_laws.proofs.Usable.{IsUsable, IsValue, is_solid, is_plain, value-op, given-usable}

abbrev pub Walks : {A : Type 0} → List Value → (Op → Type 0) → Scope → ℕ → Lowering A → (A → Type 0) → Type 0
Walks vs R s n p Q = Holds vs n (p s n).ops → All R (p s n).ops × Q (p s n).made

module _ (vs : List Value) (R : Op → Type 0) (s : Scope) (n : ℕ) where
  pub walks-done : {A : Type 0} (x : A) (Q : A → Type 0) → Q x → Walks vs R s n (done x) Q
  unfolding done
  walks-done x Q q h = (All-nil R, q)

  pub walks-then : {A B : Type 0} (p : Lowering A) (q : A → Lowering B) (P : A → Type 0) (Q : B → Type 0) → Walks vs R s n p P → ((m : ℕ) (x : A) → P x → Walks vs R s m (q x) Q) → Walks vs R s n (p >>= q) Q
  unfolding ◌>>=◌
  walks-then p q P Q f g h =
      let a = p s n in
      let m = n + numbers_of a.ops in
      let b = q a.made s m in
      let first = f (holds_first vs _ a.ops b.ops h) in
      let second = g m a.made first.1 (holds_after vs _ a.ops b.ops h) in
      (All-append R a.ops b.ops first.0 second.0, second.1)

  pub walks-scoped : {A : Type 0} (f : Scope → Lowering A) (Q : A → Type 0) → Walks vs R s n (f s) Q → Walks vs R s n (scoped f) Q
  unfolding scoped
  walks-scoped f Q h = h

  pub walks-giving : (w : What) (operands : List ValueId) (kind : ValueKind) → is_value_op w ≡ true → is_solid kind ≡ true → R (op_of w s.line operands (Some kind) []) → Walks vs R s n (giving w operands kind) (IsUsable vs)
  unfolding giving
  walks-giving w operands kind g solid r h = (All-cons R (op_of w s.line operands (Some kind) []) [] r (All-nil R), given-usable vs n w s.line operands kind [] [] g solid h)

-- an op that gives a value
pub walks-value : (vs : List Value) (s : Scope) (n : ℕ) (w : What) (operands : List ValueId) (kind : ValueKind) → is_value_op w ≡ true → is_plain w ≡ true → is_solid kind ≡ true → (may_take_allocatable w || no_allocatable vs operands) ≡ true →
    Walks vs (IsValue vs) s n (giving w operands kind) (IsUsable vs)
walks-value vs s n w operands kind g plain solid uses = walks-giving vs (IsValue vs) s n w operands kind g solid (value-op vs w s.line operands (Some kind) g plain uses)

-- one of two lowerings
pub walks-if : {A : Type 0} (vs : List Value) (R : Op → Type 0) (s : Scope) (n : ℕ) (b : Bool) (p q : Lowering A) (Q : A → Type 0) → (b ≡ true → Walks vs R s n p Q) → (b ≡ false → Walks vs R s n q Q) → Walks vs R s n (if b then p else q) Q
walks-if vs R s n true p q Q f g = f refl
walks-if vs R s n false p q Q f g = g refl
