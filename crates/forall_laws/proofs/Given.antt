-- One op over combinations, and what stands when a walk has gone on.
use Rattle.std.proofs.Common.{◌≡◌, refl, ap, ◌∙◌, subst, ℕ, ◌+◌, ◌<◌, ◌≤◌, false, List, [], ◌∷◌, Option, Some, None, Ok, Err, ℤ, arith}
use Rattle.ws_base.specs.Outcomes.{Staged}
use Rattle.ws_base.specs.declared.name.Name.{Name}
use Rattle.ws_space.specs.Maps.{everywhere_same}
use Rattle.array_meaning.specs.declared.world.World.{World}
use Rattle.array_meaning.specs.Forall.{Combination}
use Rattle.hlfir_ops.specs.declared.kinds.Elem.{Elem}
use Rattle.hlfir_ops.specs.declared.kinds.ValueKind.{ValueKind}
use Rattle.hlfir_ops.specs.declared.kinds.ValueKind.TheVariants.{Scalar}
use Rattle.hlfir_ops.specs.declared.what.What.{What}
use Rattle.hlfir_ops.specs.declared.what.What.TheVariants as what
use Rattle.hlfir_ops.specs.declared.op.ValueId.{ValueId}
use Rattle.hlfir_ops.specs.Numbers.{numbers_of}
use Rattle.hlfir_ops.specs.Trees.{op_of}
use Rattle.hlfir_ops.proofs.Numbered.{op_numbers-op_of}
use Rattle.hlfir_meaning.specs.Environments.{Value, Environment, with_value}
use Rattle.hlfir_meaning.specs.Order.{ends}
use Rattle.hlfir_meaning.specs.Places.{over, as_column, over_ops}
use Rattle.lower_values.specs.declared.operand.Operand.{Operand}
use Rattle.lower_values.specs.Scopes.{Scope, index_of}
use Rattle.lower_values.specs.Lowerings.{giving}
use Rattle.lower_values.specs.Operations.{constant}
use Rattle.value_laws.specs.Standing.{Kept}
use Rattle.value_laws.proofs.Walking.{with_value-here, goes-one, goes-weaker}
use Rattle.value_laws.proofs.Ops.{over-op}
use Rattle.forall_laws.specs.Walks.{DoesOver, IsPlain, IsColumn}
use Rattle.forall_laws.specs.Combined.{IndexStands, StandsOver}

-- ---- later on

pub column-later : (x : Operand) (xs : List ℤ) (n m : ℕ) (env after : Environment) → n ≤ m → Kept n env after → IsColumn x xs n env → IsColumn x xs m after
column-later x xs n m env after l kept h = record { found = kept x.value.number h.low ∙ h.found; low = omega (arith, l, h.low); plain = h.plain }

module _ (at : List ℕ) (of : ℕ → Combination) (s : Scope) (w : World) (n m : ℕ) (env after : Environment) (l : n ≤ m) (kept : Kept n env after) where
  index_later : (x : Name) (o : Option ValueId) → IndexStands at of s.names env n x o → IndexStands at of s.names after m x o
  index_later x (Some v) h = record { values = h.values; low = omega (arith, l, h.low); found = kept v.number h.low ∙ h.found; combined = h.combined; apart = h.apart }
  index_later x None h = h

  pub stands-later : StandsOver at of s w n env → StandsOver at of s w m after
  stands-later h = record {
    world = h.world;
    variables = λ k low. kept k (omega (arith, low, h.declared)) ∙ h.variables k low;
    declared = omega (arith, l, h.declared);
    indexes = λ x. index_later x (index_of s.indexes x) (h.indexes x);
  }

-- ---- one op

module _ (at : List ℕ) (s : Scope) (n : ℕ) (env : Environment) (w : What) (os : List ValueId) (k : ValueKind) (goes : ends w ≡ false) where
  -- what was given stands under its number
  abbrev pub Stands : Operand → Value → ℕ → Environment → Type 0
  Stands x v m after = (after x.value.number ≡ v) × (x.value.number < m)

  one_more : n < n + numbers_of (op_of w s.line os (Some k) [] ∷ [])
  one_more = omega (arith, op_numbers-op_of w s.line os (Some k) [])

  pub over-giving : DoesOver at s n env (giving w os k) (over at env w os) Stands
  unfolding giving
  over-giving = goes-weaker (over_ops at) n env (op_of w s.line os (Some k) [] ∷ []) (λ v after. after ≡ with_value n v env)
      (λ v after. Stands (record { value = record { number = n }; kind = k }) v (n + numbers_of (op_of w s.line os (Some k) [] ∷ [])) after) (over at env w os)
      (λ v after _ is. (ap (λ f. f n) is ∙ with_value-here n v env, one_more)) (goes-one (over_ops at) w s.line os (Some k) [] n env (over at env w os) (λ rest. over-op w s.line os (Some k) [] at n env rest goes))

  module _ (plain : IsPlain k) where
    by_column : (r : Staged (List ℤ)) → DoesOver at s n env (giving w os k) (as_column r) Stands → DoesOver at s n env (giving w os k) r IsColumn
    unfolding giving
    by_column (Ok xs) h = (h.0, h.1, record { found = h.2.0; low = h.2.1; plain = plain })
    by_column (Err t) h = h

    pub over-column : (r : Staged (List ℤ)) → over at env w os ≡ as_column r → DoesOver at s n env (giving w os k) r IsColumn
    over-column r h = by_column r (subst (λ q. DoesOver at s n env (giving w os k) q Stands) h over-giving)

pub over-constant : (at : List ℕ) (e : Elem) (z : ℤ) (s : Scope) (n : ℕ) (env : Environment) → DoesOver at s n env (constant e z) (Ok (everywhere_same z at)) IsColumn
over-constant at e z s n env = over-column at s n env (what.Constant z) [] (Scalar e) refl tt (Ok (everywhere_same z at)) refl
