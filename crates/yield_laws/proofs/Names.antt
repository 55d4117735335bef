-- What names and inquiries become.
use Rattle.std.proofs.Common.{◌≡◌, refl, sym, ◌∙◌, subst, ℕ, ◌<◌, nat_lt, Bool, true, false, List, [], ◌∷◌, Option, Some, None, arith, true≢false}
use Rattle.ws_base.specs.Numbers.{truth}
use Rattle.ws_tree.specs.declared.expr.Expr.{Expr}
use Rattle.ws_types.specs.declared.constant.Constancy.{Constancy}
use Rattle.ws_types.specs.declared.constant.Constancy.TheVariants.{Value as Value'}
use Rattle.ws_types.specs.Constants.{constancy}
use Rattle.ws_types.specs.declared.types.Entry.{Entry}
use Rattle.ws_types.specs.declared.types.Typed.{Typed}
use Rattle.ws_types.specs.declared.types.Standing.{Standing}
use Rattle.ws_types.specs.declared.types.Standing.TheVariants.{Declared, Active, Index, Barred}
use Rattle.ws_types.specs.Names.{Name, name_type, entry_type, integer, is_undeclared, is_barred, name_faults}
use Rattle.ws_types.specs.Operations.{is_above}
use Rattle.ws_sema.proofs.NoFaults.{none_first, none_after, not_broken}
use Rattle.hlfir_ops.specs.declared.kinds.Elem.TheVariants.{I32, I1}
use Rattle.hlfir_ops.specs.declared.kinds.ValueKind.{ValueKind}
use Rattle.hlfir_ops.specs.declared.kinds.ValueKind.TheVariants as kind
use Rattle.hlfir_ops.specs.declared.what.BoundWord.{BoundWord}
use Rattle.hlfir_ops.specs.declared.what.What.TheVariants as what
use Rattle.hlfir_ops.specs.declared.op.ValueId.{ValueId}
use Rattle.hlfir_ops.specs.RulesValues.{Value, Declares, Other, value_at, is_allocatable}
use Rattle.lower_values.specs.declared.operand.Operand.{Operand}
use Rattle.lower_values.specs.Scopes.{Scope, index_of}
use Rattle.lower_values.specs.Lowerings.{Lowering}
use Rattle.lower_values.specs.References.{variable_of, or_nothing, declare_of, box_of, boxed, reference, load_of, loaded, truth_of, variable_or_truth, index_or_other, named, bound}
use Rattle.lower_values.specs.Values.{constant_or, folded}
use Rattle.kind_laws.specs.Standing.{FitsEntry, EntryIsKnown, NameIsKnown}
use Rattle.kind_laws.specs.Found.{Found, ScopeIsFound}
use Rattle.kind_laws.proofs.FormsFound.{declare_found, index_found}
use Rattle.yield_laws.proofs.Usable.{IsUsable, IsValue, is_solid, usable-reached, more-reached}
use Rattle.yield_laws.proofs.Walking.{Walks, walks-done, walks-then, walks-scoped, walks-value}
use Rattle.yield_laws.proofs.Operations.{walks-constant}

-- ---- variables of a scope

lt_true : (n : ℕ) → 0 < n → nat_lt 0 n ≡ true
lt_true n h = grind (arith, h)

pub fits-solid : (e : Entry) (k : ValueKind) → FitsEntry e k → is_solid k ≡ true
fits-solid e (kind.Place f) h = refl
fits-solid e (kind.Declared f shape) h = lt_true shape.rank (omega (arith, h.1, h.2))
fits-solid e (kind.Allocatable f rank) h = lt_true rank (omega (arith, h.1, h.2))
fits-solid e (kind.Scalar f) h = absurd h
fits-solid e (kind.Section f rank) h = absurd h
fits-solid e (kind.Array f rank) h = absurd h

-- a variable, whose kind is that of some declaration
pub record VariableIs (s : Scope) (x : Name) : Type 0 where
  pub declare : Operand
  pub is : variable_of s.names.variables x ≡ Some declare
  pub solid : is_solid declare.kind ≡ true

pub not_known : {P : Type 0} (line : ℕ) (o : Option Standing) → is_undeclared o ≡ true → name_faults line o ≡ [] → P
unfolding name_faults
not_known line o is f = absurd (true≢false (sym is ∙ not_broken _ _ _ (none_first _ _ f)))

pub not_open : {P : Type 0} (line : ℕ) (o : Option Standing) → is_barred o ≡ true → name_faults line o ≡ [] → P
unfolding name_faults
not_open line o is f = absurd (true≢false (sym is ∙ not_broken _ _ _ (none_after _ _ f)))

no_rank : (n : ℕ) → n ≡ 0 → nat_lt 0 n ≡ false
no_rank n h = grind (arith, h)

entry_variable : (s : Scope) (x : Name) (b : Bool) (e : Entry) → EntryIsKnown b s.names x e → nat_lt 0 e.rank ≡ true → VariableIs s x
entry_variable s x true e h r = absurd (true≢false (sym r ∙ no_rank e.rank h.1))
entry_variable s x false e h r = record { declare = h.0; is = h.1; solid = fits-solid e h.0.kind h.2 }

-- a name with a rank above 0
pub array-variable : (s : Scope) (x : Name) (line : ℕ) (o : Option Standing) → NameIsKnown s x o → name_faults line o ≡ [] → is_above 0 (name_type o) ≡ true → VariableIs s x
array-variable s x line None h f r = not_known line None refl f
array-variable s x line (Some (Declared e)) h f r = entry_variable s x e.constant e h.1 r
array-variable s x line (Some (Active e)) h f r = entry_variable s x false e h.2 r
array-variable s x line (Some Index) h f r = absurd (true≢false (sym r))
array-variable s x line (Some Barred) h f r = not_open line (Some Barred) refl f

-- where each type that the name may have has a rank above 0
pub named-rank : (line : ℕ) (o : Option Standing) → name_faults line o ≡ [] → ((ty : Typed) → name_type o ≡ Some ty → nat_lt 0 ty.rank ≡ true) → is_above 0 (name_type o) ≡ true
named-rank line None f h = not_known line None refl f
named-rank line (Some (Declared e)) f h = h (entry_type e) refl
named-rank line (Some (Active e)) f h = h (entry_type e) refl
named-rank line (Some Index) f h = h integer refl
named-rank line (Some Barred) f h = not_open line (Some Barred) refl f

-- ---- what stands for them among the values

module _ (vs : List Value) (s : Scope) (scope : ScopeIsFound vs s) (n : ℕ) where
  -- ---- references

  declared_usable : (v : ValueId) (k : ValueKind) → value_at vs v ≡ Some (record { kind = k; source = Declares }) → is_solid k ≡ true → is_allocatable (Some k) ≡ false → IsUsable vs (record { value = v; kind = k })
  declared_usable v k is solid other = record { found = record { value = record { kind = k; source = Declares }; found = is; kind = refl; reached = other }; solid = solid }

  box : (v : ValueId) (k : ValueKind) → value_at vs v ≡ Some (record { kind = k; source = Declares }) → is_solid k ≡ true → Walks vs (IsValue vs) s n (box_of k (record { value = v; kind = k })) (IsUsable vs)
  box v (kind.Scalar e) is solid = walks-done vs (IsValue vs) s n (record { value = v; kind = kind.Scalar e }) (IsUsable vs) (declared_usable v (kind.Scalar e) is solid refl)
  box v (kind.Place e) is solid = walks-done vs (IsValue vs) s n (record { value = v; kind = kind.Place e }) (IsUsable vs) (declared_usable v (kind.Place e) is solid refl)
  box v (kind.Declared e shape) is solid = walks-done vs (IsValue vs) s n (record { value = v; kind = kind.Declared e shape }) (IsUsable vs) (declared_usable v (kind.Declared e shape) is solid refl)
  box v (kind.Allocatable e rank) is solid = walks-value vs s n what.Boxed (v ∷ []) (kind.Allocatable e rank) refl refl solid refl
  box v (kind.Section e rank) is solid = walks-done vs (IsValue vs) s n (record { value = v; kind = kind.Section e rank }) (IsUsable vs) (declared_usable v (kind.Section e rank) is solid refl)
  box v (kind.Array e rank) is solid = walks-done vs (IsValue vs) s n (record { value = v; kind = kind.Array e rank }) (IsUsable vs) (declared_usable v (kind.Array e rank) is solid refl)

  pub walks-boxed : (x : Name) (d : Operand) → variable_of s.names.variables x ≡ Some d → is_solid d.kind ≡ true → Walks vs (IsValue vs) s n (boxed d) (IsUsable vs)
  unfolding boxed
  walks-boxed x d is solid = box d.value d.kind (declare_found vs s.names.variables x d scope.variables is) solid

  pub walks-reference : (x : Name) → VariableIs s x → Walks vs (IsValue vs) s n (reference x) (IsUsable vs)
  unfolding reference
  walks-reference x v =
      walks-scoped vs (IsValue vs) s n (λ c. boxed (declare_of c.names x)) (IsUsable vs)
      (subst (λ o. Walks vs (IsValue vs) s n (boxed (or_nothing o)) (IsUsable vs)) (sym v.is) (walks-boxed x v.declare v.is v.solid))

-- ---- values at places

module _ (vs : List Value) (s : Scope) (n : ℕ) where
  load : (k : ValueKind) (r : Operand) → IsUsable vs r → Walks vs (IsValue vs) s n (load_of k r) (IsUsable vs)
  load (kind.Scalar e) r u = walks-done vs (IsValue vs) s n r (IsUsable vs) u
  load (kind.Place e) r u = walks-value vs s n what.Load (r.value ∷ []) (kind.Scalar e) refl refl refl (more-reached vs r.value [] (usable-reached u) refl)
  load (kind.Declared e shape) r u = walks-done vs (IsValue vs) s n r (IsUsable vs) u
  load (kind.Allocatable e rank) r u = walks-done vs (IsValue vs) s n r (IsUsable vs) u
  load (kind.Section e rank) r u = walks-done vs (IsValue vs) s n r (IsUsable vs) u
  load (kind.Array e rank) r u = walks-done vs (IsValue vs) s n r (IsUsable vs) u

  pub walks-loaded : (r : Operand) → IsUsable vs r → Walks vs (IsValue vs) s n (loaded r) (IsUsable vs)
  unfolding loaded
  walks-loaded r u = load r.kind r u

  pub walks-bound : (w : BoundWord) (dim : ℕ) (r : Operand) → IsUsable vs r → Walks vs (IsValue vs) s n (bound w dim r) (IsUsable vs)
  unfolding bound
  walks-bound w dim r u = walks-value vs s n (what.Bound w dim) (r.value ∷ []) (kind.Scalar I32) refl refl refl (more-reached vs r.value [] (usable-reached u) refl)

  -- ---- constant expressions

  constant-or : (c : Constancy) (p : Lowering Operand) → Walks vs (IsValue vs) s n p (IsUsable vs) → Walks vs (IsValue vs) s n (constant_or c p) (IsUsable vs)
  constant-or (Value' z) p h = walks-constant vs s n I32 z
  constant-or _ p h = h

  pub walks-folded : (e : Expr) (p : Lowering Operand) → Walks vs (IsValue vs) s n p (IsUsable vs) → Walks vs (IsValue vs) s n (folded e p) (IsUsable vs)
  unfolding folded
  walks-folded e p h = walks-scoped vs (IsValue vs) s n (λ c. constant_or (constancy c.names.constants e) p) (IsUsable vs) (constant-or (constancy s.names.constants e) p h)

-- ---- names in a value place

module _ (vs : List Value) (s : Scope) (scope : ScopeIsFound vs s) (n : ℕ) (x : Name) where
  variable_value : (d : Operand) → variable_of s.names.variables x ≡ Some d → is_solid d.kind ≡ true → Walks vs (IsValue vs) s n (variable_or_truth s.names x (Some d)) (IsUsable vs)
  variable_value d is solid = walks-then vs (IsValue vs) s n (boxed d) loaded (IsUsable vs) (IsUsable vs) (walks-boxed vs s scope n x d is solid) (λ m r u. walks-loaded vs s m r u)

  entry_value : (b : Bool) (e : Entry) → EntryIsKnown b s.names x e → Walks vs (IsValue vs) s n (variable_or_truth s.names x (variable_of s.names.variables x)) (IsUsable vs)
  entry_value true e h = subst (λ o. Walks vs (IsValue vs) s n (variable_or_truth s.names x o) (IsUsable vs)) (sym h.0) (walks-constant vs s n I1 (truth (truth_of s.names.truths x)))
  entry_value false e h = subst (λ o. Walks vs (IsValue vs) s n (variable_or_truth s.names x o) (IsUsable vs)) (sym h.1) (variable_value h.0 h.1 (fits-solid e h.0.kind h.2))

  ByIndex : Option ValueId → Type 0
  ByIndex i = Walks vs (IsValue vs) s n (index_or_other s x i) (IsUsable vs)

  standing_value : (line : ℕ) (o : Option Standing) → NameIsKnown s x o → name_faults line o ≡ [] → ByIndex (index_of s.indexes x)
  unfolding ByIndex
  standing_value line None h f = not_known line None refl f
  standing_value line (Some (Declared e)) h f = subst ByIndex (sym h.0) (entry_value e.constant e h.1)
  standing_value line (Some (Active e)) h f = subst ByIndex (sym h.0) (entry_value false e h.2)
  standing_value line (Some Index) h f =
      let v = h.0 in
      let found : Found vs (record { value = v; kind = kind.Scalar I32 }) = record { value = record { kind = kind.Scalar I32; source = Other }; found = index_found vs s.indexes x v scope.indexes h.1; kind = refl; reached = refl } in
      subst ByIndex (sym h.1) (walks-done vs (IsValue vs) s n (record { value = v; kind = kind.Scalar I32 }) (IsUsable vs) (record { found = found; solid = refl }))
  standing_value line (Some Barred) h f = not_open line (Some Barred) refl f

  pub walks-named : (line : ℕ) (o : Option Standing) → NameIsKnown s x o → name_faults line o ≡ [] → Walks vs (IsValue vs) s n (named x) (IsUsable vs)
  unfolding named ByIndex
  walks-named line o h f = walks-scoped vs (IsValue vs) s n (λ c. index_or_other c x (index_of c.indexes x)) (IsUsable vs) (standing_value line o h f)
