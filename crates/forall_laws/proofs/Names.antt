-- Names over combinations: an index name, a constant or a scalar variable; and constant expressions as one constant.
use Rattle.std.specs.Prelude.{⊤}
use Rattle.std.proofs.Common.{◌≡◌, refl, sym, ap, ◌∙◌, subst, ℕ, ◌<◌, Bool, true, false, List, [], ◌∷◌, map, Option, Some, None, Ok, ℤ, pos, arith, if◌then◌else◌}
use Rattle.ws_base.specs.declared.name.Name.{Name}
use Rattle.ws_base.specs.Numbers.{truth}
use Rattle.ws_base.specs.Outcomes.{Staged}
use Rattle.ws_space.specs.declared.state.VarState.{VarState}
use Rattle.ws_space.specs.declared.state.VarState.TheVariants as state
use Rattle.ws_space.specs.declared.state.Var.{Var}
use Rattle.ws_space.specs.Values.{state_of}
use Rattle.ws_space.specs.Maps.{everywhere_same}
use Rattle.ws_tree.specs.declared.expr.Expr.{Expr}
use Rattle.ws_types.specs.declared.constant.Constancy.{Constancy}
use Rattle.ws_types.specs.declared.constant.Constancy.TheVariants.{Value, NoValue, NotConstant}
use Rattle.ws_types.specs.declared.types.Entry.{Entry}
use Rattle.ws_types.specs.declared.types.Typed.{Typed}
use Rattle.ws_types.specs.declared.types.Standing.{Standing}
use Rattle.ws_types.specs.declared.types.Standing.TheVariants.{Declared, Active, Index, Barred}
use Rattle.ws_types.specs.Names.{name_type, entry_type}
use Rattle.ws_types.specs.Constants as known
use Rattle.ws_types.specs.Constants.{constancy}
use Rattle.array_meaning.specs.declared.world.World.{World}
use Rattle.array_meaning.specs.Stage1.{constant_of}
use Rattle.array_meaning.specs.Forall as source
use Rattle.array_meaning.specs.Forall.{Combination, name_value}
use Rattle.hlfir_ops.specs.declared.kinds.Elem.TheVariants.{I32, I1}
use Rattle.hlfir_ops.specs.declared.kinds.ValueKind.{ValueKind}
use Rattle.hlfir_ops.specs.declared.kinds.ValueKind.TheVariants as kind
use Rattle.hlfir_ops.specs.declared.what.What.TheVariants as what
use Rattle.hlfir_ops.specs.declared.op.ValueId.{ValueId}
use Rattle.hlfir_meaning.specs.Environments.{Value as Worth, variable, column, Environment}
use Rattle.hlfir_meaning.specs.Places.{loaded_at, over_ops}
use Rattle.hlfir_meaning.specs.References.{held_scalar}
use Rattle.lower_values.specs.declared.names.Names.{Names}
use Rattle.lower_values.specs.declared.operand.Operand.{Operand}
use Rattle.lower_values.specs.Scopes.{Scope, index_of}
use Rattle.lower_values.specs.Lowerings.{Lowering, done, ◌>>=◌ as ◌then◌}
use Rattle.lower_values.specs.Operations.{constant}
use Rattle.lower_values.specs.References.{variable_of, truth_of, boxed, loaded, variable_or_truth, index_or_other, named}
use Rattle.lower_values.specs.Values.{constant_or, folded}
use Rattle.kind_laws.proofs.FormsFound.{same_operand}
use Rattle.value_laws.specs.Variables.{Fits}
use Rattle.value_laws.specs.Names.{IfValue}
use Rattle.kind_laws.specs.Standing.{FitsEntry, EntryIsKnown, NameIsKnown}
use Rattle.kind_laws.proofs.TypeFacts.{no_type, same_type}
use Rattle.value_laws.proofs.Walking.{does-done, does-then, does-scoped}
use Rattle.world_laws.specs.Worlds.{constant_value, ConstantFits}
use Rattle.world_laws.proofs.Fitting.{state_fits, absent_state}
use Rattle.region_laws.proofs.Agreeing.{not-given}
use Rattle.forall_laws.specs.Walks.{DoesOver, IsColumn}
use Rattle.forall_laws.specs.Combined.{IndexStands, StandsOver}
use Rattle.forall_laws.proofs.Columns.{map-over, map-same, same-over, index-value, constant-value, variable-value}
use Rattle.forall_laws.proofs.Constants.{NamesAreSame, constant-same}
use Rattle.forall_laws.proofs.Given.{over-column, over-constant}

-- ---- a variable of rank 0

abbrev pub IsScalarKind : ValueKind → Type 0
IsScalarKind (kind.Place e) = Unit {0}
IsScalarKind _ = ⊥

not_higher : {P : Type 0} (r : ℕ) → 0 < r → r ≡ 0 → P
not_higher r h z = absurd (omega (arith, h, z))

entry_scalar : (e : Entry) (k : ValueKind) → FitsEntry e k → e.rank ≡ 0 → IsScalarKind k
entry_scalar e (kind.Place f) h z = tt
entry_scalar e (kind.Declared f shape) h z = not_higher e.rank h.2 z
entry_scalar e (kind.Allocatable f rank) h z = not_higher e.rank h.2 z
entry_scalar e _ h z = absurd h

variable_scalar : (c : Bool) (names : Names) (x : Name) (e : Entry) (d : Operand) → EntryIsKnown c names x e → e.rank ≡ 0 → variable_of names.variables x ≡ Some d → IsScalarKind d.kind
variable_scalar true names x e d h z is = absurd (not-given d (sym h.0 ∙ is))
variable_scalar false names x e d h z is = subst (λ a. IsScalarKind a.kind) (same_operand h.0 d (sym h.1 ∙ is)) (entry_scalar e h.0.kind h.2 z)

entry_zero : (e : Entry) (ty : Typed) → Some (entry_type e) ≡ Some ty → ty.rank ≡ 0 → e.rank ≡ 0
entry_zero e ty t z = ap (λ a. a.rank) (same_type (entry_type e) ty t) ∙ z

pub name_scalar : (s : Scope) (x : Name) (st : Option Standing) (ty : Typed) (d : Operand) → NameIsKnown s x st → name_type st ≡ Some ty → ty.rank ≡ 0 → index_of s.indexes x ≡ None → variable_of s.names.variables x ≡ Some d → IsScalarKind d.kind
name_scalar s x None ty d h t z i is = no_type ty t
name_scalar s x (Some (Declared e)) ty d h t z i is = variable_scalar e.constant s.names x e d h.1 (entry_zero e ty t z) is
name_scalar s x (Some (Active e)) ty d h t z i is = variable_scalar false s.names x e d h.2 (entry_zero e ty t z) is
name_scalar s x (Some Index) ty d h t z i is = absurd (not-given h.0 (sym i ∙ h.1))
name_scalar s x (Some Barred) ty d h t z i is = no_type ty t

plain_truth : (c : Constancy) (b : Bool) → ((z : ℤ) → c ≡ Value z → ⊥) → constant_value c b ≡ truth b
plain_truth (Value z) b h = absurd (h z refl)
plain_truth NoValue b h = refl
plain_truth NotConstant b h = refl

no_constant : (z : ℤ) → NotConstant ≡ Value z → ⊥
no_constant z h = let q = h in cc

module _ (at : List ℕ) (of : ℕ → Combination) (s : Scope) (w : World) (n : ℕ) (env : Environment) (stands : StandsOver at of s w n env) where
  abbrev combined : List Combination
  combined = map of at

  -- a name that has this value at each place
  abbrev all_of : Name → (ℕ → ℤ) → Type 0
  all_of x f = map (name_value w x) combined ≡ map f at

  all-of : (x : Name) (f : ℕ → ℤ) → ((p : ℕ) → name_value w x (of p) ≡ f p) → all_of x f
  all-of x f h = map-over of (name_value w x) at ∙ map-same (λ p. name_value w x (of p)) f at h

  abbrev Anything : Operand → ⊤ → ℕ → Environment → Type 0
  Anything x u m after = Unit {0}

  -- ---- constants

  name_same : (x : Name) (z : ℤ) → known.constant_of s.names.constants x ≡ Value z → (o : Option ValueId) → IndexStands at of s.names env n x o → map (name_value w x) combined ≡ everywhere_same z combined
  name_same x z is (Some v) h = absurd (no_constant z (sym h.apart ∙ is))
  name_same x z is None h =
      all-of x (λ _. z) (λ p. constant-value w x (of p) z (h p) (subst (λ c. IfValue c (λ y. constant_of w.constants x ≡ Some y)) is (stands.world.integers x))) ∙ sym (same-over of z at)

  names_same : NamesAreSame s.names.constants w combined
  names_same x z is = name_same x z is (index_of s.indexes x) (stands.indexes x)

  by_value : (e : Expr) (p : Lowering Operand) (c : Constancy) → IfValue c (λ z. source.over w e combined ≡ Ok (everywhere_same z combined)) → (((z : ℤ) → c ≡ Value z → ⊥) → DoesOver at s n env p (source.over w e combined) IsColumn) →
      DoesOver at s n env (constant_or c p) (source.over w e combined) IsColumn
  by_value e p (Value z) is h = subst (λ r. DoesOver at s n env (constant I32 z) r IsColumn) (sym (is ∙ ap (λ xs. let r : Staged (List ℤ) = Ok xs in r) (same-over of z at))) (over-constant at I32 z s n env)
  by_value e p NoValue is h = h (λ z q. let r = q in cc)
  by_value e p NotConstant is h = h (λ z q. let r = q in cc)

  pub over-folded : (e : Expr) (p : Lowering Operand) → (((z : ℤ) → constancy s.names.constants e ≡ Value z → ⊥) → DoesOver at s n env p (source.over w e combined) IsColumn) → DoesOver at s n env (folded e p) (source.over w e combined) IsColumn
  unfolding folded
  over-folded e p h = does-scoped (over_ops at) s n env (λ q. constant_or (constancy q.names.constants e) p) (source.over w e combined) IsColumn
      (by_value e p (constancy s.names.constants e) (constant-same s.names.constants w combined names_same e) h)

  -- ---- names

  module _ (x : Name) where
    abbrev values : List ℤ
    values = map (name_value w x) combined

    with_values : (p : Lowering Operand) (f : ℕ → ℤ) → ((c : ℕ) → name_value w x (of c) ≡ f c) → DoesOver at s n env p (Ok (map f at)) IsColumn → DoesOver at s n env p (Ok values) IsColumn
    with_values p f is h = subst (λ xs. DoesOver at s n env p (Ok xs) IsColumn) (sym (all-of x f is)) h

    by_kind : (id : ValueId) (v : Var) (k : ValueKind) (held : VarState) → id.number < n → env id.number ≡ variable v → v.state ≡ held → Fits k held → IsScalarKind k →
        ((z : ℤ) → held ≡ state.Scalar z → (c : ℕ) → name_value w x (of c) ≡ z) → DoesOver at s n env (boxed (record { value = id; kind = k }) then loaded) (Ok values) IsColumn
    unfolding boxed loaded done
    by_kind id v (kind.Place e) (state.Scalar z) low found is h r g =
        let d : Operand = record { value = id; kind = kind.Place e } in
        let none : ⊤ = tt in
        with_values (boxed d then loaded) (λ _. z) (g z refl)
        (does-then (over_ops at) s n env (boxed d) loaded (Ok none) (λ (u : ⊤). let r : Staged (List ℤ) = Ok (everywhere_same z at) in r) Anything IsColumn
        (does-done (over_ops at) s n env d none Anything tt)
        (λ u m after at_m kept _. over-column at s m after what.Load (id ∷ []) (kind.Scalar e) refl tt (Ok (everywhere_same z at))
        (ap (λ y. let q : Staged Worth = Ok (column (loaded_at at y)) in q) (kept id.number low ∙ found) ∙ ap (λ y. let q : Staged Worth = Ok (column (everywhere_same (held_scalar y) at)) in q) is)))
    by_kind id v (kind.Place e) held low found is h r g = absurd h
    by_kind id v k held low found is h r g = absurd r

    by_variable : (st : Option Standing) (ty : Typed) → NameIsKnown s x st → name_type st ≡ Some ty → ty.rank ≡ 0 → index_of s.indexes x ≡ None → ((c : ℕ) → constant_of (of c) x ≡ None) → ((z : ℤ) → known.constant_of s.names.constants x ≡ Value z → ⊥) →
        (o : Option Operand) → variable_of s.names.variables x ≡ o → ConstantFits s.names w x o → DoesOver at s n env (variable_or_truth s.names x o) (Ok values) IsColumn
    by_variable st ty h t z i none not (Some d) is fits =
        let v = state_fits s.names w x d stands.world is in
        by_kind d.value v.var d.kind (state_of w.vars x) (omega (arith, v.number, v.small, stands.declared))
        (ap env (let e : d.value.number ≡ v.place = omega (arith, v.number) in e) ∙ (stands.variables v.place v.small ∙ v.found)) v.state v.fits (name_scalar s x st ty d h t z i is)
        (λ y held c. variable-value w x (of c) y (none c) fits held)
    by_variable st ty h t z i none not None is fits =
        with_values (constant I1 (truth (truth_of s.names.truths x))) (λ _. truth (truth_of s.names.truths x)) (λ c. by_constant c (constant_of w.constants x) refl) (over-constant at I1 (truth (truth_of s.names.truths x)) s n env)
      where
        by_constant : (c : ℕ) (o : Option ℤ) → constant_of w.constants x ≡ o → name_value w x (of c) ≡ truth (truth_of s.names.truths x)
        by_constant c (Some y) e = constant-value w x (of c) y (none c) e ∙ (fits y e ∙ plain_truth (known.constant_of s.names.constants x) (truth_of s.names.truths x) not)
        by_constant c None e = variable-value w x (of c) (pos 0) (none c) e (absent_state 0 s.names.variables w.vars x stands.world.variables is) ∙ ap truth (sym (stands.world.truths x e))

    by_index : (st : Option Standing) (ty : Typed) → NameIsKnown s x st → name_type st ≡ Some ty → ty.rank ≡ 0 → ((z : ℤ) → known.constant_of s.names.constants x ≡ Value z → ⊥) →
        (i : Option ValueId) → index_of s.indexes x ≡ i → IndexStands at of s.names env n x i → DoesOver at s n env (index_or_other s x i) (Ok values) IsColumn
    by_index st ty h t z not (Some v) is index =
        with_values (done (record { value = v; kind = kind.Scalar I32 })) index.values (λ c. index-value w x (of c) (index.values c) (index.combined c))
        (does-done (over_ops at) s n env (record { value = v; kind = kind.Scalar I32 }) (map index.values at) IsColumn (record { found = index.found; low = index.low; plain = tt }))
    by_index st ty h t z not None is index = by_variable st ty h t z is index not (variable_of s.names.variables x) refl (stands.world.constants x)

    pub over-named : (st : Option Standing) (ty : Typed) → NameIsKnown s x st → name_type st ≡ Some ty → ty.rank ≡ 0 → ((z : ℤ) → known.constant_of s.names.constants x ≡ Value z → ⊥) → DoesOver at s n env (named x) (Ok values) IsColumn
    unfolding named
    over-named st ty h t z not = does-scoped (over_ops at) s n env (λ q. index_or_other q x (index_of q.indexes x)) (Ok values) IsColumn (by_index st ty h t z not (index_of s.indexes x) refl (stands.indexes x))
