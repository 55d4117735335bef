-- Names in which no rule is broken: constants with a value, and variables with a declare of their rank.
use Rattle.std.proofs.Common.{◌≡◌, refl, sym, ap, ◌∙◌, subst, ℕ, zero, suc, ◌<◌, Bool, true, false, List, [], ◌∷◌, ◌++◌, Option, Some, None, arith}
use Rattle.std.specs.Prelude.{not, ◌&&◌, ◌||◌, nat_eq, nat_lt}
use Rattle.std.proofs.lemmas.Bool.{true≢false}
use Rattle.ws_base.specs.declared.refusal.RefusalKind.{RefusalKind}
use Rattle.ws_base.specs.declared.refusal.Refusal.{Refusal}
use Rattle.ws_tree.specs.declared.expr.Expr.{Expr}
use Rattle.ws_tree.specs.declared.expr.Expr.TheVariants.{Number}
use Rattle.ws_types.specs.declared.types.Entry.{Entry}
use Rattle.ws_types.specs.declared.types.Standing.{Standing}
use Rattle.ws_types.specs.declared.types.Standing.TheVariants.{Declared, Active, Index, Barred}
use Rattle.ws_types.specs.Kinds.{when}
use Rattle.ws_types.specs.Names.{Name, name_type, name_faults, is_no_allocatable}
use Rattle.ws_types.specs.Constants.{constant_of, has_no_value}
use Rattle.ws_types.specs.Operations.{is_other_number, is_outside, is_outside_type}
use Rattle.ws_sema.proofs.NoFaults.{none_first, none_after, not_broken}
use Rattle.hlfir_ops.specs.declared.kinds.ValueKind.{ValueKind}
use Rattle.hlfir_ops.specs.declared.kinds.ValueKind.TheVariants as kind
use Rattle.hlfir_ops.specs.declared.op.ValueId.{ValueId}
use Rattle.hlfir_ops.specs.RulesValues.{rank_of}
use Rattle.lower_values.specs.declared.operand.Operand.{Operand}
use Rattle.lower_values.specs.References.{variable_of}
use Rattle.lower_values.specs.Scopes.{Scope, index_of}
use Rattle.kind_laws.specs.Standing.{FitsEntry, ConstantIsKnown, EntryIsKnown, NameIsKnown}

-- ---- names

pub fits-rank : (e : Entry) (k : ValueKind) → FitsEntry e k → rank_of k ≡ e.rank
fits-rank e (kind.Place f) h = sym h.1
fits-rank e (kind.Declared f shape) h = h.1
fits-rank e (kind.Allocatable f rank) h = h.1
fits-rank e k h = absurd h

module _ (s : Scope) (x : Name) (line : ℕ) where
  constant_valued : (constant truth : Bool) (e : Entry) → EntryIsKnown constant s.names x e → e.truth ≡ truth → has_no_value (constant_of s.names.constants x) ≡ false
  constant_valued true truth e h is = by truth (subst (ConstantIsKnown s.names x) is h.3)
    where
      by : (b : Bool) → ConstantIsKnown s.names x b → has_no_value (constant_of s.names.constants x) ≡ false
      by true k = ap has_no_value k
      by false k = ap has_no_value k.1
  constant_valued false truth e h is = ap has_no_value h.3

  pub name-valued : (st : Option Standing) → NameIsKnown s x st → name_faults line st ≡ [] → has_no_value (constant_of s.names.constants x) ≡ false
  unfolding name_faults
  name-valued (Some (Declared e)) h f = constant_valued e.constant e.truth e h.1 refl
  name-valued (Some (Active e)) h f = constant_valued false e.truth e h.2 refl
  name-valued (Some Index) h f = ap has_no_value h.2
  name-valued (Some Barred) h f = absurd (true≢false (not_broken true line _ (none_after (when false line _) (when true line _) f)))
  name-valued None h f = absurd (true≢false (not_broken true line _ (none_first (when true line _) (when false line _) f)))

  -- a variable of this rank
  abbrev pub IsVariableOf : ℕ → Type 0
  IsVariableOf n = (d : Operand) × (variable_of s.names.variables x ≡ Some d) × (rank_of d.kind ≡ n)

  entry_variable : (constant : Bool) (e : Entry) → EntryIsKnown constant s.names x e → (constant ≡ true → e.rank ≡ 0 → e.allocatable ≡ false → ⊥) → IsVariableOf e.rank
  entry_variable true e h not = absurd (not refl h.1 h.2)
  entry_variable false e h not = (h.0, h.1, fits-rank e h.0.kind h.2)

  same_rank : (m n : ℕ) → not (nat_eq m n) ≡ false → m ≡ n
  same_rank m n h = by (nat_eq m n) refl h
    where
      by : (b : Bool) → nat_eq m n ≡ b → not b ≡ false → m ≡ n
      by true is k = grind (arith, is)
      by false is k = absurd (true≢false k)

  abbrev IsAbsent : Option ValueId → Type 0
  IsAbsent None = Unit {0}
  IsAbsent (Some v) = ⊥

  no_index : (v : ValueId) → index_of s.indexes x ≡ Some v → index_of s.indexes x ≡ None → ⊥
  no_index v h apart = subst IsAbsent (sym apart ∙ h) tt

  pub part-variable : (st : Option Standing) (n : ℕ) → NameIsKnown s x st → index_of s.indexes x ≡ None → name_faults line st ≡ [] → is_other_number (name_type st) n ≡ false → 0 < n → IsVariableOf n
  unfolding name_faults
  part-variable (Some (Declared e)) n h apart f other some = let same = same_rank e.rank n other in subst IsVariableOf same (entry_variable e.constant e h.1 (λ _ is _. omega (arith, is, same, some)))
  part-variable (Some (Active e)) n h apart f other some = subst IsVariableOf (same_rank e.rank n other) (entry_variable false e h.2 (λ is _ _. true≢false (sym is)))
  part-variable (Some Index) n h apart f other some = absurd (no_index h.0 h.1 apart)
  part-variable (Some Barred) n h apart f other some = absurd (true≢false (not_broken true line _ (none_after (when false line _) (when true line _) f)))
  part-variable None n h apart f other some = absurd (true≢false (not_broken true line _ (none_first (when true line _) (when false line _) f)))

  -- ---- inquiries

  abbrev IsSomeVariable : Type 0
  IsSomeVariable = (d : Operand) × (variable_of s.names.variables x ≡ Some d)

  some_variable : (n : ℕ) → IsVariableOf n → IsSomeVariable
  some_variable n h = (h.0, h.1)

  or_last : (a b : Bool) → b ≡ true → (a || b) ≡ true
  or_last true b h = refl
  or_last false b h = h

  outside_zero : (es : List Expr) → is_outside 0 es ≡ true
  outside_zero (y ∷ Number zero ∷ es) = refl
  outside_zero (y ∷ Number (suc d) ∷ es) = let some : nat_lt 0 (suc d) ≡ true = grind arith in or_last (nat_eq (suc d) 0) (nat_lt 0 (suc d)) some
  outside_zero (y ∷ e ∷ es) = refl
  outside_zero (y ∷ []) = refl
  outside_zero [] = refl

  inquired_entry : (e : Entry) (c : Bool) (es : List Expr) → EntryIsKnown e.constant s.names x e → (not c && is_outside e.rank es) ≡ false → (c && not e.allocatable) ≡ false → IsSomeVariable
  inquired_entry e true es h outside owned = some_variable e.rank (entry_variable e.constant e h (λ _ _ is. true≢false (sym (ap not is) ∙ owned)))
  inquired_entry e false es h outside owned = some_variable e.rank (entry_variable e.constant e h (λ _ is _. true≢false (sym (outside_zero es) ∙ (ap (λ n. is_outside n es) (sym is) ∙ outside))))

  pub inquired-variable : (st : Option Standing) (c : Bool) (es : List Expr) → NameIsKnown s x st → index_of s.indexes x ≡ None → name_faults line st ≡ [] →
      (not c && is_outside_type (name_type st) es) ≡ false → (c && is_no_allocatable st) ≡ false → IsSomeVariable
  unfolding name_faults
  inquired-variable (Some (Declared e)) c es h apart f outside owned = inquired_entry e c es h.1 outside owned
  inquired-variable (Some (Active e)) c es h apart f outside owned = some_variable e.rank (entry_variable false e h.2 (λ is _ _. true≢false (sym is)))
  inquired-variable (Some Index) c es h apart f outside owned = absurd (no_index h.0 h.1 apart)
  inquired-variable (Some Barred) c es h apart f outside owned = absurd (true≢false (not_broken true line _ (none_after (when false line _) (when true line _) f)))
  inquired-variable None c es h apart f outside owned = absurd (true≢false (not_broken true line _ (none_first (when true line _) (when false line _) f)))
