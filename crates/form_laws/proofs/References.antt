-- Declares, boxes, loads, parts and inquiries.
use Rattle.std.proofs.Common.{◌≡◌, refl, sym, ap, ◌∙◌, subst, ℕ, ◌<◌, ◌≤◌, ◌==◌, Bool, true, false, ◌&&◌, nat_lt, nat_le, List, [], ◌∷◌, Option, Some, None, ℤ, arith}
use Rattle.std.proofs.lemmas.Bool.{and_from}
use Rattle.ws_base.specs.Numbers.{truth}
use Rattle.ws_base.specs.declared.refusal.RefusalKind.TheVariants as refusal
use Rattle.ws_types.specs.declared.types.Entry.{Entry}
use Rattle.ws_types.specs.declared.types.Standing.{Standing}
use Rattle.ws_types.specs.declared.types.Standing.TheVariants.{Declared, Active, Index, Barred}
use Rattle.ws_types.specs.Names.{Name, name_faults}
use Rattle.ws_sema.proofs.NoFaults.{none_first, none_after, impossible}
use Rattle.hlfir_ops.specs.declared.kinds.Elem.{Elem}
use Rattle.hlfir_ops.specs.declared.kinds.Elem.TheVariants.{I32, I1}
use Rattle.hlfir_ops.specs.declared.kinds.ValueKind.{ValueKind}
use Rattle.hlfir_ops.specs.declared.kinds.ValueKind.TheVariants as kind
use Rattle.hlfir_ops.specs.declared.what.BoundWord.{BoundWord}
use Rattle.hlfir_ops.specs.declared.what.What.TheVariants as what
use Rattle.hlfir_ops.specs.declared.op.ValueId.{ValueId}
use Rattle.hlfir_ops.specs.RulesValues.{Value, Declares, value_at, kind_of, same_elem, rank_of, is_reference, is_allocatable, is_place}
use Rattle.hlfir_ops.specs.RulesForms.{has_dimension, is_boxed, is_scalar_of, has_constant}
use Rattle.lower_values.specs.declared.operand.Operand.{Operand}
use Rattle.lower_values.specs.Scopes.{Scope, index_of}
use Rattle.lower_values.specs.Lowerings.{Lowered, done, ◌>>=◌, scoped, giving}
use Rattle.lower_values.specs.Operations.{constant}
use Rattle.lower_values.specs.References.{variable_of, or_nothing, declare_of, box_of, boxed, reference, load_of, loaded, truth_of, variable_or_truth, index_or_other, named, bound, size, is_allocated}
use Rattle.kind_laws.specs.Standing.{FitsEntry, EntryIsKnown, NameIsKnown}
use Rattle.kind_laws.specs.Found.{Holds, ScopeIsFound}
use Rattle.form_laws.proofs.Passing.{part_fits, AreFit, fit-none, fit-op}
use Rattle.form_laws.proofs.Operands.{IsSolid, IsFound, giving-found, giving-fit}
use Rattle.form_laws.proofs.Walking.{Good, then-good, done-good}
use Rattle.kind_laws.proofs.FormsFound.{declare_found}
use Rattle.kind_laws.proofs.Held.{held-first}
use Rattle.kind_laws.proofs.TypesTold.{same_elem-same}

-- a place, or the kind of a value
abbrev pub IsLoadable : ValueKind → Type 0
IsLoadable (kind.Place e) = Unit {0}
IsLoadable k = IsSolid k

pub loadable_entry : (e : Entry) (k : ValueKind) → FitsEntry e k → IsLoadable k
loadable_entry e (kind.Place f) h = tt
loadable_entry e (kind.Declared f shape) h = let some : 0 < shape.rank = subst (λ r. 0 < r) (sym h.1) h.2 in grind (arith, some)
loadable_entry e (kind.Allocatable f rank) h = let some : 0 < rank = subst (λ r. 0 < r) (sym h.1) h.2 in grind (arith, some)
loadable_entry e (kind.Scalar f) h = absurd h
loadable_entry e (kind.Section f rank) h = absurd h
loadable_entry e (kind.Array f rank) h = absurd h

module _ (vs : List Value) where
  -- ---- constants

  pub constant-good : (e : Elem) (z : ℤ) → has_constant z (Some (kind.Scalar e)) ≡ true → (s : Scope) (n : ℕ) → Good vs (constant e z s n)
  unfolding giving
  constant-good e z h s n = record { fit = fit-op vs false (what.Constant z) s.line [] (Some (kind.Scalar e)) [] h tt; solid = tt }

  pub truth-good : (b : Bool) (s : Scope) (n : ℕ) → Good vs (constant I1 (truth b) s n)
  truth-good true s n = constant-good I1 (truth true) refl s n
  truth-good false s n = constant-good I1 (truth false) refl s n

  -- ---- declares and boxes

  pub record Boxed (d : Operand) (l : Lowered Operand) : Type 0 where
    pub fit : AreFit vs false l.ops
    pub found : IsFound vs l.made
    pub same : l.made.kind ≡ d.kind

  box-fits : (e : Elem) (rank : ℕ) (d : Operand) (line : ℕ) → IsFound vs d → d.kind ≡ kind.Allocatable e rank → part_fits vs false what.Boxed line (d.value ∷ []) (Some (kind.Allocatable e rank)) [] ≡ true
  box-fits e rank d line found is =
      ap (λ k. is_allocatable k && is_boxed k (Some (kind.Allocatable e rank))) (found ∙ ap Some is)
      ∙ and_from (same_elem e e) (rank == rank) (same_elem-same e) (grind arith)

  box-boxed : (k : ValueKind) (d : Operand) (s : Scope) (n : ℕ) → IsFound vs d → d.kind ≡ k → Holds vs n (box_of k d s n).ops → Boxed d (box_of k d s n)
  unfolding done giving
  box-boxed (kind.Scalar e) d s n found is held = record { fit = fit-none vs false; found = found; same = refl }
  box-boxed (kind.Place e) d s n found is held = record { fit = fit-none vs false; found = found; same = refl }
  box-boxed (kind.Declared e shape) d s n found is held = record { fit = fit-none vs false; found = found; same = refl }
  box-boxed (kind.Section e rank) d s n found is held = record { fit = fit-none vs false; found = found; same = refl }
  box-boxed (kind.Array e rank) d s n found is held = record { fit = fit-none vs false; found = found; same = refl }
  box-boxed (kind.Allocatable e rank) d s n found is held = record {
    fit = giving-fit vs false what.Boxed (d.value ∷ []) (kind.Allocatable e rank) s n held (box-fits e rank d s.line found is);
    found = giving-found vs false what.Boxed (d.value ∷ []) (kind.Allocatable e rank) s n held;
    same = sym is;
  }

  pub boxed-boxed : (d : Operand) (s : Scope) (n : ℕ) → IsFound vs d → Holds vs n (boxed d s n).ops → Boxed d (boxed d s n)
  unfolding boxed
  boxed-boxed d s n found held = box-boxed d.kind d s n found refl held

  load-good : (k : ValueKind) (r : Operand) (s : Scope) (n : ℕ) → IsFound vs r → r.kind ≡ k → IsLoadable k → Good vs (load_of k r s n)
  unfolding done giving
  load-good (kind.Place e) r s n found is h = record {
    fit = fit-op vs false what.Load s.line (r.value ∷ []) (Some (kind.Scalar e)) []
        (ap (λ k. is_place k && is_scalar_of k (Some (kind.Scalar e))) (found ∙ ap Some is) ∙ same_elem-same e) tt;
    solid = tt;
  }
  load-good (kind.Scalar e) r s n found is h = done-good vs r s n (subst IsSolid (sym is) h)
  load-good (kind.Declared e shape) r s n found is h = done-good vs r s n (subst IsSolid (sym is) h)
  load-good (kind.Allocatable e rank) r s n found is h = done-good vs r s n (subst IsSolid (sym is) h)
  load-good (kind.Section e rank) r s n found is h = done-good vs r s n (subst IsSolid (sym is) h)
  load-good (kind.Array e rank) r s n found is h = done-good vs r s n (subst IsSolid (sym is) h)

  pub loaded-good : (r : Operand) (s : Scope) (n : ℕ) → IsFound vs r → IsLoadable r.kind → Good vs (loaded r s n)
  unfolding loaded
  loaded-good r s n found h = load-good r.kind r s n found refl h

  -- ---- names

  module _ (s : Scope) (scope : ScopeIsFound vs s) (x : Name) where
    pub variable-found : (d : Operand) → variable_of s.names.variables x ≡ Some d → value_at vs d.value ≡ Some (record { kind = d.kind; source = Declares })
    variable-found d is = declare_found vs s.names.variables x d scope.variables is

    pub reference-boxed : (d : Operand) (n : ℕ) → variable_of s.names.variables x ≡ Some d → Holds vs n (reference x s n).ops → Boxed d (reference x s n)
    unfolding reference scoped
    reference-boxed d n is held =
        let same : declare_of s.names x ≡ d = ap or_nothing is in
        subst (λ o. Holds vs n (boxed o s n).ops → Boxed d (boxed o s n)) (sym same) (boxed-boxed d s n (ap kind_of (variable-found d is))) held

    variable-good : (e : Entry) (n : ℕ) (o : Option Operand) (d : Operand) → o ≡ Some d → variable_of s.names.variables x ≡ Some d → FitsEntry e d.kind → Holds vs n (variable_or_truth s.names x o s n).ops → Good vs (variable_or_truth s.names x o s n)
    variable-good e n o d is found fits held =
        let whole : Holds vs n ((boxed d >>= loaded) s n).ops → Good vs ((boxed d >>= loaded) s n) = λ h.
        let first = boxed-boxed d s n (ap kind_of (variable-found d found)) (held-first vs (boxed d) loaded s n h) in
        let r = (boxed d s n).made in
        then-good vs (boxed d) loaded s n first.fit (loaded-good r s _ first.found (subst IsLoadable (sym first.same) (loadable_entry e d.kind fits))) in
        subst (λ p. Holds vs n (variable_or_truth s.names x p s n).ops → Good vs (variable_or_truth s.names x p s n)) (sym is) whole held

    entry-good : (constant : Bool) (e : Entry) (n : ℕ) → EntryIsKnown constant s.names x e → Holds vs n (variable_or_truth s.names x (variable_of s.names.variables x) s n).ops → Good vs (variable_or_truth s.names x (variable_of s.names.variables x) s n)
    entry-good true e n h held = subst (λ o. Good vs (variable_or_truth s.names x o s n)) (sym h.0) (truth-good (truth_of s.names.truths x) s n)
    entry-good false e n h held = variable-good e n (variable_of s.names.variables x) h.0 h.1 h.1 h.2 held

    other-good : (constant : Bool) (e : Entry) (n : ℕ) (i : Option ValueId) → i ≡ None → EntryIsKnown constant s.names x e → Holds vs n (index_or_other s x i s n).ops → Good vs (index_or_other s x i s n)
    other-good constant e n i is h held = subst (λ o. Holds vs n (index_or_other s x o s n).ops → Good vs (index_or_other s x o s n)) (sym is) (entry-good constant e n h) held

    index-good : (n : ℕ) (i : Option ValueId) (v : ValueId) → i ≡ Some v → Good vs (index_or_other s x i s n)
    index-good n i v is = subst (λ o. Good vs (index_or_other s x o s n)) (sym is) (done-good vs (record { value = v; kind = kind.Scalar I32 }) s n tt)

    named-by : (line n : ℕ) (st : Option Standing) → NameIsKnown s x st → name_faults line st ≡ [] → Holds vs n (index_or_other s x (index_of s.indexes x) s n).ops → Good vs (index_or_other s x (index_of s.indexes x) s n)
    unfolding name_faults
    named-by line n None h f held = impossible line refusal.Undeclared (none_first _ _ f)
    named-by line n (Some (Declared e)) h f held = other-good e.constant e n (index_of s.indexes x) h.0 h.1 held
    named-by line n (Some (Active e)) h f held = other-good false e n (index_of s.indexes x) h.0 h.2 held
    named-by line n (Some Index) h f held = index-good n (index_of s.indexes x) h.0 h.1
    named-by line n (Some Barred) h f held = impossible line refusal.DoVariable (none_after _ _ f)

    pub named-good : (line n : ℕ) (st : Option Standing) → NameIsKnown s x st → name_faults line st ≡ [] → Holds vs n (named x s n).ops → Good vs (named x s n)
    unfolding named scoped
    named-good line n st h f held = named-by line n st h f held

  -- ---- bounds and sizes

  pub bound-fits : (w : BoundWord) (dim : ℕ) (r : Operand) (line : ℕ) → IsFound vs r → is_reference (Some r.kind) ≡ true → 1 ≤ dim → dim ≤ rank_of r.kind → part_fits vs false (what.Bound w dim) line (r.value ∷ []) (Some (kind.Scalar I32)) [] ≡ true
  bound-fits w dim r line found reference low high =
      ap (λ k. (is_reference k && has_dimension dim k) && true) found
      ∙ and_from (is_reference (Some r.kind) && has_dimension dim (Some r.kind)) true (and_from (is_reference (Some r.kind)) (has_dimension dim (Some r.kind)) reference
      (and_from (nat_lt 0 dim) (nat_le dim (rank_of r.kind)) (grind (arith, low)) (grind (arith, high)))) refl

  pub bound-good : (w : BoundWord) (dim : ℕ) (r : Operand) (s : Scope) (n : ℕ) → IsFound vs r → is_reference (Some r.kind) ≡ true → 1 ≤ dim → dim ≤ rank_of r.kind → Good vs (bound w dim r s n)
  unfolding bound giving
  bound-good w dim r s n found reference low high = record { fit = fit-op vs false (what.Bound w dim) s.line (r.value ∷ []) (Some (kind.Scalar I32)) [] (bound-fits w dim r s.line found reference low high) tt; solid = tt }

  pub size-good : (r : Operand) (s : Scope) (n : ℕ) → IsFound vs r → is_reference (Some r.kind) ≡ true → Good vs (size None r s n)
  unfolding giving
  size-good r s n found reference = record { fit = fit-op vs false what.Size s.line (r.value ∷ []) (Some (kind.Scalar I32)) [] (ap (λ k. is_reference k && true) found ∙ and_from (is_reference (Some r.kind)) true reference refl) tt; solid = tt }

  pub is_allocated-good : (d : Operand) (s : Scope) (n : ℕ) → IsFound vs d → is_allocatable (Some d.kind) ≡ true → Good vs (is_allocated d s n)
  unfolding giving
  is_allocated-good d s n found is = record { fit = fit-op vs false what.Allocated s.line (d.value ∷ []) (Some (kind.Scalar I1)) [] (ap (λ k. is_allocatable k && true) found ∙ and_from (is_allocatable (Some d.kind)) true is refl) tt; solid = tt }
