-- What a name makes, as a value and as an array of which a part is taken.
use Rattle.std.proofs.Common.{◌≡◌, refl, sym, ◌∙◌, ◌<◌, Bool, true, false, Option, Some, None, ℤ, arith}
use Rattle.ws_base.specs.Numbers.{truth}
use Rattle.ws_types.specs.declared.constant.Constancy.{Constancy}
use Rattle.ws_types.specs.declared.constant.Constancy.TheVariants.{Value, NotConstant}
use Rattle.ws_types.specs.declared.types.Entry.{Entry}
use Rattle.ws_types.specs.declared.types.Typed.{Typed}
use Rattle.ws_types.specs.declared.types.Standing.{Standing}
use Rattle.ws_types.specs.declared.types.Standing.TheVariants.{Declared, Active, Index, Barred}
use Rattle.ws_types.specs.Names.{Name, name_type, entry_type, integer}
use Rattle.ws_types.specs.Constants.{constant_of}
use Rattle.hlfir_ops.specs.declared.kinds.Elem.TheVariants.{I32, I1}
use Rattle.lower_values.specs.declared.names.Names.{Names}
use Rattle.lower_assign.specs.Known.{elem}
use Rattle.lower_values.specs.Scopes.{Scope, index_of}
use Rattle.lower_values.specs.References.{variable_of, declare_of, boxed, reference, truth_of, variable_or_truth, index_or_other, named}
use Rattle.kind_laws.specs.Standing.{ConstantIsKnown, EntryIsKnown, NameIsKnown}
use Rattle.kind_laws.proofs.TypeFacts.{same_type, no_type}
use Rattle.kind_laws.proofs.Made.{Makes, makes-scoped, makes-done, IsOf, IsReferenceTo, scalar_type, constant_made, variable_made, array_made}

-- ---- INTEGER constants

pub no_value : {P : Type 0} (z : ℤ) → NotConstant ≡ Value z → P
no_value z e = absurd (let h = e in cc)

truth_no_value : (names : Names) (x : Name) (b : Bool) (z : ℤ) → ConstantIsKnown names x b → constant_of names.constants x ≡ Value z → b ≡ false
truth_no_value names x true z h e = no_value z (sym h ∙ e)
truth_no_value names x false z h e = refl

entry_integer : (e : Entry) → e.truth ≡ false → e.rank ≡ 0 → entry_type e ≡ integer
entry_integer e h k = cc

entry_value : (c : Bool) (names : Names) (x : Name) (e : Entry) (z : ℤ) → EntryIsKnown c names x e → constant_of names.constants x ≡ Value z → entry_type e ≡ integer
entry_value true names x e z h is = entry_integer e (truth_no_value names x e.truth z h.3 is) h.1
entry_value false names x e z h is = no_value z (sym h.3 ∙ is)

-- a name that has a value among the constants is an INTEGER scalar
pub name_value : (s : Scope) (x : Name) (st : Option Standing) (ty : Typed) (z : ℤ) → NameIsKnown s x st → name_type st ≡ Some ty → constant_of s.names.constants x ≡ Value z → ty ≡ integer
name_value s x None ty z h e is = no_type ty e
name_value s x (Some (Declared d)) ty z h e is = sym (same_type (entry_type d) ty e) ∙ entry_value d.constant s.names x d z h.1 is
name_value s x (Some (Active d)) ty z h e is = sym (same_type (entry_type d) ty e) ∙ entry_value false s.names x d z h.2 is
name_value s x (Some Index) ty z h e is = no_value z (sym h.2 ∙ is)
name_value s x (Some Barred) ty z h e is = no_type ty e

-- ---- names in a value place that are no INTEGER constants

abbrev pub HasNoValue : Constancy → Type 0
HasNoValue c = (z : ℤ) → c ≡ Value z → ⊥

constant_truth : (names : Names) (x : Name) (b : Bool) → ConstantIsKnown names x b → HasNoValue (constant_of names.constants x) → I1 ≡ elem b
constant_truth names x true h none = refl
constant_truth names x false h none = absurd (none h.0 h.1)

-- the LOGICAL constant or variable
entry_made : (c : Bool) (s : Scope) (x : Name) (e : Entry) → EntryIsKnown c s.names x e → HasNoValue (constant_of s.names.constants x) → Makes s (IsOf (entry_type e)) (variable_or_truth s.names x (variable_of s.names.variables x))
entry_made true s x e h none = rw h.0 (constant_made s I1 (truth (truth_of s.names.truths x)) (entry_type e) (constant_truth s.names x e.truth h.3 none) h.1)
entry_made false s x e h none = rw h.1 (variable_made s e h.0 h.2)

declared_made : (c : Bool) (s : Scope) (x : Name) (e : Entry) → index_of s.indexes x ≡ None → EntryIsKnown c s.names x e → HasNoValue (constant_of s.names.constants x) → Makes s (IsOf (entry_type e)) (named x)
unfolding named
declared_made c s x e i h none = makes-scoped s (IsOf (entry_type e)) (λ q. index_or_other q x (index_of q.indexes x)) (rw i (entry_made c s x e h none))

index_made : (s : Scope) (x : Name) → NameIsKnown s x (Some Index) → Makes s (IsOf integer) (named x)
unfolding named
index_made s x h = makes-scoped s (IsOf integer) (λ q. index_or_other q x (index_of q.indexes x)) (rw h.1 (makes-done s (IsOf integer) _ (scalar_type I32 integer refl refl)))

pub name_made : (s : Scope) (x : Name) (st : Option Standing) (ty : Typed) → NameIsKnown s x st → name_type st ≡ Some ty → HasNoValue (constant_of s.names.constants x) → Makes s (IsOf ty) (named x)
name_made s x None ty h e none = no_type ty e
name_made s x (Some (Declared d)) ty h e none = rw (← same_type (entry_type d) ty e) (declared_made d.constant s x d h.0 h.1 none)
name_made s x (Some (Active d)) ty h e none = rw (← same_type (entry_type d) ty e) (declared_made false s x d h.0 h.2 none)
name_made s x (Some Index) ty h e none = rw (← same_type integer ty e) (index_made s x h)
name_made s x (Some Barred) ty h e none = no_type ty e

-- ---- arrays

entry_array : (c : Bool) (s : Scope) (x : Name) (e : Entry) → EntryIsKnown c s.names x e → 0 < e.rank → Makes s (IsReferenceTo (entry_type e)) (reference x)
unfolding reference
entry_array true s x e h l = absurd (let none = h.1 in omega (arith, l))
entry_array false s x e h l = makes-scoped s (IsReferenceTo (entry_type e)) (λ q. boxed (declare_of q.names x)) (rw h.1 (array_made s e h.0 h.2 l))

rank_kept : (a b : Typed) → a ≡ b → 0 < b.rank → 0 < a.rank
rank_kept a b e l = rw e l

pub reference_made : (s : Scope) (x : Name) (st : Option Standing) (ty : Typed) → NameIsKnown s x st → name_type st ≡ Some ty → 0 < ty.rank → Makes s (IsReferenceTo ty) (reference x)
reference_made s x None ty h e l = no_type ty e
reference_made s x (Some (Declared d)) ty h e l = let is = same_type (entry_type d) ty e in rw (← is) (entry_array d.constant s x d h.1 (rank_kept (entry_type d) ty is l))
reference_made s x (Some (Active d)) ty h e l = let is = same_type (entry_type d) ty e in rw (← is) (entry_array false s x d h.2 (rank_kept (entry_type d) ty is l))
reference_made s x (Some Index) ty h e l = absurd (let is = rank_kept integer ty (same_type integer ty e) l in omega (arith, is))
reference_made s x (Some Barred) ty h e l = no_type ty e
