-- The state in which a run begins fits the names of its source.
use Rattle.std.proofs.Common.{◌≡◌, refl, sym, ap, ◌∙◌, subst, ℕ, Bool, true, false, List, [], Option, Some, None, ℤ}
use Rattle.ws_base.specs.Numbers.{truth}
use Rattle.ws_tree.specs.declared.stmt.Tree.{Tree}
use Rattle.ws_types.specs.declared.constant.Constancy.{Constancy}
use Rattle.ws_types.specs.declared.constant.Constancy.TheVariants.{Value, NoValue, NotConstant}
use Rattle.ws_types.specs.declared.types.Entry.{Entry}
use Rattle.ws_types.specs.declared.types.Standing.{Standing}
use Rattle.ws_types.specs.declared.types.Standing.TheVariants.{Declared, Active, Index, Barred}
use Rattle.ws_types.specs.Names.{Name, standing_of}
use Rattle.ws_types.specs.Constants as rules
use Rattle.ws_sema.specs.Checks.{IsAccepted}
use Rattle.ws_sema.specs.Declarations.{constants_after, table_of}
use Rattle.array_meaning.specs.Stage1.{constant_of}
use Rattle.array_meaning.specs.Assign.{is_name_in}
use Rattle.array_meaning.specs.Program.{world, declared, source_of, opening}
use Rattle.hlfir_ops.specs.declared.kinds.ValueKind.{ValueKind}
use Rattle.hlfir_ops.specs.declared.kinds.ValueKind.TheVariants as kind
use Rattle.hlfir_ops.specs.RulesValues.{is_allocatable}
use Rattle.lower_values.specs.declared.names.Names.{Names}
use Rattle.lower_values.specs.declared.operand.Operand.{Operand}
use Rattle.lower_assign.specs.Known.{names_of, truths_of}
use Rattle.lower_values.specs.References.{variable_of, or_nothing, declare_of, truth_of}
use Rattle.lower_values.specs.Scopes.{Scope, scope_at}
use Rattle.kind_laws.specs.Standing.{FitsEntry, ConstantIsKnown, EntryIsKnown, NameIsKnown}
use Rattle.kind_laws.proofs.NamesKnown.{names_are_known}
use Rattle.ws_sema.proofs.Accepted.{no_decl_faults}
use Rattle.small_laws.proofs.Constancy as small
use Rattle.value_laws.specs.Names as agreed
use Rattle.world_laws.specs.Worlds.{constant_value, ConstantFits}
use Rattle.run_laws.proofs.Loops.{FitsState}
use Rattle.run_laws.proofs.Declares.{Begin, begin}
use Rattle.run_laws.proofs.Constants.{allocatables_of, ConstantStands, NameStands, name_stands, constants_agree, no_variable}

-- ---- one name: k among the constants of the source, c among the INTEGER ones of the rules, b among the LOGICAL ones

some_is : (y z : ℤ) → (let o : Option ℤ = Some y in o) ≡ Some z → y ≡ z
some_is y z h = cc

no_constant : {P : Type 0} (k : Option ℤ) (z : ℤ) → k ≡ None → k ≡ Some z → P
no_constant k z h g = absurd (cc)

no_declare : {P : Type 0} (o : Option Operand) (d : Operand) → o ≡ None → o ≡ Some d → P
no_declare o d h g = absurd (cc)

agreed_value : (c : Constancy) (k : Option ℤ) (y z : ℤ) → small.IfValue c (λ v. k ≡ Some v) → c ≡ Value y → k ≡ Some z → z ≡ y
agreed_value c k y z h is g = let known : k ≡ Some y = subst (λ d. small.IfValue d (λ v. k ≡ Some v)) is h in some_is z y (sym g ∙ known)

module _ (names : Names) (s : Scope) (same : s.names ≡ names) (x : Name) (k : Option ℤ) (a : Bool) where
  abbrev c : Constancy
  c = rules.constant_of names.constants x

  abbrev b : Bool
  b = truth_of names.truths x

  constant_case : (t : Bool) (z : ℤ) → small.IfValue c (λ v. k ≡ Some v) → ConstantIsKnown names x t → ConstantStands true t k b → k ≡ Some z → z ≡ constant_value c b
  constant_case true z agree known stands h = some_is z (truth b) (sym h ∙ stands) ∙ sym (ap (λ d. constant_value d b) known)
  constant_case false z agree known stands h = agreed_value c k known.0 z agree known.1 h ∙ sym (ap (λ d. constant_value d b) known.1)

  entry_value : (e : Bool) (t : Bool) (entry : Entry) (z : ℤ) → entry.truth ≡ t → small.IfValue c (λ v. k ≡ Some v) → EntryIsKnown e names x entry → ConstantStands e t k b → k ≡ Some z → z ≡ constant_value c b
  entry_value true t entry z is agree known stands h = constant_case t z agree (subst (ConstantIsKnown names x) is known.3) stands h
  entry_value false t entry z is agree known stands h = no_constant k z stands.0 h

  entry_none : (e : Bool) (t : Bool) (entry : Entry) (d : Operand) → EntryIsKnown e names x entry → ConstantStands e t k b → variable_of names.variables x ≡ Some d → k ≡ None
  entry_none true t entry d known stands h = no_declare (variable_of names.variables x) d known.0 h
  entry_none false t entry d known stands h = stands.0

  entry_truth : (e t : Bool) → ConstantStands e t k b → k ≡ None → b ≡ false
  entry_truth true true stands h = no_constant k (truth b) h stands
  entry_truth true false stands h = stands.1
  entry_truth false t stands h = stands.1

  fits_kind : (entry : Entry) (kind : ValueKind) → FitsEntry entry kind → entry.allocatable ≡ is_allocatable (Some kind)
  fits_kind entry (kind.Place f) h = h.2
  fits_kind entry (kind.Declared f shape) h = h.3
  fits_kind entry (kind.Allocatable f rank) h = h.3
  fits_kind entry (kind.Scalar f) h = absurd h
  fits_kind entry (kind.Section f rank) h = absurd h
  fits_kind entry (kind.Array f rank) h = absurd h

  entry_allocatable : (e : Bool) (entry : Entry) → EntryIsKnown e names x entry → entry.allocatable ≡ is_allocatable (Some (declare_of names x).kind)
  entry_allocatable true entry known = known.2 ∙ sym (ap (λ o. is_allocatable (Some (or_nothing o).kind)) known.0)
  entry_allocatable false entry known = fits_kind entry known.0.kind known.2 ∙ sym (ap (λ o. is_allocatable (Some (or_nothing o).kind)) known.1)

-- ---- all names

module _ (t : Tree) (accepted : IsAccepted t) (x : Name) where
  abbrev names : Names
  names = names_of t

  abbrev here : Scope
  here = scope_at names []

  abbrev k : Option ℤ
  k = constant_of (declared [] t.decls).0 x

  abbrev a : Bool
  a = is_name_in (allocatables_of t.decls) x

  stands : NameStands k (truth_of (truths_of t.decls) x) a (standing_of (table_of t.decls) x)
  stands = name_stands [] [] [] t.decls x (λ y _. refl) refl (no_decl_faults t accepted)

  agree : small.IfValue (rules.constant_of names.constants x) (λ v. k ≡ Some v)
  agree = constants_agree [] [] [] t.decls (λ y. tt) (λ y _. refl) (no_decl_faults t accepted) x

  constants_fit : (st : Option Standing) → st ≡ standing_of (table_of t.decls) x → NameIsKnown here x st → NameStands k (truth_of (truths_of t.decls) x) a st → (o : Option Operand) → variable_of names.variables x ≡ o → ConstantFits names (world (source_of t []) (opening t)) x o
  constants_fit None is known stand (Some d) h = stand.0
  constants_fit None is known stand None h = λ z g. no_constant k z stand.0 g
  constants_fit (Some (Declared e)) is known stand (Some d) h = entry_none names here refl x k a e.constant e.truth e d known.1 stand.1 h
  constants_fit (Some (Declared e)) is known stand None h = λ z g. entry_value names here refl x k a e.constant e.truth e z refl agree known.1 stand.1 g
  constants_fit (Some (Active e)) is known stand o h = absurd stand
  constants_fit (Some Index) is known stand o h = absurd stand
  constants_fit (Some Barred) is known stand o h = absurd stand

  truths_fit : (st : Option Standing) → NameStands k (truth_of (truths_of t.decls) x) a st → k ≡ None → truth_of (truths_of t.decls) x ≡ false
  truths_fit None stand h = stand.1
  truths_fit (Some (Declared e)) stand h = entry_truth names here refl x k a e.constant e.truth stand.1 h
  truths_fit (Some (Active e)) stand h = absurd stand
  truths_fit (Some Index) stand h = absurd stand
  truths_fit (Some Barred) stand h = absurd stand

  allocatables_fit : (st : Option Standing) → standing_of (table_of t.decls) x ≡ st → NameIsKnown here x st → NameStands k (truth_of (truths_of t.decls) x) a st → a ≡ is_allocatable (Some (declare_of names x).kind)
  allocatables_fit None is known stand = stand.2 ∙ sym (ap (λ o. is_allocatable (Some (or_nothing o).kind)) (no_variable 0 names.constants t.decls x is))
  allocatables_fit (Some (Declared e)) is known stand = stand.0 ∙ entry_allocatable names here refl x k a e.constant e known.1
  allocatables_fit (Some (Active e)) is known stand = absurd stand
  allocatables_fit (Some Index) is known stand = absurd stand
  allocatables_fit (Some Barred) is known stand = absurd stand

as_agreed : (c : Constancy) (P : ℤ → Type 0) → small.IfValue c P → agreed.IfValue c P
as_agreed (Value z) P h = h
as_agreed NoValue P h = tt
as_agreed NotConstant P h = tt

pub begun : (t : Tree) → IsAccepted t → Begin 0 (names_of t).variables (declared [] t.decls).1
begun t accepted = begin [] [] (constants_after [] t.decls) [] 0 t.decls (λ y. tt) (λ y _. refl) (λ y z is. is) (no_decl_faults t accepted)

pub opening_fits : (t : Tree) → IsAccepted t → (bytes : List ℕ) → FitsState (source_of t bytes) (names_of t) (opening t)
opening_fits t accepted bytes = record {
  variables = (begun t accepted).fit;
  constants = λ x. constants_fit t accepted x (standing_of (table_of t.decls) x) refl (names_are_known t accepted x) (stands t accepted x) (variable_of (names_of t).variables x) refl;
  integers = λ x. as_agreed (rules.constant_of (names_of t).constants x) _ (agree t accepted x);
  truths = λ x. truths_fit t accepted x (standing_of (table_of t.decls) x) (stands t accepted x);
  allocatables = λ x. allocatables_fit t accepted x (standing_of (table_of t.decls) x) refl (names_are_known t accepted x) (stands t accepted x);
}
