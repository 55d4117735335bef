-- What a name stands for in a scope that knows its table.
use Rattle.std.proofs.Common.{◌≡◌, refl, sym, ap, ◌∙◌, subst, ◌==◌, Bool, true, false, Option, Some, None}
use Rattle.std.proofs.lemmas.Bool.{true≢false}
use Rattle.ws_types.specs.declared.types.Typed.{Typed}
use Rattle.ws_types.specs.declared.types.Entry.{Entry}
use Rattle.ws_types.specs.declared.types.Standing.{Standing}
use Rattle.ws_types.specs.declared.types.Standing.TheVariants.{Declared, Active, Index, Barred}
use Rattle.ws_types.specs.Names.{Name, name_type, entry_type}
use Rattle.hlfir_ops.specs.declared.kinds.ValueKind.{ValueKind}
use Rattle.hlfir_ops.specs.declared.kinds.ValueKind.TheVariants as kind
use Rattle.hlfir_ops.specs.RulesValues.{elem_of, rank_of, is_reference, is_allocatable}
use Rattle.lower_values.specs.declared.names.Names.{Names}
use Rattle.lower_values.specs.declared.operand.Operand.{Operand}
use Rattle.lower_assign.specs.Known.{elem}
use Rattle.lower_values.specs.References.{variable_of}
use Rattle.lower_values.specs.Scopes.{Scope}
use Rattle.kind_laws.specs.Standing.{FitsEntry, EntryIsKnown, NameIsKnown}

-- ---- the declare of an array

-- the name stands for an array of this type
pub record NamesArray (names : Names) (x : Name) (ty : Typed) : Type 0 where
  pub declare : Operand
  pub is : variable_of names.variables x ≡ Some declare
  pub reference : is_reference (Some declare.kind) ≡ true
  pub of_elem : elem_of declare.kind ≡ elem ty.truth
  pub of_rank : rank_of declare.kind ≡ ty.rank

array_of : (names : Names) (x : Name) (e : Entry) (d : Operand) (k : ValueKind) → d.kind ≡ k → variable_of names.variables x ≡ Some d → is_reference (Some k) ≡ true → elem_of k ≡ elem e.truth → rank_of k ≡ e.rank → NamesArray names x (entry_type e)
array_of names x e d k same is reference of_elem of_rank =
    record { declare = d; is = is; reference = ap (λ k. is_reference (Some k)) same ∙ reference; of_elem = ap elem_of same ∙ of_elem; of_rank = ap rank_of same ∙ of_rank }

array_fits : (names : Names) (x : Name) (e : Entry) (d : Operand) (k : ValueKind) → d.kind ≡ k → variable_of names.variables x ≡ Some d → FitsEntry e k → (e.rank == 0) ≡ false → NamesArray names x (entry_type e)
array_fits names x e d (kind.Place f) same is h some = absurd (true≢false (ap (λ r. r == 0) (sym h.1) ∙ some))
array_fits names x e d (kind.Declared f shape) same is h some = array_of names x e d (kind.Declared f shape) same is refl h.0 h.1
array_fits names x e d (kind.Allocatable f rank) same is h some = array_of names x e d (kind.Allocatable f rank) same is refl h.0 h.1
array_fits names x e d _ same is h some = absurd h

array_known : (b : Bool) (names : Names) (x : Name) (e : Entry) → EntryIsKnown b names x e → (e.rank == 0) ≡ false → NamesArray names x (entry_type e)
array_known true names x e h some = absurd (true≢false (ap (λ r. r == 0) (sym h.1) ∙ some))
array_known false names x e h some = array_fits names x e h.0 h.0.kind refl h.1 h.2 some

pub names-array : (s : Scope) (x : Name) (st : Option Standing) (ty : Typed) → NameIsKnown s x st → name_type st ≡ Some ty → (ty.rank == 0) ≡ false → NamesArray s.names x ty
names-array s x None ty h is some = cc
names-array s x (Some (Declared e)) ty h is some =
    let same : entry_type e ≡ ty = cc in
    subst (NamesArray s.names x) same (array_known e.constant s.names x e h.1 (ap (λ y. y.rank == 0) same ∙ some))
names-array s x (Some (Active e)) ty h is some =
    let same : entry_type e ≡ ty = cc in
    subst (NamesArray s.names x) same (array_known false s.names x e h.2 (ap (λ y. y.rank == 0) same ∙ some))
names-array s x (Some Index) ty h is some =
    let same : record { truth = false; rank = 0 } ≡ ty = cc in
    absurd (true≢false (ap (λ y. y.rank == 0) same ∙ some))
names-array s x (Some Barred) ty h is some = cc

-- ---- the declare of an allocatable

pub allocatable_kind : (e : Entry) (k : ValueKind) → FitsEntry e k → e.allocatable ≡ true → (is_allocatable (Some k) ≡ true) × (rank_of k ≡ e.rank)
allocatable_kind e (kind.Place f) h is = absurd (true≢false (sym is ∙ h.2))
allocatable_kind e (kind.Declared f shape) h is = absurd (true≢false (sym is ∙ h.3))
allocatable_kind e (kind.Allocatable f rank) h is = (refl, h.1)
allocatable_kind e _ h is = absurd h
