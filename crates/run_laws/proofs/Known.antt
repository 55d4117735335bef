-- The variables of ALLOCATE, DEALLOCATE and DO.
use Rattle.std.proofs.Common.{◌≡◌, refl, sym, ap, ◌∙◌, subst, ℕ, ◌==◌, Bool, true, false, not, ◌&&◌, List, [], Option, Some, None, IfSome, nat_eq, true≢false, arith, Ok, Err, IfOk}
use Rattle.std.proofs.lemmas.Bool.{eqb-true}
use Rattle.ws_base.specs.declared.refusal.RefusalKind.TheVariants as kind
use Rattle.ws_base.specs.Outcomes.{Staged}
use Rattle.ws_space.specs.declared.state.VarState.{VarState}
use Rattle.ws_types.specs.declared.types.Entry.{Entry}
use Rattle.ws_types.specs.declared.types.Row.{Row}
use Rattle.ws_types.specs.declared.types.Standing.{Standing}
use Rattle.ws_types.specs.declared.types.Standing.TheVariants.{Declared, Active, Index, Barred}
use Rattle.ws_types.specs.Names.{Name, standing_of, name_type, name_faults, is_no_allocatable, is_constant, entry_type}
use Rattle.ws_types.specs.Operations.{scalar_faults, is_above}
use Rattle.ws_sema.specs.declared.within.Within.{Within}
use Rattle.ws_sema.specs.Statements.{is_other_bounds, allocatable_faults, variable_faults, loop_faults}
use Rattle.ws_sema.proofs.NoFaults.{none_first, none_after, not_broken, not_false, impossible}
use Rattle.hlfir_ops.specs.declared.kinds.Elem.{Elem}
use Rattle.hlfir_ops.specs.declared.kinds.ValueKind.{ValueKind}
use Rattle.hlfir_ops.specs.declared.kinds.ValueKind.TheVariants as kinds
use Rattle.lower_values.specs.declared.names.Names.{Names}
use Rattle.lower_values.specs.declared.operand.Operand.{Operand}
use Rattle.lower_values.specs.References.{variable_of, or_nothing}
use Rattle.lower_values.specs.Scopes.{Scope}
use Rattle.kind_laws.specs.Standing.{FitsEntry, EntryIsKnown, NameIsKnown, Knows}
use Rattle.kind_laws.proofs.ScopesKnown.{entry_variable}
use Rattle.small_laws.proofs.Tables.{AreFit, IsFit, standing_fit}
use Rattle.kind_laws.proofs.TypesTold.{no_rank}
use Rattle.value_laws.specs.Variables.{Fits}
use Rattle.world_laws.proofs.Fitting.{FitsWhereDeclared}

-- ---- ALLOCATE and DEALLOCATE

-- the declare of an allocatable, and the rank that its bounds have
pub record IsAllocatable (names : Names) (x : Name) (st : Option Standing) : Type 0 where
  pub declare : Operand
  pub found : variable_of names.variables x ≡ Some declare
  pub elem : Elem
  pub rank : ℕ
  pub kind : declare.kind ≡ kinds.Allocatable elem rank
  pub some : (rank == 0) ≡ false
  pub bounds : (n : ℕ) → is_other_bounds st n ≡ false → n ≡ rank

is_rank : (b : Bool) (rank n other : ℕ) → b ≡ true → other ≡ rank → (b && not (nat_eq rank n)) ≡ false → n ≡ other
is_rank true rank n other h e f = sym (e ∙ eqb-true rank n (not_false (nat_eq rank n) f))
is_rank false rank n other h e f = absurd (true≢false (sym h))

allocatable_kind : (names : Names) (x : Name) (e : Entry) (d : Operand) (k : ValueKind) → d.kind ≡ k → variable_of names.variables x ≡ Some d → FitsEntry e k → e.allocatable ≡ true → IsAllocatable names x (Some (Declared e))
allocatable_kind names x e d (kinds.Allocatable f rank) same found h is = record {
  declare = d;
  found = found;
  elem = f;
  rank = rank;
  kind = same;
  some = (let some = h.2 in grind (arith, some, h.1));
  bounds = λ n other. is_rank e.allocatable e.rank n rank is h.1 other;
}
allocatable_kind names x e d (kinds.Place f) same found h is = absurd (true≢false (sym is ∙ h.2))
allocatable_kind names x e d (kinds.Declared f shape) same found h is = absurd (true≢false (sym is ∙ h.3))
allocatable_kind names x e d (kinds.Scalar f) same found h is = absurd h
allocatable_kind names x e d (kinds.Section f rank) same found h is = absurd h
allocatable_kind names x e d (kinds.Array f rank) same found h is = absurd h

variable_entry : (c : Bool) (names : Names) (x : Name) (e : Entry) → EntryIsKnown c names x e → e.allocatable ≡ true → IsAllocatable names x (Some (Declared e))
variable_entry true names x e h is = absurd (true≢false (sym is ∙ h.2))
variable_entry false names x e h is = allocatable_kind names x e h.0 h.0.kind refl h.1 h.2 is

allocatable_at : (s : Scope) (line : ℕ) (x : Name) (st : Option Standing) → IfSome st IsFit → NameIsKnown s x st → allocatable_faults line st ≡ [] → IsAllocatable s.names x st
unfolding allocatable_faults name_faults
allocatable_at s line x None fit h f = impossible line kind.Undeclared (none_first _ _ (none_first _ _ f))
allocatable_at s line x (Some (Declared d)) fit h f = variable_entry d.constant s.names x d h.1 (not_false d.allocatable (not_broken (is_no_allocatable (Some (Declared d))) _ _ (none_after _ _ f)))
allocatable_at s line x (Some (Active d)) fit h f = absurd (true≢false (sym (not_false d.allocatable (not_broken (is_no_allocatable (Some (Active d))) _ _ (none_after _ _ f))) ∙ fit))
allocatable_at s line x (Some Index) fit h f = impossible line kind.NotAllocatable (none_after _ _ f)
allocatable_at s line x (Some Barred) fit h f = impossible line kind.DoVariable (none_after _ _ (none_first _ _ f))

pub allocatable : (t : List Row) (s : Scope) (line : ℕ) (x : Name) → AreFit t → Knows t s → allocatable_faults line (standing_of t x) ≡ [] → IsAllocatable s.names x (standing_of t x)
allocatable t s line x fit known f = allocatable_at s line x (standing_of t x) (standing_fit t x fit) (known x) f

-- ---- DO

-- the declare of a scalar
pub record IsScalarVariable (names : Names) (x : Name) : Type 0 where
  pub declare : Operand
  pub found : variable_of names.variables x ≡ Some declare
  pub elem : Elem
  pub kind : declare.kind ≡ kinds.Place elem

scalar_kind : (names : Names) (x : Name) (e : Entry) (d : Operand) (k : ValueKind) → d.kind ≡ k → variable_of names.variables x ≡ Some d → FitsEntry e k → e.rank ≡ 0 → IsScalarVariable names x
scalar_kind names x e d (kinds.Place f) same found h r = record { declare = d; found = found; elem = f; kind = same }
scalar_kind names x e d (kinds.Declared f shape) same found h r = absurd (let some = h.2 in omega (arith, some, r))
scalar_kind names x e d (kinds.Allocatable f rank) same found h r = absurd (let some = h.2 in omega (arith, some, r))
scalar_kind names x e d (kinds.Scalar f) same found h r = absurd h
scalar_kind names x e d (kinds.Section f rank) same found h r = absurd h
scalar_kind names x e d (kinds.Array f rank) same found h r = absurd h

scalar_at : (s : Scope) (w : Within) (line : ℕ) (x : Name) (st : Option Standing) → NameIsKnown s x st → loop_faults w line st ≡ [] → IsScalarVariable s.names x
unfolding loop_faults variable_faults name_faults scalar_faults
scalar_at s w line x None h f = impossible line kind.Undeclared (none_first _ _ (none_first _ _ (none_first _ _ (none_first _ _ f))))
scalar_at s w line x (Some (Declared d)) h f =
    let variable = none_first _ _ f in
    let entry = entry_variable d.constant s.names x d (not_broken (is_constant (Some (Declared d))) _ _ (none_after _ _ (none_first _ _ variable))) h.1 in
    scalar_kind s.names x d entry.0 entry.0.kind refl entry.1 entry.2 (no_rank (entry_type d) (not_broken (is_above 0 (name_type (Some (Declared d)))) _ _ (none_after _ _ (none_after _ _ variable))))
scalar_at s w line x (Some (Active d)) h f = impossible line kind.DoVariable (none_after _ _ f)
scalar_at s w line x (Some Index) h f = impossible line kind.DoVariable (none_after _ _ f)
scalar_at s w line x (Some Barred) h f = impossible line kind.DoVariable (none_after _ _ (none_first _ _ (none_first _ _ (none_first _ _ f))))

pub scalar_variable : (t : List Row) (s : Scope) (w : Within) (line : ℕ) (x : Name) → Knows t s → loop_faults w line (standing_of t x) ≡ [] → IsScalarVariable s.names x
scalar_variable t s w line x known f = scalar_at s w line x (standing_of t x) (known x) f

-- ---- states that fit

-- a name has one declare
pub fits_found : (names : Names) (x : Name) (d : Operand) (k : ValueKind) (s : _) → variable_of names.variables x ≡ Some d → d.kind ≡ k → Fits k s → FitsWhereDeclared names.variables x s
fits_found names x d k s found same h e is = subst (λ c. Fits c s) (sym (ap (λ o. (or_nothing o).kind) (sym is ∙ found) ∙ same)) h

pub found_fits : (names : Names) (x : Name) (d : Operand) (k : ValueKind) (r : Staged VarState) → variable_of names.variables x ≡ Some d → d.kind ≡ k → IfOk r (Fits k) → IfOk r (FitsWhereDeclared names.variables x)
found_fits names x d k (Ok q) found same h = fits_found names x d k q found same h
found_fits names x d k (Err e) found same h = tt
