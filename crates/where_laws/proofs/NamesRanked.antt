-- Ranks of what names give.
use Rattle.std.proofs.Common.{◌≡◌, sym, ap, ◌∙◌, subst, ℕ, ◌<◌, ◌≤◌, Bool, true, false, List, [], ◌∷◌, length, Option, Some, None, IfOk, ℤ, pos}
use Rattle.std.proofs.lemmas.List.{length-map}
use Rattle.std.proofs.lemmas.List.Elements.{All-nil, All-cons}
use Rattle.ws_space.specs.declared.shape.Dim.{Dim}
use Rattle.ws_space.specs.declared.state.ArrayValue.{ArrayValue}
use Rattle.ws_space.specs.declared.state.VarState.{VarState}
use Rattle.ws_space.specs.declared.state.VarState.TheVariants as state
use Rattle.ws_space.specs.Shapes.{Extents, dims, extents_of}
use Rattle.ws_space.specs.Values.{Name, state_of}
use Rattle.ws_types.specs.declared.types.Entry.{Entry}
use Rattle.ws_types.specs.declared.types.Row.{Row}
use Rattle.ws_types.specs.declared.types.Typed.{Typed}
use Rattle.ws_types.specs.declared.types.Standing.{Standing}
use Rattle.ws_types.specs.declared.types.Standing.TheVariants.{Declared, Active, Index, Barred}
use Rattle.ws_types.specs.Names.{standing_of, name_type, entry_type}
use Rattle.ws_types.specs.Expressions.{named_type}
use Rattle.array_meaning.specs.declared.world.World.{World}
use Rattle.array_meaning.specs.declared.term.Term.TheVariants.{Section}
use Rattle.array_meaning.specs.declared.term.Pick.{Pick}
use Rattle.array_meaning.specs.Terms.{terms_open}
use Rattle.array_meaning.specs.Stage1.{constant_of, variable, named, whole_array}
use Rattle.array_meaning.specs.Stage2.{operands, array_operand}
use Rattle.hlfir_ops.specs.declared.kinds.ValueKind.{ValueKind}
use Rattle.hlfir_ops.specs.declared.kinds.ValueKind.TheVariants as kind
use Rattle.hlfir_ops.specs.RulesValues.{rank_of}
use Rattle.lower_values.specs.Scopes.{Scope, index_of}
use Rattle.kind_laws.specs.Standing.{Knows, FitsEntry, NameIsKnown, EntryIsKnown}
use Rattle.kind_laws.proofs.TypeFacts.{same_type, no_type}
use Rattle.value_laws.specs.Variables.{Fits}
use Rattle.value_laws.proofs.Names.{whole_operands}
use Rattle.world_laws.specs.Worlds.{FitsNames, ConstantFits}
use Rattle.world_laws.proofs.Fitting.{state_fits, absent_state}
use Rattle.world_laws.proofs.Filling.{dims_length}
use Rattle.where_laws.specs.Laws.{HaveRank}
use Rattle.where_laws.proofs.Ranked.{HasRank}

-- ---- sections

pub section_ranked : (a : ArrayValue) (ps : List Pick) (n : ℕ) → 0 < n → HaveRank n (operands (Section a ps)) → HasRank n (Section a ps)
unfolding terms_open
section_ranked a ps n low h = (low, h)

pub operand_ranked : (e : Extents) (n : ℕ) → length e ≡ n → 0 < n → HaveRank n (array_operand e)
operand_ranked [] n long low = All-nil (λ e. (length e ≡ n) × (0 < n))
operand_ranked (m ∷ ms) n long low = All-cons (λ e. (length e ≡ n) × (0 < n)) (m ∷ ms) [] (long, low) (All-nil (λ e. (length e ≡ n) × (0 < n)))

extents_length : (ds : List Dim) → length (extents_of ds) ≡ length ds
extents_length ds = length-map ds (λ (d : Dim). d.extent)

whole_ranked : (a : ArrayValue) (r : ℕ) → length (dims a.shape) ≡ r → 0 < r → HasRank r (whole_array a)
whole_ranked a r long low = section_ranked a _ r low (subst (HaveRank r) (sym (whole_operands a)) (operand_ranked (extents_of (dims a.shape)) r (extents_length (dims a.shape) ∙ long) low))

-- ---- variables

-- the dimensions of what a variable holds, where it is an array
array_dims : (k : ValueKind) (e : Entry) (a : ArrayValue) → FitsEntry e k → Fits k (state.Array a) → rank_of k ≤ 3 → (length (dims a.shape) ≡ e.rank) × (0 < e.rank)
array_dims (kind.Scalar f) e a h fits few = absurd h
array_dims (kind.Place f) e a h fits few = absurd fits
array_dims (kind.Declared f shape) e a h fits few = (dims_length a shape.rank fits.same few ∙ h.1, h.2)
array_dims (kind.Allocatable f rank) e a h fits few = (dims_length a rank fits.same few ∙ h.1, h.2)
array_dims (kind.Section f rank) e a h fits few = absurd h
array_dims (kind.Array f rank) e a h fits few = absurd h

scalar_rank : (k : ValueKind) (e : Entry) (z : ℤ) → FitsEntry e k → Fits k (state.Scalar z) → e.rank ≡ 0
scalar_rank (kind.Scalar f) e z h fits = absurd h
scalar_rank (kind.Place f) e z h fits = h.1
scalar_rank (kind.Declared f shape) e z h fits = absurd fits
scalar_rank (kind.Allocatable f rank) e z h fits = absurd fits
scalar_rank (kind.Section f rank) e z h fits = absurd h
scalar_rank (kind.Array f rank) e z h fits = absurd h

variable_ranked : (k : ValueKind) (e : Entry) (s : VarState) → FitsEntry e k → Fits k s → rank_of k ≤ 3 → IfOk (variable s) (HasRank e.rank)
variable_ranked k e (state.Scalar z) h fits few = scalar_rank k e z h fits
variable_ranked k e (state.Array a) h fits few = let d = array_dims k e a h fits few in whole_ranked a e.rank d.0 d.1
variable_ranked k e (state.Unallocated r) h fits few = tt

-- ---- names

module _ (s : Scope) (w : World) (x : Name) (no_index : s.indexes ≡ []) (fits : FitsNames s.names w) where
  -- what is known of the value of a name, and of the dimensions of an array of this name
  record NameRanked (n : ℕ) : Type 0 where
    named : IfOk (named (constant_of w.constants x) (state_of w.vars x)) (HasRank n)
    dims : (a : ArrayValue) → state_of w.vars x ≡ state.Array a → length (dims a.shape) ≡ n

  constant_scalar : (o : Option ℤ) (e : Entry) → state_of w.vars x ≡ state.Scalar (pos 0) → e.rank ≡ 0 → IfOk (named o (state_of w.vars x)) (HasRank e.rank)
  constant_scalar (Some z) e is bare = bare
  constant_scalar None e is bare = subst (λ v. IfOk (variable v) (HasRank e.rank)) (sym is) bare

  entry_ranked : (c : Bool) (e : Entry) → EntryIsKnown c s.names x e → NameRanked e.rank
  entry_ranked true e h =
      let bare = absent_state 0 s.names.variables w.vars x fits.variables h.0 in
      record { named = constant_scalar (constant_of w.constants x) e bare h.1; dims = λ a is. let z : state.Scalar (pos 0) ≡ state.Array a = sym bare ∙ is in let f : ⊥ = cc in absurd f }
  entry_ranked false e h =
      let one = state_fits s.names w x h.0 fits h.1 in
      let constant = subst (ConstantFits s.names w x) h.1 (fits.constants x) in
      record {
        named = subst (λ o. IfOk (named o (state_of w.vars x)) (HasRank e.rank)) (sym constant) (variable_ranked h.0.kind e (state_of w.vars x) h.2 one.fits one.narrow);
        dims = λ a is. (array_dims h.0.kind e a h.2 (subst (Fits h.0.kind) is one.fits) one.narrow).0;
      }

  standing_ranked : (st : Option Standing) (ty : Typed) → NameIsKnown s x st → name_type st ≡ Some ty → NameRanked ty.rank
  standing_ranked None ty h is = no_type ty is
  standing_ranked (Some (Declared e)) ty h is = subst NameRanked (ap (λ t. t.rank) (same_type (entry_type e) ty is)) (entry_ranked e.constant e h.1)
  standing_ranked (Some (Active e)) ty h is = subst NameRanked (ap (λ t. t.rank) (same_type (entry_type e) ty is)) (entry_ranked false e h.2)
  standing_ranked (Some Index) ty h is = let none : None ≡ Some h.0 = ap (λ l. index_of l x) (sym no_index) ∙ h.1 in let f : ⊥ = cc in absurd f
  standing_ranked (Some Barred) ty h is = no_type ty is

module _ (t : List Row) (s : Scope) (w : World) (x : Name) (ty : Typed) (knows : Knows t s) (no_index : s.indexes ≡ []) (fits : FitsNames s.names w) (typed : named_type t x ≡ Some ty) where
  pub name_ranked : IfOk (named (constant_of w.constants x) (state_of w.vars x)) (HasRank ty.rank)
  name_ranked = (standing_ranked s w x no_index fits (standing_of t x) ty (knows x) typed).named

  pub name_dims : (a : ArrayValue) → state_of w.vars x ≡ state.Array a → length (dims a.shape) ≡ ty.rank
  name_dims a is = (standing_ranked s w x no_index fits (standing_of t x) ty (knows x) typed).dims a is
