-- Left sides and items of READ, and expressions as they stand in statements.
use Rattle.std.proofs.Common.{◌≡◌, refl, sym, ap, ◌∙◌, subst, ℕ, ◌==◌, Bool, true, false, ◌||◌, List, [], inl, inr, Option, Some, None, map, if◌then◌else◌}
use Rattle.std.proofs.lemmas.Bool.{eqb-true}
use mathlib.Core.Former.{Count}
use Rattle.ws_base.specs.declared.refusal.RefusalKind.TheVariants as kind
use Rattle.ws_tree.specs.declared.expr.Expr.TheVariants.{TooDeep, Named, Part'}
use Rattle.ws_tree.specs.Trees.{Subs}
use Rattle.ws_types.specs.declared.types.Entry.{Entry}
use Rattle.ws_types.specs.declared.types.Typed.{Typed}
use Rattle.ws_types.specs.declared.types.Row.{Row}
use Rattle.ws_types.specs.declared.types.Standing.{Standing}
use Rattle.ws_types.specs.declared.types.Standing.TheVariants.{Declared, Active, Index, Barred}
use Rattle.ws_types.specs.Names.{Name, standing_of, name_type, name_faults, entry_type, is_constant, target_faults, target_type}
use Rattle.ws_types.specs.Expressions.{typed, faults, wide_faults}
use Rattle.ws_sema.proofs.NoFaults.{none_first, none_after, not_broken, impossible}
use Rattle.hlfir_ops.specs.declared.kinds.Elem.{Elem}
use Rattle.hlfir_ops.specs.declared.kinds.ValueKind.{ValueKind}
use Rattle.hlfir_ops.specs.declared.kinds.ValueKind.TheVariants.{Scalar, Place, Declared as Declared', Allocatable, Section, Array}
use Rattle.hlfir_ops.specs.declared.what.What.TheVariants as what
use Rattle.hlfir_ops.specs.declared.op.ValueId.{ValueId}
use Rattle.hlfir_ops.specs.RulesValues.{Value, Declares, Designates, Other, value_at, has_vector, elem_of, rank_of, is_target, is_designates}
use Rattle.hlfir_ops.specs.RulesForms.{section_rank}
use Rattle.lower_values.specs.declared.operand.Operand.{Operand}
use Rattle.lower_values.specs.declared.operand.Subscript.{Subscript}
use Rattle.lower_assign.specs.Known.{elem}
use Rattle.lower_values.specs.Scopes.{Scope}
use Rattle.lower_values.specs.Lowerings.{◌>>=◌}
use Rattle.lower_values.specs.References.{boxed, declare_of, part_kind, sub_kind, reference, designated}
use Rattle.lower_values.specs.Values.{part_of, subscripts}
use Rattle.lower_assign.specs.Statements.{whole_left, left_of}
use Rattle.kind_laws.specs.Found.{IsDeclareOf, IsLeftOf}
use Rattle.kind_laws.specs.Laws.{SidesAreExpressions, LeftsAreFound, IsVariable}
use Rattle.kind_laws.proofs.TypedExpressions.{type_known}
use Rattle.kind_laws.proofs.Made.{IsPartOf}
use Rattle.kind_laws.proofs.ExpressionsMade.{part_of_made}
use Rattle.kind_laws.proofs.Finding.{Finds, finds-done, finds-next, finds-scoped, finds-giving}
use Rattle.kind_laws.proofs.ScopesFound.{declares_are_found}

-- ---- expressions as they stand in statements

too_deep : {P : Type 0} (t : List Row) (inside : Bool) (line : ℕ) → faults t inside line TooDeep ≡ [] → P
unfolding wide_faults
too_deep t inside line f = impossible line kind.OverLimit f

pub sides_are_expressions : SidesAreExpressions
sides_are_expressions t inside line e (inl is) f = too_deep t inside line (ap (faults t inside line) (sym is) ∙ f)
sides_are_expressions t inside line e (inr h) f = h.0

-- ---- whole variables

module _ (vs : List Value) (s : Scope) (x : Name) (e : Entry) where
  whole_at : (by_box : Bool) (v : ValueId) (k : ValueKind) → IsDeclareOf vs e (record { value = v; kind = k }) → Finds vs s (IsLeftOf vs by_box (Named x) (entry_type e)) (whole_left by_box (record { value = v; kind = k }))
  unfolding boxed
  whole_at by_box v (Scalar f) h = absurd h.fits
  whole_at true v (Place f) h = finds-done vs s (IsLeftOf vs true (Named x) (entry_type e)) (record { value = v; kind = Place f })
      (record { value = record { kind = Place f; source = Declares }; found = h.found; kind = refl; elem = h.fits.0; rank = sym h.fits.1; target = refl; source = refl })
  whole_at false v (Place f) h = finds-done vs s (IsLeftOf vs false (Named x) (entry_type e)) (record { value = v; kind = Place f })
      (record { value = record { kind = Place f; source = Declares }; found = h.found; kind = refl; elem = h.fits.0; rank = sym h.fits.1; target = refl; source = refl })
  whole_at true v (Declared' f shape) h = finds-done vs s (IsLeftOf vs true (Named x) (entry_type e)) (record { value = v; kind = Declared' f shape })
      (record { value = record { kind = Declared' f shape; source = Declares }; found = h.found; kind = refl; elem = h.fits.0; rank = h.fits.1; target = refl; source = refl })
  whole_at false v (Declared' f shape) h = finds-done vs s (IsLeftOf vs false (Named x) (entry_type e)) (record { value = v; kind = Declared' f shape })
      (record { value = record { kind = Declared' f shape; source = Declares }; found = h.found; kind = refl; elem = h.fits.0; rank = h.fits.1; target = refl; source = refl })
  whole_at true v (Allocatable f rank) h = finds-giving vs s (IsLeftOf vs true (Named x) (entry_type e)) what.Boxed _ (Allocatable f rank)
      (λ u is. record { value = record { kind = Allocatable f rank; source = Other }; found = is; kind = refl; elem = h.fits.0; rank = h.fits.1; target = refl; source = refl })
  whole_at false v (Allocatable f rank) h = finds-done vs s (IsLeftOf vs false (Named x) (entry_type e)) (record { value = v; kind = Allocatable f rank })
      (record { value = record { kind = Allocatable f rank; source = Declares }; found = h.found; kind = refl; elem = h.fits.0; rank = h.fits.1; target = refl; source = refl })
  whole_at by_box v (Section f rank) h = absurd h.fits
  whole_at by_box v (Array f rank) h = absurd h.fits

  whole_found : (by_box : Bool) → IsDeclareOf vs e (declare_of s.names x) → Finds vs s (IsLeftOf vs by_box (Named x) (entry_type e)) (left_of by_box (Named x))
  whole_found by_box h =
      finds-scoped vs s (IsLeftOf vs by_box (Named x) (entry_type e)) (λ q. whole_left by_box (declare_of q.names x)) (whole_at by_box (declare_of s.names x).value (declare_of s.names x).kind h)

-- ---- what is assigned

-- a variable that is assigned is declared, and no constant
pub record IsTarget (st : Option Standing) : Type 0 where
  pub entry : Entry
  pub declared : st ≡ Some (Declared entry)
  pub variable : entry.constant ≡ false

pub target : (line : ℕ) (st : Option Standing) → name_faults line st ≡ [] → target_faults line st ≡ [] → IsTarget st
unfolding name_faults target_faults
target line None f g = impossible line kind.Undeclared (none_first _ _ f)
target line (Some (Declared e)) f g = record { entry = e; declared = refl; variable = not_broken (is_constant (Some (Declared e))) _ _ (none_first _ _ g) }
target line (Some (Active e)) f g = impossible line kind.DoVariable (none_after _ _ g)
target line (Some Index) f g = impossible line kind.DoVariable (none_after _ _ g)
target line (Some Barred) f g = impossible line kind.DoVariable (none_after _ _ f)

target_type-is : (st : Option Standing) (o : Option Typed) → IsTarget st → target_type st o ≡ o
target_type-is st o h = ap (λ p. target_type p o) h.declared ∙ ap (λ b. if b || false then None else o) h.variable

-- ---- parts

part_elem : (e : Elem) (rank : ℕ) (b : Bool) → elem_of (if b then Place e else Section e rank) ≡ e
part_elem e rank true = refl
part_elem e rank false = refl

part_target : (e : Elem) (rank : ℕ) (b : Bool) → is_target (Some (if b then Place e else Section e rank)) ≡ true
part_target e rank true = refl
part_target e rank false = refl

rank_at : (e : Elem) (rank : ℕ) (b : Bool) → (rank == 0) ≡ b → rank_of (if b then Place e else Section e rank) ≡ rank
rank_at e rank true is = sym (eqb-true rank 0 is)
rank_at e rank false is = refl

module _ (vs : List Value) where
  abbrev IsDesignated : Operand → Type 0
  IsDesignated p = (vector : Bool) × (value_at vs p.value ≡ Some (record { kind = p.kind; source = Designates vector }))

  designate_found : (s : Scope) (r : Operand) (ss : List Subscript) → Finds vs s IsDesignated (designated r ss)
  unfolding designated
  designate_found s r ss = finds-giving vs s IsDesignated (what.Designate (map sub_kind ss)) _ (part_kind (elem_of r.kind) (section_rank (map sub_kind ss))) (λ v is. (has_vector (map sub_kind ss), is))

  part_designated : {m : Count} (s : Scope) (x : Name) (subs : Subs m) → Finds vs s IsDesignated (part_of x (λ r. subscripts r 1 subs))
  unfolding part_of
  part_designated s x subs =
      finds-next vs s IsDesignated (reference x) (λ r. subscripts r 1 subs >>= designated r) (λ r. finds-next vs s IsDesignated (subscripts r 1 subs) (designated r) (λ ss. designate_found s r ss))

  -- a part of this type, given by a designate
  record IsPart (ty : Typed) (p : Operand) : Type 0 where
    value : Value
    found : value_at vs p.value ≡ Some value
    kind : value.kind ≡ p.kind
    elem : elem_of p.kind ≡ elem ty.truth
    rank : rank_of p.kind ≡ ty.rank
    target : is_target (Some p.kind) ≡ true
    source : is_designates value.source ≡ true

  is_part : (ty : Typed) (p : Operand) → IsPartOf ty p → IsDesignated p → IsPart ty p
  is_part ty p h d = record {
    value = record { kind = p.kind; source = Designates d.0 };
    found = d.1;
    kind = refl;
    elem = ap elem_of h.kind ∙ part_elem (elem ty.truth) h.rank (h.rank == 0);
    rank = ap rank_of h.kind ∙ (rank_at (elem ty.truth) h.rank (h.rank == 0) refl ∙ h.same);
    target = ap (λ k. is_target (Some k)) h.kind ∙ part_target (elem ty.truth) h.rank (h.rank == 0);
    source = refl;
  }

-- ---- left sides

pub lefts_are_found : LeftsAreFound
lefts_are_found t inside line by_box (Named x) s n vs g known f all held =
    let st = standing_of t x in
    let is = target line st (none_first _ _ (none_first _ _ f)) (none_after _ _ (none_first _ _ f)) in
    let declare = declares_are_found t s vs x is.entry known all (subst (IsVariable is.entry) (sym is.declared) (refl, is.variable)) in
    (entry_type is.entry, target_type-is st (name_type st) is ∙ ap name_type is.declared, whole_found vs s x is.entry by_box declare n held)
lefts_are_found t inside line by_box (Part' x h subs) s n vs g known f all held =
    let whole = none_first _ _ (none_first _ _ f) in
    let is = target line (standing_of t x) (none_first _ _ (none_first _ _ whole)) (none_after _ _ (none_first _ _ f)) in
    let type = type_known t inside line (Part' x h subs) whole in
    let part = is_part vs type.0 (part_of x (λ r. subscripts r 1 subs) s n).made (part_of_made t inside line s known x subs type.0 g.1 g.2 whole type.1 n) (part_designated vs s x subs n held) in (
      type.0,
      target_type-is (standing_of t x) (typed t inside (Part' x h subs)) is ∙ type.1,
      record { value = part.value; found = part.found; kind = part.kind; elem = part.elem; rank = part.rank; target = part.target; source = part.source },
    )
lefts_are_found t inside line by_box TooDeep s n vs g known f all held = too_deep t inside line (none_first _ _ (none_first _ _ f))
lefts_are_found t inside line by_box _ s n vs g known f all held = absurd g
