-- Inquiries that break no rule.
use Rattle.std.proofs.Common.{◌≡◌, refl, sym, ap, ◌∙◌, subst, ℕ, ◌≤◌, ◌==◌, ◌⊎◌, inl, inr, Bool, true, false, not, ◌&&◌, ◌||◌, nat_lt, nat_eq, List, [], ◌∷◌, ◌++◌, Option, Some, None, arith, if◌then◌else◌}
use Rattle.std.proofs.lemmas.Bool.{true≢false, false≢true}
use Rattle.ws_base.specs.declared.op.CallWord.{CallWord}
use Rattle.ws_base.specs.declared.op.CallWord.TheVariants as word
use Rattle.ws_base.specs.declared.refusal.RefusalKind.TheVariants as refusal
use Rattle.ws_tree.specs.declared.expr.Expr.{Expr}
use Rattle.ws_tree.specs.declared.expr.Expr.TheVariants.{Number, TooWide, Named}
use Rattle.ws_types.specs.declared.types.Typed.{Typed}
use Rattle.ws_types.specs.declared.types.Row.{Row}
use Rattle.ws_types.specs.declared.types.Standing.{Standing}
use Rattle.ws_types.specs.declared.types.Standing.TheVariants.{Declared, Active, Index, Barred}
use Rattle.ws_types.specs.Names.{Name, standing_of, name_type, name_faults, entry_type, integer, is_no_allocatable}
use Rattle.ws_tree.specs.Calls.{is_digits, is_one_name, is_with_dimension, takes}
use Rattle.ws_types.specs.Operations.{is_inquiry, is_allocated_word, is_outside, is_outside_type, has_wide_dimension, inquiry_faults}
use Rattle.ws_types.specs.Expressions.{first_standing}
use Rattle.hlfir_ops.specs.declared.what.BoundWord.{BoundWord}
use Rattle.hlfir_ops.specs.declared.what.BoundWord.TheVariants.{Extent}
use Rattle.hlfir_ops.specs.RulesValues.{Value, kind_of, rank_of, is_reference}
use Rattle.lower_values.specs.declared.operand.Operand.{Operand}
use Rattle.lower_values.specs.Scopes.{Scope}
use Rattle.lower_values.specs.Lowerings.{◌>>=◌, scoped}
use Rattle.lower_values.specs.References.{declare_of, reference, bound_word, bound_or_size, is_allocated, first_name, dimension_in, inquiry_or_nothing, inquiry}
use Rattle.ws_types.specs.Kinds.{when}
use Rattle.ws_sema.specs.Statements.{allocatable_faults}
use Rattle.ws_sema.proofs.NoFaults.{none_first, none_after, not_broken, impossible, left_false, right_false}
use Rattle.kind_laws.proofs.ScopesFound.{allocatables_are_found}
use Rattle.kind_laws.specs.Standing.{Knows}
use Rattle.kind_laws.specs.Found.{Holds, ScopeIsFound}
use Rattle.kind_laws.proofs.Held.{held-first}
use Rattle.form_laws.proofs.Operands.{IsFound}
use Rattle.form_laws.proofs.Walking.{Good, then-good}
use Rattle.form_laws.proofs.Entries.{NamesArray, names-array, allocatable_kind}
use Rattle.form_laws.proofs.References.{Boxed, reference-boxed, bound-good, size-good, is_allocated-good}

-- ---- what it asks

-- the name alone, or with a dimension
abbrev Asks : List Expr → Type 0
Asks es = ((x : Name) × (es ≡ Named x ∷ [])) ⊎ (((x : Name) × (d : ℕ) × (es ≡ Named x ∷ Number d ∷ [])) ⊎ ((x : Name) × (es ≡ Named x ∷ TooWide ∷ [])))

one_name : (es : List Expr) → is_one_name es ≡ true → Asks es
one_name [] h = absurd (false≢true h)
one_name (Named x ∷ []) h = inl (x, refl)
one_name (_ ∷ []) h = absurd (false≢true h)
one_name (x ∷ y ∷ es) h = absurd (false≢true h)

with_number : (x : Name) (d : Expr) → is_digits d ≡ true → Asks (Named x ∷ d ∷ [])
with_number x (Number d) h = inr (inl (x, d, refl))
with_number x TooWide h = inr (inr (x, refl))
with_number x _ h = absurd (false≢true h)

with_dimension : (es : List Expr) → is_with_dimension es ≡ true → Asks es
with_dimension [] h = absurd (false≢true h)
with_dimension (x ∷ []) h = absurd (false≢true h)
with_dimension (Named x ∷ d ∷ []) h = with_number x d h
with_dimension (_ ∷ d ∷ []) h = absurd (false≢true h)
with_dimension (x ∷ d ∷ y ∷ es) h = absurd (false≢true h)

name_or_dimension : (es : List Expr) (a b : Bool) → is_one_name es ≡ a → is_with_dimension es ≡ b → (a || b) ≡ true → Asks es
name_or_dimension es true b one two h = one_name es one
name_or_dimension es false true one two h = with_dimension es two
name_or_dimension es false false one two h = absurd (false≢true h)

asks : (w : CallWord) (es : List Expr) → is_inquiry w ≡ true → takes w es ≡ true → Asks es
unfolding takes
asks word.Size es is h = name_or_dimension es (is_one_name es) (is_with_dimension es) refl refl h
asks word.Lbound es is h = with_dimension es h
asks word.Ubound es is h = with_dimension es h
asks word.Allocated es is h = one_name es h
asks _ es is h = absurd (false≢true is)

-- ---- names that have a type

abbrev HasName : Option Standing → Type 0
HasName st = (ty : Typed) × (name_type st ≡ Some ty)

pub name-typed : (line : ℕ) (st : Option Standing) → name_faults line st ≡ [] → HasName st
unfolding name_faults
name-typed line None f = impossible line refusal.Undeclared (none_first _ _ f)
name-typed line (Some (Declared e)) f = (entry_type e, refl)
name-typed line (Some (Active e)) f = (entry_type e, refl)
name-typed line (Some Index) f = (integer, refl)
name-typed line (Some Barred) f = impossible line refusal.DoVariable (none_after _ _ f)

-- no dimension, or one of the array's
abbrev Within : Option ℕ → ℕ → Type 0
Within None rank = (rank == 0) ≡ false
Within (Some d) rank = (1 ≤ d) × (d ≤ rank)

within_some : (dim : Option ℕ) (rank : ℕ) → Within dim rank → (rank == 0) ≡ false
within_some None rank h = h
within_some (Some d) rank h = grind (arith, h.0, h.1)

named_within : (rank : ℕ) (x : Name) → is_outside rank (Named x ∷ []) ≡ false → Within None rank
named_within rank x h = grind (arith, h)

dimension_within : (rank d : ℕ) (x : Name) → is_outside rank (Named x ∷ Number d ∷ []) ≡ false → Within (Some d) rank
dimension_within rank d x h = (
  (let low : nat_eq d 0 ≡ false = left_false (nat_eq d 0) (nat_lt rank d) h in grind (arith, low)),
  (let high : nat_lt rank d ≡ false = right_false (nat_eq d 0) (nat_lt rank d) h in grind (arith, high)),
)

module _ (vs : List Value) (t : List Row) (s : Scope) (knows : Knows t s) (scope : ScopeIsFound vs s) (line n : ℕ) where
  -- ---- of an array

  bounded : (o : Option BoundWord) (dim : Option ℕ) (r : Operand) (m : ℕ) → IsFound vs r → is_reference (Some r.kind) ≡ true → Within dim (rank_of r.kind) → Good vs (bound_or_size o dim r s m)
  bounded (Some w) None r m found reference h = bound-good vs w 1 r s m found reference (omega arith) (grind (arith, h))
  bounded (Some w) (Some d) r m found reference h = bound-good vs w d r s m found reference h.0 h.1
  bounded None None r m found reference h = size-good vs r s m found reference
  bounded None (Some d) r m found reference h = bound-good vs Extent d r s m found reference h.0 h.1

  array-asked : (x : Name) (ty : Typed) (o : Option BoundWord) (dim : Option ℕ) → NamesArray s.names x ty → Within dim ty.rank → Holds vs n ((reference x >>= bound_or_size o dim) s n).ops → Good vs ((reference x >>= bound_or_size o dim) s n)
  array-asked x ty o dim a h held =
      let first : Boxed vs a.declare (reference x s n) = reference-boxed vs s scope x a.declare n a.is (held-first vs (reference x) (bound_or_size o dim) s n held) in
      let r = (reference x s n).made in
      then-good vs (reference x) (bound_or_size o dim) s n first.fit
      (bounded o dim r _ first.found (ap (λ k. is_reference (Some k)) first.same ∙ a.reference) (subst (Within dim) (sym (ap rank_of first.same ∙ a.of_rank)) h))

  -- ---- of an allocatable

  not_refused : (x : Name) → name_faults line (standing_of t x) ≡ [] → is_no_allocatable (standing_of t x) ≡ false → allocatable_faults line (standing_of t x) ≡ []
  unfolding allocatable_faults when
  not_refused x f is = ap (λ fs. fs ++ when (is_no_allocatable (standing_of t x)) line refusal.NotAllocatable) f ∙ ap (λ b. when b line refusal.NotAllocatable) is

  allocated-asked : (x : Name) → allocatable_faults line (standing_of t x) ≡ [] → Good vs (scoped (λ c. is_allocated (declare_of c.names x)) s n)
  unfolding scoped
  allocated-asked x f =
      let a = allocatables_are_found t s vs line x knows scope f in
      let d = declare_of s.names x in
      is_allocated-good vs d s n (ap kind_of a.3.found) (allocatable_kind a.0 d.kind a.3.fits a.2).0

  asked-by : (b : Bool) (w : CallWord) (x : Name) (dim : Option ℕ) (ty : Typed) → name_faults line (standing_of t x) ≡ [] → name_type (standing_of t x) ≡ Some ty → (b ≡ false → Within dim ty.rank) → (b ≡ true → is_no_allocatable (standing_of t x) ≡ false) →
      Holds vs n ((if b then scoped (λ c. is_allocated (declare_of c.names x)) else (reference x >>= bound_or_size (bound_word w) dim)) s n).ops →
      Good vs ((if b then scoped (λ c. is_allocated (declare_of c.names x)) else (reference x >>= bound_or_size (bound_word w) dim)) s n)
  asked-by true w x dim ty f is h g held = allocated-asked x (not_refused x f (g refl))
  asked-by false w x dim ty f is h g held = array-asked x ty (bound_word w) dim (names-array s x (standing_of t x) ty (knows x) is (within_some dim ty.rank (h refl))) (h refl) held

  -- what the rules say of it
  record Allowed (w : CallWord) (x : Name) (es : List Expr) : Type 0 where
    named : name_faults line (standing_of t x) ≡ []
    type : Typed
    has_type : name_type (standing_of t x) ≡ Some type
    within : is_allocated_word w ≡ false → is_outside type.rank es ≡ false
    allocatable : is_allocated_word w ≡ true → is_no_allocatable (standing_of t x) ≡ false
    narrow : has_wide_dimension es ≡ false

  allowed : (w : CallWord) (x : Name) (es : List Expr) → inquiry_faults line w (standing_of t x) es ≡ [] → Allowed w x es
  unfolding inquiry_faults
  allowed w x es f =
      let named = none_first _ _ (none_first _ _ (none_first _ _ f)) in
      let typed = name-typed line (standing_of t x) named in
      let outside : (not (is_allocated_word w) && is_outside_type (name_type (standing_of t x)) es) ≡ false = not_broken _ _ _ (none_after _ _ (none_first _ _ (none_first _ _ f))) in
      let no_box : (is_allocated_word w && is_no_allocatable (standing_of t x)) ≡ false = not_broken _ _ _ (none_after _ _ (none_first _ _ f)) in
      record {
        named = named;
        type = typed.0;
        has_type = typed.1;
        within = λ is. ap (λ b. not b && is_outside typed.0.rank es) (sym is) ∙ (ap (λ o. not (is_allocated_word w) && is_outside_type o es) (sym typed.1) ∙ outside);
        allocatable = λ is. ap (λ b. b && is_no_allocatable (standing_of t x)) (sym is) ∙ no_box;
        narrow = not_broken _ _ _ (none_after _ _ f);
      }

  asked : (w : CallWord) (es : List Expr) → Asks es → inquiry_faults line w (first_standing t es) es ≡ [] → Holds vs n (inquiry_or_nothing (first_name es) w (dimension_in es) s n).ops → Good vs (inquiry_or_nothing (first_name es) w (dimension_in es) s n)
  asked w es (inl (x, is)) =
      subst (λ l. inquiry_faults line w (first_standing t l) l ≡ [] → Holds vs n (inquiry_or_nothing (first_name l) w (dimension_in l) s n).ops → Good vs (inquiry_or_nothing (first_name l) w (dimension_in l) s n)) (sym is)
      (λ f held. let a = allowed w x (Named x ∷ []) f in asked-by (is_allocated_word w) w x None a.type a.named a.has_type (λ e. named_within a.type.rank x (a.within e)) a.allocatable held)
  asked w es (inr (inl (x, d, is))) =
      subst (λ l. inquiry_faults line w (first_standing t l) l ≡ [] → Holds vs n (inquiry_or_nothing (first_name l) w (dimension_in l) s n).ops → Good vs (inquiry_or_nothing (first_name l) w (dimension_in l) s n)) (sym is)
      (λ f held. let a = allowed w x (Named x ∷ Number d ∷ []) f in asked-by (is_allocated_word w) w x (Some d) a.type a.named a.has_type (λ e. dimension_within a.type.rank d x (a.within e)) a.allocatable held)
  asked w es (inr (inr (x, is))) =
      subst (λ l. inquiry_faults line w (first_standing t l) l ≡ [] → Holds vs n (inquiry_or_nothing (first_name l) w (dimension_in l) s n).ops → Good vs (inquiry_or_nothing (first_name l) w (dimension_in l) s n)) (sym is)
      (λ f held. absurd (true≢false ((allowed w x (Named x ∷ TooWide ∷ []) f).narrow)))

  pub inquiry-good : (w : CallWord) (es : List Expr) → is_inquiry w ≡ true → takes w es ≡ true → inquiry_faults line w (first_standing t es) es ≡ [] → Holds vs n (inquiry w es s n).ops → Good vs (inquiry w es s n)
  unfolding inquiry
  inquiry-good w es is h f held = asked w es (asks w es is h) f held
