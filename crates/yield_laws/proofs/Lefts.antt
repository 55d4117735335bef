-- Left sides: a reference, a place or a section, of the type of the designator; a whole allocatable outside WHERE is its declare.
use Rattle.std.proofs.Common.{◌≡◌, refl, sym, ap, ◌∙◌, subst, ℕ, Bool, true, false, not, ◌&&◌, List, [], All, Option, Some, inl, true≢false, if◌then◌else◌}
use Rattle.std.proofs.lemmas.List.Elements.{All-nil}
use Rattle.ws_base.specs.declared.name.Name.{Name}
use Rattle.ws_tree.specs.declared.expr.Expr.{Expr}
use Rattle.ws_tree.specs.declared.expr.Expr.TheVariants.{TooDeep, Named, Part'}
use Rattle.ws_tree.specs.Grammatical.{IsDesignator}
use Rattle.ws_types.specs.declared.types.Entry.{Entry}
use Rattle.ws_types.specs.declared.types.Row.{Row}
use Rattle.ws_types.specs.declared.types.Standing.{Standing}
use Rattle.ws_types.specs.declared.types.Standing.TheVariants.{Declared}
use Rattle.ws_types.specs.declared.types.Typed.{Typed}
use Rattle.ws_types.specs.Names.{standing_of}
use Rattle.ws_sema.specs.Statements.{left_faults, left_type}
use Rattle.ws_sema.proofs.NoFaults.{none_first, none_after}
use Rattle.hlfir_ops.specs.declared.kinds.ValueKind.{ValueKind}
use Rattle.hlfir_ops.specs.declared.kinds.ValueKind.TheVariants as kind
use Rattle.hlfir_ops.specs.RulesValues.{Value, Source, Declares, Designates, Other, is_declares, is_designates, is_allocatable, is_allocatable_declare}
use Rattle.lower_values.specs.declared.names.Names.{Names}
use Rattle.lower_values.specs.declared.operand.Operand.{Operand}
use Rattle.lower_values.specs.Scopes.{Scope}
use Rattle.lower_values.specs.Lowerings.{done, scoped, giving}
use Rattle.lower_values.specs.References.{variable_of, or_nothing, declare_of, box_of, boxed}
use Rattle.lower_assign.specs.Statements.{whole_left, left_of, is_whole_allocatable}
use Rattle.kind_laws.specs.Standing.{EntryIsKnown, NameIsKnown, Knows}
use Rattle.kind_laws.specs.Found.{Holds, ScopeIsFound, IsLeftOf}
use Rattle.kind_laws.proofs.ScopesKnown.{entry_variable}
use Rattle.kind_laws.proofs.Sides.{sides_are_expressions, IsTarget, target, lefts_are_found}
use Rattle.yield_laws.proofs.Usable.{IsValue, is_solid}
use Rattle.yield_laws.proofs.Names.{fits-solid, walks-boxed}
use Rattle.yield_laws.proofs.Values.{part-steps, walks-subscripts}

-- what is made for a left side, and whether it is an allocatable's declare
pub record IsLeft (vs : List Value) (s : Scope) (by_box : Bool) (l : Expr) (ty : Typed) (x : Operand) : Type 0 where
  pub left : IsLeftOf vs by_box l ty x
  pub declare : is_allocatable_declare (Some left.value) ≡ (not by_box && is_whole_allocatable s.names l)

-- ---- whole variables

box_kind : (k : ValueKind) (d : Operand) (s : Scope) (n : ℕ) → d.kind ≡ k → (box_of k d s n).made.kind ≡ k
unfolding done giving
box_kind (kind.Scalar f) d s n is = is
box_kind (kind.Place f) d s n is = is
box_kind (kind.Declared f shape) d s n is = is
box_kind (kind.Allocatable f rank) d s n is = refl
box_kind (kind.Section f rank) d s n is = is
box_kind (kind.Array f rank) d s n is = is

whole_kind : (b : Bool) (d : Operand) (s : Scope) (n : ℕ) → (whole_left b d s n).made.kind ≡ d.kind
unfolding boxed done
whole_kind true d s n = box_kind d.kind d s n refl
whole_kind false d s n = refl

named_kind : (b : Bool) (x : Name) (s : Scope) (n : ℕ) → (left_of b (Named x) s n).made.kind ≡ (declare_of s.names x).kind
unfolding scoped
named_kind b x s n = whole_kind b (declare_of s.names x) s n

-- a variable that is assigned
assigned : (s : Scope) (x : Name) (o : Option Standing) → NameIsKnown s x o → (is : IsTarget o) → EntryIsKnown false s.names x is.entry
assigned s x o k is = let known : NameIsKnown s x (Some (Declared is.entry)) = subst (NameIsKnown s x) is.declared k in entry_variable is.entry.constant s.names x is.entry is.variable known.1

module _ (vs : List Value) (s : Scope) (scope : ScopeIsFound vs s) (n : ℕ) where
  whole_ops : (b : Bool) (x : Name) (d : Operand) → variable_of s.names.variables x ≡ Some d → is_solid d.kind ≡ true → Holds vs n (whole_left b d s n).ops → All (IsValue vs) (whole_left b d s n).ops
  unfolding done
  whole_ops true x d is solid held = (walks-boxed vs s scope n x d is solid held).0
  whole_ops false x d is solid held = All-nil (IsValue vs)

  named_ops : (b : Bool) (x : Name) (e : Entry) → EntryIsKnown false s.names x e → Holds vs n (left_of b (Named x) s n).ops → All (IsValue vs) (left_of b (Named x) s n).ops
  unfolding scoped
  named_ops b x e h = subst (λ o. Holds vs n (whole_left b (or_nothing o) s n).ops → All (IsValue vs) (whole_left b (or_nothing o) s n).ops) (sym h.1) (whole_ops b x h.0 h.1 (fits-solid e h.0.kind h.2))

-- ---- what gives the left side

boxed_source : (k : ValueKind) (source : Source) → source ≡ (if is_allocatable (Some k) then Other else Declares) → (is_declares source && is_allocatable (Some k)) ≡ false
boxed_source k source is = by (is_allocatable (Some k)) is
  where
    by : (b : Bool) → source ≡ (if b then Other else Declares) → (is_declares source && b) ≡ false
    by true is = ap (λ q. is_declares q && true) is
    by false is = ap (λ q. is_declares q && false) is

whole_declare : (names : Names) (x : Name) (b : Bool) (k : ValueKind) (source : Source) → k ≡ (declare_of names x).kind → source ≡ (if b && is_allocatable (Some k) then Other else Declares) →
    (is_declares source && is_allocatable (Some k)) ≡ (not b && is_whole_allocatable names (Named x))
whole_declare names x true k source same is = boxed_source k source is
whole_declare names x false k source same is = ap (λ q. is_declares q && is_allocatable (Some k)) is ∙ ap (λ q. is_allocatable (Some q)) same

designated_declare : (source : Source) (b c : Bool) → is_designates source ≡ true → (is_declares source && c) ≡ (not b && false)
designated_declare (Designates v) true c is = refl
designated_declare (Designates v) false c is = refl
designated_declare _ b c is = absurd (true≢false (sym is))

-- ---- left sides

module _ (vs : List Value) (t : List Row) (inside : Bool) (line : ℕ) (s : Scope) (knows : Knows t s) (scope : ScopeIsFound vs s) (n : ℕ) where
  left_ops : (l : Expr) → IsDesignator l → left_faults t inside line l ≡ [] → (b : Bool) → Holds vs n (left_of b l s n).ops → All (IsValue vs) (left_of b l s n).ops
  left_ops (Named x) h f b held =
      let o = standing_of t x in
      let is = target line o (none_first _ _ (none_first _ _ f)) (none_after _ _ (none_first _ _ f)) in
      named_ops vs s scope n b x is.entry (assigned s x o (knows x) is) held
  left_ops (Part' x c ss) h f b held =
      let whole = none_first _ _ (none_first _ _ f) in
      (part-steps vs t inside line s knows scope x ss h.1 whole n (λ m r u. walks-subscripts vs t inside line s knows scope r u 1 ss h.2 (none_after _ _ (none_first _ _ whole)) m) held).0
  left_ops TooDeep h f b held = deep f
    where
      deep : {P : Type 0} → left_faults t inside line TooDeep ≡ [] → P
      deep f = absurd (sides_are_expressions t inside line TooDeep (inl refl) (none_first _ _ (none_first _ _ f)))
  left_ops _ h f b held = absurd h

  left_declare : (l : Expr) (b : Bool) (ty : Typed) → IsDesignator l → (h : IsLeftOf vs b l ty (left_of b l s n).made) → is_allocatable_declare (Some h.value) ≡ (not b && is_whole_allocatable s.names l)
  left_declare (Named x) b ty g h =
      ap (λ k. is_declares h.value.source && is_allocatable (Some k)) h.kind ∙ whole_declare s.names x b (left_of b (Named x) s n).made.kind h.value.source (named_kind b x s n) h.source
  left_declare (Part' x c ss) b ty g h = designated_declare h.value.source b (is_allocatable (Some h.value.kind)) h.source
  left_declare TooDeep b ty g h = absurd h.source
  left_declare _ b ty g h = absurd g

  pub walks-left : (l : Expr) → IsDesignator l → (f : left_faults t inside line l ≡ []) → (b : Bool) → Holds vs n (left_of b l s n).ops →
      (ty : Typed) × (left_type t inside l ≡ Some ty) × All (IsValue vs) (left_of b l s n).ops × IsLeft vs s b l ty (left_of b l s n).made
  walks-left l h f b held =
      let found = lefts_are_found t inside line b l s n vs h knows f scope held in
      (found.0, found.1, left_ops l h f b held, record { left = found.2; declare = left_declare l b found.0 h found.2 })
