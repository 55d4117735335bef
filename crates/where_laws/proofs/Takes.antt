-- The left side of an assignment in which no rule is broken may take what its right side gives.
use Rattle.std.proofs.Common.{◌≡◌, refl, sym, ap, ◌∙◌, subst, ℕ, ◌<◌, ◌==◌, Bool, true, false, not, ◌&&◌, ◌||◌, List, [], Option, Some, None, Ok, IfOk, ℤ, arith, inl, inr, if◌then◌else◌, true≢false}
use Rattle.std.specs.Prelude.{◌⊎◌, nat_eq, nat_lt}
use Rattle.ws_base.specs.declared.refusal.RefusalKind.TheVariants as kind
use Rattle.ws_base.specs.declared.fault.FaultName.TheVariants.{Unallocated}
use Rattle.ws_base.specs.Outcomes.{Staged, ◌>>=◌, trouble}
use Rattle.ws_space.specs.declared.state.ArrayValue.{ArrayValue}
use Rattle.ws_space.specs.declared.state.VarState.{VarState}
use Rattle.ws_space.specs.declared.state.VarState.TheVariants as state
use Rattle.ws_space.specs.Shapes.{dims}
use Rattle.ws_space.specs.Values.{Name, kept, state_of}
use Rattle.ws_tree.specs.declared.expr.Expr.{Expr}
use Rattle.ws_tree.specs.declared.expr.Expr.TheVariants.{Number, TooWide, Truth, Named, Part', Call', Vector', Paren', Unary', Binary'}
use Rattle.ws_tree.specs.declared.expr.Expr.TheVariants as expr
use Rattle.ws_types.specs.declared.types.Entry.{Entry}
use Rattle.ws_types.specs.declared.types.Row.{Row}
use Rattle.ws_types.specs.declared.types.Typed.{Typed}
use Rattle.ws_types.specs.declared.types.Standing.{Standing}
use Rattle.ws_types.specs.Names.{standing_of, name_type, entry_type, target_type}
use Rattle.ws_types.specs.Expressions.{typed}
use Rattle.ws_sema.specs.declared.within.Within.{Within}
use Rattle.ws_sema.specs.declared.within.Within.TheVariants as within
use Rattle.ws_sema.specs.Statements.{left_faults, left_type, control_faults, sides_faults, is_wrong_right, is_other_rank, is_inside}
use Rattle.ws_sema.proofs.NoFaults.{none_first, none_after, not_broken, left_false}
use Rattle.array_meaning.specs.declared.world.World.{World}
use Rattle.array_meaning.specs.declared.term.Term.{Term}
use Rattle.array_meaning.specs.Stage1.{allocated}
use Rattle.array_meaning.specs.Stage2.{operands}
use Rattle.array_meaning.specs.Assign.{Target, selection, movable, target, target_name}
use Rattle.array_meaning.proofs.LeftSides.{Selects, selects}
use Rattle.hlfir_ops.specs.declared.kinds.Elem.{Elem}
use Rattle.hlfir_ops.specs.declared.kinds.ValueKind.{ValueKind}
use Rattle.hlfir_ops.specs.declared.kinds.ValueKind.TheVariants as value
use Rattle.lower_values.specs.declared.names.Names.{Names}
use Rattle.lower_values.specs.declared.operand.Operand.{Operand}
use Rattle.lower_values.specs.References.{variable_of}
use Rattle.lower_values.specs.Scopes.{Scope}
use Rattle.kind_laws.specs.Standing.{Knows, FitsEntry, NameIsKnown}
use Rattle.kind_laws.proofs.ScopesKnown.{entry_variable}
use Rattle.kind_laws.proofs.Sides as sides
use Rattle.world_laws.specs.Worlds.{FitsNames}
use Rattle.world_laws.proofs.Fitting.{DeclaredAt, state_fits, takes_what_fits}
use Rattle.world_laws.proofs.Filling.{filled_fits}
use Rattle.where_laws.specs.Steps.{MayFill, MayTake}
use Rattle.where_laws.proofs.WhereFacts.{TakesInWhere}
use Rattle.where_laws.proofs.NewShapes.{IsScalar, scalar_or_array}

-- ---- the variable of a left side

pub record LeftKnown (t : List Row) (names : Names) (x : Name) : Type 0 where
  pub entry : Entry
  pub declare : Operand
  pub found : variable_of names.variables x ≡ Some declare
  pub fits : FitsEntry entry declare.kind
  pub type : (o : Option Typed) → target_type (standing_of t x) o ≡ o
  pub named : name_type (standing_of t x) ≡ Some (entry_type entry)

pub target_type-is : (st : Option Standing) (o : Option Typed) → sides.IsTarget st → target_type st o ≡ o
target_type-is st o h = ap (λ p. target_type p o) h.declared ∙ ap (λ b. if b || false then None else o) h.variable

pub left_known : (t : List Row) (s : Scope) (x : Name) → Knows t s → sides.IsTarget (standing_of t x) → LeftKnown t s.names x
left_known t s x knows is =
    let known = subst (NameIsKnown s x) is.declared (knows x) in
    let entry = entry_variable is.entry.constant s.names x is.entry is.variable known.1 in
    record { entry = is.entry; declare = entry.0; found = entry.1; fits = entry.2; type = λ o. target_type-is (standing_of t x) o is; named = ap name_type is.declared }

pub named_known : (t : List Row) (line : ℕ) (s : Scope) (x : Name) → Knows t s → left_faults t false line (Named x) ≡ [] → LeftKnown t s.names x
named_known t line s x knows f = left_known t s x knows (sides.target line (standing_of t x) (none_first _ _ (none_first _ _ f)) (none_after _ _ (none_first _ _ f)))

-- ---- a selection of what the variable holds

module _ (t : List Row) (names : Names) (w : World) (in_where : Bool) (left : Expr) (r : Term) (fits : FitsNames names w) (k : LeftKnown t names (target_name left)) where
  abbrev held : VarState
  held = state_of w.vars (target_name left)

  one : DeclaredAt 0 w.vars (target_name left) k.declare
  one = state_fits names w (target_name left) k.declare fits k.found

  -- where it is no scalar, or all is scalar
  abbrev ScalarAlone : Type 0
  ScalarAlone = IsScalar k.declare.kind held → (in_where ≡ false) × (operands r ≡ [])

  ranks : (a : ArrayValue) → ((a.shape.rank == 0) ≡ false) ⊎ IsScalar k.declare.kind held → ScalarAlone → ((a.shape.rank == 0) ≡ false) ⊎ ((in_where ≡ false) × (operands r ≡ []))
  ranks a (inl h) alone = inl h
  ranks a (inr h) alone = inr (alone h)

  may_fill : (q : Term) → Selects held (selection q) → ScalarAlone → MayFill names w in_where left r q
  may_fill q sel alone = record {
    array = sel.0;
    of = sel.1;
    fits = λ xs. takes_what_fits names w (target_name left) k.declare (kept (dims sel.0.shape) xs) fits k.found (filled_fits k.declare.kind held sel.0 xs one.narrow one.fits sel.2);
    rank = ranks sel.0 (scalar_or_array k.declare.kind held sel.0 one.fits sel.2) alone;
  }

  pub may_take : (right : Expr) (q : Target) → Selects held q → ScalarAlone → MayTake names w in_where left right r q
  may_take right (selection q) sel alone = may_fill q sel alone
  may_take right (movable s) sel alone = absurd sel

pub known_target : (in_where : Bool) (w : World) (left : Expr) (q : Target) (P : Target → Type 0) → target in_where w left ≡ Ok q → IfOk (target in_where w left) P → P q
known_target in_where w left q P is h = let Q : Staged Target → Type 0 = λ x. IfOk x P in subst Q is h

-- ---- in a WHERE

pub entry_rank : (e : Entry) (k : ValueKind) (f : Elem) → FitsEntry e k → k ≡ value.Place f → e.rank ≡ 0
entry_rank e k f h is = (subst (FitsEntry e) is h).1

no_scalar_there : (at rank : ℕ) (ty : Typed) (o : Option Typed) → o ≡ Some ty → control_faults (within.Masked at (Some rank)) o ≡ [] → nat_eq rank 0 ≡ false → ty.rank ≡ 0 → ⊥
unfolding control_faults
no_scalar_there at rank ty o is f some bare =
    let fine : is_other_rank (Some rank) (Some ty) ≡ false = ap (is_other_rank (Some rank)) (sym is) ∙ not_broken (is_other_rank (Some rank) o) at kind.RankWrong f in
    let at_zero : not (nat_eq rank 0) ≡ false = ap (λ n. not (nat_eq rank n)) (sym bare) ∙ fine in
    true≢false (ap not (sym some) ∙ at_zero)

-- a part of a scalar is never reached
pub no_part : (w : World) (s : VarState) (z : ℤ) (f : ArrayValue → Staged Target) (q : Target) → s ≡ state.Scalar z → (allocated s >>= f) ≡ Ok q → ⊥
no_part w s z f q is h =
    let P : Staged Target → Type 0 = λ x. IfOk x (λ _. ⊥) in
    let bad : (allocated (state.Scalar z) >>= f) ≡ Ok q = ap (λ x. allocated x >>= f) (sym is) ∙ h in
    subst P bad tt

part_known : (t : List Row) (line : ℕ) (s : Scope) (left : Expr) (x : Name) → Knows t s → sides.IsTarget (standing_of t x) → target_name left ≡ x → LeftKnown t s.names (target_name left)
part_known t line s left x knows is same = subst (LeftKnown t s.names) (sym same) (left_known t s x knows is)

pub no_target : {P : Type 0} (q : Target) → (let r : Staged Target = trouble Unallocated in r) ≡ Ok q → P
no_target q h = let P : Staged Target → Type 0 = λ x. IfOk x (λ _. ⊥) in absurd (subst P h tt)

pub takes_in_where : TakesInWhere
takes_in_where t line at rank (Named x) right s knows some lf cf w r q fits walked reached =
    let k = named_known t line s x knows lf in
    may_take t s.names w true (Named x) r fits k right q (known_target true w (Named x) q (Selects (state_of w.vars x)) reached (selects true w (Named x) refl))
    (λ sc. absurd (no_scalar_there at rank (entry_type k.entry) (left_type t false (Named x)) (k.type (typed t false (Named x)) ∙ k.named) cf some (entry_rank k.entry k.declare.kind sc.elem k.fits sc.place)))
takes_in_where t line at rank (Part' x i subs) right s knows some lf cf w r q fits walked reached =
    let whole = none_first _ _ (none_first _ _ lf) in
    let k = left_known t s x knows (sides.target line (standing_of t x) (none_first _ _ (none_first _ _ whole)) (none_after _ _ (none_first _ _ lf))) in
    may_take t s.names w true (Part' x i subs) r fits k right q (known_target true w (Part' x i subs) q (Selects (state_of w.vars x)) reached (selects true w (Part' x i subs) refl))
    (λ sc. absurd (no_part w (state_of w.vars x) sc.value _ q sc.state reached))
takes_in_where t line at rank (Number n) right s knows some lf cf w r q fits walked reached = no_target q reached
takes_in_where t line at rank TooWide right s knows some lf cf w r q fits walked reached = no_target q reached
takes_in_where t line at rank expr.TooDeep right s knows some lf cf w r q fits walked reached = no_target q reached
takes_in_where t line at rank (Truth b) right s knows some lf cf w r q fits walked reached = no_target q reached
takes_in_where t line at rank (Call' word i es) right s knows some lf cf w r q fits walked reached = no_target q reached
takes_in_where t line at rank (Vector' i es) right s knows some lf cf w r q fits walked reached = no_target q reached
takes_in_where t line at rank (Paren' i es) right s knows some lf cf w r q fits walked reached = no_target q reached
takes_in_where t line at rank (Unary' op i es) right s knows some lf cf w r q fits walked reached = no_target q reached
takes_in_where t line at rank (Binary' op i es j fs) right s knows some lf cf w r q fits walked reached = no_target q reached

-- ---- outside WHERE

-- a right side with a dimension has the rank of the left side
pub sides_rank : (w : Within) (line : ℕ) (bare : Bool) (a b : Option Typed) (x y : Typed) → a ≡ Some x → b ≡ Some y → sides_faults w line bare a b ≡ [] → (nat_lt 0 y.rank && not (nat_eq x.rank y.rank)) ≡ false
unfolding sides_faults
sides_rank w line bare a b x y is also f =
    ap (λ o. is_wrong_right (Some x) o) (sym also) ∙ (ap (λ o. is_wrong_right o b) (sym is) ∙ left_false (is_wrong_right a b) (is_inside w && bare) (not_broken (is_wrong_right a b || is_inside w && bare) line kind.RankWrong (none_after _ _ f)))

pub same_rank : (m n : ℕ) → (nat_lt 0 n && not (nat_eq m n)) ≡ false → 0 < n → m ≡ n
same_rank m n h low = at (nat_eq m n) refl where
  at : (b : Bool) → nat_eq m n ≡ b → m ≡ n
  at true is = grind (arith, is)
  at false is = let some : nat_lt 0 n ≡ true = grind (arith, low) in absurd (true≢false (sym (ap (λ x. x && not (nat_eq m n)) some ∙ ap not is) ∙ h))
