-- Outside WHERE a left side may change its shape.
use Rattle.std.proofs.Common.{◌≡◌, refl, sym, ap, ◌∙◌, subst, ℕ, ◌<◌, ◌≤◌, ◌==◌, Bool, true, false, not, ◌&&◌, List, [], ◌∷◌, length, Some, Ok, ℤ, arith, true≢false}
use Rattle.std.specs.Prelude.{nat_eq, nat_lt}
use Rattle.std.proofs.lemmas.List.Elements.{All-head}
use Rattle.ws_base.specs.Outcomes.{Staged, ◌>>=◌}
use Rattle.ws_space.specs.declared.state.VarState.{VarState}
use Rattle.ws_space.specs.Shapes.{Extents, agreed}
use Rattle.ws_space.specs.Values.{Name, state_of}
use Rattle.ws_space.specs.Replace.{moved, moved_shape, has_extents}
use Rattle.ws_tree.specs.declared.expr.Expr.{Expr}
use Rattle.ws_tree.specs.declared.expr.Expr.TheVariants.{Number, TooWide, Truth, Named, Part', Call', Vector', Paren', Unary', Binary'}
use Rattle.ws_tree.specs.declared.expr.Expr.TheVariants as expr
use Rattle.ws_types.specs.declared.types.Entry.{Entry}
use Rattle.ws_types.specs.declared.types.Row.{Row}
use Rattle.ws_types.specs.declared.types.Typed.{Typed}
use Rattle.ws_types.specs.Names.{standing_of, entry_type}
use Rattle.ws_types.specs.Expressions.{typed, faults}
use Rattle.ws_sema.specs.declared.within.Within.{Within}
use Rattle.ws_sema.specs.Statements.{left_faults, left_type, sides_faults}
use Rattle.ws_sema.proofs.NoFaults.{none_first, none_after}
use Rattle.array_meaning.specs.declared.world.World.{World}
use Rattle.array_meaning.specs.declared.term.Term.{Term}
use Rattle.array_meaning.specs.Stage1.{walk}
use Rattle.array_meaning.specs.Stage2.{operands}
use Rattle.array_meaning.specs.Assign.{Target, movable, target, whole_target, is_name_in, new_bounds}
use Rattle.array_meaning.proofs.LeftSides.{Selects, selects}
use Rattle.hlfir_ops.specs.declared.kinds.Elem.{Elem}
use Rattle.hlfir_ops.specs.declared.kinds.ValueKind.{ValueKind}
use Rattle.hlfir_ops.specs.declared.kinds.ValueKind.TheVariants as value
use Rattle.hlfir_ops.specs.RulesValues.{is_allocatable, rank_of}
use Rattle.lower_values.specs.References.{or_nothing}
use Rattle.lower_values.specs.Scopes.{Scope}
use Rattle.kind_laws.specs.Standing.{Knows, FitsEntry}
use Rattle.kind_laws.proofs.Sides as sides
use Rattle.kind_laws.proofs.TypedExpressions.{types_are_known}
use Rattle.world_laws.specs.Worlds.{FitsNames}
use Rattle.value_laws.specs.Variables.{Fits}
use Rattle.world_laws.proofs.Fitting.{DeclaredAt, state_fits, takes_what_fits}
use Rattle.where_laws.proofs.Places.{HaveShape}
use Rattle.where_laws.specs.Steps.{MayMove, MayTake, TakesWell}
use Rattle.where_laws.specs.Laws.{HaveRank}
use Rattle.where_laws.proofs.Bounds.{bounds_length}
use Rattle.where_laws.proofs.Targets.{moved_conform}
use Rattle.where_laws.proofs.TermsRanked.{terms_ranked}
use Rattle.where_laws.proofs.Takes.{LeftKnown, left_known, named_known, may_take, known_target, entry_rank, no_part, no_target, sides_rank, same_rank}
use Rattle.where_laws.proofs.NewShapes.{moved_fits, bare_keeps}

-- nothing has a dimension where the left side is a scalar
none_ranked : (left rank : ℕ) (es : List Extents) → left ≡ 0 → (nat_lt 0 rank && not (nat_eq left rank)) ≡ false → HaveRank rank es → es ≡ []
none_ranked left rank [] is f h = refl
none_ranked left rank (e ∷ es) is f h =
    let some = (All-head (λ e. (length e ≡ rank) × (0 < rank)) e es h).1 in
    let same = same_rank left rank f some in
    absurd (omega (arith, is, some, same))

-- ---- a new shape

module _ (w : World) (right : Expr) (r : Term) (entry : Entry) (ty : Typed) (agree : (nat_lt 0 ty.rank && not (nat_eq entry.rank ty.rank)) ≡ false) (walked : walk w right ≡ Ok r) (have : HaveRank ty.rank (operands r))
    (held : VarState) (e : Extents) (xs : List ℤ) (shape : (agreed (operands r) >>= moved_shape (operands r) held) ≡ Ok e) where
  module _ (f : Elem) (rank : ℕ) (fits : Fits (value.Allocatable f rank) held) (same : rank ≡ entry.rank) where
    new_length : (os : List Extents) → operands r ≡ os → has_extents held e ≡ false → length (new_bounds w right e) ≡ rank
    new_length [] is other =
        let bare : moved_shape [] held [] ≡ Ok e = subst (λ l. (agreed l >>= moved_shape l held) ≡ Ok e) is shape in
        absurd (true≢false (sym (bare_keeps f rank held e fits bare) ∙ other))
    new_length (o ∷ os) is other =
        let ranked = All-head (λ x. (length x ≡ ty.rank) × (0 < ty.rank)) o os (subst (HaveRank ty.rank) is have) in
        let conform = subst (HaveShape e) is (moved_conform (operands r) held e (agreed (operands r)) refl shape) in
        let here : o ≡ e = All-head (λ x. x ≡ e) o os conform in
        bounds_length r o os e is here w right walked ∙ (ap length (sym here) ∙ (ranked.0 ∙ (sym (same_rank entry.rank ty.rank agree ranked.1) ∙ sym same)))

    moved_allocatable : 0 < entry.rank → rank ≤ 3 → Fits (value.Allocatable f rank) (moved (new_bounds w right e) held e xs)
    moved_allocatable low few =
        let some : (rank == 0) ≡ false = grind (arith, same, low) in
        moved_fits f rank xs some few (new_bounds w right e) held e fits (λ other. new_length (operands r) refl other)

  moved_kind : (k : ValueKind) → is_allocatable (Some k) ≡ true → FitsEntry entry k → Fits k held → rank_of k ≤ 3 → Fits k (moved (new_bounds w right e) held e xs)
  moved_kind (value.Allocatable f rank) is h fits few = moved_allocatable f rank fits h.1 h.2 few
  moved_kind (value.Declared f s) is h fits few = absurd (true≢false (sym is))
  moved_kind (value.Place f) is h fits few = absurd (true≢false (sym is))
  moved_kind (value.Scalar f) is h fits few = absurd (true≢false (sym is))
  moved_kind (value.Section f rank) is h fits few = absurd (true≢false (sym is))
  moved_kind (value.Array f rank) is h fits few = absurd (true≢false (sym is))

-- ---- each left side

module _ (t : List Row) (line : ℕ) (within : Within) (right : Expr) (s : Scope) (knows : Knows t s) (no_index : s.indexes ≡ []) (fine : faults t false line right ≡ []) where
  right_type : Typed
  right_type = (types_are_known t false line right fine).0

  right_typed : typed t false right ≡ Some right_type
  unfolding right_type
  right_typed = (types_are_known t false line right fine).1

  module _ (x : Name) (lf : left_faults t false line (Named x) ≡ []) (bare : Bool) (sf : sides_faults within line bare (left_type t false (Named x)) (typed t false right) ≡ [])
      (w : World) (r : Term) (q : Target) (fits : FitsNames s.names w) (walked : walk w right ≡ Ok r) (reached : target false w (Named x) ≡ Ok q) where
    known : LeftKnown t s.names x
    known = named_known t line s x knows lf

    agree : (nat_lt 0 right_type.rank && not (nat_eq known.entry.rank right_type.rank)) ≡ false
    agree = sides_rank within line bare (left_type t false (Named x)) (typed t false right) (entry_type known.entry) right_type (known.type (typed t false (Named x)) ∙ known.named) right_typed sf

    have : HaveRank right_type.rank (operands r)
    have = terms_ranked t line right s w right_type r knows no_index fits fine right_typed walked

    abbrev held : VarState
    held = state_of w.vars x

    one : DeclaredAt 0 w.vars x known.declare
    one = state_fits s.names w x known.declare fits known.found

    may_move : is_allocatable (Some known.declare.kind) ≡ true → MayMove s.names w false (Named x) right r held
    may_move alloc = record {
      outside = refl;
      fits = λ e xs shape. takes_what_fits s.names w x known.declare (moved (new_bounds w right e) held e xs) fits known.found
          (moved_kind w right r known.entry right_type agree walked have held e xs shape known.declare.kind alloc known.fits one.fits one.narrow);
    }

    allocatable : is_name_in w.allocatables x ≡ true → is_allocatable (Some known.declare.kind) ≡ true
    allocatable named = sym (ap (λ o. is_allocatable (Some (or_nothing o).kind)) known.found) ∙ (sym (fits.allocatables x) ∙ named)

    named_takes : (b : Bool) → is_name_in w.allocatables x ≡ b → MayTake s.names w false (Named x) right r q
    named_takes false still =
        may_take t s.names w false (Named x) r fits known right q (known_target false w (Named x) q (Selects held) reached (selects false w (Named x) still))
        (λ sc. (refl, none_ranked known.entry.rank right_type.rank (operands r) (entry_rank known.entry known.declare.kind sc.elem known.fits sc.place) agree have))
    named_takes true named =
        let there : (let o : Staged Target = Ok (movable held) in o) ≡ Ok q = sym (ap (λ b. whole_target b held) named) ∙ reached in
        let same : movable held ≡ q = cc in
        subst (MayTake s.names w false (Named x) right r) same (may_move (allocatable named))

  pub takes_outside : (left : Expr) → left_faults t false line left ≡ [] → (bare : Bool) → sides_faults within line bare (left_type t false left) (typed t false right) ≡ [] → TakesWell s.names false left right
  takes_outside (Named x) lf bare sf w r q fits walked reached = named_takes x lf bare sf w r q fits walked reached (is_name_in w.allocatables x) refl
  takes_outside (Part' x i subs) lf bare sf w r q fits walked reached =
      let whole = none_first _ _ (none_first _ _ lf) in
      let k = left_known t s x knows (sides.target line (standing_of t x) (none_first _ _ (none_first _ _ whole)) (none_after _ _ (none_first _ _ lf))) in
      may_take t s.names w false (Part' x i subs) r fits k right q (known_target false w (Part' x i subs) q (Selects (state_of w.vars x)) reached (selects false w (Part' x i subs) refl))
      (λ sc. absurd (no_part w (state_of w.vars x) sc.value _ q sc.state reached))
  takes_outside (Number n) lf bare sf w r q fits walked reached = no_target q reached
  takes_outside TooWide lf bare sf w r q fits walked reached = no_target q reached
  takes_outside expr.TooDeep lf bare sf w r q fits walked reached = no_target q reached
  takes_outside (Truth b) lf bare sf w r q fits walked reached = no_target q reached
  takes_outside (Call' word i es) lf bare sf w r q fits walked reached = no_target q reached
  takes_outside (Vector' i es) lf bare sf w r q fits walked reached = no_target q reached
  takes_outside (Paren' i es) lf bare sf w r q fits walked reached = no_target q reached
  takes_outside (Unary' op i es) lf bare sf w r q fits walked reached = no_target q reached
  takes_outside (Binary' op i es j fs) lf bare sf w r q fits walked reached = no_target q reached
