-- A statement that the grammar gives, and in which no rule is broken, is small.
use Rattle.std.proofs.Common.{◌≡◌, ℕ, true, false, List, [], ◌∷◌, ◌++◌, length, All, Option, Some, None}
use Rattle.std.proofs.lemmas.List.Elements.{All-nil, All-cons, All-head, All-tail}
use mathlib.Core.Former.{Count}
use Rattle.ws_base.specs.declared.refusal.RefusalKind.TheVariants as kind
use Rattle.ws_tree.specs.declared.expr.Expr.{Expr}
use Rattle.ws_tree.specs.declared.stmt.Bound.{Bound}
use Rattle.ws_tree.specs.declared.stmt.Bound.TheVariants as bound
use Rattle.ws_tree.specs.declared.stmt.Index.{Index}
use Rattle.ws_tree.specs.declared.stmt.Part.{Part}
use Rattle.ws_tree.specs.declared.stmt.Stmt.{Stmt}
use Rattle.ws_tree.specs.declared.stmt.Body.{Body}
use Rattle.ws_tree.specs.declared.stmt.Body.TheVariants.{Assign, Masked', Forall', Loop', Allocate, Deallocate, Read, Shared', Unsupported, TooDeep as TooDeep'}
use Rattle.ws_tree.specs.declared.stmt.Else.{Else'}
use Rattle.ws_tree.specs.Trees.{Stmts, end_stmts, more_stmts, Elses, end_elses, more_elses}
use Rattle.ws_tree.specs.Grammatical as grammar
use Rattle.ws_tree.specs.Grammatical.{IsSide, IsDesignator, IsOptional, IsBound, IsIndex, IsPart, IsBody, AreStmts, AreElses}
use Rattle.ws_tree.specs.Grammatical.Within.{anywhere, in_where}
use Rattle.ws_types.specs.declared.types.Row.{Row}
use Rattle.ws_types.specs.Tables.{barred, inner}
use Rattle.ws_sema.specs.declared.within.Within.{Within}
use Rattle.ws_sema.specs.declared.within.Within.TheVariants as within
use Rattle.ws_sema.specs.Statements.{is_inside, is_masked, is_outside, assign_faults, header_faults, forall_mask_faults, items_faults, allocated_bound_faults, allocated_bounds_faults, allocation_faults, allocations_faults, under, mask_rank, else_control, with_active, block_faults, body_faults, elses_faults, stmts_faults}
use Rattle.ws_sema.proofs.Grammar.{no_else, where_parts, forall_parts, loop_parts, shared_parts, allocated_parts, read_parts}
use Rattle.term_eval.specs.Limits.{IsSmall}
use Rattle.small_laws.specs.Small.{IsSmallOption, IsSmallIndex, IsSmallBound, IsSmallPart, IsSmallBody, AreSmallStmts, AreSmallElses, IsSmallStmt}
use Rattle.ws_sema.proofs.NoFaults.{none_first, none_after, not_broken, looked_into, allowed}
use Rattle.small_laws.proofs.SmallExpressions.{side_small, designator_small, option_small}
use Rattle.small_laws.proofs.Tables.{AreFit, inner_fit, active_fit, allocated_shape}

-- ---- headers, bounds and items

indexes_small : (t b : List Row) (line : ℕ) (before is : List Index) → All IsIndex is → header_faults t b line before is ≡ [] → All IsSmallIndex is
indexes_small t b line before [] h f = All-nil IsSmallIndex
indexes_small t b line before (i ∷ is) h f =
    let here = All-head IsIndex i is h in
    let step = none_first _ _ f in
    let upper = none_first _ _ step in
    let lower = none_first _ _ upper in
    All-cons IsSmallIndex i is (
      side_small b false line i.l here.0 (none_first _ _ (none_after _ _ lower)),
      side_small b false line i.u here.1 (none_first _ _ (none_after _ _ upper)),
      option_small b false line i.s here.2 (none_after _ _ step),
    )
    (indexes_small t b line (before ++ i ∷ []) is (All-tail IsIndex i is h) (none_after _ _ f))

test_small : (t : List Row) (line : ℕ) (mask : Option Expr) → IsOptional mask → forall_mask_faults t line mask ≡ [] → IsSmallOption mask
test_small t line None h f = tt
test_small t line (Some e) h f = side_small t true line e h (none_first _ _ f)

bound_small : (t : List Row) (line : ℕ) (b : Bound) → IsBound b → allocated_bound_faults t line b ≡ [] → IsSmallBound b
bound_small t line (bound.Upper u) h f = side_small t false line u h (none_first _ _ f)
bound_small t line (bound.Both l u) h f = (side_small t false line l h.0 (none_first _ _ (none_first _ _ f)), side_small t false line u h.1 (none_first _ _ (none_after _ _ f)))
bound_small t line bound.Deferred h f = tt

bounds_small : (t : List Row) (line : ℕ) (bs : List Bound) → All IsBound bs → allocated_bounds_faults t line bs ≡ [] → All IsSmallBound bs
bounds_small t line [] h f = All-nil IsSmallBound
bounds_small t line (b ∷ bs) h f =
    All-cons IsSmallBound b bs (bound_small t line b (All-head IsBound b bs h) (none_first _ _ f)) (bounds_small t line bs (All-tail IsBound b bs h) (none_after _ _ f))

part_small : (t : List Row) (line : ℕ) (p : Part) → AreFit t → IsPart p → allocation_faults t line p ≡ [] → IsSmallPart p
part_small t line p fit h f =
    let named = none_first _ _ f in
    (allocated_shape t line p.name (length p.shape) fit (none_first _ _ named) (not_broken _ _ _ (none_after _ _ named)), bounds_small t line p.shape h.1 (none_after _ _ f))

parts_small : (t : List Row) (line : ℕ) (ps : List Part) → AreFit t → All IsPart ps → allocations_faults t line ps ≡ [] → All IsSmallPart ps
parts_small t line [] fit h f = All-nil IsSmallPart
parts_small t line (p ∷ ps) fit h f =
    All-cons IsSmallPart p ps (part_small t line p fit (All-head IsPart p ps h) (none_first _ _ f)) (parts_small t line ps fit (All-tail IsPart p ps h) (none_after _ _ f))

items_small : (t : List Row) (line : ℕ) (es : List Expr) → All IsDesignator es → items_faults t line es ≡ [] → All IsSmall es
items_small t line [] h f = All-nil IsSmall
items_small t line (e ∷ es) h f =
    let item = none_first _ _ (none_first _ _ f) in
    All-cons IsSmall e es (designator_small t false line e (All-head IsDesignator e es h) (none_first _ _ (none_first _ _ item))) (items_small t line es (All-tail IsDesignator e es h) (none_after _ _ f))

-- ---- statements

assignment_small : (t : List Row) (w : Within) (line : ℕ) (left right : Expr) → IsDesignator left → IsSide right → assign_faults t w line left right ≡ [] → IsSmall left × IsSmall right
assignment_small t w line left right h g f =
    let sides = none_first _ _ (none_first _ _ f) in
    (designator_small t (is_inside w) line left h (none_first _ _ (none_first _ _ (none_first _ _ sides))), side_small t (is_inside w) line right g (none_after _ _ sides))

mutual
  pub body_small : (k : grammar.Within) (room : ℕ) (t : List Row) (w : Within) (line : ℕ) (body : Body) → AreFit t → IsBody k room line body → body_faults t w line body ≡ [] → IsSmallBody body
  body_small k room t w line (Assign left right) fit h f = assignment_small t w line left right h.0 h.1 f
  body_small k room t w line (Masked' mask c block d rest) fit h f =
      let parts = where_parts k room line mask c block d rest h in
      let inside = looked_into (is_inside w) line kind.Unsupported _ f in
      let test = none_first _ _ inside in (
        side_small t false line mask parts.0 (none_first _ _ (none_first _ _ test)),
        block_small parts.1.place parts.1.room t (under t line mask) block fit parts.1.stands (none_after _ _ test),
        elses_small parts.2.room t line (mask_rank t mask) rest fit parts.2.stands (none_after _ _ inside),
      )
  body_small k room t w line (Forall' is mask c block) fit h f =
      let parts = forall_parts k room line is mask c block h in
      let inside = looked_into (is_masked w) line kind.Unsupported _ f in
      let header = none_first _ _ inside in (
        indexes_small t (barred t is) line [] is parts.0.1 (none_first _ _ header),
        test_small (inner t is) line mask parts.0.2 (none_after _ _ header),
        block_small parts.1.place parts.1.room (inner t is) within.Forall block (inner_fit t is fit) parts.1.stands (none_after _ _ inside),
      )
  body_small k room t w line (Loop' x l u s c block) fit h f =
      let parts = loop_parts k room line x l u s c block h in
      let inside = looked_into (is_masked w) line kind.Unsupported _ f in
      let header = none_first _ _ inside in
      let upper = none_first _ _ header in
      let lower = none_first _ _ upper in (
        side_small t false line l parts.0 (none_first _ _ (none_after _ _ lower)),
        side_small t false line u parts.1 (none_first _ _ (none_after _ _ upper)),
        option_small t false line s parts.2 (none_after _ _ header),
        block_small parts.3.place parts.3.room (with_active t x) w block (active_fit t x w line fit (none_after _ _ (none_first _ _ lower))) parts.3.stands (none_after _ _ inside),
      )
  body_small k room t w line (Allocate ps) fit h f = parts_small t line ps fit (allocated_parts k room line ps h) (none_after _ _ (looked_into (is_masked w) line kind.Unsupported _ f))
  body_small k room t w line (Deallocate xs) fit h f = tt
  body_small k room t w line (Read es) fit h f = items_small t line es (read_parts k room line es h) (none_after _ _ (looked_into (is_masked w) line kind.Unsupported _ f))
  body_small k room t w line (Shared' c block) fit h f =
      let parts = shared_parts k room line c block h in block_small parts.place parts.room t within.Shared block fit parts.stands (allowed (is_outside w) line kind.Unsupported _ f)
  body_small k room t w line Unsupported fit h f = tt
  body_small k room t w line TooDeep' fit h f = tt

  block_small : {m : Count} (k : grammar.Within) (room : ℕ) (t : List Row) (w : Within) (block : Stmts m) → AreFit t → AreStmts k room block → block_faults t w block ≡ [] → AreSmallStmts block
  block_small k room t w end_stmts fit h f = tt
  block_small k room t w (more_stmts line body rest) fit h f = (body_small k room t w line body fit h.0 (none_first _ _ f), block_small k room t w rest fit h.1 (none_after _ _ f))

  elses_small : {m : Count} (room : ℕ) (t : List Row) (line : ℕ) (first : Option ℕ) (es : Elses m) → AreFit t → AreElses room es → elses_faults t line first es ≡ [] → AreSmallElses es
  elses_small room t line first end_elses fit h f = tt
  elses_small room t line first (more_elses (Else' own (Some mask) c block) rest) fit h f =
      let here = none_first _ _ f in (
        side_small t false own mask h.0 (none_first _ _ (none_first _ _ here)),
        block_small in_where room t (else_control t own line first (Some mask)) block fit h.1 (none_after _ _ here),
        elses_small room t line first rest fit h.2 (none_after _ _ f),
      )
  elses_small room t line first (more_elses (Else' own None c block) rest) fit h f =
      (tt, block_small in_where room t (else_control t own line first None) block fit h.0 (none_first _ _ f), elses_small 0 t line first rest fit (no_else rest h.1) (none_after _ _ f))

-- a statement of the program that stands in no construct
abbrev IsOuter : Stmt → Type 0
IsOuter s = IsBody anywhere 64 s.line s.body

pub stmts_small : (t : List Row) (w : Within) (ss : List Stmt) → AreFit t → All IsOuter ss → stmts_faults t w ss ≡ [] → All IsSmallStmt ss
stmts_small t w [] fit h f = All-nil IsSmallStmt
stmts_small t w (s ∷ ss) fit h f =
    All-cons IsSmallStmt s ss (body_small anywhere 64 t w s.line s.body fit (All-head IsOuter s ss h) (none_first _ _ f)) (stmts_small t w ss fit (All-tail IsOuter s ss h) (none_after _ _ f))
