-- The body of a FORALL holds a mask at most, and then assignments of scalars to elements.
use Rattle.std.proofs.Common.{◌≡◌, refl, sym, ap, ◌∙◌, ℕ, ◌+◌, true, false, not, ◌||◌, ◌&&◌, List, [], ◌∷◌, ◌++◌, map, Option, Some, None, true≢false}
use Rattle.std.specs.Prelude.{⊤}
use Rattle.std.specs.List.{list_all, flat_map}
use Rattle.std.proofs.lemmas.Bool.{and_from, or_right, and_parts}
use mathlib.Core.Former.{Count}
use Rattle.ws_base.specs.declared.refusal.RefusalKind.TheVariants as kind
use Rattle.ws_tree.specs.declared.expr.Expr.{Expr}
use Rattle.ws_tree.specs.declared.expr.Expr.TheVariants.{Number, TooWide, TooDeep, Truth, Named, Part', Call', Vector'}
use Rattle.ws_tree.specs.declared.stmt.Body.{Body}
use Rattle.ws_tree.specs.declared.stmt.Body.TheVariants.{Assign, Masked', Forall', Loop', Allocate, Deallocate, Read, Shared', Unsupported, TooDeep as TooDeep'}
use Rattle.ws_tree.specs.Trees.{Stmts, end_stmts, more_stmts, paren, unary, binary}
use Rattle.ws_tree.specs.Grammatical as grammar
use Rattle.ws_tree.specs.Grammatical.{IsSide, IsOptional, IsDesignator, IsBody, AreStmts}
use Rattle.ws_types.specs.declared.types.Typed.{Typed}
use Rattle.ws_types.specs.declared.types.Row.{Row}
use Rattle.ws_types.specs.Expressions.{typed, faults, wide_faults}
use Rattle.ws_sema.specs.declared.within.Within.TheVariants as within
use Rattle.ws_sema.specs.Statements.{left_faults, left_type, has_no_subscripts, assign_faults, forall_mask_faults, block_faults, body_faults}
use Rattle.ws_sema.proofs.NoFaults.{none_first, none_after, impossible}
use Rattle.hlfir_ops.specs.declared.what.What.TheVariants as what
use Rattle.hlfir_ops.specs.declared.op.Op.{Op, out-Op}
use Rattle.hlfir_ops.specs.Trees.{op_of, region_of}
use Rattle.hlfir_ops.specs.Numbers.{numbers_of, order_of}
use Rattle.hlfir_ops.specs.RulesValues.{Value, is_designate, value_at, elem_of}
use Rattle.hlfir_ops.specs.RulesForms.{section_rank}
use Rattle.hlfir_ops.specs.RulesRegions.{parts_in}
use Rattle.hlfir_ops.specs.RulesStatements.{assigns, is_assign, is_forall_mask, is_forall_body, works_on_scalars, have_rank, fills_element, fills_elements, fits_forall}
use Rattle.kind_laws.specs.Standing.{Knows}
use Rattle.kind_laws.specs.Found.{Holds, ScopeIsFound}
use Rattle.kind_laws.proofs.TypedExpressions.{type_known}
use Rattle.lower_values.specs.declared.operand.Operand.{Operand}
use Rattle.lower_values.specs.declared.operand.Subscript.{Subscript}
use Rattle.lower_values.specs.Scopes.{Scope, inside}
use Rattle.lower_values.specs.Lowerings.{Lowering, done, ◌>>=◌, scoped, acting, regions_from, statement_of}
use Rattle.lower_values.specs.References.{reference, sub_kind, sub_values, part_kind, designated}
use Rattle.lower_values.specs.Values.{value, part_of, subscripts}
use Rattle.lower_assign.specs.Statements.{yielded, left, is_whole_allocatable, assignment}
use Rattle.lower_constructs.specs.Modules.{forall_mask, statement, statements}
use Rattle.place_laws.proofs.Printed.{all-append, parts-op_of}
use Rattle.place_laws.proofs.Lowered.{Makes, makes-then, makes-acting, makes-statement, regions-none, regions-more}
use Rattle.place_laws.proofs.Scalars.{Works, works-op, works-after}
use Rattle.place_laws.proofs.ScalarValues.{works-value, works-part}
use Rattle.kind_laws.proofs.Held.{held-first, held-rest, held-giving, held-statement}
use Rattle.kind_laws.proofs.Sides.{sides_are_expressions}
use Rattle.kind_laws.proofs.ScopesKnown.{inside_known}
use Rattle.kind_laws.proofs.ScopesFound.{inside_found}
use Rattle.place_laws.proofs.Yields.{first-yield, second-yield, value-kind, one_rank}
use Rattle.place_laws.proofs.MaskFacts.{left-known, left-designates, scalar-sides, scalar-mask}
use Rattle.place_laws.proofs.Sorts.{forall_block}

-- ---- left sides that have subscripts

-- what an element's place makes is a designate
part-designate : (vs : List Value) (x : List ℕ) (ss : Operand → Lowering (List Subscript)) (s : Scope) (n : ℕ) → Holds vs n (part_of x ss s n).ops → is_designate (value_at vs (part_of x ss s n).made.value) ≡ true
unfolding part_of designated ◌>>=◌
part-designate vs x ss s n h =
    let first = reference x s n in
    let r = first.made in
    let m = n + numbers_of first.ops in
    let subs = ss r s m in
    let j = m + numbers_of subs.ops in
    let w = what.Designate (map sub_kind subs.made) in
    let operands = r.value ∷ flat_map sub_values subs.made in
    let k = part_kind (elem_of r.kind) (section_rank (map sub_kind subs.made)) in
    let rest = held-rest vs (reference x) (λ r. ss r >>= designated r) s n h in
    let last = held-rest vs (ss r) (designated r) s m rest in
    ap is_designate (held-giving vs w operands k s j last)

-- a part of an array on the left, which is all that FORALL assigns
abbrev IsPartOf : Expr → Type 0
IsPartOf (Part' x _ subs) = Unit {0}
IsPartOf _ = ⊥

is_part : (t : List Row) (line : ℕ) (l : Expr) → left_faults t true line l ≡ [] → has_no_subscripts l ≡ false → IsPartOf l
unfolding wide_faults
is_part t line (Named x) f bare = absurd (true≢false bare)
is_part t line (Part' x _ subs) f bare = tt
is_part t line TooDeep f bare = impossible line kind.OverLimit (none_first _ _ (none_first _ _ f))
is_part t line (Number n) f bare = absurd (true≢false (sym (left-designates t true line (Number n) f)))
is_part t line TooWide f bare = absurd (true≢false (sym (left-designates t true line TooWide f)))
is_part t line (Truth b) f bare = absurd (true≢false (sym (left-designates t true line (Truth b) f)))
is_part t line (Call' w c es) f bare = absurd (true≢false (sym (left-designates t true line (Call' w c es) f)))
is_part t line (Vector' c es) f bare = absurd (true≢false (sym (left-designates t true line (Vector' c es) f)))
is_part t line (paren e) f bare = absurd (true≢false (sym (left-designates t true line (paren e) f)))
is_part t line (unary op e) f bare = absurd (true≢false (sym (left-designates t true line (unary op e) f)))
is_part t line (binary op a b) f bare = absurd (true≢false (sym (left-designates t true line (binary op a b) f)))

left-designate : (vs : List Value) (l : Expr) (s : Scope) (n : ℕ) → IsPartOf l → Holds vs n (left l s n).ops → is_designate (value_at vs (left l s n).made.value) ≡ true
unfolding left scoped
left-designate vs (Part' x c subs) s n is h = part-designate vs x (λ r. subscripts r 1 subs) s n h
left-designate vs _ s n is h = absurd is

left-works : (t : List Row) (line : ℕ) (l : Expr) (ty : Typed) (s : Scope) → IsPartOf l → IsDesignator l → Knows t s → faults t true line l ≡ [] → typed t true l ≡ Some ty → ty.rank ≡ 0 → Works s (left l)
unfolding left scoped
left-works t line (Part' x c subs) ty s is g k f h z = works-part t line s k x subs ty g.2 f h z
left-works t line _ ty s is g k f h z = absurd is

-- ---- one assignment

module _ (vs : List Value) where
  -- it assigns a scalar to an element, by ops on scalars
  pub record FillsElements (p : Lowering ⊤) (s : Scope) (n : ℕ) : Type 0 where
    pub works : Makes works_on_scalars p s n
    pub fills : list_all (fills_elements vs) (p s n).ops ≡ true

  yield-works : (p : Lowering Operand) (s : Scope) → Works s p → Works s (yielded p)
  yield-works p s h = works-after s p (λ x. acting what.Yield (x.value ∷ [])) h (λ x n. makes-acting works_on_scalars s n what.Yield (x.value ∷ []) (works-op what.Yield s.line (x.value ∷ []) None [] refl))

  scalar-assignment : (t : List Row) (line : ℕ) (l e : Expr) (s : Scope) (n : ℕ) → IsDesignator l → IsSide e → assign_faults t within.Forall line l e ≡ [] → Knows t s → ScopeIsFound vs s → Holds vs n (assignment line l e s n).ops →
      FillsElements (assignment line l e) s n
  unfolding assignment scoped statement_of
  scalar-assignment t line l e s n g a f k there h =
      let w = what.Assign (not s.masked && is_whole_allocatable s.names l) in
      let p = yielded (value e) in
      let q = yielded (left l) in
      let no_left = none_first (left_faults t true line l) (faults t true line e) (none_first _ _ (none_first _ _ f)) in
      let no_right = none_after (left_faults t true line l) (faults t true line e) (none_first _ _ (none_first _ _ f)) in
      let sides = scalar-sides line (has_no_subscripts l) (left_type t true l) (typed t true e) (none_after _ _ (none_first _ _ f)) in
      let left_is = left-known t true line l no_left in
      let part = is_part t line l no_left sides.part in
      let right = type_known t true line e no_right in
      let right_zero = sides.right right.0 right.1 in
      let regions = held-statement vs w line [] (p ∷ q ∷ []) s n h in
      let c = inside w line 0 (n + 0) s in
      let i = (n + 0) + 0 in
      let m = (n + 0) + (0 + numbers_of (p c i).ops) in
      let d = inside w line 1 m s in
      let j = m + 0 in
      let after = regions.2 in
      let rs = regions_from w line 0 (n + 0) (p ∷ q ∷ []) s in
      let known_c = inside_known t s w line 0 (n + 0) refl k in
      let known_d = inside_known t s w line 1 m refl k in
      let has = value-kind vs t true line e c i right.0 a known_c no_right right.1 (inside_found vs s w line 0 (n + 0) regions.0 there) regions.1 in
      let designates = left-designate vs l d j part (held-first vs (left l) (λ x. acting what.Yield (x.value ∷ [])) d j after.1) in
      let lefts : list_all (λ v. is_designate (value_at vs v)) (parts_in rs 1) ≡ true =
      ap (list_all (λ v. is_designate (value_at vs v))) (second-yield (left l) d j (region_of (p c i).ops) []) ∙ and_from (is_designate (value_at vs (left l d j).made.value)) true designates refl in
      let rights : have_rank vs 0 (parts_in rs 0) ≡ true = one_rank vs 0 (value e c i).made.value (parts_in rs 0) has.kind (first-yield (value e) c i (region_of (q d j).ops ∷ [])) has.found (has.type.rank ∙ right_zero) in
      let op = op_of w line [] None rs in
      record {
        works = makes-statement works_on_scalars s n w line [] (p ∷ q ∷ []) (works-op w line [] None rs refl)
            (regions-more works_on_scalars s (n + 0) w line 0 p (q ∷ []) (yield-works (value e) c (works-value t line c known_c e right.0 (sides_are_expressions t true line e a no_right) no_right right.1 right_zero) i)
            (regions-more works_on_scalars s m w line 1 q []
            (yield-works (left l) d (left-works t line l left_is.type d part g known_d (none_first _ _ (none_first _ _ no_left)) left_is.typed (sides.left left_is.type left_is.left)) j)
            (regions-none works_on_scalars s (m + (0 + numbers_of (q d j).ops)) w line 2)));
        fills = and_from (fills_elements vs op) true
            (ap (λ f. fills_element vs f.what f.regions) (parts-op_of w line [] None rs) ∙ and_from (list_all (λ v. is_designate (value_at vs v)) (parts_in rs 1)) (have_rank vs 0 (parts_in rs 0)) lefts rights) refl;
      }

  -- ---- the body

  elements-then : (p q : Lowering ⊤) (s : Scope) (n : ℕ) → FillsElements p s n → FillsElements q s (n + numbers_of (p s n).ops) → FillsElements (p >>= (λ _. q)) s n
  unfolding ◌>>=◌
  elements-then p q s n h g =
      let rest = (q s (n + numbers_of (p s n).ops)).ops in
      record { works = makes-then works_on_scalars s n p (λ _. q) h.works g.works; fills = all-append (fills_elements vs) (p s n).ops rest h.fills g.fills }

  elements-done : (s : Scope) (n : ℕ) → FillsElements (done tt) s n
  unfolding done
  elements-done s n = record { works = refl; fills = refl }

  body-elements : (place : grammar.Within) (room : ℕ) (t : List Row) (line : ℕ) (body : Body) (s : Scope) (n : ℕ) → IsBody place room line body → body_faults t within.Forall line body ≡ [] → Knows t s → ScopeIsFound vs s → Holds vs n (statement line body s n).ops →
      FillsElements (statement line body) s n
  body-elements place room t line (Assign l e) s n g f k there h = scalar-assignment t line l e s n g.0 g.1 f k there h
  body-elements place room t line (Masked' mask c block d rest) s n g f k there h = impossible line kind.Unsupported f
  body-elements place room t line (Forall' is mask c block) s n g f k there h = impossible line kind.Unsupported f
  body-elements place room t line (Loop' x l u st c block) s n g f k there h = impossible line kind.Unsupported f
  body-elements place room t line (Allocate ps) s n g f k there h = impossible line kind.Unsupported f
  body-elements place room t line (Deallocate xs) s n g f k there h = impossible line kind.Unsupported f
  body-elements place room t line (Read es) s n g f k there h = impossible line kind.Unsupported f
  body-elements place room t line (Shared' c block) s n g f k there h = impossible line kind.Unsupported f
  body-elements place room t line Unsupported s n g f k there h = impossible line kind.Unsupported f
  body-elements place room t line TooDeep' s n g f k there h = impossible line kind.OverLimit f

  block-elements : {m : Count} (place : grammar.Within) (room : ℕ) (t : List Row) (block : Stmts m) (s : Scope) (n : ℕ) → AreStmts place room block → block_faults t within.Forall block ≡ [] → Knows t s → ScopeIsFound vs s → Holds vs n (statements block s n).ops →
      FillsElements (statements block) s n
  block-elements place room t end_stmts s n g f k there h = elements-done s n
  block-elements place room t (more_stmts line body rest) s n g f k there h =
      elements-then (statement line body) (statements rest) s n
      (body-elements place room t line body s n g.0 (none_first (body_faults t within.Forall line body) (block_faults t within.Forall rest) f) k there (held-first vs (statement line body) (λ _. statements rest) s n h))
      (block-elements place room t rest s (n + numbers_of (statement line body s n).ops) g.1 (none_after (body_faults t within.Forall line body) (block_faults t within.Forall rest) f) k there (held-rest vs (statement line body) (λ _. statements rest) s n h))

  mask-elements : (t : List Row) (line : ℕ) (mask : Option Expr) (s : Scope) (n : ℕ) → IsOptional mask → forall_mask_faults t line mask ≡ [] → Knows t s → FillsElements (forall_mask mask) s n
  unfolding forall_mask scoped statement_of
  mask-elements t line None s n g f k = elements-done s n
  mask-elements t line (Some e) s n g f k =
      let w = what.ForallMask in
      let p = yielded (value e) in
      let no_mask = none_first _ _ f in
      let type = type_known t true line e no_mask in
      let c = inside w s.line 0 (n + 0) s in
      let i = (n + 0) + 0 in
      let known_c = inside_known t s w s.line 0 (n + 0) refl k in
      let rs = regions_from w s.line 0 (n + 0) (p ∷ []) s in
      record {
        works = makes-statement works_on_scalars s n w s.line [] (p ∷ []) (works-op w s.line [] None rs refl)
            (regions-more works_on_scalars s (n + 0) w s.line 0 p []
            (yield-works (value e) c (works-value t line c known_c e type.0 (sides_are_expressions t true line e g no_mask) no_mask type.1 (scalar-mask line (typed t true e) type.0 type.1 (none_after _ _ f))) i)
            (regions-none works_on_scalars s ((n + 0) + (0 + numbers_of (p c i).ops)) w s.line 1));
        fills = and_from (fills_elements vs (op_of w s.line [] None rs)) true (ap (λ f. fills_element vs f.what f.regions) (parts-op_of w s.line [] None rs)) refl;
      }

assignments_alone : (ops : List Op) → list_all assigns ops ≡ true → is_forall_body ops ≡ true
assignments_alone [] h = refl
assignments_alone (op ∷ ops) h = ap (λ b. b && list_all assigns ops) (or_right (is_forall_mask (out-Op op).what) (assigns op) ((and_parts (assigns op) (list_all assigns ops) h).0)) ∙ (and_parts (assigns op) (list_all assigns ops) h).1

-- a mask at most, and then assignments
one_mask : (mask : Option Expr) (s : Scope) (n : ℕ) (ops : List Op) → list_all assigns ops ≡ true → is_forall_body ((forall_mask mask s n).ops ++ ops) ≡ true
unfolding forall_mask scoped statement_of done
one_mask None s n ops h = assignments_alone ops h
one_mask (Some e) s n ops h =
    let rs = regions_from what.ForallMask s.line 0 (n + 0) (yielded (value e) ∷ []) s in
    ap (λ f. (is_forall_mask f.what || is_assign f.what) && list_all assigns ops) (parts-op_of what.ForallMask s.line [] None rs) ∙ h

pub forall-fits : {m : Count} (vs : List Value) (place : grammar.Within) (room : ℕ) (t : List Row) (line : ℕ) (mask : Option Expr) (block : Stmts m) (s : Scope) (n : ℕ) → IsOptional mask → AreStmts place room block →
    forall_mask_faults t line mask ≡ [] → block_faults t within.Forall block ≡ [] → Knows t s → ScopeIsFound vs s → Holds vs n ((forall_mask mask >>= (λ _. statements block)) s n).ops →
    fits_forall vs ((forall_mask mask >>= (λ _. statements block)) s n).ops ≡ true
unfolding ◌>>=◌
forall-fits vs place room t line mask block s n g a f inner k there h =
    let ops = ((forall_mask mask >>= (λ _. statements block)) s n).ops in
    let m = n + numbers_of (forall_mask mask s n).ops in
    let fills = elements-then vs (forall_mask mask) (statements block) s n (mask-elements vs t line mask s n g f k)
    (block-elements vs place room t block s m a inner k there (held-rest vs (forall_mask mask) (λ _. statements block) s n h)) in
    and_from (is_forall_body ops && list_all works_on_scalars (order_of ops)) (list_all (fills_elements vs) ops)
    (and_from (is_forall_body ops) (list_all works_on_scalars (order_of ops)) (one_mask mask s n (statements block s m).ops (forall_block t block inner s m)) fills.works) fills.fills
