-- Statements that hold no others are right.
use Rattle.std.proofs.Common.{◌≡◌, refl, sym, ap, ◌∙◌, ℕ, ◌+◌, ◌*◌, ◌%◌, ◌==◌, nat_lt, Bool, true, false, not, ◌&&◌, List, [], ◌∷◌, ◌++◌, length, All, Some, None}
use Rattle.std.specs.Prelude.{⊤}
use Rattle.std.proofs.Math.Nat.{mul-mod_left}
use Rattle.std.proofs.lemmas.List.Elements.{All-nil, All-cons, All-from_recursion}
use Rattle.std.proofs.lemmas.Bool.{and_from}
use Rattle.ws_base.specs.declared.name.Name.{Name}
use Rattle.ws_tree.specs.declared.expr.Expr.{Expr}
use Rattle.ws_tree.specs.declared.stmt.Part.{Part}
use Rattle.ws_tree.specs.Grammatical.{IsSide, IsDesignator, IsPart}
use Rattle.ws_types.specs.declared.types.Row.{Row}
use Rattle.ws_types.specs.declared.types.Typed.{Typed}
use Rattle.ws_types.specs.Expressions.{typed, faults}
use Rattle.ws_sema.specs.declared.within.Within.{Within}
use Rattle.ws_sema.specs.Statements.{is_inside, left_faults, left_type, types_differ, is_wrong_right, has_no_subscripts, sides_faults, assign_faults, item_faults, items_faults, allocation_faults, allocations_faults}
use Rattle.ws_sema.proofs.NoFaults.{none_first, none_after, not_broken, left_false, right_false}
use Rattle.hlfir_ops.specs.declared.what.What.TheVariants as what
use Rattle.hlfir_ops.specs.declared.op.Op.{Op}
use Rattle.hlfir_ops.specs.declared.op.ValueId.{ValueId}
use Rattle.hlfir_ops.specs.Trees.{op_of, region_of}
use Rattle.hlfir_ops.specs.Numbers.{names_in}
use Rattle.hlfir_ops.specs.RulesValues.{Value, value_at, kind_of, is_target, is_allocatable_declare, is_vector_designate}
use Rattle.hlfir_ops.specs.RulesRegions.{parts, first_value, first_kind, yields_pairs, yields_item}
use Rattle.hlfir_ops.specs.Rules.{yields_of, sides_of, realloc_of}
use Rattle.lower_values.specs.declared.operand.Operand.{Operand}
use Rattle.lower_values.specs.Scopes.{Scope, inside}
use Rattle.lower_values.specs.Lowerings.{statement_of}
use Rattle.lower_values.specs.References.{declare_of}
use Rattle.lower_values.specs.Values.{value}
use Rattle.lower_assign.specs.Statements.{yielded, all_yielded, left_of, left, item, is_whole_allocatable, assignment, all_bounds, allocation, deallocation, reading, each_item}
use Rattle.kind_laws.specs.Standing.{Knows}
use Rattle.kind_laws.specs.Found.{ScopeIsFound}
use Rattle.kind_laws.proofs.TypedExpressions.{types_are_known}
use Rattle.kind_laws.proofs.Sides.{sides_are_expressions}
use Rattle.yield_laws.proofs.Right.{IsRight, op-right}
use Rattle.kind_laws.proofs.Ends.{ops_in-first}
use Rattle.kind_laws.proofs.Faultless.{each_faultless}
use Rattle.kind_laws.proofs.ScopesMoved.{knows-moved, found-moved}
use Rattle.yield_laws.proofs.Regions.{no-regions, more-regions, region-reached}
use Rattle.yield_laws.proofs.Usable.{IsValue, plain-right}
use Rattle.yield_laws.proofs.Walking.{Walks, walks-scoped}
use Rattle.yield_laws.proofs.Typed.{IsOfType, walks-typed}
use Rattle.yield_laws.proofs.Yielded.{IsYielding, one-yielded, all-yielded, one-of, integers-yielded, yielded-reached}
use Rattle.yield_laws.proofs.Lefts.{IsLeft, walks-left}
use Rattle.yield_laws.proofs.Headers.{AreIntegers, walks-bounds}
use Rattle.yield_laws.proofs.Items.{IsNoVector, item-no-vector}
use Rattle.yield_laws.proofs.Scopes.{IsWithin}
use Rattle.yield_laws.proofs.Assignments.{bare_whole, no_realloc, sides_fit, assign-right}
use Rattle.yield_laws.proofs.Holders.{region_ops, next_region, first_inside, AnyMade, IsStatement, Statement, no-region, one-region, two-regions, in-turn}

module _ (vs : List Value) (t : List Row) (w : Within) (line : ℕ) (s : Scope) (knows : Knows t s) (scope : ScopeIsFound vs s) (m : Bool) where
  -- ---- assignment

  module _ (l r : Expr) (hl : IsDesignator l) (hr : IsSide r) (f : assign_faults t w line l r ≡ []) where
    sides_first : left_faults t (is_inside w) line l ++ faults t (is_inside w) line r ++ sides_faults w line (has_no_subscripts l) (left_type t (is_inside w) l) (typed t (is_inside w) r) ≡ []
    sides_first = none_first _ _ f

    right_none : faults t (is_inside w) line r ≡ []
    right_none = none_after _ _ (none_first _ _ sides_first)

    left_all : left_faults t (is_inside w) line l ≡ []
    left_all = none_first _ _ (none_first _ _ sides_first)

    bare_none : (is_inside w && has_no_subscripts l) ≡ false
    unfolding sides_faults
    bare_none = right_false _ _ (not_broken _ _ _ (none_after _ _ (none_after _ _ sides_first)))

    rank_none : is_wrong_right (left_type t (is_inside w) l) (typed t (is_inside w) r) ≡ false
    unfolding sides_faults
    rank_none = left_false _ _ (not_broken _ _ _ (none_after _ _ (none_after _ _ sides_first)))

    type_none : types_differ (left_type t (is_inside w) l) (typed t (is_inside w) r) ≡ false
    unfolding sides_faults
    type_none = not_broken _ _ _ (none_after _ _ (none_first _ _ (none_after _ _ sides_first)))

    -- what the left side makes in its region
    record IsLeftSide (s2 : Scope) (x : Operand) : Type 0 where
      type : Typed
      same : left_type t (is_inside w) l ≡ Some type
      left : IsLeft vs s2 s.masked l type x

    walks_left_at : (k : ℕ) →
        let a = what.Assign (not s.masked && is_whole_allocatable s.names l) in
        Walks vs (IsValue vs) (inside a line 1 k s) (k + length (names_in a 1)) (left l) (IsLeftSide (inside a line 1 k s))
    unfolding left
    walks_left_at k =
        let a = what.Assign (not s.masked && is_whole_allocatable s.names l) in
        let s2 = inside a line 1 k s in
        let j = k + length (names_in a 1) in
        walks-scoped vs (IsValue vs) s2 j (λ c. left_of c.masked l) (IsLeftSide s2)
        (λ held.
        let walked = walks-left vs t (is_inside w) line s2 (knows-moved t s s.masked line knows) (found-moved vs s s.masked line scope) j l hl left_all s.masked held in
        (walked.2, record { type = walked.0; same = walked.1; left = walked.3 }))

    pub walks-assignment : IsWithin w s m → (n : ℕ) → Statement vs m s n (assignment line l r)
    unfolding assignment
    walks-assignment within n =
        let realloc = not s.masked && is_whole_allocatable s.names l in
        let a = what.Assign realloc in
        let p = yielded (value r) in
        let q = yielded (left l) in
        let k = next_region a line 0 (first_inside n) p s in
        let s1 = inside a line 0 (first_inside n) s in
        let s2 = inside a line 1 k s in
        let rt = types_are_known t (is_inside w) line r right_none in
        walks-scoped vs (IsStatement vs m) s n (λ c. statement_of (what.Assign (not c.masked && is_whole_allocatable c.names l)) line [] (yielded (value r) ∷ yielded (left l) ∷ [])) AnyMade
        (two-regions vs m s n a line [] p q refl
        (λ held1 _ held2.
        let right = one-yielded vs s1 (first_inside n + length (names_in a 0)) (value r) (IsOfType vs rt.0)
        (walks-typed vs t (is_inside w) line s1 (knows-moved t s s.masked line knows) (found-moved vs s s.masked line scope) r (sides_are_expressions t (is_inside w) line r hr right_none) right_none (first_inside n + length (names_in a 0))) held1 in
        let lefts = one-yielded vs s2 (k + length (names_in a 1)) (left l) (IsLeftSide s2) (walks_left_at k) held2 in
        let lt = lefts.passes.type in
        let left_is = lefts.passes.same in
        let y = lefts.passes.left.left in
        assign-right vs m realloc line None (region_ops a line 0 (first_inside n) p s) (region_ops a line 1 k q s) right.made lefts.made right.yielding lefts.yielding right.passes.usable right.passes.type.value
        y.value y.found y.kind y.target lefts.passes.left.declare
        (no_realloc w m s.masked (is_whole_allocatable s.names l) within.around within.masked (λ is. bare_whole s.names l (sym (ap (λ b. b && has_no_subscripts l) is) ∙ bare_none)))
        (sides_fit lt rt.0 lefts.made.kind right.made.kind y.elem y.rank right.passes.type.elem right.passes.type.rank
        (ap (λ o. types_differ o (Some rt.0)) (sym left_is) ∙ (ap (types_differ (left_type t (is_inside w) l)) (sym rt.1) ∙ type_none))
        (ap (λ o. is_wrong_right o (Some rt.0)) (sym left_is) ∙ (ap (is_wrong_right (left_type t (is_inside w) l)) (sym rt.1) ∙ rank_none)))))

  -- ---- ALLOCATE and DEALLOCATE

  pairs_many : (n : ℕ) (k : ℕ) → k ≡ n * 2 → (k % 2 == 0) ≡ true
  pairs_many n k is = ap (λ j. j % 2 == 0) is ∙ ap (λ j. j == 0) (mul-mod_left n 2)

  allocmem_right : (also : Bool) (os : List ValueId) (ops : List Op) (n : ℕ) (made : List ValueId) → IsYielding vs ops made → AreIntegers vs (n * 2) made → IsRight vs m (op_of (what.Allocmem also) line os None (region_of ops ∷ []))
  unfolding yields_of sides_of realloc_of
  allocmem_right also os ops n made y h =
      op-right vs m (what.Allocmem also) line os None (region_of ops ∷ [])
      (record {
        other = refl;
        yields = ap (yields_pairs vs) (ops_in-first ops []) ∙ and_from _ _ (integers-yielded y h.integers) (ap (λ l. length l % 2 == 0) y.parts ∙ pairs_many n (length made) h.many);
        sides = refl;
        realloc = refl;
        uses = refl;
        judged = and_from _ true (region-reached vs ops (yielded-reached y h.reached)) refl;
      })
      (more-regions vs m ops [] (y.right m) (no-regions vs m))

  walks-allocation : (also : Bool) (p : Part) → IsPart p → allocation_faults t line p ≡ [] → (n : ℕ) → Statement vs m s n (allocation line also p)
  unfolding allocation
  walks-allocation also p h f n =
      let w = what.Allocmem also in
      let os = (declare_of s.names p.name).value ∷ [] in
      let k = first_inside n in
      let s1 = inside w line 0 k s in
      walks-scoped vs (IsStatement vs m) s n (λ c. statement_of (what.Allocmem also) line ((declare_of c.names p.name).value ∷ []) (all_yielded (all_bounds p.shape) ∷ [])) AnyMade
      (one-region vs m s n w line os (all_yielded (all_bounds p.shape)) refl
      (λ held.
      let all = all-yielded vs s1 (k + length (names_in w 0)) (all_bounds p.shape) (AreIntegers vs (length p.shape * 2))
      (walks-bounds vs t line s1 (knows-moved t s s.masked line knows) (found-moved vs s s.masked line scope) p.shape h.1 (none_after _ _ f) (k + length (names_in w 0))) held in
      allocmem_right also os (region_ops w line 0 k (all_yielded (all_bounds p.shape)) s) (length p.shape) all.made all.yielding all.passes))

  walks-deallocation : (also : Bool) (x : Name) (n : ℕ) → Statement vs m s n (deallocation line also x)
  unfolding deallocation
  walks-deallocation also x n =
      walks-scoped vs (IsStatement vs m) s n (λ c. statement_of (what.Freemem also) line ((declare_of c.names x).value ∷ []) []) AnyMade
      (no-region vs m s n (what.Freemem also) line ((declare_of s.names x).value ∷ []) refl (plain-right vs m (what.Freemem also) line ((declare_of s.names x).value ∷ []) None refl refl))

  -- ---- READ

  read_right : (also : Bool) (ops : List Op) (x : Operand) → IsYielding vs ops (x.value ∷ []) → (v : Value) → value_at vs x.value ≡ Some v → v.kind ≡ x.kind → is_target (Some x.kind) ≡ true → is_allocatable_declare (Some v) ≡ false → IsNoVector vs x →
      IsRight vs m (op_of (what.Read also) line [] None (region_of ops ∷ []))
  unfolding yields_of sides_of realloc_of
  read_right also ops x y v found same target declare no_vector =
      let kind : first_kind vs (parts ops) ≡ Some x.kind = ap (first_kind vs) y.parts ∙ (ap kind_of found ∙ ap Some same) in
      op-right vs m (what.Read also) line [] None (region_of ops ∷ [])
      (record {
        other = refl;
        yields = ap (yields_item vs) (ops_in-first ops []) ∙ and_from _ _ (and_from _ _ (one-of y) (ap is_target kind ∙ target)) (ap (λ l. not (is_vector_designate (first_value vs l))) y.parts ∙ ap not no_vector);
        sides = refl;
        realloc = refl;
        uses = refl;
        judged = and_from _ true (region-reached vs ops (yielded-reached y (and_from _ true (ap not (ap is_allocatable_declare found ∙ declare)) refl))) refl;
      })
      (more-regions vs m ops [] (y.right m) (no-regions vs m))

  -- what is made for an item
  record IsItem (c : Scope) (e : Expr) (x : Operand) : Type 0 where
    type : Typed
    left : IsLeft vs c true e type x
    single : IsNoVector vs x

  walks-reading : (also : Bool) (e : Expr) → IsDesignator e → item_faults t line e ≡ [] → (n : ℕ) → Statement vs m s n (reading line also e)
  unfolding reading
  walks-reading also e h f n =
      let w = what.Read also in
      let k = first_inside n in
      let j = k + length (names_in w 0) in
      let s1 = inside w line 0 k s in
      let lefts = none_first _ _ f in
      let known = knows-moved t s s.masked line knows in
      let found = found-moved vs s s.masked line scope in
      one-region vs m s n w line [] (yielded (item e)) refl
      (λ held.
      let one = one-yielded vs s1 j (item e) (IsItem s1 e)
      (λ inner.
      let walked = walks-left vs t false line s1 known found j e h lefts true inner in
      let single = item-no-vector vs t line s1 known found j e walked.0 h (none_first _ _ (none_first _ _ lefts)) (not_broken _ _ _ (none_after _ _ f)) walked.3.left inner in
      (walked.2, record { type = walked.0; left = walked.3; single = single })) held in
      let l = one.passes.left.left in
      read_right also (region_ops w line 0 k (yielded (item e)) s) one.made one.yielding l.value l.found l.kind l.target one.passes.left.declare one.passes.single)

  -- ---- the items of a statement

  all_names : (xs : List Name) → All (λ _. ⊤) xs
  all_names [] = All-nil (λ _. ⊤)
  all_names (x ∷ xs) = All-cons (λ _. ⊤) x xs tt (all_names xs)

  pub walks-allocations : (ps : List Part) → All IsPart ps → allocations_faults t line ps ≡ [] → (n : ℕ) → Statement vs m s n (each_item (allocation line) ps)
  walks-allocations ps h f n = in-turn vs m s (λ p. IsPart p × (allocation_faults t line p ≡ [])) (λ k. allocation line (nat_lt 0 k)) ps (All-from_recursion (λ p. IsPart p × (allocation_faults t line p ≡ [])) ps (each_faultless IsPart (allocation_faults t line) ps h f)) (λ k p g j. walks-allocation (nat_lt 0 k) p g.0 g.1 j) 0 n

  pub walks-deallocations : (xs : List Name) (n : ℕ) → Statement vs m s n (each_item (deallocation line) xs)
  walks-deallocations xs n = in-turn vs m s (λ _. ⊤) (λ k. deallocation line (nat_lt 0 k)) xs (all_names xs) (λ k x g j. walks-deallocation (nat_lt 0 k) x j) 0 n

  pub walks-readings : (es : List Expr) → All IsDesignator es → items_faults t line es ≡ [] → (n : ℕ) → Statement vs m s n (each_item (reading line) es)
  walks-readings es h f n = in-turn vs m s (λ e. IsDesignator e × (item_faults t line e ≡ [])) (λ k. reading line (nat_lt 0 k)) es (All-from_recursion (λ e. IsDesignator e × (item_faults t line e ≡ [])) es (each_faultless IsDesignator (item_faults t line) es h f)) (λ k e g j. walks-reading (nat_lt 0 k) e g.0 g.1 j) 0 n
