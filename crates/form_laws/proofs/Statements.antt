-- The statements that hold no others.
use Rattle.std.proofs.Common.{◌≡◌, refl, sym, ap, ◌∙◌, ℕ, ◌+◌, ◌*◌, ◌%◌, ◌==◌, Bool, true, false, not, ◌&&◌, ◌||◌, nat_eq, List, [], ◌∷◌, ◌++◌, length, All, Option, Some, None, IfSome, pos, arith}
use Rattle.std.proofs.lemmas.Bool.{true≢false, and_from, or_right}
use Rattle.std.proofs.lemmas.List.Elements.{All-head, All-tail}
use Rattle.ws_base.specs.declared.name.Name.{Name}
use Rattle.ws_base.specs.declared.refusal.RefusalKind.TheVariants as refusal
use Rattle.ws_tree.specs.declared.expr.Expr.{Expr}
use Rattle.ws_tree.specs.declared.stmt.Bound.{Bound}
use Rattle.ws_tree.specs.declared.stmt.Bound.TheVariants as bounds
use Rattle.ws_tree.specs.declared.stmt.Part.{Part}
use Rattle.ws_tree.specs.Grammatical.{IsSide, IsDesignator, IsBound, IsPart}
use Rattle.ws_types.specs.declared.types.Row.{Row}
use Rattle.ws_types.specs.declared.types.Standing.{Standing}
use Rattle.ws_types.specs.declared.types.Standing.TheVariants.{Declared, Active, Index, Barred}
use Rattle.ws_types.specs.Expressions.{faults}
use Rattle.ws_types.specs.declared.types.Entry.{Entry}
use Rattle.ws_types.specs.Names.{standing_of, name_type, entry_type}
use Rattle.ws_sema.specs.Statements.{is_other_bounds, allocatable_faults, allocated_bound_faults, allocated_bounds_faults, allocation_faults, item_faults}
use Rattle.ws_sema.proofs.NoFaults.{none_first, none_after, not_broken, impossible}
use Rattle.hlfir_ops.specs.declared.kinds.Elem.TheVariants.{I32}
use Rattle.hlfir_ops.specs.declared.what.What.{What}
use Rattle.hlfir_ops.specs.declared.what.What.TheVariants as what
use Rattle.hlfir_ops.specs.declared.op.Region.{out-Region, out-roll-Region}
use Rattle.hlfir_ops.specs.Trees.{region_of}
use Rattle.hlfir_ops.specs.Numbers.{numbers_of}
use Rattle.hlfir_ops.specs.RulesValues.{Value, Declares, value_at, rank_of, is_allocatable, is_allocatable_declare}
use Rattle.hlfir_ops.specs.RulesRegions.{parts}
use Rattle.hlfir_ops.specs.RulesForms.{has_pairs}
use Rattle.lower_values.specs.declared.operand.Operand.{Operand}
use Rattle.lower_values.specs.Scopes.{Scope, inside}
use Rattle.lower_values.specs.Lowerings.{Lowering, done, ◌>>=◌, statement_of}
use Rattle.lower_values.specs.Operations.{constant}
use Rattle.lower_values.specs.References.{declare_of}
use Rattle.lower_values.specs.Values.{value}
use Rattle.lower_assign.specs.Statements.{yielded, all_yielded, left, item, is_whole_allocatable, assignment, bounds_of, all_bounds, allocation, deallocation, reading}
use Rattle.small_laws.proofs.Tables as tables
use Rattle.kind_laws.proofs.TypeFacts.{same_type, no_type}
use Rattle.kind_laws.proofs.ScopesFound.{allocatables_are_found}
use Rattle.kind_laws.proofs.Ends.{parts-all_yielded}
use Rattle.form_laws.proofs.Entries.{allocatable_kind}
use Rattle.form_laws.proofs.Stages.{Stage, stage-region}
use Rattle.form_laws.proofs.Regions.{Walks, walks-done, walks-then, walks-scoped, walks-yielded, walks-all_yielded, walks-statement}
use Rattle.form_laws.proofs.Sides.{walks-side, walks-one, walks-left, walks-left_of}

-- ---- bounds

bounds-long : (s : Scope) (n : ℕ) (t : List Row) (line : ℕ) (bs : List Bound) → allocated_bounds_faults t line bs ≡ [] → length (all_bounds bs s n).made ≡ length bs * 2
unfolding all_bounds bounds_of ◌>>=◌ done
bounds-long s n t line [] f = refl
bounds-long s n t line (bounds.Upper u ∷ bs) f = let more = bounds-long s (n + numbers_of (bounds_of (bounds.Upper u) s n).ops) t line bs (none_after (allocated_bound_faults t line (bounds.Upper u)) (allocated_bounds_faults t line bs) f) in omega (arith, more)
bounds-long s n t line (bounds.Both l u ∷ bs) f = let more = bounds-long s (n + numbers_of (bounds_of (bounds.Both l u) s n).ops) t line bs (none_after (allocated_bound_faults t line (bounds.Both l u)) (allocated_bounds_faults t line bs) f) in omega (arith, more)
bounds-long s n t line (bounds.Deferred ∷ bs) f = impossible line refusal.NotAllocatable (none_first _ _ f)

-- the rank of an allocatable is that of its bounds
same_rank : (allocatable : Bool) (rank count : ℕ) → not allocatable ≡ false → (allocatable && not (nat_eq rank count)) ≡ false → rank ≡ count
same_rank true rank count h e = grind (arith, e)
same_rank false rank count h e = absurd (true≢false h)

allocated_rank : (line : ℕ) (st : Option Standing) (e : Entry) (count : ℕ) → IfSome st tables.IsFit → allocatable_faults line st ≡ [] → name_type st ≡ Some (entry_type e) → is_other_bounds st count ≡ false → e.rank ≡ count
unfolding allocatable_faults
allocated_rank line None e count h f is g = no_type (entry_type e) is
allocated_rank line (Some (Declared d)) e count h f is g = ap (λ ty. ty.rank) (sym (same_type (entry_type d) (entry_type e) is)) ∙ same_rank d.allocatable d.rank count (not_broken _ _ _ (none_after _ _ f)) g
allocated_rank line (Some (Active d)) e count h f is g = absurd (true≢false (ap not (sym h) ∙ not_broken _ _ _ (none_after _ _ f)))
allocated_rank line (Some Index) e count h f is g = absurd (true≢false (not_broken _ _ _ (none_after _ _ f)))
allocated_rank line (Some Barred) e count h f is g = no_type (entry_type e) is

paired : (n rank : ℕ) → n ≡ rank * 2 → (not (n % 2 == 0) || n == rank * 2) ≡ true
paired n rank h = let same : (n == rank * 2) ≡ true = grind (arith, h) in or_right (not (n % 2 == 0)) (n == rank * 2) same

module _ (vs : List Value) (t : List Row) (s : Scope) (h : Stage vs t s) where
  -- ---- assignment

  pub walks-assignment : (in_forall : Bool) (line : ℕ) (l r : Expr) → IsDesignator l → IsSide r → faults t in_forall line l ≡ [] → faults t in_forall line r ≡ [] → Walks vs s (assignment line l r)
  unfolding assignment
  walks-assignment in_forall line l r g k f e =
      let w : What = what.Assign (not s.masked && is_whole_allocatable s.names l) in
      walks-scoped vs s (λ c. statement_of (what.Assign (not c.masked && is_whole_allocatable c.names l)) line [] (yielded (value r) ∷ yielded (left l) ∷ []))
      (walks-statement vs w line [] (yielded (value r) ∷ yielded (left l) ∷ []) s refl (λ n. refl) (
        (λ m names. let c = inside w line 0 m s in walks-yielded vs c (value r) (walks-side vs t c (stage-region vs t s h w line 0 m refl names) in_forall line r k e)),
        ((λ m names. let c = inside w line 1 m s in walks-yielded vs c (left l) (walks-left vs t c (stage-region vs t s h w line 1 m refl names) in_forall line l g f)), tt),
      ))

  -- ---- ALLOCATE and DEALLOCATE

  module _ (line : ℕ) (x : Name) (f : allocatable_faults line (standing_of t x) ≡ []) where
    abbrev declare : Operand
    declare = declare_of s.names x

    declare_value : (e : Entry) × (name_type (standing_of t x) ≡ Some (entry_type e)) × (value_at vs declare.value ≡ Some (record { kind = declare.kind; source = Declares })) × (is_allocatable (Some declare.kind) ≡ true) × (rank_of declare.kind ≡ e.rank)
    declare_value =
        let a = allocatables_are_found t s vs line x h.knows h.scope f in
        let k = allocatable_kind a.0 declare.kind a.3.fits a.2 in
        (a.0, a.1, a.3.found, k.0, k.1)

    is_declare : is_allocatable_declare (value_at vs declare.value) ≡ true
    is_declare = ap is_allocatable_declare declare_value.2 ∙ declare_value.3

    pub walks-deallocation : (also : Bool) → Walks vs s (deallocation line also x)
    unfolding deallocation
    walks-deallocation also =
        walks-scoped vs s (λ c. statement_of (what.Freemem also) line ((declare_of c.names x).value ∷ []) [])
        (walks-statement vs (what.Freemem also) line ((declare_of s.names x).value ∷ []) [] s refl (λ n. and_from (is_allocatable_declare (value_at vs (declare_of s.names x).value)) true is_declare refl) tt)

    pairs : (count n : ℕ) → is_other_bounds (standing_of t x) count ≡ false → n ≡ count * 2 → has_pairs (value_at vs declare.value) n ≡ true
    pairs count n g is =
        let rank = declare_value.4 ∙ allocated_rank line (standing_of t x) declare_value.0 count (tables.standing_fit t x h.fit) f declare_value.1 g in
        ap (λ v. has_pairs v n) declare_value.2 ∙ paired n (rank_of declare.kind) (is ∙ ap (λ r. r * 2) (sym rank))

  bound-walks : (c : Scope) → Stage vs t c → (line : ℕ) (b : Bound) → IsBound b → allocated_bound_faults t line b ≡ [] → Walks vs c (bounds_of b)
  unfolding bounds_of
  bound-walks c k line (bounds.Upper u) g f =
      walks-then vs c (constant I32 (pos 1)) (λ x. value u >>= (λ y. done (x.value ∷ y.value ∷ []))) (walks-one vs t c k false line)
      (λ x. walks-then vs c (value u) (λ y. done (x.value ∷ y.value ∷ [])) (walks-side vs t c k false line u g (none_first _ _ f)) (λ y. walks-done vs c (x.value ∷ y.value ∷ [])))
  bound-walks c k line (bounds.Both l u) g f =
      walks-then vs c (value l) (λ x. value u >>= (λ y. done (x.value ∷ y.value ∷ []))) (walks-side vs t c k false line l g.0 (none_first _ _ (none_first _ _ f)))
      (λ x. walks-then vs c (value u) (λ y. done (x.value ∷ y.value ∷ [])) (walks-side vs t c k false line u g.1 (none_first _ _ (none_after _ _ f))) (λ y. walks-done vs c (x.value ∷ y.value ∷ [])))
  bound-walks c k line bounds.Deferred g f = walks-done vs c []

  bounds-walk : (c : Scope) → Stage vs t c → (line : ℕ) (bs : List Bound) → All IsBound bs → allocated_bounds_faults t line bs ≡ [] → Walks vs c (all_bounds bs)
  unfolding all_bounds
  bounds-walk c k line [] g f = walks-done vs c []
  bounds-walk c k line (b ∷ bs) g f =
      walks-then vs c (bounds_of b) (λ us. all_bounds bs >>= (λ ws. done (us ++ ws))) (bound-walks c k line b (All-head IsBound b bs g) (none_first _ _ f))
      (λ us. walks-then vs c (all_bounds bs) (λ ws. done (us ++ ws)) (bounds-walk c k line bs (All-tail IsBound b bs g) (none_after _ _ f)) (λ ws. walks-done vs c (us ++ ws)))

  pub walks-allocation : (line : ℕ) (also : Bool) (p : Part) → IsPart p → allocation_faults t line p ≡ [] → Walks vs s (allocation line also p)
  unfolding allocation
  walks-allocation line also p g f =
      let named = none_first _ _ (none_first _ _ f) in
      let w : What = what.Allocmem also in
      let region : Lowering _ = all_yielded (all_bounds p.shape) in
      let declare = (declare_of s.names p.name).value in
      walks-scoped vs s (λ c. statement_of w line ((declare_of c.names p.name).value ∷ []) (region ∷ []))
      (walks-statement vs w line (declare ∷ []) (region ∷ []) s refl
      (λ n.
      let c = inside w line 0 n s in
      let ops = (region c (n + 0)).ops in
      let many : length (parts (out-Region (region_of ops)).ops) ≡ length p.shape * 2 =
      ap (λ r. length (parts r.ops)) (out-roll-Region (record { ops = ops })) ∙ (ap length (parts-all_yielded (all_bounds p.shape) c (n + 0)) ∙ bounds-long c (n + 0) t line p.shape (none_after _ _ f)) in
      and_from (is_allocatable_declare (value_at vs declare) && has_pairs (value_at vs declare) (length (parts (out-Region (region_of ops)).ops))) true
      (and_from (is_allocatable_declare (value_at vs declare)) (has_pairs (value_at vs declare) (length (parts (out-Region (region_of ops)).ops))) (is_declare line p.name named) (pairs line p.name named (length p.shape) (length (parts (out-Region (region_of ops)).ops)) (not_broken _ _ _ (none_after _ _ (none_first _ _ f))) many)) refl) (
        (λ m names. let c = inside w line 0 m s in walks-all_yielded vs c (all_bounds p.shape) (bounds-walk c (stage-region vs t s h w line 0 m refl names) line p.shape g.1 (none_after _ _ f))),
        tt,
      ))

  -- ---- READ

  pub walks-reading : (line : ℕ) (also : Bool) (e : Expr) → IsDesignator e → item_faults t line e ≡ [] → Walks vs s (reading line also e)
  unfolding reading
  walks-reading line also e g f =
      let w : What = what.Read also in
      walks-statement vs w line [] (yielded (item e) ∷ []) s refl (λ n. refl) (
        (λ m names. let c = inside w line 0 m s in walks-yielded vs c (item e) (walks-left_of vs t c (stage-region vs t s h w line 0 m refl names) false line true e g (none_first _ _ (none_first _ _ (none_first _ _ f))))),
        tt,
      )
