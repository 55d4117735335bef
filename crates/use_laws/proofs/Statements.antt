-- Left sides, regions that yield, and the statements that hold no others.
use Rattle.std.proofs.Common.{◌≡◌, refl, sym, ap, subst, ℕ, suc, ◌+◌, Bool, true, false, List, [], ◌∷◌, ◌++◌, pos, arith}
use Rattle.std.specs.Prelude.{⊤, not, nat_lt, ◌&&◌, if◌then◌else◌}
use Rattle.ws_types.specs.Kinds.{when}
use Rattle.std.specs.List.{AllByRecursion, flat_map}
use Rattle.ws_base.specs.declared.name.Name.{Name}
use Rattle.ws_base.specs.declared.refusal.Refusal.{Refusal}
use Rattle.ws_base.specs.declared.refusal.RefusalKind.TheVariants as kind
use Rattle.ws_tree.specs.declared.expr.Expr.{Expr}
use Rattle.ws_tree.specs.declared.expr.Expr.TheVariants.{TooDeep, Named, Part'}
use Rattle.ws_tree.specs.declared.stmt.Bound.{Bound}
use Rattle.ws_tree.specs.declared.stmt.Bound.TheVariants as bounds
use Rattle.ws_tree.specs.declared.stmt.Part.{Part}
use Rattle.ws_tree.specs.declared.stmt.Body.{Body}
use Rattle.ws_tree.specs.declared.stmt.Body.TheVariants.{Assign, Allocate, Deallocate, Read}
use Rattle.ws_types.specs.declared.types.Row.{Row}
use Rattle.ws_types.specs.Names.{standing_of}
use Rattle.ws_types.specs.Expressions.{wide_faults}
use Rattle.ws_sema.specs.declared.within.Within.{Within}
use Rattle.ws_sema.specs.Statements.{is_inside, is_masked, left_faults, item_faults, assign_faults, allocation_faults, deallocation_faults, serial_faults, serial_parts, body_faults}
use Rattle.ws_sema.proofs.NoFaults.{none_first, none_after, broken, looked_into}
use Rattle.hlfir_ops.specs.declared.kinds.Elem.TheVariants.{I32}
use Rattle.hlfir_ops.specs.declared.what.What.TheVariants as what
use Rattle.hlfir_ops.specs.declared.op.ValueId.{ValueId}
use Rattle.lower_values.specs.declared.operand.Operand.{Operand}
use Rattle.lower_values.specs.Scopes.{Scope}
use Rattle.lower_values.specs.Lowerings.{Lowering, done, ◌>>=◌, ◌>>◌, in_turn, acting, statement_of}
use Rattle.lower_values.specs.Operations.{constant}
use Rattle.lower_values.specs.References.{nothing, declare_of}
use Rattle.lower_values.specs.Values.{value, subscripts}
use Rattle.lower_assign.specs.Statements.{yielded, all_yielded, whole_left, left_of, left, item, is_whole_allocatable, assignment, bounds_of, all_bounds, allocation, deallocation, reading, plain}
use Rattle.use_laws.proofs.Counting.{hits, hits-append, hit-other}
use Rattle.use_laws.proofs.Defined.{AllIn, numbers, all-both, all-grown}
use Rattle.use_laws.proofs.Standing.{HasNoVariables, IsFree, Stands, stands-grown, declare-free, zero-free}
use Rattle.use_laws.proofs.Walking.{Lowers, of_operand, nothing_held, lowers-done, lowers-then, lowers-scoped, lowers-acting}
use Rattle.use_laws.proofs.Holding.{IsRegion, lowers-statement}
use Rattle.use_laws.proofs.Operations.{lowers-constant}
use Rattle.use_laws.proofs.References.{lowers-boxed}
use Rattle.use_laws.proofs.Values.{IsClean, numbers-append, part_of-lowers, lowers-value, lowers-subscripts}
use Rattle.use_laws.proofs.Clean.{no-target, no-allocatable}

-- ---- in a source without variables there is nothing to assign or allocate

pub no-left : (t : List Row) (inside : Bool) (line : ℕ) (e : Expr) → HasNoVariables t → left_faults t inside line e ≡ [] → ⊥
unfolding wide_faults
no-left t inside line (Named x) none f = let sides = none_first _ _ f in no-target line (standing_of t x) (none.each x) (none_first _ _ sides) (none_after _ _ sides)
no-left t inside line (Part' x c subs) none f =
    let sides = none_first _ _ f in no-target line (standing_of t x) (none.each x) (none_first _ _ (none_first _ _ (none_first _ _ sides))) (none_after _ _ sides)
no-left t inside line TooDeep none f = broken true line kind.OverLimit refl (none_first _ _ (none_first _ _ f))
no-left t inside line _ none f = broken true line kind.Unsupported refl (none_after _ _ f)

no-assign : (t : List Row) (w : Within) (line : ℕ) (l r : Expr) → HasNoVariables t → assign_faults t w line l r ≡ [] → ⊥
no-assign t w line l r none f = no-left t (is_inside w) line l none (none_first _ _ (none_first _ _ (none_first _ _ f)))

no-allocation : (t : List Row) (line : ℕ) (p : Part) → HasNoVariables t → allocation_faults t line p ≡ [] → ⊥
no-allocation t line p none f = no-allocatable line (standing_of t p.name) (none.each p.name) (none_first _ _ (none_first _ _ f))

no-deallocation : (t : List Row) (line : ℕ) (x : Name) → HasNoVariables t → deallocation_faults t line x ≡ [] → ⊥
no-deallocation t line x none f = no-allocatable line (standing_of t x) (none.each x) f

no-item : (t : List Row) (line : ℕ) (e : Expr) → HasNoVariables t → item_faults t line e ≡ [] → ⊥
no-item t line e none f = no-left t false line e none (none_first _ _ f)

-- of each item
each-none : {A : Type 0} (t : List Row) (f : A → List Refusal) (xs : List A) → ((x : A) → HasNoVariables t → f x ≡ [] → ⊥) → (HasNoVariables t → flat_map f xs ≡ []) → AllByRecursion (λ x. HasNoVariables t → ⊥) xs
each-none t f [] unused h = tt
each-none t f (x ∷ xs) unused h = (λ none. unused x none (none_first _ _ (h none)), each-none t f xs unused (λ none. none_after _ _ (h none)))

pub any-clean : (t : List Row) (line : ℕ) (e : Expr) → (HasNoVariables t → ⊥) → IsClean t line e
any-clean t line e some none = absurd (some none)

-- ---- yields

module _ (k : ℕ) (t : List Row) where
  pub region-yielded : (p : Lowering Operand) → ((s : Scope) (n : ℕ) (D : List ℕ) → Stands k t D s → Lowers k s n D p 0 of_operand) → IsRegion k t (yielded p)
  region-yielded p h s n D stands =
      lowers-then k s n D p (λ x. acting what.Yield (x.value ∷ [])) 0 0 0 of_operand nothing_held refl (h s n D stands)
      (λ x m E g i. lowers-acting k s m E what.Yield (x.value ∷ []) (hits k (of_operand x) + 0) i (omega arith))

  pub region-all_yielded : (p : Lowering (List ValueId)) → ((s : Scope) (n : ℕ) (D : List ℕ) → Stands k t D s → Lowers k s n D p 0 numbers) → IsRegion k t (all_yielded p)
  region-all_yielded p h s n D stands =
      lowers-then k s n D p (acting what.Yield) 0 0 0 numbers nothing_held refl (h s n D stands)
      (λ vs m E g i. lowers-acting k s m E what.Yield vs (hits k (numbers vs) + 0) i (omega arith))

  pub region-value : (line : ℕ) (e : Expr) → IsClean t line e → IsRegion k t (yielded (value e))
  region-value line e h = region-yielded (value e) (λ s n D stands. lowers-value k t line e s n D stands h)

  pub region-done : IsRegion k t (done tt)
  region-done s n D stands = lowers-done k s n D tt 0 nothing_held tt refl

  pub region-then : (p q : Lowering ⊤) → IsRegion k t p → IsRegion k t q → IsRegion k t (p >> q)
  region-then p q g h s n D stands = lowers-then k s n D p (λ _. q) 0 0 0 nothing_held nothing_held refl (g s n D stands) (λ x m E f i. h s m E (stands-grown k t D E s f stands))

  region-turns : {A : Type 0} (f : ℕ → A → Lowering ⊤) (P : A → Type 0) → ((j : ℕ) (x : A) → P x → IsRegion k t (f j x)) → (j : ℕ) (xs : List A) → AllByRecursion P xs → IsRegion k t (in_turn f j xs)
  unfolding in_turn
  region-turns f P h j [] all = region-done
  region-turns f P h j (x ∷ xs) all = region-then (f j x) (in_turn f (suc j) xs) (h j x all.0) (region-turns f P h (suc j) xs all.1)

  -- ---- left sides

  module _ (some : HasNoVariables t → ⊥) where
    whole_left-lowers : (by_box : Bool) (d : Operand) (s : Scope) (n : ℕ) (D : List ℕ) → IsFree k D d.value.number → Lowers k s n D (whole_left by_box d) 0 of_operand
    whole_left-lowers true d s n D h = lowers-boxed k s n D d h
    whole_left-lowers false d s n D h = lowers-done k s n D d 0 of_operand (h.defined, tt) (omega (arith, hit-other k d.value.number h.other))

    left_of-lowers : (by_box : Bool) (e : Expr) (s : Scope) (n : ℕ) (D : List ℕ) → Stands k t D s → Lowers k s n D (left_of by_box e) 0 of_operand
    left_of-lowers by_box (Named x) s n D stands =
        lowers-scoped k s n D (λ r. whole_left by_box (declare_of r.names x)) 0 of_operand (whole_left-lowers by_box (declare_of s.names x) s n D (declare-free k t D s x stands some))
    left_of-lowers by_box (Part' x c subs) s n D stands =
        part_of-lowers k t s n D stands x (λ r. subscripts r 1 subs) some (λ r m E g free. lowers-subscripts k t 0 subs r 1 s m E (stands-grown k t D E s g stands) free (λ none. absurd (some none)))
    left_of-lowers by_box _ s n D stands =
        let zero = zero-free k t D s stands some in lowers-done k s n D nothing 0 of_operand (zero.defined, tt) (omega (arith, hit-other k 0 zero.other))

    left-lowers : (e : Expr) (s : Scope) (n : ℕ) (D : List ℕ) → Stands k t D s → Lowers k s n D (left e) 0 of_operand
    unfolding left
    left-lowers e s n D stands = lowers-scoped k s n D (λ r. left_of r.masked e) 0 of_operand (left_of-lowers s.masked e s n D stands)

    -- ---- statements

    region-assignment : (line : ℕ) (l r : Expr) → IsRegion k t (assignment line l r)
    unfolding assignment
    region-assignment line l r s n D stands =
        let ps = yielded (value r) ∷ yielded (left l) ∷ [] in
        lowers-scoped k s n D (λ c. statement_of (what.Assign (not c.masked && is_whole_allocatable c.names l)) line [] ps) 0 nothing_held
        (lowers-statement k t (what.Assign (not s.masked && is_whole_allocatable s.names l)) line D s stands n [] ps 0 tt refl
        (region-value 0 r (any-clean t 0 r some), (region-yielded (left l) (left-lowers l), tt)))

    pub of_values : (n : ℕ) (D : List ℕ) (s : Scope) (x : Name) → Stands k t D s → AllIn D (numbers ((declare_of s.names x).value ∷ [])) × (0 ≡ hits k (numbers ((declare_of s.names x).value ∷ [])))
    of_values n D s x stands =
        let free = declare-free k t D s x stands some in ((free.defined, tt), omega (arith, hit-other k (declare_of s.names x).value.number free.other))

    pub pair-lowers : (p q : Lowering Operand) → ((s : Scope) (n : ℕ) (D : List ℕ) → Stands k t D s → Lowers k s n D p 0 of_operand) → ((s : Scope) (n : ℕ) (D : List ℕ) → Stands k t D s → Lowers k s n D q 0 of_operand) →
        (s : Scope) (n : ℕ) (D : List ℕ) → Stands k t D s → Lowers k s n D (p >>= (λ x. q >>= (λ y. done (x.value ∷ y.value ∷ [])))) 0 numbers
    pair-lowers p q g h s n D stands =
        lowers-then k s n D p (λ x. q >>= (λ y. done (x.value ∷ y.value ∷ []))) 0 0 0 of_operand numbers refl (g s n D stands)
        (λ x m E f i. lowers-then k s m E q (λ y. done (x.value ∷ y.value ∷ [])) (hits k (of_operand x) + 0) 0 (hits k (of_operand x)) of_operand numbers (omega arith) (h s m E (stands-grown k t D E s f stands))
        (λ y l F f' j. lowers-done k s l F (x.value ∷ y.value ∷ []) (hits k (of_operand y) + hits k (of_operand x)) numbers (f'.kept x.value.number i.0, j) (omega arith)))

    pub value-lowers : (e : Expr) (s : Scope) (n : ℕ) (D : List ℕ) → Stands k t D s → Lowers k s n D (value e) 0 of_operand
    value-lowers e s n D stands = lowers-value k t 0 e s n D stands (any-clean t 0 e some)

    bounds_of-lowers : (b : Bound) (s : Scope) (n : ℕ) (D : List ℕ) → Stands k t D s → Lowers k s n D (bounds_of b) 0 numbers
    unfolding bounds_of
    bounds_of-lowers (bounds.Upper u) s n D stands = pair-lowers (constant I32 (pos 1)) (value u) (λ r m E _. lowers-constant k r m E I32 (pos 1)) (value-lowers u) s n D stands
    bounds_of-lowers (bounds.Both l u) s n D stands = pair-lowers (value l) (value u) (value-lowers l) (value-lowers u) s n D stands
    bounds_of-lowers bounds.Deferred s n D stands = lowers-done k s n D [] 0 numbers tt refl

    pub joined-lowers : (p q : Lowering (List ValueId)) → ((s : Scope) (n : ℕ) (D : List ℕ) → Stands k t D s → Lowers k s n D p 0 numbers) → ((s : Scope) (n : ℕ) (D : List ℕ) → Stands k t D s → Lowers k s n D q 0 numbers) →
        (s : Scope) (n : ℕ) (D : List ℕ) → Stands k t D s → Lowers k s n D (p >>= (λ vs. q >>= (λ ws. done (vs ++ ws)))) 0 numbers
    joined-lowers p q g h s n D stands =
        lowers-then k s n D p (λ vs. q >>= (λ ws. done (vs ++ ws))) 0 0 0 numbers numbers refl (g s n D stands)
        (λ vs m E f i. lowers-then k s m E q (λ ws. done (vs ++ ws)) (hits k (numbers vs) + 0) 0 (hits k (numbers vs)) numbers numbers (omega arith) (h s m E (stands-grown k t D E s f stands))
        (λ ws l F f' j.
        let same = numbers-append vs ws in
        lowers-done k s l F (vs ++ ws) (hits k (numbers ws) + hits k (numbers vs)) numbers (subst (AllIn F) (sym same) (all-both F (numbers vs) (numbers ws) (all-grown E F (numbers vs) f' i) j))
        (omega (arith, ap (hits k) same, hits-append k (numbers vs) (numbers ws)))))

    all_bounds-lowers : (bs : List Bound) (s : Scope) (n : ℕ) (D : List ℕ) → Stands k t D s → Lowers k s n D (all_bounds bs) 0 numbers
    unfolding all_bounds
    all_bounds-lowers [] s n D stands = lowers-done k s n D [] 0 numbers tt refl
    all_bounds-lowers (b ∷ bs) s n D stands = joined-lowers (bounds_of b) (all_bounds bs) (bounds_of-lowers b) (all_bounds-lowers bs) s n D stands

    region-allocation : (line : ℕ) (also : Bool) (p : Part) → IsRegion k t (allocation line also p)
    unfolding allocation
    region-allocation line also p s n D stands =
        let ps = all_yielded (all_bounds p.shape) ∷ [] in let is = of_values n D s p.name stands in
        lowers-scoped k s n D (λ c. statement_of (what.Allocmem also) line ((declare_of c.names p.name).value ∷ []) ps) 0 nothing_held
        (lowers-statement k t (what.Allocmem also) line D s stands n ((declare_of s.names p.name).value ∷ []) ps 0 is.0 is.1 (region-all_yielded (all_bounds p.shape) (all_bounds-lowers p.shape), tt))

    region-deallocation : (line : ℕ) (also : Bool) (x : Name) → IsRegion k t (deallocation line also x)
    unfolding deallocation
    region-deallocation line also x s n D stands =
        let is = of_values n D s x stands in
        lowers-scoped k s n D (λ c. statement_of (what.Freemem also) line ((declare_of c.names x).value ∷ []) []) 0 nothing_held
        (lowers-statement k t (what.Freemem also) line D s stands n ((declare_of s.names x).value ∷ []) [] 0 is.0 is.1 tt)

    region-reading : (line : ℕ) (also : Bool) (e : Expr) → IsRegion k t (reading line also e)
    unfolding reading
    region-reading line also e s n D stands = lowers-statement k t (what.Read also) line D s stands n [] (yielded (item e) ∷ []) 0 tt refl (region-yielded (item e) (left_of-lowers true e), tt)

  -- ---- statements that hold no others

  abbrev Faultless : ℕ → Body → Type 0
  Faultless line body = (w : Within) × (body_faults t w line body ≡ [])

  serial : (w : Within) (line : ℕ) (parts : List Refusal) → (if is_masked w then when true line kind.Unsupported else (serial_faults w line ++ parts)) ≡ [] → parts ≡ []
  serial w line parts f = none_after _ _ (looked_into (is_masked w) line kind.Unsupported (serial_faults w line ++ parts) f)

  pub region-plain : (line : ℕ) (body : Body) → (HasNoVariables t → Faultless line body) → IsRegion k t (plain line body)
  region-plain line (Assign l r) h = region-assignment (λ none. no-assign t (h none).0 line l r none (h none).1) line l r
  region-plain line (Allocate ps) h =
      region-turns (λ j. allocation line (nat_lt 0 j)) (λ p. HasNoVariables t → ⊥) (λ j p some. region-allocation some line (nat_lt 0 j) p) 0 ps
      (each-none t (allocation_faults t line) ps (no-allocation t line) (λ none. serial (h none).0 line (serial_parts t line (Allocate ps)) (h none).1))
  region-plain line (Deallocate xs) h =
      region-turns (λ j. deallocation line (nat_lt 0 j)) (λ x. HasNoVariables t → ⊥) (λ j x some. region-deallocation some line (nat_lt 0 j) x) 0 xs
      (each-none t (deallocation_faults t line) xs (no-deallocation t line) (λ none. serial (h none).0 line (serial_parts t line (Deallocate xs)) (h none).1))
  region-plain line (Read es) h =
      region-turns (λ j. reading line (nat_lt 0 j)) (λ e. HasNoVariables t → ⊥) (λ j e some. region-reading some line (nat_lt 0 j) e) 0 es
      (each-none t (item_faults t line) es (no-item t line) (λ none. serial (h none).0 line (serial_parts t line (Read es)) (h none).1))
  region-plain line _ h = region-done
