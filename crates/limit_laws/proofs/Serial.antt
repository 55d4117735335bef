-- The expressions of a DO, ALLOCATE or READ keep the limits.
use Rattle.std.proofs.Common.{◌≡◌, refl, ap, ◌∙◌, subst, ℕ, suc, ◌+◌, ◌*◌, ◌≤◌, nat_lt, Bool, true, false, List, [], ◌∷◌, ◌++◌, length, All, None, arith}
use Rattle.std.specs.Prelude.{⊤, pos}
use Rattle.std.specs.List.{flat_map}
use Rattle.std.proofs.lemmas.Bool.{and_from, ltb-false, le-leb}
use Rattle.std.proofs.lemmas.List.Elements.{All-head, All-tail}
use Rattle.ws_base.specs.declared.name.Name.{Name}
use Rattle.ws_tree.specs.declared.expr.Expr.{Expr}
use Rattle.ws_tree.specs.declared.stmt.Bound.{Bound}
use Rattle.ws_tree.specs.declared.stmt.Bound.TheVariants as bounds
use Rattle.ws_tree.specs.declared.stmt.Part.{Part}
use Rattle.ws_tree.specs.Grammatical.{IsDesignator, IsBound, IsPart}
use Rattle.ws_types.specs.declared.types.Row.{Row}
use Rattle.ws_counts.specs.declared.tally.Piece.{Piece}
use Rattle.ws_counts.specs.Counts.{parts_in, reductions_in, wholes_in, parts_of, phases_of, temporaries_of}
use Rattle.ws_counts.specs.Limits.{parts_faults, steps_faults, expressions_faults, all_phases, all_temporaries, bound_pieces, part_pieces, allocate_pieces, read_pieces}
use Rattle.ws_counts.specs.Pieces as p
use Rattle.ws_sema.specs.Statements.{allocated_bound_faults, allocated_bounds_faults, allocation_faults, allocations_faults, item_faults, items_faults}
use Rattle.hlfir_ops.specs.declared.kinds.Elem.TheVariants.{I32}
use Rattle.hlfir_ops.specs.declared.what.What.{What}
use Rattle.hlfir_ops.specs.declared.what.What.TheVariants as what
use Rattle.hlfir_ops.specs.declared.op.ValueId.{ValueId}
use Rattle.hlfir_ops.specs.declared.op.Op.{Op, Op-F, out-Op, out-roll-Op}
use Rattle.hlfir_ops.specs.declared.op.Region.{Region, out-roll-Region}
use Rattle.hlfir_ops.specs.Trees.{op_of, region_of}
use Rattle.hlfir_ops.specs.Numbers.{numbers_of, order_of}
use Rattle.hlfir_ops.specs.RulesValues.{Value}
use Rattle.hlfir_ops.specs.RulesRegions.{ops_in}
use Rattle.hlfir_ops.specs.RulesPlaces.{Around, around_in}
use Rattle.hlfir_ops.specs.RulesLimits.{size_of, size_limit, nothing, ended, counted_all}
use Rattle.hlfir_ops.specs.Rules.{expressions_fit}
use Rattle.lower_values.specs.declared.operand.Operand.{Operand}
use Rattle.lower_values.specs.Scopes.{Scope, inside}
use Rattle.lower_values.specs.Lowerings.{Lowering, Lowered, done, ◌>>=◌ as ◌then◌, scoped, in_turn, acting, statement_of}
use Rattle.lower_values.specs.Operations.{constant}
use Rattle.lower_values.specs.References.{declare_of}
use Rattle.lower_values.specs.Values.{value}
use Rattle.lower_assign.specs.Statements.{yielded, all_yielded, item, bounds_of, all_bounds, allocation, deallocation, reading}
use Rattle.small_laws.specs.Small.{IsSmallPart}
use Rattle.small_laws.proofs.NoFaults.{none_first, none_after, not_broken, left_false, right_false}
use Rattle.kind_laws.specs.Standing.{Knows}
use Rattle.kind_laws.specs.Found.{Holds, ScopeIsFound}
use Rattle.kind_laws.specs.Laws.{TypesAreKnown, KindsAreTypes, ValuesAreFound}
use Rattle.limit_laws.proofs.Costs.{total, size, wholes, Costs}
use Rattle.limit_laws.proofs.Costing.{costs-weaker, spends-both}
use Rattle.limit_laws.proofs.Held.{regions-there, region-there}
use Rattle.limit_laws.proofs.Operations.{priced-costs, priced-constant}
use Rattle.limit_laws.proofs.Pieces.{parts-append, reductions-append, wholes-append}
use Rattle.limit_laws.proofs.Passing.{Passing, passing-light, passing-none, passing-append, regions-none, regions-more, passing-op}
use Rattle.limit_laws.proofs.Counting.{adds-light, size-is}
use Rattle.limit_laws.proofs.Bounded.{Valued, Headed}
use Rattle.limit_laws.proofs.Measured.{count-fits}
use Rattle.kind_laws.proofs.ScopesMoved.{knows-moved, found-moved}
use Rattle.kind_laws.proofs.Held.{held-first, held-rest}
use Rattle.limit_laws.proofs.Sides.{side-valued, designator-costs, spends-all_yielded}
use Rattle.limit_laws.proofs.Steps.{headed-step}

-- ---- what no break of the limits says

pub record Fits (ss : List (List Piece)) : Type 0 where
  pub phases : phases_of ss ≤ 512
  pub temporaries : temporaries_of ss ≤ 64

pub few-parts : (line : ℕ) (ss : List (List Piece)) → parts_faults line ss ≡ [] → parts_of ss ≤ 1024
unfolding parts_faults
few-parts line ss f = ltb-false 1024 (parts_of ss) (not_broken _ _ _ f)

pub few-phases : (line : ℕ) (all : List (List (List Piece))) → steps_faults line all ≡ [] → all_phases all ≤ 512
unfolding steps_faults
few-phases line all f = ltb-false 512 (all_phases all) (left_false _ _ (not_broken _ _ _ f))

pub few-temporaries : (line : ℕ) (all : List (List (List Piece))) → steps_faults line all ≡ [] → all_temporaries all ≤ 64
unfolding steps_faults
few-temporaries line all f = ltb-false 64 (all_temporaries all) (right_false _ _ (not_broken _ _ _ f))

pub one-fits : (line : ℕ) (ss : List (List Piece)) → steps_faults line (ss ∷ []) ≡ [] → Fits ss
one-fits line ss f = record { phases = omega (arith, few-phases line (ss ∷ []) f); temporaries = omega (arith, few-temporaries line (ss ∷ []) f) }

-- a part of these pieces
pub record AreWithin (ps all : List Piece) : Type 0 where
  pub parts : parts_in ps ≤ parts_in all
  pub reductions : reductions_in ps ≤ reductions_in all
  pub wholes : wholes_in ps ≤ wholes_in all

pub within-self : (ps : List Piece) → AreWithin ps ps
within-self ps = record { parts = omega arith; reductions = omega arith; wholes = omega arith }

within-first : (xs ys all : List Piece) → AreWithin (xs ++ ys) all → AreWithin xs all
within-first xs ys all h = record { parts = omega (arith, h.parts, parts-append xs ys); reductions = omega (arith, h.reductions, reductions-append xs ys); wholes = omega (arith, h.wholes, wholes-append xs ys) }

within-rest : (xs ys all : List Piece) → AreWithin (xs ++ ys) all → AreWithin ys all
within-rest xs ys all h = record { parts = omega (arith, h.parts, parts-append xs ys); reductions = omega (arith, h.reductions, reductions-append xs ys); wholes = omega (arith, h.wholes, wholes-append xs ys) }

-- the limits on the expressions of one statement
pub record Allowed (all : List Piece) : Type 0 where
  pub parts : parts_in all ≤ 1024
  pub fits : Fits (all ∷ [])

pub allowed : (line : ℕ) (all : List Piece) → expressions_faults line all ≡ [] → Allowed all
allowed line all f = record { parts = omega (arith, few-parts line (all ∷ []) (none_first _ _ f)); fits = one-fits line (all ∷ []) (none_after _ _ f) }

one_longer : (b : Bound) (bs : List Bound) → 18 * 1 + 18 * length bs ≡ 18 * length (b ∷ bs)
one_longer b bs = omega arith

module _ (vs : List Value) where
  -- one region of such a statement
  pub region-fits : (ops : List Op) (z : ℕ) (ps all : List Piece) → Costs vs ops z (reductions_in ps) (wholes_in ps) → z ≤ 65536 → AreWithin ps all → Allowed all → expressions_fit vs ops ≡ true
  region-fits ops z ps all c small within ok =
      let a = adds-light vs nothing (order_of ops) c.light in
      let e = counted_all vs nothing (order_of ops) in
      let fits = ok.fits in
      and_from _ _ (le-leb (size_of (order_of ops)) size_limit (omega (arith, size-is (order_of ops), c.size, small)))
      (count-fits vs (ended e).phases (ended e).temporaries
      (omega (arith, a.phases, c.reductions, c.wholes, within.reductions, within.wholes, fits.phases))
      (omega (arith, a.temporaries, a.masks, a.held, a.pending, c.reductions, c.wholes, within.reductions, within.wholes, fits.temporaries)))

  -- the first region of an op
  pub first-region-fits : (w : What) (line : ℕ) (os : List ValueId) (ops : List Op) (rs : List Region) (z : ℕ) (ps all : List Piece) → Costs vs ops z (reductions_in ps) (wholes_in ps) → z ≤ 65536 → AreWithin ps all → Allowed all →
      expressions_fit vs (ops_in (out-Op (op_of w line os None (region_of ops ∷ rs))).regions 0) ≡ true
  first-region-fits w line os ops rs z ps all c small within ok =
      let whole : Op-F Op Region = record { what = w; line = line; operands = os; kind = None; regions = region_of ops ∷ rs } in
      ap (λ f. expressions_fit vs (ops_in f.regions 0)) (out-roll-Op whole) ∙ (ap (λ r. expressions_fit vs r.ops) (out-roll-Region (record { ops = ops })) ∙ region-fits ops z ps all c small within ok)

module _ (types : TypesAreKnown) (kinds : KindsAreTypes) (found : ValuesAreFound) (vs : List Value) where
  -- ---- DEALLOCATE

  pub deallocated : (line k : ℕ) (xs : List Name) (s : Scope) (n : ℕ) (a : Around) → Passing vs a (in_turn (λ j. deallocation line (nat_lt 0 j)) k xs s n).ops
  unfolding in_turn done ◌then◌ deallocation scoped statement_of
  deallocated line k [] s n a = passing-none vs a
  deallocated line k (x ∷ xs) s n a =
      let q : Lowering ⊤ = deallocation line (nat_lt 0 k) x in
      passing-append vs a (q s n).ops (in_turn (λ j. deallocation line (nat_lt 0 j)) (suc k) xs s (n + numbers_of (q s n).ops)).ops
      (passing-op vs a (what.Freemem (nat_lt 0 k)) line ((declare_of s.names x).value ∷ []) None [] (λ before. refl) (regions-none vs a (what.Freemem (nat_lt 0 k)) 0))
      (deallocated line (suc k) xs s (n + numbers_of (q s n).ops) a)

  module _ (t : List Row) (line : ℕ) (s : Scope) (a : Around) (knows : Knows t s) (here : ScopeIsFound vs s) (all : List Piece) (ok : Allowed all) where
    -- ---- READ

    read-one : (also : Bool) (e : Expr) (n : ℕ) → IsDesignator e → item_faults t line e ≡ [] → AreWithin (p.pieces t false false e) all → Holds vs n (reading line also e s n).ops → Passing vs a (reading line also e s n).ops
    unfolding reading statement_of
    read-one also e n i f within h =
        let op : What = what.Read also in
        let scope = inside op line 0 (n + 0) s in
        let ops = (yielded (item e) scope (n + 0 + 0)).ops in
        let held = region-there vs (n + 0) op 0 ops [] (regions-there vs n op line [] None (region_of ops ∷ []) h) in
        let costs = designator-costs types kinds found vs t false false scope (knows-moved t s scope.masked scope.line knows) (found-moved vs s scope.masked scope.line here) line (n + 0 + 0) true e i
        (none_first _ _ (none_first _ _ (none_first _ _ f))) held in
        passing-op vs a op line [] None (region_of ops ∷ []) (λ before. first-region-fits vs op line [] ops [] (10 + 27 * parts_in (p.pieces t false false e)) (p.pieces t false false e) all costs (omega (arith, within.parts, ok.parts)) within ok)
        (regions-more vs a op 0 ops [] (passing-light vs (around_in a op 0) ops costs.light) (regions-none vs a op 1))

    pub items-read : (k : ℕ) (es : List Expr) (n : ℕ) → All IsDesignator es → items_faults t line es ≡ [] → AreWithin (read_pieces t es) all → Holds vs n (in_turn (λ j. reading line (nat_lt 0 j)) k es s n).ops → Passing vs a (in_turn (λ j. reading line (nat_lt 0 j)) k es s n).ops
    unfolding in_turn done ◌then◌
    items-read k [] n i f within h = passing-none vs a
    items-read k (e ∷ es) n i f within h =
        let q : Lowering ⊤ = reading line (nat_lt 0 k) e in
        let m = n + numbers_of (q s n).ops in
        let rest : Lowering ⊤ = in_turn (λ j. reading line (nat_lt 0 j)) (suc k) es in
        passing-append vs a (q s n).ops (rest s m).ops
        (read-one (nat_lt 0 k) e n (All-head IsDesignator e es i) (none_first _ _ f) (within-first (p.pieces t false false e) (read_pieces t es) all within) (held-first vs q (λ _. rest) s n h))
        (items-read (suc k) es m (All-tail IsDesignator e es i) (none_after _ _ f) (within-rest (p.pieces t false false e) (read_pieces t es) all within) (held-rest vs q (λ _. rest) s n h))

    -- ---- ALLOCATE

    -- the bounds of one array: each costs 18 besides its pieces
    abbrev Bounded : Lowered (List ValueId) → ℕ → List Piece → Type 0
    Bounded r k ps = Headed vs r (18 * k) ps

    module _ (c : Scope) where
      upper-bounded : (u : Expr) (n : ℕ) → (let one : Lowering Operand = constant I32 (pos 1) in Valued vs (value u c (n + numbers_of (one c n).ops)) (p.pieces t false false u)) → Bounded (bounds_of (bounds.Upper u) c n) 1 (p.pieces t false false u)
      unfolding bounds_of ◌then◌ done
      upper-bounded u n v =
          let one : Lowering Operand = constant I32 (pos 1) in
          let pu = p.pieces t false false u in
          let costs = spends-both vs one (value u) (λ a b. a.value ∷ b.value ∷ []) c n 1 0 0 (8 + 27 * parts_in pu) (reductions_in pu) (wholes_in pu) (priced-costs vs _ _ _ _ (priced-constant vs I32 (pos 1) c n)) (priced-costs vs _ _ _ _ v) in
          record { light = costs.light; size = omega (arith, costs.size); reductions = omega (arith, costs.reductions); wholes = omega (arith, costs.wholes) }

      both-bounded : (l u : Expr) (n : ℕ) → Valued vs (value l c n) (p.pieces t false false l) → Valued vs (value u c (n + numbers_of (value l c n).ops)) (p.pieces t false false u) → Bounded (bounds_of (bounds.Both l u) c n) 1 (p.pieces t false false l ++ p.pieces t false false u)
      unfolding bounds_of ◌then◌ done
      both-bounded l u n w v =
          let pl = p.pieces t false false l in
          let pu = p.pieces t false false u in
          let costs = spends-both vs (value l) (value u) (λ a b. a.value ∷ b.value ∷ []) c n (8 + 27 * parts_in pl) (reductions_in pl) (wholes_in pl) (8 + 27 * parts_in pu) (reductions_in pu) (wholes_in pu)
          (priced-costs vs _ _ _ _ w) (priced-costs vs _ _ _ _ v) in
          record { light = costs.light; size = omega (arith, costs.size, parts-append pl pu); reductions = omega (arith, costs.reductions, reductions-append pl pu); wholes = omega (arith, costs.wholes, wholes-append pl pu) }

      module _ (knows' : Knows t c) (here' : ScopeIsFound vs c) where
        one-bounded : (b : Bound) (n : ℕ) → IsBound b → allocated_bound_faults t line b ≡ [] → Holds vs n (bounds_of b c n).ops → Bounded (bounds_of b c n) 1 (bound_pieces t b)
        unfolding bounds_of done
        one-bounded (bounds.Upper u) n i f h =
            let one : Lowering Operand = constant I32 (pos 1) in
            let m = n + numbers_of (one c n).ops in
            let x = (one c n).made in
            let h1 = held-rest vs one (λ a. value u then (λ b. done (a.value ∷ b.value ∷ []))) c n h in
            upper-bounded u n (side-valued types kinds found vs t false false c knows' here' line m u i (none_first _ _ f) (held-first vs (value u) (λ b. done (x.value ∷ b.value ∷ [])) c m h1))
        one-bounded (bounds.Both l u) n i f h =
            let m = n + numbers_of (value l c n).ops in
            let x = (value l c n).made in
            let h1 = held-rest vs (value l) (λ a. value u then (λ b. done (a.value ∷ b.value ∷ []))) c n h in
            both-bounded l u n
            (side-valued types kinds found vs t false false c knows' here' line n l i.0 (none_first _ _ (none_first _ _ f)) (held-first vs (value l) (λ a. value u then (λ b. done (a.value ∷ b.value ∷ []))) c n h))
            (side-valued types kinds found vs t false false c knows' here' line m u i.1 (none_first _ _ (none_after _ _ f)) (held-first vs (value u) (λ b. done (x.value ∷ b.value ∷ [])) c m h1))
        one-bounded bounds.Deferred n i f h = record { light = omega arith; size = omega arith; reductions = omega arith; wholes = omega arith }

        all-bounded : (bs : List Bound) (n : ℕ) → All IsBound bs → allocated_bounds_faults t line bs ≡ [] → Holds vs n (all_bounds bs c n).ops → Bounded (all_bounds bs c n) (length bs) (flat_map (bound_pieces t) bs)
        unfolding all_bounds done
        all-bounded [] n i f h = record { light = omega arith; size = omega arith; reductions = omega arith; wholes = omega arith }
        all-bounded (b ∷ bs) n i f h =
            let q : Lowering (List ValueId) = bounds_of b in
            let m = n + numbers_of (q c n).ops in
            let h1 = held-rest vs q (λ us. all_bounds bs then (λ ws. done (us ++ ws))) c n h in
            subst (λ z. Headed vs (all_bounds (b ∷ bs) c n) z (flat_map (bound_pieces t) (b ∷ bs))) (one_longer b bs)
            (headed-step vs c n q (all_bounds bs) (18 * 1) (18 * length bs) (bound_pieces t b) (flat_map (bound_pieces t) bs)
            (one-bounded b n (All-head IsBound b bs i) (none_first _ _ f) (held-first vs q (λ us. all_bounds bs then (λ ws. done (us ++ ws))) c n h))
            (all-bounded bs m (All-tail IsBound b bs i) (none_after _ _ f) (held-first vs (all_bounds bs) (λ ws. done ((q c n).made ++ ws)) c m h1)))

    -- the op of one array
    allocated-passes : (also : Bool) (x : Part) (c : Scope) (n : ℕ) → IsSmallPart x → AreWithin (part_pieces t x) all → Bounded (all_bounds x.shape c n) (length x.shape) (part_pieces t x) →
        Passing vs a (op_of (what.Allocmem also) line ((declare_of s.names x.name).value ∷ []) None (region_of (all_yielded (all_bounds x.shape) c n).ops ∷ []) ∷ [])
    allocated-passes also x c n small within r =
        let op : What = what.Allocmem also in
        let os = (declare_of s.names x.name).value ∷ [] in
        let ops = (all_yielded (all_bounds x.shape) c n).ops in
        let ps = part_pieces t x in
        let costs : Costs vs ops (55 + 27 * parts_in ps) (reductions_in ps) (wholes_in ps) = costs-weaker vs _ _ _ _ (55 + 27 * parts_in ps) (reductions_in ps) (wholes_in ps)
        (spends-all_yielded vs (all_bounds x.shape) c n (total size (all_bounds x.shape c n).ops) (reductions_in ps) (wholes_in ps) (record { light = r.light; size = omega arith; reductions = r.reductions; wholes = r.wholes }))
        (omega (arith, r.size, small.0)) (omega arith) (omega arith) in
        passing-op vs a op line os None (region_of ops ∷ []) (λ before. first-region-fits vs op line os ops [] (55 + 27 * parts_in ps) ps all costs (omega (arith, within.parts, ok.parts)) within ok)
        (regions-more vs a op 0 ops [] (passing-light vs (around_in a op 0) ops costs.light) (regions-none vs a op 1))

    allocate-one : (also : Bool) (x : Part) (n : ℕ) → IsPart x → IsSmallPart x → allocation_faults t line x ≡ [] → AreWithin (part_pieces t x) all → Holds vs n (allocation line also x s n).ops → Passing vs a (allocation line also x s n).ops
    unfolding allocation scoped statement_of
    allocate-one also x n i small f within h =
        let op : What = what.Allocmem also in
        let scope = inside op line 0 (n + 0) s in
        let ops = (all_yielded (all_bounds x.shape) scope (n + 0 + 0)).ops in
        let held = region-there vs (n + 0) op 0 ops [] (regions-there vs n op line ((declare_of s.names x.name).value ∷ []) None (region_of ops ∷ []) h) in
        allocated-passes also x scope (n + 0 + 0) small within
        (all-bounded scope (knows-moved t s scope.masked scope.line knows) (found-moved vs s scope.masked scope.line here) x.shape (n + 0 + 0) i.1 (none_after _ _ f) (held-first vs (all_bounds x.shape) (λ ws. acting what.Yield ws) scope (n + 0 + 0) held))

    pub parts-allocated : (k : ℕ) (xs : List Part) (n : ℕ) → All IsPart xs → All IsSmallPart xs → allocations_faults t line xs ≡ [] → AreWithin (allocate_pieces t xs) all → Holds vs n (in_turn (λ j. allocation line (nat_lt 0 j)) k xs s n).ops → Passing vs a (in_turn (λ j. allocation line (nat_lt 0 j)) k xs s n).ops
    unfolding in_turn done ◌then◌
    parts-allocated k [] n i small f within h = passing-none vs a
    parts-allocated k (x ∷ xs) n i small f within h =
        let q : Lowering ⊤ = allocation line (nat_lt 0 k) x in
        let m = n + numbers_of (q s n).ops in
        let rest : Lowering ⊤ = in_turn (λ j. allocation line (nat_lt 0 j)) (suc k) xs in
        passing-append vs a (q s n).ops (rest s m).ops
        (allocate-one (nat_lt 0 k) x n (All-head IsPart x xs i) (All-head IsSmallPart x xs small) (none_first _ _ f) (within-first (part_pieces t x) (allocate_pieces t xs) all within) (held-first vs q (λ _. rest) s n h))
        (parts-allocated (suc k) xs m (All-tail IsPart x xs i) (All-tail IsSmallPart x xs small) (none_after _ _ f) (within-rest (part_pieces t x) (allocate_pieces t xs) all within) (held-rest vs q (λ _. rest) s n h))
