-- All statements of a program.
use Rattle.std.proofs.Common.{◌≡◌, refl, sym, ◌∙◌, subst, ℕ, ◌+◌, ◌*◌, ◌<◌, ◌≤◌, not, ◌&&◌, nat_lt, Bool, true, false, List, [], ◌∷◌, All, Option, None, arith, true≢false}
use Rattle.std.specs.Prelude.{⊤}
use Rattle.std.proofs.lemmas.Bool.{and_from}
use Rattle.std.proofs.lemmas.List.Elements.{All-head, All-tail}
use mathlib.Core.Former.{Count}
use Rattle.ws_base.specs.declared.name.Name.{Name}
use Rattle.ws_base.specs.declared.refusal.RefusalKind.TheVariants as refusal
use Rattle.ws_tree.specs.declared.expr.Expr.{Expr}
use Rattle.ws_tree.specs.declared.stmt.Stmt.{Stmt}
use Rattle.ws_tree.specs.declared.stmt.Body.{Body}
use Rattle.ws_tree.specs.declared.stmt.Body.TheVariants.{Assign, Masked', Forall', Loop', Allocate, Deallocate, Read, Shared', Unsupported, TooDeep}
use Rattle.ws_tree.specs.Trees.{Stmts, end_stmts, more_stmts}
use Rattle.ws_tree.specs.Grammatical.{IsBody}
use Rattle.ws_tree.specs.Grammatical.Within.{anywhere}
use Rattle.ws_types.specs.declared.types.Row.{Row}
use Rattle.ws_counts.specs.Counts.{parts_in, reductions_in, wholes_in, statement_steps}
use Rattle.ws_counts.specs.Limits.{loop_pieces, allocate_pieces, read_pieces, body_limits, block_limits, stmts_limits, body_steps, block_steps}
use Rattle.ws_counts.specs.Pieces as p
use Rattle.ws_sema.specs.declared.within.Within.{Within}
use Rattle.ws_sema.specs.declared.within.Within.TheVariants as within
use Rattle.ws_sema.specs.Statements.{is_inside, is_masked, is_shared, mask_rank, with_active, body_faults, block_faults, stmts_faults}
use Rattle.hlfir_ops.specs.declared.what.What.TheVariants as what
use Rattle.hlfir_ops.specs.declared.op.Op.{Op}
use Rattle.hlfir_ops.specs.Trees.{region_of}
use Rattle.hlfir_ops.specs.Numbers.{numbers_of}
use Rattle.hlfir_ops.specs.RulesValues.{Value}
use Rattle.hlfir_ops.specs.RulesPlaces.{Around, around_in}
use Rattle.lower_values.specs.Scopes.{Scope, inside}
use Rattle.lower_values.specs.Lowerings.{Lowering, done, ◌>>=◌ as ◌then◌, scoped, statement_of, acting}
use Rattle.lower_values.specs.References.{declare_of}
use Rattle.lower_assign.specs.Statements.{all_yielded, is_whole_allocatable, assignment}
use Rattle.lower_constructs.specs.Modules.{triple, statement, statements}
use Rattle.lower_constructs.specs.Modules.{statement_list}
use Rattle.small_laws.specs.Small.{IsSmallBody, AreSmallStmts, IsSmallStmt}
use Rattle.small_laws.proofs.NoFaults.{none_first, none_after, impossible, looked_into}
use Rattle.kind_laws.specs.Standing.{Knows}
use Rattle.kind_laws.specs.Found.{Holds, ScopeIsFound}
use Rattle.kind_laws.specs.Laws.{TypesAreKnown, KindsAreTypes, ValuesAreFound, index_names}
use Rattle.kind_laws.proofs.ScopesKnown.{loop_known}
use Rattle.limit_laws.proofs.Costs.{Costs}
use Rattle.limit_laws.proofs.Costing.{costs-weaker}
use Rattle.limit_laws.proofs.Held.{regions-there, region-there, rest-there}
use Rattle.limit_laws.proofs.Passing.{Passing, passing-light, passing-none, passing-append, regions-none, regions-more, passing-op}
use Rattle.limit_laws.proofs.Walking.{First, first-whole}
use Rattle.kind_laws.proofs.ScopesMoved.{knows-moved, found-moved}
use Rattle.kind_laws.proofs.Held.{held-first, held-rest}
use Rattle.kind_laws.proofs.Faultless.{IsOuter}
use Rattle.limit_laws.proofs.Formed.{IsFormed, AreFormed, body-formed}
use Rattle.limit_laws.proofs.Sides.{spends-all_yielded}
use Rattle.limit_laws.proofs.Headers.{triple-costs, triple-length}
use Rattle.limit_laws.proofs.Wheres.{bodies_fit, assign-first, assign-regions, masked-stands}
use Rattle.limit_laws.proofs.WhereBlocks.{block-in, elses-in}
use Rattle.limit_laws.proofs.Foralls.{forall-stands}
use Rattle.limit_laws.proofs.Alike.{Alike, alike-self, active-alike}
use Rattle.limit_laws.proofs.AlikeStatements.{allocate-alike, read-alike}
use Rattle.limit_laws.proofs.Serial as serial
use Rattle.limit_laws.proofs.Serial.{few-phases, few-temporaries, deallocated, items-read, parts-allocated}
use Rattle.limit_laws.proofs.Programs.{FitTogether, together-first, together-rest, not_inside, not_shared, Runs, runs-none, runs-more, alone, one-runs, steps_are, same_within, loop_region_fits, share_fits}

few_bodies : (a : Around) (b : ℕ) → b < 65 → a.bodies ≤ b → nat_lt a.bodies 65 ≡ true
few_bodies a b h low = bodies_fit a.bodies (omega (arith, h, low))

more_bodies : (a : Around) (b : ℕ) → a.bodies ≤ b → 1 + a.bodies ≤ 1 + b
more_bodies a b low = omega (arith, low)

-- ---- a DO

module _ (types : TypesAreKnown) (kinds : KindsAreTypes) (found : ValuesAreFound) (vs : List Value) where
  abbrev BlockPasses : {m : Count} → List Row → ℕ → Stmts m → Type 0
  BlockPasses t b block = (s : Scope) (n : ℕ) (a : Around) → Knows t s → ScopeIsFound vs s → a.bodies ≤ b → Holds vs n (statements block s n).ops → Passing vs a (statements block s n).ops

  loop-passes : (t u : List Row) → Alike t u → (w : Within) (line b : ℕ) (x : Name) (l k : Expr) (o : Option Expr) (c : _) (block : _) → IsFormed b (Loop' x l k o c block) → body_faults t w line (Loop' x l k o c block) ≡ [] →
      body_limits u (is_shared w) line (Loop' x l k o c block) ≡ [] → BlockPasses (with_active t x) (1 + b) block → (s : Scope) (n : ℕ) (a : Around) → Knows t s → ScopeIsFound vs s → a.bodies ≤ b →
      Holds vs n (statement line (Loop' x l k o c block) s n).ops → Passing vs a (statement line (Loop' x l k o c block) s n).ops
  unfolding scoped statement_of ◌then◌
  loop-passes t u alike w line b x l k o c block i f g each s n a knows here low h =
      let d = (declare_of s.names x).value in
      let op = what.DoLoop in
      let scope = inside op line 0 (n + 0) s in
      let ops = (all_yielded (triple l k o) scope (n + 0 + 0)).ops in
      let next = n + 0 + (0 + numbers_of ops) in
      let block_scope = inside op line 1 next s in
      let block_ops = (statements block block_scope (next + 0)).ops in
      let held = regions-there vs n op line (d ∷ []) None (region_of ops ∷ region_of block_ops ∷ []) h in
      let ps = loop_pieces t l k o in
      let first = region-there vs (n + 0) op 0 ops (region_of block_ops ∷ []) held in
      let costs : Costs vs ops (28 + 27 * parts_in ps) (reductions_in ps) (wholes_in ps) = costs-weaker vs _ _ _ _ (28 + 27 * parts_in ps) (reductions_in ps) (wholes_in ps)
      (spends-all_yielded vs (triple l k o) scope (n + 0 + 0) (24 + 27 * parts_in ps) (reductions_in ps) (wholes_in ps)
      (triple-costs types kinds found vs t scope (knows-moved t s scope.masked scope.line knows) (found-moved vs s scope.masked scope.line here) line (n + 0 + 0) l k o i.1 i.2 i.3
      (none_first _ _ (none_after _ _ (none_first _ _ (none_first _ _ (none_first _ _ (looked_into (is_masked w) line refusal.Unsupported _ f))))))
      (none_first _ _ (none_after _ _ (none_first _ _ (none_first _ _ (looked_into (is_masked w) line refusal.Unsupported _ f)))))
      (none_after _ _ (none_first _ _ (looked_into (is_masked w) line refusal.Unsupported _ f)))
      (held-first vs (triple l k o) (λ ws. acting what.Yield ws) scope (n + 0 + 0) first)))
      (omega (arith, triple-length types kinds found vs t scope (knows-moved t s scope.masked scope.line knows) (found-moved vs s scope.masked scope.line here) (n + 0 + 0) l k o)) (omega arith) (omega arith) in
      let active = loop_known t s w line x (none_after _ _ (none_first _ _ (none_first _ _ (none_first _ _ (none_first _ _ (looked_into (is_masked w) line refusal.Unsupported _ f)))))) knows in
      let block_passes = each block_scope (next + 0) (around_in a op 1) (knows-moved (with_active t x) s block_scope.masked block_scope.line active) (found-moved vs s block_scope.masked block_scope.line here) (more_bodies a b low) (region-there vs next op 1 block_ops [] (rest-there vs (n + 0) op 0 ops (region_of block_ops ∷ []) held)) in
      passing-op vs a op line (d ∷ []) None (region_of ops ∷ region_of block_ops ∷ [])
      (λ before. and_from _ _ (few_bodies a b i.0 low) (loop_region_fits types kinds found vs t u alike line x l k o s ops (d ∷ []) (region_of block_ops ∷ []) costs (none_first _ _ g)))
      (regions-more vs a op 0 ops (region_of block_ops ∷ []) (passing-light vs (around_in a op 0) ops costs.light) (regions-more vs a op 1 block_ops [] block_passes (regions-none vs a op 2)))

  loop_not_shared : (t : List Row) (w : Within) (line : ℕ) (x : Name) (l k : Expr) (o : Option Expr) (c : _) (block : _) → body_faults t w line (Loop' x l k o c block) ≡ [] → is_shared w ≡ false
  loop_not_shared t w line x l k o c block f = not_shared w line (none_first _ _ (none_first _ _ (none_first _ _ (none_first _ _ (none_first _ _ (looked_into (is_masked w) line refusal.Unsupported _ f))))))

  none_together : (w : Within) (all : List _) → is_shared w ≡ false → FitTogether w all
  none_together w all other = record { phases = λ is. absurd (true≢false (sym is ∙ other)); temporaries = λ is. absurd (true≢false (sym is ∙ other)) }

  first_outside : (ops : List Op) (t : List Row) (l r : Expr) (inside : Bool) → inside ≡ false → First vs ops (p.assigned_pieces t inside l r) → First vs ops (p.assigned_pieces t false l r)
  first_outside ops t l r inside is h = subst (λ c. First vs ops (p.assigned_pieces t c l r)) is h

  mutual
    unfolding ◌then◌ done scoped statement_of assignment

    pub body-runs : (t u : List Row) → Alike t u → (w : Within) (line b : ℕ) (body : Body) → is_masked w ≡ false → IsFormed b body → IsSmallBody body → body_faults t w line body ≡ [] → body_limits u (is_shared w) line body ≡ [] → FitTogether w (body_steps u line body) →
        (s : Scope) (n : ℕ) (a : Around) → Knows t s → ScopeIsFound vs s → a.bodies ≤ b → Holds vs n (statement line body s n).ops → Runs types kinds found vs w a (statement line body s n).ops (body_steps u line body)
    body-runs t u alike w line b (Assign l r) outer i small f g together s n a knows here low h =
        let realloc = not s.masked && is_whole_allocatable s.names l in
        let held = regions-there vs n (what.Assign realloc) line [] None _ h in
        one-runs types kinds found vs w a (what.Assign realloc) line _ (p.assigned_pieces t false l r) (statement_steps u line (Assign l r)) (steps_are types kinds found vs t u alike line (Assign l r))
        (first-whole vs _ _ (first_outside _ t l r (is_inside w) (not_inside w outer) (assign-first types kinds found vs t w line l r s n i.0 i.1 f knows here realloc held)))
        (assign-regions types kinds found vs t w line l r s n i.0 i.1 f knows here realloc held a) g together (λ fits before. fits)
    body-runs t u alike w line b (Masked' mask c block d rest) outer i small f g together s n a knows here low h =
        let whole : Body = Masked' mask c block d rest in
        let r = masked-stands types kinds found vs t line mask block rest s n b a knows here i.1 line (none_first _ _ (none_first _ _ (none_first _ _ (looked_into (is_inside w) line refusal.Unsupported _ f)))) low
        (block-in types kinds found vs t line (mask_rank t mask) (1 + b) block i.2 (none_after _ _ (none_first _ _ (looked_into (is_inside w) line refusal.Unsupported _ f))))
        (elses-in types kinds found vs t line (mask_rank t mask) (1 + b) rest i.3 (none_after _ _ (looked_into (is_inside w) line refusal.Unsupported _ f)))
        (regions-there vs n what.Masked line [] None _ h) in
        one-runs types kinds found vs w a what.Masked line _ (p.statement_pieces t false whole) (statement_steps u line whole) (steps_are types kinds found vs t u alike line whole)
        (first-whole vs _ _ r.first) r.passing g together (λ fits before. and_from _ _ (few_bodies a b i.0 low) fits)
    body-runs t u alike w line b (Forall' [] mask c block) outer i small f g together s n a knows here low h = absurd (let some = i.1.0 in omega (arith, some))
    body-runs t u alike w line b (Forall' (x ∷ is) mask c block) outer i small f g together s n a knows here low h =
        let whole : Body = Forall' (x ∷ is) mask c block in
        let op = what.Forall (index_names (x ∷ is)) in
        let r = forall-stands types kinds found vs t line (1 + b) x is mask block s n a knows here i.1 i.2 (none_first _ _ (looked_into (is_masked w) line refusal.Unsupported _ f)) (none_after _ _ (looked_into (is_masked w) line refusal.Unsupported _ f))
        (regions-there vs n op line [] None _ h) in
        one-runs types kinds found vs w a op line _ (p.statement_pieces t false whole) (statement_steps u line whole) (steps_are types kinds found vs t u alike line whole)
        r.whole r.passing g together (λ fits before. and_from _ _ (few_bodies a b i.0 low) fits)
    body-runs t u alike w line b (Loop' x l k o c block) outer i small f g together s n a knows here low h =
        let other = loop_not_shared t w line x l k o c block f in
        alone types kinds found vs w a _ _ other
        (loop-passes t u alike w line b x l k o c block i f g
        (λ s' n' a' knows' here' low' h'. (block-runs (with_active t x) u (active-alike t u x alike) w (1 + b) block outer i.4 small.3 (none_after _ _ (looked_into (is_masked w) line refusal.Unsupported _ f)) (none_after _ _ g) (none_together w (block_steps u block) other) s' n' a' knows' here' low' h').passing)
        s n a knows here low h)
    body-runs t u alike w line b (Allocate ps) outer i small f g together s n a knows here low h =
        let all = allocate_pieces u ps in
        alone types kinds found vs w a _ _ (not_shared w line (none_first _ _ (looked_into (is_masked w) line refusal.Unsupported _ f)))
        (parts-allocated types kinds found vs t line s a knows here all (serial.allowed line all g) 0 ps n i small (none_after _ _ (looked_into (is_masked w) line refusal.Unsupported _ f)) (same_within types kinds found vs (allocate_pieces t ps) all (allocate-alike t u alike ps)) h)
    body-runs t u alike w line b (Deallocate xs) outer i small f g together s n a knows here low h =
        alone types kinds found vs w a _ _ (not_shared w line (none_first _ _ (looked_into (is_masked w) line refusal.Unsupported _ f))) (deallocated types kinds found vs line 0 xs s n a)
    body-runs t u alike w line b (Read es) outer i small f g together s n a knows here low h =
        let all = read_pieces u es in
        alone types kinds found vs w a _ _ (not_shared w line (none_first _ _ (looked_into (is_masked w) line refusal.Unsupported _ f)))
        (items-read types kinds found vs t line s a knows here all (serial.allowed line all g) 0 es n i (none_after _ _ (looked_into (is_masked w) line refusal.Unsupported _ f)) (same_within types kinds found vs (read_pieces t es) all (read-alike t u alike es)) h)
    body-runs t u alike within.Outside line b (Shared' c block) outer i small f g together s n a knows here low h =
        let op = what.Workshare in
        let scope = inside op line 0 (n + 0) s in
        let ops = (statements block scope (n + 0 + 0)).ops in
        let all = block_steps u block in
        let r = block-runs t u alike within.Shared (1 + b) block refl i.1 small f (none_first _ _ g) (record { phases = λ _. few-phases line all (none_after _ _ g); temporaries = λ _. few-temporaries line all (none_after _ _ g) }) scope (n + 0 + 0) (around_in a op 0)
        (knows-moved t s scope.masked scope.line knows) (found-moved vs s scope.masked scope.line here) (more_bodies a b low) (region-there vs (n + 0) op 0 ops [] (regions-there vs n op line [] None (region_of ops ∷ []) h)) in
        alone types kinds found vs within.Outside a _ _ refl
        (passing-op vs a op line [] None (region_of ops ∷ []) (λ before. and_from _ _ (few_bodies a b i.0 low) (share_fits types kinds found vs line ops all (r.phases refl) (r.temporaries refl) (none_after _ _ g)))
        (regions-more vs a op 0 ops [] r.passing (regions-none vs a op 1)))
    body-runs t u alike within.Shared line b (Shared' c block) outer i small f g together s n a knows here low h = impossible line refusal.Unsupported f
    body-runs t u alike within.Forall line b (Shared' c block) outer i small f g together s n a knows here low h = impossible line refusal.Unsupported f
    body-runs t u alike (within.Masked ml mr) line b (Shared' c block) outer i small f g together s n a knows here low h = impossible line refusal.Unsupported f
    body-runs t u alike w line b Unsupported outer i small f g together s n a knows here low h = impossible line refusal.Unsupported f
    body-runs t u alike w line b TooDeep outer i small f g together s n a knows here low h = impossible line refusal.OverLimit f

    block-runs : {m : Count} (t u : List Row) → Alike t u → (w : Within) (b : ℕ) (block : Stmts m) → is_masked w ≡ false → AreFormed b block → AreSmallStmts block → block_faults t w block ≡ [] → block_limits u (is_shared w) block ≡ [] → FitTogether w (block_steps u block) →
        (s : Scope) (n : ℕ) (a : Around) → Knows t s → ScopeIsFound vs s → a.bodies ≤ b → Holds vs n (statements block s n).ops → Runs types kinds found vs w a (statements block s n).ops (block_steps u block)
    block-runs t u alike w b end_stmts outer i small f g together s n a knows here low h = runs-none types kinds found vs w a
    block-runs t u alike w b (more_stmts line body rest) outer i small f g together s n a knows here low h =
        let m = n + numbers_of (statement line body s n).ops in
        runs-more types kinds found vs w a (statement line body s n).ops (statements rest s m).ops (body_steps u line body) (block_steps u rest)
        (body-runs t u alike w line b body outer i.0 small.0 (none_first _ _ f) (none_first _ _ g) (together-first w (body_steps u line body) (block_steps u rest) together) s n a knows here low (held-first vs (statement line body) (λ _. statements rest) s n h))
        (block-runs t u alike w b rest outer i.1 small.1 (none_after _ _ f) (none_after _ _ g) (together-rest w (body_steps u line body) (block_steps u rest) together) s m a knows here low (held-rest vs (statement line body) (λ _. statements rest) s n h))

  -- ---- the list of a whole program

  pub list-passes : (t : List Row) (xs : List Stmt) → All IsOuter xs → All IsSmallStmt xs → stmts_faults t within.Outside xs ≡ [] → stmts_limits t false xs ≡ [] → (s : Scope) (n : ℕ) (a : Around) → Knows t s → ScopeIsFound vs s → a.bodies ≤ 0 →
      Holds vs n (statement_list xs s n).ops → Passing vs a (statement_list xs s n).ops
  unfolding ◌then◌ done
  list-passes t [] i small f g s n a knows here low h = passing-none vs a
  list-passes t (x ∷ xs) i small f g s n a knows here low h =
      let q : Lowering ⊤ = statement x.line x.body in
      let m = n + numbers_of (q s n).ops in
      passing-append vs a (q s n).ops (statement_list xs s m).ops
      (body-runs t t (alike-self t) within.Outside x.line 0 x.body refl (body-formed anywhere 64 x.line 0 x.body (omega arith) (All-head IsOuter x xs i)) (All-head IsSmallStmt x xs small) (none_first _ _ f) (none_first _ _ g) (none_together within.Outside (body_steps t x.line x.body) refl) s n a knows here low
      (held-first vs q (λ _. statement_list xs) s n h)).passing
      (list-passes t xs (All-tail IsOuter x xs i) (All-tail IsSmallStmt x xs small) (none_after _ _ f) (none_after _ _ g) s m a knows here low (held-rest vs q (λ _. statement_list xs) s n h))
