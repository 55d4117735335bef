-- The ops of each accepted statement are right.
use Rattle.std.proofs.Common.{◌≡◌, refl, sym, ap, ◌∙◌, ℕ, Bool, true, false, not, ◌&&◌, List, [], ◌∷◌, map, All, Option, Some, None, true≢false, if◌then◌else◌}
use Rattle.std.proofs.lemmas.List.Elements.{All-head, All-tail}
use mathlib.Core.Former.{Count}
use Rattle.ws_base.specs.declared.refusal.Refusal.{Refusal}
use Rattle.ws_base.specs.declared.refusal.RefusalKind.TheVariants as kind
use Rattle.ws_tree.specs.declared.expr.Expr.{Expr}
use Rattle.ws_tree.specs.declared.stmt.Stmt.{Stmt}
use Rattle.ws_tree.specs.declared.stmt.Body.{Body}
use Rattle.ws_tree.specs.declared.stmt.Body.TheVariants.{Assign, Masked', Forall', Loop', Allocate, Deallocate, Read, Shared', Unsupported, TooDeep as TooDeep'}
use Rattle.ws_tree.specs.declared.stmt.Else.{Else'}
use Rattle.ws_tree.specs.Trees.{Stmts, end_stmts, more_stmts, Elses, end_elses, more_elses}
use Rattle.ws_tree.specs.Grammatical as grammar
use Rattle.ws_tree.specs.Grammatical.{IsOptional, IsBody, AreStmts, AreElses}
use Rattle.ws_tree.specs.Grammatical.Within.{anywhere, in_where}
use Rattle.ws_types.specs.declared.types.Row.{Row}
use Rattle.ws_types.specs.Kinds.{when}
use Rattle.ws_types.specs.Tables.{inner}
use Rattle.ws_sema.specs.declared.within.Within.{Within}
use Rattle.ws_sema.specs.declared.within.Within.TheVariants as within
use Rattle.ws_sema.specs.Statements.{is_inside, is_masked, is_outside, under, mask_rank, else_control, with_active, block_faults, body_faults, elses_faults, stmts_faults}
use Rattle.ws_sema.proofs.NoFaults.{none_first, none_after, impossible}
use Rattle.ws_sema.proofs.Grammar.{no_else, where_parts, forall_parts, loop_parts, shared_parts, allocated_parts, read_parts}
use Rattle.hlfir_ops.specs.declared.what.What.TheVariants as what
use Rattle.hlfir_ops.specs.RulesValues.{Value}
use Rattle.lower_values.specs.Scopes.{Scope, inside}
use Rattle.lower_values.specs.Lowerings.{◌>>◌}
use Rattle.lower_constructs.specs.Modules.{forall_mask, elsewhere, statement, statements, elsewheres, statement_list}
use Rattle.kind_laws.specs.Standing.{Knows}
use Rattle.kind_laws.specs.Found.{ScopeIsFound}
use Rattle.kind_laws.proofs.ScopesKnown.{forall_known, loop_known}
use Rattle.yield_laws.proofs.Scopes.{IsWithin}
use Rattle.yield_laws.proofs.Holders.{Statement, after, no-statement}
use Rattle.yield_laws.proofs.Plain.{walks-assignment, walks-allocations, walks-deallocations, walks-readings}
use Rattle.kind_laws.proofs.Faultless.{where_faultless, else_faultless, forall_faultless, loop_faultless, shared_faultless, allocate_faultless, read_faultless, IsOuter}
use Rattle.kind_laws.proofs.ScopesMoved.{moved, knows-moved, found-moved}
use Rattle.yield_laws.proofs.Constructs.{walks-where, walks-shared, walks-elsewhere, walks-loop, walks-test, walks-forall}

-- ---- places of blocks

-- in a WHERE or ELSEWHERE
under_where : (line : ℕ) (rank : Option ℕ) (s : Scope) → s.masked ≡ true → IsWithin (within.Masked line rank) s true
under_where line rank s is = record { around = refl; masked = is }

else_within : (t : List Row) (own line : ℕ) (first : Option ℕ) (e : Option Expr) (s : Scope) → s.masked ≡ true → IsWithin (else_control t own line first e) s true
else_within t own line first None s is = under_where line first s is
else_within t own line first (Some e) s is = under_where own _ s is

-- a WHERE is no FORALL's
none_masked : (w : Within) (s : Scope) (m : Bool) → IsWithin w s m → is_masked w ≡ false → s.masked ≡ false
none_masked w s m h is = h.masked ∙ ap (λ b. b && not (is_inside w)) is

-- a workshare stands in no mask
shared_within : (w : Within) (s s' : Scope) (m : Bool) → IsWithin w s m → is_outside w ≡ true → s'.masked ≡ s.masked → IsWithin within.Shared s' m
shared_within within.Outside s s' m h o is = record { around = h.around; masked = is ∙ h.masked }
shared_within within.Shared s s' m h o is = record { around = h.around; masked = is ∙ h.masked }
shared_within (within.Masked line rank) s s' m h o is = absurd (true≢false (sym o))
shared_within within.Forall s s' m h o is = absurd (true≢false (sym o))

right_outside : (w : Within) (line : ℕ) (xs : List Refusal) → (if is_outside w then xs else when true line kind.Unsupported) ≡ [] → is_outside w ≡ true
right_outside within.Outside line xs f = refl
right_outside within.Shared line xs f = impossible line kind.Unsupported f
right_outside (within.Masked l rank) line xs f = impossible line kind.Unsupported f
right_outside within.Forall line xs f = impossible line kind.Unsupported f

module _ (vs : List Value) where
  mutual
    pub walks-body : (k : grammar.Within) (room : ℕ) (t : List Row) (w : Within) (line : ℕ) (body : Body) → IsBody k room line body → body_faults t w line body ≡ [] → (s : Scope) → Knows t s → ScopeIsFound vs s → (m : Bool) → IsWithin w s m → (n : ℕ) →
        Statement vs m s n (statement line body)
    walks-body k room t w line (Assign left right) h f s knows scope m in_ n = walks-assignment vs t w line s knows scope m left right h.0 h.1 f in_ n
    walks-body k room t w line (Masked' mask c block d rest) h f s knows scope m in_ n =
        let parts = where_parts k room line mask c block d rest h in
        let right = where_faultless t w line mask c block d rest f in
        walks-where vs t line s knows scope m n mask parts.0 right.in_mask (statements block)
        (λ i j. walks-block parts.1.place parts.1.room t (under t line mask) block parts.1.stands right.in_block (inside what.Masked line 1 i s) (knows-moved t s true line knows) (found-moved vs s true line scope) true
        (under_where line (mask_rank t mask) (inside what.Masked line 1 i s) refl) j) rest (elsewheres rest)
        (λ i j. walks-elses parts.2.room t line (mask_rank t mask) rest parts.2.stands right.in_rest (inside what.Masked line 2 i s) (knows-moved t s true line knows) (found-moved vs s true line scope) refl j)
    walks-body k room t w line (Forall' is mask c block) h f s knows scope m in_ n =
        let parts = forall_parts k room line is mask c block h in
        let right = forall_faultless t w line is mask c block f in
        let none = none_masked w s m in_ right.unmasked in
        let f' = what.Forall (map (λ i. i.name) is) in
        walks-forall vs t line s knows scope m n is mask parts.0 right.in_triplets (forall_mask mask >> statements block)
        (λ i j found.
        let s' = inside f' line 1 i s in
        let known = forall_known t s is line line i right.in_triplets knows in
        after vs true s' j (forall_mask mask) (statements block) (walks-test vs (inner t is) line s' known found true j mask parts.0.2 right.in_mask)
        (λ l. walks-block parts.1.place parts.1.room (inner t is) within.Forall block parts.1.stands right.in_block s' known found true (record { around = refl; masked = none }) l))
    walks-body k room t w line (Loop' x l u o c block) h f s knows scope m in_ n =
        let parts = loop_parts k room line x l u o c block h in
        let right = loop_faultless t w line x l u o c block f in
        walks-loop vs t line s knows scope w m n x l u o parts.0 parts.1 parts.2 right.in_variable right.in_first right.in_last right.in_step (statements block)
        (λ i j. walks-block parts.3.place parts.3.room (with_active t x) w block parts.3.stands right.in_block (inside what.DoLoop line 1 i s)
        (loop_known t (inside what.DoLoop line 1 i s) w line x right.in_variable (knows-moved t s s.masked line knows)) (found-moved vs s s.masked line scope) m (record { around = in_.around; masked = in_.masked }) j)
    walks-body k room t w line (Allocate ps) h f s knows scope m in_ n =
        walks-allocations vs t w line s knows scope m ps (allocated_parts k room line ps h) (allocate_faultless t w line ps f) n
    walks-body k room t w line (Deallocate xs) h f s knows scope m in_ n = walks-deallocations vs t w line s knows scope m xs n
    walks-body k room t w line (Read es) h f s knows scope m in_ n =
        walks-readings vs t w line s knows scope m es (read_parts k room line es h) (read_faultless t w line es f) n
    walks-body k room t w line (Shared' c block) h f s knows scope m in_ n =
        let parts = shared_parts k room line c block h in
        walks-shared vs t line s knows scope m n (statements block)
        (λ i j. walks-block parts.place parts.room t within.Shared block parts.stands (shared_faultless t w line c block f) (inside what.Workshare line 0 i s) (knows-moved t s s.masked line knows) (found-moved vs s s.masked line scope) m
        (shared_within w s (inside what.Workshare line 0 i s) m in_ (right_outside w line _ f) refl) j)
    walks-body k room t w line Unsupported h f s knows scope m in_ n = no-statement vs m s n
    walks-body k room t w line TooDeep' h f s knows scope m in_ n = no-statement vs m s n

    walks-block : {j : Count} (k : grammar.Within) (room : ℕ) (t : List Row) (w : Within) (block : Stmts j) → AreStmts k room block → block_faults t w block ≡ [] → (s : Scope) → Knows t s → ScopeIsFound vs s → (m : Bool) → IsWithin w s m → (n : ℕ) →
        Statement vs m s n (statements block)
    walks-block k room t w end_stmts h f s knows scope m in_ n = no-statement vs m s n
    walks-block k room t w (more_stmts line body rest) h f s knows scope m in_ n =
        after vs m s n (statement line body) (statements rest) (walks-body k room t w line body h.0 (none_first _ _ f) s knows scope m in_ n) (λ i. walks-block k room t w rest h.1 (none_after _ _ f) s knows scope m in_ i)

    walks-elses : {j : Count} (room : ℕ) (t : List Row) (line : ℕ) (first : Option ℕ) (es : Elses j) → AreElses room es → elses_faults t line first es ≡ [] → (s : Scope) → Knows t s → ScopeIsFound vs s → s.masked ≡ true → (n : ℕ) → Statement vs true s n (elsewheres es)
    walks-elses room t line first end_elses h f s knows scope is n = no-statement vs true s n
    walks-elses room t line first (more_elses (Else' own (Some mask) c block) rest) h f s knows scope is n =
        let right = else_faultless t own line first (Some mask) c block rest f in
        after vs true s n (elsewhere own (Some mask) (statements block)) (elsewheres rest)
        (walks-elsewhere vs t own s knows scope n first (Some mask) h.0 right.in_header (statements block)
        (λ q i j. walks-block in_where room t (else_control t own line first (Some mask)) block h.1 right.in_block (moved s.masked own s) (knows-moved t s s.masked own knows) (found-moved vs s s.masked own scope) true
        (else_within t own line first (Some mask) (moved s.masked own s) is) j)) (λ i. walks-elses room t line first rest h.2 right.in_rest s knows scope is i)
    walks-elses room t line first (more_elses (Else' own None c block) rest) h f s knows scope is n =
        let right = else_faultless t own line first None c block rest f in
        after vs true s n (elsewhere own None (statements block)) (elsewheres rest)
        (walks-elsewhere vs t own s knows scope n first None tt refl (statements block)
        (λ q i j. walks-block in_where room t (else_control t own line first None) block h.0 right.in_block (moved s.masked own s) (knows-moved t s s.masked own knows) (found-moved vs s s.masked own scope) true
        (else_within t own line first None (moved s.masked own s) is) j)) (λ i. walks-elses 0 t line first rest (no_else rest h.1) right.in_rest s knows scope is i)

  pub walks-statements : (t : List Row) (w : Within) (ss : List Stmt) → All IsOuter ss → stmts_faults t w ss ≡ [] → (s : Scope) → Knows t s → ScopeIsFound vs s → (m : Bool) → IsWithin w s m → (n : ℕ) → Statement vs m s n (statement_list ss)
  walks-statements t w [] h f s knows scope m in_ n = no-statement vs m s n
  walks-statements t w (x ∷ xs) h f s knows scope m in_ n =
      after vs m s n (statement x.line x.body) (statement_list xs) (walks-body anywhere 64 t w x.line x.body (All-head IsOuter x xs h) (none_first _ _ f) s knows scope m in_ n)
      (λ i. walks-statements t w xs (All-tail IsOuter x xs h) (none_after _ _ f) s knows scope m in_ i)
