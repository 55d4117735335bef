-- The bodies of all statements of an accepted source hold what they may.
use Rattle.std.proofs.Common.{◌≡◌, refl, sym, ap, ◌∙◌, subst, ℕ, ◌+◌, Bool, false, List, [], ◌∷◌, ◌++◌, map, length, Option, None, All}
use Rattle.std.proofs.lemmas.List.Elements.{All-head, All-tail}
use mathlib.Core.Former.{Count}
use Rattle.ws_base.specs.declared.name.Name.{Name}
use Rattle.ws_tree.specs.declared.expr.Expr.{Expr}
use Rattle.ws_tree.specs.declared.stmt.Body.{Body}
use Rattle.ws_tree.specs.declared.stmt.Body.TheVariants.{Assign, Masked', Forall', Loop', Allocate, Deallocate, Read, Shared', Unsupported, TooDeep as TooDeep'}
use Rattle.ws_tree.specs.declared.stmt.Else.{Else'}
use Rattle.ws_tree.specs.declared.stmt.Index.{Index}
use Rattle.ws_tree.specs.declared.stmt.Stmt.{Stmt}
use Rattle.ws_tree.specs.Trees.{Stmts, end_stmts, more_stmts, Elses, end_elses, more_elses}
use Rattle.ws_tree.specs.Grammatical as grammar
use Rattle.ws_tree.specs.Grammatical.Within.{anywhere, in_where}
use Rattle.ws_tree.specs.Grammatical.{IsSide, IsOptional, IsBody, AreStmts, AreElses}
use Rattle.ws_types.specs.declared.types.Row.{Row}
use Rattle.ws_types.specs.Tables.{barred, inner}
use Rattle.ws_types.specs.Names.{standing_of}
use Rattle.ws_types.specs.Expressions.{typed, faults}
use Rattle.ws_sema.specs.declared.within.Within.{Within}
use Rattle.ws_sema.specs.declared.within.Within.TheVariants as within
use Rattle.ws_sema.specs.Statements.{header_faults, forall_mask_faults, loop_faults, enclosing_rank, under, mask_rank, mask_faults, with_active, else_mask_faults, else_control, block_faults, body_faults, elses_faults, stmts_faults}
use Rattle.ws_sema.proofs.NoFaults.{none_first, none_after}
use Rattle.ws_sema.proofs.Grammar.{where_parts, else_parts, forall_parts, loop_parts, shared_parts}
use Rattle.hlfir_ops.specs.declared.what.What.TheVariants as what
use Rattle.hlfir_ops.specs.declared.op.Op.{Op}
use Rattle.hlfir_ops.specs.Trees.{region_of}
use Rattle.hlfir_ops.specs.Numbers.{numbers_of}
use Rattle.hlfir_ops.specs.Rules.{where_of, forall_of}
use Rattle.hlfir_ops.specs.RulesStatements.{fits_forall}
use Rattle.hlfir_ops.specs.RulesValues.{Value}
use Rattle.kind_laws.specs.Standing.{Knows}
use Rattle.kind_laws.specs.Found.{ScopeIsFound}
use Rattle.lower_values.specs.Scopes.{inside}
use Rattle.lower_values.specs.Lowerings.{◌>>=◌, scoped, regions_from, statement_of}
use Rattle.lower_values.specs.References.{declare_of}
use Rattle.lower_values.specs.Values.{value}
use Rattle.lower_assign.specs.Statements.{yielded, all_yielded}
use Rattle.lower_constructs.specs.Lists.{mask_of}
use Rattle.lower_constructs.specs.Modules.{triple, triples, forall_mask, third, elsewhere, statement, statements, elsewheres, statement_list}
use Rattle.place_laws.proofs.Lowered.{makes-then, makes-statement, regions-none, regions-more}
use Rattle.place_laws.proofs.PlainSides.{plain-all_yielded, plain-triple, plain-triples}
use Rattle.kind_laws.proofs.Held.{held-rest, held-statement}
use Rattle.kind_laws.proofs.ScopesKnown.{forall_known, loop_known}
use Rattle.kind_laws.proofs.ScopesFound.{inside_found}
use Rattle.kind_laws.proofs.Faultless.{where_faultless, else_faultless, forall_faultless, loop_faultless, shared_faultless, IsOuter}
use Rattle.kind_laws.proofs.Ends.{ops_in-second}
use Rattle.place_laws.proofs.Keeping.{Keeps, keeps-done, keeps-then, keeps-region, keeps-where, keeps-elsewhere, elsewhere-is}
use Rattle.place_laws.proofs.WhereBodies.{where-fits, elsewhere-fits}
use Rattle.place_laws.proofs.ForallBodies.{forall-fits}
use Rattle.place_laws.proofs.Bodies.{bodies, bodies-op, free-op, plains, free-plain, free-assignment, free-forall_mask, free-allocations, free-deallocations, free-readings}

module _ (vs : List Value) where
  abbrev T : Op → Bool
  T = bodies vs

  masked-bodies : {b c : Count} (place : grammar.Within) (room others : ℕ) (t : List Row) (enclosing : Option ℕ) (line : ℕ) (mask : Expr) (block : Stmts b) (rest : Elses c) → IsSide mask → AreStmts place room block → AreElses others rest →
      faults t false line mask ++ mask_faults line enclosing (typed t false mask) ≡ [] → block_faults t (under t line mask) block ≡ [] → elses_faults t line (mask_rank t mask) rest ≡ [] → Keeps vs T t (statements block) → Keeps vs T t (elsewheres rest) →
      Keeps vs T t (statement_of what.Masked line [] (yielded (value mask) ∷ statements block ∷ third rest (elsewheres rest)))
  unfolding forall_of
  masked-bodies place room others t enclosing line mask block rest g a e f inner outer block_keeps rest_keeps s n k there h =
      let ps = yielded (value mask) ∷ statements block ∷ third rest (elsewheres rest) in
      let regions = held-statement vs what.Masked line [] ps s n h in
      makes-statement T s n what.Masked line [] ps
      (bodies-op vs what.Masked line [] None (regions_from what.Masked line 0 (n + 0) ps s) (where-fits vs enclosing place room others t line (n + 0) mask block rest s g a e f inner outer k there regions) refl)
      (keeps-where vs T (plains vs) t line s k there (n + 0) mask block rest block_keeps rest_keeps regions)

  elsewhere-bodies : {b : Count} (place : grammar.Within) (room : ℕ) (t : List Row) (own line : ℕ) (enclosing : Option ℕ) (mask : Option Expr) (block : Stmts b) → IsOptional mask → AreStmts place room block →
      else_mask_faults t own enclosing mask ≡ [] → block_faults t (else_control t own line enclosing mask) block ≡ [] → Keeps vs T t (statements block) → Keeps vs T t (elsewhere own mask (statements block))
  unfolding forall_of
  elsewhere-bodies place room t own line enclosing mask block g a f inner block_keeps = subst (Keeps vs T t) (sym (elsewhere-is own mask (statements block))) (λ s n k there h.
      let ps = mask_of mask ++ statements block ∷ [] in
      let regions = held-statement vs what.Elsewhere own [] ps s n h in
      makes-statement T s n what.Elsewhere own [] ps
      (bodies-op vs what.Elsewhere own [] None (regions_from what.Elsewhere own 0 (n + 0) ps s) (elsewhere-fits vs place room t own line (n + 0) enclosing mask block s g a f inner k there regions) refl)
      (keeps-elsewhere vs T (plains vs) t own s k there (n + 0) mask (statements block) block_keeps regions))

  forall-bodies : {b : Count} (place : grammar.Within) (room : ℕ) (t : List Row) (line : ℕ) (is : List Index) (mask : Option Expr) (block : Stmts b) → IsOptional mask → AreStmts place room block →
      header_faults t (barred t is) line [] is ≡ [] → forall_mask_faults (inner t is) line mask ≡ [] → block_faults (inner t is) within.Forall block ≡ [] → Keeps vs T (inner t is) (statements block) →
      Keeps vs T t (statement_of (what.Forall (map (λ i. i.name) is)) line [] (all_yielded (triples is) ∷ (forall_mask mask >>= (λ _. statements block)) ∷ []))
  unfolding where_of forall_of
  forall-bodies place room t line is mask block g a header f inside_f block_keeps s n k there h =
      let names = map (λ i. i.name) is in
      let w = what.Forall names in
      let p = all_yielded (triples is) in
      let q = forall_mask mask >>= (λ _. statements block) in
      let ps = p ∷ q ∷ [] in
      let regions = held-statement vs w line [] ps s n h in
      let c = inside w line 0 (n + 0) s in
      let i = (n + 0) + 0 in
      let m = (n + 0) + (0 + numbers_of (p c i).ops) in
      let d = inside w line 1 m s in
      let j = m + length names in
      let after = regions.2 in
      let known : Knows (inner t is) d = forall_known t s is line line m header k in
      let scope : ScopeIsFound vs d = inside_found vs s w line 1 m after.0 there in
      let held = after.1 in
      let fits = ap (fits_forall vs) (ops_in-second (region_of (p c i).ops) (q d j).ops []) ∙ forall-fits vs place room (inner t is) line mask block d j g a f inside_f known scope held in
      makes-statement T s n w line [] ps (bodies-op vs w line [] None (regions_from w line 0 (n + 0) ps s) refl fits)
      (regions-more T s (n + 0) w line 0 p (q ∷ []) (free-plain vs p (plain-all_yielded (triples is) (plain-triples is)) c i)
      (regions-more T s m w line 1 q []
      (makes-then T d j (forall_mask mask) (λ _. statements block) (free-forall_mask vs mask d j)
      (block_keeps d (j + numbers_of (forall_mask mask d j).ops) known scope (held-rest vs (forall_mask mask) (λ _. statements block) d j held)))
      (regions-none T s (m + (length names + numbers_of (q d j).ops)) w line 2)))

  loop-bodies : {b : Count} (t : List Row) (w : Within) (line : ℕ) (x : Name) (l u : Expr) (st : Option Expr) (block : Stmts b) → loop_faults w line (standing_of t x) ≡ [] → Keeps vs T (with_active t x) (statements block) →
      Keeps vs T t (scoped (λ c. statement_of what.DoLoop line ((declare_of c.names x).value ∷ []) (all_yielded (triple l u st) ∷ statements block ∷ [])))
  unfolding scoped
  loop-bodies t w line x l u st block f block_keeps s n k there h =
      let p = all_yielded (triple l u st) in
      let q = statements block in
      let operands = (declare_of s.names x).value ∷ [] in
      let regions = held-statement vs what.DoLoop line operands (p ∷ q ∷ []) s n h in
      let c = inside what.DoLoop line 0 (n + 0) s in
      let m = (n + 0) + (0 + numbers_of (p c ((n + 0) + 0)).ops) in
      let after = regions.2 in
      makes-statement T s n what.DoLoop line operands (p ∷ q ∷ []) (free-op vs what.DoLoop line operands None (regions_from what.DoLoop line 0 (n + 0) (p ∷ q ∷ []) s) refl)
      (regions-more T s (n + 0) what.DoLoop line 0 p (q ∷ []) (free-plain vs p (plain-all_yielded (triple l u st) (plain-triple l u st)) c ((n + 0) + 0))
      (regions-more T s m what.DoLoop line 1 q [] (keeps-region vs T (plains vs) (with_active t x) line s (loop_known t s w line x f k) there what.DoLoop 1 m q [] refl block_keeps after)
      (regions-none T s (m + (0 + numbers_of (q (inside what.DoLoop line 1 m s) (m + 0)).ops)) what.DoLoop line 2)))

  shared-bodies : {b : Count} (t : List Row) (line : ℕ) (block : Stmts b) → Keeps vs T t (statements block) → Keeps vs T t (statement_of what.Workshare line [] (statements block ∷ []))
  shared-bodies t line block block_keeps s n k there h =
      let q = statements block in
      let regions = held-statement vs what.Workshare line [] (q ∷ []) s n h in
      makes-statement T s n what.Workshare line [] (q ∷ []) (free-op vs what.Workshare line [] None (regions_from what.Workshare line 0 (n + 0) (q ∷ []) s) refl)
      (regions-more T s (n + 0) what.Workshare line 0 q [] (keeps-region vs T (plains vs) t line s k there what.Workshare 0 (n + 0) q [] refl block_keeps regions)
      (regions-none T s ((n + 0) + (0 + numbers_of (q (inside what.Workshare line 0 (n + 0) s) ((n + 0) + 0)).ops)) what.Workshare line 1))

  -- ---- statements

  mutual
    keeps-body : (place : grammar.Within) (room : ℕ) (t : List Row) (w : Within) (line : ℕ) (body : Body) → IsBody place room line body → body_faults t w line body ≡ [] → Keeps vs T t (statement line body)
    keeps-body place room t w line (Assign l e) g f = λ s n k there h. free-assignment vs line l e s n
    keeps-body place room t w line (Masked' mask c block d rest) g f =
        let parts = where_parts place room line mask c block d rest g in
        let right = where_faultless t w line mask c block d rest f in
        masked-bodies parts.1.place parts.1.room parts.2.room t (enclosing_rank w) line mask block rest parts.0 parts.1.stands parts.2.stands right.in_header right.in_block right.in_rest
        (keeps-block parts.1.place parts.1.room t (under t line mask) block parts.1.stands right.in_block) (keeps-elses parts.2.room t line (mask_rank t mask) rest parts.2.stands right.in_rest)
    keeps-body place room t w line (Forall' is mask c block) g f =
        let parts = forall_parts place room line is mask c block g in
        let right = forall_faultless t w line is mask c block f in
        forall-bodies parts.1.place parts.1.room t line is mask block parts.0.2 parts.1.stands right.in_triplets right.in_mask right.in_block
        (keeps-block parts.1.place parts.1.room (inner t is) within.Forall block parts.1.stands right.in_block)
    keeps-body place room t w line (Loop' x l u st c block) g f =
        let parts = (loop_parts place room line x l u st c block g).3 in
        let right = loop_faultless t w line x l u st c block f in
        loop-bodies t w line x l u st block right.in_variable (keeps-block parts.place parts.room (with_active t x) w block parts.stands right.in_block)
    keeps-body place room t w line (Shared' c block) g f =
        let parts = shared_parts place room line c block g in
        shared-bodies t line block (keeps-block parts.place parts.room t within.Shared block parts.stands (shared_faultless t w line c block f))
    keeps-body place room t w line (Allocate ps) g f = λ s n k there h. free-allocations vs line ps s n
    keeps-body place room t w line (Deallocate xs) g f = λ s n k there h. free-deallocations vs line xs s n
    keeps-body place room t w line (Read es) g f = λ s n k there h. free-readings vs line es s n
    keeps-body place room t w line Unsupported g f = keeps-done vs T t
    keeps-body place room t w line TooDeep' g f = keeps-done vs T t

    keeps-block : {m : Count} (place : grammar.Within) (room : ℕ) (t : List Row) (w : Within) (block : Stmts m) → AreStmts place room block → block_faults t w block ≡ [] → Keeps vs T t (statements block)
    keeps-block place room t w end_stmts g f = keeps-done vs T t
    keeps-block place room t w (more_stmts line body rest) g f =
        keeps-then vs T t (statement line body) (statements rest) (keeps-body place room t w line body g.0 (none_first (body_faults t w line body) (block_faults t w rest) f))
        (keeps-block place room t w rest g.1 (none_after (body_faults t w line body) (block_faults t w rest) f))

    keeps-elses : {m : Count} (room : ℕ) (t : List Row) (line : ℕ) (first : Option ℕ) (es : Elses m) → AreElses room es → elses_faults t line first es ≡ [] → Keeps vs T t (elsewheres es)
    keeps-elses room t line first end_elses g f = keeps-done vs T t
    keeps-elses room t line first (more_elses (Else' own mask c block) rest) g f =
        let parts = else_parts room own mask c block rest g in
        let right = else_faultless t own line first mask c block rest f in
        keeps-then vs T t (elsewhere own mask (statements block)) (elsewheres rest)
        (elsewhere-bodies in_where room t own line first mask block parts.0 parts.1 right.in_header right.in_block (keeps-block in_where room t (else_control t own line first mask) block parts.1 right.in_block))
        (keeps-elses parts.2.room t line first rest parts.2.stands right.in_rest)

  pub keeps-list : (t : List Row) (w : Within) (xs : List Stmt) → All IsOuter xs → stmts_faults t w xs ≡ [] → Keeps vs T t (statement_list xs)
  keeps-list t w [] g f = keeps-done vs T t
  keeps-list t w (x ∷ xs) g f =
      keeps-then vs T t (statement x.line x.body) (statement_list xs) (keeps-body anywhere 64 t w x.line x.body (All-head IsOuter x xs g) (none_first _ _ f)) (keeps-list t w xs (All-tail IsOuter x xs g) (none_after _ _ f))
