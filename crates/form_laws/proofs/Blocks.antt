-- Blocks of statements, by induction on the tree.
use Rattle.std.proofs.Common.{◌≡◌, refl, ap, ℕ, true, false, nat_lt, List, [], ◌∷◌, map, All, Option, Some, None}
use Rattle.std.proofs.lemmas.List.Elements.{All-head, All-tail}
use Rattle.std.proofs.lemmas.Bool.{and_from}
use mathlib.Core.Former.{Count}
use Rattle.ws_base.specs.declared.name.Name.{Name}
use Rattle.ws_tree.specs.declared.stmt.Stmt.{Stmt}
use Rattle.ws_tree.specs.declared.stmt.Body.{Body}
use Rattle.ws_tree.specs.declared.stmt.Body.TheVariants.{Assign, Masked', Forall', Loop', Allocate, Deallocate, Read, Shared', Unsupported, TooDeep as TooDeep'}
use Rattle.ws_tree.specs.declared.stmt.Else.{Else'}
use Rattle.ws_tree.specs.Trees.{Stmts, end_stmts, more_stmts, Elses, end_elses, more_elses}
use Rattle.ws_tree.specs.Grammatical as grammar
use Rattle.ws_tree.specs.Grammatical.{IsSide, IsDesignator, IsOptional, IsIndex, IsPart, IsBody, AreStmts, AreElses}
use Rattle.ws_tree.specs.Grammatical.Within.{anywhere, in_where}
use Rattle.ws_types.specs.declared.types.Row.{Row}
use Rattle.ws_types.specs.Names.{standing_of}
use Rattle.ws_types.specs.Tables.{barred, inner}
use Rattle.ws_sema.specs.declared.within.Within.{Within}
use Rattle.ws_sema.specs.declared.within.Within.TheVariants as within
use Rattle.ws_sema.specs.Statements.{is_inside, item_faults, allocation_faults, deallocation_faults, loop_faults, under, mask_rank, else_control, with_active, block_faults, body_faults, elses_faults, stmts_faults}
use Rattle.ws_sema.proofs.NoFaults.{none_first, none_after}
use Rattle.ws_sema.proofs.Grammar.{where_parts, forall_parts, loop_parts, shared_parts, allocated_parts, read_parts, no_else}
use Rattle.hlfir_ops.specs.declared.what.What.{What}
use Rattle.hlfir_ops.specs.declared.what.What.TheVariants as what
use Rattle.hlfir_ops.specs.RulesValues.{Value, value_at, is_integer_declare}
use Rattle.lower_values.specs.Scopes.{Scope, inside}
use Rattle.lower_values.specs.Lowerings.{◌>>◌, statement_of}
use Rattle.lower_values.specs.References.{declare_of}
use Rattle.lower_values.specs.Values.{value}
use Rattle.lower_assign.specs.Statements.{yielded, all_yielded, allocation, deallocation, reading}
use Rattle.lower_constructs.specs.Modules.{triple, triples, forall_mask, elsewhere, statement, statements, elsewheres, statement_list}
use Rattle.kind_laws.proofs.ScopesFound.{loop_variables_are_found}
use Rattle.kind_laws.proofs.Faultless.{where_faultless, else_faultless, forall_faultless, loop_faultless, shared_faultless, allocate_faultless, deallocate_faultless, read_faultless, each_faultless, IsOuter}
use Rattle.form_laws.proofs.Stages.{Stage, stage-region, stage-active, stage-barred, stage-inner}
use Rattle.form_laws.proofs.Regions.{Walks, walks-done, walks-then, walks-scoped, walks-yielded, walks-all_yielded, walks-statement, walks-in_turn}
use Rattle.form_laws.proofs.Sides.{walks-side}
use Rattle.form_laws.proofs.Constructs.{names_of, walks-triple, walks-triples, walks-forall_mask, walks-masked}
use Rattle.form_laws.proofs.Statements.{walks-assignment, walks-deallocation, walks-allocation, walks-reading}

module _ (vs : List Value) where
  -- the variable of a DO is found
  variable_found : (t : List Row) (s : Scope) → Stage vs t s → (x : Name) (w : Within) (line : ℕ) → loop_faults w line (standing_of t x) ≡ [] → is_integer_declare (value_at vs (declare_of s.names x).value) ≡ true
  variable_found t s h x w line f =
      ap is_integer_declare (loop_variables_are_found t s vs w line x h.knows h.scope f)

  mutual
    pub walks-body : (k : grammar.Within) (room : ℕ) (t : List Row) (w : Within) (line : ℕ) (body : Body) (s : Scope) → Stage vs t s → IsBody k room line body → body_faults t w line body ≡ [] → Walks vs s (statement line body)
    walks-body k room t w line (Assign left right) s h g f =
        let sides = none_first _ _ (none_first _ _ f) in
        walks-assignment vs t s h (is_inside w) line left right g.0 g.1 (none_first _ _ (none_first _ _ (none_first _ _ sides))) (none_after _ _ sides)
    walks-body k room t w line (Masked' mask c block d rest) s h g f =
        let parts = where_parts k room line mask c block d rest g in
        let right = where_faultless t w line mask c block d rest f in
        walks-masked vs line (yielded (value mask)) (statements block) rest s
        (λ m names. let o = inside what.Masked line 0 m s in walks-yielded vs o (value mask) (walks-side vs t o (stage-region vs t s h what.Masked line 0 m refl names) false line mask parts.0 right.in_mask))
        (λ m names. walks-block parts.1.place parts.1.room t (under t line mask) block (inside what.Masked line 1 m s) (stage-region vs t s h what.Masked line 1 m refl names) parts.1.stands right.in_block)
        (λ m names. walks-elses parts.2.room t line (mask_rank t mask) rest (inside what.Masked line 2 m s) (stage-region vs t s h what.Masked line 2 m refl names) parts.2.stands right.in_rest)
    walks-body k room t w line (Forall' is mask c block) s h g f =
        let parts = forall_parts k room line is mask c block g in
        let right = forall_faultless t w line is mask c block f in
        let v : What = what.Forall (map (λ i. i.name) is) in
        walks-statement vs v line [] (all_yielded (triples is) ∷ (forall_mask mask >> statements block) ∷ []) s refl (λ n. refl) (
          (λ m names. let o = inside v line 0 m s in
              walks-all_yielded vs o (triples is) (walks-triples vs (barred t is) o (stage-barred vs t s h is line m names) line t [] is parts.0.1 right.in_triplets)),
          (
            (λ m names.
                let o = inside v line 1 m s in
                let stage = stage-inner vs t s h is line m right.in_triplets names in
                walks-then vs o (forall_mask mask) (λ _. statements block) (walks-forall_mask vs (inner t is) o stage line mask parts.0.2 right.in_mask)
                (λ _. walks-block parts.1.place parts.1.room (inner t is) within.Forall block o stage parts.1.stands right.in_block)),
            tt,
          ),
        )
    walks-body k room t w line (Loop' x l u step c block) s h g f =
        let parts = loop_parts k room line x l u step c block g in
        let right = loop_faultless t w line x l u step c block f in
        let declare = (declare_of s.names x).value in
        walks-scoped vs s (λ o. statement_of what.DoLoop line ((declare_of o.names x).value ∷ []) (all_yielded (triple l u step) ∷ statements block ∷ []))
        (walks-statement vs what.DoLoop line (declare ∷ []) (all_yielded (triple l u step) ∷ statements block ∷ []) s refl
        (λ n. and_from (is_integer_declare (value_at vs declare)) true (variable_found t s h x w line right.in_variable) refl) (
          (λ m names. let o = inside what.DoLoop line 0 m s in
              walks-all_yielded vs o (triple l u step)
              (walks-triple vs t o (stage-region vs t s h what.DoLoop line 0 m refl names) line l u step parts.0 parts.1 parts.2 (none_first _ _ right.in_first) (none_first _ _ right.in_last) right.in_step)),
          (
            (λ m names. let o = inside what.DoLoop line 1 m s in
                walks-block parts.3.place parts.3.room (with_active t x) w block o (stage-active vs t o (stage-region vs t s h what.DoLoop line 1 m refl names) x w line right.in_variable) parts.3.stands right.in_block),
            tt,
          ),
        ))
    walks-body k room t w line (Allocate ps) s h g f =
        walks-in_turn vs s (λ p. IsPart p × (allocation_faults t line p ≡ [])) (λ j. allocation line (nat_lt 0 j)) 0 ps (λ j p is. walks-allocation vs t s h line (nat_lt 0 j) p is.0 is.1)
        (each_faultless IsPart (allocation_faults t line) ps (allocated_parts k room line ps g) (allocate_faultless t w line ps f))
    walks-body k room t w line (Deallocate xs) s h g f =
        walks-in_turn vs s (λ x. deallocation_faults t line x ≡ []) (λ j. deallocation line (nat_lt 0 j)) 0 xs (λ j x is. walks-deallocation vs t s h line x is (nat_lt 0 j))
        (names_of t line xs (deallocate_faultless t w line xs f))
    walks-body k room t w line (Read es) s h g f =
        walks-in_turn vs s (λ e. IsDesignator e × (item_faults t line e ≡ [])) (λ j. reading line (nat_lt 0 j)) 0 es (λ j e is. walks-reading vs t s h line (nat_lt 0 j) e is.0 is.1)
        (each_faultless IsDesignator (item_faults t line) es (read_parts k room line es g) (read_faultless t w line es f))
    walks-body k room t w line (Shared' c block) s h g f =
        let parts = shared_parts k room line c block g in
        walks-statement vs what.Workshare line [] (statements block ∷ []) s refl (λ n. refl) (
          (λ m names. walks-block parts.place parts.room t within.Shared block (inside what.Workshare line 0 m s) (stage-region vs t s h what.Workshare line 0 m refl names) parts.stands (shared_faultless t w line c block f)),
          tt,
        )
    walks-body k room t w line Unsupported s h g f = walks-done vs s tt
    walks-body k room t w line TooDeep' s h g f = walks-done vs s tt

    walks-block : {m : Count} (k : grammar.Within) (room : ℕ) (t : List Row) (w : Within) (block : Stmts m) (s : Scope) → Stage vs t s → AreStmts k room block → block_faults t w block ≡ [] → Walks vs s (statements block)
    walks-block k room t w end_stmts s h g f = walks-done vs s tt
    walks-block k room t w (more_stmts line body rest) s h g f =
        walks-then vs s (statement line body) (λ _. statements rest) (walks-body k room t w line body s h g.0 (none_first _ _ f)) (λ _. walks-block k room t w rest s h g.1 (none_after _ _ f))

    walks-elses : {m : Count} (room : ℕ) (t : List Row) (line : ℕ) (first : Option ℕ) (es : Elses m) (s : Scope) → Stage vs t s → AreElses room es → elses_faults t line first es ≡ [] → Walks vs s (elsewheres es)
    walks-elses room t line first end_elses s h g f = walks-done vs s tt
    walks-elses room t line first (more_elses (Else' own (Some mask) c block) rest) s h g f =
        let right = else_faultless t own line first (Some mask) c block rest f in
        let w : What = what.Elsewhere in
        walks-then vs s (elsewhere own (Some mask) (statements block)) (λ _. elsewheres rest)
        (walks-statement vs w own [] (yielded (value mask) ∷ statements block ∷ []) s refl (λ n. refl) (
          (λ m names. let o = inside w own 0 m s in walks-yielded vs o (value mask) (walks-side vs t o (stage-region vs t s h w own 0 m refl names) false own mask g.0 (none_first _ _ right.in_header))),
          ((λ m names. walks-block in_where room t (else_control t own line first (Some mask)) block (inside w own 1 m s) (stage-region vs t s h w own 1 m refl names) g.1 right.in_block), tt),
        ))
        (λ _. walks-elses room t line first rest s h g.2 right.in_rest)
    walks-elses room t line first (more_elses (Else' own None c block) rest) s h g f =
        let right = else_faultless t own line first None c block rest f in
        let w : What = what.Elsewhere in
        walks-then vs s (elsewhere own None (statements block)) (λ _. elsewheres rest)
        (walks-statement vs w own [] (statements block ∷ []) s refl (λ n. refl)
        ((λ m names. walks-block in_where room t (else_control t own line first None) block (inside w own 0 m s) (stage-region vs t s h w own 0 m refl names) g.0 right.in_block), tt))
        (λ _. walks-elses 0 t line first rest s h (no_else rest g.1) right.in_rest)

  pub walks-list : (t : List Row) (w : Within) (ss : List Stmt) (s : Scope) → Stage vs t s → All IsOuter ss → stmts_faults t w ss ≡ [] → Walks vs s (statement_list ss)
  walks-list t w [] s h g f = walks-done vs s tt
  walks-list t w (st ∷ ss) s h g f =
      walks-then vs s (statement st.line st.body) (λ _. statement_list ss) (walks-body anywhere 64 t w st.line st.body s h (All-head IsOuter st ss g) (none_first _ _ f))
      (λ _. walks-list t w ss s h (All-tail IsOuter st ss g) (none_after _ _ f))
