-- Constructs owe nothing, and leave nothing.
use Rattle.std.proofs.Common.{refl, ℕ, ◌+◌, List, [], ◌∷◌, map, Option, Some, None, pos, arith}
use Rattle.std.specs.Prelude.{⊤}
use Rattle.std.specs.List.{AllByRecursion}
use mathlib.Core.Former.{Count}
use Rattle.ws_tree.specs.declared.expr.Expr.{Expr}
use Rattle.ws_tree.specs.declared.stmt.Index.{Index}
use Rattle.ws_tree.specs.declared.stmt.Stmt.{Stmt}
use Rattle.ws_tree.specs.declared.stmt.Body.{Body}
use Rattle.ws_tree.specs.declared.stmt.Body.TheVariants.{Masked', Forall', Loop', Shared'}
use Rattle.ws_tree.specs.declared.stmt.Else.{Else'}
use Rattle.ws_tree.specs.Trees.{Stmts, end_stmts, more_stmts, Elses, end_elses, more_elses}
use Rattle.ws_types.specs.declared.types.Row.{Row}
use Rattle.hlfir_ops.specs.declared.kinds.Elem.TheVariants.{I32}
use Rattle.hlfir_ops.specs.declared.what.What.TheVariants as what
use Rattle.lower_values.specs.Scopes.{Scope}
use Rattle.lower_values.specs.Lowerings.{Lowering, done, ◌>>=◌, ◌>>◌, statement_of}
use Rattle.lower_values.specs.References.{declare_of}
use Rattle.lower_values.specs.Values.{value}
use Rattle.lower_values.specs.Lists.{stride}
use Rattle.lower_assign.specs.Statements.{yielded, all_yielded}
use Rattle.lower_constructs.specs.Modules.{triple, triples, forall_mask, third, elsewhere, statement, statements, elsewheres, statement_list}
use Rattle.use_laws.proofs.Counting.{hits}
use Rattle.use_laws.proofs.Defined.{numbers}
use Rattle.use_laws.proofs.Standing.{HasNoVariables, Stands, stands-grown}
use Rattle.use_laws.proofs.Walking.{Lowers, of_operand, nothing_held, lowers-done, lowers-then, lowers-scoped}
use Rattle.use_laws.proofs.Holding.{IsRegion, lowers-statement}
use Rattle.use_laws.proofs.Operations.{lowers-constant}
use Rattle.use_laws.proofs.Values.{lowers-value}
use Rattle.use_laws.proofs.Statements.{any-clean, region-value, region-all_yielded, region-done, region-then, of_values, joined-lowers, region-plain, value-lowers}
use Rattle.use_laws.proofs.Parts.{IsRight, AreRight, ElsesAreRight, where_mask, where_block, where_rest, unused_forall, unused_loop, shared_block, first_right, rest_right, else_mask, else_block, else_rest, last_block, last_rest}

abbrev pub IsRightStmt : List Row → Stmt → Type 0
IsRightStmt t s = HasNoVariables t → IsRight t s.line s.body

module _ (k : ℕ) (t : List Row) where
  -- ---- headers

  module _ (some : HasNoVariables t → ⊥) where
    stride-lowers : (e : Option Expr) (s : Scope) (n : ℕ) (D : List ℕ) → Stands k t D s → Lowers k s n D (stride e) 0 of_operand
    stride-lowers None s n D stands = lowers-constant k s n D I32 (pos 1)
    stride-lowers (Some e) s n D stands = value-lowers k t some e s n D stands

    triple-lowers : (l u : Expr) (st : Option Expr) (s : Scope) (n : ℕ) (D : List ℕ) → Stands k t D s → Lowers k s n D (triple l u st) 0 numbers
    unfolding triple
    triple-lowers l u st s n D stands =
        lowers-then k s n D (value l) (λ x. value u >>= (λ y. stride st >>= (λ z. done (x.value ∷ y.value ∷ z.value ∷ [])))) 0 0 0 of_operand numbers refl (value-lowers k t some l s n D stands)
        (λ x m E f i. let there = stands-grown k t D E s f stands in
        lowers-then k s m E (value u) (λ y. stride st >>= (λ z. done (x.value ∷ y.value ∷ z.value ∷ []))) (hits k (of_operand x) + 0) 0 (hits k (of_operand x)) of_operand numbers (omega arith) (value-lowers k t some u s m E there)
        (λ y a F g j. lowers-then k s a F (stride st) (λ z. done (x.value ∷ y.value ∷ z.value ∷ [])) (hits k (of_operand y) + hits k (of_operand x)) 0 (hits k (of_operand y) + hits k (of_operand x)) of_operand numbers (omega arith)
        (stride-lowers st s a F (stands-grown k t E F s g there))
        (λ z b G e last. lowers-done k s b G (x.value ∷ y.value ∷ z.value ∷ []) (hits k (of_operand z) + (hits k (of_operand y) + hits k (of_operand x))) numbers
        (e.kept x.value.number (g.kept x.value.number i.0), (e.kept y.value.number j.0, last)) (omega arith))))

    triples-lowers : (is : List Index) (s : Scope) (n : ℕ) (D : List ℕ) → Stands k t D s → Lowers k s n D (triples is) 0 numbers
    unfolding triples
    triples-lowers [] s n D stands = lowers-done k s n D [] 0 numbers tt refl
    triples-lowers (i ∷ is) s n D stands = joined-lowers k t some (triple i.l i.u i.s) (triples is) (triple-lowers i.l i.u i.s) (triples-lowers is) s n D stands

    region-forall_mask : (mask : Option Expr) → IsRegion k t (forall_mask mask)
    unfolding forall_mask
    region-forall_mask None s n D stands = region-done k t s n D stands
    region-forall_mask (Some e) s n D stands =
        lowers-scoped k s n D (λ c. statement_of what.ForallMask c.line [] (yielded (value e) ∷ [])) 0 nothing_held
        (lowers-statement k t what.ForallMask s.line D s stands n [] (yielded (value e) ∷ []) 0 tt refl (region-value k t 0 e (any-clean t 0 e some), tt))

  region-third : {m : Count} (rest : Elses m) (p : Lowering ⊤) → IsRegion k t p → AllByRecursion (IsRegion k t) (third rest p)
  region-third end_elses p h = tt
  region-third (more_elses e es) p h = (h, tt)

  any-right : {m : Count} (block : Stmts m) → (HasNoVariables t → ⊥) → HasNoVariables t → AreRight t block
  any-right block some none = absurd (some none)

  -- ---- constructs

  mutual
    pub region-statement : (body : Body) (line : ℕ) → (HasNoVariables t → IsRight t line body) → IsRegion k t (statement line body)
    region-statement (Masked' mask c block d rest) line h s n D stands =
        lowers-statement k t what.Masked line D s stands n [] (yielded (value mask) ∷ statements block ∷ third rest (elsewheres rest)) 0 tt refl (
          region-value k t line mask (where_mask t line mask c block d rest h),
          (region-statements block (where_block t line mask c block d rest h), region-third rest (elsewheres rest) (region-elsewheres rest (where_rest t line mask c block d rest h))),
        )
    region-statement (Forall' is mask c block) line h s n D stands =
        let some : HasNoVariables t → ⊥ = unused_forall t line is mask c block h in
        lowers-statement k t (what.Forall (map (λ i. i.name) is)) line D s stands n [] (all_yielded (triples is) ∷ (forall_mask mask >> statements block) ∷ []) 0 tt refl (
          region-all_yielded k t (triples is) (triples-lowers some is),
          (region-then k t (forall_mask mask) (statements block) (region-forall_mask some mask) (region-statements block (any-right block some)), tt),
        )
    region-statement (Loop' x l u st c block) line h s n D stands =
        let some : HasNoVariables t → ⊥ = unused_loop t line x l u st c block h in
        let ps = all_yielded (triple l u st) ∷ statements block ∷ [] in
        let is = of_values k t some n D s x stands in
        lowers-scoped k s n D (λ a. statement_of what.DoLoop line ((declare_of a.names x).value ∷ []) ps) 0 nothing_held
        (lowers-statement k t what.DoLoop line D s stands n ((declare_of s.names x).value ∷ []) ps 0 is.0 is.1
        (region-all_yielded k t (triple l u st) (triple-lowers some l u st), (region-statements block (any-right block some), tt)))
    region-statement (Shared' c block) line h s n D stands =
        lowers-statement k t what.Workshare line D s stands n [] (statements block ∷ []) 0 tt refl (region-statements block (shared_block t line c block h), tt)
    region-statement body line h s n D stands = region-plain k t line body (λ none. ((h none).around, (h none).faultless)) s n D stands

    pub region-statements : {m : Count} (block : Stmts m) → (HasNoVariables t → AreRight t block) → IsRegion k t (statements block)
    region-statements end_stmts h = region-done k t
    region-statements (more_stmts line body rest) h =
        region-then k t (statement line body) (statements rest) (region-statement body line (first_right t line body rest h)) (region-statements rest (rest_right t line body rest h))

    region-elsewheres : {m : Count} (rest : Elses m) → (HasNoVariables t → ElsesAreRight t rest) → IsRegion k t (elsewheres rest)
    region-elsewheres end_elses h = region-done k t
    region-elsewheres (more_elses (Else' line (Some e) c block) rest) h =
        region-then k t (elsewhere line (Some e) (statements block)) (elsewheres rest)
        (λ s n D stands. lowers-statement k t what.Elsewhere line D s stands n [] (yielded (value e) ∷ statements block ∷ []) 0 tt refl
        (region-value k t line e (else_mask t line e c block rest h), (region-statements block (else_block t line e c block rest h), tt)))
        (region-elsewheres rest (else_rest t line e c block rest h))
    region-elsewheres (more_elses (Else' line None c block) rest) h =
        region-then k t (elsewhere line None (statements block)) (elsewheres rest)
        (λ s n D stands. lowers-statement k t what.Elsewhere line D s stands n [] (statements block ∷ []) 0 tt refl (region-statements block (last_block t line c block rest h), tt))
        (region-elsewheres rest (last_rest t line c block rest h))

  -- ---- the statements of a program

  pub region-list : (ss : List Stmt) → AllByRecursion (IsRightStmt t) ss → IsRegion k t (statement_list ss)
  region-list [] h = region-done k t
  region-list (s ∷ ss) h = region-then k t (statement s.line s.body) (statement_list ss) (region-statement s.body s.line h.0) (region-list ss h.1)
