-- The ops of constructs are right, by what their regions hold.
use Rattle.std.proofs.Common.{◌≡◌, refl, sym, ap, ◌∙◌, subst, ℕ, ◌+◌, ◌*◌, ◌==◌, ◌≤◌, nat_lt, Bool, true, false, not, List, [], ◌∷◌, map, length, All, Option, Some, None, arith}
use Rattle.std.specs.Prelude.{⊤}
use Rattle.std.proofs.lemmas.List.{length-map}
use Rattle.std.proofs.lemmas.Bool.{and_from}
use mathlib.Core.Former.{Count}
use Rattle.ws_base.specs.declared.name.Name.{Name}
use Rattle.ws_tree.specs.declared.expr.Expr.{Expr}
use Rattle.ws_tree.specs.declared.stmt.Index.{Index}
use Rattle.ws_tree.specs.Trees.{Elses, end_elses, more_elses}
use Rattle.ws_tree.specs.Grammatical.{IsSide, IsOptional, IsHeader}
use Rattle.ws_types.specs.declared.types.Row.{Row}
use Rattle.ws_types.specs.Expressions.{faults}
use Rattle.ws_types.specs.Lists.{given_faults}
use Rattle.ws_types.specs.Names.{standing_of}
use Rattle.ws_types.specs.Tables.{barred}
use Rattle.ws_sema.specs.declared.within.Within.{Within}
use Rattle.ws_sema.specs.Statements.{scalar_expr_faults, scalar_mask_faults, forall_mask_faults, header_faults, loop_faults, else_mask_faults}
use Rattle.ws_sema.proofs.NoFaults.{none_first, none_after, not_broken}
use Rattle.hlfir_ops.specs.declared.kinds.Elem.TheVariants.{I1}
use Rattle.hlfir_ops.specs.declared.what.What.{What}
use Rattle.hlfir_ops.specs.declared.what.What.TheVariants as what
use Rattle.hlfir_ops.specs.declared.op.ValueId.{ValueId}
use Rattle.hlfir_ops.specs.declared.op.Op.{Op}
use Rattle.hlfir_ops.specs.Trees.{op_of, region_of}
use Rattle.hlfir_ops.specs.Numbers.{names_in}
use Rattle.hlfir_ops.specs.RulesValues.{Value, value_at, is_scalar, is_allocatable_declare}
use Rattle.hlfir_ops.specs.RulesRegions.{yields_value, yields_truth, yields_header, yields_triplet}
use Rattle.hlfir_ops.specs.RulesStatements.{yields_no_allocatable}
use Rattle.hlfir_ops.specs.Rules.{yields_of, sides_of, realloc_of}
use Rattle.lower_values.specs.declared.operand.Operand.{Operand}
use Rattle.lower_values.specs.Scopes.{Scope, inside}
use Rattle.lower_values.specs.Lowerings.{Lowering, scoped, statement_of}
use Rattle.lower_values.specs.References.{declare_of}
use Rattle.lower_values.specs.Values.{value}
use Rattle.lower_assign.specs.Statements.{yielded, all_yielded}
use Rattle.lower_constructs.specs.Modules.{triple, triples, forall_mask, third, elsewhere}
use Rattle.kind_laws.specs.Standing.{Knows}
use Rattle.kind_laws.specs.Found.{Holds, ScopeIsFound}
use Rattle.kind_laws.proofs.TypedExpressions.{types_are_known}
use Rattle.kind_laws.proofs.Sides.{sides_are_expressions}
use Rattle.kind_laws.proofs.ScopesKnown.{header_known}
use Rattle.kind_laws.proofs.ScopesFound.{inside_found, loop_variables_are_found}
use Rattle.yield_laws.proofs.Right.{IsRight, AreRight, op-right}
use Rattle.kind_laws.proofs.Ends.{ops_in-first}
use Rattle.kind_laws.proofs.TypesTold.{not_other, no_rank}
use Rattle.kind_laws.proofs.ScopesMoved.{moved, knows-moved, found-moved}
use Rattle.yield_laws.proofs.Regions.{no-regions, more-regions, region-reached}
use Rattle.yield_laws.proofs.Usable.{IsUsable}
use Rattle.yield_laws.proofs.Walking.{walks-scoped}
use Rattle.yield_laws.proofs.Typed.{IsOfType, walks-typed, scalar-of}
use Rattle.yield_laws.proofs.Yielded.{IsYielding, one-yielded, all-yielded, value-yielded, truth-yielded, integers-yielded, yielded-reached, usable-yielded}
use Rattle.yield_laws.proofs.Headers.{AreIntegers, walks-triple, walks-triples}
use Rattle.yield_laws.proofs.Holders.{region_ops, next_region, first_inside, AnyMade, IsHeld, IsStatement, Statement, statements-right, statements-reached, one-region, two-regions, three-regions, no-statement}

-- ---- ops with regions that hold statements

-- a list of statements in a region
pub record IsBlock (vs : List Value) (m : Bool) (ops : List Op) : Type 0 where
  pub statements : All (IsStatement vs m) ops

pub block-right : {vs : List Value} {m : Bool} {ops : List Op} → IsBlock vs m ops → AreRight vs m ops
block-right {vs} {m} {ops} h = statements-right vs m ops h.statements

pub block-reached : {vs : List Value} {m : Bool} {ops : List Op} → IsBlock vs m ops → yields_no_allocatable vs (region_of ops) ≡ true
block-reached {vs} {m} {ops} h = region-reached vs ops (statements-reached vs m ops h.statements)

module _ (vs : List Value) (line : ℕ) where
  -- the ops of a region that yields one value, which is no place
  record IsMask (ops : List Op) : Type 0 where
    right : (m : Bool) → AreRight vs m ops
    yields : yields_value vs ops ≡ true
    reached : yields_no_allocatable vs (region_of ops) ≡ true

  where-two : (m : Bool) (mask block : List Op) → IsMask mask → IsBlock vs true block → IsRight vs m (op_of what.Masked line [] None (region_of mask ∷ region_of block ∷ []))
  unfolding yields_of sides_of realloc_of
  where-two m mask block h b =
      let rs = region_of mask ∷ region_of block ∷ [] in
      op-right vs m what.Masked line [] None rs
      (record { other = refl; yields = ap (yields_value vs) (ops_in-first mask (region_of block ∷ [])) ∙ h.yields; sides = refl; realloc = refl; uses = refl; judged = and_from _ _ h.reached (and_from _ true (block-reached b) refl) })
      (more-regions vs true mask (region_of block ∷ []) (h.right true) (more-regions vs true block [] (block-right b) (no-regions vs true)))

  where-three : (m : Bool) (mask block rest : List Op) → IsMask mask → IsBlock vs true block → IsBlock vs true rest → IsRight vs m (op_of what.Masked line [] None (region_of mask ∷ region_of block ∷ region_of rest ∷ []))
  unfolding yields_of sides_of realloc_of
  where-three m mask block rest h b c =
      let rs = region_of mask ∷ region_of block ∷ region_of rest ∷ [] in
      op-right vs m what.Masked line [] None rs
      (record { other = refl; yields = ap (yields_value vs) (ops_in-first mask (region_of block ∷ region_of rest ∷ [])) ∙ h.yields; sides = refl; realloc = refl; uses = refl; judged = and_from _ _ h.reached (and_from _ _ (block-reached b) (and_from _ true (block-reached c) refl)) })
      (more-regions vs true mask (region_of block ∷ region_of rest ∷ []) (h.right true)
      (more-regions vs true block (region_of rest ∷ []) (block-right b) (more-regions vs true rest [] (block-right c) (no-regions vs true))))

  else-one : (block : List Op) → IsBlock vs true block → IsRight vs true (op_of what.Elsewhere line [] None (region_of block ∷ []))
  unfolding yields_of sides_of realloc_of
  else-one block b =
      op-right vs true what.Elsewhere line [] None (region_of block ∷ [])
      (record { other = refl; yields = refl; sides = refl; realloc = refl; uses = refl; judged = and_from _ true (block-reached b) refl })
      (more-regions vs true block [] (block-right b) (no-regions vs true))

  else-two : (mask block : List Op) → IsMask mask → IsBlock vs true block → IsRight vs true (op_of what.Elsewhere line [] None (region_of mask ∷ region_of block ∷ []))
  unfolding yields_of sides_of realloc_of
  else-two mask block h b =
      op-right vs true what.Elsewhere line [] None (region_of mask ∷ region_of block ∷ [])
      (record { other = refl; yields = ap (yields_value vs) (ops_in-first mask (region_of block ∷ [])) ∙ h.yields; sides = refl; realloc = refl; uses = refl; judged = and_from _ _ h.reached (and_from _ true (block-reached b) refl) })
      (more-regions vs true mask (region_of block ∷ []) (h.right true) (more-regions vs true block [] (block-right b) (no-regions vs true)))

  forall-right : (m : Bool) (names : List Name) (header body : List Op) (made : List ValueId) → IsYielding vs header made → AreIntegers vs (length names * 3) made → nat_lt 0 (length names) ≡ true → IsBlock vs true body →
      IsRight vs m (op_of (what.Forall names) line [] None (region_of header ∷ region_of body ∷ []))
  unfolding yields_of sides_of realloc_of
  forall-right m names header body made y h some b =
      op-right vs m (what.Forall names) line [] None (region_of header ∷ region_of body ∷ [])
      (record {
        other = refl;
        yields =
            ap (yields_header vs names) (ops_in-first header (region_of body ∷ []))
            ∙ and_from _ _ (and_from _ _ (integers-yielded y h.integers) some) (ap (λ l. length l == length names * 3) y.parts ∙ (ap (λ k. k == length names * 3) h.many ∙ same (length names * 3)));
        sides = refl;
        realloc = refl;
        uses = refl;
        judged = and_from _ _ (region-reached vs header (yielded-reached y h.reached)) (and_from _ true (block-reached b) refl);
      })
      (more-regions vs true header (region_of body ∷ []) (y.right true) (more-regions vs true body [] (block-right b) (no-regions vs true)))
    where
      same : (k : ℕ) → (k == k) ≡ true
      same k = grind arith

  loop-right : (m : Bool) (v : ValueId) (header body : List Op) (made : List ValueId) → is_allocatable_declare (value_at vs v) ≡ false → IsYielding vs header made → AreIntegers vs 3 made → IsBlock vs m body →
      IsRight vs m (op_of what.DoLoop line (v ∷ []) None (region_of header ∷ region_of body ∷ []))
  unfolding yields_of sides_of realloc_of
  loop-right m v header body made var y h b =
      op-right vs m what.DoLoop line (v ∷ []) None (region_of header ∷ region_of body ∷ [])
      (record { other = refl; yields = ap (yields_triplet vs) (ops_in-first header (region_of body ∷ [])) ∙ and_from _ _ (integers-yielded y h.integers) (ap (λ l. length l == 3) y.parts ∙ ap (λ k. k == 3) h.many); sides = refl; realloc = refl; uses = and_from _ true (ap not var) refl; judged = and_from _ _ (region-reached vs header (yielded-reached y h.reached)) (and_from _ true (block-reached b) refl) })
      (more-regions vs m header (region_of body ∷ []) (y.right m) (more-regions vs m body [] (block-right b) (no-regions vs m)))

  shared-right : (m : Bool) (body : List Op) → IsBlock vs m body → IsRight vs m (op_of what.Workshare line [] None (region_of body ∷ []))
  unfolding yields_of sides_of realloc_of
  shared-right m body b =
      op-right vs m what.Workshare line [] None (region_of body ∷ [])
      (record { other = refl; yields = refl; sides = refl; realloc = refl; uses = refl; judged = and_from _ true (block-reached b) refl })
      (more-regions vs m body [] (block-right b) (no-regions vs m))

  test-right : (m : Bool) (ops : List Op) (x : Operand) → IsYielding vs ops (x.value ∷ []) → IsUsable vs x → is_scalar I1 (Some x.kind) ≡ true → IsRight vs m (op_of what.ForallMask line [] None (region_of ops ∷ []))
  unfolding yields_of sides_of realloc_of
  test-right m ops x y u truth =
      op-right vs m what.ForallMask line [] None (region_of ops ∷ [])
      (record { other = refl; yields = ap (yields_truth vs) (ops_in-first ops []) ∙ truth-yielded y u.found truth; sides = refl; realloc = refl; uses = refl; judged = and_from _ true (region-reached vs ops (usable-yielded y u)) refl })
      (more-regions vs m ops [] (y.right m) (no-regions vs m))

-- ---- constructs, by their blocks

module _ (vs : List Value) (t : List Row) (line : ℕ) (s : Scope) (knows : Knows t s) (scope : ScopeIsFound vs s) where
  mask_held : (masked : Bool) (l j : ℕ) (e : Expr) → IsSide e → faults t false line e ≡ [] → let s' = moved masked l s in Holds vs j (yielded (value e) s' j).ops → IsMask vs line (yielded (value e) s' j).ops
  mask_held masked l j e h f held =
      let s' = moved masked l s in
      let ty = types_are_known t false line e f in
      let one = one-yielded vs s' j (value e) (IsOfType vs ty.0)
      (walks-typed vs t false line s' (knows-moved t s masked l knows) (found-moved vs s masked l scope) e (sides_are_expressions t false line e h f) f j) held in
      record {
        right = one.yielding.right;
        yields = value-yielded one.yielding one.passes.usable.found one.passes.type.value;
        reached = region-reached vs (yielded (value e) s' j).ops (usable-yielded one.yielding one.passes.usable);
      }

  -- a block inside an op, wherever its numbers begin
  abbrev pub Walked : Bool → What → ℕ → Lowering ⊤ → Type 0
  Walked m w k p = (i j : ℕ) → Statement vs m (inside w line k i s) j p

  block_held : (m : Bool) (w : What) (k i : ℕ) (p : Lowering ⊤) → Walked m w k p → IsHeld vs w line k i p s → IsBlock vs m (region_ops w line k i p s)
  block_held m w k i p walk held = record { statements = (walk i (i + length (names_in w k)) held).0 }

  pub walks-where : {j : Count} (m : Bool) (n : ℕ) (e : Expr) → IsSide e → faults t false line e ≡ [] → (block : Lowering ⊤) → Walked true what.Masked 1 block → (rest : Elses j) (others : Lowering ⊤) → Walked true what.Masked 2 others →
      Statement vs m s n (statement_of what.Masked line [] (yielded (value e) ∷ block ∷ third rest others))
  walks-where m n e h f block walk end_elses others last =
      two-regions vs m s n what.Masked line [] (yielded (value e)) block refl
      (λ held1 _ held2. where-two vs line m _ _ (mask_held true line _ e h f held1) (block_held true what.Masked 1 _ block walk held2))
  walks-where m n e h f block walk (more_elses x xs) others last =
      three-regions vs m s n what.Masked line [] (yielded (value e)) block others refl
      (λ held1 held2 held3. where-three vs line m _ _ _ (mask_held true line _ e h f held1) (block_held true what.Masked 1 _ block walk held2) (block_held true what.Masked 2 _ others last held3))

  pub walks-shared : (m : Bool) (n : ℕ) (block : Lowering ⊤) → Walked m what.Workshare 0 block → Statement vs m s n (statement_of what.Workshare line [] (block ∷ []))
  walks-shared m n block walk = one-region vs m s n what.Workshare line [] block refl (λ held. shared-right vs line m _ (block_held m what.Workshare 0 _ block walk held))

  -- in the third region of a WHERE
  pub walks-elsewhere : (n : ℕ) (first : Option ℕ) (e : Option Expr) → IsOptional e → else_mask_faults t line first e ≡ [] → (block : Lowering ⊤) → ((k : ℕ) → Walked true what.Elsewhere k block) → Statement vs true s n (elsewhere line e block)
  walks-elsewhere n first (Some e) h f block walk =
      two-regions vs true s n what.Elsewhere line [] (yielded (value e)) block refl
      (λ held1 _ held2. else-two vs line _ _ (mask_held s.masked line _ e h (none_first _ _ f) held1) (block_held true what.Elsewhere 1 _ block (walk 1) held2))
  walks-elsewhere n first None h f block walk = one-region vs true s n what.Elsewhere line [] block refl (λ held. else-one vs line _ (block_held true what.Elsewhere 0 _ block (walk 0) held))

  -- ---- DO

  pub walks-loop : (w : Within) (m : Bool) (n : ℕ) (x : Name) (l u : Expr) (o : Option Expr) → IsSide l → IsSide u → IsOptional o → loop_faults w line (standing_of t x) ≡ [] → scalar_expr_faults t line l ≡ [] → scalar_expr_faults t line u ≡ [] → given_faults t false line o ≡ [] →
      (block : Lowering ⊤) → Walked m what.DoLoop 1 block → Statement vs m s n (scoped (λ c. statement_of what.DoLoop line ((declare_of c.names x).value ∷ []) (all_yielded (triple l u o) ∷ block ∷ [])))
  walks-loop w m n x l u o hl hu ho fx fl fu fo block walk =
      let v = (declare_of s.names x).value in
      walks-scoped vs (IsStatement vs m) s n (λ c. statement_of what.DoLoop line ((declare_of c.names x).value ∷ []) (all_yielded (triple l u o) ∷ block ∷ [])) AnyMade
      (two-regions vs m s n what.DoLoop line (v ∷ []) (all_yielded (triple l u o)) block refl
      (λ held1 _ held2.
      let j = first_inside n + length (names_in what.DoLoop 0) in
      let all = all-yielded vs (inside what.DoLoop line 0 (first_inside n) s) j (triple l u o) (AreIntegers vs 3)
      (walks-triple vs t line (inside what.DoLoop line 0 (first_inside n) s) (knows-moved t s s.masked line knows) (found-moved vs s s.masked line scope) l u o hl hu ho fl fu fo j) held1 in
      loop-right vs line m v _ _ all.made (ap is_allocatable_declare (loop_variables_are_found t s vs w line x knows scope fx)) all.yielding all.passes (block_held m what.DoLoop 1 _ block walk held2)))

-- ---- FORALL

-- the mask of a FORALL, in its body
pub walks-test : (vs : List Value) (t : List Row) (line : ℕ) (s : Scope) (knows : Knows t s) (scope : ScopeIsFound vs s) (m : Bool) (n : ℕ) (e : Option Expr) → IsOptional e → forall_mask_faults t line e ≡ [] →
    Statement vs m s n (forall_mask e)
unfolding forall_mask scalar_mask_faults
walks-test vs t line s knows scope m n None h f = no-statement vs m s n
walks-test vs t line s knows scope m n (Some e) h f =
    let w = what.ForallMask in
    let j = first_inside n + length (names_in w 0) in
    let s' = inside w s.line 0 (first_inside n) s in
    let none = none_first _ _ f in
    let ty = types_are_known t true line e none in
    walks-scoped vs (IsStatement vs m) s n (λ c. statement_of what.ForallMask c.line [] (yielded (value e) ∷ [])) AnyMade
    (one-region vs m s n w s.line [] (yielded (value e)) refl
    (λ held.
    let one = one-yielded vs s' j (value e) (IsOfType vs ty.0)
    (walks-typed vs t true line s' (knows-moved t s s.masked s.line knows) (found-moved vs s s.masked s.line scope) e (sides_are_expressions t true line e h none) none j) held in
    let mask : scalar_mask_faults line (Some ty.0) ≡ [] = ap (scalar_mask_faults line) (sym ty.1) ∙ none_after _ _ f in
    test-right vs s.line m _ one.made one.yielding one.passes.usable
    (scalar-of ty.0 true one.made.kind one.passes.type one.passes.usable.solid (not_other true ty.0 (not_broken _ _ _ (none_first _ _ mask))) (no_rank ty.0 (not_broken _ _ _ (none_after _ _ mask))))))

module _ (vs : List Value) (t : List Row) (line : ℕ) (s : Scope) (knows : Knows t s) (scope : ScopeIsFound vs s) where
  abbrev index_names : List Index → List Name
  index_names is = map (λ i. i.name) is

  some_names : (is : List Index) → 1 ≤ length is → nat_lt 0 (length (index_names is)) ≡ true
  some_names is h = grind (arith, h, length-map is (λ (i : Index). i.name))

  pub walks-forall : (m : Bool) (n : ℕ) (is : List Index) (mask : Option Expr) → IsHeader is mask → header_faults t (barred t is) line [] is ≡ [] → (body : Lowering ⊤) →
      ((i j : ℕ) → ScopeIsFound vs (inside (what.Forall (index_names is)) line 1 i s) → Statement vs true (inside (what.Forall (index_names is)) line 1 i s) j body) →
      Statement vs m s n (statement_of (what.Forall (index_names is)) line [] (all_yielded (triples is) ∷ body ∷ []))
  walks-forall m n is mask h f body walk =
      let w = what.Forall (index_names is) in
      let p = all_yielded (triples is) in
      let first = first_inside n in
      let k = next_region w line 0 first p s in
      two-regions vs m s n w line [] p body refl
      (λ held1 names held2.
      let j = first + length (names_in w 0) in
      let s1 = inside w line 0 first s in
      let all = all-yielded vs s1 j (triples is) (AreIntegers vs (length is * 3))
      (walks-triples vs (barred t is) line s1 (header_known t s is line first knows) (found-moved vs s s.masked line scope) t [] is h.1 f j) held1 in
      let found = inside_found vs s w line 1 k names scope in
      forall-right vs line m (index_names is) _ _ all.made all.yielding (subst (λ c. AreIntegers vs (c * 3) all.made) (sym (length-map is (λ (i : Index). i.name))) all.passes) (some_names is h.0)
      (record { statements = (walk k (k + length (names_in w 1)) found held2).0 }))
