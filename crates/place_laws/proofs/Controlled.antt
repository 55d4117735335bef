-- All that a mask controls has its rank.
use Rattle.std.proofs.Common.{◌≡◌, refl, sym, ap, ◌∙◌, subst, ℕ, ◌+◌, ◌==◌, true, false, not, ◌||◌, ◌&&◌, List, [], ◌∷◌, ◌++◌, length, Option, Some, None, true≢false}
use Rattle.std.specs.Prelude.{⊤}
use mathlib.Core.Former.{Count}
use Rattle.ws_base.specs.declared.refusal.RefusalKind.TheVariants as kind
use Rattle.ws_tree.specs.declared.expr.Expr.{Expr}
use Rattle.ws_tree.specs.declared.stmt.Body.{Body}
use Rattle.ws_tree.specs.declared.stmt.Body.TheVariants.{Assign, Masked', Forall', Loop', Allocate, Deallocate, Read, Shared', Unsupported, TooDeep as TooDeep'}
use Rattle.ws_tree.specs.declared.stmt.Else.{Else'}
use Rattle.ws_tree.specs.Trees.{Stmts, end_stmts, more_stmts, Elses, end_elses, more_elses}
use Rattle.ws_tree.specs.Grammatical as grammar
use Rattle.ws_tree.specs.Grammatical.Within.{in_where}
use Rattle.ws_tree.specs.Grammatical.{IsSide, IsOptional, IsDesignator, IsBody, AreStmts, AreElses}
use Rattle.ws_types.specs.declared.types.Typed.{Typed}
use Rattle.ws_types.specs.declared.types.Row.{Row}
use Rattle.ws_types.specs.Expressions.{typed, faults}
use Rattle.ws_sema.specs.declared.within.Within.TheVariants as within
use Rattle.ws_sema.specs.Statements.{left_faults, left_type, control_faults, assign_faults, rank_of as type_rank, mask_faults, mask_rank, else_mask_faults, else_control, block_faults, body_faults, elses_faults}
use Rattle.ws_sema.proofs.NoFaults.{none_first, none_after, impossible}
use Rattle.ws_sema.proofs.Grammar.{where_parts, else_parts}
use Rattle.hlfir_ops.specs.declared.kinds.ValueKind.{ValueKind}
use Rattle.hlfir_ops.specs.declared.what.What.{What}
use Rattle.hlfir_ops.specs.declared.what.What.TheVariants as what
use Rattle.hlfir_ops.specs.declared.op.ValueId.{ValueId}
use Rattle.hlfir_ops.specs.declared.op.Op.{Op, out-Op}
use Rattle.hlfir_ops.specs.declared.op.Region.{Region}
use Rattle.hlfir_ops.specs.Trees.{op_of, region_of}
use Rattle.hlfir_ops.specs.Numbers.{names_in, numbers_of, order_of}
use Rattle.hlfir_ops.specs.RulesValues.{Value, kind_of}
use Rattle.hlfir_ops.specs.RulesRegions.{parts_in}
use Rattle.hlfir_ops.specs.RulesStatements.{have_rank, controls_rank, is_controlled}
use Rattle.kind_laws.specs.Standing.{Knows}
use Rattle.kind_laws.specs.Found.{RegionsHeld, ScopeIsFound}
use Rattle.kind_laws.proofs.TypedExpressions.{type_known}
use Rattle.lower_values.specs.Scopes.{Scope, inside}
use Rattle.lower_values.specs.Lowerings.{Lowering, scoped, acting, regions_from, statement_of}
use Rattle.lower_values.specs.Values.{value}
use Rattle.lower_assign.specs.Statements.{yielded, left, is_whole_allocatable, assignment}
use Rattle.lower_constructs.specs.Modules.{third, elsewhere, statement, statements, elsewheres}
use Rattle.place_laws.proofs.Printed.{all-weaker, parts-op_of, Everywhere}
use Rattle.place_laws.proofs.Lowered.{makes-statement, regions-none, regions-more}
use Rattle.place_laws.proofs.Plain.{is_plain, plain}
use Rattle.place_laws.proofs.PlainValues.{plain-value}
use Rattle.place_laws.proofs.PlainSides.{plain-yielded, plain-left}
use Rattle.kind_laws.proofs.Held.{held-first, held-statement}
use Rattle.kind_laws.proofs.ScopesKnown.{inside_known}
use Rattle.kind_laws.proofs.ScopesFound.{inside_found}
use Rattle.place_laws.proofs.Yields.{second-yield, left-found, one_rank}
use Rattle.place_laws.proofs.MaskFacts.{mask-type, same-rank, control-rank}
use Rattle.kind_laws.proofs.Faultless.{where_faultless, else_faultless}
use Rattle.place_laws.proofs.WhereMasks.{mask-found, first-rank}
use Rattle.place_laws.proofs.Keeping.{Keeps, keeps-done, keeps-then, keeps-where, keeps-elsewhere}

-- ---- one op

module _ (vs : List Value) (r : ℕ) where
  controlled-op : (w : What) (line : ℕ) (operands : List ValueId) (k : Option ValueKind) (regions : List Region) → controls_rank vs r w regions ≡ true → is_controlled vs r (op_of w line operands k regions) ≡ true
  controlled-op w line operands k regions h = ap (λ f. controls_rank vs r f.what f.regions) (parts-op_of w line operands k regions) ∙ h

  plain-controls : (w : What) (regions : List Region) → is_plain w ≡ true → controls_rank vs r w regions ≡ true
  plain-controls (what.Assign realloc) regions h = absurd (true≢false (sym h))
  plain-controls what.Masked regions h = absurd (true≢false (sym h))
  plain-controls what.Elsewhere regions h = absurd (true≢false (sym h))
  plain-controls w regions h = refl

  pub plain-controlled : (ops : List Op) → Everywhere plain ops → Everywhere (is_controlled vs r) ops
  plain-controlled ops h = all-weaker plain (is_controlled vs r) (order_of ops) (λ op g. plain-controls (out-Op op).what (out-Op op).regions g) h

-- ---- all ops in the block of a WHERE

module _ (vs : List Value) (r : ℕ) where
  left-rank : (t : List Row) (w : What) (line m : ℕ) (l : Expr) (own at : ℕ) (s : Scope) (first : Region) → names_in w 1 ≡ [] → IsDesignator l → left_faults t false own l ≡ [] → control_faults (within.Masked at (Some r)) (left_type t false l) ≡ [] →
      Knows t s → ScopeIsFound vs s → RegionsHeld vs w line 1 m (yielded (left l) ∷ []) s → have_rank vs r (parts_in (first ∷ regions_from w line 1 m (yielded (left l) ∷ []) s) 1) ≡ true
  left-rank t w line m l own at s first none g f control k there h =
      let p = yielded (left l) in
      let j = m + length (names_in w 1) in
      let c = inside w line 1 m s in
      let known : Knows t c = inside_known t s w line 1 m none k in
      let scope : ScopeIsFound vs c = inside_found vs s w line 1 m h.0 there in
      let is = left-found t false own l c j vs g known f scope (held-first vs (left l) (λ x. acting what.Yield (x.value ∷ [])) c j h.1) in
      one_rank vs r (left l c j).made.value (parts_in (first ∷ regions_from w line 1 m (p ∷ []) s) 1) is.value.kind
      (second-yield (left l) c j first []) (ap kind_of is.found) (is.rank ∙ control-rank at r (left_type t false l) is.type is.left control)

  controlled-assignment : (t : List Row) (at line : ℕ) (l e : Expr) → IsDesignator l → assign_faults t (within.Masked at (Some r)) line l e ≡ [] → Keeps vs (is_controlled vs r) t (assignment line l e)
  unfolding assignment scoped
  controlled-assignment t at line l e g f s n k there h =
      let w = what.Assign (not s.masked && is_whole_allocatable s.names l) in
      let p = yielded (value e) in
      let q = yielded (left l) in
      let T = is_controlled vs r in
      let none = none_first _ _ (none_first _ _ (none_first _ _ f)) in
      let regions = held-statement vs w line [] (p ∷ q ∷ []) s n h in
      let m = (n + 0) + (0 + numbers_of (p (inside w line 0 (n + 0) s) ((n + 0) + 0)).ops) in
      let after = regions.2 in
      makes-statement T s n w line [] (p ∷ q ∷ [])
      (controlled-op vs r w line [] None (regions_from w line 0 (n + 0) (p ∷ q ∷ []) s) (left-rank t w line m l line at s (region_of (p (inside w line 0 (n + 0) s) ((n + 0) + 0)).ops) refl g none (none_after _ _ f) k there after))
      (regions-more T s (n + 0) w line 0 p (q ∷ []) (plain-controlled vs r (p (inside w line 0 (n + 0) s) ((n + 0) + 0)).ops (plain-yielded (value e) (plain-value e) (inside w line 0 (n + 0) s) ((n + 0) + 0)))
      (regions-more T s m w line 1 q [] (plain-controlled vs r (q (inside w line 1 m s) (m + 0)).ops (plain-yielded (left l) (plain-left l) (inside w line 1 m s) (m + 0)))
      (regions-none T s (m + (0 + numbers_of (q (inside w line 1 m s) (m + 0)).ops)) w line 2)))

  -- ---- constructs

  -- the mask of a WHERE inside, and of an ELSEWHERE
  inner-mask : (t : List Row) (own : ℕ) (mask : Expr) → faults t false own mask ++ mask_faults own (Some r) (typed t false mask) ≡ [] → (ty : Typed) × (typed t false mask ≡ Some ty) × (ty.rank ≡ r)
  inner-mask t own mask f =
      let type = type_known t false own mask (none_first _ _ f) in (type.0, type.1, same-rank r type.0 (mask-type own (Some r) (typed t false mask) type.0 type.1 (none_after _ _ f)).same)

  rank-known : (t : List Row) (own : ℕ) (mask : Expr) → faults t false own mask ++ mask_faults own (Some r) (typed t false mask) ≡ [] → mask_rank t mask ≡ Some r
  rank-known t own mask f = let type = inner-mask t own mask f in ap type_rank type.1 ∙ ap Some type.2

  masked-controlled : {b c : Count} (t : List Row) (line : ℕ) (mask : Expr) (block : Stmts b) (rest : Elses c) → IsSide mask → faults t false line mask ++ mask_faults line (Some r) (typed t false mask) ≡ [] →
      Keeps vs (is_controlled vs r) t (statements block) → Keeps vs (is_controlled vs r) t (elsewheres rest) → Keeps vs (is_controlled vs r) t (statement_of what.Masked line [] (yielded (value mask) ∷ statements block ∷ third rest (elsewheres rest)))
  masked-controlled t line mask block rest g f inner others s n k there h =
      let T = is_controlled vs r in
      let ps = statements block ∷ third rest (elsewheres rest) in
      let type = inner-mask t line mask f in
      let regions = held-statement vs what.Masked line [] (yielded (value mask) ∷ ps) s n h in
      let rs = regions_from what.Masked line 0 (n + 0) (yielded (value mask) ∷ ps) s in
      let first = mask-found vs what.Masked line (n + 0) ps t false line mask s type.0 refl g (none_first _ _ f) type.1 k there regions in
      makes-statement T s n what.Masked line [] (yielded (value mask) ∷ ps) (controlled-op vs r what.Masked line [] None rs (first-rank vs type.0 rs r first type.2))
      (keeps-where vs T (plain-controlled vs r) t line s k there (n + 0) mask block rest inner others regions)

  elsewhere-controlled : (t : List Row) (line : ℕ) (mask : Option Expr) (block : Lowering ⊤) → IsOptional mask → else_mask_faults t line (Some r) mask ≡ [] → Keeps vs (is_controlled vs r) t block → Keeps vs (is_controlled vs r) t (elsewhere line mask block)
  elsewhere-controlled t line None block g f inner s n k there h =
      let T = is_controlled vs r in
      let regions = held-statement vs what.Elsewhere line [] (block ∷ []) s n h in
      makes-statement T s n what.Elsewhere line [] (block ∷ []) (controlled-op vs r what.Elsewhere line [] None (regions_from what.Elsewhere line 0 (n + 0) (block ∷ []) s) refl)
      (keeps-elsewhere vs T (plain-controlled vs r) t line s k there (n + 0) None block inner regions)
  elsewhere-controlled t line (Some e) block g f inner s n k there h =
      let T = is_controlled vs r in
      let type = inner-mask t line e f in
      let regions = held-statement vs what.Elsewhere line [] (yielded (value e) ∷ block ∷ []) s n h in
      let rs = regions_from what.Elsewhere line 0 (n + 0) (yielded (value e) ∷ block ∷ []) s in
      let first = mask-found vs what.Elsewhere line (n + 0) (block ∷ []) t false line e s type.0 refl g (none_first _ _ f) type.1 k there regions in
      makes-statement T s n what.Elsewhere line [] (yielded (value e) ∷ block ∷ []) (controlled-op vs r what.Elsewhere line [] None rs (ap (λ b. length rs == 1 || b) (first-rank vs type.0 rs r first type.2)))
      (keeps-elsewhere vs T (plain-controlled vs r) t line s k there (n + 0) (Some e) block inner regions)

  else-block-rank : (t : List Row) (own line : ℕ) (mask : Option Expr) → else_mask_faults t own (Some r) mask ≡ [] → (at : ℕ) × (else_control t own line (Some r) mask ≡ within.Masked at (Some r))
  else-block-rank t own line None f = (line, refl)
  else-block-rank t own line (Some e) f = (own, ap (within.Masked own) (rank-known t own e f))

  mutual
    pub controlled-body : (place : grammar.Within) (room : ℕ) (t : List Row) (at line : ℕ) (body : Body) → IsBody place room line body → body_faults t (within.Masked at (Some r)) line body ≡ [] → Keeps vs (is_controlled vs r) t (statement line body)
    controlled-body place room t at line (Assign l e) g f = controlled-assignment t at line l e g.0 f
    controlled-body place room t at line (Masked' mask c block d rest) g f =
        let parts = where_parts place room line mask c block d rest g in
        let right = where_faultless t (within.Masked at (Some r)) line mask c block d rest f in
        let rank = rank-known t line mask right.in_header in
        masked-controlled t line mask block rest parts.0 right.in_header
        (controlled-block parts.1.place parts.1.room t line block parts.1.stands (subst (λ o. block_faults t (within.Masked line o) block ≡ []) rank right.in_block))
        (controlled-elses parts.2.room t line rest parts.2.stands (subst (λ o. elses_faults t line o rest ≡ []) rank right.in_rest))
    controlled-body place room t at line (Forall' is mask c block) g f = impossible line kind.Unsupported f
    controlled-body place room t at line (Loop' x l u st c block) g f = impossible line kind.Unsupported f
    controlled-body place room t at line (Allocate ps) g f = impossible line kind.Unsupported f
    controlled-body place room t at line (Deallocate xs) g f = impossible line kind.Unsupported f
    controlled-body place room t at line (Read es) g f = impossible line kind.Unsupported f
    controlled-body place room t at line (Shared' c block) g f = impossible line kind.Unsupported f
    controlled-body place room t at line Unsupported g f = keeps-done vs (is_controlled vs r) t
    controlled-body place room t at line TooDeep' g f = keeps-done vs (is_controlled vs r) t

    pub controlled-block : {m : Count} (place : grammar.Within) (room : ℕ) (t : List Row) (at : ℕ) (block : Stmts m) → AreStmts place room block → block_faults t (within.Masked at (Some r)) block ≡ [] → Keeps vs (is_controlled vs r) t (statements block)
    controlled-block place room t at end_stmts g f = keeps-done vs (is_controlled vs r) t
    controlled-block place room t at (more_stmts line body rest) g f =
        keeps-then vs (is_controlled vs r) t (statement line body) (statements rest)
        (controlled-body place room t at line body g.0 (none_first (body_faults t (within.Masked at (Some r)) line body) (block_faults t (within.Masked at (Some r)) rest) f))
        (controlled-block place room t at rest g.1 (none_after (body_faults t (within.Masked at (Some r)) line body) (block_faults t (within.Masked at (Some r)) rest) f))

    pub controlled-elses : {m : Count} (room : ℕ) (t : List Row) (line : ℕ) (es : Elses m) → AreElses room es → elses_faults t line (Some r) es ≡ [] → Keeps vs (is_controlled vs r) t (elsewheres es)
    controlled-elses room t line end_elses g f = keeps-done vs (is_controlled vs r) t
    controlled-elses room t line (more_elses (Else' own mask c block) rest) g f =
        let parts = else_parts room own mask c block rest g in
        let right = else_faultless t own line (Some r) mask c block rest f in
        let control = else-block-rank t own line mask right.in_header in
        keeps-then vs (is_controlled vs r) t (elsewhere own mask (statements block)) (elsewheres rest)
        (elsewhere-controlled t own mask (statements block) parts.0 right.in_header
        (controlled-block in_where room t control.0 block parts.1 (subst (λ o. block_faults t o block ≡ []) control.1 right.in_block)))
        (controlled-elses parts.2.room t line rest parts.2.stands right.in_rest)
