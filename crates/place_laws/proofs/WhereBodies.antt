-- WHERE and ELSEWHERE hold what they may, under masks that fit.
use Rattle.std.proofs.Common.{◌≡◌, refl, sym, ap, ◌∙◌, subst, ℕ, ◌+◌, ◌==◌, Bool, true, false, ◌||◌, ◌&&◌, List, [], ◌∷◌, ◌++◌, length, Option, Some, None, nat_lt}
use Rattle.std.specs.List.{list_all}
use Rattle.std.specs.Prelude.{⊤}
use Rattle.std.proofs.lemmas.Bool.{and_from}
use mathlib.Core.Former.{Count}
use Rattle.ws_tree.specs.declared.expr.Expr.{Expr}
use Rattle.ws_tree.specs.declared.stmt.Else.{Else'}
use Rattle.ws_tree.specs.Trees.{Stmts, Elses, end_elses, more_elses}
use Rattle.ws_tree.specs.Grammatical as grammar
use Rattle.ws_tree.specs.Grammatical.Within.{in_where}
use Rattle.ws_tree.specs.Grammatical.{IsSide, IsOptional, IsDesignator, IsBody, AreStmts, AreElses}
use Rattle.ws_types.specs.declared.types.Typed.{Typed}
use Rattle.ws_types.specs.declared.types.Row.{Row}
use Rattle.ws_types.specs.Expressions.{typed, faults}
use Rattle.ws_sema.specs.declared.within.Within.TheVariants as within
use Rattle.ws_sema.specs.Statements.{rank_of as type_rank, mask_faults, under, mask_rank, else_mask_faults, else_control, block_faults, elses_faults}
use Rattle.ws_sema.proofs.NoFaults.{none_first, none_after}
use Rattle.hlfir_ops.specs.declared.kinds.ValueKind.{ValueKind}
use Rattle.hlfir_ops.specs.declared.what.What.TheVariants as what
use Rattle.hlfir_ops.specs.declared.op.ValueId.{ValueId}
use Rattle.hlfir_ops.specs.declared.op.Op.{Op}
use Rattle.hlfir_ops.specs.declared.op.Region.{Region}
use Rattle.hlfir_ops.specs.Trees.{op_of, region_of}
use Rattle.hlfir_ops.specs.Numbers.{numbers_of, order_in, names_in}
use Rattle.hlfir_ops.specs.RulesValues.{Value, rank_of, is_mask}
use Rattle.hlfir_ops.specs.RulesRegions.{ops_in, parts_in, first_kind}
use Rattle.hlfir_ops.specs.RulesStatements.{is_elsewhere, are_elsewheres, stands_in_where, mask_fits, is_controlled}
use Rattle.hlfir_ops.specs.Rules.{where_of}
use Rattle.hlfir_ops.specs.declared.what.What.{What}
use Rattle.kind_laws.specs.Standing.{Knows}
use Rattle.kind_laws.specs.Found.{RegionsHeld, ScopeIsFound}
use Rattle.kind_laws.proofs.TypedExpressions.{type_known}
use Rattle.kind_laws.proofs.Ends.{ops_in-first, ops_in-second, ops_in-third}
use Rattle.lower_values.specs.Scopes.{Scope, inside}
use Rattle.lower_values.specs.Lowerings.{done, ◌>>=◌, regions_from, statement_of, Lowering}
use Rattle.lower_values.specs.Values.{value}
use Rattle.lower_assign.specs.Statements.{yielded}
use Rattle.lower_constructs.specs.Modules.{third, statements, elsewheres}
use Rattle.lower_constructs.specs.Lists.{mask_of}
use Rattle.place_laws.proofs.Printed.{parts-op_of, EverywhereIn}
use Rattle.place_laws.proofs.MaskFacts.{MaskType, mask-type, mask-kind}
use Rattle.place_laws.proofs.WhereMasks.{FirstIs, mask-found, first-kind}
use Rattle.place_laws.proofs.Controlled.{plain-controlled, controlled-block, controlled-elses}
use Rattle.place_laws.proofs.Sorts.{where_block}
use Rattle.place_laws.proofs.Keeping.{keeps-where, keeps-elsewhere}

-- ---- only the last ELSEWHERE has no mask

module _ (line : ℕ) (operands : List ValueId) (k : Option ValueKind) (regions : List Region) (rest : List Op) where
  masked_first : nat_lt 1 (length regions) ≡ true → are_elsewheres rest ≡ true → are_elsewheres (op_of what.Elsewhere line operands k regions ∷ rest) ≡ true
  masked_first h g =
      ap (λ f. is_elsewhere f.what && (nat_lt 1 (length f.regions) || length rest == 0) && are_elsewheres rest) (parts-op_of what.Elsewhere line operands k regions)
      ∙ (ap (λ b. (b || length rest == 0) && are_elsewheres rest) h ∙ g)

last_one : (line : ℕ) (operands : List ValueId) (k : Option ValueKind) (regions : List Region) → are_elsewheres (op_of what.Elsewhere line operands k regions ∷ []) ≡ true
last_one line operands k regions = ap (λ f. is_elsewhere f.what && (nat_lt 1 (length f.regions) || true) && true) (parts-op_of what.Elsewhere line operands k regions) ∙ or_true (nat_lt 1 (length regions)) where
  or_true : (b : Bool) → ((b || true) && true) ≡ true
  or_true true = refl
  or_true false = refl

pub only_last : {m : Count} (room : ℕ) (es : Elses m) → AreElses room es → (s : Scope) (n : ℕ) → are_elsewheres (elsewheres es s n).ops ≡ true
unfolding statement_of ◌>>=◌ done
only_last room end_elses g s n = refl
only_last room (more_elses (Else' line (Some mask) c block) rest) g s n =
    let ps = yielded (value mask) ∷ statements block ∷ [] in
    let regions = regions_from what.Elsewhere line 0 (n + 0) ps s in
    let first = statement_of what.Elsewhere line [] ps s n in
    masked_first line [] None regions (elsewheres rest s (n + numbers_of first.ops)).ops refl (only_last room rest g.2 s (n + numbers_of first.ops))
only_last room (more_elses (Else' line None c block) end_elses) g s n = last_one line [] None (regions_from what.Elsewhere line 0 (n + 0) (statements block ∷ []) s)
only_last room (more_elses (Else' line None c block) (more_elses e es)) g s n = absurd g.1

-- ---- masks

module _ (vs : List Value) where
  fits_by : (rs : List Region) (enclosing : Option ℕ) (ty : Typed) → MaskType enclosing ty → FirstIs vs ty rs → EverywhereIn (is_controlled vs ty.rank) rs → mask_fits vs (first_kind vs (parts_in rs 0)) rs ≡ true
  fits_by rs enclosing ty m first all =
      ap (λ o. mask_fits vs o rs) (first-kind vs ty rs first)
      ∙ and_from (is_mask (Some first.kind)) (list_all (is_controlled vs (rank_of first.kind)) (order_in rs)) (mask-kind enclosing ty first.kind m first.type) (subst (λ n. EverywhereIn (is_controlled vs n) rs) (sym first.type.rank) all)

  -- a mask as the first region of an op, and as the second the block that it controls
  masked-fits : {b : Count} (w : What) (enclosing : Option ℕ) (t : List Row) (line n : ℕ) (mask : Expr) (block : Stmts b) (ps : List (Lowering ⊤)) (s : Scope) → names_in w 0 ≡ [] → IsSide mask →
      faults t false line mask ++ mask_faults line enclosing (typed t false mask) ≡ [] → block_faults t (within.Masked line (mask_rank t mask)) block ≡ [] → Knows t s → ScopeIsFound vs s →
      RegionsHeld vs w line 0 n (yielded (value mask) ∷ statements block ∷ ps) s →
      (let rs = regions_from w line 0 n (yielded (value mask) ∷ statements block ∷ ps) s in
      ((r : ℕ) → block_faults t (within.Masked line (Some r)) block ≡ [] → mask_rank t mask ≡ Some r → EverywhereIn (is_controlled vs r) rs) →
      (list_all stands_in_where (ops_in rs 1) ≡ true) × (mask_fits vs (first_kind vs (parts_in rs 0)) rs ≡ true))
  masked-fits w enclosing t line n mask block ps s none g f inner k there h all =
      let p = yielded (value mask) in
      let rs = regions_from w line 0 n (p ∷ statements block ∷ ps) s in
      let type = type_known t false line mask (none_first _ _ f) in
      let is = mask-type line enclosing (typed t false mask) type.0 type.1 (none_after _ _ f) in
      let rank : mask_rank t mask ≡ Some type.0.rank = ap type_rank type.1 in
      let first = mask-found vs w line n (statements block ∷ ps) t false line mask s type.0 none g (none_first _ _ f) type.1 k there h in
      let ops = (p (inside w line 0 n s) (n + length (names_in w 0))).ops in
      let m = n + (length (names_in w 0) + numbers_of ops) in
      let c = inside w line 1 m s in
      let start = m + length (names_in w 1) in
      let held = subst (λ o. block_faults t (within.Masked line o) block ≡ []) rank inner in
      let after = regions_from w line 2 (m + (length (names_in w 1) + numbers_of (statements block c start).ops)) ps s in
      let stand = ap (list_all stands_in_where) (ops_in-second (region_of ops) (statements block c start).ops after) ∙ where_block t line (Some type.0.rank) block held c start in
      (stand, fits_by rs enclosing type.0 is first (all type.0.rank held rank))

  third-elses : {c : Count} (room line m : ℕ) (first second : Region) (rest : Elses c) (s : Scope) → AreElses room rest →
      are_elsewheres (ops_in (first ∷ second ∷ regions_from what.Masked line 2 m (third rest (elsewheres rest)) s) 2) ≡ true
  third-elses room line m first second end_elses s g = refl
  third-elses room line m first second (more_elses e es) s g =
      let c = inside what.Masked line 2 m s in
      ap are_elsewheres (ops_in-third first second (elsewheres (more_elses e es) c (m + 0)).ops []) ∙ only_last room (more_elses e es) g c (m + 0)

  pub where-fits : {b c : Count} (enclosing : Option ℕ) (place : grammar.Within) (room others : ℕ) (t : List Row) (line n : ℕ) (mask : Expr) (block : Stmts b) (rest : Elses c) (s : Scope) → IsSide mask → AreStmts place room block → AreElses others rest →
      faults t false line mask ++ mask_faults line enclosing (typed t false mask) ≡ [] → block_faults t (under t line mask) block ≡ [] → elses_faults t line (mask_rank t mask) rest ≡ [] → Knows t s → ScopeIsFound vs s →
      RegionsHeld vs what.Masked line 0 n (yielded (value mask) ∷ statements block ∷ third rest (elsewheres rest)) s →
      where_of vs what.Masked (regions_from what.Masked line 0 n (yielded (value mask) ∷ statements block ∷ third rest (elsewheres rest)) s) ≡ true
  unfolding where_of
  where-fits enclosing place room others t line n mask block rest s g a e f inner outer k there h =
      let ps = third rest (elsewheres rest) in
      let rs = regions_from what.Masked line 0 n (yielded (value mask) ∷ statements block ∷ ps) s in
      let first = (yielded (value mask) (inside what.Masked line 0 n s) (n + 0)).ops in
      let m = n + (0 + numbers_of first) in
      let second = (statements block (inside what.Masked line 1 m s) (m + 0)).ops in
      let masked = masked-fits what.Masked enclosing t line n mask block ps s refl g f inner k there h
      (λ r held rank. keeps-where vs (is_controlled vs r) (plain-controlled vs r) t line s k there n mask block rest (controlled-block vs r place room t line block a held)
      (controlled-elses vs r others t line rest e (subst (λ o. elses_faults t line o rest ≡ []) rank outer)) h) in
      and_from (list_all stands_in_where (ops_in rs 1) && are_elsewheres (ops_in rs 2)) (mask_fits vs (first_kind vs (parts_in rs 0)) rs)
      (and_from (list_all stands_in_where (ops_in rs 1)) (are_elsewheres (ops_in rs 2)) masked.0 (third-elses others line (m + (0 + numbers_of second)) (region_of first) (region_of second) rest s e))
      masked.1

  pub elsewhere-fits : {b : Count} (place : grammar.Within) (room : ℕ) (t : List Row) (own line n : ℕ) (enclosing : Option ℕ) (mask : Option Expr) (block : Stmts b) (s : Scope) → IsOptional mask → AreStmts place room block →
      else_mask_faults t own enclosing mask ≡ [] → block_faults t (else_control t own line enclosing mask) block ≡ [] → Knows t s → ScopeIsFound vs s →
      RegionsHeld vs what.Elsewhere own 0 n (mask_of mask ++ statements block ∷ []) s →
      where_of vs what.Elsewhere (regions_from what.Elsewhere own 0 n (mask_of mask ++ statements block ∷ []) s) ≡ true
  unfolding where_of
  elsewhere-fits place room t own line n enclosing None block s g a f inner k there h =
      let c = inside what.Elsewhere own 0 n s in
      ap (list_all stands_in_where) (ops_in-first (statements block c (n + 0)).ops []) ∙ where_block t line enclosing block inner c (n + 0)
  elsewhere-fits place room t own line n enclosing (Some mask) block s g a f inner k there h =
      let rs = regions_from what.Elsewhere own 0 n (yielded (value mask) ∷ statements block ∷ []) s in
      let masked = masked-fits what.Elsewhere enclosing t own n mask block [] s refl g f inner k there h
      (λ r held rank. keeps-elsewhere vs (is_controlled vs r) (plain-controlled vs r) t own s k there n (Some mask) (statements block) (controlled-block vs r place room t own block a held) h) in
      and_from (list_all stands_in_where (ops_in rs 1)) (mask_fits vs (first_kind vs (parts_in rs 0)) rs) masked.0 masked.1
