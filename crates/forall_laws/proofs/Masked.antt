-- The body of a FORALL after its mask.
use Rattle.std.proofs.Common.{◌≡◌, refl, sym, ap, ◌∙◌, subst, ℕ, ◌+◌, ◌≤◌, true, List, [], ◌∷◌, map, Option, Some, None, Result, Ok, Err, ℤ, if◌then◌else◌, arith}
use mathlib.Core.Former.{Count}
use Rattle.ws_base.specs.declared.fault.Fault.{Fault}
use Rattle.ws_base.specs.Outcomes.{Staged, ◌>>=◌}
use Rattle.ws_space.specs.declared.state.Var.{Var}
use Rattle.ws_space.specs.Faults.{at_places}
use Rattle.ws_space.specs.Masks.{chosen}
use Rattle.ws_tree.specs.declared.expr.Expr.{Expr}
use Rattle.ws_tree.specs.Trees.{Stmts}
use Rattle.ws_tree.specs.Grammatical.{IsOptional, IsSide, AreStmts}
use Rattle.ws_tree.specs.Grammatical as grammar
use Rattle.ws_types.specs.declared.types.Row.{Row}
use Rattle.ws_sema.specs.declared.within.Within.TheVariants as within
use Rattle.ws_sema.specs.Statements.{block_faults, scalar_mask_faults, forall_mask_faults}
use Rattle.ws_sema.proofs.NoFaults.{none_first, none_after, not_broken}
use Rattle.array_meaning.specs.declared.world.World.{World}
use Rattle.array_meaning.specs.Forall as source
use Rattle.array_meaning.specs.Forall.{Combination}
use Rattle.hlfir_ops.specs.declared.what.What.TheVariants as what
use Rattle.hlfir_ops.specs.declared.op.Op.{Op}
use Rattle.hlfir_ops.specs.declared.op.Region.{Region}
use Rattle.hlfir_ops.specs.Trees.{op_of}
use Rattle.hlfir_ops.specs.Numbers.{op_numbers}
use Rattle.hlfir_ops.specs.RulesRegions.{ops_in}
use Rattle.hlfir_ops.specs.RulesStatements.{is_assign, is_forall_mask}
use Rattle.hlfir_meaning.specs.Environments.{result}
use Rattle.hlfir_meaning.specs.Places.{column_at}
use Rattle.hlfir_meaning.specs.Steps.{first_region, in_turn}
use Rattle.hlfir_meaning.specs.Combinations.{Header, at_combinations, combined, active_places, forall_part, first_line}
use Rattle.lower_values.specs.Scopes.{Scope, inside}
use Rattle.lower_values.specs.Lowerings.{done, ◌>>=◌ as ◌then◌, ◌>>◌, scoped, statement_of, regions_from}
use Rattle.lower_values.specs.Values.{value}
use Rattle.lower_assign.specs.Statements.{yielded}
use Rattle.lower_constructs.specs.Modules.{statements, forall_mask}
use Rattle.kind_laws.proofs.ScopesKnown.{inside_known}
use Rattle.value_laws.proofs.Ops.{parts-op_of, ops_in-first}
use Rattle.world_laws.specs.Worlds.{FitsNames}
use Rattle.world_laws.specs.Meanings.{LeavesWorld}
use Rattle.forall_laws.proofs.Yields.{YieldsOver}
use Rattle.forall_laws.proofs.Assigned.{IsValue}
use Rattle.forall_laws.proofs.Sides.{stands-inside, stands-higher, value-yielded}
use Rattle.forall_laws.proofs.Body.{region_ops, BodyStands}
use Rattle.forall_laws.proofs.Blocks.{block-same, block-first, does}

module _ (t : List Row) (s : Scope) (h : Header) (n : ℕ) (of : ℕ → Combination) (body : BodyStands t s h n of) where
  -- ---- the mask

  module _ (e : Expr) (j : ℕ) (low : n ≤ j) where
    abbrev regions : List Region
    regions = regions_from what.ForallMask s.line 0 (j + 0) (yielded (value e) ∷ []) s

    abbrev test_ops : List Op
    test_ops = region_ops what.ForallMask s.line 0 (j + 0) (yielded (value e)) s

    abbrev mask_op : Op
    mask_op = op_of what.ForallMask s.line [] None regions

    test_is : ops_in regions 0 ≡ test_ops
    test_is = ops_in-first test_ops []

    test_place : j + 0 + 0 ≡ j
    test_place = omega arith

    chosen_same : (w : World) (line : ℕ) (at : List ℕ) (r : Staged (List ℤ)) → YieldsOver at j (at_combinations w.vars h at) (ops_in regions 0) r (IsValue at) →
        (at_places line at (combined w.vars h at (first_region j regions)) >>= (λ y. let q : Result (List ℕ) Fault = Ok (chosen true at (column_at at (result y))) in q)) ≡ (at_places line at r >>= (λ xs. Ok (chosen true at xs)))
    chosen_same w line at (Ok xs) g = ap (λ p. at_places line at p >>= (λ y. let q : Result (List ℕ) Fault = Ok (chosen true at (column_at at (result y))) in q)) g.1 ∙ ap (λ ys. let q : Result (List ℕ) Fault = Ok (chosen true at ys) in q) g.2
    chosen_same w line at (Err x) g = ap (λ p. at_places line at p >>= (λ y. let q : Result (List ℕ) Fault = Ok (chosen true at (column_at at (result y))) in q)) g

    test_same : (w : World) → FitsNames s.names w → (line : ℕ) → IsSide e → forall_mask_faults t line (Some e) ≡ [] → (at : List ℕ) (ops : List Op) → active_places w.vars h line j (mask_op ∷ ops) at ≡ source.mask_places w line (Some e) at (map of at)
    unfolding scalar_mask_faults
    test_same w fits line side f at ops =
        let env = at_combinations w.vars h at in
        let s0 = inside what.ForallMask s.line 0 (j + 0) s in
        let value : YieldsOver at (j + 0 + 0) env test_ops (source.over w e (map of at)) (IsValue at) =
        value-yielded t line s0 (inside_known t s what.ForallMask s.line 0 (j + 0) refl body.knows) at of w (j + 0 + 0) env
        (stands-higher at of s0 w n env (j + 0 + 0) (omega (arith, low)) (stands-inside at of s w n env what.ForallMask s.line 0 (j + 0) refl (body.stands w fits at))) e side (none_first _ _ f) (not_broken _ _ _ (none_after _ _ (none_after _ _ f))) in
        ap (λ p. if is_forall_mask p.what then (at_places line at (combined w.vars h at (first_region j p.regions)) >>= (λ y. Ok (chosen true at (column_at at (result y))))) else Ok at) (parts-op_of what.ForallMask s.line [] None regions)
        ∙ chosen_same w line at (source.over w e (map of at))
        (subst (λ ops. YieldsOver at j env ops (source.over w e (map of at)) (IsValue at)) (sym test_is) (subst (λ i. YieldsOver at i env test_ops (source.over w e (map of at)) (IsValue at)) test_place value))

    passed : (at : List ℕ) (vars : List Var) (ops : List Op) → in_turn (does t s h n of body at) j (mask_op ∷ ops) vars ≡ in_turn (does t s h n of body at) (op_numbers mask_op + j) ops vars
    passed at vars ops = ap (λ p. forall_part h at j mask_op p.what vars >>= (λ new. in_turn (does t s h n of body at) (op_numbers mask_op + j) ops new)) (parts-op_of what.ForallMask s.line [] None regions)

    not_first : (line : ℕ) (ops : List Op) → first_line line (mask_op ∷ ops) ≡ first_line line ops
    not_first line ops = ap (λ p. if is_assign p.what then p.line else first_line line ops) (parts-op_of what.ForallMask s.line [] None regions)

  -- ---- the whole body

  pub record BodyMeans {m : Count} (mask : Option Expr) (block : Stmts m) (j line : ℕ) (ops : List Op) : Type 0 where
    pub active : (w : World) → FitsNames s.names w → (at : List ℕ) → active_places w.vars h line j ops at ≡ source.mask_places w line mask at (map of at)
    pub first : first_line line ops ≡ source.first_line line block
    pub turns : (w : World) → FitsNames s.names w → (at : List ℕ) → LeavesWorld s.names (in_turn (does t s h n of body at) j ops w.vars) (source.forall_block w block at (map of at))

  module _ {m : Count} (block : Stmts m) (place : grammar.Within) (room : ℕ) (g : AreStmts place room block) (f : block_faults t within.Forall block ≡ []) where
    masked_ops : (e : Expr) (j : ℕ) (low : n ≤ j) → ((forall_mask (Some e) >> statements block) s j).ops ≡ mask_op e j low ∷ (statements block s (op_numbers (mask_op e j low) + j)).ops
    unfolding ◌then◌ forall_mask scoped statement_of
    masked_ops e j low = let op = mask_op e j low in ap (λ k. op ∷ (statements block s k).ops) (let q : j + (op_numbers op + 0) ≡ op_numbers op + j = omega arith in q)

    plain_ops : (j : ℕ) → ((forall_mask None >> statements block) s j).ops ≡ (statements block s j).ops
    unfolding ◌then◌ forall_mask done
    plain_ops j = ap (λ k. (statements block s k).ops) (let q : j + 0 ≡ j = omega arith in q)

    plain_body : (j line : ℕ) (low : n ≤ j) → BodyMeans None block j line (statements block s j).ops
    plain_body j line low =
        let first = block-first t s h n of body [] j low block f in record {
          active = λ w fits at. first.active w.vars line j at;
          first = first.first line;
          turns = λ w fits at. block-same t s h n of body at j low place room block g f w fits;
        }

    masked_body : (e : Expr) (j line : ℕ) (low : n ≤ j) → IsSide e → forall_mask_faults t line (Some e) ≡ [] → BodyMeans (Some e) block j line (mask_op e j low ∷ (statements block s (op_numbers (mask_op e j low) + j)).ops)
    masked_body e j line low side none =
        let k = op_numbers (mask_op e j low) + j in
        let low' : n ≤ k = omega (arith, low) in
        let ops = (statements block s k).ops in record {
          active = λ w fits at. test_same e j low w fits line side none at ops;
          first = not_first e j low line ops ∙ (block-first t s h n of body [] k low' block f).first line;
          turns = λ w fits at. subst (λ q. LeavesWorld s.names q (source.forall_block w block at (map of at))) (sym (passed e j low at w.vars ops)) (block-same t s h n of body at k low' place room block g f w fits);
        }

    pub body-means : (mask : Option Expr) (j line : ℕ) → n ≤ j → IsOptional mask → forall_mask_faults t line mask ≡ [] → BodyMeans mask block j line ((forall_mask mask >> statements block) s j).ops
    body-means None j line low side none = subst (BodyMeans None block j line) (sym (plain_ops j)) (plain_body j line low)
    body-means (Some e) j line low side none = subst (BodyMeans (Some e) block j line) (sym (masked_ops e j low)) (masked_body e j line low side none)
