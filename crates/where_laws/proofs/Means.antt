-- An assignment and a WHERE mean what their sources mean.
use Rattle.std.proofs.Common.{◌≡◌, refl, sym, ap, ◌∙◌, subst, ℕ, ◌+◌, false, List, [], ◌∷◌, ◌++◌, Some, None, Result, Ok, Err, arith, true≢false}
use Rattle.std.proofs.lemmas.List.Elements.{All-nil}
use Rattle.ws_base.specs.declared.fault.Fault.{Fault}
use Rattle.ws_space.specs.declared.state.Var.{Var}
use Rattle.ws_space.specs.Masks.{everywhere, held, failed}
use Rattle.ws_tree.specs.declared.expr.Expr.{Expr}
use Rattle.ws_tree.specs.declared.stmt.Body.{Body}
use Rattle.ws_tree.specs.declared.stmt.Body.TheVariants.{Assign, Masked', Forall', Loop', Allocate, Deallocate, Read, Shared', Unsupported, TooDeep}
use Rattle.ws_tree.specs.Grammatical.{IsSide, IsDesignator}
use Rattle.ws_types.specs.declared.types.Row.{Row}
use Rattle.ws_types.specs.Steps as source
use Rattle.ws_types.specs.Expressions.{typed, faults}
use Rattle.ws_sema.specs.declared.within.Within.{Within}
use Rattle.ws_sema.specs.declared.within.Within.TheVariants as within
use Rattle.ws_sema.specs.Statements.{rank_of, enclosing_rank, has_no_subscripts, is_inside, is_masked, left_faults, left_type, sides_faults, block_faults, elses_faults}
use Rattle.ws_sema.proofs.NoFaults.{none_first, none_after}
use Rattle.ws_sema.proofs.Grammar.{where_parts}
use Rattle.array_meaning.specs.declared.world.World.{World}
use Rattle.array_meaning.specs.Program as program
use Rattle.array_meaning.specs.Where.{run_where}
use Rattle.hlfir_ops.specs.declared.what.What.{What}
use Rattle.hlfir_ops.specs.declared.what.What.TheVariants as what
use Rattle.hlfir_ops.specs.declared.op.Op.{Op, Op-F, out-Op, out-roll-Op}
use Rattle.hlfir_ops.specs.declared.op.Region.{Region}
use Rattle.hlfir_ops.specs.Trees.{op_of}
use Rattle.hlfir_meaning.specs.Steps as ops
use Rattle.hlfir_meaning.specs.Masks.{run_masked, run_steps}
use Rattle.hlfir_meaning.specs.Statements.{simple}
use Rattle.lower_values.specs.declared.names.Names.{Names}
use Rattle.lower_values.specs.Scopes.{Scope}
use Rattle.lower_values.specs.Lowerings.{regions_from}
use Rattle.lower_values.specs.Values.{value}
use Rattle.lower_assign.specs.Statements.{yielded, left}
use Rattle.lower_constructs.specs.Modules.{statement}
use Rattle.kind_laws.proofs.Sides.{sides_are_expressions}
use Rattle.kind_laws.proofs.Faultless.{where_faultless}
use Rattle.world_laws.specs.Meanings.{StandsOutside, ValuesMean, LeftsMean, LeavesWorld, MeansStatement, SimpleMeans}
use Rattle.world_laws.proofs.Fitting.{as_many}
use Rattle.where_laws.specs.Laws.{IsAssignmentOrWhere, AssignmentsAndWheresMean}
use Rattle.where_laws.proofs.Same.{Same}
use Rattle.where_laws.proofs.Places.{IsPlaced}
use Rattle.where_laws.proofs.Assigned.{Whole, steps_same}
use Rattle.where_laws.proofs.Plain.{plain_same}
use Rattle.where_laws.proofs.Forms.{inside-assign}
use Rattle.where_laws.proofs.Alike.{Alike, steps_stand}
use Rattle.where_laws.proofs.Regions.{InScope, assignment_stands}
use Rattle.where_laws.proofs.WhereFacts.{mask_known}
use Rattle.where_laws.proofs.Constructs.{its_realloc, assign_ops, where_op, masked_ops, where_alike}
use Rattle.where_laws.proofs.Blocks.{third_is, block_alike, elses_alike}
use Rattle.where_laws.proofs.Takes.{takes_in_where}
use Rattle.where_laws.proofs.Moves.{takes_outside}

leaves : (names : Names) (p : Result World Fault) (r : Result (List Var) Fault) → Same (Whole names) p r → LeavesWorld names r p
leaves names (Ok v) r h = (h.1 ∙ ap (λ l. let o : Result (List Var) Fault = Ok l in o) h.2.0, h.2.1)
leaves names (Err f) r h = h

-- what an op without index names does
module _ (w : What) (line : ℕ) (rs : List Region) (n : ℕ) (vars : List Var) where
  abbrev op : Op
  op = op_of w line [] None rs

  is_what : (out-Op op).what ≡ w
  is_what = let whole : Op-F Op Region = record { what = w; line = line; operands = []; kind = None; regions = rs } in ap (λ f. f.what) (out-roll-Op whole)

  module _ (masked : simple n op w vars ≡ run_masked vars n op) where
    simple-steps : simple n op (out-Op op).what vars ≡ run_steps (vars, []) (ops.steps_after [] (ops.where_events n op))
    unfolding run_masked
    simple-steps = ap (λ x. simple n op x vars) is_what ∙ masked

module _ (values : ValuesMean) (lefts : LeftsMean) where
  in_scope : (t : List Row) (s : Scope) (w : World) (n : ℕ) → StandsOutside t s w n → s.masked ≡ false → InScope t false s n
  in_scope t s w n h m =
      let many = as_many 0 s.names.variables w.vars h.world.variables in
      let few = h.declared in
      record { knows = h.knows; no_index = h.no_index; masked = m; declared = omega (arith, many, few) }

  not_inside : (w : Within) → is_masked w ≡ false → is_inside w ≡ false
  not_inside within.Outside h = refl
  not_inside within.Shared h = refl
  not_inside within.Forall h = absurd (true≢false h)
  not_inside (within.Masked line rank) h = refl

  -- ---- assignments

  module _ (l r : Expr) (t : List Row) (in_block : Within) (line : ℕ) (s : Scope) (n : ℕ) (w : World) (h : StandsOutside t s w n) where
    abbrev regions : List Region
    regions = regions_from (what.Assign (its_realloc s l)) line 0 (n + 0) (yielded (value r) ∷ yielded (left l) ∷ []) s

    abbrev its_op : Op
    its_op = op_of (what.Assign (its_realloc s l)) line [] None regions

    one_step : simple n its_op (out-Op its_op).what w.vars ≡ run_steps (w.vars, []) (let o : ops.Step = record { masks = []; assignment = Some (ops.assignment_of everywhere line (its_realloc s l) n regions) } in o ∷ [])
    one_step =
        simple-steps (what.Assign (its_realloc s l)) line regions n w.vars refl
        ∙ ap (λ (p : ops.Numbered). run_steps (w.vars, []) (ops.steps_after [] (p 0).0)) (inside-assign everywhere line [] None n (its_realloc s l) regions)

    assigned : InScope t false s n → IsDesignator l → IsSide r → left_faults t false line l ≡ [] → faults t false line r ≡ [] →
        sides_faults in_block line (has_no_subscripts l) (left_type t false l) (typed t false r) ≡ [] → MeansStatement s n w (statement line (Assign l r) s n).ops (program.simple w line (Assign l r))
    assigned scope is_left side left_fine fine sides =
        let is = sides_are_expressions t false line r side fine in
        let takes = takes_outside t line in_block r s h.knows h.no_index fine l left_fine (has_no_subscripts l) sides in
        let stands = assignment_stands values lefts t false line l r s n everywhere scope takes is fine is_left left_fine in
        let same = plain_same s.names w line l r (ops.assignment_of everywhere line (its_realloc s l) n regions) h.world stands in
        record {
          op = its_op;
          alone = assign_ops line l r s n;
          same = leaves s.names (program.simple w line (Assign l r)) (simple n its_op (out-Op its_op).what w.vars) (subst (Same (Whole s.names) (program.simple w line (Assign l r))) (sym one_step) same);
        }

  assignment_means : (l r : Expr) → SimpleMeans (Assign l r)
  assignment_means l r t in_block line s n w place room h m out g f =
      let within_is : is_inside in_block ≡ false = not_inside in_block out in
      let here = subst (λ b. left_faults t b line l ++ faults t b line r ++ sides_faults in_block line (has_no_subscripts l) (left_type t b l) (typed t b r) ≡ []) within_is (none_first _ _ f) in
      let both = none_first _ _ here in
      assigned l r t in_block line s n w h (in_scope t s w n h m) g.0 g.1 (none_first _ _ both) (none_after _ _ both) (none_after _ _ here)

  -- ---- WHERE

  where_means : (body : Body) → IsAssignmentOrWhere body → SimpleMeans body
  unfolding run_where
  where_means (Assign l r) is t in_block line s n w place room h m out g f = assignment_means l r t in_block line s n w place room h m out g f
  where_means (Masked' test i block j rest) is t in_block line s n w place room h m out g f =
      let body = Masked' test i block j rest in
      let parts = where_parts place room line test i block j rest g in
      let good = where_faultless t in_block line test i block j rest f in
      let known = mask_known t line (enclosing_rank in_block) test good.in_mask (none_after _ _ good.in_header) in
      let blocks : block_faults t (within.Masked line (Some known.type.rank)) block ≡ [] = subst (λ o. block_faults t (within.Masked line (rank_of o)) block ≡ []) known.typed good.in_block in
      let elses : elses_faults t line (Some known.type.rank) rest ≡ [] = subst (λ o. elses_faults t line (rank_of o) rest ≡ []) known.typed good.in_rest in
      let o = where_op line test block rest s n in
      let events = where_alike values lefts takes_in_where t false everywhere line test block rest s n (in_scope t s w n h m) parts.0 good.in_mask
      (λ k r p q. block_alike values lefts takes_in_where t (held k) parts.1.place parts.1.room line known.type.rank r p block q known.rank parts.1.stands blocks)
      (λ k r p q. subst (Alike r.names (source.otherwise (failed k) rest)) (third_is (failed k) rest r p) (elses_alike values lefts takes_in_where t (failed k) parts.2.room line known.type.rank r p rest q known.rank parts.2.stands elses)) in
      let stands = steps_stand s.names [] [] (source.where_events line body) (ops.where_events n o) tt (events 0).0 in
      let same = steps_same s.names w [] (source.where_steps line body) (ops.steps_of n o) h.world (All-nil IsPlaced) stands in
      record {
        op = o;
        alone = masked_ops line s n body;
        same = leaves s.names (run_where w line body) (simple n o (out-Op o).what w.vars) (subst (Same (Whole s.names) (run_where w line body)) (sym (simple-steps what.Masked line _ n w.vars refl)) same);
      }
  where_means (Forall' indexes test i block) is t in_block line s n w place room h m out g f = absurd is
  where_means (Loop' x l u st i block) is t in_block line s n w place room h m out g f = absurd is
  where_means (Allocate ps) is t in_block line s n w place room h m out g f = absurd is
  where_means (Deallocate xs) is t in_block line s n w place room h m out g f = absurd is
  where_means (Read es) is t in_block line s n w place room h m out g f = absurd is
  where_means (Shared' i block) is t in_block line s n w place room h m out g f = absurd is
  where_means Unsupported is t in_block line s n w place room h m out g f = absurd is
  where_means TooDeep is t in_block line s n w place room h m out g f = absurd is

pub means : AssignmentsAndWheresMean
means values lefts = where_means values lefts
