-- A lowered statement runs as its source does: assignments, constructs, regions and DO.
use mathlib.Core.Former.{list, this, arity}
use Rattle.std.proofs.Common.{◌≡◌, refl, sym, ap, ◌∙◌, subst, ℕ, ◌+◌, false, List, [], ◌∷◌, map, Option, None, arith}
use Rattle.std.specs.Prelude.{⊤, not, ◌&&◌}
use Rattle.ws_space.specs.declared.state.VarState.TheVariants as state
use Rattle.ws_space.specs.declared.state.State.{State}
use Rattle.ws_space.specs.Values.{Name}
use Rattle.ws_space.specs.Faults.{at_line}
use Rattle.ws_space.specs.Runs.{Run, run_of, and_then, ticked, region_run, assigned_scalar, loop_of}
use Rattle.ws_tree.specs.declared.expr.Expr.{Expr}
use Rattle.ws_tree.specs.declared.stmt.Body.{Body}
use Rattle.ws_tree.specs.declared.stmt.Body.TheVariants.{Assign, Masked', Forall', Loop', Shared'}
use Rattle.ws_tree.specs.Trees.{Stmts}
use Rattle.ws_tree.specs.Grammatical as grammar
use Rattle.ws_tree.specs.Grammatical.{IsSide, IsOptional, IsBody, AreStmts}
use Rattle.ws_types.specs.declared.types.Row.{Row}
use Rattle.ws_types.specs.Names.{standing_of}
use Rattle.ws_types.specs.Lists.{given_faults}
use Rattle.ws_sema.specs.declared.within.Within.{Within}
use Rattle.ws_sema.specs.declared.within.Within.TheVariants as within
use Rattle.ws_sema.specs.Statements.{is_masked, loop_faults, scalar_expr_faults, with_active, block_faults, body_faults}
use Rattle.array_meaning.specs.declared.world.World.{World}
use Rattle.array_meaning.specs.declared.world.Source.{Source}
use Rattle.array_meaning.specs.Forall.{stepping}
use Rattle.array_meaning.specs.Program as program
use Rattle.array_meaning.specs.Program.{world}
use Rattle.hlfir_ops.specs.declared.kinds.ValueKind.TheVariants as kinds
use Rattle.hlfir_ops.specs.declared.what.What.{What}
use Rattle.hlfir_ops.specs.declared.what.What.TheVariants as what
use Rattle.hlfir_ops.specs.declared.op.ValueId.{ValueId}
use Rattle.hlfir_ops.specs.declared.op.Op.{Op, out-Op, out-roll-Op}
use Rattle.hlfir_ops.specs.declared.op.Region.{Region}
use Rattle.hlfir_ops.specs.Trees.{op_of, region_of}
use Rattle.hlfir_ops.specs.Numbers.{numbers_of}
use Rattle.hlfir_ops.specs.RulesStatements.{is_also}
use Rattle.hlfir_meaning.specs.Environments.{of_variables, operand, variable_in}
use Rattle.hlfir_meaning.specs.Statements as lowered
use Rattle.hlfir_meaning.specs.Statements.{statement_list, simple, changed, loop_triplet}
use Rattle.lower_values.specs.Scopes.{Scope, inside}
use Rattle.lower_values.specs.Lowerings.{Lowering, ◌>>◌ as ◌before◌, scoped, statement_of, regions_from}
use Rattle.lower_values.specs.References.{declare_of}
use Rattle.lower_values.specs.Values.{value}
use Rattle.lower_assign.specs.Statements.{yielded, all_yielded, left as left_side, is_whole_allocatable, assignment}
use Rattle.lower_constructs.specs.Modules.{triple, triples, forall_mask, third, statement, statements, elsewheres}
use Rattle.kind_laws.proofs.ScopesKnown.{loop_known}
use Rattle.small_laws.proofs.Tables.{active_fit}
use Rattle.world_laws.specs.Worlds.{FitsNames}
use Rattle.world_laws.specs.Yields.{region}
use Rattle.world_laws.specs.Meanings.{IsSimple, MeansStatement, ListsMean, SimplesMean}
use Rattle.world_laws.proofs.Fitting.{takes_state}
use Rattle.run_laws.proofs.InOrder.{Same, and_then-done}
use Rattle.run_laws.proofs.Parts.{statement-assign, statement-masked, statement-forall, statement-shared, statement-loop}
use Rattle.run_laws.proofs.Loops.{FitsState, same-counted, same-region, loop_same}
use Rattle.run_laws.proofs.Headers.{header_is}
use Rattle.run_laws.proofs.Appended.{StartsAnew}
use Rattle.run_laws.proofs.Outside.{Outside, stands, outside-later, outside-inside}
use Rattle.run_laws.proofs.Known.{scalar_variable, fits_found}
use Rattle.run_laws.proofs.Regions.{holding-first, declare_variable}
use Rattle.run_laws.proofs.Leaving.{leaves-state}
use Rattle.run_laws.proofs.Simple.{means_op, SharedBlock, shared_block}
use Rattle.run_laws.proofs.Serial.{RunsAlike, same-moved, counted-alike}

module _ (g : Source) (p : Lowering ⊤) (q : State → Run) (s : Scope) (n : ℕ) (w : What) (line : ℕ) (os : List ValueId) (regions : List Region) where
  -- one op that goes on in no other statement
  pub one_runs : (p s n).ops ≡ op_of w line os None regions ∷ [] → is_also w ≡ false →
      ((st : State) → FitsState g s.names st → Same (FitsState g s.names) (lowered.statement g.input n (op_of w line os None regions) [] st) (q st)) → RunsAlike g p q s n
  one_runs alone first h =
      let op = op_of w line os None regions in
      let what_is : is_also (out-Op op).what ≡ false = ap (λ f. is_also f.what) (out-roll-Op (record { what = w; line = line; operands = os; kind = None; regions = regions })) ∙ first in
      record {
        anew = subst StartsAnew (sym alone) what_is;
        runs = λ st fits. same-moved (FitsState g s.names) _ _ _ _ (ap (λ ops. statement_list g.input n ops st) alone ∙ and_then-done (lowered.statement g.input n op [] st)) refl (h st fits);
      }

-- ---- assignments, WHERE and FORALL

module _ (simples : SimplesMean) (g : Source) (k : grammar.Within) (room : ℕ) (t : List Row) (w : Within) (line : ℕ) (s : Scope) (n : ℕ) (outside : Outside t s n) (free : is_masked w ≡ false) where
  module _ (body : Body) (is : IsSimple body) (h : IsBody k room line body) (f : body_faults t w line body ≡ []) (what : What) (regions : List Region) (alone : (statement line body s n).ops ≡ op_of what line [] None regions ∷ []) (first : is_also what ≡ false) where
    simple_alike : ((st : State) → lowered.statement g.input n (op_of what line [] None regions) [] st ≡ and_then (run_of (ticked line 1 st)) (λ r. run_of (changed r (simple n (op_of what line [] None regions) what r.vars)))) →
        ((st : State) → program.statement g line body st ≡ and_then (run_of (ticked line 1 st)) (λ r. run_of (program.changed r (program.simple (world g r) line body)))) → RunsAlike g (statement line body) (program.statement g line body) s n
    simple_alike lower source =
        one_runs g (statement line body) (program.statement g line body) s n what line [] regions alone first (λ st fits.
        same-moved (FitsState g s.names) _ _ _ _ (lower st) (source st) (counted-alike g s line st _ _ fits (λ r fit.
        leaves-state g s.names r _ _ fit (means_op s n (world g r) what line regions (program.simple (world g r) line body)
        (subst (λ ops. MeansStatement s n (world g r) ops (program.simple (world g r) line body)) alone (simples body is t w line s n (world g r) k room (stands t s n (world g r) outside fit) outside.unmasked free h f))))))

  assign_source : (left right : Expr) (st : State) → program.statement g line (Assign left right) st ≡ and_then (run_of (ticked line 1 st)) (λ r. run_of (program.changed r (program.simple (world g r) line (Assign left right))))
  unfolding program.statement
  assign_source left right st = refl

  pub assign_runs : (left right : Expr) → IsBody k room line (Assign left right) → body_faults t w line (Assign left right) ≡ [] → RunsAlike g (statement line (Assign left right)) (program.statement g line (Assign left right)) s n
  unfolding assignment scoped statement_of
  assign_runs left right h f =
      let realloc = not s.masked && is_whole_allocatable s.names left in
      simple_alike (Assign left right) tt h f (what.Assign realloc) (regions_from (what.Assign realloc) line 0 (n + 0) (yielded (value right) ∷ yielded (left_side left) ∷ []) s) refl refl
      (λ st. statement-assign g.input n line [] None _ [] st realloc) (assign_source left right)

  where_source : (mask : Expr) (c : _) (block : _) (d : _) (rest : _) (st : State) → program.statement g line (Masked' mask c block d rest) st ≡ and_then (run_of (ticked line 1 st)) (λ r. run_of (program.changed r (program.simple (world g r) line (Masked' mask c block d rest))))
  unfolding program.statement
  where_source mask c block d rest st = refl

  pub where_runs : (mask : Expr) (c : _) (block : _) (d : _) (rest : _) → IsBody k room line (Masked' mask c block d rest) → body_faults t w line (Masked' mask c block d rest) ≡ [] →
      RunsAlike g (statement line (Masked' mask c block d rest)) (program.statement g line (Masked' mask c block d rest)) s n
  unfolding statement_of
  where_runs mask c block d rest h f =
      simple_alike (Masked' mask c block d rest) tt h f what.Masked (regions_from what.Masked line 0 (n + 0) (yielded (value mask) ∷ statements block ∷ third rest (elsewheres rest)) s) refl refl
      (λ st. statement-masked g.input n line [] None _ [] st) (where_source mask c block d rest)

  forall_source : (is : _) (mask : _) (c : _) (block : _) (st : State) → program.statement g line (Forall' is mask c block) st ≡ and_then (run_of (ticked line 1 st)) (λ r. run_of (program.changed r (program.simple (world g r) line (Forall' is mask c block))))
  unfolding program.statement
  forall_source is mask c block st = refl

  pub forall_runs : (is : _) (mask : _) (c : _) (block : _) → IsBody k room line (Forall' is mask c block) → body_faults t w line (Forall' is mask c block) ≡ [] →
      RunsAlike g (statement line (Forall' is mask c block)) (program.statement g line (Forall' is mask c block)) s n
  unfolding statement_of
  forall_runs is mask c block h f =
      simple_alike (Forall' is mask c block) tt h f (what.Forall (map (λ i. i.name) is)) (regions_from (what.Forall (map (λ i. i.name) is)) line 0 (n + 0) (all_yielded (triples is) ∷ (forall_mask mask before statements block) ∷ []) s) refl refl
      (λ st. statement-forall g.input n line [] None _ [] st (map (λ i. i.name) is)) (forall_source is mask c block)

-- how many statements a block has
abbrev Shape : Type 0
Shape = (list (this {0})).Shape

-- ---- regions

shared_source : (g : Source) (line : ℕ) (c : _) (block : _) (st : State) → program.statement g line (Shared' c block) st ≡ and_then (run_of (ticked line (program.length_of block) st)) (λ r. region_run line r (λ q. program.region g block q))
unfolding program.statement
shared_source g line c block st = refl

module _ (simples : SimplesMean) (g : Source) (k : grammar.Within) (room : ℕ) (t : List Row) (line : ℕ) (s : Scope) (n : ℕ) (outside : Outside t s n) (c : Shape) (block : Stmts (arity (list (this {0})) c)) (h : AreStmts k room block) (f : block_faults t within.Shared block ≡ []) where
  abbrev around : Scope
  around = inside what.Workshare line 0 n s

  abbrev block_ops : List Op
  block_ops = (statements block around n).ops

  block_is : (w : World) → FitsNames s.names w → SharedBlock s.names n block_ops w (program.length_of block) (program.simple_block w block)
  block_is w fits = shared_block simples k room t around n block w (outside-inside t s n what.Workshare line 0 n refl refl outside) fits h f

  shared_op : (statement line (Shared' c block) s n).ops ≡ op_of what.Workshare line [] None (region_of block_ops ∷ []) ∷ []
  unfolding statement_of
  shared_op = ap (λ op. op ∷ []) (holding-first what.Workshare line [] (statements block) [] s n refl)

  pub shared_runs : RunsAlike g (statement line (Shared' c block)) (program.statement g line (Shared' c block)) s n
  shared_runs =
      one_runs g (statement line (Shared' c block)) (program.statement g line (Shared' c block)) s n what.Workshare line [] (region_of block_ops ∷ []) shared_op refl (λ st fits.
      same-moved (FitsState g s.names) _ _ _ _
      (statement-shared g.input n line [] None block_ops [] st ∙ ap (λ m. and_then (run_of (ticked line m st)) (λ r. region_run line r (λ q. changed q (lowered.simple_block n block_ops q.vars)))) (block_is (world g st) fits).count)
      (shared_source g line c block st)
      (same-counted g s.names line (program.length_of block) st _ _ fits (λ r fit.
      same-region g s.names line r _ _ fit (λ q fitted. leaves-state g s.names q _ _ fitted (block_is (world g q) fitted).leaves))))

-- ---- DO

loop_source : (g : Source) (line : ℕ) (x : Name) (l u : Expr) (e : _) (c : _) (block : _) (st : State) → program.statement g line (Loop' x l u e c block) st ≡
    and_then (run_of (ticked line 1 st)) (λ r. loop_of line x (at_line line (stepping (world g r) l u e)) (λ q. program.statements g block q) r)
unfolding program.statement program.statements
loop_source g line x l u e c block st = refl

module _ (lists : ListsMean) (g : Source) (t : List Row) (w : Within) (line : ℕ) (s : Scope) (n : ℕ) (outside : Outside t s n) (x : Name) (l u : Expr) (e : Option Expr) (c : Shape) (block : Stmts (arity (list (this {0})) c))
    (sides : IsSide l × IsSide u × IsOptional e) (lower_faults : scalar_expr_faults t line l ≡ []) (upper_faults : scalar_expr_faults t line u ≡ []) (stride_faults : given_faults t false line e ≡ []) (variable_faults : loop_faults w line (standing_of t x) ≡ []) where
  abbrev header_scope : Scope
  header_scope = inside what.DoLoop line 0 n s

  abbrev header_ops : List Op
  header_ops = (all_yielded (triple l u e) header_scope n).ops

  -- the number of the first value of its block
  abbrev pub inner : ℕ
  inner = numbers_of header_ops + n

  abbrev pub block_scope : Scope
  block_scope = inside what.DoLoop line 1 inner s

  abbrev inner_block : List Op
  inner_block = (statements block block_scope inner).ops

  pub block_outside : Outside (with_active t x) block_scope inner
  block_outside =
      let here = outside-later t s n inner outside (omega arith) in
      outside-inside (with_active t x) s inner what.DoLoop line 1 inner refl refl (record {
        knows = loop_known t s w line x variable_faults here.knows;
        fit = active_fit t x w line here.fit variable_faults;
        no_index = here.no_index;
        unmasked = here.unmasked;
        declared = here.declared;
      })

  abbrev operands : List ValueId
  operands = (declare_of s.names x).value ∷ []

  loop_op : (statement line (Loop' x l u e c block) s n).ops ≡ op_of what.DoLoop line operands None (region_of header_ops ∷ region_of inner_block ∷ []) ∷ []
  unfolding scoped statement_of
  loop_op =
      ap (λ op. op ∷ []) (holding-first what.DoLoop line operands (all_yielded (triple l u e)) (statements block ∷ []) s n refl)
      ∙ (ap (λ m. op_of what.DoLoop line operands None (region_of header_ops ∷ region_of (statements block (inside what.DoLoop line 1 m s) (m + 0)).ops ∷ []) ∷ []) (let i : n + numbers_of header_ops ≡ inner = omega arith in i)
      ∙ ap (λ m. op_of what.DoLoop line operands None (region_of header_ops ∷ region_of (statements block block_scope m).ops ∷ []) ∷ []) (let i : inner + 0 ≡ inner = omega arith in i))

  scalar_stays : (st : State) (v : _) → FitsState g s.names st → FitsState g s.names (assigned_scalar st x v)
  scalar_stays st v fits =
      let variable = scalar_variable t s w line x outside.knows variable_faults in
      takes_state s.names (world g st) x (state.Scalar v) fits (fits_found s.names x variable.declare (kinds.Place variable.elem) (state.Scalar v) variable.found variable.kind tt)

  name_is : (r : State) → FitsState g s.names r → (variable_in (operand (of_variables r.vars) operands)).name ≡ x
  name_is r fits =
      let variable = scalar_variable t s w line x outside.knows variable_faults in
      let v = declare_variable s.names (world g r) x variable.declare fits variable.found in
      ap (λ y. (variable_in y).name) v.1 ∙ v.2

  steps_are : (r : State) → FitsState g s.names r → loop_triplet r.vars (region n header_ops) ≡ stepping (world g r) l u e
  steps_are r fits =
      header_is lists t line header_scope n (world g r) (stands t header_scope n (world g r) (outside-inside t s n what.DoLoop line 0 n refl refl outside) fits) l u e sides.0 sides.1 sides.2 lower_faults upper_faults stride_faults

  pub loop_runs : ((st : State) → FitsState g s.names st → Same (FitsState g s.names) (statement_list g.input inner inner_block st) (program.statements g block st)) →
      RunsAlike g (statement line (Loop' x l u e c block)) (program.statement g line (Loop' x l u e c block)) s n
  loop_runs blocks =
      one_runs g (statement line (Loop' x l u e c block)) (program.statement g line (Loop' x l u e c block)) s n what.DoLoop line operands (region_of header_ops ∷ region_of inner_block ∷ []) loop_op refl (λ st fits.
      same-moved (FitsState g s.names) _ _ _ _ (statement-loop g.input n line operands None header_ops inner_block [] st) (loop_source g line x l u e c block st)
      (same-counted g s.names line 1 st _ _ fits (λ r fit.
      same-moved (FitsState g s.names) _ _ _ _
      (ap (λ y. loop_of line y (at_line line (loop_triplet r.vars (region n header_ops))) (λ q. statement_list g.input inner inner_block q) r) (name_is r fit)
      ∙ ap (λ z. loop_of line x (at_line line z) (λ q. statement_list g.input inner inner_block q) r) (steps_are r fit))
      refl (loop_same g s.names line x scalar_stays (at_line line (stepping (world g r) l u e)) _ _ blocks r fit))))
