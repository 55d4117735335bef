-- ALLOCATE, item after item.
use mathlib.Core.Path.{fun_ext}
use Rattle.std.proofs.Common.{◌≡◌, refl, sym, ap, ◌∙◌, subst, ℕ, suc, ◌+◌, ◌≤◌, Bool, true, false, List, [], ◌∷◌, length, All, None, IfOk, arith}
use Rattle.std.proofs.lemmas.List.Elements.{All-head, All-tail}
use Rattle.ws_base.specs.Outcomes.{Staged, ◌>>=◌}
use Rattle.ws_space.specs.declared.shape.Dim.{Dim}
use Rattle.ws_space.specs.declared.state.VarState.{VarState}
use Rattle.ws_space.specs.declared.state.Var.{Var}
use Rattle.ws_space.specs.Values.{state_of, with_state}
use Rattle.ws_space.specs.Replace.{allocated_with}
use Rattle.ws_tree.specs.declared.stmt.Bound.{Bound}
use Rattle.ws_tree.specs.declared.stmt.Part.{Part}
use Rattle.ws_tree.specs.Grammatical.{IsPart}
use Rattle.ws_types.specs.declared.types.Row.{Row}
use Rattle.ws_types.specs.Names.{standing_of}
use Rattle.ws_sema.specs.Statements.{is_other_bounds, allocation_faults, allocations_faults}
use Rattle.ws_sema.proofs.NoFaults.{none_first, none_after, not_broken}
use Rattle.array_meaning.specs.declared.world.World.{World}
use Rattle.array_meaning.specs.Program as source
use Rattle.array_meaning.specs.Program.{bound_dim, bound_dims, with_name}
use Rattle.array_meaning.proofs.Chains.{after_each, after_fact}
use Rattle.hlfir_ops.specs.declared.kinds.ValueKind.TheVariants as kinds
use Rattle.hlfir_ops.specs.declared.what.What.TheVariants as what
use Rattle.hlfir_ops.specs.declared.op.Op.{Op, out-roll-Op}
use Rattle.hlfir_ops.specs.Numbers.{op_numbers}
use Rattle.hlfir_ops.specs.RulesValues.{rank_of}
use Rattle.hlfir_ops.specs.RulesStatements.{is_also}
use Rattle.hlfir_meaning.specs.Environments.{OpRegion, of_variables, state_in}
use Rattle.hlfir_meaning.specs.Stage1.{walk}
use Rattle.hlfir_meaning.specs.Assign.{with_target}
use Rattle.hlfir_meaning.specs.Statements.{Item, taken_by, bounds, allocate}
use Rattle.lower_values.specs.Scopes.{Scope, inside}
use Rattle.lower_values.specs.Lowerings.{scoped, statement_of, regions_from, holding}
use Rattle.lower_values.specs.References.{declare_of}
use Rattle.lower_assign.specs.Statements.{all_yielded, all_bounds, allocation}
use Rattle.world_laws.specs.Worlds.{FitsNames}
use Rattle.world_laws.specs.Meanings.{ListsMean}
use Rattle.world_laws.proofs.Fitting.{FitsWhereDeclared, takes_state, state_fits}
use Rattle.run_laws.proofs.States.{allocated-fits}
use Rattle.run_laws.proofs.Headers.{dims_are}
use Rattle.run_laws.proofs.Parts.{statement-allocate}
use Rattle.run_laws.proofs.Items.{MakesItems, later_items}
use Rattle.run_laws.proofs.Outside.{Outside, stands, outside-later, outside-inside}
use Rattle.run_laws.proofs.Known.{IsAllocatable, allocatable, found_fits}
use Rattle.run_laws.proofs.Regions.{holding-region, Takes, takes}
use Rattle.run_laws.proofs.Leaving.{LeavesVars, leaves-then}

abbrev pub allocate_op : ℕ → Bool → Part → Scope → ℕ → Op
allocate_op line b p s n = holding (what.Allocmem b) line ((declare_of s.names p.name).value ∷ []) None (all_yielded (all_bounds p.shape) ∷ []) s n

unfoldable pub allocations : (line : ℕ) → MakesItems (allocation line)
unfolding allocation scoped statement_of
allocations line = record {
  op = allocate_op line;
  alone = λ b p s n. refl;
  also = λ b p s n. ap (λ f. is_also f.what) (out-roll-Op (record { what = what.Allocmem b; line = line; operands = (declare_of s.names p.name).value ∷ []; kind = None; regions = regions_from (what.Allocmem b) line 0 (n + 0) (all_yielded (all_bounds p.shape) ∷ []) s }));
  skipped = λ p s n input m is st. statement-allocate input m line ((declare_of s.names p.name).value ∷ []) None (regions_from (what.Allocmem true) line 0 (n + 0) (all_yielded (all_bounds p.shape) ∷ []) s) is st true;
}

-- as many dimensions as bounds
dims-length : (w : World) (bs : List Bound) → IfOk (bound_dims w bs) (λ ds. length ds ≡ length bs)
dims-length w [] = refl
dims-length w (b ∷ bs) = after_each _ (bound_dim w b) _ (λ d. after_fact (λ ds. length ds ≡ length bs) _ (bound_dims w bs) _ (dims-length w bs) (λ ds h. ap suc h))

module _ (lists : ListsMean) (t : List Row) (line : ℕ) (s : Scope) where
  module _ (b : Bool) (p : Part) (n : ℕ) (w : World) (is : List Item) (outside : Outside t s n) (fits : FitsNames s.names w) (part : IsPart p) (f : allocation_faults t line p ≡ []) where
    variable : IsAllocatable s.names p.name (standing_of t p.name)
    variable = allocatable t s line p.name outside.fit outside.knows (none_first _ _ (none_first _ _ f))

    rank_is : length p.shape ≡ variable.rank
    rank_is = variable.bounds (length p.shape) (not_broken (is_other_bounds (standing_of t p.name) (length p.shape)) _ _ (none_after _ _ (none_first _ _ f)))

    narrow : variable.rank ≤ 3
    narrow = subst (λ k. rank_of k ≤ 3) variable.kind (state_fits s.names w p.name variable.declare fits variable.found).narrow

    abbrev item : Item
    item = record { number = n; op = allocate_op line b p s n }

    taking : Takes w.vars p.name item
    taking = takes s.names w p.name variable.declare fits variable.found (what.Allocmem b) line (regions_from (what.Allocmem b) line 0 (n + 0) (all_yielded (all_bounds p.shape) ∷ []) s) n

    abbrev go_on : (VarState → List Var) → VarState → List Dim → Staged (List Var)
    go_on new old ds = allocated_with old ds >>= (λ q. allocate (new q) is)

    step : allocate w.vars (item ∷ is) ≡ (bound_dims w p.shape >>= go_on (with_state w.vars p.name) (state_of w.vars p.name))
    step =
        ap (λ (r : OpRegion). walk (of_variables w.vars) r >>= (λ y. go_on (with_target w.vars (taken_by w.vars item)) (state_in (taken_by w.vars item)) (bounds y.env y.parts)))
        (holding-region (what.Allocmem b) line ((declare_of s.names p.name).value ∷ []) (all_yielded (all_bounds p.shape)) [] s n refl)
        ∙ (dims_are lists t line (inside (what.Allocmem b) line 0 n s) n w (stands t (inside (what.Allocmem b) line 0 n s) n w (outside-inside t s n (what.Allocmem b) line 0 n refl refl outside) fits) p.shape part.1 (none_after _ _ f)
        (go_on (with_target w.vars (taken_by w.vars item)) (state_in (taken_by w.vars item)))
        ∙ (ap (λ old. bound_dims w p.shape >>= go_on (with_target w.vars (taken_by w.vars item)) old) taking.state
        ∙ ap (λ new. bound_dims w p.shape >>= go_on new (state_of w.vars p.name)) (fun_ext taking.target)))

    one : (ps : List Part) → ((q : VarState) → FitsNames s.names (with_name w p.name q) → LeavesVars s.names (allocate (with_state w.vars p.name q) is) (source.allocate (with_name w p.name q) ps)) →
        LeavesVars s.names (allocate w.vars (item ∷ is)) (source.allocate w (p ∷ ps))
    one ps next =
        subst (λ r. LeavesVars s.names r (source.allocate w (p ∷ ps))) (sym step)
        (leaves-then s.names (λ ds. length ds ≡ length p.shape) (bound_dims w p.shape) _ _ (dims-length w p.shape) (λ ds many.
        leaves-then s.names (λ q. FitsWhereDeclared s.names.variables p.name q) (allocated_with (state_of w.vars p.name) ds) _ _
        (found_fits s.names p.name variable.declare (kinds.Allocatable variable.elem variable.rank) (allocated_with (state_of w.vars p.name) ds) variable.found variable.kind (allocated-fits variable.elem variable.rank (state_of w.vars p.name) ds (many ∙ rank_is) variable.some narrow))
        (λ q h. next q (takes_state s.names w p.name q fits h))))

  pub allocates : (ps : List Part) (n : ℕ) (w : World) → Outside t s n → FitsNames s.names w → All IsPart ps → allocations_faults t line ps ≡ [] →
      LeavesVars s.names (allocate w.vars (later_items (allocation line) (allocations line) s ps n)) (source.allocate w ps)
  unfolding allocations allocation
  allocates [] n w outside fits parts f = (refl, fits)
  allocates (p ∷ ps) n w outside fits parts f =
      let m = op_numbers (allocate_op line true p s n) + n in
      one true p n w (later_items (allocation line) (allocations line) s ps m) outside fits (All-head IsPart p ps parts) (none_first _ _ f) ps
      (λ q h. allocates ps m (with_name w p.name q) (outside-later t s n m outside (omega arith)) h (All-tail IsPart p ps parts) (none_after _ _ f))

  -- the items of one statement
  pub allocates_all : (p : Part) (ps : List Part) (n : ℕ) (w : World) → Outside t s n → FitsNames s.names w → All IsPart (p ∷ ps) → allocations_faults t line (p ∷ ps) ≡ [] →
      LeavesVars s.names (allocate w.vars (record { number = n; op = allocate_op line false p s n } ∷ later_items (allocation line) (allocations line) s ps (op_numbers (allocate_op line false p s n) + n))) (source.allocate w (p ∷ ps))
  allocates_all p ps n w outside fits parts f =
      let m = op_numbers (allocate_op line false p s n) + n in
      one false p n w (later_items (allocation line) (allocations line) s ps m) outside fits (All-head IsPart p ps parts) (none_first _ _ f) ps
      (λ q h. allocates ps m (with_name w p.name q) (outside-later t s n m outside (omega arith)) h (All-tail IsPart p ps parts) (none_after _ _ f))
