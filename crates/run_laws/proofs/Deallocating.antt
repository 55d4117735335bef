-- DEALLOCATE, item after item.
use mathlib.Core.Path.{fun_ext}
use Rattle.std.proofs.Common.{◌≡◌, refl, sym, ap, ◌∙◌, subst, ℕ, ◌+◌, Bool, true, false, List, [], ◌∷◌, None, arith}
use Rattle.ws_base.specs.Outcomes.{Staged, ◌>>=◌}
use Rattle.ws_space.specs.declared.state.VarState.{VarState}
use Rattle.ws_space.specs.declared.state.Var.{Var}
use Rattle.ws_space.specs.Values.{Name, state_of, with_state}
use Rattle.ws_space.specs.Replace.{freed}
use Rattle.ws_types.specs.declared.types.Row.{Row}
use Rattle.ws_types.specs.Names.{standing_of}
use Rattle.ws_sema.specs.Statements.{deallocation_faults, deallocations_faults}
use Rattle.ws_sema.proofs.NoFaults.{none_first, none_after}
use Rattle.array_meaning.specs.declared.world.World.{World}
use Rattle.array_meaning.specs.Program as source
use Rattle.array_meaning.specs.Program.{with_name}
use Rattle.hlfir_ops.specs.declared.kinds.ValueKind.TheVariants as kinds
use Rattle.hlfir_ops.specs.declared.what.What.TheVariants as what
use Rattle.hlfir_ops.specs.declared.op.Op.{Op, out-roll-Op}
use Rattle.hlfir_ops.specs.Numbers.{op_numbers}
use Rattle.hlfir_ops.specs.RulesStatements.{is_also}
use Rattle.hlfir_meaning.specs.Assign.{with_target}
use Rattle.hlfir_meaning.specs.Statements.{Item, taken_by, deallocate}
use Rattle.lower_values.specs.Scopes.{Scope}
use Rattle.lower_values.specs.Lowerings.{scoped, statement_of, holding}
use Rattle.lower_values.specs.References.{declare_of}
use Rattle.lower_assign.specs.Statements.{deallocation}
use Rattle.world_laws.specs.Worlds.{FitsNames}
use Rattle.world_laws.proofs.Fitting.{FitsWhereDeclared, takes_state}
use Rattle.run_laws.proofs.States.{freed-fits}
use Rattle.run_laws.proofs.Parts.{statement-deallocate}
use Rattle.run_laws.proofs.Items.{MakesItems, later_items}
use Rattle.run_laws.proofs.Outside.{Outside, outside-later}
use Rattle.run_laws.proofs.Known.{IsAllocatable, allocatable, found_fits}
use Rattle.run_laws.proofs.Regions.{Takes, takes}
use Rattle.run_laws.proofs.Leaving.{LeavesVars, leaves-then}

abbrev pub deallocate_op : ℕ → Bool → Name → Scope → ℕ → Op
deallocate_op line b x s n = holding (what.Freemem b) line ((declare_of s.names x).value ∷ []) None [] s n

unfoldable pub deallocations : (line : ℕ) → MakesItems (deallocation line)
unfolding deallocation scoped statement_of
deallocations line = record {
  op = deallocate_op line;
  alone = λ b x s n. refl;
  also = λ b x s n. ap (λ f. is_also f.what) (out-roll-Op (record { what = what.Freemem b; line = line; operands = (declare_of s.names x).value ∷ []; kind = None; regions = [] }));
  skipped = λ x s n input m is st. statement-deallocate input m line ((declare_of s.names x).value ∷ []) None [] is st true;
}

module _ (t : List Row) (line : ℕ) (s : Scope) where
  module _ (b : Bool) (x : Name) (n : ℕ) (w : World) (is : List Item) (outside : Outside t s n) (fits : FitsNames s.names w) (f : deallocation_faults t line x ≡ []) where
    variable : IsAllocatable s.names x (standing_of t x)
    variable = allocatable t s line x outside.fit outside.knows f

    abbrev item : Item
    item = record { number = n; op = deallocate_op line b x s n }

    taking : Takes w.vars x item
    taking = takes s.names w x variable.declare fits variable.found (what.Freemem b) line [] n

    abbrev go_on : (VarState → List Var) → VarState → Staged (List Var)
    go_on new old = freed old >>= (λ q. deallocate (new q) is)

    step : deallocate w.vars (item ∷ is) ≡ go_on (with_state w.vars x) (state_of w.vars x)
    step = ap (go_on (with_target w.vars (taken_by w.vars item))) taking.state ∙ ap (λ new. go_on new (state_of w.vars x)) (fun_ext taking.target)

    one : (xs : List Name) → ((q : VarState) → FitsNames s.names (with_name w x q) → LeavesVars s.names (deallocate (with_state w.vars x q) is) (source.deallocate (with_name w x q) xs)) →
        LeavesVars s.names (deallocate w.vars (item ∷ is)) (source.deallocate w (x ∷ xs))
    one xs next =
        subst (λ r. LeavesVars s.names r (source.deallocate w (x ∷ xs))) (sym step)
        (leaves-then s.names (λ q. FitsWhereDeclared s.names.variables x q) (freed (state_of w.vars x)) _ _
        (found_fits s.names x variable.declare (kinds.Allocatable variable.elem variable.rank) (freed (state_of w.vars x)) variable.found variable.kind (freed-fits variable.elem variable.rank (state_of w.vars x)))
        (λ q h. next q (takes_state s.names w x q fits h)))

  pub deallocates : (xs : List Name) (n : ℕ) (w : World) → Outside t s n → FitsNames s.names w → deallocations_faults t line xs ≡ [] →
      LeavesVars s.names (deallocate w.vars (later_items (deallocation line) (deallocations line) s xs n)) (source.deallocate w xs)
  unfolding deallocations deallocation
  deallocates [] n w outside fits f = (refl, fits)
  deallocates (x ∷ xs) n w outside fits f =
      let m = op_numbers (deallocate_op line true x s n) + n in
      one true x n w (later_items (deallocation line) (deallocations line) s xs m) outside fits (none_first _ _ f) xs
      (λ q h. deallocates xs m (with_name w x q) (outside-later t s n m outside (omega arith)) h (none_after _ _ f))

  -- the items of one statement
  pub deallocates_all : (x : Name) (xs : List Name) (n : ℕ) (w : World) → Outside t s n → FitsNames s.names w → deallocations_faults t line (x ∷ xs) ≡ [] →
      LeavesVars s.names (deallocate w.vars (record { number = n; op = deallocate_op line false x s n } ∷ later_items (deallocation line) (deallocations line) s xs (op_numbers (deallocate_op line false x s n) + n))) (source.deallocate w (x ∷ xs))
  deallocates_all x xs n w outside fits f =
      let m = op_numbers (deallocate_op line false x s n) + n in
      one false x n w (later_items (deallocation line) (deallocations line) s xs m) outside fits (none_first _ _ f) xs
      (λ q h. deallocates xs m (with_name w x q) (outside-later t s n m outside (omega arith)) h (none_after _ _ f))
