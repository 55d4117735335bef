-- A lowered statement runs as its source does: ALLOCATE, DEALLOCATE and READ.
use Rattle.std.proofs.Common.{◌≡◌, refl, sym, ap, ◌∙◌, subst, ℕ, ◌+◌, true, false, List, [], ◌∷◌, All, None, Result, Ok, Err}
use Rattle.std.specs.Prelude.{⊤}
use Rattle.ws_base.specs.declared.fault.Fault.{Fault}
use Rattle.ws_base.specs.Outcomes.{Staged, ◌>>=◌}
use Rattle.ws_space.specs.declared.state.Var.{Var}
use Rattle.ws_space.specs.declared.state.State.{State}
use Rattle.ws_space.specs.Values.{Name}
use Rattle.ws_space.specs.Faults.{at_line}
use Rattle.ws_space.specs.Runs.{Run, run_of, and_then, ticked}
use Rattle.list_io.specs.Items.{next_line}
use Rattle.ws_tree.specs.declared.expr.Expr.{Expr}
use Rattle.ws_tree.specs.declared.stmt.Part.{Part}
use Rattle.ws_tree.specs.declared.stmt.Body.TheVariants.{Allocate, Deallocate, Read}
use Rattle.ws_tree.specs.Grammatical.{IsDesignator, IsPart}
use Rattle.ws_types.specs.declared.types.Row.{Row}
use Rattle.ws_sema.specs.Statements.{allocations_faults, deallocations_faults, items_faults}
use Rattle.array_meaning.specs.declared.world.World.{World}
use Rattle.array_meaning.specs.declared.world.Source.{Source}
use Rattle.array_meaning.specs.Program as program
use Rattle.array_meaning.specs.Program.{world, with_vars_of}
use Rattle.hlfir_ops.specs.declared.what.What.TheVariants as what
use Rattle.hlfir_ops.specs.Numbers.{op_numbers}
use Rattle.hlfir_meaning.specs.Statements.{Item, statement_list}
use Rattle.lower_values.specs.Scopes.{Scope}
use Rattle.lower_values.specs.Lowerings.{Lowering, regions_from}
use Rattle.lower_values.specs.References.{declare_of}
use Rattle.lower_assign.specs.Statements.{all_yielded, all_bounds, yielded, left_of, allocation, deallocation, reading}
use Rattle.lower_constructs.specs.Modules.{statement}
use Rattle.world_laws.specs.Meanings.{ListsMean, LeftsMean}
use Rattle.run_laws.proofs.InOrder.{EndsIn, Same}
use Rattle.run_laws.proofs.Parts.{statement-allocate, statement-deallocate, statement-read}
use Rattle.run_laws.proofs.Loops.{FitsState, same_end, same-counted}
use Rattle.run_laws.proofs.Appended.{StartsAnew}
use Rattle.run_laws.proofs.Items.{later_items, items_run, items_anew}
use Rattle.run_laws.proofs.Outside.{Outside}
use Rattle.run_laws.proofs.Leaving.{leaves-line, leaves-state, refit}
use Rattle.run_laws.proofs.Allocating.{allocations, allocate_op, allocates_all}
use Rattle.run_laws.proofs.Deallocating.{deallocations, deallocate_op, deallocates_all}
use Rattle.run_laws.proofs.Reading.{readings, read_op, LeavesItems, reads_all}

-- the ops of this lowering run as this does, and begin a statement
pub record RunsAlike (g : Source) (p : Lowering ⊤) (q : State → Run) (s : Scope) (n : ℕ) : Type 0 where
  pub anew : StartsAnew (p s n).ops
  pub runs : (st : State) → FitsState g s.names st → Same (FitsState g s.names) (statement_list g.input n (p s n).ops st) (q st)

-- where both are these
pub same-moved : (P : State → Type 0) (r q a b : Run) → r ≡ a → q ≡ b → Same P a b → Same P r q
same-moved P r q a b e f h = record { same = e ∙ (h.same ∙ sym f); ends = subst (λ x. EndsIn P x.end) (sym f) h.ends }

-- one outcome after the count
pub counted-alike : (g : Source) (s : Scope) (line : ℕ) (st : State) (a b : State → Result State Fault) → FitsState g s.names st → ((r : State) → FitsState g s.names r → (a r ≡ b r) × EndsIn (FitsState g s.names) (b r)) →
    Same (FitsState g s.names) (and_then (run_of (ticked line 1 st)) (λ r. run_of (a r))) (and_then (run_of (ticked line 1 st)) (λ r. run_of (b r)))
counted-alike g s line st a b fits h = same-counted g s.names line 1 st _ _ fits (λ r fit. let both = h r fit in same_end (FitsState g s.names) (a r) (b r) both.0 both.1)

module _ (g : Source) (t : List Row) (line : ℕ) (s : Scope) (n : ℕ) (outside : Outside t s n) where
  module _ (lists : ListsMean) (p : Part) (ps : List Part) (parts : All IsPart (p ∷ ps)) (f : allocations_faults t line (p ∷ ps) ≡ []) where
    abbrev others : List Item
    others = later_items (allocation line) (allocations line) s ps (op_numbers (allocate_op line false p s n) + n)

    allocate_source : (st : State) → program.statement g line (Allocate (p ∷ ps)) st ≡ and_then (run_of (ticked line 1 st)) (λ r. run_of (program.changed r (at_line line (program.allocate (world g r) (p ∷ ps)))))
    unfolding program.statement
    allocate_source st = refl

    pub allocate_runs : RunsAlike g (statement line (Allocate (p ∷ ps))) (program.statement g line (Allocate (p ∷ ps))) s n
    unfolding allocations
    allocate_runs = record {
      anew = items_anew (allocation line) (allocations line) s (p ∷ ps) n;
      runs = λ st fits. same-moved (FitsState g s.names) _ _ _ _
          (items_run (allocation line) (allocations line) s g.input p ps n st
          ∙ statement-allocate g.input n line ((declare_of s.names p.name).value ∷ []) None (regions_from (what.Allocmem false) line 0 (n + 0) (all_yielded (all_bounds p.shape) ∷ []) s) others st false)
          (allocate_source st)
          (counted-alike g s line st _ _ fits (λ r fit. leaves-state g s.names r _ _ fit (leaves-line s.names line _ _ (allocates_all lists t line s p ps n (world g r) outside fit parts f))));
    }

  module _ (x : Name) (xs : List Name) (f : deallocations_faults t line (x ∷ xs) ≡ []) where
    deallocate_source : (st : State) → program.statement g line (Deallocate (x ∷ xs)) st ≡ and_then (run_of (ticked line 1 st)) (λ r. run_of (program.changed r (at_line line (program.deallocate (world g r) (x ∷ xs)))))
    unfolding program.statement
    deallocate_source st = refl

    pub deallocate_runs : RunsAlike g (statement line (Deallocate (x ∷ xs))) (program.statement g line (Deallocate (x ∷ xs))) s n
    unfolding deallocations
    deallocate_runs = record {
      anew = items_anew (deallocation line) (deallocations line) s (x ∷ xs) n;
      runs = λ st fits. same-moved (FitsState g s.names) _ _ _ _
          (items_run (deallocation line) (deallocations line) s g.input x xs n st
          ∙ statement-deallocate g.input n line ((declare_of s.names x).value ∷ []) None [] (later_items (deallocation line) (deallocations line) s xs (op_numbers (deallocate_op line false x s n) + n)) st false)
          (deallocate_source st)
          (counted-alike g s line st _ _ fits (λ r fit. leaves-state g s.names r _ _ fit (leaves-line s.names line _ _ (deallocates_all t line s x xs n (world g r) outside fit f))));
    }

  module _ (lefts : LeftsMean) (e : Expr) (es : List Expr) (each : All IsDesignator (e ∷ es)) (f : items_faults t line (e ∷ es) ≡ []) where
    read_source : (st : State) → program.statement g line (Read (e ∷ es)) st ≡ and_then (run_of (ticked line 1 st)) (λ r. run_of (at_line line (program.read g r (e ∷ es))))
    unfolding program.statement
    read_source st = refl

    -- the rest of the line is skipped
    read_state : (r : State) (a : Staged (List Var × ℕ)) (b : Staged (World × ℕ)) → FitsState g s.names r → LeavesItems s.names a b →
        (at_line line (a >>= (λ q. let z : Staged State = Ok (record r { vars = q.0; read_to = next_line g.input q.1 }) in z)) ≡ at_line line (b >>= (λ q. let z : Staged State = Ok (record (with_vars_of r q.0) { read_to = next_line g.input q.1 }) in z)))
        × EndsIn (FitsState g s.names) (at_line line (b >>= (λ q. let z : Staged State = Ok (record (with_vars_of r q.0) { read_to = next_line g.input q.1 }) in z)))
    read_state r a (Ok q) fit h = (ap (λ c. at_line line (c >>= (λ q. let z : Staged State = Ok (record r { vars = q.0; read_to = next_line g.input q.1 }) in z))) h.0, refit g s.names r q.0.vars fit h.1.variables)
    read_state r a (Err u) fit h = (ap (λ c. at_line line (c >>= (λ q. let z : Staged State = Ok (record r { vars = q.0; read_to = next_line g.input q.1 }) in z))) h, tt)

    pub read_runs : RunsAlike g (statement line (Read (e ∷ es))) (program.statement g line (Read (e ∷ es))) s n
    unfolding readings
    read_runs = record {
      anew = items_anew (reading line) (readings line) s (e ∷ es) n;
      runs = λ st fits. same-moved (FitsState g s.names) _ _ _ _
          (items_run (reading line) (readings line) s g.input e es n st
          ∙ statement-read g.input n line [] None (regions_from (what.Read false) line 0 (n + 0) (yielded (left_of true e) ∷ []) s) (later_items (reading line) (readings line) s es (op_numbers (read_op line false e s n) + n)) st false)
          (read_source st)
          (counted-alike g s line st _ _ fits (λ r fit. read_state r _ _ fit (reads_all lefts g.input t line s e es n (world g r) 0 r.read_to outside fit each f)));
    }
