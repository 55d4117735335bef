-- The end of a whole program's run.
use Rattle.std.proofs.Common.{◌≡◌, refl, sym, ap, ◌∙◌, subst, ℕ, List, Result, Ok, Err}
use Rattle.ws_base.specs.declared.fault.Fault.{Fault}
use Rattle.ws_space.specs.declared.state.State.{State}
use Rattle.ws_space.specs.declared.state.Ended.{Ended}
use Rattle.ws_space.specs.declared.state.Ended.TheVariants as end
use Rattle.ws_space.specs.Runs.{ended}
use Rattle.ws_tree.specs.declared.stmt.Stmt.{Stmt}
use Rattle.ws_tree.specs.declared.stmt.Tree.{Tree}
use Rattle.array_meaning.specs.declared.world.Source.{Source}
use Rattle.array_meaning.specs.Program.{statement_list, source_of, opening, run}
use Rattle.step_eval.specs.declared.halt.Halt.{Halt}
use Rattle.step_eval.specs.declared.halt.Halt.TheVariants.{Faulted}
use Rattle.step_eval.specs.Halts.{Halts}

run_is : (t : Tree) (bytes : List ℕ) → statement_list (source_of t bytes) t.body (opening t) ≡ run t bytes
unfolding run
run_is t bytes = refl

module _ (t : Tree) (bytes : List ℕ) (g : Source) (block : List Stmt) (s : State) (ge : g ≡ source_of t bytes) (be : block ≡ t.body) (se : s ≡ opening t) where
  same_end : (statement_list g block s).end ≡ (run t bytes).end
  same_end = ap (λ k. (statement_list k block s).end) ge ∙ ap (λ b. (statement_list (source_of t bytes) b s).end) be ∙ ap (λ q. (statement_list (source_of t bytes) t.body q).end) se ∙ ap (λ r. r.end) (run_is t bytes)

  pub run_done : (r left : State) → r ≡ left → (statement_list g block s).end ≡ Ok left → end.Done r ≡ ended (run t bytes).end
  run_done r left re h = ap end.Done re ∙ (sym (ap ended h) ∙ ap ended same_end)

  pub run_faulted : (f : Fault) (e : Halt) → e ≡ Faulted f → Halts e (statement_list g block s).end → end.Faulted f ≡ ended (run t bytes).end
  run_faulted f e is h = let P : Halt → Type 0 = λ k. Halts k (statement_list g block s).end in sym (ap ended (subst P is h)) ∙ ap ended same_end
