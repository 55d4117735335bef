-- DO and regions, as the code runs them.
use Rattle.std.proofs.Common.{◌≡◌, refl, sym, ap, ◌∙◌, subst, ℕ, List, length, Option, Result, Ok, Err}
use mathlib.Core.Path.{fun_ext}
use Rattle.ws_base.specs.declared.fault.Fault.{Fault}
use Rattle.ws_space.specs.declared.shape.Triplet.{Triplet}
use Rattle.ws_space.specs.declared.state.State.{State}
use Rattle.ws_space.specs.Values.{Name}
use Rattle.ws_space.specs.Faults.{at_line}
use Rattle.ws_space.specs.Runs.{Run, run_of, and_then, ticked, entered, region_run, looped, loop_of}
use Rattle.ws_tree.specs.declared.expr.Expr.{Expr}
use Rattle.ws_tree.specs.declared.stmt.Stmt.{Stmt}
use Rattle.ws_tree.specs.declared.stmt.Body.{Body}
use Rattle.ws_tree.specs.declared.stmt.Body.TheVariants.{Loop, Shared}
use Rattle.array_meaning.specs.declared.world.World.{World}
use Rattle.array_meaning.specs.declared.world.Source.{Source}
use Rattle.array_meaning.specs.Forall.{stepping}
use Rattle.array_meaning.specs.Program.{world, changed, statement, statement_list}
use Rattle.step_eval.specs.declared.halt.Halt.{Halt}
use Rattle.step_eval.specs.Halts.{Halts, Leaves}
use Rattle.slow_eval.specs.Machine.{simple_list}
use Rattle.slow_eval.proofs.Ends.{end_then, end_first, same_halts, same_leaves, leaves_then}
use Rattle.slow_eval.proofs.Forms.{loop_goes_on, loop_halts}
use Rattle.slow_eval.proofs.Blocks.{loop_is, shared_is}

same_end : (a b : Run) → a ≡ b → a.end ≡ b.end
same_end a b is = ap (λ r. r.end) is

module _ (g : Source) (line : ℕ) (whole : Body) (x : Name) (l u : Expr) (st : Option Expr) (block : List Stmt) (s : State) (is : whole ≡ Loop x l u st block) where
  whole_is : statement g line whole s ≡ and_then (run_of (ticked line 1 s)) (λ r. loop_of line x (at_line line (stepping (world g r) l u st)) (λ q. statement_list g block q) r)
  whole_is = ap (λ b. statement g line b s) is ∙ loop_is g line x l u st block s

  pub loop_tick_halts : (e : Halt) → Halts e (ticked line 1 s) → Halts e (statement g line whole s).end
  loop_tick_halts e h =
      same_halts e (and_then (run_of (ticked line 1 s)) (λ r. loop_of line x (at_line line (stepping (world g r) l u st)) (λ q. statement_list g block q) r)).end (statement g line whole s).end (sym (same_end _ _ whole_is))
      (end_first e (run_of (ticked line 1 s)) (λ r. loop_of line x (at_line line (stepping (world g r) l u st)) (λ q. statement_list g block q) r) h)

  pub loop_header_halts : (here : Source) (s1 : State) (e : Halt) → ticked line 1 s ≡ Ok s1 → here ≡ g → Halts e (at_line line (stepping (world here s1) l u st)) → Halts e (statement g line whole s).end
  loop_header_halts here s1 e tick same h =
      let header : Halts e (at_line line (stepping (world g s1) l u st)) = let P : Source → Type 0 = λ k. Halts e (at_line line (stepping (world k s1) l u st)) in subst P same h in
      let after = end_then (run_of (ticked line 1 s)) (λ r. loop_of line x (at_line line (stepping (world g r) l u st)) (λ q. statement_list g block q) r) s1 tick in
      same_halts e (loop_of line x (at_line line (stepping (world g s1) l u st)) (λ q. statement_list g block q) s1).end (statement g line whole s).end (sym (same_end _ _ whole_is ∙ after))
      (loop_halts line x (λ q. statement_list g block q) s1 (at_line line (stepping (world g s1) l u st)) e header)

  pub loop_leaves : {B : Type 0} (res : Result B Halt) (here : Source) (block' : List Stmt) (s1 left : State) (t : Triplet) → block' ≡ block → ticked line 1 s ≡ Ok s1 → here ≡ g → at_line line (stepping (world here s1) l u st) ≡ Ok t →
      Leaves res (looped line x t (λ q. statement_list here block' q) s1).end left → Leaves res (statement g line whole s).end left
  loop_leaves res here block' s1 left t be tick same header h =
      let known : at_line line (stepping (world g s1) l u st) ≡ Ok t = ap (λ k. at_line line (stepping (world k s1) l u st)) (sym same) ∙ header in
      let runs : Leaves res (looped line x t (λ q. statement_list g block q) s1).end left =
      same_leaves res (looped line x t (λ q. statement_list here block' q) s1).end (looped line x t (λ q. statement_list g block q) s1).end left
      (ap (λ k. (looped line x t (λ q. statement_list k block' q) s1).end) same ∙ ap (λ b. (looped line x t (λ q. statement_list g b q) s1).end) be) h in
      same_leaves res (and_then (run_of (ticked line 1 s)) (λ r. loop_of line x (at_line line (stepping (world g r) l u st)) (λ q. statement_list g block q) r)).end (statement g line whole s).end left (sym (same_end _ _ whole_is))
      (leaves_then res (run_of (ticked line 1 s)) (λ r. loop_of line x (at_line line (stepping (world g r) l u st)) (λ q. statement_list g block q) r) s1 left tick
      (loop_goes_on res line x t (λ q. statement_list g block q) s1 left (at_line line (stepping (world g s1) l u st)) known runs))

module _ (g : Source) (line : ℕ) (whole : Body) (block : List Stmt) (s : State) (is : whole ≡ Shared block) where
  region_is : statement g line whole s ≡ and_then (run_of (ticked line (length block) s)) (λ r. region_run line r (λ q. changed q (simple_list (world g q) block)))
  region_is = ap (λ b. statement g line b s) is ∙ shared_is g line block s

  pub region_tick_halts : (e : Halt) (n : ℕ) → n ≡ length block → Halts e (ticked line n s) → Halts e (statement g line whole s).end
  region_tick_halts e n ne h =
      let first : Halts e (ticked line (length block) s) = let P : ℕ → Type 0 = λ k. Halts e (ticked line k s) in subst P ne h in
      same_halts e (and_then (run_of (ticked line (length block) s)) (λ r. region_run line r (λ q. changed q (simple_list (world g q) block)))).end (statement g line whole s).end (sym (same_end _ _ region_is))
      (end_first e (run_of (ticked line (length block) s)) (λ r. region_run line r (λ q. changed q (simple_list (world g q) block))) first)

  pub region_run_leaves : {B : Type 0} (res : Result B Halt) (here : Source) (block' : List Stmt) (n : ℕ) (s1 left : State) → block' ≡ block → n ≡ length block → ticked line n s ≡ Ok s1 → here ≡ g →
      Leaves res (changed (entered s1) (simple_list (world here s1) block')) left → Leaves res (statement g line whole s).end left
  region_run_leaves res here block' n s1 left be ne tick same h =
      let runs : Leaves res (changed (entered s1) (simple_list (world g s1) block)) left =
      same_leaves res (changed (entered s1) (simple_list (world here s1) block')) (changed (entered s1) (simple_list (world g s1) block)) left
      (ap (λ k. changed (entered s1) (simple_list (world k s1) block')) same ∙ ap (λ b. changed (entered s1) (simple_list (world g s1) b)) be) h in
      same_leaves res (and_then (run_of (ticked line (length block) s)) (λ r. region_run line r (λ q. changed q (simple_list (world g q) block)))).end (statement g line whole s).end left (sym (same_end _ _ region_is))
      (leaves_then res (run_of (ticked line (length block) s)) (λ r. region_run line r (λ q. changed q (simple_list (world g q) block))) s1 left (ap (λ k. ticked line k s) (sym ne) ∙ tick) runs)
