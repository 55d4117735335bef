-- Statements that hold others, over the lists that the code goes over.
use Rattle.std.proofs.Common.{◌≡◌, ◌<◌, ◌≤◌, refl, sym, ap, ◌∙◌, subst, ℕ, suc, ◌+◌, List, [], ◌∷◌, length, drop, get_or, All, Option, Result, Ok, Err, arith, add-one}
use mathlib.Core.Path.{fun_ext}
use Rattle.std.proofs.lemmas.List.{drop_more}
use Rattle.std.proofs.lemmas.List.Elements.{All-nil, All-cons}
use Rattle.std.proofs.Math.ListN.{drop_of_length-le}
use Rattle.ws_base.specs.declared.fault.Fault.{Fault}
use Rattle.ws_base.specs.Outcomes.{◌>>=◌}
use Rattle.ws_space.specs.declared.state.State.{State}
use Rattle.ws_space.specs.Faults.{at_line}
use Rattle.ws_space.specs.Runs.{Run, run_of, and_then, ticked, region_run, loop_of}
use Rattle.ws_tree.specs.declared.expr.Expr.{Expr}
use Rattle.ws_tree.specs.declared.stmt.Stmt.{Stmt}
use Rattle.ws_tree.specs.declared.stmt.Body.{Body}
use Rattle.ws_tree.specs.declared.stmt.Body.TheVariants.{Forall, Loop, Shared}
use Rattle.ws_tree.specs.declared.stmt.Body.TheBlock.{hidden-the_row-Stmt-0}
use Rattle.ws_tree.specs.Opened.{trees_open}
use Rattle.array_meaning.specs.declared.world.World.{World}
use Rattle.array_meaning.specs.declared.world.Source.{Source}
use Rattle.array_meaning.specs.Forall.{stepping}
use Rattle.array_meaning.specs.Program.{simple, simple_block, length_of, region, changed, world, statements, statement, statement_list}
use Rattle.term_eval.specs.Limits.{IsSmall}
use Rattle.slow_eval.specs.Machine.{simple_list}
use Rattle.step_eval.specs.Small.{IsSmallStmt, AreSmallStmts, IsSmallBody, IsSmallOption}

length_list : (ss : List Stmt) → length_of (hidden-the_row-Stmt-0 ss) ≡ length ss
unfolding trees_open
length_list [] = refl
length_list (s ∷ ss) = ap suc (length_list ss)

simple_rows : (w : World) (ss : List Stmt) → simple_block w (hidden-the_row-Stmt-0 ss) ≡ simple_list w ss
unfolding trees_open
simple_rows w [] = refl
simple_rows w (s ∷ ss) = ap (λ f. simple w s.line s.body >>= f) (fun_ext (λ v. simple_rows v ss))

statement_rows : (g : Source) (ss : List Stmt) (s : State) → statements g (hidden-the_row-Stmt-0 ss) s ≡ statement_list g ss s
unfolding trees_open statements
statement_rows g [] s = refl
statement_rows g (t ∷ ts) s = ap (and_then (statement g t.line t.body s)) (fun_ext (λ r. statement_rows g ts r))

small_rows : (ss : List Stmt) → AreSmallStmts (hidden-the_row-Stmt-0 ss) → All IsSmallStmt ss
unfolding trees_open
small_rows [] h = All-nil IsSmallStmt
small_rows (s ∷ ss) h = All-cons IsSmallStmt s ss h.0 (small_rows ss h.1)

loop_form : (g : Source) (line : ℕ) (x : List ℕ) (l u : Expr) (st : Option Expr) (block : List Stmt) (s : State) → statement g line (Loop x l u st block) s ≡
    and_then (run_of (ticked line 1 s)) (λ r. loop_of line x (at_line line (stepping (world g r) l u st)) (λ q. statements g (hidden-the_row-Stmt-0 block) q) r)
unfolding trees_open statement
loop_form g line x l u st block s = refl

pub loop_is : (g : Source) (line : ℕ) (x : List ℕ) (l u : Expr) (st : Option Expr) (block : List Stmt) (s : State) → statement g line (Loop x l u st block) s ≡
    and_then (run_of (ticked line 1 s)) (λ r. loop_of line x (at_line line (stepping (world g r) l u st)) (λ q. statement_list g block q) r)
loop_is g line x l u st block s =
    loop_form g line x l u st block s ∙ ap (λ f. and_then (run_of (ticked line 1 s)) (λ r. loop_of line x (at_line line (stepping (world g r) l u st)) f r)) (fun_ext (λ q. statement_rows g block q))

shared_form : (g : Source) (line : ℕ) (block : List Stmt) (s : State) → statement g line (Shared block) s ≡
    and_then (run_of (ticked line (length_of (hidden-the_row-Stmt-0 block)) s)) (λ r. region_run line r (λ q. region g (hidden-the_row-Stmt-0 block) q))
unfolding trees_open statement
shared_form g line block s = refl

pub shared_is : (g : Source) (line : ℕ) (block : List Stmt) (s : State) → statement g line (Shared block) s ≡
    and_then (run_of (ticked line (length block) s)) (λ r. region_run line r (λ q. changed q (simple_list (world g q) block)))
shared_is g line block s =
    shared_form g line block s ∙ ap (λ n. and_then (run_of (ticked line n s)) (λ r. region_run line r (λ q. region g (hidden-the_row-Stmt-0 block) q))) (length_list block)
    ∙ ap (λ f. and_then (run_of (ticked line (length block) s)) (λ r. region_run line r f)) (fun_ext (λ q. ap (changed q) (simple_rows (world g q) block)))

-- ---- limits

loop_small_form : (x : List ℕ) (l u : Expr) (st : Option Expr) (block : List Stmt) → IsSmallBody (Loop x l u st block) → IsSmall l × IsSmall u × IsSmallOption st × AreSmallStmts (hidden-the_row-Stmt-0 block)
unfolding trees_open
loop_small_form x l u st block h = h

shared_small_form : (block : List Stmt) → IsSmallBody (Shared block) → AreSmallStmts (hidden-the_row-Stmt-0 block)
unfolding trees_open
shared_small_form block h = h

small_body : (whole body : Body) → whole ≡ body → IsSmallBody whole → IsSmallBody body
small_body whole body is h = subst IsSmallBody is h

-- what a small DO holds
pub record IsSmallLoop (l u : Expr) (st : Option Expr) (block : List Stmt) : Type 0 where
  pub first : IsSmall l
  pub last : IsSmall u
  pub stride : IsSmallOption st
  pub stmts : All IsSmallStmt block

small_list : (block block' : List Stmt) → block' ≡ block → All IsSmallStmt block → All IsSmallStmt block'
small_list block block' same h = let P : List Stmt → Type 0 = All IsSmallStmt in subst P (sym same) h

pub loop_small : (whole : Body) (x : List ℕ) (l u : Expr) (st : Option Expr) (block block' : List Stmt) → whole ≡ Loop x l u st block → block' ≡ block → IsSmallBody whole → IsSmallLoop l u st block'
loop_small whole x l u st block block' is same h =
    let parts = loop_small_form x l u st block (small_body whole (Loop x l u st block) is h) in
    record { first = parts.0; last = parts.1; stride = parts.2; stmts = small_list block block' same (small_rows block parts.3) }

pub shared_small : (whole : Body) (block block' : List Stmt) → whole ≡ Shared block → block' ≡ block → IsSmallBody whole → All IsSmallStmt block'
shared_small whole block block' is same h = small_list block block' same (small_rows block (shared_small_form block (small_body whole (Shared block) is h)))
