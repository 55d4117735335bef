-- The limits at each form of statement that holds others, over the lists that the code goes over.
use Rattle.std.proofs.Common.{◌≡◌, refl, ap, sym, ◌∙◌, ℕ, Bool, true, false, if◌then◌else◌, List, [], ◌∷◌, ◌++◌, Option}
use Rattle.ws_base.specs.declared.refusal.Refusal.{Refusal}
use Rattle.ws_tree.specs.declared.expr.Expr.{Expr}
use Rattle.ws_tree.specs.declared.stmt.Stmt.{Stmt}
use Rattle.ws_tree.specs.declared.stmt.Body.{Body}
use Rattle.ws_tree.specs.declared.stmt.Body.TheVariants.{Loop, Shared}
use Rattle.ws_tree.specs.declared.stmt.Body.TheBlock.{hidden-the_row-Stmt-0}
use Rattle.ws_tree.specs.Opened.{trees_open}
use Rattle.ws_types.specs.declared.types.Row.{Row}
use Rattle.ws_types.specs.Kinds.{least_from}
use Rattle.ws_types.proofs.Appended.{least-append}
use Rattle.ws_counts.specs.declared.tally.Sum.{Sum}
use Rattle.ws_counts.specs.Limits as limits
use Rattle.ws_counts.specs.Tallies.{all_summed}

block_list : (t : List Row) (shared : Bool) (ss : List Stmt) → limits.block_limits t shared (hidden-the_row-Stmt-0 ss) ≡ limits.stmts_limits t shared ss
unfolding trees_open
block_list t shared [] = refl
block_list t shared (x ∷ xs) = ap (λ r. limits.body_limits t shared x.line x.body ++ r) (block_list t shared xs)

steps_list : (t : List Row) (ss : List Stmt) → limits.block_steps t (hidden-the_row-Stmt-0 ss) ≡ limits.stmts_steps t ss
unfolding trees_open
steps_list t [] = refl
steps_list t (x ∷ xs) = ap (λ r. limits.body_steps t x.line x.body ++ r) (steps_list t xs)

loop_is : (t : List Row) (shared : Bool) (line : ℕ) (x : List ℕ) (l u : Expr) (s : Option Expr) (block : List Stmt) → limits.body_limits t shared line (Loop x l u s block) ≡ limits.expressions_faults line (limits.loop_pieces t l u s) ++ limits.stmts_limits t shared block
unfolding trees_open
loop_is t shared line x l u s block = rw (block_list t shared block)

loop_steps : (t : List Row) (line : ℕ) (x : List ℕ) (l u : Expr) (s : Option Expr) (block : List Stmt) → limits.body_steps t line (Loop x l u s block) ≡ limits.stmts_steps t block
unfolding trees_open
loop_steps t line x l u s block = steps_list t block

shared_is : (t : List Row) (shared : Bool) (line : ℕ) (block : List Stmt) → limits.body_limits t shared line (Shared block) ≡ (if shared then [] else (limits.stmts_limits t true block ++ limits.steps_faults line (limits.stmts_steps t block)))
unfolding trees_open
shared_is t shared line block = rw (block_list t true block, steps_list t block)

pub loop_noted : (t : List Row) (shared : Bool) (line : ℕ) (whole : Body) (x : List ℕ) (l u : Expr) (s : Option Expr) (block block' : List Stmt) (f0 f1 f2 : Option Refusal) →
    whole ≡ Loop x l u s block → block' ≡ block → f1 ≡ least_from f0 (limits.expressions_faults line (limits.loop_pieces t l u s)) → f2 ≡ least_from f1 (limits.stmts_limits t shared block') →
    f2 ≡ least_from f0 (limits.body_limits t shared line whole)
loop_noted t shared line whole x l u s block block' f0 f1 f2 is same e1 e2 =
    e2
    ∙ ap (λ b. least_from f1 (limits.stmts_limits t shared b)) same
    ∙ ap (λ f. least_from f (limits.stmts_limits t shared block)) e1
    ∙ sym (least-append f0 (limits.expressions_faults line (limits.loop_pieces t l u s)) (limits.stmts_limits t shared block))
    ∙ ap (least_from f0) (sym (loop_is t shared line x l u s block))
    ∙ ap (λ b. least_from f0 (limits.body_limits t shared line b)) (sym is)

pub loop_summed : (t : List Row) (line : ℕ) (whole : Body) (x : List ℕ) (l u : Expr) (s : Option Expr) (block block' : List Stmt) (k0 k1 : Sum) →
    whole ≡ Loop x l u s block → block' ≡ block → k1 ≡ all_summed k0 (limits.stmts_steps t block') → k1 ≡ all_summed k0 (limits.body_steps t line whole)
loop_summed t line whole x l u s block block' k0 k1 is same e =
    e ∙ ap (λ b. all_summed k0 (limits.stmts_steps t b)) same ∙ ap (all_summed k0) (sym (loop_steps t line x l u s block)) ∙ ap (λ b. all_summed k0 (limits.body_steps t line b)) (sym is)

pub shared_noted : (t : List Row) (shared : Bool) (line : ℕ) (whole : Body) (block block' : List Stmt) (f0 f1 f2 : Option Refusal) →
    whole ≡ Shared block → block' ≡ block → shared ≡ false → f1 ≡ least_from f0 (limits.stmts_limits t true block') → f2 ≡ least_from f1 (limits.steps_faults line (limits.stmts_steps t block')) →
    f2 ≡ least_from f0 (limits.body_limits t shared line whole)
shared_noted t shared line whole block block' f0 f1 f2 is same outside e1 e2 =
    let faults : List Refusal = limits.stmts_limits t true block ++ limits.steps_faults line (limits.stmts_steps t block) in
    e2
    ∙ ap (λ b. least_from f1 (limits.steps_faults line (limits.stmts_steps t b))) same
    ∙ ap (λ f. least_from f (limits.steps_faults line (limits.stmts_steps t block))) (e1 ∙ ap (λ b. least_from f0 (limits.stmts_limits t true b)) same)
    ∙ sym (least-append f0 (limits.stmts_limits t true block) (limits.steps_faults line (limits.stmts_steps t block)))
    ∙ ap (λ b. least_from f0 (if b then [] else faults)) (sym outside)
    ∙ ap (least_from f0) (sym (shared_is t shared line block))
    ∙ ap (λ b. least_from f0 (limits.body_limits t shared line b)) (sym is)
