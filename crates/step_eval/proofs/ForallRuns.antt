-- A FORALL over the lists that the code goes over, statement after statement.
use Rattle.std.proofs.Common.{◌≡◌, refl, sym, ap, ◌∙◌, subst, ℕ, ◌+◌, ◌<◌, ◌≤◌, Bool, true, false, List, [], ◌∷◌, length, drop, get_or, All, Option, Result, Ok, Err, ℤ, bytes_eq}
use Rattle.std.specs.Prelude.{if◌then◌else◌}
use mathlib.Core.Path.{fun_ext}
use Rattle.std.proofs.lemmas.List.{drop_more}
use Rattle.std.proofs.lemmas.List.Elements.{All-nil, All-cons}
use Rattle.std.proofs.Math.ListN.{drop_of_length-le}
use Rattle.ws_base.specs.declared.fault.Fault.{Fault}
use Rattle.ws_base.specs.Outcomes.{◌>>=◌}
use Rattle.ws_space.specs.declared.shape.Triplet.{Triplet}
use Rattle.ws_space.specs.declared.state.ArrayValue.{ArrayValue}
use Rattle.ws_space.specs.declared.state.Var.{Var}
use Rattle.ws_space.specs.declared.state.VarState.{VarState}
use Rattle.ws_space.specs.declared.state.VarState.TheVariants.{Scalar, Array, Unallocated}
use Rattle.ws_space.specs.Combinations.{lengths}
use Rattle.ws_space.specs.Faults.{at_lines}
use Rattle.ws_space.specs.Replace.{replaced}
use Rattle.ws_space.specs.Shapes.{all_places}
use Rattle.ws_space.specs.Values.{Name, state_of, with_state}
use Rattle.ws_tree.specs.declared.expr.Expr.{Expr}
use Rattle.ws_tree.specs.declared.stmt.Index.{Index}
use Rattle.ws_tree.specs.declared.stmt.Stmt.{Stmt}
use Rattle.ws_tree.specs.declared.stmt.Body.{Body}
use Rattle.ws_tree.specs.declared.stmt.Body.TheVariants.{Forall}
use Rattle.ws_tree.specs.declared.stmt.Body.TheBlock.{hidden-the_row-Stmt-0}
use Rattle.ws_tree.specs.Opened.{trees_open}
use Rattle.array_meaning.specs.declared.world.World.{World}
use Rattle.array_meaning.specs.Assign.{with_vars}
use Rattle.array_meaning.specs.Forall as forall
use Rattle.array_meaning.specs.Forall.{Combination, combination, header, mask_places, forall_part, forall_block, run_forall}
use Rattle.array_meaning.specs.Program.{simple}
use Rattle.step_eval.specs.declared.halt.Halt.{Halt}
use Rattle.step_eval.specs.declared.halt.Halt.TheVariants.{Memory, Faulted}
use Rattle.step_eval.specs.Combinations.{combinations_at}
use Rattle.step_eval.specs.Forall.{put_over, block_over, first_line, run_over}
use Rattle.step_eval.specs.Halts.{Halts}
use Rattle.step_eval.specs.Small.{IsSmallBody, AreSmallStmts, IsSmallIndex, IsSmallOption, IsSmallStmt}

-- ---- the replacement

with_state_same : (vs : List Var) (x : Name) → with_state vs x (state_of vs x) ≡ vs
with_state_same [] x = refl
with_state_same (v ∷ vs) x = at_test (bytes_eq v.name x) (with_state_same vs x) where
  at_test : (b : Bool) → with_state vs x (state_of vs x) ≡ vs → (if b then record v { state = if b then v.state else state_of vs x } ∷ vs else v ∷ with_state vs x (if b then v.state else state_of vs x)) ≡ v ∷ vs
  at_test true h = refl
  at_test false h = ap (λ l. v ∷ l) h

still : (w : World) (x : Name) (s : VarState) → state_of w.vars x ≡ s → with_vars w (with_state w.vars x s) ≡ w
still w x s e = ap (λ l. with_vars w l) (ap (with_state w.vars x) (sym e) ∙ with_state_same w.vars x)

abbrev pub IsNoArray : VarState → Type 0
IsNoArray (Scalar v) = Unit {0}
IsNoArray (Array a) = ⊥
IsNoArray (Unallocated r) = Unit {0}

stays : (w : World) (line : ℕ) (ps : List ℕ) (x : Name) (ts : List ℕ) (xs : List ℤ) (s : VarState) → IsNoArray s → state_of w.vars x ≡ s → put_over w line ps x ts xs ≡ Ok w
stays w line ps x ts xs (Scalar v) h e = rw e (ap Ok (still w x (Scalar v) e))
stays w line ps x ts xs (Array a) h e = absurd h
stays w line ps x ts xs (Unallocated r) h e = rw e (ap Ok (still w x (Unallocated r) e))

-- a variable that is no array stays as it is
pub put_stays : (w : World) (line : ℕ) (ps : List ℕ) (x y : Name) (ts : List ℕ) (xs : List ℤ) (vs : List Var) (s : VarState) → IsNoArray s → vs ≡ w.vars → y ≡ x → state_of vs y ≡ s → put_over w line ps x ts xs ≡ Ok w
put_stays w line ps x y ts xs vs s h vars name e = stays w line ps x ts xs s h (ap (state_of w.vars) (sym name) ∙ (ap (λ v. state_of v y) (sym vars) ∙ e))

-- ---- lists

block_list : (w : World) (ss : List Stmt) (ps : List ℕ) (cs : List Combination) → forall_block w (hidden-the_row-Stmt-0 ss) ps cs ≡ block_over w ss ps cs
unfolding trees_open
block_list w [] ps cs = refl
block_list w (s ∷ ss) ps cs = ap (λ f. forall_part w s.line s.body ps cs >>= f) (fun_ext (λ v. block_list v ss ps cs))

line_list : (line : ℕ) (ss : List Stmt) → forall.first_line line (hidden-the_row-Stmt-0 ss) ≡ first_line line ss
unfolding trees_open
line_list line [] = refl
line_list line (s ∷ ss) = refl

forall_list : (w : World) (line : ℕ) (is : List Index) (test : Option Expr) (ss : List Stmt) → run_forall w line is test (hidden-the_row-Stmt-0 ss) ≡ run_over w line is test ss
unfolding trees_open run_forall
forall_list w line is test ss =
    ap (λ n. at_lines line n (header w is) >>= (λ ts. mask_places w line test (all_places (lengths ts)) (combinations_at is ts (all_places (lengths ts))) >>= (λ active. forall_block w (hidden-the_row-Stmt-0 ss) active (combinations_at is ts active)))) (line_list line ss)
    ∙ ap (λ f. at_lines line (first_line line ss) (header w is) >>= f) (fun_ext (λ ts.
    ap (λ f. mask_places w line test (all_places (lengths ts)) (combinations_at is ts (all_places (lengths ts))) >>= f) (fun_ext (λ active. block_list w ss active (combinations_at is ts active)))))

pub simple_list : (w : World) (line : ℕ) (is : List Index) (test : Option Expr) (ss : List Stmt) → simple w line (Forall is test ss) ≡ run_over w line is test ss
unfolding trees_open
simple_list w line is test ss = forall_list w line is test ss

-- ---- what is small

small_stmts : (ss : List Stmt) → AreSmallStmts (hidden-the_row-Stmt-0 ss) → All IsSmallStmt ss
unfolding trees_open
small_stmts [] h = All-nil IsSmallStmt
small_stmts (s ∷ ss) h = All-cons IsSmallStmt s ss h.0 (small_stmts ss h.1)

pub small_indexes : (is : List Index) (test : Option Expr) (ss : List Stmt) → IsSmallBody (Forall is test ss) → All IsSmallIndex is
unfolding trees_open
small_indexes is test ss h = h.0

pub small_test : (is : List Index) (test : Option Expr) (ss : List Stmt) → IsSmallBody (Forall is test ss) → IsSmallOption test
unfolding trees_open
small_test is test ss h = h.1

pub small_block : (is : List Index) (test : Option Expr) (ss : List Stmt) → IsSmallBody (Forall is test ss) → All IsSmallStmt ss
unfolding trees_open
small_block is test ss h = small_stmts ss h.2
