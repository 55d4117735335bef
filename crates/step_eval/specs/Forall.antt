-- A FORALL over lists, as the code has it.
use Rattle.std.specs.Prelude.{ℕ, List, [], ◌∷◌, Option, Result, Ok, ℤ}
use Rattle.ws_base.specs.declared.fault.Fault.{Fault}
use Rattle.ws_base.specs.Outcomes.{◌>>=◌}
use Rattle.ws_space.specs.Shapes.{all_places}
use Rattle.ws_space.specs.Values.{Name, state_of, with_state}
use Rattle.ws_space.specs.Faults.{at_lines}
use Rattle.ws_space.specs.Combinations.{lengths}
use Rattle.ws_tree.specs.declared.expr.Expr.{Expr}
use Rattle.ws_tree.specs.declared.stmt.Index.{Index}
use Rattle.ws_tree.specs.declared.stmt.Stmt.{Stmt}
use Rattle.array_meaning.specs.declared.world.World.{World}
use Rattle.array_meaning.specs.Assign.{with_vars}
use Rattle.array_meaning.specs.Forall.{Combination, header, mask_places, replaced_over, forall_part}
use Rattle.step_eval.specs.Combinations.{combinations_at}

-- the elements of a variable at these targets, replaced at once
abbrev pub put_over : World → ℕ → List ℕ → Name → List ℕ → List ℤ → Result World Fault
put_over w line ps x ts xs = do
  s ← replaced_over line ps (state_of w.vars x) ts xs
  Ok (with_vars w (with_state w.vars x s))

-- the body at the active combinations
abbrev pub block_over : World → List Stmt → List ℕ → List Combination → Result World Fault
block_over w [] ps cs = Ok w
block_over w (s ∷ ss) ps cs = do
  v ← forall_part w s.line s.body ps cs
  block_over v ss ps cs

abbrev pub first_line : ℕ → List Stmt → ℕ
first_line line [] = line
first_line line (s ∷ ss) = s.line

abbrev pub run_over : World → ℕ → List Index → Option Expr → List Stmt → Result World Fault
run_over w line is test ss = do
  ts ← at_lines line (first_line line ss) (header w is)
  active ← mask_places w line test (all_places (lengths ts)) (combinations_at is ts (all_places (lengths ts)))
  block_over w ss active (combinations_at is ts active)
