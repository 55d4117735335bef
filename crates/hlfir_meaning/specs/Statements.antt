-- Statements: one after another, up to the end or the first fault.
use Rattle.std.specs.Prelude.{ℕ, ◌+◌, Bool, true, false, if◌then◌else◌, List, [], ◌∷◌, length, Result, Ok, Err, ℤ, pos}
use mathlib.Core.Former.{Count}
use Rattle.ws_base.specs.declared.fault.Fault.{Fault}
use Rattle.ws_base.specs.Outcomes.{Staged, ◌>>=◌}
use Rattle.ws_space.specs.declared.shape.Dim.{Dim}
use Rattle.ws_space.specs.declared.shape.Triplet.{Triplet}
use Rattle.ws_space.specs.declared.state.VarState.{VarState}
use Rattle.ws_space.specs.declared.state.Var.{Var}
use Rattle.ws_space.specs.declared.state.State.{State}
use Rattle.ws_space.specs.Shapes.{Extents, dims, extents_of, size, all_places, declared_dim}
use Rattle.ws_space.specs.Faults.{at_line}
use Rattle.ws_space.specs.Runs.{Run, run_of, and_then, region_run, ticked, loop_of}
use Rattle.ws_space.specs.Replace.{filled, allocated_with, freed}
use Rattle.list_io.specs.Items.{take_values, next_line}
use Rattle.hlfir_ops.specs.declared.what.What.{What}
use Rattle.hlfir_ops.specs.declared.what.What.TheVariants as what
use Rattle.hlfir_ops.specs.declared.op.ValueId.{ValueId}
use Rattle.hlfir_ops.specs.declared.op.Op.{Op, Op', out-Op}
use Rattle.hlfir_ops.specs.declared.op.Region.{Region'}
use Rattle.hlfir_ops.specs.Trees.{Ops, end_ops, more_ops, Regions, end_regions, more_regions}
use Rattle.hlfir_ops.specs.Numbers.{op_numbers}
use Rattle.hlfir_ops.specs.Sorts.{Items, Alone, Allocates, Frees, Reads, sort_of}
use Rattle.hlfir_ops.specs.RulesRegions.{ops_in}
use Rattle.hlfir_ops.specs.RulesStatements.{is_also}
use Rattle.hlfir_meaning.specs.Environments.{Value, Environment, of_variables, OpRegion, standing, Yielded, result, operand, scalar_in, variable_in, state_in}
use Rattle.hlfir_meaning.specs.Selections.{extents}
use Rattle.hlfir_meaning.specs.Stage2.{targets}
use Rattle.hlfir_meaning.specs.Stage1.{walk}
use Rattle.hlfir_meaning.specs.Steps.{first_region, in_turn, op_region, past}
use Rattle.hlfir_meaning.specs.Assign.{Target, all_of, selected, movable, target, with_target}
use Rattle.hlfir_meaning.specs.Masks.{run_masked}
use Rattle.hlfir_meaning.specs.Combinations.{stepping, run_forall}

-- ---- statements of several ops: an op with `also` goes on in the statement of the op before it

-- an op, with the number of its first value
pub record Item : Type 0 where
  pub number : ℕ
  pub op : Op

-- the ops that go on here
abbrev pub continued : {m : Count} → ℕ → Ops m → List Item
continued n end_ops = []
continued n (more_ops op ops) = if is_also (out-Op op).what then record { number = n; op = op } ∷ continued (op_numbers op + n) ops else []

-- the same over a list
abbrev pub continued_in : ℕ → List Op → List Item
continued_in n [] = []
continued_in n (op ∷ ops) = if is_also (out-Op op).what then record { number = n; op = op } ∷ continued_in (op_numbers op + n) ops else []

-- what an item takes, and what its region yields
abbrev pub taken_by : List Var → Item → Value
taken_by vars i = operand (of_variables vars) (out-Op i.op).operands

abbrev pub yielded_by : List Var → Item → Staged Yielded
yielded_by vars i = walk (of_variables vars) (first_region i.number (out-Op i.op).regions)

-- ---- ALLOCATE and DEALLOCATE, item after item

abbrev pub bounds : Environment → List ValueId → List Dim
bounds env (l ∷ u ∷ more) = declared_dim (scalar_in (standing env l)) (scalar_in (standing env u)) ∷ bounds env more
bounds env _ = []

abbrev pub allocate : List Var → List Item → Staged (List Var)
allocate vars [] = Ok vars
allocate vars (i ∷ is) = do
  y ← yielded_by vars i
  s ← allocated_with (state_in (taken_by vars i)) (bounds y.env y.parts)
  allocate (with_target vars (taken_by vars i) s) is

abbrev pub deallocate : List Var → List Item → Staged (List Var)
deallocate vars [] = Ok vars
deallocate vars (i ∷ is) = do
  s ← freed (state_in (taken_by vars i))
  deallocate (with_target vars (taken_by vars i) s) is

-- ---- READ, item after item

abbrev pub target_extents : Target → Extents
target_extents (all_of a) = extents_of (dims a.shape)
target_extents (selected a s) = extents s
target_extents (movable s) = []

abbrev pub read_into : Target → List ℤ → Staged VarState
read_into (all_of a) xs = Ok (filled a (all_places (extents_of (dims a.shape))) xs)
read_into (selected a s) xs = do
  ts ← targets a s (all_places (extents s))
  Ok (filled a ts xs)
read_into (movable s) xs = Ok s

-- one item from this place on, where some values were taken before: the variables, how many were taken then, and the place after them
abbrev pub read_item : List ℕ → List Var → ℕ → ℕ → Item → Staged (List Var × ℕ × ℕ)
read_item input vars before at i = do
  y ← yielded_by vars i
  t ← target false (result y)
  vs ← take_values input (variable_in (result y)).truth before (size (target_extents t)) at
  s ← read_into t vs.0
  Ok (with_target vars (result y) s, before + size (target_extents t), vs.1)

abbrev pub read_items : List ℕ → List Var → ℕ → ℕ → List Item → Staged (List Var × ℕ)
read_items input vars before at [] = Ok (vars, at)
read_items input vars before at (i ∷ is) = do
  r ← read_item input vars before at i
  read_items input r.0 r.1 r.2 is

-- afterwards the rest of the current line is skipped, also where no value was taken
abbrev pub read : List ℕ → State → List Item → Staged State
read input s is = do
  r ← read_items input s.vars 0 s.read_to is
  Ok (record s { vars = r.0; read_to = next_line input r.1 })

-- ---- statements that may stand in a workshare

abbrev pub changed : State → Result (List Var) Fault → Result State Fault
changed s (Ok vars) = Ok (record s { vars = vars })
changed s (Err e) = Err e

-- an assignment, a WHERE or a FORALL
abbrev pub simple : ℕ → Op → What → List Var → Result (List Var) Fault
simple n op (what.Forall names) vars = run_forall vars (out-Op op).line n names (out-Op op).regions
simple n op w vars = run_masked vars n op

abbrev pub simple_block : ℕ → List Op → List Var → Result (List Var) Fault
simple_block = in_turn (λ n op vars. simple n op (out-Op op).what vars)

-- ---- statements that hold no other, and regions

-- one statement, with all its items where it has some
abbrev pub at_once_as : Items → List ℕ → ℕ → Op → List Item → What → State → Result State Fault
at_once_as Alone input n op is w s = changed s (simple n op w s.vars)
at_once_as Allocates input n op is w s = changed s (at_line (out-Op op).line (allocate s.vars is))
at_once_as Frees input n op is w s = changed s (at_line (out-Op op).line (deallocate s.vars is))
at_once_as Reads input n op is w s = at_line (out-Op op).line (read input s is)

abbrev pub at_once : List ℕ → ℕ → Op → List Item → What → State → Result State Fault
at_once input n op is w s = at_once_as (sort_of w).items input n op is w s

-- It counts first. A region counts its statements, and is entered only where they pass no limit.
abbrev pub single : List ℕ → ℕ → Op → List Item → What → State → Run
single input n op is what.Workshare s =
    and_then (run_of (ticked (out-Op op).line (length (ops_in (out-Op op).regions 0)) s))
    (λ r. region_run (out-Op op).line r (λ q. changed q (simple_block n (ops_in (out-Op op).regions 0) q.vars)))
single input n op is w s = and_then (run_of (ticked (out-Op op).line 1 s)) (λ r. run_of (at_once input n op is w r))

-- an op that goes on in a statement was carried out with it
abbrev pub unless_also : Bool → State → Run → Run
unless_also true s r = run_of (Ok s)
unless_also false s r = r

-- ---- the header of a DO

abbrev pub loop_steps : Environment → List ValueId → Staged Triplet
loop_steps env (l ∷ u ∷ s ∷ more) = stepping env l u s
loop_steps env _ = Ok (record { l = pos 1; u = pos 0; s = pos 1 })

abbrev pub loop_triplet : List Var → OpRegion → Staged Triplet
loop_triplet vars r = do
  y ← walk (of_variables vars) r
  loop_steps y.env y.parts

-- ---- lists of statements. The values of an op are numbered from this number on.

unfoldable mutual
  pub statements : {m : Count} → List ℕ → ℕ → Ops m → State → Run
  statements input n end_ops s = run_of (Ok s)
  statements input n (more_ops op ops) s =
      and_then (statement input n op (continued (op_numbers op + n) ops) s) (λ r. statements input (op_numbers op + n) ops r)

  pub statement : List ℕ → ℕ → Op → List Item → State → Run
  statement input n (Op' (what.Declare name) line os kind _ regions) also s = run_of (Ok s)
  statement input n (Op' what.DoLoop line os kind _ regions) also s = and_then (run_of (ticked line 1 s)) (λ r. loop input n line os regions r)
  statement input n (Op' w line os kind h regions) also s = unless_also (is_also w) s (single input n (Op' w line os kind h regions) (record { number = n; op = Op' w line os kind h regions } ∷ also) w s)

  -- the header of a DO, and its body
  pub loop : {m : Count} → List ℕ → ℕ → ℕ → List ValueId → Regions m → State → Run
  loop input n line os end_regions s = run_of (Ok s)
  loop input n line os (more_regions header regions) s =
      loop_of line (variable_in (operand (of_variables s.vars) os)).name (at_line line (loop_triplet s.vars (op_region n header))) (λ r. loop_body input (past n header) regions r) s

  pub loop_body : {m : Count} → List ℕ → ℕ → Regions m → State → Run
  loop_body input n end_regions s = run_of (Ok s)
  loop_body input n (more_regions (Region' _ ops) regions) s = statements input n ops s

abbrev pub statement_list : List ℕ → ℕ → List Op → State → Run
statement_list input n [] s = run_of (Ok s)
statement_list input n (op ∷ ops) s = and_then (statement input n op (continued_in (op_numbers op + n) ops) s) (λ r. statement_list input (op_numbers op + n) ops r)
