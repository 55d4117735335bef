-- A program's run: its statements in order, up to the end or the first fault.
use Rattle.std.specs.Prelude.{ℕ, suc, ◌+◌, if◌then◌else◌, Bool, true, List, [], ◌∷◌, ◌++◌, length, Option, Some, None, Result, Ok, Err, ℤ, pos}
use Rattle.ws_base.specs.declared.fault.Fault.{Fault}
use Rattle.ws_base.specs.Outcomes.{Staged, ◌>>=◌}
use Rattle.ws_space.specs.declared.shape.Dim.{Dim}
use Rattle.ws_space.specs.declared.state.ArrayValue.{ArrayValue}
use Rattle.ws_space.specs.declared.state.VarState.{VarState}
use Rattle.ws_space.specs.declared.state.VarState.TheVariants as state
use Rattle.ws_space.specs.declared.state.Var.{Var}
use Rattle.ws_space.specs.declared.state.State.{State}
use Rattle.ws_space.specs.Shapes.{Extents, size, all_places, declared_dim}
use Rattle.ws_space.specs.Values.{Name, state_of, with_state}
use Rattle.ws_space.specs.Faults.{at_line}
use Rattle.ws_space.specs.Runs.{Run, run_of, and_then, region_run, ticked, loop_of}
use Rattle.ws_space.specs.Replace.{is_logical, filled, zeros, allocated_with, freed}
use Rattle.ws_tree.specs.declared.expr.Expr.{Expr}
use Rattle.ws_tree.specs.declared.stmt.Bound.{Bound}
use Rattle.ws_tree.specs.declared.stmt.Bound.TheVariants as bound
use Rattle.ws_tree.specs.declared.stmt.Part.{Part}
use Rattle.ws_tree.specs.declared.stmt.Decl.{Decl}
use Rattle.ws_tree.specs.declared.stmt.Tree.{Tree}
use Rattle.ws_tree.specs.declared.stmt.Stmt.{Stmt}
use Rattle.ws_tree.specs.declared.stmt.Body.{Body}
use Rattle.ws_tree.specs.declared.stmt.Body.TheVariants.{Assign, Masked', Forall', Loop', Allocate, Deallocate, Read, Shared'}
use Rattle.ws_tree.specs.Trees.{Stmts, end_stmts, more_stmts}
use Rattle.list_io.specs.Items.{take_values, next_line}
use Rattle.array_meaning.specs.declared.world.World.{World}
use Rattle.array_meaning.specs.declared.world.Constant.{Constant}
use Rattle.array_meaning.specs.declared.world.Source.{Source}
use Rattle.array_meaning.specs.Stage2.{operands, targets, array_of}
use Rattle.array_meaning.specs.Assign.{Target, selection, movable, target, target_name, assign, with_vars, with_target}
use Rattle.array_meaning.specs.Where.{run_where}
use Rattle.array_meaning.specs.Forall.{scalar, stepping, run_forall}

abbrev pub world : Source → State → World
world g s = record { constants = g.constants; allocatables = g.allocatables; vars = s.vars }

abbrev pub with_vars_of : State → World → State
with_vars_of s w = record s { vars = w.vars }

abbrev pub changed : State → Result World Fault → Result State Fault
changed s (Ok w) = Ok (with_vars_of s w)
changed s (Err e) = Err e

-- ---- ALLOCATE and DEALLOCATE, item after item

-- `:` alone is no bound of a declared array, of a constant's declaration or of ALLOCATE in an accepted program
abbrev pub bound_dim : World → Bound → Staged Dim
bound_dim w (bound.Upper e) = do
  u ← scalar w e
  Ok (declared_dim (pos 1) u)
bound_dim w (bound.Both e f) = do
  l ← scalar w e
  u ← scalar w f
  Ok (declared_dim l u)
bound_dim w bound.Deferred = Ok (declared_dim (pos 1) (pos 0))

abbrev pub bound_dims : World → List Bound → Staged (List Dim)
bound_dims w [] = Ok []
bound_dims w (b ∷ bs) = do
  d ← bound_dim w b
  ds ← bound_dims w bs
  Ok (d ∷ ds)

abbrev pub with_name : World → Name → VarState → World
with_name w x s = with_vars w (with_state w.vars x s)

abbrev pub allocate : World → List Part → Staged World
allocate w [] = Ok w
allocate w (p ∷ ps) = do
  ds ← bound_dims w p.shape
  s ← allocated_with (state_of w.vars p.name) ds
  allocate (with_name w p.name s) ps

abbrev pub deallocate : World → List Name → Staged World
deallocate w [] = Ok w
deallocate w (x ∷ xs) = do
  s ← freed (state_of w.vars x)
  deallocate (with_name w x s) xs

-- ---- READ, item after item

abbrev pub selection_extents : Target → Extents
selection_extents (selection t) = first_of (operands t) where
  first_of : List Extents → Extents
  first_of [] = []
  first_of (e ∷ es) = e
selection_extents (movable s) = []

abbrev pub read_into : Target → List ℤ → Staged VarState
read_into (movable s) xs = Ok s
read_into (selection t) xs = do
  ts ← targets t (all_places (selection_extents (selection t)))
  Ok (put (array_of t) ts xs)
  where
    put : Option ArrayValue → List ℕ → List ℤ → VarState
    put None ts xs = state.Scalar (pos 0)
    put (Some a) ts xs = filled a ts xs

-- one item from this place on, where some values were taken before: the world, how many were taken then, and the place after them
abbrev pub read_item : List ℕ → World → ℕ → ℕ → Expr → Staged (World × ℕ × ℕ)
read_item input w before at e = do
  t ← target true w e
  vs ← take_values input (is_logical w.vars (target_name e)) before (size (selection_extents t)) at
  s ← read_into t vs.0
  Ok (with_target w e s, before + size (selection_extents t), vs.1)

abbrev pub read_items : List ℕ → World → ℕ → ℕ → List Expr → Staged (World × ℕ)
read_items input w before at [] = Ok (w, at)
read_items input w before at (e ∷ es) = do
  r ← read_item input w before at e
  read_items input r.0 r.1 r.2 es

-- afterwards the rest of the current line is skipped, also where no value was taken
abbrev pub read : Source → State → List Expr → Staged State
read g s es = do
  r ← read_items g.input (world g s) 0 s.read_to es
  Ok (record (with_vars_of s r.0) { read_to = next_line g.input r.1 })

-- ---- statements

-- a statement that may stand in a region
abbrev pub simple : World → ℕ → Body → Result World Fault
simple w line (Assign left right) = assign w line left right
simple w line (Masked' test h stmts k elses) = run_where w line (Masked' test h stmts k elses)
simple w line (Forall' indexes test _ stmts) = run_forall w line indexes test stmts
simple w line body = Ok w

abbrev pub simple_block : {m : _} → World → Stmts m → Result World Fault
simple_block w end_stmts = Ok w
simple_block w (more_stmts line body rest) = do
  v ← simple w line body
  simple_block v rest

abbrev pub length_of : {m : _} → Stmts m → ℕ
length_of end_stmts = 0
length_of (more_stmts line body rest) = suc (length_of rest)

abbrev pub region : {m : _} → Source → Stmts m → State → Result State Fault
region g stmts s = changed s (simple_block (world g s) stmts)

-- a statement outside regions that holds no other
abbrev pub at_once : Source → ℕ → Body → State → Result State Fault
at_once g line (Allocate ps) s = changed s (at_line line (allocate (world g s) ps))
at_once g line (Deallocate xs) s = changed s (at_line line (deallocate (world g s) xs))
at_once g line (Read es) s = at_line line (read g s es)
at_once g line body s = changed s (simple (world g s) line body)

unfoldable mutual
  pub statements : {m : _} → Source → Stmts m → State → Run
  statements g end_stmts s = run_of (Ok s)
  statements g (more_stmts line body rest) s = and_then (statement g line body s) (λ r. statements g rest r)

  -- it counts first; a region counts its statements, and is entered only where they pass no limit
  pub statement : Source → ℕ → Body → State → Run
  statement g line (Loop' x l u st _ stmts) s = and_then (run_of (ticked line 1 s)) (λ r. loop_of line x (at_line line (stepping (world g r) l u st)) (λ q. statements g stmts q) r)
  statement g line (Shared' _ stmts) s = and_then (run_of (ticked line (length_of stmts) s)) (λ r. region_run line r (λ q. region g stmts q))
  statement g line body s = and_then (run_of (ticked line 1 s)) (λ r. run_of (at_once g line body r))

abbrev pub statement_list : Source → List Stmt → State → Run
statement_list g [] s = run_of (Ok s)
statement_list g (t ∷ ts) s = and_then (statement g t.line t.body s) (λ r. statement_list g ts r)

-- ---- declarations

-- a constant expression is evaluated where no variable is known
abbrev pub constants_alone : List Constant → World
constants_alone cs = record { constants = cs; allocatables = []; vars = [] }

abbrev pub staged_or : {A : Type 0} → A → Staged A → A
staged_or other (Ok x) = x
staged_or other (Err t) = other

-- the value of a constant, and the bounds of a declared array; in an accepted program each has one
abbrev pub constant_value : List Constant → Expr → ℤ
constant_value cs e = staged_or (pos 0) (scalar (constants_alone cs) e)

abbrev pub declared_dims : List Constant → List Bound → List Dim
declared_dims cs bs = staged_or [] (bound_dims (constants_alone cs) bs)

-- variables start as 0 or false, and allocatables unallocated
abbrev pub first_state : List Constant → Decl → VarState
first_state cs d = if d.allocatable then state.Unallocated (length d.shape) else zeros (declared_dims cs d.shape)

abbrev pub declaring : Option Expr → List Constant → Decl → List Constant × List Var
declaring (Some e) cs d = (cs ++ record { name = d.name; value = constant_value cs e } ∷ [], [])
declaring None cs d = (cs, record { name = d.name; truth = d.truth; state = first_state cs d } ∷ [])

-- the named constants and the variables; a constant is known from its declaration on
abbrev pub declared : List Constant → List Decl → List Constant × List Var
declared cs [] = (cs, [])
declared cs (d ∷ ds) =
    let here = declaring d.constant cs d in
    let rest = declared here.0 ds in
    (rest.0, here.1 ++ rest.1)

abbrev pub names_where : (Decl → Bool) → List Decl → List Name
names_where test [] = []
names_where test (d ∷ ds) = if test d then d.name ∷ names_where test ds else names_where test ds

-- ---- the whole program

abbrev pub source_of : Tree → List ℕ → Source
source_of t bytes = record { constants = (declared [] t.decls).0; allocatables = names_where (λ d. d.allocatable) t.decls; input = bytes }

abbrev pub opening : Tree → State
opening t = record { vars = (declared [] t.decls).1; read_to = 0; steps = 0; regions = 0 }

unfoldable pub run : Tree → List ℕ → Run
run t bytes = statement_list (source_of t bytes) t.body (opening t)
