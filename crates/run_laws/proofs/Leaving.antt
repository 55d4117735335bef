-- Statements that leave the variables of their source's world, which fits the names, or fault as their source does.
use Rattle.std.proofs.Common.{◌≡◌, refl, ap, ℕ, List, Result, Ok, Err, IfOk}
use Rattle.ws_base.specs.declared.fault.Fault.{Fault}
use Rattle.ws_base.specs.Outcomes.{Staged, ◌>>=◌}
use Rattle.ws_space.specs.declared.state.Var.{Var}
use Rattle.ws_space.specs.declared.state.State.{State}
use Rattle.ws_space.specs.Faults.{at_line}
use Rattle.hlfir_meaning.specs.Statements.{changed}
use Rattle.array_meaning.specs.declared.world.World.{World}
use Rattle.array_meaning.specs.declared.world.Source.{Source}
use Rattle.array_meaning.specs.Program as source
use Rattle.array_meaning.specs.Program.{world}
use Rattle.lower_values.specs.declared.names.Names.{Names}
use Rattle.world_laws.specs.Worlds.{FitDeclares, FitsNames}
use Rattle.world_laws.specs.Meanings.{LeavesWorld}
use Rattle.run_laws.proofs.InOrder.{EndsIn}
use Rattle.run_laws.proofs.Loops.{FitsState}

-- the same as `LeavesWorld`, before the line of the fault is known
abbrev pub LeavesVars : Names → Staged (List Var) → Staged World → Type 0
LeavesVars names r (Ok w) = (r ≡ Ok w.vars) × FitsNames names w
LeavesVars names r (Err t) = r ≡ Err t

-- both do this first, and go on alike
pub leaves-then : {A : Type 0} (names : Names) (P : A → Type 0) (r : Staged A) (f : A → Staged (List Var)) (g : A → Staged World) → IfOk r P → ((a : A) → P a → LeavesVars names (f a) (g a)) → LeavesVars names (r >>= f) (r >>= g)
leaves-then names P (Ok a) f g h k = k a h
leaves-then names P (Err t) f g h k = refl

pub leaves-line : (names : Names) (line : ℕ) (r : Staged (List Var)) (q : Staged World) → LeavesVars names r q → LeavesWorld names (at_line line r) (at_line line q)
leaves-line names line r (Ok w) h = (ap (at_line line) h.0, h.1)
leaves-line names line r (Err t) h = ap (at_line line) h

-- the variables of the state are those of a world that fits
pub refit : (g : Source) (names : Names) (s : State) (vars : List Var) → FitsState g names s → FitDeclares 0 names.variables vars → FitsState g names (record s { vars = vars })
refit g names s vars h f = record { variables = f; constants = h.constants; integers = h.integers; truths = h.truths; allocatables = h.allocatables }

pub leaves-state : (g : Source) (names : Names) (s : State) (r : Result (List Var) Fault) (q : Result World Fault) → FitsState g names s → LeavesWorld names r q → (changed s r ≡ source.changed s q) × EndsIn (FitsState g names) (source.changed s q)
leaves-state g names s r (Ok w) h f = (ap (changed s) f.0, refit g names s w.vars h f.1.variables)
leaves-state g names s r (Err e) h f = (ap (changed s) f, tt)
