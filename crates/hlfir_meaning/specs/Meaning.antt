-- What a module means: the run of its statements over the data.
use Rattle.std.specs.Prelude.{ℕ, Bool, true, false, List, [], ◌∷◌, ◌++◌, Option, Some}
use Rattle.ws_space.specs.declared.state.VarState.{VarState}
use Rattle.ws_space.specs.declared.state.VarState.TheVariants as state
use Rattle.ws_space.specs.declared.state.Var.{Var}
use Rattle.ws_space.specs.declared.state.State.{State}
use Rattle.ws_space.specs.Shapes.{dims}
use Rattle.ws_space.specs.Runs.{Run}
use Rattle.ws_space.specs.Replace.{zeros}
use Rattle.hlfir_ops.specs.declared.kinds.Elem.{Elem}
use Rattle.hlfir_ops.specs.declared.kinds.Elem.TheVariants.{I32, I1}
use Rattle.hlfir_ops.specs.declared.kinds.ValueKind.{ValueKind}
use Rattle.hlfir_ops.specs.declared.kinds.ValueKind.TheVariants.{Declared, Allocatable}
use Rattle.hlfir_ops.specs.declared.what.What.{What}
use Rattle.hlfir_ops.specs.declared.what.What.TheVariants.{Declare}
use Rattle.hlfir_ops.specs.declared.op.Op.{Op, out-Op}
use Rattle.hlfir_ops.specs.declared.op.Module.{Module}
use Rattle.hlfir_ops.specs.RulesValues.{elem_of}
use Rattle.hlfir_meaning.specs.Statements.{statement_list}

-- ---- the variables as a run begins

abbrev pub is_truth : Elem → Bool
is_truth I1 = true
is_truth I32 = false

-- 0 or false, and allocatables unallocated
abbrev pub first_state : ValueKind → VarState
first_state (Declared e shape) = zeros (dims shape)
first_state (Allocatable e rank) = state.Unallocated rank
first_state kind = zeros []

abbrev pub declared : What → Option ValueKind → List Var
declared (Declare name) (Some kind) = record { name = name; truth = is_truth (elem_of kind); state = first_state kind } ∷ []
declared w kind = []

-- in order of declaration
abbrev pub declared_in : List Op → List Var
declared_in [] = []
declared_in (op ∷ ops) = declared (out-Op op).what (out-Op op).kind ++ declared_in ops

abbrev pub opening : List Op → State
opening ops = record { vars = declared_in ops; read_to = 0; steps = 0; regions = 0 }

-- ---- the whole module, over the bytes of its data

unfoldable pub meaning : Module → List ℕ → Run
meaning m input = statement_list input 0 m.ops (opening m.ops)
