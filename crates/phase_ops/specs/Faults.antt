-- The fault that a key stands for.
use Rattle.std.specs.Prelude.{◌≡◌, ℕ, ◌/◌, ◌%◌, ◌<◌, List, [], ◌∷◌, length, map, slice_index_or, true, false}
use Rattle.ws_base.specs.declared.fault.FaultName.{FaultName}
use Rattle.ws_base.specs.declared.fault.Fault.{Fault}
use Rattle.phase_ops.specs.declared.phase.Act.{Act}
use Rattle.phase_ops.specs.declared.phase.Phase.{Phase}
use Rattle.phase_ops.specs.declared.phase.Phase.TheVariants.{Set, Loop, Part, Join}
use Rattle.phase_ops.specs.Phases.{key_of}

abbrev pub no_act : Act
no_act = record { line = 0; ops = []; whole = false }

-- the acts that may fail; a Join counts as one
abbrev pub failing_acts : Phase → List Act
failing_acts (Set l b acts) = acts
failing_acts (Loop l b count acts) = acts
failing_acts (Part l count act k t f) = act ∷ []
failing_acts (Join l count k t f s) = record { line = l; ops = []; whole = true } ∷ []

abbrev pub lines : List Act → List ℕ
lines acts = map (λ (a : Act). a.line) acts

abbrev pub act_lines : Phase → List ℕ
act_lines p = lines (failing_acts p)

-- the key is of this act, op, element and fault
pub record IsKey (p : Phase) (key act op element : ℕ) (name : FaultName) : Type 0 where
  pub act_in : act < length (act_lines p)
  pub op_in : op < 1048576
  pub element_in : element < 1048576
  pub key_is : key ≡ key_of act op element name

abbrev pub HasKey : Phase → ℕ → Type 0
HasKey p key = (act op element : ℕ) × (name : FaultName) × IsKey p key act op element name

-- the same by the key's own parts: its act is one of the phase's, and its last part is the number of a fault
pub record HoldsKey (p : Phase) (key : ℕ) : Type 0 where
  pub act_in : key / 17592186044416 < length (act_lines p)
  pub named : 0 < key % 16
  pub is_name : key % 16 < 13

-- a fault has the line of its act
abbrev pub fault_at : Phase → ℕ → ℕ → FaultName → Fault
fault_at p act element name = record { line = slice_index_or (act_lines p) act 0; name = name; element = element }

-- the key is the phase's, and this is its fault
abbrev pub IsFaultOf : Phase → ℕ → Fault → Type 0
IsFaultOf p key f = HasKey p key × ((act op element : ℕ) (name : FaultName) → IsKey p key act op element name → f ≡ fault_at p act element name)
