-- A loop of one act that evaluates a value at each place and stores it.
use Rattle.std.specs.Prelude.{◌≡◌, ℕ, suc, ◌<◌, ◌≤◌, false, List, [], ◌∷◌, ◌++◌, Option, Some, None}
use Rattle.phase_ops.specs.declared.effect.Effect.{Effect}
use Rattle.phase_ops.specs.declared.effect.Effect.TheVariants.{Store, Fault}
use Rattle.phase_ops.specs.declared.phase.Address.{Address}
use Rattle.phase_ops.specs.declared.phase.Micro.{Micro}
use Rattle.phase_ops.specs.declared.phase.Micro.TheVariants as micro
use Rattle.phase_ops.specs.declared.phase.Act.{Act}
use Rattle.phase_ops.specs.Phases.{Cells, word, register, address, acts_events, makes, key_of}
use Rattle.phase_ops.specs.Free.{In}
use Rattle.ws_space.specs.Shapes.{places_from}
use Rattle.act_laws.specs.Together.{Files, Scene, with_ops, Stop, first_stop, MayRead}
use Rattle.act_laws.specs.Strands.{ArePlain}

-- An iteration works at the place of its number, with no register written.
abbrev pub in_loop : Cells → List ℕ → Scene
in_loop m may = record { iteration = λ p. p; cells = m; may = may }

abbrev pub no_registers : Files
no_registers = λ p. []

abbrev pub storing : ℕ → List Micro → Address → ℕ → Act
storing line ops a reg = record { line = line; ops = ops ++ micro.Store a reg ∷ []; whole = false }

abbrev pub loop_effects : ℕ → List Micro → Address → ℕ → Cells → ℕ → List Effect
loop_effects line ops a reg m i = makes (acts_events i 0 (storing line ops a reg ∷ []) m)

abbrev pub stop_key : Stop → ℕ → ℕ
stop_key stop i = key_of 0 stop.op (suc i) stop.trouble.name

-- Each iteration stores its value; or the fault at which all stop together has the least key.
abbrev pub LoopGoes : ℕ → List Micro → Address → ℕ → Cells → List ℕ → ℕ → Option Stop → Type 0
LoopGoes line ops a reg m may n None =
    (i : ℕ) → i < n → loop_effects line ops a reg m i ≡ Store (address m (with_ops (in_loop m may) ops no_registers i) a) (word (register (with_ops (in_loop m may) ops no_registers i) reg)) ∷ []
LoopGoes line ops a reg m may n (Some stop) =
    (stop.trouble.element < n)
    × (loop_effects line ops a reg m stop.trouble.element ≡ Fault (stop_key stop stop.trouble.element) ∷ [])
    × ((i key : ℕ) → i < n → In (Fault key) (loop_effects line ops a reg m i) → stop_key stop stop.trouble.element ≤ key)

abbrev pub LoopLaw : Type 0
LoopLaw =
    (line : ℕ) (ops : List Micro) (a : Address) (reg : ℕ) (m : Cells) (may : List ℕ) (n : ℕ) → n ≤ 65536 → ArePlain ops → ((i : ℕ) → i < n → MayRead (in_loop m may) ops no_registers i)
    → LoopGoes line ops a reg m may n (first_stop (in_loop m may) (places_from 0 n) 0 no_registers ops)
