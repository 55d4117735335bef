-- What holds of phases: what their units depend on, and whose key is the least.
use Rattle.std.specs.Prelude.{◌≡◌, ◌≢◌, ◌⊎◌, ℕ, suc, ◌<◌, ◌≤◌, Bool, true, cond, List, ◌++◌, map, length, slice_index, slice_index_or}
use Rattle.ws_base.specs.declared.fault.FaultName.{FaultName}
use Rattle.phase_ops.specs.declared.effect.Effect.{Effect}
use Rattle.phase_ops.specs.declared.effect.Effect.TheVariants.{Fault}
use Rattle.phase_ops.specs.declared.phase.Act.{Act}
use Rattle.phase_ops.specs.declared.phase.Phase.{Phase}
use Rattle.phase_ops.specs.declared.phase.Phase.TheVariants.{Set, Loop, Part, Join}
use Rattle.phase_ops.specs.Phases.{Cells, parameter, unit_reads, units, effects, strands, strand_events, strand_effects, iterations, acts_events, value_events, makes, lay, key, key_of, none_yet}
use Rattle.phase_ops.specs.Free.{In, Apart, WellFormed, IsChunk}
use Rattle.phase_ops.specs.Course.{FreeOfRaces, work_of}
use Rattle.phase_ops.specs.Faults.{failing_acts, act_lines, IsKey}

-- both memories have these cells alike
abbrev pub Agree : Cells → Cells → List ℕ → Type 0
Agree xs ys cs = (length xs ≡ length ys) × ((c : ℕ) → In c cs → slice_index xs c ≡ slice_index ys c)

-- A unit does the same over two memories that have alike the cells that the unit reads and those of the count.
abbrev pub FrameLaw : Type 0
FrameLaw =
    (p : Phase) (chunk u : ℕ) (xs ys : Cells) → Agree xs ys (parameter p ++ unit_reads p xs chunk u)
    → (units p xs chunk ≡ units p ys chunk) × (effects p xs chunk u ≡ effects p ys chunk u) × (unit_reads p xs chunk u ≡ unit_reads p ys chunk u)

-- each of the effects is one of a strand other than s
abbrev pub OfOthers : Phase → Cells → ℕ → ℕ → List Effect → Type 0
OfOthers p m chunk s es = (e : Effect) → In e es → (t : ℕ) × (t < strands p m chunk) × (t ≢ s) × In e (strand_effects p m chunk t)

-- Whatever other strands have done, in whatever order, a strand does what it does at the start of its phase.
abbrev pub StrandLaw : Type 0
StrandLaw =
    (p : Phase) (m : Cells) (chunk s : ℕ) (others : List Effect) → Apart p m chunk → s < strands p m chunk → OfOthers p m chunk s others
    → (strand_events p (lay m others) chunk s ≡ strand_events p m chunk s) × (strand_effects p (lay m others) chunk s ≡ strand_effects p m chunk s)

-- Where the strands of a phase are apart, its units are.
abbrev pub RaceLaw : Type 0
RaceLaw = (p : Phase) (m : Cells) (chunk : ℕ) → Apart p m chunk → FreeOfRaces (work_of p m chunk)

-- ---- keys

-- what one iteration makes, before a Part joins its unit's faults; a Join counts as one iteration
abbrev pub iteration_effects : Phase → Cells → ℕ → ℕ → List Effect
iteration_effects (Set l b acts) m chunk i = makes (acts_events i 0 acts m)
iteration_effects (Loop l b count acts) m chunk i = makes (acts_events i 0 acts m)
iteration_effects (Part l count act k t f) m chunk i = makes (value_events act m i)
iteration_effects (Join l count k t f slot) m chunk i = strand_effects (Join l count k t f slot) m chunk 0

abbrev pub wholes : List Act → List Bool
wholes acts = map (λ (a : Act). a.whole) acts

abbrev pub act_wholes : Phase → List Bool
act_wholes p = wholes (failing_acts p)

-- the element that a fault of the act reports at the iteration i
abbrev pub element_of : Phase → ℕ → ℕ → ℕ
element_of p act i = cond (slice_index_or (act_wholes p) act true) 0 (suc i)

-- the operation `op` of the act fails at the iteration i
pub record FailsAt (p : Phase) (m : Cells) (chunk i act op : ℕ) (name : FaultName) : Type 0 where
  pub there : i < iterations p m
  pub act_in : act < length (act_lines p)
  pub op_in : op < 1048576
  pub fails : In (Fault (key_of act op (element_of p act i) name)) (iteration_effects p m chunk i)

-- by act, then by operation, then by element
abbrev pub NoLater : ℕ → ℕ → ℕ → ℕ → ℕ → ℕ → Type 0
NoLater a o e a' o' e' = (a < a') ⊎ ((a ≡ a') × ((o < o') ⊎ ((o ≡ o') × (e ≤ e'))))

abbrev pub NoneFails : Phase → Cells → ℕ → Type 0
NoneFails p m chunk = (i act op : ℕ) (name : FaultName) → FailsAt p m chunk i act op name → ⊥

-- the key is that of the first operation that fails anywhere, at the least element at which it fails
pub record IsFirstFault (p : Phase) (m : Cells) (chunk k : ℕ) : Type 0 where
  pub iteration : ℕ
  pub act : ℕ
  pub op : ℕ
  pub name : FaultName
  pub fails : FailsAt p m chunk iteration act op name
  pub is_key : IsKey p k act op (element_of p act iteration) name
  pub first : (i a o : ℕ) (n : FaultName) → FailsAt p m chunk i a o n → NoLater act op (element_of p act iteration) a o (element_of p a i)

-- A phase has no key where no operation fails at any iteration; else its key is that of the first fault.
abbrev pub KeyLaw : Type 0
KeyLaw =
    (p : Phase) (m : Cells) (chunk : ℕ) → IsChunk chunk → WellFormed p m chunk
    → ((key p m chunk ≡ none_yet) × NoneFails p m chunk) ⊎ ((key p m chunk < none_yet) × IsFirstFault p m chunk (key p m chunk))
