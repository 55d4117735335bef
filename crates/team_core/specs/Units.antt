-- The units of a list of phases, of which one is entered.
use Rattle.std.specs.Prelude.{◌≡◌, ◌⊎◌, ℕ, ◌+◌, ◌<◌, ◌≤◌, List, length, slice_index_or, pos, ◌≤ℤ◌}
use Rattle.phase_ops.specs.declared.phase.Source.{Source}
use Rattle.phase_ops.specs.declared.phase.Act.{Act}
use Rattle.phase_ops.specs.declared.phase.Phase.{Phase}
use Rattle.phase_ops.specs.Phases.{Cells, source, source_cells, parameter, natural, strand_effects, first_strand, strand_count}
use Rattle.phase_ops.specs.Free.{In, acts_of, count_value, WellFormed}
use Rattle.phase_ops.specs.Course.{course, memory_after}
use Rattle.act_eval.specs.Strands.{PartialsFit, AreChunks}
use Rattle.team_core.specs.Laws.{MayStart, phase_at}
use Rattle.team_core.specs.Scratches.{openings, InRounds, IsReached}
use Rattle.team_core.specs.declared.units.Place.{Place}
use Rattle.team_core.specs.declared.units.PhaseUnits.{PhaseUnits}

-- each act of the phase has at most so many ops
abbrev pub AreShort : Phase → ℕ → Type 0
AreShort p most = (a : Act) → In a (acts_of p) → length a.ops ≤ most

-- a number that may count iterations
pub record HasNumber (m : Cells) (s : Source) : Type 0 where
  pub there : (c : ℕ) → In c (source_cells s) → c < length m
  pub low : pos 0 ≤ℤ source m s
  pub high : source m s ≤ℤ pos 65536

pub record HasCount (p : Phase) (m : Cells) : Type 0 where
  pub there : (c : ℕ) → In c (parameter p) → c < length m
  pub low : pos 0 ≤ℤ count_value p m
  pub high : count_value p m ≤ℤ pos 65536

abbrev pub nowhere : Place
nowhere = record { phase = 0; unit = 0; strand = 0; before = 0 }

-- where to look for the effect `done` of the unit, whose first strand is this
abbrev pub IsPlaceOf : Place → ℕ → ℕ → ℕ → ℕ → Place → Type 0
IsPlaceOf last phase unit done first place =
    ((place ≡ last) × (last.phase ≡ phase) × (last.unit ≡ unit) × (last.before ≤ done)) ⊎ (place ≡ record { phase = phase; unit = unit; strand = first; before = 0 })

-- of the unit of a phase the strands before the place make so many effects
abbrev pub IsPlace : Phase → Cells → ℕ → Place → Type 0
IsPlace p m chunk x = IsReached (strand_effects p m chunk) (first_strand p chunk x.unit) (first_strand p chunk x.unit + strand_count p m chunk x.unit) x.strand x.before

abbrev pub ArePlaces : List Phase → Cells → ℕ → ℕ → List Place → Type 0
ArePlaces ps opening team chunk places =
    (i : ℕ) → i < length places
    → IsPlace (phase_at ps (slice_index_or places i nowhere).phase) (memory_after (course ps opening chunk team) (slice_index_or places i nowhere).phase) chunk (slice_index_or places i nowhere)

-- the team may run these phases, and there is a copy for each cell, a register for each op, and a place for each member
pub record IsMadeFor (w : PhaseUnits) (ps : List Phase) : Type 0 where
  pub may : MayStart ps w.opening w.team w.chunk
  pub long : length w.scratch.cells ≡ length w.opening
  pub placed : length w.places ≡ w.team
  pub places : ArePlaces ps w.opening w.team w.chunk w.places
  pub short : (t : ℕ) → t < length ps → AreShort (phase_at ps t) (length w.registers.items)

-- the copy holds the cells at the start of the entered phase
pub record IsEntered (w : PhaseUnits) (ps : List Phase) : Type 0 where
  pub made : IsMadeFor w ps
  pub there : w.phase < length ps
  pub opening_is : openings w.scratch.cells ≡ memory_after (course ps w.opening w.chunk w.team) w.phase
  pub small : length w.scratch.cells < 9223372036854775808
  pub rounds : InRounds w.scratch.cells w.scratch.round
  pub chunks : AreChunks w.chunk w.count
  pub count_is : w.count ≡ natural (count_value (phase_at ps w.phase) (openings w.scratch.cells))
  pub well : WellFormed (phase_at ps w.phase) (openings w.scratch.cells) w.chunk
  pub partials : PartialsFit (phase_at ps w.phase) (openings w.scratch.cells) w.chunk
