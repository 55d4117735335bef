-- A Set: a phase of one strand.
use Rattle.std.specs.Prelude.{◌≡◌, ℕ, ◌<◌, ◌≤◌, ℤ, pos, ◌<ℤ◌, List, length}
use Rattle.phase_ops.specs.declared.phase.Act.{Act}
use Rattle.phase_ops.specs.declared.phase.Label.{Label}
use Rattle.phase_ops.specs.declared.phase.Phase.TheVariants.{Set}
use Rattle.phase_ops.specs.Phases.{Cells, acts_events, divides, lay, least_key, after_phase, key}
use Rattle.phase_ops.specs.Free.{In, stored, lessened, NameEarlier, Free, IsChunk}
use Rattle.loop_laws.specs.Loops.{does, looks_at}

-- the acts of a Set over this memory
pub record Staging (acts : List Act) (m : Cells) : Type 0 where
  pub few_acts : length acts < 1048576
  pub few_ops : (a : Act) → In a acts → (length a.ops ≤ 1048576) × NameEarlier 0 a.ops
  pub positive : (z : ℤ) → In z (divides (acts_events 0 0 acts m)) → pos 0 <ℤ z
  pub loaded : (c : ℕ) → In c (looks_at acts m 0) → c < length m
  pub stored_there : (c : ℕ) → In c (stored (does acts m 0)) → c < length m
  pub no_least : (c : ℕ) → In c (lessened (does acts m 0)) → ⊥

-- A Set is free of races, and does what its one strand does.
abbrev pub SetLaw : Type 0
SetLaw =
    (l : ℕ) (b : Label) (acts : List Act) (m : Cells) → Staging acts m
    → Free (Set l b acts) m × ((chunk : ℕ) → IsChunk chunk → (after_phase (Set l b acts) m chunk ≡ lay m (does acts m 0)) × (key (Set l b acts) m chunk ≡ least_key (does acts m 0)))
