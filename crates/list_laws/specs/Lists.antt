-- Lists of phases, from one kind of memory to another.
use Rattle.std.specs.Prelude.{◌≡◌, ◌⊎◌, ℕ, zero, suc, ◌+◌, ◌<◌, List}
use Rattle.phase_ops.specs.declared.phase.Phase.{Phase}
use Rattle.phase_ops.specs.Phases.{Cells, after_phase, key, none_yet, Outcome, Finished, Failed, result}
use Rattle.phase_ops.specs.Free.{Free, FreeFrom}

-- the outcome is a memory of this kind, or such a fault
abbrev pub Good : (Cells → Type 0) → (ℕ → ℕ → Type 0) → Outcome → Type 0
Good post fails (Finished m) = post m
Good post fails (Failed t k) = fails t k

-- From each memory of the first kind the phases are free of races, and end in one of the second kind or with such a phase and key.
abbrev pub Leads : ℕ → List Phase → (Cells → Type 0) → (Cells → Type 0) → (ℕ → ℕ → Type 0) → Type 0
Leads chunk ps pre post fails = (m : Cells) → pre m → FreeFrom chunk ps m × Good post fails (result ps m chunk)

-- the same of one phase
abbrev pub LeadsOne : ℕ → Phase → (Cells → Type 0) → (Cells → Type 0) → (ℕ → Type 0) → Type 0
LeadsOne chunk p pre post fails = (m : Cells) → pre m → Free p m × (((key p m chunk ≡ none_yet) × post (after_phase p m chunk)) ⊎ ((key p m chunk < none_yet) × fails (key p m chunk)))

-- the first of some phases fails so, or one of the others
abbrev pub either_fails : (ℕ → Type 0) → (ℕ → ℕ → Type 0) → ℕ → ℕ → Type 0
either_fails here there zero k = here k
either_fails here there (suc t) k = there t k

-- one of the first n phases fails so, or one of the others
abbrev pub joined_fails : ℕ → (ℕ → ℕ → Type 0) → (ℕ → ℕ → Type 0) → ℕ → ℕ → Type 0
joined_fails n first second t k = (first t k) ⊎ ((s : ℕ) × (t ≡ n + s) × second s k)

-- no fault, as one of the first phase or of any
abbrev pub Never : ℕ → Type 0
Never k = ⊥

abbrev pub NeverAt : ℕ → ℕ → Type 0
NeverAt t k = ⊥
