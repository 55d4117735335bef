-- What the phases of a step leave.
use Rattle.std.specs.Prelude.{◌≡◌, ◌⊎◌, ℕ, ◌<◌, ◌≤◌, ℤ, List, [], ◌∷◌, length, Some, Result, Ok, Err, slice_index, ◌++◌, slice_get}
use Rattle.ws_base.specs.declared.fault.FaultName.{FaultName}
use Rattle.phase_ops.specs.declared.effect.Effect.TheVariants.{Store}
use Rattle.phase_ops.specs.declared.phase.Source.{Source}
use Rattle.phase_ops.specs.declared.phase.Act.{Act}
use Rattle.phase_ops.specs.declared.phase.Label.{Label}
use Rattle.phase_ops.specs.declared.phase.Phase.TheVariants.{Loop}
use Rattle.phase_ops.specs.Phases.{Cells, source_cells, each_from, phase_effects, lay, after_phase, key}
use Rattle.phase_ops.specs.Free.{In, stored, lessened, Free, IsChunk}
use Rattle.loop_laws.specs.Moves.{Row, Move, Failure, whole, moved, targets_of, values_of}
use Rattle.loop_laws.specs.Loops.{Plan, ended, rows_of, does, looks_at, Follows, Fitting, Alone, Keyed, Touched, Replaced}
use Rattle.ws_base.specs.Outcomes.{◌>>=◌}

-- ---- whole maps

-- the iterations of the rows ascend
abbrev pub Ascend : {V : Type 0} → List (Row V) → Type 0
Ascend [] = Unit {0}
Ascend (r ∷ rs) = ((q : Row _) → In q rs → r.0 < q.0) × Ascend rs

-- by move, then by iteration
abbrev pub NotAfter : ℕ → ℕ → ℕ → ℕ → Type 0
NotAfter o i o' i' = (o < o') ⊎ ((o ≡ o') × (i ≤ i'))

-- the whole maps give these rows: at no place a move fails, and the rows are those that no test lets go, with all values
pub record AllMoved (V : Type 0) (moves : List (Move V)) (rs ts : List (Row V)) : Type 0 where
  pub none_fails : (r : Row V) → In r rs → (o : ℕ) (n : FaultName) → moved moves r.1 ≡ Err (o, n) → ⊥
  pub there : (r : Row V) → In r rs → (s : List V) → moved moves r.1 ≡ Ok (Some s) → In (r.0, s) ts
  pub back : (t : Row V) → In t ts → (r : Row V) × In r rs × (r.0 ≡ t.0) × (moved moves r.1 ≡ Ok (Some t.1))

-- a move fails at a place, and no earlier one fails anywhere, nor this one at an earlier place
pub record FailsFirst (V : Type 0) (moves : List (Move V)) (rs : List (Row V)) (k : Failure) : Type 0 where
  pub row : Row V
  pub row_in : In row rs
  pub iteration : row.0 ≡ k.iteration
  pub fails : moved moves row.1 ≡ Err (k.move, k.name)
  pub first : (r : Row V) → In r rs → (o : ℕ) (n : FaultName) → moved moves r.1 ≡ Err (o, n) → NotAfter k.move k.iteration o r.0

abbrev pub Bridged : (V : Type 0) → List (Move V) → List (Row V) → Result (List (Row V)) Failure → Type 0
Bridged V moves rs (Ok ts) = AllMoved V moves rs ts
Bridged V moves rs (Err k) = FailsFirst V moves rs k

abbrev pub BridgeLaw : Type 0
BridgeLaw = (moves : List (Move ℤ)) (rs : List (Row ℤ)) → Ascend rs → Bridged ℤ moves rs (whole moves rs)

-- the iteration and the name alone, which are what a fault tells of its place
abbrev pub told : {A : Type 0} → Result A Failure → Result A (ℕ × FaultName)
told (Ok x) = Ok x
told (Err f) = Err (f.iteration, f.name)

-- Whole maps of two lists of moves are those of the first, and then those of the second.
abbrev pub JoinLaw : Type 0
JoinLaw = (xs ys : List (Move ℤ)) (rs : List (Row ℤ)) → told (whole (xs ++ ys) rs) ≡ (told (whole xs rs) >>= (λ ts. told (whole ys ts)))

-- Targets and values of rows stand in one order: the k-th of both are those of one row, and each row's stand somewhere together.
abbrev pub RowsLaw : Type 0
RowsLaw =
    (target : ℕ → List ℤ → ℕ) (value : ℕ → List ℤ → ℤ) (ts : List (Row ℤ))
    → (length (values_of value ts) ≡ length (targets_of target ts))
    × ((k p : ℕ) (z : ℤ) → slice_get (targets_of target ts) k ≡ Some p → slice_get (values_of value ts) k ≡ Some z → (i : ℕ) × (s : List ℤ) × In (i, s) ts × (target i s ≡ p) × (value i s ≡ z))
    × ((i : ℕ) (s : List ℤ) → In (i, s) ts → (k : ℕ) × (slice_get (targets_of target ts) k ≡ Some (target i s)) × (slice_get (values_of value ts) k ≡ Some (value i s)))

-- ---- any loop

-- whatever the chunk, a loop does what its iterations do in order
abbrev pub ChunkLaw : Type 0
ChunkLaw =
    (l : ℕ) (b : Label) (count : Source) (acts : List Act) (m : Cells) (n chunk : ℕ) → IsChunk chunk → Fitting count acts m n
    → phase_effects (Loop l b count acts) m chunk ≡ each_from (does acts m) 0 n

abbrev pub FreeLaw : Type 0
FreeLaw = (l : ℕ) (b : Label) (count : Source) (acts : List Act) (m : Cells) (n : ℕ) → Fitting count acts m n → Alone count acts m n → Free (Loop l b count acts) m

-- the key of a loop is that of its whole maps
abbrev pub LoopKeyLaw : Type 0
LoopKeyLaw =
    (l : ℕ) (b : Label) (count : Source) (acts : List Act) (m : Cells) (n chunk : ℕ) (plan : Plan ℤ) → IsChunk chunk → Fitting count acts m n → Follows ℤ plan acts m n
    → Keyed plan (key (Loop l b count acts) m chunk) (whole plan.moves (rows_of plan n))

-- A cell that one iteration alone touches has what this iteration leaves there; one that none touches stays.
abbrev pub CellLaw : Type 0
CellLaw =
    (l : ℕ) (b : Label) (count : Source) (acts : List Act) (m : Cells) (n chunk : ℕ) → IsChunk chunk → Fitting count acts m n
    → (length (after_phase (Loop l b count acts) m chunk) ≡ length m)
    × ((i c : ℕ) → i < n → ((j : ℕ) → j < n → In c (stored (does acts m j)) ⊎ In c (lessened (does acts m j)) → j ≡ i) → slice_index (after_phase (Loop l b count acts) m chunk) c ≡ slice_index (lay m (does acts m i)) c)
    × ((c : ℕ) → (Touched (does acts m) n c → ⊥) → slice_index (after_phase (Loop l b count acts) m chunk) c ≡ slice_index m c)

-- ---- a direct loop

pub record Direct (V : Type 0) (plan : Plan V) (target value : ℕ → List V → ℕ) (count : Source) (acts : List Act) (m : Cells) (n : ℕ) : Type 0 where
  pub follows : Follows V plan acts m n
  pub fitting : Fitting count acts m n
  pub first_is : (i : ℕ) → plan.first i ≡ []
  pub last_is : (i : ℕ) (s : List V) → plan.last i s ≡ Store (target i s) (value i s) ∷ []
  pub apart : (i j : ℕ) (s t : List V) → i < n → j < n → ended plan i ≡ Ok (Some s) → ended plan j ≡ Ok (Some t) → target i s ≡ target j t → i ≡ j
  pub unread : (i j : ℕ) (s : List V) → i < n → j < n → ended plan i ≡ Ok (Some s) → In (target i s) (looks_at acts m j) → i ≡ j
  pub not_count : (i : ℕ) (s : List V) → i < n → ended plan i ≡ Ok (Some s) → In (target i s) (source_cells count) → ⊥
  pub there : (i : ℕ) (s : List V) → i < n → ended plan i ≡ Ok (Some s) → target i s < length m

-- what a loop leaves where the whole maps give these rows
abbrev pub Leaves : (V : Type 0) → (target value : ℕ → List V → ℕ) → Cells → Cells → Result (List (Row V)) Failure → Type 0
Leaves V target value m m' (Ok ts) = Replaced V target value ts m m'
Leaves V target value m m' (Err f) = Unit {0}

-- All targets are replaced at once, or the first move that fails anywhere is the fault; and no iteration races with another.
abbrev pub DirectLaw : Type 0
DirectLaw =
    (l : ℕ) (b : Label) (count : Source) (acts : List Act) (m : Cells) (n : ℕ) (plan : Plan ℤ) (target value : ℕ → List ℤ → ℕ) → Direct ℤ plan target value count acts m n
    → Free (Loop l b count acts) m
    × ((chunk : ℕ) → IsChunk chunk → Keyed plan (key (Loop l b count acts) m chunk) (whole plan.moves (rows_of plan n))
    × Leaves ℤ target value m (after_phase (Loop l b count acts) m chunk) (whole plan.moves (rows_of plan n)))
