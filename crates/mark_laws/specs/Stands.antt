-- Cells of an array, and replacement of its elements.
use Rattle.std.specs.Prelude.{◌≡◌, ◌⊎◌, ℕ, ◌+◌, ◌<◌, ◌≤◌, IsTrue, ℤ, List, [], ◌∷◌, length, Result, Ok, Err, slice_index}
use Rattle.ws_base.specs.declared.fault.FaultName.TheVariants.{ManyOne}
use Rattle.ws_base.specs.declared.fault.Fault.{Fault}
use Rattle.ws_base.specs.Numbers.{default_half, in_range}
use Rattle.ws_space.specs.declared.state.ArrayValue.{ArrayValue}
use Rattle.ws_space.specs.declared.state.VarState.{VarState}
use Rattle.ws_space.specs.declared.state.VarState.TheVariants as state
use Rattle.ws_space.specs.Values.{value_at, stored, first_repeat}
use Rattle.ws_space.specs.Replace.{replaced}
use Rattle.phase_ops.specs.Phases.{Cells, cell_value, word, key_of, Outcome, Finished, Failed}
use Rattle.phase_ops.specs.Free.{In}
use Rattle.loop_laws.specs.Moves.{Row, iterations_of, targets_of, values_of}
use Rattle.loop_laws.specs.Loops.{Replaced}
use Rattle.save_laws.specs.Saves.{Assigned}
use Rattle.mark_laws.specs.Checks.{Done}
use Rattle.mark_laws.specs.Standard.{RowsEnd}
use Rattle.save_laws.specs.Values.{AssignedValues}

-- the cells from base on hold these values, in array element order
abbrev pub Stand : Cells → ℕ → List ℤ → Type 0
Stand m base xs = (p : ℕ) → p < length xs → cell_value m (base + p) ≡ value_at xs p

abbrev pub AllInRange : {V : Type 0} → (ℕ → List V → ℤ) → List (Row V) → Type 0
AllInRange v ts = (i : ℕ) (s : List _) → In (i, s) ts → IsTrue (in_range default_half (v i s))

-- Of the z cells from base on, the targets of the rows hold the words of these values, and the others are as before.
pub record Given (V : Type 0) (target : ℕ → List V → ℕ) (v : ℕ → List V → ℤ) (base z : ℕ) (ts : List (Row V)) (m x : Cells) : Type 0 where
  pub given : (i : ℕ) (s : List V) → In (i, s) ts → slice_index x (base + target i s) ≡ word (v i s)
  pub others : (p : ℕ) → p < z → ((i : ℕ) (s : List V) → In (i, s) ts → p ≡ target i s → ⊥) → slice_index x (base + p) ≡ slice_index m (base + p)

-- Then they stand for the array with all targets replaced at once.
abbrev pub ReplaceLaw : Type 0
ReplaceLaw =
    (base : ℕ) (olds : List ℤ) (target : ℕ → List ℤ → ℕ) (v : ℕ → List ℤ → ℤ) (ts : List (Row ℤ)) (m x : Cells)
    → Given ℤ target v base (length olds) ts m x → AllInRange v ts → Stand m base olds → Stand x base (stored olds (targets_of target ts) (values_of v ts))

-- the n cells from t on are none of the z cells from base on
abbrev pub Apart : ℕ → ℕ → ℕ → ℕ → Type 0
Apart t n base z = (t + n ≤ base) ⊎ (base + z ≤ t)

-- What the loops leave is of this kind: a direct one, one that assigns from saved targets, one that assigns saved values, and the step with a
-- check.
abbrev pub GivenLaw : Type 0
GivenLaw =
    (target : ℕ → List ℤ → ℕ) (v : ℕ → List ℤ → ℤ) (t a n marks zm base z : ℕ) (ts : List (Row ℤ)) (m x : Cells)
    → (Replaced ℤ (λ i s. base + target i s) (λ i s. word (v i s)) ts m x → Given ℤ target v base z ts m x)
    × (Apart t n base z → Apart a n base z → Assigned ℤ (λ i s. word (v i s)) target t a base n ts m x → Given ℤ target v base z ts m x)
    × (Apart t n base z → AssignedValues ℤ (λ i s. base + target i s) (λ i s. word (v i s)) t n ts m x → Given ℤ target v base z ts m x)
    × (Apart t n base z → Apart a n base z → Apart marks zm base z → Done ℤ (λ i s. word (v i s)) target t a n marks zm base ts m x → Given ℤ target v base z ts m x)

-- ---- with the check for targets that are named twice

abbrev pub elements_of : VarState → List ℤ
elements_of (state.Scalar v) = v ∷ []
elements_of (state.Array a) = a.values
elements_of (state.Unallocated r) = []

-- the phases end as `replaced` says: with cells that stand for the new state, or with the fault of the check
abbrev pub AsReplaced : (line base : ℕ) → Result VarState Fault → Outcome → Type 0
AsReplaced line base (Ok s) r = (x : Cells) × (r ≡ Finished x) × Stand x base (elements_of s)
AsReplaced line base (Err f) r = (e : ℕ) × (f ≡ record { line = line; name = ManyOne; element = e }) × (r ≡ Failed 3 (key_of 0 7 e ManyOne))

abbrev pub AsReplacedLaw : Type 0
AsReplacedLaw =
    (line base marks t a n : ℕ) (target : ℕ → List ℤ → ℕ) (v : ℕ → List ℤ → ℤ) (ts : List (Row ℤ)) (m : Cells) (array : ArrayValue) (r : Outcome)
    → ((0 < array.shape.rank) × (array.shape.rank ≤ 3)) → Apart t n base (length array.values) → Apart a n base (length array.values) → Apart marks (length array.values) base (length array.values)
    → AllInRange v ts → Stand m base array.values
    → RowsEnd line (length array.values) base marks t a n (λ i s. word (v i s)) target ts m (first_repeat (targets_of target ts)) r
    → AsReplaced line base (replaced line (iterations_of ts) array (targets_of target ts) (values_of v ts)) r
