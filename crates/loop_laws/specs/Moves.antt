-- Moves over all places that are left, one after another; and the moves of one place.
use Rattle.std.specs.Prelude.{ℕ, suc, Bool, if◌then◌else◌, List, [], ◌∷◌, Option, Some, None, Result, Ok, Err, slice_index_or, ℤ}
use Rattle.ws_base.specs.declared.fault.FaultName.{FaultName}
use Rattle.ws_base.specs.Outcomes.{Staged, each}

-- A place that is left: its iteration, and the values that were made there, the latest first.
abbrev pub Row : Type 0 → Type 0
Row V = ℕ × List V

-- An operation makes one more value at a place, from those before it there. A test keeps the place or lets it go.
pub data Move (V : Type 0) : Type 0 where
  Makes : (List V → Result V FaultName) → Move V
  Keeps : (List V → Bool) → Move V

-- the first move that fails anywhere, and the least iteration at which it does
pub record Failure : Type 0 where
  pub move : ℕ
  pub iteration : ℕ
  pub name : FaultName

abbrev pub pushed : {V : Type 0} → List V → List (Row V) → List (Row V)
pushed (v ∷ vs) (r ∷ rs) = (r.0, v ∷ r.1) ∷ pushed vs rs
pushed _ _ = []

abbrev pub kept : {V : Type 0} → (List V → Bool) → List (Row V) → List (Row V)
kept t [] = []
kept t (r ∷ rs) = if t r.1 then r ∷ kept t rs else kept t rs

abbrev pub further : {A : Type 0} → Result A Failure → Result A Failure
further (Ok x) = Ok x
further (Err k) = Err (record { move = suc k.move; iteration = k.iteration; name = k.name })

abbrev pub iterations_of : {V : Type 0} → List (Row V) → List ℕ
iterations_of [] = []
iterations_of (r ∷ rs) = r.0 ∷ iterations_of rs

-- the targets of the rows, in order of position
abbrev pub targets_of : {V : Type 0} → (ℕ → List V → ℕ) → List (Row V) → List ℕ
targets_of target [] = []
targets_of target (r ∷ rs) = target r.0 r.1 ∷ targets_of target rs

-- the values of the rows, in order of position
abbrev pub values_of : {V : Type 0} → (ℕ → List V → ℤ) → List (Row V) → List ℤ
values_of value [] = []
values_of value (r ∷ rs) = value r.0 r.1 ∷ values_of value rs

-- the element of a trouble is the place in the list of rows
abbrev pub and_then : {V A : Type 0} → List (Row V) → Staged (List V) → (List (Row V) → Result A Failure) → Result A Failure
and_then rs (Ok vs) go = further (go (pushed vs rs))
and_then rs (Err t) go = Err (record { move = 0; iteration = slice_index_or (iterations_of rs) t.element 0; name = t.name })

-- the whole maps: each move at all places that are left, before the next move
abbrev pub whole : {V : Type 0} → List (Move V) → List (Row V) → Result (List (Row V)) Failure
whole [] rs = Ok rs
whole (Makes f ∷ more) rs = and_then rs (each (λ r. f r.1) rs) (λ ts. whole more ts)
whole (Keeps t ∷ more) rs = further (whole more (kept t rs))

-- ---- one place

-- all values, or None where a test let the place go, or the move that failed
abbrev pub Ended : Type 0 → Type 0
Ended V = Result (Option (List V)) (ℕ × FaultName)

abbrev pub deeper : {V : Type 0} → Ended V → Ended V
deeper (Ok s) = Ok s
deeper (Err e) = Err (suc e.0, e.1)

abbrev pub made : {V : Type 0} → (List V → Ended V) → List V → Result V FaultName → Ended V
made go s (Err n) = Err (0, n)
made go s (Ok v) = deeper (go (v ∷ s))

abbrev pub moved : {V : Type 0} → List (Move V) → List V → Ended V
moved [] s = Ok (Some s)
moved (Makes f ∷ more) s = made (λ t. moved more t) s (f s)
moved (Keeps t ∷ more) s = if t s then deeper (moved more s) else Ok None
