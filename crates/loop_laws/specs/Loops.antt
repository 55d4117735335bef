-- What a loop does, iteration by iteration, as moves of one place.
use Rattle.std.specs.Prelude.{◌≡◌, ◌⊎◌, ℕ, zero, suc, ◌<◌, ◌≤◌, ℤ, pos, ◌<ℤ◌, List, [], ◌∷◌, ◌++◌, length, Some, None, Result, Ok, Err, slice_index, ◌+◌}
use Rattle.phase_ops.specs.declared.effect.Effect.{Effect}
use Rattle.phase_ops.specs.declared.effect.Effect.TheVariants.{Fault}
use Rattle.phase_ops.specs.declared.phase.Source.{Source}
use Rattle.phase_ops.specs.declared.phase.Act.{Act}
use Rattle.phase_ops.specs.Phases.{Cells, source, source_cells, acts_events, makes, loads, divides, key_of, none_yet}
use Rattle.phase_ops.specs.Free.{In, stored, lessened, NameEarlier}
use Rattle.loop_laws.specs.Moves.{Row, Move, Ended, Failure, moved}

-- what the iteration i does, and what it loads
abbrev pub does : List Act → Cells → ℕ → List Effect
does acts m i = makes (acts_events i 0 acts m)

abbrev pub looks_at : List Act → Cells → ℕ → List ℕ
looks_at acts m i = loads (acts_events i 0 acts m)

-- The moves of an iteration, where each stands among the ops, what is known before them, and what is done at first and at the end. At an
-- iteration that a test lets go, or where a move fails, the end is left out.
pub record Plan (V : Type 0) : Type 0 where
  pub moves : List (Move V)
  pub act : ℕ → ℕ
  pub op : ℕ → ℕ
  pub start : ℕ → List V
  pub first : ℕ → List Effect
  pub last : ℕ → List V → List Effect

abbrev pub ended : {V : Type 0} → Plan V → ℕ → Ended V
ended p i = moved p.moves (p.start i)

abbrev pub planned : {V : Type 0} → Plan V → ℕ → Ended V → List Effect
planned p i (Ok (Some s)) = p.first i ++ p.last i s
planned p i (Ok None) = p.first i
planned p i (Err e) = p.first i ++ Fault (key_of (p.act e.0) (p.op e.0) (suc i) e.1) ∷ []

abbrev pub rows_from : {V : Type 0} → (ℕ → List V) → ℕ → ℕ → List (Row V)
rows_from start from zero = []
rows_from start from (suc n) = (from, start from) ∷ rows_from start (suc from) n

abbrev pub rows_of : {V : Type 0} → Plan V → ℕ → List (Row V)
rows_of p n = rows_from p.start 0 n

-- The iterations below n do what the plan says, and a later move stands at a later op. A move that fails does it at this one op.
pub record Follows (V : Type 0) (plan : Plan V) (acts : List Act) (m : Cells) (n : ℕ) : Type 0 where
  pub as_planned : (i : ℕ) → i < n → does acts m i ≡ planned plan i (ended plan i)
  pub first_calm : (i k : ℕ) → In (Fault k) (plan.first i) → ⊥
  pub last_calm : (i : ℕ) (s : List V) (k : ℕ) → In (Fault k) (plan.last i s) → ⊥
  pub order : (o q : ℕ) → o < q → q < length plan.moves → (plan.act o < plan.act q) ⊎ ((plan.act o ≡ plan.act q) × (plan.op o < plan.op q))
  pub spots : (o : ℕ) → o < length plan.moves → (plan.act o < 1048576) × (plan.op o < 1048576)

-- the count, and what of a well-formed loop does not depend on other iterations
pub record Fitting (count : Source) (acts : List Act) (m : Cells) (n : ℕ) : Type 0 where
  pub count_is : source m count ≡ pos n
  pub small : n ≤ 65536
  pub count_there : (c : ℕ) → In c (source_cells count) → c < length m
  pub few_acts : length acts < 1048576
  pub few_ops : (a : Act) → In a acts → (length a.ops ≤ 1048576) × NameEarlier 0 a.ops
  pub positive : (i : ℕ) (z : ℤ) → i < n → In z (divides (acts_events i 0 acts m)) → pos 0 <ℤ z
  pub loaded : (i c : ℕ) → i < n → In c (looks_at acts m i) → c < length m

-- no iteration stores where another stores or loads, and what one lays a Least over is loaded and stored by none
pub record Alone (count : Source) (acts : List Act) (m : Cells) (n : ℕ) : Type 0 where
  pub stores : (i j c : ℕ) → i < n → j < n → In c (stored (does acts m i)) → In c (stored (does acts m j)) → i ≡ j
  pub unread : (i j c : ℕ) → i < n → j < n → In c (stored (does acts m i)) → In c (looks_at acts m j) → i ≡ j
  pub leasts : (i j c : ℕ) → i < n → j < n → In c (lessened (does acts m i)) → In c (stored (does acts m j)) ⊎ In c (looks_at acts m j) → ⊥
  pub not_count : (i c : ℕ) → i < n → In c (stored (does acts m i)) ⊎ In c (lessened (does acts m i)) → In c (source_cells count) → ⊥
  pub there : (i c : ℕ) → i < n → In c (stored (does acts m i)) ⊎ In c (lessened (does acts m i)) → c < length m

-- the key that the whole maps tell
abbrev pub Keyed : {V : Type 0} → Plan V → ℕ → Result (List (Row V)) Failure → Type 0
Keyed p k (Ok ts) = k ≡ none_yet
Keyed p k (Err f) = k ≡ key_of (p.act f.move) (p.op f.move) (suc f.iteration) f.name

-- some iteration below n stores into the cell, or lays a Least over it
abbrev pub Touched : (ℕ → List Effect) → ℕ → ℕ → Type 0
Touched f n c = (i : ℕ) × (i < n) × (In c (stored (f i)) ⊎ In c (lessened (f i)))

-- the targets of the rows have their values, and no other cell is changed
pub record Replaced (V : Type 0) (target : ℕ → List V → ℕ) (value : ℕ → List V → ℕ) (ts : List (Row V)) (m m' : Cells) : Type 0 where
  pub same_length : length m' ≡ length m
  pub given : (i : ℕ) (s : List V) → In (i, s) ts → slice_index m' (target i s) ≡ value i s
  pub others : (c : ℕ) → ((i : ℕ) (s : List V) → In (i, s) ts → c ≡ target i s → ⊥) → slice_index m' c ≡ slice_index m c

-- c is one of the n cells from this one on
abbrev pub Inside : ℕ → ℕ → ℕ → Type 0
Inside from n c = (from ≤ c) × (c < from + n)
