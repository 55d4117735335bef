-- Save, clear, mark, check, assign: five phases.
use Rattle.std.specs.Prelude.{◌≡◌, ◌⊎◌, ℕ, suc, ◌+◌, ◌<◌, ◌≤◌, ℤ, List, [], ◌∷◌, length, Option, Some, None, Result, Ok, Err, slice_index}
use Rattle.ws_base.specs.declared.fault.FaultName.TheVariants.{ManyOne}
use Rattle.phase_ops.specs.declared.phase.Phase.{Phase}
use Rattle.phase_ops.specs.Phases.{Cells, key_of, none_yet, Outcome, Finished, Failed, result}
use Rattle.phase_ops.specs.Free.{In, FreeList, IsChunk}
use Rattle.loop_laws.specs.Moves.{Row, Failure, Ended, whole}
use Rattle.loop_laws.specs.Loops.{Plan, ended, rows_of, Inside}
use Rattle.save_laws.specs.Saves.{Saving, Saved, Assigning}
use Rattle.mark_laws.specs.Marks.{Clearing, Marking, Marked, Checking, Places, Repeats}
use Rattle.save_laws.specs.Pairs.{Lap, loop}

-- the place of the target of a position that is left
abbrev pub place_at : {V : Type 0} → (ℕ → List V → ℕ) → ℕ → Ended V → Option ℕ
place_at target i (Ok (Some s)) = Some (target i s)
place_at target i (Ok None) = None
place_at target i (Err e) = None

abbrev pub places_of : {V : Type 0} → Plan V → (ℕ → List V → ℕ) → Places
places_of plan target i = place_at target i (ended plan i)

-- The temporaries hold what was saved, and the memory is m but for them and the marks.
pub record Kept (V : Type 0) (value target : ℕ → List V → ℕ) (t a n marks z : ℕ) (ts : List (Row V)) (m x : Cells) : Type 0 where
  pub saved : Saved V value target t a n ts x x
  pub same_length : length x ≡ length m
  pub others : (c : ℕ) → (Inside t n c → ⊥) → (Inside a n c → ⊥) → (Inside marks z c → ⊥) → slice_index x c ≡ slice_index m c

-- the four loops behind the first, over any memory that holds what was saved
pub record Behind (V : Type 0) (plan : Plan V) (value target : ℕ → List V → ℕ) (t a n marks z base from act op : ℕ) (ts : List (Row V)) (m : Cells) (c k h q : Lap) : Type 0 where
  pub apart : ((t + n ≤ marks) ⊎ (marks + z ≤ t)) × ((a + n ≤ marks) ⊎ (marks + z ≤ a))
  pub clears : (x : Cells) → Kept V value target t a n marks z ts m x → Clearing marks c.count c.acts x z
  pub marks_them : (x : Cells) → Kept V value target t a n marks z ts m x → ((j : ℕ) → j < z → slice_index x (marks + j) ≡ none_yet) → Marking marks z from (places_of plan target) k.count k.acts x n
  pub checks : (y x : Cells) → Kept V value target t a n marks z ts m x → Marked marks z from n (places_of plan target) y x → Checking marks from act op (places_of plan target) h.count h.acts x n
  pub assigns : (x : Cells) → Kept V value target t a n marks z ts m x → ((i j : ℕ) (s u : List V) → In (i, s) ts → In (j, u) ts → target i s ≡ target j u → i ≡ j) → Assigning V value target t a base ts q.count q.acts x n

abbrev pub five : Lap → Lap → Lap → Lap → Lap → List Phase
five p c k h q = loop p ∷ loop c ∷ loop k ∷ loop h ∷ loop q ∷ []

-- all targets have their values, and no cell outside temporaries and marks is changed else
pub record Done (V : Type 0) (value target : ℕ → List V → ℕ) (t a n marks z base : ℕ) (ts : List (Row V)) (m x : Cells) : Type 0 where
  pub same_length : length x ≡ length m
  pub given : (i : ℕ) (s : List V) → In (i, s) ts → slice_index x (base + target i s) ≡ value i s
  pub others : (c : ℕ) → (Inside t n c → ⊥) → (Inside a n c → ⊥) → (Inside marks z c → ⊥) → ((i : ℕ) (s : List V) → In (i, s) ts → c ≡ base + target i s → ⊥) → slice_index x c ≡ slice_index m c

-- the first position whose place an earlier one has
pub record FirstRepeat (at : Places) (n i : ℕ) : Type 0 where
  pub there : i < n
  pub repeats : Repeats at i
  pub first : (j : ℕ) → j < n → Repeats at j → i ≤ j

abbrev pub FiveEnd : (V : Type 0) → Plan V → (value target : ℕ → List V → ℕ) → (t a n marks z base act op : ℕ) → Cells → Result (List (Row V)) Failure → Outcome → Type 0
FiveEnd V plan value target t a n marks z base act op m (Ok ts) r =
    ((x : Cells) × (r ≡ Finished x) × (((i : ℕ) → i < n → Repeats (places_of plan target) i → ⊥) × Done V value target t a n marks z base ts m x))
    ⊎ ((i : ℕ) × FirstRepeat (places_of plan target) n i × (r ≡ Failed 3 (key_of act op (suc i) ManyOne)))
FiveEnd V plan value target t a n marks z base act op m (Err f) r = r ≡ Failed 0 (key_of (plan.act f.move) (plan.op f.move) (suc f.iteration) f.name)

-- The first move that fails is the fault; else ManyOne at the first target that an earlier position has; else all targets are replaced at once.
abbrev pub FiveLaw : Type 0
FiveLaw =
    (p c k h q : Lap) (m : Cells) (n marks z base from act op : ℕ) (plan : Plan ℤ) (value target : ℕ → List ℤ → ℕ) (t a : ℕ)
    → Saving ℤ plan value target t a p.count p.acts m n
    → ((ts : List (Row ℤ)) → whole plan.moves (rows_of plan n) ≡ Ok ts → ((i : ℕ) (s : List ℤ) → In (i, s) ts → target i s < z) × Behind ℤ plan value target t a n marks z base from act op ts m c k h q)
    → FreeList (five p c k h q) m
    × ((chunk : ℕ) → IsChunk chunk → FiveEnd ℤ plan value target t a n marks z base act op m (whole plan.moves (rows_of plan n)) (result (five p c k h q) m chunk))
