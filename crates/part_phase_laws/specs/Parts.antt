-- A reduction in parts: a Part, whose units leave partials, and the Join behind it.
use Rattle.std.specs.Prelude.{◌≡◌, ◌≢◌, ℕ, suc, ◌+◌, ◌<◌, ◌≤◌, IsTrue, ℤ, List, [], ◌∷◌, map, length, Some, None, Result, Ok, Err, slice_index}
use Rattle.ws_base.specs.declared.op.CallWord.{CallWord}
use Rattle.ws_base.specs.Numbers.{Exact, default_half, reduction}
use Rattle.phase_ops.specs.Partials.{merged, takes, is_reduction}
use Rattle.phase_ops.specs.declared.phase.Source.{Source}
use Rattle.phase_ops.specs.declared.phase.Act.{Act}
use Rattle.phase_ops.specs.declared.phase.Phase.{Phase}
use Rattle.phase_ops.specs.declared.phase.Phase.TheVariants.{Part, Join}
use Rattle.phase_ops.specs.Phases.{Cells, cell_value, word, source_cells, gives, value_events, partial_cells, pieces, after_phase, key, key_of, Outcome, Finished, Failed, result}
use Rattle.phase_ops.specs.Free.{In, Free, FreeList, IsChunk}
use Rattle.scan_parts.specs.Laws.{partial}
use Rattle.loop_laws.specs.Moves.{Row, Failure, Ended, whole, values_of}
use Rattle.loop_laws.specs.Loops.{Plan, ended, rows_of, looks_at, Follows, Fitting, Keyed, Inside}
use Rattle.segment_laws.specs.Segments.{AllStoreNothing}

-- ---- the Part

-- what an iteration gives
abbrev pub given_at : {V : Type 0} → (ℕ → List V → ℤ) → ℕ → Ended V → List ℤ
given_at value i (Ok (Some s)) = value i s ∷ []
given_at value i (Ok None) = []
given_at value i (Err e) = []

-- The act of the Part stores nothing. As the act of a loop it does what the plan says, and it gives the value of each position that is left.
-- The partials are the n cells from f on, and no position loads them.
pub record Summing (V : Type 0) (plan : Plan V) (value : ℕ → List V → ℤ) (kind : CallWord) (f : ℕ) (count : Source) (act : Act) (m : Cells) (n : ℕ) : Type 0 where
  pub follows : Follows V plan (act ∷ []) m n
  pub fitting : Fitting count (act ∷ []) m n
  pub quiet : AllStoreNothing act.ops
  pub some_op : act.ops ≢ []
  pub gives_it : (i : ℕ) → i < n → gives (value_events act m i) ≡ given_at value i (ended plan i)
  pub reduces : IsTrue (is_reduction kind)
  pub taken : (i : ℕ) (s : List V) → i < n → ended plan i ≡ Ok (Some s) → IsTrue (takes default_half kind (value i s))
  pub partials_there : f + n ≤ length m
  pub unread : (i c : ℕ) → i < n → In c (looks_at (act ∷ []) m i) → Inside f n c → ⊥
  pub not_count : (c : ℕ) → In c (source_cells count) → Inside f n c → ⊥

-- m' is m but for the partials, which merged are the partial of these values
pub record Partials (kind : CallWord) (f n chunk : ℕ) (vs : List ℤ) (m m' : Cells) : Type 0 where
  pub same_length : length m' ≡ length m
  pub merged_is : merged default_half kind (map (cell_value m') (partial_cells f (pieces n chunk))) ≡ partial default_half kind vs
  pub others : (c : ℕ) → (Inside f n c → ⊥) → slice_index m' c ≡ slice_index m c

abbrev pub Parts : (V : Type 0) → (ℕ → List V → ℤ) → CallWord → (f n chunk : ℕ) → Cells → Cells → Result (List (Row V)) Failure → Type 0
Parts V value kind f n chunk m m' (Ok ts) = Partials kind f n chunk (values_of value ts) m m'
Parts V value kind f n chunk m m' (Err e) = Unit {0}

-- The key of a Part is that of the whole maps; else its partials are those of all values.
abbrev pub PartLaw : Type 0
PartLaw =
    (l t f : ℕ) (kind : CallWord) (count : Source) (act : Act) (m : Cells) (n : ℕ) (plan : Plan ℤ) (value : ℕ → List ℤ → ℤ) → Summing ℤ plan value kind f count act m n
    → Free (Part l count act kind t f) m
    × ((chunk : ℕ) → IsChunk chunk → Keyed plan (key (Part l count act kind t f) m chunk) (whole plan.moves (rows_of plan n))
    × Parts ℤ value kind f n chunk m (after_phase (Part l count act kind t f) m chunk) (whole plan.moves (rows_of plan n)))

-- ---- the Join

-- the slot holds z, and x is m but for the slot and the partials
pub record Reduced (slot f n : ℕ) (z : ℤ) (m x : Cells) : Type 0 where
  pub same_length : length x ≡ length m
  pub word_is : slice_index x slot ≡ word z
  pub value_is : cell_value x slot ≡ z
  pub others : (c : ℕ) → (Inside f n c → ⊥) → (c ≡ slot → ⊥) → slice_index x c ≡ slice_index m c

-- where the Join finds its count, and where it stores
pub record Joining (slot : ℕ) (count : Source) (m : Cells) (n : ℕ) : Type 0 where
  pub slot_there : slot < length m
  pub not_count : In slot (source_cells count) → ⊥

-- the total of these values, or its fault, whose element is 0
abbrev pub TotalEnds : (slot f n : ℕ) → Cells → Exact → Outcome → Type 0
TotalEnds slot f n m (Ok z) r = (x : Cells) × (r ≡ Finished x) × Reduced slot f n z m x
TotalEnds slot f n m (Err e) r = r ≡ Failed 1 (key_of 0 0 0 e)

abbrev pub ReductionEnds : (V : Type 0) → Plan V → (ℕ → List V → ℤ) → CallWord → (slot f n : ℕ) → Cells → Result (List (Row V)) Failure → Outcome → Type 0
ReductionEnds V plan value kind slot f n m (Ok ts) r = TotalEnds slot f n m (reduction default_half kind (values_of value ts)) r
ReductionEnds V plan value kind slot f n m (Err e) r = r ≡ Failed 0 (key_of (plan.act e.move) (plan.op e.move) (suc e.iteration) e.name)

abbrev pub reducing : (l t f slot : ℕ) → CallWord → Source → Act → List Phase
reducing l t f slot kind count act = Part l count act kind t f ∷ Join l count kind t f slot ∷ []

-- Whatever the chunk: the first move that fails anywhere, or the exact reduction of all values in the slot, or the fault of a total that is
-- out of range.
abbrev pub ReductionLaw : Type 0
ReductionLaw =
    (l t f slot : ℕ) (kind : CallWord) (count : Source) (act : Act) (m : Cells) (n : ℕ) (plan : Plan ℤ) (value : ℕ → List ℤ → ℤ)
    → Summing ℤ plan value kind f count act m n → Joining slot count m n
    → FreeList (reducing l t f slot kind count act) m
    × ((chunk : ℕ) → IsChunk chunk → ReductionEnds ℤ plan value kind slot f n m (whole plan.moves (rows_of plan n)) (result (reducing l t f slot kind count act) m chunk))
