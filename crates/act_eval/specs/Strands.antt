-- What has to be known where a strand begins.
use Rattle.std.specs.Prelude.{◌≡◌, ◌⊎◌, ℕ, ◌+◌, ◌-◌, ◌<◌, ◌≤◌, IsTrue, List, ◌∷◌, ◌++◌, map, length, ℤ}
use Rattle.std.specs.Int.{w64}
use Rattle.std.proofs.Common.{FitsSigned}
use Rattle.ws_base.specs.Numbers.{default_half}
use Rattle.ws_base.specs.declared.op.CallWord.{CallWord}
use Rattle.phase_ops.specs.Partials.{adds, merged, total, takes, is_reduction}
use Rattle.phase_ops.specs.declared.effect.Effect.{Effect}
use Rattle.phase_ops.specs.declared.phase.Act.{Act}
use Rattle.phase_ops.specs.declared.phase.Phase.{Phase}
use Rattle.phase_ops.specs.declared.phase.Phase.TheVariants.{Set, Loop, Part, Join}
use Rattle.phase_ops.specs.Phases.{Cells, cell_value, source, natural, pieces, partial_cells, gives, value_events, each_from, joined, summed, strands, strand_events, strand_effects, units, effects, unit_reads}
use Rattle.phase_ops.specs.Free.{In, stored, lessened, acts_of, count_value, IsChunk, Apart, WellFormed}
use Rattle.act_eval.specs.Sites.{View, Small, MayLook, part_given}

-- the partials of a sum or count that a Join merges, from the last one on, fit a word at each step
abbrev pub PartialsFit : Phase → Cells → ℕ → Type 0
PartialsFit (Set l b acts) m chunk = Unit {0}
PartialsFit (Loop l b count acts) m chunk = Unit {0}
PartialsFit (Part l count act k t f) m chunk = Unit {0}
PartialsFit (Join l count k t f slot) m chunk =
    IsTrue (adds k) → (j : ℕ) → j ≤ pieces (natural (source m count)) chunk
    → FitsSigned w64 (merged default_half k (map (cell_value m) (partial_cells (f + (pieces (natural (source m count)) chunk - j)) j)))

-- a Part or Join has one of the seven reductions, and each value of the strand is one that a Part's reduction takes
abbrev pub TakesAll : Phase → Cells → ℕ → ℕ → Type 0
TakesAll (Set l b acts) m chunk s = Unit {0}
TakesAll (Loop l b count acts) m chunk s = Unit {0}
TakesAll (Part l count act k t f) m chunk s = IsTrue (is_reduction k) × ((z : ℤ) → In z (gives (strand_events (Part l count act k t f) m chunk s)) → IsTrue (takes default_half k z))
TakesAll (Join l count k t f slot) m chunk s = IsTrue (is_reduction k)

-- the strand s may begin, and after it the effects `more` are to come
pub record Begins (v : View) (p : Phase) (chunk s : ℕ) (more : List Effect) : Type 0 where
  pub left_is : v.left ≡ strand_effects p v.cells chunk s ++ more
  pub looks : MayLook v.may (strand_events p v.cells chunk s)
  pub small : (c : ℕ) → In c (stored (strand_effects p v.cells chunk s)) ⊎ In c (lessened (strand_effects p v.cells chunk s)) → Small c
  pub values : TakesAll p v.cells chunk s
  pub partials : PartialsFit p v.cells chunk

-- so many registers are enough for each act of the phase
pub record HasRoom (p : Phase) (registers : ℕ) : Type 0 where
  pub few_acts : length (acts_of p) < 1048576
  pub few_ops : (a : Act) → In a (acts_of p) → (length a.ops ≤ registers) × (length a.ops ≤ 1048576)

-- few iterations, in units of at most `chunk` of them
pub record AreChunks (chunk count : ℕ) : Type 0 where
  pub few : count ≤ 65536
  pub chunk_is : IsChunk chunk

-- the phase's count, and a strand of it
pub record HasStrand (p : Phase) (m : Cells) (chunk count s : ℕ) : Type 0 where
  pub count_is : count ≡ natural (count_value p m)
  pub chunks : AreChunks chunk count
  pub there : s < strands p m chunk

-- The unit u may begin, of a phase whose strands are apart: its effects are what is left to do.
pub record UnitBegins (v : View) (p : Phase) (chunk count u : ℕ) : Type 0 where
  pub left_is : v.left ≡ effects p v.cells chunk u
  pub may_read : (c : ℕ) → In c (unit_reads p v.cells chunk u) → In c v.may
  pub apart : Apart p v.cells chunk
  pub well : WellFormed p v.cells chunk
  pub partials : PartialsFit p v.cells chunk
  pub few_cells : length v.cells < 9223372036854775808
  pub chunks : AreChunks chunk count
  pub count_is : count ≡ natural (count_value p v.cells)
  pub there : u < units p v.cells chunk

-- a unit of a Part may begin
pub record PartBegins (v : View) (k : CallWord) (act : Act) (from count cell : ℕ) (more : List Effect) : Type 0 where
  pub left_is : v.left ≡ summed k cell (each_from (value_events act v.cells) from count) ++ more
  pub looks : (i : ℕ) → i < count → MayLook v.may (value_events act v.cells (from + i))
  pub fits : (j : ℕ) → j ≤ count → FitsSigned w64 (part_given k (each_from (value_events act v.cells) (from + (count - j)) j))

-- a Join of so many partials may begin
pub record JoinBegins (v : View) (k : CallWord) (first count slot : ℕ) (more : List Effect) : Type 0 where
  pub left_is : v.left ≡ joined slot (total default_half k (merged default_half k (map (cell_value v.cells) (partial_cells first count)))) ∷ more
  pub looks : (i : ℕ) → i < count → In (first + i) v.may
  pub fits : IsTrue (adds k) → (j : ℕ) → j ≤ count → FitsSigned w64 (merged default_half k (map (cell_value v.cells) (partial_cells (first + (count - j)) j)))
