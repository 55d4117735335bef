-- A copy of the cells, as it was when its phase began and as a strand sees it.
use Rattle.std.specs.Prelude.{◌≡◌, ℕ, suc, ◌-◌, ltb, ◌<◌, ◌≤◌, eqb, cond, List, map, length, slice_index_or}
use Rattle.std.specs.Prelude as std
use mathlib.Core.Option.{none}
use lib.ListN.{get_elem?}
use Rattle.phase_ops.specs.declared.effect.Effect.{Effect}
use Rattle.phase_ops.specs.declared.phase.Phase.{Phase}
use Rattle.phase_ops.specs.Phases.{Cells, each_from, strand_effects, reads, natural}
use Rattle.phase_ops.specs.Free.{In, WellFormed, count_value}
use Rattle.act_eval.specs.Strands.{PartialsFit, HasRoom, AreChunks}
use Rattle.team_core.specs.declared.scratch.ScratchCell.{ScratchCell}
use Rattle.team_core.specs.declared.scratch.Scratch.{Scratch}
use Rattle.team_core.specs.Machines.{as_option}

abbrev pub untouched : ScratchCell
untouched = record { opening = 0; own = 0; round = 0 }

-- the cells when the phase began
abbrev pub openings : List ScratchCell → Cells
openings cells = map (λ (c : ScratchCell). c.opening) cells

-- the cell in a round
abbrev pub in_round : ℕ → ScratchCell → ℕ
in_round round c = cond (eqb c.round round) c.own c.opening

-- the cells as the strand of the present round sees them
abbrev pub seen_cells : Scratch → Cells
seen_cells s = map (in_round s.round) s.cells

-- no cell is of a later round
abbrev pub InRounds : List ScratchCell → ℕ → Type 0
InRounds cells round = (at : ℕ) → at < length cells → (slice_index_or cells at untouched).round ≤ round

-- a strand may begin, whose effect of this number is looked for
pub record IsFresh (s : Scratch) (wanted : ℕ) : Type 0 where
  pub cells_are : seen_cells s ≡ openings s.cells
  pub none_seen : s.seen ≡ 0
  pub wanted_is : s.wanted ≡ wanted
  pub none_found : s.found ≡ std.None

-- a strand, and which of its effects is looked for
pub record Search : Type 0 where
  pub effects : List Effect
  pub may : List ℕ
  pub opening : Cells
  pub wanted : ℕ

-- of the strand so many effects were seen, and the wanted one is found if it is among them
pub record IsSearching (search : Search) (s : Scratch) : Type 0 where
  pub wanted_is : s.wanted ≡ search.wanted
  pub opening_is : openings s.cells ≡ search.opening
  pub there : (c : ℕ) → In c search.may → c < length s.cells
  pub rounds : InRounds s.cells s.round
  pub few : length search.effects < 9223372036854775808
  pub seen_few : s.seen ≤ length search.effects
  pub found_is : as_option s.found ≡ cond (ltb s.wanted s.seen) (get_elem? search.effects s.wanted) none

-- the search for an effect of the strand s
abbrev pub search_of : Phase → List ScratchCell → ℕ → ℕ → ℕ → Search
search_of p cells chunk s wanted = record {
  effects = strand_effects p (openings cells) chunk s;
  may = reads p (openings cells) chunk s;
  opening = openings cells;
  wanted = wanted;
}

-- strands of the phase may be tried over the copy
pub record CanTry (p : Phase) (cells : List ScratchCell) (chunk count registers : ℕ) : Type 0 where
  pub small : length cells < 9223372036854775808
  pub room : HasRoom p registers
  pub chunks : AreChunks chunk count
  pub count_is : count ≡ natural (count_value p (openings cells))
  pub well : WellFormed p (openings cells) chunk
  pub partials : PartialsFit p (openings cells) chunk

-- one of the strands from `first` on, or their end, and how many effects those before it have
pub record IsReached (f : ℕ → List Effect) (first end strand before : ℕ) : Type 0 where
  pub low : first ≤ strand
  pub high : strand ≤ end
  pub before_is : before ≡ length (each_from f first (strand - first))
