-- Acts that share their first ops: each begins with all ops of the acts before it, gates included, so that what these let go stays out.
-- So a loop with direct masks has an act for each mask, with its line, and one for the assignment.
use Rattle.std.specs.Prelude.{◌≡◌, ℕ, suc, ◌+◌, nat_lt, if◌then◌else◌, ℤ, false, List, [], ◌∷◌, ◌++◌, length, slice_index_or, ◌<◌, ◌⊎◌}
use Rattle.phase_ops.specs.declared.effect.Effect.{Effect}
use Rattle.phase_ops.specs.declared.effect.Effect.TheVariants.{Fault}
use Rattle.phase_ops.specs.declared.phase.Micro.{Micro}
use Rattle.phase_ops.specs.declared.phase.Source.{Source}
use Rattle.phase_ops.specs.declared.phase.Label.{Label}
use Rattle.phase_ops.specs.declared.phase.Act.{Act}
use Rattle.phase_ops.specs.declared.phase.Phase.TheVariants.{Loop}
use Rattle.phase_ops.specs.Faults.{act_lines}
use Rattle.phase_ops.specs.Phases.{Cells, key_of, Spot, Event, ops_events, makes}
use Rattle.phase_ops.specs.Free.{In}
use Rattle.loop_laws.specs.Loops.{does, looks_at, Fitting}
use Rattle.segment_laws.specs.Segments.{Ran, Through, Out, Broke, ran, AllStoreNothing}
use Rattle.segment_laws.specs.Acts.{act}

-- the ops that an act adds, and its line
pub record Layer : Type 0 where
  pub line : ℕ
  pub ops : List Micro

-- The acts of these layers, and of the last ops, behind ops that are done.
abbrev pub layered_from : List Micro → List Layer → ℕ → List Micro → List Act
layered_from done [] line last = record { line = line; ops = done ++ last; whole = false } ∷ []
layered_from done (x ∷ xs) line last = record { line = x.line; ops = done ++ x.ops; whole = false } ∷ layered_from (done ++ x.ops) xs line last

abbrev pub layered : List Layer → ℕ → List Micro → List Act
layered = layered_from []

abbrev pub ops_of : List Layer → List Micro
ops_of [] = []
ops_of (x ∷ xs) = x.ops ++ ops_of xs

-- the first act that has the op of this number, where so many ops stand before
abbrev pub layer_from : ℕ → List Layer → ℕ → ℕ
layer_from before [] o = 0
layer_from before (x ∷ xs) o = if nat_lt o (before + length x.ops) then 0 else suc (layer_from (before + length x.ops) xs o)

abbrev pub layer_of : List Layer → ℕ → ℕ
layer_of = layer_from 0

abbrev pub spot_at : ℕ → ℕ → Spot
spot_at k i = record { act = k; element = suc i; iteration = i }

abbrev pub no_rest : Cells → List ℤ → List Event
no_rest m regs = []

-- what is done where all ops but the last ones end so
abbrev pub layered_end : List Layer → List Micro → Cells → ℕ → Ran → List Effect
layered_end layers tail m i (Through regs) = makes (ops_events (spot_at (length layers) i) tail m regs no_rest)
layered_end layers tail m i Out = []
layered_end layers tail m i (Broke o n) = Fault (key_of (layer_of layers o) o (suc i) n) ∷ []

-- As one act with all ops, but for the act in the key: a fault is that of the first act that has its op. And no cell is loaded that the one act
-- does not load.
abbrev pub LayeredLaw : Type 0
LayeredLaw =
    (layers : List Layer) (line : ℕ) (rest tail : List Micro) (m : Cells) (i : ℕ) → AllStoreNothing (ops_of layers) → AllStoreNothing rest
    → (does (layered layers line (rest ++ tail)) m i ≡ layered_end layers tail m i (ran i m [] (ops_of layers ++ rest)))
    × ((c : ℕ) → In c (looks_at (layered layers line (rest ++ tail)) m i) → In c (looks_at (act line (ops_of layers ++ (rest ++ tail))) m i))

-- the line of the layer that has the op of this number, and else the last act's
abbrev pub line_from : ℕ → List Layer → ℕ → ℕ → ℕ
line_from before [] line o = line
line_from before (x ∷ xs) line o = if nat_lt o (before + length x.ops) then x.line else line_from (before + length x.ops) xs line o

-- A fault has the line of the layer that has its op.
abbrev pub LineLaw : Type 0
LineLaw = (layers : List Layer) (line : ℕ) (last : List Micro) (o l : ℕ) (b : Label) (count : Source) → slice_index_or (act_lines (Loop l b count (layered layers line last))) (layer_of layers o) 0 ≡ line_from 0 layers line o

-- A later op stands in no earlier act.
abbrev pub LayerOrderLaw : Type 0
LayerOrderLaw = (layers : List Layer) (a b : ℕ) → a < b → (layer_of layers a < layer_of layers b) ⊎ ((layer_of layers a ≡ layer_of layers b) × (a < b))

-- Where one act with all ops fits, such acts do.
abbrev pub LayersFitLaw : Type 0
LayersFitLaw =
    (layers : List Layer) (line : ℕ) (last : List Micro) (count : Source) (m : Cells) (n : ℕ) → AllStoreNothing (ops_of layers) → length layers < 1048575
    → Fitting count (act line (ops_of layers ++ last)) m n → Fitting count (layered layers line last) m n
