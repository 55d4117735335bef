-- Layered acts behind the act that puts the negative of the position's number: a saved mask with its control, or a right side that is saved with
-- its targets, where masks that are not saved stand before them.
use Rattle.std.specs.Prelude.{◌≡◌, ℕ, suc, ◌+◌, ◌<◌, negsuc, List, [], ◌∷◌, ◌++◌, length}
use Rattle.phase_ops.specs.declared.effect.Effect.{Effect}
use Rattle.phase_ops.specs.declared.effect.Effect.TheVariants.{Store, Fault}
use Rattle.phase_ops.specs.declared.phase.Micro.{Micro}
use Rattle.phase_ops.specs.declared.phase.Act.{Act}
use Rattle.phase_ops.specs.Phases.{Cells, word, key_of, lay, ops_events, makes}
use Rattle.phase_ops.specs.Free.{In}
use Rattle.loop_laws.specs.Loops.{does, looks_at}
use Rattle.segment_laws.specs.Segments.{Ran, Through, Out, Broke, ran, AllStoreNothing}
use Rattle.segment_laws.specs.Acts.{idle_act, act}
use Rattle.mask_laws.specs.Layers.{Layer, layered, ops_of, layer_of, spot_at, no_rest}

-- what is done behind the first store, where all ops but the last ones end so
abbrev pub idle_end : List Layer → List Micro → Cells → ℕ → Ran → List Effect
idle_end layers tail m i (Through regs) = makes (ops_events (spot_at (suc (length layers)) i) tail m regs no_rest)
idle_end layers tail m i Out = []
idle_end layers tail m i (Broke o n) = Fault (key_of (suc (layer_of layers o)) o (suc i) n) ∷ []

abbrev pub idle_store : ℕ → ℕ → List Effect
idle_store a i = Store (a + i) (word (negsuc i)) ∷ []

abbrev pub idle_layered : (line a : ℕ) → List Layer → List Micro → List Act
idle_layered line a layers last = idle_act line a ∷ layered layers line last

abbrev pub IdleLayeredLaw : Type 0
IdleLayeredLaw =
    (layers : List Layer) (line a : ℕ) (rest tail : List Micro) (m : Cells) (i : ℕ) → i < 65536 → AllStoreNothing (ops_of layers) → AllStoreNothing rest
    → (does (idle_layered line a layers (rest ++ tail)) m i ≡ idle_store a i ++ idle_end layers tail (lay m (idle_store a i)) i (ran i (lay m (idle_store a i)) [] (ops_of layers ++ rest)))
    × ((c : ℕ) → In c (looks_at (idle_layered line a layers (rest ++ tail)) m i) → In c (looks_at (act line (ops_of layers ++ (rest ++ tail))) (lay m (idle_store a i)) i))
