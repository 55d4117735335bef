-- What the ops of a value leave.
use Rattle.std.specs.Prelude.{◌≡◌, ℕ, List, [], ◌∷◌}
use Rattle.ws_space.specs.Shapes.{Extents, dims}
use Rattle.phase_ops.specs.declared.phase.Source.{Source}
use Rattle.phase_ops.specs.Free.{In}
use Rattle.hlfir_meaning.specs.Environments.{Work, elements_of, body_of, Deferred, Environment, yielding}
use Rattle.hlfir_meaning.specs.Selections.{extents}
use Rattle.hlfir_meaning.specs.Stage2.{deferred_by, values}
use Rattle.act_laws.specs.Together.{Files, Scene, Level, Follows}
use Rattle.act_laws.specs.Seats.{Table, Holds, HasPlace, StandIn}
use Rattle.act_laws.specs.Fetches.{Fetched}
use Rattle.act_laws.specs.Digits.{AreExtents, IsPlaceIn}
use Rattle.act_lower.specs.Code.{Todo, elements, body, Task, value_code}
use Rattle.act_lower.specs.Covered.{AreCovered, known_after}
use Rattle.act_lower.specs.Sections.{PicksAre, CellStands}

-- The task is what stage 1 left: the same body, or a section of these extents whose elements stand in the cells.
abbrev pub IsDone : Scene → List ℕ → Extents → Todo → Work → Type 0
IsDone s at e (elements first ds ps) (elements_of a sel) = (ds ≡ dims a.shape) × (extents sel ≡ e) × PicksAre s ps sel × ((p : ℕ) → In p at → CellStands s first a sel p)
IsDone s at e (body ops) (body_of left) = left ≡ ops
IsDone s at e t w = ⊥

abbrev pub AreDone : Scene → List ℕ → Extents → List Task → List Deferred → Type 0
AreDone s at e [] [] = Unit {0}
AreDone s at e (t ∷ ts) (d ∷ ds) = (d.number ≡ t.number) × IsDone s at e t.todo d.work × AreDone s at e ts ds
AreDone s at e ts ds = ⊥

-- The ops from the register k on evaluate the value: wherever the table's values stand and its sections, they stop at its fault, or leave its values in the
-- register. All is said of the places together, and so of each by itself.
abbrev pub Evaluates : List Source → ℕ → Table → ℕ → List Task → ℕ → Fetched → Type 0
Evaluates counts place table v ts k x =
    (s : Scene) (at : List ℕ) (e : Extents) (files : Files) (env : Environment) (known : List ℕ) → Level k files → HasPlace at place files → Holds s at files known table env
    → AreExtents s counts e → ((p : ℕ) → In p at → IsPlaceIn e p) → AreDone s at e ts (deferred_by v (env v)) → AreCovered known ts → In v (known_after known ts)
    → Follows s at k files x.ops (values (yielding env (record { number = v } ∷ [])) at) (StandIn at x.reg)

abbrev pub ValueLaw : Type 0
ValueLaw = (counts : List Source) (place k : ℕ) (table : Table) (v : ℕ) (ts : List Task) → Evaluates counts place table v ts k (value_code counts place k table v ts)
