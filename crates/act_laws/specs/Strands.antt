-- What an act's ops do at one place, and how that follows from what they do at many.
use Rattle.std.specs.Prelude.{◌≡◌, ◌⊎◌, ℕ, ◌<◌, ◌≤◌, List, [], ◌∷◌, ◌++◌, Option, Some, None, ℤ, pos, ◌<ℤ◌}
use Rattle.std.specs.List.{slice_get}
use Rattle.phase_ops.specs.declared.effect.Effect.TheVariants.{Fault}
use Rattle.phase_ops.specs.declared.phase.Micro.{Micro}
use Rattle.phase_ops.specs.declared.phase.Micro.TheVariants as micro
use Rattle.phase_ops.specs.Phases.{Cells, Event, Makes, ops_events, key_of, makes, gives, loads, divides}
use Rattle.phase_ops.specs.Free.{In}
use Rattle.act_laws.specs.Together.{Files, Scene, with_ops, Stop, first_stop, Level, MayRead}

-- no effect, and no end of the act but by a fault
abbrev pub IsPlain : Micro → Type 0
IsPlain (micro.Gate r) = ⊥
IsPlain (micro.Store a r) = ⊥
IsPlain (micro.Least a r) = ⊥
IsPlain op = Unit {0}

abbrev pub ArePlain : List Micro → Type 0
ArePlain [] = Unit {0}
ArePlain (op ∷ ops) = IsPlain op × ArePlain ops

-- nothing but loads of cells that may be read, and divisors above 0
pub record Quiet (s : Scene) (es : List Event) : Type 0 where
  pub makes_none : makes es ≡ []
  pub gives_none : gives es ≡ []
  pub may : (c : ℕ) → In c (loads es) → In c s.may
  pub positive : (z : ℤ) → In z (divides es) → pos 0 <ℤ z

-- The act passes these ops, or ends in the fault of the op at which they stop.
abbrev pub Goes : Scene → ℕ → ℕ → ℕ → Files → List Micro → List Micro → (Cells → List ℤ → List Event) → Option Stop → Type 0
Goes s act element p files ops more rest None =
    (es : List Event) × Quiet s es
    × (ops_events (record { act = act; element = element; iteration = s.iteration p }) (ops ++ more) s.cells (files p) rest ≡ es ++ ops_events (record { act = act; element = element; iteration = s.iteration p }) more s.cells (with_ops s ops files p) rest)
Goes s act element p files ops more rest (Some stop) =
    (es : List Event) × Quiet s es
    × (ops_events (record { act = act; element = element; iteration = s.iteration p }) (ops ++ more) s.cells (files p) rest ≡ es ++ Makes (Fault (key_of act stop.op element stop.trouble.name)) ∷ [])

abbrev pub StrandLaw : Type 0
StrandLaw =
    (s : Scene) (act element p k : ℕ) (files : Files) (ops more : List Micro) (rest : Cells → List ℤ → List Event) → Level k files → ArePlain ops → MayRead s ops files p
    → Goes s act element p files ops more rest (first_stop s (p ∷ []) k files ops)

-- ---- one place and many

-- it stops nowhere, or later: at a later op, or at the same op and no earlier in the list
abbrev pub NoEarlier : Stop → ℕ → Option Stop → Type 0
NoEarlier first j None = Unit {0}
NoEarlier first j (Some other) = (first.op < other.op) ⊎ ((first.op ≡ other.op) × (first.trouble.element ≤ j))

-- Where many places pass, each does; where they stop, the place of the trouble stops there by itself, and no place stops earlier.
abbrev pub Apart : Scene → List ℕ → ℕ → Files → List Micro → Option Stop → Type 0
Apart s at k files ops None = (p : ℕ) → In p at → first_stop s (p ∷ []) k files ops ≡ None
Apart s at k files ops (Some first) =
    ((p : ℕ) × (slice_get at first.trouble.element ≡ Some p) × (first_stop s (p ∷ []) k files ops ≡ Some (record { op = first.op; trouble = record { element = 0; name = first.trouble.name } })))
    × ((j p : ℕ) → slice_get at j ≡ Some p → NoEarlier first j (first_stop s (p ∷ []) k files ops))

abbrev pub PlacesLaw : Type 0
PlacesLaw = (s : Scene) (at : List ℕ) (k : ℕ) (files : Files) (ops : List Micro) → Apart s at k files ops (first_stop s at k files ops)
