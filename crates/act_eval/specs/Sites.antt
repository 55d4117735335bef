-- What is left to do at a site, and what may be read there.
use Rattle.std.specs.Prelude.{◌≡◌, ◌⊎◌, ℕ, ◌<◌, List, [], ◌∷◌, ◌++◌, map, ℤ, pos, ◌<ℤ◌}
use Rattle.phase_ops.specs.declared.effect.Effect.{Effect}
use Rattle.phase_ops.specs.declared.effect.Effect.TheVariants.{Fault}
use Rattle.phase_ops.specs.declared.phase.Address.{Address}
use Rattle.phase_ops.specs.declared.phase.Source.TheVariants.{Fixed}
use Rattle.phase_ops.specs.declared.phase.Micro.{Micro}
use Rattle.phase_ops.specs.declared.phase.Micro.TheVariants as micro
use Rattle.phase_ops.specs.Phases.{Cells, lay, address, Event, makes, loads, divides, gives, least_key, Spot, ops_events, calm, last_event}
use Rattle.phase_ops.specs.Free.{In, stored, lessened}
use Rattle.ws_base.specs.Numbers.{default_half}
use Rattle.ws_base.specs.declared.op.CallWord.{CallWord}
use Rattle.phase_ops.specs.Partials.{part_of, merged}
use Rattle.act_eval.specs.declared.site.Worth.{Worth}
use Rattle.act_eval.specs.declared.site.Worth.TheVariants as worth
use Rattle.act_eval.specs.declared.site.End.{End}
use Rattle.act_eval.specs.declared.site.End.TheVariants.{Ran, Closed, Failed}

-- the effects that are left to do, the cells as the unit sees them, and the cells that it may read
pub record View : Type 0 where
  pub left : List Effect
  pub cells : Cells
  pub may : List ℕ

abbrev pub view : List Effect → Cells → List ℕ → View
view left cells may = record { left = left; cells = cells; may = may }

-- a number that names a cell
abbrev pub Small : ℕ → Type 0
Small c = c < 9223372036854775808

-- an address of one term that reads no cell
abbrev pub line : ℤ → ℕ → ℤ → Address
line base reg step = record { base = Fixed base; terms = record { reg = reg; step = Fixed step } ∷ [] }

-- an address of two terms that reads no cell
abbrev pub plane : ℤ → ℕ → ℤ → ℕ → ℤ → Address
plane base first near second far = record { base = Fixed base; terms = record { reg = first; step = Fixed near } ∷ record { reg = second; step = Fixed far } ∷ [] }

-- these events and then the effects `more` are to come, and they may
pub record Comes (v : View) (es : List Event) (more : List Effect) : Type 0 where
  pub left_is : v.left ≡ makes es ++ more
  pub may_load : (c : ℕ) → In c (loads es) → In c v.may × Small c
  pub small : (c : ℕ) → In c (stored (makes es)) ⊎ In c (lessened (makes es)) → Small c
  pub positive : (z : ℤ) → In z (divides es) → pos 0 <ℤ z

abbrev pub Rest : Type 0
Rest = Cells → List ℤ → List Event

abbrev pub spot_of : ℕ → ℕ → ℕ → Spot
spot_of act element iteration = record { act = act; element = element; iteration = iteration }

-- the cell that an op's address names
abbrev pub named_cells : Cells → List ℤ → Micro → List ℕ
named_cells m regs (micro.Load a) = address m regs a ∷ []
named_cells m regs (micro.Store a r) = address m regs a ∷ []
named_cells m regs (micro.Least a r) = address m regs a ∷ []
named_cells m regs _ = []

-- after the ops of an act
abbrev pub Ended : View → List ℤ → Rest → List Effect → End → Type 0
Ended v regs rest more Ran = Comes v (rest v.cells regs) more
Ended v regs rest more Closed = Comes v (rest v.cells []) more
Ended v regs rest more Failed = v.left ≡ more

-- from one view to a later one: these effects were done, and laid over the cells
pub record Led (v v' : View) : Type 0 where
  pub did : List Effect
  pub left_was : v.left ≡ did ++ v'.left
  pub cells_are : v'.cells ≡ lay v.cells did
  pub may_is : v'.may ≡ v.may

-- what these events load may be loaded, and they divide by positive numbers
pub record MayLook (may : List ℕ) (es : List Event) : Type 0 where
  pub may_load : (c : ℕ) → In c (loads es) → In c may × Small c
  pub positive : (z : ℤ) → In z (divides es) → pos 0 <ℤ z

-- what these ops go through at an iteration of a Part
abbrev pub calm_events : Spot → List Micro → Cells → List Event
calm_events s ops m = ops_events s (map calm ops) m [] (λ m' regs. last_event regs)

-- the iteration gives this: its value, nothing behind a gate, or its fault
abbrev pub IsWorth : Worth → List Event → Type 0
IsWorth (worth.Value z) es = (makes es ≡ []) × (gives es ≡ z ∷ [])
IsWorth worth.Nothing es = (makes es ≡ []) × (gives es ≡ [])
IsWorth (worth.Fault k) es = (makes es ≡ Fault k ∷ []) × (gives es ≡ [])

-- the partial of the values that these events give
abbrev pub part_given : CallWord → List Event → ℤ
part_given k es = merged default_half k (map (part_of default_half k) (gives es))

-- the least key that was found in these events, and the partial of their values
pub record IsFound (k : CallWord) (least : ℕ) (part : ℤ) (es : List Event) : Type 0 where
  pub least_is : least ≡ least_key (makes es)
  pub part_is : part ≡ part_given k es
