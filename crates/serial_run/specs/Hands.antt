-- How far one thread is in a unit.
use Rattle.std.specs.Prelude.{◌≡◌, ℕ, ◌<◌, ◌≤◌, min, List, length, take}
use Rattle.phase_ops.specs.declared.effect.Effect.{Effect}
use Rattle.phase_ops.specs.declared.effect.Effect.TheVariants as effect
use Rattle.phase_ops.specs.declared.phase.Phase.{Phase}
use Rattle.phase_ops.specs.Phases.{Cells, effects, unit_reads, lay, least_key}
use Rattle.phase_ops.specs.Free.{In}
use Rattle.serial_run.specs.declared.hand.Hand.{Hand}

-- the lesser key
abbrev pub key_after : Effect → ℕ → ℕ
key_after (effect.Store c v) key = key
key_after (effect.Least c v) key = key
key_after (effect.Fault k) key = min key k

-- the effects of a unit, what it may read, and the cells where it begins
pub record Order : Type 0 where
  pub effects : List Effect
  pub may : List ℕ
  pub opening : Cells

abbrev pub order_of : Phase → Cells → Order
order_of p m = record { effects = effects p m 65536 0; may = unit_reads p m 65536 0; opening = m }

-- so many effects are done, in order, and no other
pub record IsAt (o : Order) (h : Hand) : Type 0 where
  pub few : length o.effects < 4611686018427387904
  pub done_few : h.done ≤ length o.effects
  pub cells_are : h.cells ≡ lay o.opening (take h.done o.effects)
  pub key_is : h.key ≡ least_key (take h.done o.effects)
  pub there : (c : ℕ) → In c o.may → c < length o.opening
