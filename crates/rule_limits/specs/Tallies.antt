-- How the code counts. A number that passes the greatest one stays there.
use Rattle.std.specs.Prelude.{ℕ, ◌+◌, ◌==◌, true, false, if◌then◌else◌, min, max, List, [], ◌∷◌, length}
use Rattle.hlfir_ops.specs.declared.what.What.{What}
use Rattle.hlfir_ops.specs.declared.op.ValueId.{ValueId}
use Rattle.hlfir_ops.specs.declared.op.Op.{Op, out-Op}
use Rattle.hlfir_ops.specs.RulesValues.{Value, value_at, is_whole}
use Rattle.hlfir_ops.specs.RulesLimits as limits
use Rattle.rule_limits.specs.declared.tally.Tally.{Tally}
use Rattle.rule_limits.specs.declared.tally.Sum.{Sum}

abbrev pub most : ℕ
most = 4294967295

abbrev pub plus : ℕ → ℕ → ℕ
plus a b = min (a + b) most

-- what the code has of a count
abbrev pub capped : limits.Count → Tally
capped c = record { phases = min c.phases most; temporaries = min c.temporaries most; masks = min c.masks most; held = min c.held most; pending = min c.pending most; begun = c.begun; assigned = c.assigned; masked = c.masked }

abbrev pub ended : Tally → Tally
ended t = record t { phases = plus t.phases 6; temporaries = max t.temporaries (plus (plus (plus t.masks t.held) t.pending) 2); pending = 0; begun = false; assigned = false }

unfoldable pub finished : Tally → Tally
finished t = if t.begun then ended t else t

unfoldable pub after_assignment : Tally → Tally
after_assignment t = if t.assigned then ended t else t

abbrev pub with_mask : Tally → Tally
with_mask t = record t { phases = plus t.phases 1; masks = plus t.masks 1; begun = true; masked = true }

abbrev pub with_assignment : Tally → Tally
with_assignment t = record t { begun = true; assigned = true; masked = false }

abbrev pub with_header : Tally → Tally
with_header t = record t { begun = true; masked = false }

abbrev pub with_reduction : Tally → Tally
with_reduction t = record t { phases = plus t.phases 3; pending = plus t.pending 1; begun = true }

unfoldable pub with_whole : Tally → Tally
with_whole t = if t.masked then record t { phases = plus t.phases 2; held = plus t.held 1; begun = true } else record t { phases = plus t.phases 2; pending = plus t.pending 1; begun = true }

unfoldable pub with_operand : List Value → Tally → ValueId → Tally
with_operand vs t v = if is_whole (value_at vs v) then with_whole t else t

abbrev pub with_wholes : List Value → Tally → List ValueId → Tally
with_wholes vs t [] = t
with_wholes vs t (v ∷ more) = with_wholes vs (with_operand vs t v) more

unfoldable pub with_elsewhere : Tally → ℕ → Tally
with_elsewhere t regions = if regions == 1 then t else with_mask (after_assignment t)

abbrev pub with_added : List Value → Tally → limits.Adds → List ValueId → ℕ → Tally
with_added vs t limits.AddsNothing os regions = t
with_added vs t limits.AddsMask os regions = with_mask (after_assignment t)
with_added vs t limits.AddsElseMask os regions = with_elsewhere t regions
with_added vs t limits.AddsAssignment os regions = with_assignment (after_assignment t)
with_added vs t limits.AddsHeader os regions = with_header (after_assignment t)
with_added vs t limits.AddsReduction os regions = with_reduction t
with_added vs t limits.AddsWholes os regions = with_wholes vs t os

abbrev pub counted_as : List Value → Tally → What → List ValueId → ℕ → Tally
counted_as vs t w os regions = with_added vs t (limits.adds_of w) os regions

unfoldable pub counted : List Value → Tally → Op → Tally
counted vs t op = counted_as vs t (out-Op op).what (out-Op op).operands (length (out-Op op).regions)

abbrev pub counted_all : List Value → Tally → List Op → Tally
counted_all vs t [] = t
counted_all vs t (op ∷ ops) = counted_all vs (counted vs t op) ops

-- what the code has of the phases and temporaries of several statements
abbrev pub sum_of : ℕ → ℕ → Sum
sum_of phases temporaries = record { phases = min phases most; temporaries = min temporaries most }

abbrev pub added : Sum → Tally → Sum
added s t = record { phases = plus s.phases t.phases; temporaries = max s.temporaries t.temporaries }

abbrev pub summed : List Value → Sum → List Op → Sum
summed vs s [] = s
summed vs s (op ∷ ops) = summed vs (added s (capped (limits.statement_count vs op))) ops
