use Rattle.std.proofs.Common.{ℕ, ◌<◌, ◌≤◌, length, get_or}
use Rattle.phase_ops.specs.Faults.{no_act}
use Rattle.team_core.proofs.units.longest_of.Given as goal

abbrev pub invariant-loop-act : goal.invariant-loop-act
invariant-loop-act l = record {
  least : l.least ≤ l.longest;
  all : (k : ℕ) → k < l.act-index → length (get_or l.acts k no_act).ops ≤ l.longest;
}
