use Rattle.std.proofs.Common.{◌≡◌, ℕ, ◌<◌, slice_index_or}
use Rattle.team_core.specs.declared.member.MemberState.TheVariants.{Ended}
use Rattle.phase_board.specs.Held.{Held}
use Rattle.team_run.proofs.team.all_ended.Given as goal

abbrev pub invariant-each : goal.invariant-each
invariant-each l = (i : ℕ) (d : Held) → i < l.at → (slice_index_or l.passes i d).state ≡ Ended
