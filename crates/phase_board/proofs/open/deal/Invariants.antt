use Rattle.std.proofs.Common.{◌≡◌, [], length}
use Rattle.phase_board.specs.declared.plays.Role.TheVariants.{Waiting}
use Rattle.phase_board.specs.Prepared.{AllNew}
use Rattle.phase_board.specs.Rule.{view}
use Rattle.phase_board.proofs.open.deal.Given as goal

abbrev pub invariant-loop-member : goal.invariant-loop-member
invariant-loop-member l = record {
  seat : (l.seat.table_id ≡ l.board.table.shared.table_id) × (l.seat.me ≡ (view l.board.run (Waiting l.member) [], []));
  count : length l.passes.items ≡ l.member;
  each : AllNew l.board l.passes.items;
}
