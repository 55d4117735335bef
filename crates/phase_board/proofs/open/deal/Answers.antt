use Rattle.std.proofs.Common.{arith, ap}
use Rattle.phase_board.proofs.Opens.{splits_seat}
use Rattle.phase_board.proofs.open.deal.Goals as goal

pub split_seat-own-requires : goal.split_seat-own-requires
split_seat-own-requires c = let b = c.args.board.now in let held = c.loop-member.invariant.seat in (
  held.0,
  (let h = b.sized in omega (arith, h)),
  splits_seat b.table.shared.key.value b.run c.loop-member.seat.id c.loop-member.member c.loop-member.seat.me.0 b.keyed (ap (λ m. m.0) held.1) c.loop-member-test.true,
)
