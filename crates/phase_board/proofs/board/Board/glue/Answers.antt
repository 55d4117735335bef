use Rattle.std.proofs.Common.{◌≡◌, arith, ap, ◌∙◌, [], ◌∷◌, ◌++◌, rules}
use Rattle.phase_board.specs.Held.{Held}
use Rattle.phase_board.proofs.Closes.{gathered}
use Rattle.phase_board.proofs.Opens.{joins}
use Rattle.phase_board.proofs.board.Board.glue.Goals as goal

pub join_seat-requires : goal.join_seat-requires
join_seat-requires c = let b = c.args.self.now in let inv = c.loop.invariant in let pass = c.in-Some.pass in let p = c.pass.inside in
    let cut : c.loop.passes.items ≡ c.pop.new.self.items ++ pass ∷ [] = search rules in
    let is = gathered b c.loop.passes.items c.pop.new.self.items pass inv.each cut in (
      inv.seat.0 ∙ c.requires.0,
      ap (λ (z : Held). z.table) c.pass.view_is ∙ is.0.0,
      ap (λ m. m.1) c.pass.invariant.0,
      (let h = b.sized in omega (arith, h)),
      joins b.table.shared.key.value c.loop.seat.id p.seat.id c.loop.seat.me.0 p.seat.me.0,
    )
