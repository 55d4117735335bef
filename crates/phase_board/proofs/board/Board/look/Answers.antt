use Rattle.std.proofs.Common.{arith, ap, subst, ◌∙◌}
use Rattle.phase_board.specs.declared.plays.Run.{Run}
use Rattle.phase_board.specs.declared.plays.Role.{Role}
use Rattle.phase_board.specs.declared.plays.Role.TheVariants.{Of}
use Rattle.phase_board.specs.Rule.{course_of, Looked}
use Rattle.phase_board.specs.Held.{Held}
use Rattle.phase_board.proofs.Opened.{looks_now}
use Rattle.phase_board.proofs.board.Board.look.Goals as goal

pub load-requires : goal.load-requires
load-requires c = looks_now c.args.self.now c.pass.inside _ c.pass.view_is c.pass.invariant c.requires.pass c.args.cell c.requires.looking c.requires.cell

pub returns-clause-value : goal.returns-clause-value
returns-clause-value c =
    let v = c.pass.view_is in
    let role = ap (λ m. m.0.role) c.pass.invariant.0 ∙ (λ i. Of (v i).member (v i).phase (v i).state (v i).full) in
    subst (λ (z : Run × Role). Looked (course_of z.0) c.args.cell c.load.result z.1) (λ i. ((ap (λ (z : Held). z.run) v ∙ c.requires.pass.1) i, role i)) (c.load.ensures.2.1 c.args.cell (omega arith))
