use Rattle.std.proofs.Common.{◌≡◌, get_or, sym, ap, ◌∙◌, subst}
use Rattle.phase_ops.specs.declared.phase.Phase.{Phase}
use Rattle.phase_ops.specs.Course.{memory_after, no_phase}
use Rattle.team_core.specs.Laws.{phase_at}
use Rattle.team_core.specs.Units.{HasCount}
use Rattle.team_core.proofs.Lengths.{any_default}
use Rattle.phase_board.specs.declared.plays.Run.{Run}
use Rattle.phase_board.specs.Held.{Held}
use Rattle.phase_board.specs.Rule.{course_of, IsKnown}
use Rattle.phase_board.proofs.Counts.{known_count, known_there}
use Rattle.phase_board.proofs.board.Board.chunks.Goals as goal

pub count-requires-clause-count : goal.count-requires-clause-count
count-requires-clause-count c =
    let b = c.args.self.now in let p = c.args.pass.now in
    let known : IsKnown b.run p.phase p.state = subst (λ (r : Run). IsKnown r p.phase p.state) c.requires.pass.1 (subst (λ (h : Held). IsKnown h.run h.phase h.state) c.pass.view_is c.pass.invariant.3) in
    let phase : c.pass.inside.phase ≡ p.phase = ap (λ (h : Held). h.phase) c.pass.view_is in
    let is : c.index-as_slice-pass.result ≡ phase_at b.run.phases p.phase =
    c.index-as_slice-pass.is ∙ (λ i. get_or (c.as_slice.ensures i) (phase i) c.index-as_slice-pass.result) ∙ any_default b.run.phases p.phase c.index-as_slice-pass.result no_phase (known_there b.run p.phase p.state c.requires.start known) in
    subst (λ (x : Phase). HasCount x (memory_after (course_of b.run) p.phase)) (sym is) (known_count b.run p.phase p.state c.requires.start known)
