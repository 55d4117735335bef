use Rattle.std.proofs.Common.{◌≡◌, ℕ, ◌<◌, List, length, get_or, sym, ◌∙◌, subst}
use Rattle.phase_ops.specs.declared.phase.Phase.{Phase}
use Rattle.phase_ops.specs.Course.{no_phase}
use Rattle.act_eval.specs.Sites.{View}
use Rattle.act_eval.specs.Strands.{HasRoom, AreChunks, UnitBegins}
use Rattle.team_core.specs.Laws.{phase_at}
use Rattle.team_core.proofs.Lengths.{any_default}
use Rattle.unit_eval.specs.Sites.{view_at}
use Rattle.unit_eval.proofs.AtBoard.{done_all, unit_room, unit_begins}
use Rattle.unit_eval.proofs.unit.do_effects.Goals as goal

phase_found : (ps as' : List Phase) (at t : ℕ) (found : Phase) → found ≡ get_or as' at found → as' ≡ ps → at ≡ t → t < length ps → found ≡ phase_at ps t
phase_found ps as' at t found is l e there = is ∙ (λ i. get_or (l i) (e i) found) ∙ any_default ps t found no_phase there

pub run_strands-requires-clause-room : goal.run_strands-requires-clause-room
run_strands-requires-clause-room g c =
    let r = c.args.board.now.run in let t : ℕ = c.args.pass.now.phase in let within = c.requires.within.1 in
    let is : c.index-as_slice-phase.result ≡ phase_at r.phases t = phase_found r.phases c.as_slice.result.now c.phase.result t c.index-as_slice-phase.result c.index-as_slice-phase.is (c.as_slice.ensures ∙ c.phases.ensures) c.phase.ensures within.there in
    subst (λ (p : Phase). HasRoom p (length c.args.registers.now)) (sym is) (unit_room r t c.args.unit within (length c.args.registers.now) (c.requires.room t within.there))

pub run_strands-requires-clause-begins : goal.run_strands-requires-clause-begins
run_strands-requires-clause-begins g c =
    let b = c.args.board.now in let r = b.run in let q = c.args.pass.now in let t : ℕ = q.phase in let within = c.requires.within.1 in
    let is : c.index-as_slice-phase.result ≡ phase_at r.phases t = phase_found r.phases c.as_slice.result.now c.phase.result t c.index-as_slice-phase.result c.index-as_slice-phase.is (c.as_slice.ensures ∙ c.phases.ensures) c.phase.ensures within.there in
    let chunk : c.args.chunks.chunk ≡ r.chunk = c.requires.chunks.0 in
    subst (λ (x : View × Phase × ℕ). UnitBegins x.0 x.1 x.2 c.args.chunks.count c.args.unit)
    (λ i. (view_at (sym c.requires.pass.1 i) t (sym c.requires.within.0 i), sym is i, sym chunk i))
    (unit_begins r t c.args.unit within c.args.chunks.count b.sized.1 (subst (λ (k : ℕ). AreChunks k c.args.chunks.count) chunk c.requires.chunks.1) c.requires.count)

pub returns-clause-done : goal.returns-clause-done
returns-clause-done g c =
    done_all c.args.board.now g.K.Runs.claimed c.args.pass.now c.run_strands.new.hand c.args.unit c.requires.claimed c.requires.pass c.run_strands.ensures.belongs.0 c.run_strands.ensures.belongs.1 c.run_strands.ensures.done
