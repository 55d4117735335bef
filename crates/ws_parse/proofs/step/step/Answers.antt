use Rattle.std.proofs.Common.{ℕ, subst, Option}
use Rattle.std.proofs.lemmas.Result.{IfOk-weaker}
use Rattle.ws_parse.specs.States.{Next}
use Rattle.ws_parse.proofs.States.{step_by, stuck_by}
use Rattle.ws_parse.proofs.step.step.Goals as goal

pub returns-in-None : goal.returns-in-None
returns-in-None c = stuck_by c.args.state c.args.run.now c.in_ok-turn.turn c.in_ok-turn.ensures c.in-None.ensures

pub returns-in-Some : goal.returns-in-Some
returns-in-Some c =
    IfOk-weaker c.advance.result _ _
    (λ o p. step_by c.args.state c.args.run.now o c.in_ok-turn.turn c.in_ok-turn.ensures c.in-Some.ensures (subst (λ (l : ℕ). Next c.args.state l c.in-Some.what o) c.line_of.ensures p))
    c.advance.ensures
