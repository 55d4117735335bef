use Rattle.std.proofs.Common.{ℕ, List, drop, ap, ◌∙◌}
use Rattle.phase_ops.specs.declared.effect.Effect.{Effect}
use Rattle.team_core.proofs.Scratches.{next_effect}
use Rattle.team_core.proofs.Rehearsals.{acted}
use Rattle.team_core.proofs.rehearsal.RehearsalSiteScratch.act.Goals as goal

pub returns-clause-done : goal.returns-clause-done
returns-clause-done g c = λ more l.
    let effects : List Effect = g.K.Searched.search.effects in
    let n = next_effect effects c.args.hand.now.seen c.args.effect more l in λ i.
    record { left = (ap (λ (k : ℕ). drop k effects) c.act.ensures.seen.0 ∙ n.2) i; cells = c.act.ensures.cells i; may = g.K.Searched.search.may }

pub returns-clause-belongs : goal.returns-clause-belongs
returns-clause-belongs g c =
    acted g.K.Searched.search c.args.hand.now c.act.new.self c.args.effect c.requires.next.0 c.requires.belongs c.requires.next.1 c.act.ensures.seen.0 c.act.ensures.seen.1 c.act.ensures.opening c.act.ensures.rounds c.act.ensures.found
