use Rattle.serial_run.proofs.Hands.{acted, acted_view}
use Rattle.serial_run.proofs.site.SerialSiteSiteHand.act.Goals as goal

pub returns-clause-done : goal.returns-clause-done
returns-clause-done g c = λ more l. acted_view g.K.Runs.order c.args.hand.now c.act.new.self c.args.effect more l c.act.ensures.cells c.act.ensures.done

pub returns-clause-belongs : goal.returns-clause-belongs
returns-clause-belongs g c =
    acted g.K.Runs.order c.args.hand.now c.act.new.self c.args.effect c.requires.next.0 c.requires.belongs c.requires.next.1 c.act.ensures.cells c.act.ensures.key c.act.ensures.done
