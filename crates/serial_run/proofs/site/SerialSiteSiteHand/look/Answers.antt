use Rattle.serial_run.proofs.Hands.{read_there}
use Rattle.serial_run.proofs.site.SerialSiteSiteHand.look.Goals as goal

pub value-requires : goal.value-requires
value-requires g c = read_there g.K.Runs.order c.args.hand.now c.requires.belongs c.args.cell c.requires.may.0
