use Rattle.serial_run.specs.Hands.{order_of}
use Rattle.serial_run.proofs.run.do_phase.Given as goal

abbrev pub ghosts-do_unit : goal.ghosts-do_unit
ghosts-do_unit a = record { order = order_of a.phase.now a.hand.now.cells }
