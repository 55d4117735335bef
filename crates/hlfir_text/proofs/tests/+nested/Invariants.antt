-- One WHERE less is left.
use Rattle.hlfir_text.proofs.tests.+nested.Given as goal

abbrev pub decreases-nested : goal.decreases-nested
decreases-nested l = l.depth
