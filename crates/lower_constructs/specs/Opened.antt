-- What opens so that the module of a tree that is written out computes.
use Rattle.lower_assign.specs.Opened.{lowerings_open}
use Rattle.lower_constructs.specs.Modules.{triple, triples, forall_mask, declaration, lowered}

unfoldable pub modules_open : Unit {0}
unfolding lowerings_open triple triples forall_mask declaration lowered
modules_open = tt
