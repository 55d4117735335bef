use Rattle.ws_stmt.proofs.list.next_part.Goals as goal

pub returns-in-None-clause-none : goal.returns-in-None-clause-none
returns-in-None-clause-none g c = λ rest h. c.in-None.ensures.none rest h.0
