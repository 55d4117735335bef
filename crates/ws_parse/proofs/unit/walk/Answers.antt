use Rattle.ws_parse.proofs.Walks.{walks_begun, walks_next, first_bad, early_at, stuck_of, advances_of, whole_at}
use Rattle.ws_parse.proofs.unit.walk.Goals as goal

pub runs-init : goal.runs-init
runs-init c = walks_begun _ _ c.begun-state.ensures

pub returns-in-None : goal.returns-in-None
returns-in-None c = (c.in-Some.run'.now, first_bad c.in-Some.ensures.some c.runs.invariant (stuck_of c.runs.state c.in-Some.run'.now c.in-None.is c.in_ok-step.ensures), c.line_of.ensures)

pub runs-preserved : goal.runs-preserved
runs-preserved c = walks_next c.in-Some.ensures.some c.runs.invariant (advances_of c.runs.state c.in-Some.run'.now c.in-Some-2.is c.in_ok-step.ensures)

pub returns-in-None-2 : goal.returns-in-None-2
returns-in-None-2 c = early_at c.in_default.ensures.none c.runs.invariant (whole_at c.runs.state c.in-None-2.is c.in_ok-tree.ensures)
