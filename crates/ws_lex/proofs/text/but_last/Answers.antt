use Rattle.ws_lex.proofs.Ends.{but_last-part}
use Rattle.ws_lex.proofs.text.but_last.Goals as goal

pub returns-in-Some : goal.returns-in-Some
returns-in-Some c = but_last-part _ _ _ c.in-Some.ensures.cases.0
