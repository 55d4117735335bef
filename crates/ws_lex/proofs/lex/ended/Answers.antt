use Rattle.ws_lex.proofs.Pieces.{ended-popped}
use Rattle.ws_lex.proofs.lex.ended.Goals as goal

pub returns : goal.returns
returns c = ended-popped c.args.begun _ _ c.in-Some.last c.in-Some.ensures c.in_ok-push.ensures.ok
