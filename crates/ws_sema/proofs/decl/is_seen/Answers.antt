use Rattle.ws_sema.proofs.Seen.{holds-insert}
use Rattle.ws_sema.proofs.decl.is_seen.Goals as goal

pub returns-clause-noted : goal.returns-clause-noted
returns-clause-noted c = holds-insert c.args.seen.now c.insert.new.self c.args.name c.in_ok-new.ensures.updates
