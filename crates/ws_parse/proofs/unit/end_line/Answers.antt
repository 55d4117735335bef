use Rattle.ws_parse.proofs.Runs.{end_first}
use Rattle.ws_parse.proofs.unit.end_line.Goals as goal

pub loop-token-init : goal.loop-token-init
loop-token-init c = end_first c.args.tokens.now
