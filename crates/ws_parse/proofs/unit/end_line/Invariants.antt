use Rattle.std.proofs.Common.{◌≡◌, drop}
use Rattle.ws_parse.specs.Blocks.{end_line}
use Rattle.ws_parse.proofs.Ends.{end_from}
use Rattle.ws_parse.proofs.unit.end_line.Given as goal

abbrev pub invariant-loop-token : goal.invariant-loop-token
invariant-loop-token l = end_from l.line (drop l.token-index l.tokens) ≡ end_line l.tokens
