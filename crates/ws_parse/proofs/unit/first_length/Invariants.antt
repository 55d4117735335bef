use Rattle.std.proofs.Common.{◌≡◌, ◌+◌, drop}
use Rattle.ws_parse.specs.Blocks.{first_length}
use Rattle.ws_parse.proofs.unit.first_length.Given as goal

abbrev pub invariant-loop-at : goal.invariant-loop-at
invariant-loop-at l = l.at + first_length (drop l.at l.tokens) ≡ first_length l.tokens
