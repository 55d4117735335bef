use Rattle.std.proofs.Common.{◌≡◌, drop}
use Rattle.ws_types.specs.Constants as constants
use Rattle.ws_types.proofs.constant.constant_of.Given as goal

abbrev pub invariant-each : goal.invariant-each
invariant-each l = constants.constant_of l.table l.name ≡ constants.constant_of (drop l.constant-index l.table) l.name
