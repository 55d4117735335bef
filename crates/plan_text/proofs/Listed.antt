-- Ops by reference.
use Rattle.alias_test.proofs.Giving.{slice_get-ops_at}

pub ruleset place_rules = (slice_get-ops_at)
