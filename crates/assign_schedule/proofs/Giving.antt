-- The ops that give values, by reference.
use Rattle.alias_test.proofs.Giving.{slice_get-ops_at}

pub ruleset giver_rules = (slice_get-ops_at)
