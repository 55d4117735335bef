-- What holds of each op of a lowered source.
use Rattle.std.specs.Prelude.{◌≡◌, Bool, true}
use Rattle.std.specs.List.{list_all}
use Rattle.ws_tree.specs.declared.stmt.Tree.{Tree}
use Rattle.ws_sema.specs.Checks.{IsAccepted}
use Rattle.hlfir_ops.specs.declared.op.Op.{Op}
use Rattle.hlfir_ops.specs.Rules.{Facts, facts_of}
use Rattle.hlfir_ops.specs.RulesPlaces.{Place, Site, module_sites}
use Rattle.lower_constructs.specs.Modules.{lowered}

-- a test of one op at its place in a module
abbrev pub Test : Type 0
Test = Facts → Place → Op → Bool

abbrev pub passes : Test → Facts → Site → Bool
passes test f s = test f s.place s.op

-- each op of each accepted source's module passes it
abbrev pub EveryOpPasses : Test → Type 0
EveryOpPasses test = (t : Tree) → IsAccepted t → list_all (passes test (facts_of (lowered t))) (module_sites (lowered t)) ≡ true
