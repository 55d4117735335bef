-- The module of an accepted source keeps all rules.
use Rattle.ws_tree.specs.declared.stmt.Tree.{Tree}
use Rattle.ws_sema.specs.Checks.{IsAccepted}
use Rattle.hlfir_ops.specs.RulesPlaces.{module_sites}
use Rattle.hlfir_ops.specs.Rules.{facts_of, KeepsRules}
use Rattle.lower_constructs.specs.Modules.{lowered}
use Rattle.use_laws.proofs.Accepted.{operands-defined, arrays-used-once}
use Rattle.form_laws.proofs.Forms.{operands-fit, results-fit}
use Rattle.yield_laws.proofs.Modules.{yields_are_of_their_forms, sides_agree, reallocs_are_of_wholes, declares_fit_everywhere}
use Rattle.place_laws.proofs.Places.{wheres_fit, foralls_fit}
use Rattle.place_laws.proofs.FittingStatements.{lists_fit_in_order}
use Rattle.limit_laws.proofs.Lowered.{every_op_keeps_the_limits}
use Rattle.lower_masks.proofs.Joining.{keeps_each}

pub keeps_all : (t : Tree) → IsAccepted t → KeepsRules (lowered t)
keeps_all t h =
    keeps_each (facts_of (lowered t)) (module_sites (lowered t))
    (operands-defined t h) (operands-fit t h) (results-fit t h) (arrays-used-once t h) (yields_are_of_their_forms t h) (sides_agree t h) (reallocs_are_of_wholes t h)
    (wheres_fit t h) (foralls_fit t h) (lists_fit_in_order t h) (declares_fit_everywhere t h) (every_op_keeps_the_limits t h)
