use Rattle.std.proofs.Common.{◌∙◌}
use Rattle.hlfir_verify.proofs.Found.{found}
use Rattle.hlfir_verify.proofs.defined.is_in.Goals as goal

pub returns : goal.returns
returns c = c.is_ok.ensures.value ∙ found c.args.defined.now c.args.number c.binary_search.result c.binary_search.ensures.position c.requires
