use Rattle.ws_sema.proofs.Blocks.{vectors_is}
use Rattle.ws_sema.proofs.stmt.has_vector.Goals as goal

pub returns-in-Part : goal.returns-in-Part
returns-in-Part c = vectors_is c.args.table.now c.args.e.now c.in-Part.field-0 c.in-Part.subs c.as_slice.result.now c.subs_of.result c.in-Part.is c.as_slice.ensures c.subs_of.ensures.value
