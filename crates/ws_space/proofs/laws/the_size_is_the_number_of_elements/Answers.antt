use Rattle.std.proofs.Common.{sym}
use Rattle.ws_space.proofs.Places.{length-subscript_lists}
use Rattle.ws_space.proofs.laws.the_size_is_the_number_of_elements.Goals as goal

pub returns : goal.returns
returns c = λ ds. sym (length-subscript_lists ds)
