use Rattle.array_meaning.proofs.TypedValues.{law}
use Rattle.array_meaning.proofs.laws.terms_have_values_of_their_type.Goals as goal

pub returns : goal.returns
returns c = law
