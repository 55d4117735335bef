use Rattle.where_laws.proofs.TermsRanked.{terms_ranked}
use Rattle.where_laws.proofs.laws.terms_have_their_ranks.Goals as goal

pub returns : goal.returns
returns c = terms_ranked
