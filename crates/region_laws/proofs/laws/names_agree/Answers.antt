use Rattle.region_laws.proofs.Agreeing.{small-ranks, agrees}
use Rattle.region_laws.proofs.laws.names_agree.Goals as goal

pub returns : goal.returns
returns c = λ names w env fits same. (small-ranks names w fits, agrees names w fits env same)
