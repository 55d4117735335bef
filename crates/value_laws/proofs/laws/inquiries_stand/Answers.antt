use Rattle.value_laws.proofs.Inquiries.{does-inquiry}
use Rattle.value_laws.proofs.laws.inquiries_stand.Goals as goal

pub returns : goal.returns
returns c k vectors base low s n env g l w is x es held h = does-inquiry vectors base low s n env g l x held h w es is
