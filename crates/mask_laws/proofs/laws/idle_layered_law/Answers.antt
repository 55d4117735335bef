use Rattle.mask_laws.proofs.Idles.{idle_does, idle_looks}
use Rattle.mask_laws.proofs.laws.idle_layered_law.Goals as goal

pub returns : goal.returns
returns x = λ layers line a rest tail m i low q qr. (idle_does layers line a rest tail m i low q qr, idle_looks layers line a rest tail m i low q qr)
