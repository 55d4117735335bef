use Rattle.storage_owner.proofs.Packing.{packed_stand}
use Rattle.storage_owner.proofs.laws.pack_law.Goals as goal

pub returns : goal.returns
returns c = λ l r kinds vs us cells packed vars m m' st some copied long words. packed_stand l r kinds us m m' copied vs cells packed vars st some long words
