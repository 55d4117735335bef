use Rattle.storage_owner.proofs.Packing.{unpacked_stand}
use Rattle.storage_owner.proofs.laws.unpack_law.Goals as goal

pub returns : goal.returns
returns c = λ l r kinds vs us cells packed before vars m m' n room old st names same copied keeps long words. unpacked_stand l r kinds vs us cells packed before vars m m' n room old st same copied keeps names long words
