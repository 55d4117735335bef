use Rattle.storage_owner.proofs.Replacing.{replaced_stands}
use Rattle.storage_owner.proofs.laws.replace_law.Goals as goal

pub returns : goal.returns
returns c = λ l kinds vs cells vars m m' goal v a line places targets values s room st i named is_held low as_many pass laid e. replaced_stands l kinds vs cells vars m m' goal v a targets values room st i named is_held low as_many pass laid line places s e
