use Rattle.mask_laws.proofs.Layers.{layered_does}
use Rattle.mask_laws.proofs.Looks.{layered_loads}
use Rattle.mask_laws.proofs.laws.layered_law.Goals as goal
use Rattle.std.proofs.Common.{◌++◌}

pub returns : goal.returns
returns c = λ layers line rest tail m i q qr. (layered_does i m line rest tail qr layers q, layered_loads i m line (rest ++ tail) layers q)
