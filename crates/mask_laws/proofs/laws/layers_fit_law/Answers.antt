use Rattle.mask_laws.proofs.Layers.{layered_fits}
use Rattle.mask_laws.proofs.laws.layers_fit_law.Goals as goal

pub returns : goal.returns
returns c = layered_fits
