use Rattle.mask_laws.proofs.Layers.{layer_order}
use Rattle.mask_laws.proofs.laws.layer_order_law.Goals as goal

pub returns : goal.returns
returns c = layer_order
