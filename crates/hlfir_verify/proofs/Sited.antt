-- The ops at the sites of a module are those of its printed order.
use Rattle.std.proofs.Common.{[]}
use Rattle.hlfir_ops.specs.RulesPlaces.{outermost}
use Rattle.hlfir_ops.proofs.Sites.{list_in_order}
use Rattle.hlfir_verify.specs.Laws.{SitesAreInOrder}

pub in_order : SitesAreInOrder
in_order m = list_in_order outermost [] 0 [] m.ops
