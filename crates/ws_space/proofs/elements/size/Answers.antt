use Rattle.std.proofs.Common.{◌≡◌, ◌*◌, arith, sym, ◌∙◌}
use Rattle.ws_space.specs.Shapes.{dims}
use Rattle.ws_space.specs.WellFormed.{elements}
use Rattle.ws_space.proofs.Places.{length-subscript_lists}
use Rattle.ws_space.proofs.Whole.{product-whole}
use Rattle.ws_space.proofs.elements.size.Goals as goal

number : (c : goal.After-product) → c.product.result ≡ elements c.args.shape.now
number c =
    let w = c.with_unused.result in
    let all : w.d1.extent * (w.d2.extent * w.d3.extent) ≡ elements c.args.shape.now = product-whole c.args.shape.now w c.with_unused.ensures in
    c.product.ensures.few (omega arith) ∙ all

pub returns-clause-product : goal.returns-clause-product
returns-clause-product c = number c

pub returns-clause-listed : goal.returns-clause-listed
returns-clause-listed c = number c ∙ sym (length-subscript_lists (dims c.args.shape.now))
