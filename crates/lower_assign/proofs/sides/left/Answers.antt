use Rattle.std.proofs.Common.{refl, ap}
use Rattle.lower_assign.specs.Statements.{left, left_of}
use Rattle.lower_values.proofs.Appended.{appends-by, appends-scoped, if-map}
use Rattle.lower_assign.proofs.sides.left.Goals as goal

pub returns : goal.returns
unfolding left
returns c =
    let names = c.args.names.now in
    let e = c.args.e.now in
    if-map c.left_of.result (λ x h.
    appends-scoped names (λ s. left_of s.masked e) c.args.build.now c.left_of.new.build x (appends-by (ap (λ b. left_of b e) c.masked-by_box.ensures) refl h)) c.left_of.ensures
