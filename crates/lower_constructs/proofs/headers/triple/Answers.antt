use Rattle.std.proofs.Common.{refl, sym}
use Rattle.lower_values.proofs.Appended.{appends-by, if-map}
use Rattle.lower_constructs.proofs.Parts.{triple-is}
use Rattle.lower_constructs.proofs.headers.triple.Goals as goal

pub returns : goal.returns
returns c =
    if-map c.from_slice.result (λ three same. appends-by refl (sym same)
    (triple-is c.args.names.now c.args.l.now c.args.u.now c.args.s.now c.in_ok-x.ensures c.in_ok-y.ensures c.in_ok-z.ensures)) c.from_slice.ensures
