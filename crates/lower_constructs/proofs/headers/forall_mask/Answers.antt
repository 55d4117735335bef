use Rattle.std.proofs.Common.{refl, sym, ap}
use Rattle.lower_values.proofs.Appended.{appends-by, if-map}
use Rattle.lower_constructs.specs.Modules.{forall_mask}
use Rattle.lower_constructs.proofs.Parts.{forall_mask-none, forall_mask-some}
use Rattle.lower_constructs.proofs.headers.forall_mask.Goals as goal

pub returns-in-Some : goal.returns-in-Some
returns-in-Some c =
    if-map c.begin_masked.result (λ done h. appends-by (ap forall_mask (sym c.in-Some.is)) refl (forall_mask-some c.args.names.now c.in-Some.e c.line-line.result c.line-line.ensures h)) c.begin_masked.ensures

pub returns-in-None : goal.returns-in-None
returns-in-None c = appends-by (ap forall_mask (sym c.in-None.is)) refl (forall_mask-none c.args.names.now c.args.build.now)
