use Rattle.std.proofs.Common.{◌∙◌, ap}
use Rattle.ws_base.specs.declared.refusal.RefusalKind.TheVariants as kind
use Rattle.ws_types.specs.Kinds.{when, least_from}
use Rattle.ws_counts.proofs.Summed.{sum_noted}
use Rattle.ws_counts.proofs.limits.check_sum.Goals as goal

pub returns : goal.returns
returns c all e = sum_noted c.args.line c.args.sum all c.args.found.now c.note.new.found e (c.note.ensures ∙ ap (λ b. least_from c.args.found.now (when b c.args.line kind.OverLimit)) c.is_over.ensures)
