use Rattle.std.proofs.Common.{[], ◌∷◌}
use Rattle.ws_counts.proofs.Summed.{total_noted}
use Rattle.ws_counts.proofs.limits.check_total.Goals as goal

pub returns : goal.returns
returns c ss e = total_noted c.args.shared c.args.line ss c.args.found.now c.check_parts.new.found c.check_sum.new.found c.if-shared.false (c.check_parts.ensures ss e) (c.check_sum.ensures (ss ∷ []) (c.add.ensures ss e))
