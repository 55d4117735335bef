use Rattle.ws_counts.proofs.Summed.{parts_noted}
use Rattle.ws_counts.proofs.limits.check_parts.Goals as goal

pub returns : goal.returns
returns c ss e = parts_noted c.args.line c.args.total ss c.args.found.now c.note.new.found e c.note.ensures
