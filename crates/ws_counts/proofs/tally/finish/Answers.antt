use Rattle.std.proofs.Common.{◌∙◌, ap}
use Rattle.ws_counts.proofs.Numbers.{all_counted, final}
use Rattle.ws_counts.proofs.tally.finish.Goals as goal

pub returns : goal.returns
returns c ps e = ap final c.end.ensures ∙ all_counted ps c.args.tally e
