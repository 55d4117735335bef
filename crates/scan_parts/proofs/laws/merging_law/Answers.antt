use Rattle.scan_parts.proofs.Merging.{is_merging}
use Rattle.scan_parts.proofs.laws.merging_law.Goals as goal

pub returns : goal.returns
returns c = is_merging
