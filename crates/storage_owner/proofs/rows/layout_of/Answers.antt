use Rattle.storage_owner.specs.Layouts.{var_sizes, box_sizes}
use Rattle.storage_owner.proofs.Ranged.{rows_apart}
use Rattle.storage_owner.proofs.rows.layout_of.Goals as goal

pub returns-clause-apart : goal.returns-clause-apart
returns-clause-apart c = rows_apart c.in_ok-layout.layout (var_sizes c.args.kinds.now) (box_sizes c.args.kinds.now) c.args.needs.now c.in_ok-layout.ensures.owned c.in_ok-layout.ensures.few
