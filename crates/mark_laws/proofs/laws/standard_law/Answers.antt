use Rattle.mark_laws.proofs.Standard.{behind_fits}
use Rattle.mark_laws.proofs.laws.standard_law.Goals as goal

pub returns : goal.returns
returns x = behind_fits
