use Rattle.act_laws.proofs.Strands.{strand_goes}
use Rattle.act_laws.proofs.laws.strand_law.Goals as goal

pub returns : goal.returns
returns c s act element p k files ops more rest level plains may = strand_goes s act element p more rest k files ops level plains may
