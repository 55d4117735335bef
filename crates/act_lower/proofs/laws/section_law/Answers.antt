use Rattle.act_lower.proofs.Sections.{section_stands}
use Rattle.act_lower.proofs.laws.section_law.Goals as goal

pub returns : goal.returns
returns c s at first a ps sel regs are cells env n k files level have = section_stands s at first a ps sel regs are cells env n k files level have
