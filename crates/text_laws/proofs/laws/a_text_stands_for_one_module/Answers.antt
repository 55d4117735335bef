use Rattle.text_laws.proofs.Whole.{ATextStandsForOneModule-all}
use Rattle.text_laws.proofs.laws.a_text_stands_for_one_module.Goals as goal

-- src/laws.rt:6:1
pub returns : goal.returns
returns c = ATextStandsForOneModule-all
