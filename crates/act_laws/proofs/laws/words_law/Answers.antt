use Rattle.act_laws.proofs.Words.{registers_are_words}
use Rattle.act_laws.proofs.laws.words_law.Goals as goal

pub returns : goal.returns
returns c s p words small files ops h w = registers_are_words s p words small files ops h w
