use Rattle.ws_words.proofs.Spelled.{Says-said, said-Says}
use Rattle.ws_words.proofs.laws.words_say_what_is_spelled.Goals as goal

pub returns : goal.returns
returns c = λ words parts. (Says-said words parts, said-Says words parts)
