use Rattle.loop_laws.proofs.Units.{chunked}
use Rattle.loop_laws.proofs.laws.chunk_law.Goals as goal

pub returns : goal.returns
returns c = λ l b count acts m n chunk is fit. chunked l b count acts m n fit chunk is
