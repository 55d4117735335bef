use Rattle.ws_base.proofs.Modulo.{IsModulo-floor_rem}
use Rattle.ws_base.proofs.laws.modulo_has_the_divisors_sign.Goals as goal

pub returns : goal.returns
returns c = λ a b some. IsModulo-floor_rem a b some
