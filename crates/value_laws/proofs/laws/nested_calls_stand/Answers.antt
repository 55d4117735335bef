use Rattle.std.proofs.Common.{refl, true, false, arith}
use Rattle.ws_base.specs.declared.op.CallWord.TheVariants as word
use Rattle.ws_base.specs.Numbers.{int_min, int_max, least, greatest}
use Rattle.hlfir_ops.specs.declared.what.ValueBinary.TheVariants as binary
use Rattle.value_laws.proofs.Columns.{min-nests, max-nests}
use Rattle.value_laws.proofs.Nested.{does-nested}
use Rattle.value_laws.proofs.laws.nested_calls_stand.Goals as goal

pub returns-clause-min : goal.returns-clause-min
returns-clause-min c k vectors base s world n env g e d es args = does-nested binary.Min word.Min int_min least min-nests vectors base env s world false n g es e d n env (omega arith) (λ i is. refl) args

pub returns-clause-max : goal.returns-clause-max
returns-clause-max c k vectors base s world n env g e d es args = does-nested binary.Max word.Max int_max greatest max-nests vectors base env s world false n g es e d n env (omega arith) (λ i is. refl) args

pub returns-clause-min_settled : goal.returns-clause-min_settled
returns-clause-min_settled c k vectors base s world n env g e d es args = does-nested binary.Min word.Min int_min least min-nests vectors base env s world true n g es e d n env (omega arith) (λ i is. refl) args

pub returns-clause-max_settled : goal.returns-clause-max_settled
returns-clause-max_settled c k vectors base s world n env g e d es args = does-nested binary.Max word.Max int_max greatest max-nests vectors base env s world true n g es e d n env (omega arith) (λ i is. refl) args
