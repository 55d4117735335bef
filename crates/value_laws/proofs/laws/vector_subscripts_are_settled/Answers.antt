use Rattle.std.specs.Prelude.{true}
use Rattle.value_laws.proofs.Operations.{minus-if, not-if, binary-if}
use Rattle.value_laws.proofs.Copies.{settles-copy, settled-stays, settled-subscript}
use Rattle.value_laws.proofs.laws.vector_subscripts_are_settled.Goals as goal

pub returns : goal.returns
returns c = record {
  minus = λ vectors base low s n env x g l t taken h. minus-if vectors base low s n env x g l true taken t h;
  not = λ vectors base low s n env x g l t taken h. not-if vectors base low s n env x g l true taken t h;
  binary = λ vectors base low middle s n env x y g l m op t u taken h k. binary-if vectors base low middle s n env x y g l m op true taken t u h k;
  copy = settles-copy;
  stays = settled-stays;
  subscript = settled-subscript;
}
