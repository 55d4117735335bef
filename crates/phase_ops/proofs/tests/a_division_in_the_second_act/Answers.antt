use Rattle.std.proofs.Common.{length, refl, ap, arith}
use Rattle.std.proofs.lemmas.List.{length-map}
use Rattle.ws_base.specs.declared.fault.FaultName.TheVariants.{DivideByZero}
use Rattle.phase_ops.specs.declared.phase.Act.{Act}
use Rattle.phase_ops.proofs.tests.a_division_in_the_second_act.Goals as goal

pub fault_of-fault-requires : goal.fault_of-fault-requires
fault_of-fault-requires g c = (
  1,
  3,
  2,
  DivideByZero,
  record {
    act_in = (let l = length-map c.from_vec.result (λ (a : Act). a.line) in let e = ap length c.from_vec.ensures in let n = c.in_ok-vec.ensures.len in omega (arith, l, e, n));
    op_in = omega arith;
    element_in = omega arith;
    key_is = refl;
  },
)
