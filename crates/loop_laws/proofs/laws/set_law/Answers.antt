use Rattle.std.proofs.Common.{ap, List}
use Rattle.phase_ops.specs.declared.effect.Effect.{Effect}
use Rattle.phase_ops.specs.Phases.{lay, least_key}
use Rattle.loop_laws.proofs.Sets.{set_free, one_strand}
use Rattle.loop_laws.proofs.laws.set_law.Goals as goal

pub returns : goal.returns
returns x = λ l b acts m w. (set_free l b acts m w, λ chunk is. (ap (λ (es : List Effect). lay m es) (one_strand l b acts m w chunk), ap least_key (one_strand l b acts m w chunk)))
