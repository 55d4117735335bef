use Rattle.std.proofs.Common.{◌≡◌, sym, subst, refl}
use Rattle.phase_ops.specs.Phases.{Cells}
use Rattle.loop_laws.specs.Sets.{Staging}
use Rattle.part_phase_laws.proofs.Stretch.{stretch}
use Rattle.part_phase_laws.proofs.laws.stretch_law.Goals as goal

pub returns : goal.returns
returns x = λ l t f slot kind count act first last lf ll bf bl start plan value n s w after. (
  (tt, (tt, ((refl, refl, refl, refl, refl), (tt, tt)))),
  λ chunk is. stretch l t f slot kind count act first last lf ll bf bl (λ y. y ≡ start) plan value n (λ m e. subst (λ (y : Cells). Staging first y) (sym e) s) w after chunk is,
)
