use Rattle.std.proofs.Common.{◌≡◌, ℕ, sym, refl, ap, ◌∙◌, subst}
use Rattle.phase_ops.specs.Phases.{Cells}
use Rattle.phase_ops.specs.Course.{Course, course}
use Rattle.team_core.specs.declared.units.PhaseUnits.{PhaseUnits}
use Rattle.team_core.specs.Laws.{MayStart}
use Rattle.team_core.specs.Cores.{IsCore}
use Rattle.team_core.proofs.Teams.{team_can}
use Rattle.team_core.proofs.Cores.{core_sound, core_closes}
use Rattle.team_core.proofs.team.Core.start.Goals as goal

pub start-requires-clause-can : goal.start-requires-clause-can
start-requires-clause-can c = team_can c.args.phases.now c.in_ok-work.work.opening c.in_ok-work.work.team c.in_ok-work.work.chunk c.in_ok-work.ensures.made.may

module _ (c : goal.In_ok-machine) where
  abbrev units : PhaseUnits
  units = c.in_ok-machine.machine.work

  opening_is : units.opening ≡ c.args.opening
  opening_is = ap (λ (x : Course). x.opening) c.in_ok-machine.ensures.course ∙ c.in_ok-work.ensures.parts.0

  team_is : units.team ≡ c.args.team
  team_is = ap (λ (x : Course). x.team) c.in_ok-machine.ensures.course ∙ c.in_ok-work.ensures.parts.1

  is_core : IsCore c.args.phases.now (record { machine = c.in_ok-machine.machine; chunk = c.args.chunk })
  is_core = record {
    may = subst (λ (x : Cells × ℕ). MayStart c.args.phases.now x.0 x.1 c.args.chunk) (λ i. (sym opening_is i, sym team_is i)) c.requires;
    course_is = c.in_ok-machine.ensures.course ∙ (λ i. course c.args.phases.now (c.in_ok-work.ensures.parts.0 i) (c.in_ok-work.ensures.parts.2 i) (c.in_ok-work.ensures.parts.1 i))
        ∙ (λ i. course c.args.phases.now (sym opening_is i) c.args.chunk (sym team_is i));
    holds = c.in_ok-machine.ensures.holds;
    sizes = (c.in_ok-machine.ensures.sizes.0 ∙ sym team_is, c.in_ok-machine.ensures.sizes.1 ∙ c.len-count.ensures);
  }

pub returns-clause-core : goal.returns-clause-core
returns-clause-core c = is_core c

pub returns-clause-parts : goal.returns-clause-parts
returns-clause-parts c = (opening_is c, team_is c, refl)

pub returns-clause-sound : goal.returns-clause-sound
returns-clause-sound c = core_sound c.args.phases.now (record { machine = c.in_ok-machine.machine; chunk = c.args.chunk }) (is_core c)

pub returns-clause-closes : goal.returns-clause-closes
returns-clause-closes c = core_closes c.args.phases.now (record { machine = c.in_ok-machine.machine; chunk = c.args.chunk }) (is_core c)
