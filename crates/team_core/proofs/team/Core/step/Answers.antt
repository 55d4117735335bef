use Rattle.std.proofs.Common.{refl}
use Rattle.team_core.specs.declared.team.Core.{Core}
use Rattle.team_core.proofs.Cores.{core_sound, core_safe, core_closes, same_run, still_core, answered}
use Rattle.team_core.proofs.team.Core.step.Goals as goal

pub returns-clause-core : goal.returns-clause-core
returns-clause-core c = still_core c.args.phases.now c.args.self.now (record { machine = c.step.new.self; chunk = c.args.self.now.chunk }) c.requires.core refl c.step.ensures.course c.step.ensures.holds c.step.ensures.same.0 c.step.ensures.same.1

pub returns-clause-run : goal.returns-clause-run
returns-clause-run c = same_run c.args.phases.now c.args.self.now (record { machine = c.step.new.self; chunk = c.args.self.now.chunk }) refl c.step.ensures.course

pub returns-clause-safe : goal.returns-clause-safe
returns-clause-safe c = core_safe c.args.phases.now c.args.self.now c.args.member c.requires.core

pub returns-clause-closes : goal.returns-clause-closes
returns-clause-closes c =
    let k : Core = record { machine = c.step.new.self; chunk = c.args.self.now.chunk } in
    core_closes c.args.phases.now k (still_core c.args.phases.now c.args.self.now k c.requires.core refl c.step.ensures.course c.step.ensures.holds c.step.ensures.same.0 c.step.ensures.same.1)

pub returns-clause-sound : goal.returns-clause-sound
returns-clause-sound c =
    let k : Core = record { machine = c.step.new.self; chunk = c.args.self.now.chunk } in
    core_sound c.args.phases.now k (still_core c.args.phases.now c.args.self.now k c.requires.core refl c.step.ensures.course c.step.ensures.holds c.step.ensures.same.0 c.step.ensures.same.1)

pub returns-clause-answer : goal.returns-clause-answer
returns-clause-answer c = answered c.step.result c.args.phases.now c.args.self.now c.step.new.self c.args.member c.args.kind c.requires.core c.step.ensures.answer
