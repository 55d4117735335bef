use Rattle.run_laws.proofs.Programs.{programs_mean}
use Rattle.run_laws.proofs.laws.parts_make_programs.Goals as goal

pub returns : goal.returns
returns c = programs_mean
