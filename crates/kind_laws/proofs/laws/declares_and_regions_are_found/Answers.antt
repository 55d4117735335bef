use Rattle.kind_laws.proofs.ScopesFound.{inside_found, regions_are_held, declares_are_found, allocatables_are_found, loop_variables_are_found}
use Rattle.kind_laws.proofs.laws.declares_and_regions_are_found.Goals as goal

pub returns : goal.returns
returns c = record { inner = inside_found; regions = regions_are_held; declares = declares_are_found; allocatables = allocatables_are_found; loops = loop_variables_are_found }
