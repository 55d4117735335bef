-- The module of an accepted source means what the source means.
use Rattle.ws_tree.specs.declared.stmt.Body.TheVariants.{Assign, Masked', Forall'}
use Rattle.world_laws.specs.Meanings.{SimplesMean, ProgramsMean}
use Rattle.region_laws.proofs.Means.{expressions_mean, lists_mean, left_sides_mean}
use Rattle.where_laws.proofs.Means.{means}
use Rattle.forall_laws.proofs.Means.{foralls_mean}
use Rattle.run_laws.proofs.Programs as runs

simples_mean : SimplesMean
simples_mean (Assign left right) h = means expressions_mean left_sides_mean (Assign left right) tt
simples_mean (Masked' test c stmts k elses) h = means expressions_mean left_sides_mean (Masked' test c stmts k elses) tt
simples_mean (Forall' indexes mask c stmts) h = foralls_mean indexes mask c stmts
simples_mean body h = absurd h

pub programs_mean : ProgramsMean
programs_mean = runs.programs_mean lists_mean left_sides_mean simples_mean
