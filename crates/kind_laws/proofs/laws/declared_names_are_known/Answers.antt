use Rattle.kind_laws.proofs.NamesKnown.{names_are_known}
use Rattle.kind_laws.proofs.ScopesKnown.{inside_known, header_known, forall_known, loop_known}
use Rattle.kind_laws.proofs.laws.declared_names_are_known.Goals as goal

pub returns : goal.returns
returns c = record { names = names_are_known; inner = inside_known; headers = header_known; foralls = forall_known; loops = loop_known }
