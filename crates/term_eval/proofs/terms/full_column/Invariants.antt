use Rattle.std.proofs.Common.{◌≡◌, take}
use Rattle.ws_space.specs.Sections.{full_column}
use Rattle.term_eval.proofs.terms.full_column.Given as goal

abbrev pub invariant-loop-place : goal.invariant-loop-place
invariant-loop-place l = l.column ≡ full_column l.dim (take l.place-index l.places)
