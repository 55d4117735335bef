-- Plain ops.
use Rattle.std.proofs.Common.{ℕ, List, [], ◌∷◌, ◌++◌}
use Rattle.phase_ops.specs.declared.phase.Micro.{Micro}
use Rattle.act_laws.specs.declared.seat.Seat.{Seat}
use Rattle.act_laws.specs.declared.seat.Seat.TheVariants.{Fixed as fixed, Cell as cell, Cells as cells, Register as register}
use Rattle.act_laws.specs.Fetches.{fetched}
use Rattle.act_laws.specs.Strands.{ArePlain}

pub plain_append : (xs ys : List Micro) → ArePlain xs → ArePlain ys → ArePlain (xs ++ ys)
plain_append [] ys h more = more
plain_append (x ∷ xs) ys h more = (h.0, plain_append xs ys h.1 more)

pub fetched_plain : (place k : ℕ) (seat : Seat) → ArePlain (fetched place k seat).ops
fetched_plain place k (fixed z) = (tt, tt)
fetched_plain place k (cell c) = (tt, tt)
fetched_plain place k (cells first) = (tt, tt)
fetched_plain place k (register r) = tt
