-- How the code counts. A number that passes the greatest one stays there.
use Rattle.std.specs.Prelude.{ℕ, ◌+◌, true, false, if◌then◌else◌, min, max, List, [], ◌∷◌}
use Rattle.ws_counts.specs.declared.tally.Piece.{Piece}
use Rattle.ws_counts.specs.declared.tally.Piece.TheVariants.{Part, Reduction, Whole, Mask, Assigned}
use Rattle.ws_counts.specs.declared.tally.Tally.{Tally}
use Rattle.ws_counts.specs.declared.tally.Total.{Total}
use Rattle.ws_counts.specs.declared.tally.Sum.{Sum}
use Rattle.ws_counts.specs.Counts.{parts_of, phases_of, temporaries_of}

abbrev pub most : ℕ
most = 4294967295

abbrev pub plus : ℕ → ℕ → ℕ
plus a b = min (a + b) most

abbrev pub counted : Tally → Piece → Tally
counted k Part = record k { parts = plus k.parts 1; begun = true }
counted k Reduction = record k { phases = plus k.phases 3; pending = plus k.pending 1; begun = true }
counted k (Whole true) = record k { phases = plus k.phases 2; held = plus k.held 1; begun = true }
counted k (Whole false) = record k { phases = plus k.phases 2; pending = plus k.pending 1; begun = true }
counted k Mask = record k { phases = plus k.phases 1; held = plus k.held 1; begun = true }
counted k Assigned = record k { phases = plus k.phases 6; temporaries = max k.temporaries (plus (plus k.held k.pending) 2); pending = 0; begun = false }

unfoldable pub tallied : Tally → List Piece → Tally
tallied k [] = k
tallied k (p ∷ ps) = tallied (counted k p) ps

-- what stands after the last assignment is a step of its own
unfoldable pub ended : Tally → Tally
ended k = if k.begun then counted k Assigned else k

abbrev pub nothing : Tally
nothing = record { parts = 0; phases = 0; temporaries = 0; held = 0; pending = 0; begun = false }

-- what these steps count, as far as the code's numbers go
abbrev pub total_of : List (List Piece) → Total
total_of ss = record { parts = min (parts_of ss) most; phases = min (phases_of ss) most; temporaries = min (temporaries_of ss) most }

abbrev pub no_sum : Sum
no_sum = record { phases = 0; temporaries = 0 }

-- one more statement
abbrev pub summed : Sum → List (List Piece) → Sum
summed s ss = record { phases = plus s.phases (total_of ss).phases; temporaries = max s.temporaries (total_of ss).temporaries }

unfoldable pub all_summed : Sum → List (List (List Piece)) → Sum
all_summed s [] = s
all_summed s (ss ∷ more) = all_summed (summed s ss) more
