-- The names seen so far, as a set of their texts.
use Rattle.std.specs.Prelude.{ℕ, Bool, List}
use Rattle.std.specs.Ordering.{nat_cmp}
use Rattle.std.specs.Cmp.Lexicographic.{slice_cmp}
use Rattle.std.specs.Borrow.{Bor}
use Rattle.std.specs.BTreeSet.{BTreeSet, contains_by}
use Rattle.ws_types.specs.Names.{Name}

-- the name is one of the set
abbrev pub holds : BTreeSet (Bor (List ℕ)) → Name → Bool
holds seen x = contains_by (λ k. slice_cmp nat_cmp x k.now) seen
