-- A list counted bit by bit.
use Rattle.std.proofs.Common.{◌≡◌, refl, ℕ, ◌+◌, ◌<◌, ◌≤◌, List, [], ◌∷◌, ◌++◌, length, drop, get_or}
use Rattle.std.specs.List.{flat_map}
use Rattle.ws_types.proofs.Appended.{next_of, done_of}
use Rattle.ws_counts.specs.declared.tally.Piece.{Piece}
use Rattle.ws_counts.specs.declared.tally.Tally.{Tally}
use Rattle.ws_counts.specs.Tallies.{tallied, counted}

pub tallied-append : (k : Tally) (ps qs : List Piece) → tallied k (ps ++ qs) ≡ tallied (tallied k ps) qs
unfolding tallied
tallied-append k [] qs = refl
tallied-append k (p ∷ ps) qs = tallied-append (counted k p) ps qs

pub tallied-none : (k : Tally) → tallied k [] ≡ k
unfolding tallied
tallied-none k = refl

pub tallied-first : (k : Tally) (p : Piece) (ps : List Piece) → tallied k (p ∷ ps) ≡ tallied (tallied k (p ∷ [])) ps
unfolding tallied
tallied-first k p ps = refl

pub ruleset tallied_rules = (tallied-append, tallied-none, tallied-first)

-- ---- a loop that counts the pieces of each item

pub next : {X : Type 0} (f : X → List Piece) (xs : List X) (i : ℕ) (x : X) (k now : Tally) → i < length xs → x ≡ get_or xs i x → now ≡ tallied k (f x) → tallied k (flat_map f (drop i xs)) ≡ tallied now (flat_map f (drop (i + 1) xs))
next = next_of tallied tallied-append

pub done : {X : Type 0} (f : X → List Piece) (xs : List X) (i : ℕ) (k : Tally) → length xs ≤ i → tallied k (flat_map f (drop i xs)) ≡ k
done = done_of tallied tallied-none
