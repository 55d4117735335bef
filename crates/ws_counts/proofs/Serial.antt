-- The expressions of a DO, ALLOCATE or READ are one step.
use Rattle.std.proofs.Common.{◌≡◌, ap, ◌∙◌, sym, ℕ, false, List, [], ◌∷◌, ◌++◌, Option, Some, None}
use Rattle.std.specs.List.{flat_map}
use Rattle.ws_base.specs.declared.refusal.Refusal.{Refusal}
use Rattle.ws_tree.specs.declared.expr.Expr.{Expr}
use Rattle.ws_tree.specs.declared.stmt.Bound.{Bound}
use Rattle.ws_tree.specs.declared.stmt.Bound.TheVariants as bound
use Rattle.ws_tree.specs.declared.stmt.Part.{Part}
use Rattle.ws_types.specs.declared.types.Row.{Row}
use Rattle.ws_types.specs.Kinds.{least_from}
use Rattle.ws_counts.specs.declared.tally.Piece.{Piece}
use Rattle.ws_counts.specs.declared.tally.Piece.TheVariants.{Assigned}
use Rattle.ws_counts.specs.Pieces.{pieces, given_pieces}
use Rattle.ws_counts.specs.declared.tally.Tally.{Tally}
use Rattle.ws_counts.specs.Counts.{steps_from}
use Rattle.ws_counts.specs.Tallies.{tallied}
use Rattle.ws_counts.proofs.Tallied.{tallied-append}
use Rattle.ws_counts.specs.Limits.{statement_faults, expressions_faults, loop_pieces, bound_pieces, part_pieces, allocate_pieces, read_pieces}
use Rattle.ws_counts.proofs.Steps.{AreInStep, both_in, pieces_in, passed, ends}

alone : (ps : List Piece) → AreInStep ps → steps_from [] (ps ++ Assigned ∷ []) ≡ ps ∷ []
alone ps h = passed ps [] (Assigned ∷ []) h ∙ ends ps []

pub step_noted : (line : ℕ) (ps : List Piece) (f0 f1 : Option Refusal) → AreInStep ps → f1 ≡ least_from f0 (statement_faults false line (steps_from [] (ps ++ Assigned ∷ []))) → f1 ≡ least_from f0 (expressions_faults line ps)
step_noted line ps f0 f1 h e = e ∙ ap (λ ss. least_from f0 (statement_faults false line ss)) (alone ps h)

all_in : {X : Type 0} (f : X → List Piece) → ((x : X) → AreInStep (f x)) → (xs : List X) → AreInStep (flat_map f xs)
all_in f h [] = tt
all_in f h (x ∷ xs) = both_in (f x) (flat_map f xs) (h x) (all_in f h xs)

given_in : (t : List Row) (e : Option Expr) → AreInStep (given_pieces t false false e)
given_in t None = tt
given_in t (Some e) = pieces_in t false false e

pub loop_in : (t : List Row) (l u : Expr) (s : Option Expr) → AreInStep (loop_pieces t l u s)
loop_in t l u s = both_in (pieces t false false l ++ pieces t false false u) (given_pieces t false false s) (both_in (pieces t false false l) (pieces t false false u) (pieces_in t false false l) (pieces_in t false false u)) (given_in t s)

bound_in : (t : List Row) (b : Bound) → AreInStep (bound_pieces t b)
bound_in t (bound.Upper u) = pieces_in t false false u
bound_in t (bound.Both l u) = both_in (pieces t false false l) (pieces t false false u) (pieces_in t false false l) (pieces_in t false false u)
bound_in t bound.Deferred = tt

pub allocate_in : (t : List Row) (ps : List Part) → AreInStep (allocate_pieces t ps)
allocate_in t ps = all_in (part_pieces t) (λ p. all_in (bound_pieces t) (bound_in t) p.shape) ps

pub read_in : (t : List Row) (es : List Expr) → AreInStep (read_pieces t es)
read_in t es = all_in (pieces t false false) (pieces_in t false false) es

pub three_counted : (xs ys zs : List Piece) (k0 k1 k2 k3 : Tally) → k1 ≡ tallied k0 xs → k2 ≡ tallied k1 ys → k3 ≡ tallied k2 zs → k3 ≡ tallied k0 (xs ++ ys ++ zs)
three_counted xs ys zs k0 k1 k2 k3 e1 e2 e3 =
    e3
    ∙ ap (λ k. tallied k zs) (e2 ∙ ap (λ k. tallied k ys) e1 ∙ sym (tallied-append k0 xs ys))
    ∙ sym (tallied-append k0 (xs ++ ys) zs)
