-- Numbers of pieces.
use Rattle.std.proofs.Common.{◌≡◌, refl, sym, ap, ◌∙◌, ◌+◌, Bool, true, false, List, [], ◌∷◌, ◌++◌, add_assoc, zero-add, if◌then◌else◌}
use Rattle.ws_counts.specs.declared.tally.Piece.{Piece}
use Rattle.ws_counts.specs.Counts.{how_many, is_part, is_reduction, is_whole, parts_in, reductions_in, wholes_in}
use Rattle.ws_counts.specs.Pieces.{call_pieces, subscript_pieces}
use Rattle.ws_base.specs.declared.op.CallWord.{CallWord}
use Rattle.ws_types.specs.Operations as types
use Rattle.limit_laws.proofs.Costs.{one_if}

pub how_many-append : (test : Piece → Bool) (xs ys : List Piece) → how_many test (xs ++ ys) ≡ how_many test xs + how_many test ys
how_many-append test [] ys = sym (zero-add (how_many test ys))
how_many-append test (x ∷ xs) ys = ap (λ n. (if test x then 1 else 0) + n) (how_many-append test xs ys) ∙ sym (add_assoc (if test x then 1 else 0) (how_many test xs) (how_many test ys))

pub parts-append : (xs ys : List Piece) → parts_in (xs ++ ys) ≡ parts_in xs + parts_in ys
parts-append xs ys = how_many-append is_part xs ys

pub reductions-append : (xs ys : List Piece) → reductions_in (xs ++ ys) ≡ reductions_in xs + reductions_in ys
reductions-append xs ys = how_many-append is_reduction xs ys

pub wholes-append : (xs ys : List Piece) → wholes_in (xs ++ ys) ≡ wholes_in xs + wholes_in ys
wholes-append xs ys = how_many-append is_whole xs ys

-- a call is one part, and a reduction if it is one
pub record CallCounts (w : CallWord) : Type 0 where
  pub parts : parts_in (call_pieces w) ≡ 1
  pub reductions : reductions_in (call_pieces w) ≡ one_if (types.is_reduction w)
  pub wholes : wholes_in (call_pieces w) ≡ 0

pub call-counts : (w : CallWord) → CallCounts w
unfolding call_pieces
call-counts w = at (types.is_reduction w) refl where
  at : (b : Bool) → types.is_reduction w ≡ b → CallCounts w
  at true is = record { parts = rw is; reductions = rw is; wholes = rw is }
  at false is = record { parts = rw is; reductions = rw is; wholes = rw is }

pub record SubscriptCounts (mask whole : Bool) : Type 0 where
  pub parts : parts_in (subscript_pieces mask whole) ≡ 1
  pub reductions : reductions_in (subscript_pieces mask whole) ≡ 0
  pub wholes : wholes_in (subscript_pieces mask whole) ≡ one_if whole

pub subscript-counts : (mask whole : Bool) → SubscriptCounts mask whole
unfolding subscript_pieces
subscript-counts mask true = record { parts = refl; reductions = refl; wholes = refl }
subscript-counts mask false = record { parts = refl; reductions = refl; wholes = refl }
