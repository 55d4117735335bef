-- What the code counts of a statement, as lower bounds: they reach these numbers as far as they go.
use Rattle.std.proofs.Common.{◌≡◌, refl, ℕ, ◌+◌, ◌*◌, ◌≤◌, min, max, Bool, true, false, List, [], ◌∷◌, ◌++◌, arith, if◌then◌else◌}
use Rattle.ws_base.specs.declared.op.CallWord.{CallWord}
use Rattle.ws_tree.specs.declared.expr.Expr.{Expr}
use Rattle.ws_tree.specs.declared.expr.Expr.TheVariants.{Number, TooWide, TooDeep, Truth, Named, Part', Call', Vector'}
use Rattle.ws_tree.specs.declared.expr.Sub.TheVariants as sub
use Rattle.ws_tree.specs.Trees.{Exprs, end_exprs, more_exprs, Subs, end_subs, more_subs, Given, absent, given, paren, unary, binary}
use Rattle.ws_types.specs.declared.types.Row.{Row}
use Rattle.ws_types.specs.Operations.{is_reduction}
use Rattle.ws_counts.specs.declared.tally.Piece.{Piece}
use Rattle.ws_counts.specs.declared.tally.Piece.TheVariants as piece
use Rattle.ws_counts.specs.declared.tally.Tally.{Tally}
use Rattle.ws_counts.specs.Counts.{reductions_in, wholes_in}
use Rattle.ws_counts.specs.Pieces as p
use Rattle.ws_counts.specs.Tallies.{counted, tallied}
use Rattle.limit_laws.proofs.Counting.{if_so, if_not}

pub record Reaches (k : Tally) (p t h q : ℕ) : Type 0 where
  pub phases : min p 4294967295 ≤ k.phases
  pub temporaries : min t 4294967295 ≤ k.temporaries
  pub held : min h 4294967295 ≤ k.held
  pub pending : min q 4294967295 ≤ k.pending

pub reaches-less : (k : Tally) (p t h q p' t' h' q' : ℕ) → Reaches k p t h q → p' ≤ p → t' ≤ t → h' ≤ h → q' ≤ q → Reaches k p' t' h' q'
reaches-less k p t h q p' t' h' q' r hp ht hh hq = record {
  phases = omega (arith, r.phases, hp);
  temporaries = omega (arith, r.temporaries, ht);
  held = omega (arith, r.held, hh);
  pending = omega (arith, r.pending, hq);
}

module _ (k : Tally) (p t h q : ℕ) (r : Reaches k p t h q) where
  pub reaches-part : Reaches (counted k piece.Part) p t h q
  reaches-part = record { phases = r.phases; temporaries = r.temporaries; held = r.held; pending = r.pending }

  pub reaches-reduction : Reaches (counted k piece.Reduction) (p + 3) t h (q + 1)
  reaches-reduction = record { phases = omega (arith, r.phases); temporaries = r.temporaries; held = r.held; pending = omega (arith, r.pending) }

  pub reaches-mask_whole : Reaches (counted k (piece.Whole true)) (p + 2) t (h + 1) q
  reaches-mask_whole = record { phases = omega (arith, r.phases); temporaries = r.temporaries; held = omega (arith, r.held); pending = r.pending }

  pub reaches-whole : Reaches (counted k (piece.Whole false)) (p + 2) t h (q + 1)
  reaches-whole = record { phases = omega (arith, r.phases); temporaries = r.temporaries; held = r.held; pending = omega (arith, r.pending) }

  pub reaches-mask : Reaches (counted k piece.Mask) (p + 1) t (h + 1) q
  reaches-mask = record { phases = omega (arith, r.phases); temporaries = r.temporaries; held = omega (arith, r.held); pending = r.pending }

  pub reaches-assigned : Reaches (counted k piece.Assigned) (p + 6) (max t (2 + (h + q))) h 0
  reaches-assigned = record { phases = omega (arith, r.phases); temporaries = omega (arith, r.temporaries, r.held, r.pending); held = r.held; pending = omega arith }

-- ---- the pieces of expressions in a mask, or outside masks

abbrev pub IsValuePiece : Bool → Piece → Type 0
IsValuePiece mask piece.Part = Unit {0}
IsValuePiece mask piece.Reduction = Unit {0}
IsValuePiece mask (piece.Whole m) = m ≡ mask
IsValuePiece mask _ = ⊥

abbrev pub AreValuePieces : Bool → List Piece → Type 0
AreValuePieces mask [] = Unit {0}
AreValuePieces mask (x ∷ xs) = IsValuePiece mask x × AreValuePieces mask xs

pub both_values : (mask : Bool) (xs ys : List Piece) → AreValuePieces mask xs → AreValuePieces mask ys → AreValuePieces mask (xs ++ ys)
both_values mask [] ys h g = g
both_values mask (x ∷ xs) ys h g = (h.0, both_values mask xs ys h.1 g)

call_values : (mask b : Bool) → AreValuePieces mask (if b then piece.Part ∷ piece.Reduction ∷ [] else piece.Part ∷ [])
call_values mask true = (tt, (tt, tt))
call_values mask false = (tt, tt)

sub_values : (mask b : Bool) → AreValuePieces mask (if b then piece.Part ∷ piece.Whole mask ∷ [] else piece.Part ∷ [])
sub_values mask true = (tt, (refl, tt))
sub_values mask false = (tt, tt)

calls_are : (mask : Bool) (w : CallWord) → AreValuePieces mask (p.call_pieces w)
unfolding p.call_pieces
calls_are mask w = call_values mask (is_reduction w)

subscripts_are : (mask whole : Bool) → AreValuePieces mask (p.subscript_pieces mask whole)
unfolding p.subscript_pieces
subscripts_are mask whole = sub_values mask whole

mutual
  pub pieces_are : (t : List Row) (inside mask : Bool) (e : Expr) → AreValuePieces mask (p.pieces t inside mask e)
  pieces_are t inside mask (Number n) = tt
  pieces_are t inside mask TooWide = tt
  pieces_are t inside mask TooDeep = tt
  pieces_are t inside mask (Truth b) = tt
  pieces_are t inside mask (Named x) = tt
  pieces_are t inside mask (Part' x _ subs) = subs_are t inside mask subs
  pieces_are t inside mask (Call' w h es) = both_values mask (p.call_pieces w) (p.all_pieces t inside mask es) (calls_are mask w) (all_are t inside mask es)
  pieces_are t inside mask (Vector' _ es) = all_are t inside mask es
  pieces_are t inside mask (paren e) = pieces_are t inside mask e
  pieces_are t inside mask (unary op e) = (tt, pieces_are t inside mask e)
  pieces_are t inside mask (binary op a b) = (tt, both_values mask (p.pieces t inside mask a) (p.pieces t inside mask b) (pieces_are t inside mask a) (pieces_are t inside mask b))

  all_are : {m : _} (t : List Row) (inside mask : Bool) (es : Exprs m) → AreValuePieces mask (p.all_pieces t inside mask es)
  all_are t inside mask end_exprs = tt
  all_are t inside mask (more_exprs e es) = (tt, both_values mask (p.pieces t inside mask e) (p.all_pieces t inside mask es) (pieces_are t inside mask e) (all_are t inside mask es))

  subs_are : {m : _} (t : List Row) (inside mask : Bool) (ss : Subs m) → AreValuePieces mask (p.subs_pieces t inside mask ss)
  subs_are t inside mask end_subs = tt
  subs_are t inside mask (more_subs (sub.One e) ss) = both_values mask (p.sub_pieces t inside mask (sub.One e)) (p.subs_pieces t inside mask ss) (both_values mask (p.subscript_pieces mask (p.is_whole t inside e)) (p.pieces t inside mask e) (subscripts_are mask (p.is_whole t inside e)) (pieces_are t inside mask e)) (subs_are t inside mask ss)
  subs_are t inside mask (more_subs (sub.Range' l u s) ss) =
      both_values mask (p.sub_pieces t inside mask (sub.Range' l u s)) (p.subs_pieces t inside mask ss)
      (tt, both_values mask (p.held_pieces t inside mask l ++ p.held_pieces t inside mask u) (p.held_pieces t inside mask s) (both_values mask (p.held_pieces t inside mask l) (p.held_pieces t inside mask u) (held_are t inside mask l) (held_are t inside mask u)) (held_are t inside mask s))
      (subs_are t inside mask ss)

  held_are : (t : List Row) (inside mask : Bool) (g : Given) → AreValuePieces mask (p.held_pieces t inside mask g)
  held_are t inside mask absent = tt
  held_are t inside mask (given e) = pieces_are t inside mask e

-- ---- what they add

pub reaches-values : (mask : Bool) (ps : List Piece) → AreValuePieces mask ps → (k : Tally) (p t h q : ℕ) → Reaches k p t h q →
    Reaches (tallied k ps) (p + (3 * reductions_in ps + 2 * wholes_in ps)) t (h + if_so mask (wholes_in ps)) (q + (reductions_in ps + if_not mask (wholes_in ps)))
unfolding tallied
reaches-values true [] are k p t h q r = reaches-less k p t h q _ _ _ _ r (omega arith) (omega arith) (omega arith) (omega arith)
reaches-values false [] are k p t h q r = reaches-less k p t h q _ _ _ _ r (omega arith) (omega arith) (omega arith) (omega arith)
reaches-values true (piece.Part ∷ ps) are k p t h q r = reaches-less _ _ _ _ _ _ _ _ _ (reaches-values true ps are.1 (counted k piece.Part) p t h q (reaches-part k p t h q r)) (omega arith) (omega arith) (omega arith) (omega arith)
reaches-values false (piece.Part ∷ ps) are k p t h q r = reaches-less _ _ _ _ _ _ _ _ _ (reaches-values false ps are.1 (counted k piece.Part) p t h q (reaches-part k p t h q r)) (omega arith) (omega arith) (omega arith) (omega arith)
reaches-values true (piece.Reduction ∷ ps) are k p t h q r = reaches-less _ _ _ _ _ _ _ _ _ (reaches-values true ps are.1 (counted k piece.Reduction) (p + 3) t h (q + 1) (reaches-reduction k p t h q r)) (omega arith) (omega arith) (omega arith) (omega arith)
reaches-values false (piece.Reduction ∷ ps) are k p t h q r = reaches-less _ _ _ _ _ _ _ _ _ (reaches-values false ps are.1 (counted k piece.Reduction) (p + 3) t h (q + 1) (reaches-reduction k p t h q r)) (omega arith) (omega arith) (omega arith) (omega arith)
reaches-values true (piece.Whole true ∷ ps) are k p t h q r = reaches-less _ _ _ _ _ _ _ _ _ (reaches-values true ps are.1 (counted k (piece.Whole true)) (p + 2) t (h + 1) q (reaches-mask_whole k p t h q r)) (omega arith) (omega arith) (omega arith) (omega arith)
reaches-values false (piece.Whole false ∷ ps) are k p t h q r = reaches-less _ _ _ _ _ _ _ _ _ (reaches-values false ps are.1 (counted k (piece.Whole false)) (p + 2) t h (q + 1) (reaches-whole k p t h q r)) (omega arith) (omega arith) (omega arith) (omega arith)
reaches-values true (piece.Whole false ∷ ps) are k p t h q r = absurd (let e = are.0 in cc)
reaches-values false (piece.Whole true ∷ ps) are k p t h q r = absurd (let e = are.0 in cc)
reaches-values mask (piece.Mask ∷ ps) are k p t h q r = absurd are.0
reaches-values mask (piece.Assigned ∷ ps) are k p t h q r = absurd are.0

pub begun-values : (mask : Bool) (ps : List Piece) → AreValuePieces mask ps → (k : Tally) → k.begun ≡ true → (tallied k ps).begun ≡ true
unfolding tallied
begun-values mask [] are k h = h
begun-values mask (piece.Part ∷ ps) are k h = begun-values mask ps are.1 (counted k piece.Part) refl
begun-values mask (piece.Reduction ∷ ps) are k h = begun-values mask ps are.1 (counted k piece.Reduction) refl
begun-values mask (piece.Whole true ∷ ps) are k h = begun-values mask ps are.1 (counted k (piece.Whole true)) refl
begun-values mask (piece.Whole false ∷ ps) are k h = begun-values mask ps are.1 (counted k (piece.Whole false)) refl
begun-values mask (piece.Mask ∷ ps) are k h = absurd are.0
begun-values mask (piece.Assigned ∷ ps) are k h = absurd are.0
