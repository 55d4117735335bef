-- Tables in which names have the same types give statements the same pieces.
use Rattle.std.proofs.Common.{◌≡◌, refl, ap, Bool, true, false, List, [], ◌∷◌, ◌++◌, Option, Some, None}
use Rattle.std.specs.List.{flat_map}
use mathlib.Core.Former.{Count}
use Rattle.ws_tree.specs.declared.expr.Expr.{Expr}
use Rattle.ws_tree.specs.declared.stmt.Bound.{Bound}
use Rattle.ws_tree.specs.declared.stmt.Bound.TheVariants as bound
use Rattle.ws_tree.specs.declared.stmt.Index.{Index}
use Rattle.ws_tree.specs.declared.stmt.Part.{Part}
use Rattle.ws_tree.specs.declared.stmt.Body.{Body}
use Rattle.ws_tree.specs.declared.stmt.Body.TheVariants.{Assign, Masked', Forall', Loop', Allocate, Deallocate, Read, Shared', Unsupported, TooDeep}
use Rattle.ws_tree.specs.declared.stmt.Else.{Else'}
use Rattle.ws_tree.specs.Trees.{Stmts, end_stmts, more_stmts, Elses, end_elses, more_elses}
use Rattle.ws_types.specs.declared.types.Row.{Row}
use Rattle.ws_types.specs.declared.types.Standing.TheVariants.{Index as Index', Barred}
use Rattle.ws_types.specs.Tables.{barred, inner}
use Rattle.ws_counts.specs.declared.tally.Piece.TheVariants as piece
use Rattle.ws_counts.specs.Pieces as p
use Rattle.ws_counts.specs.Limits.{loop_pieces, bound_pieces, allocate_pieces, read_pieces}
use Rattle.limit_laws.proofs.Alike.{Alike, indexes-alike, both-alike, pieces-alike, given-alike}

mask-alike : (t u : List Row) → Alike t u → (inside : Bool) (e : Expr) → p.mask_pieces t inside e ≡ p.mask_pieces u inside e
mask-alike t u h inside e = ap (λ l. piece.Mask ∷ l) (pieces-alike t u h inside true e)

given-mask-alike : (t u : List Row) → Alike t u → (inside : Bool) (o : Option Expr) → p.given_mask_pieces t inside o ≡ p.given_mask_pieces u inside o
given-mask-alike t u h inside None = refl
given-mask-alike t u h inside (Some e) = mask-alike t u h inside e

assigned-alike : (t u : List Row) → Alike t u → (inside : Bool) (l r : Expr) → p.assigned_pieces t inside l r ≡ p.assigned_pieces u inside l r
assigned-alike t u h inside l r = ap (λ ps. ps ++ piece.Assigned ∷ []) (both-alike _ _ _ _ (pieces-alike t u h inside false l) (pieces-alike t u h inside false r))

indexes-pieces-alike : (t u : List Row) → Alike t u → (is : List Index) → p.indexes_pieces t is ≡ p.indexes_pieces u is
indexes-pieces-alike t u h [] = refl
indexes-pieces-alike t u h (i ∷ is) =
    both-alike _ _ _ _ (ap (λ l. piece.Part ∷ l) (both-alike _ _ _ _ (both-alike _ _ _ _ (pieces-alike t u h false false i.l) (pieces-alike t u h false false i.u)) (given-alike t u h false false i.s))) (indexes-pieces-alike t u h is)

header-alike : (t u : List Row) → Alike t u → (is : List Index) (o : Option Expr) → p.header_pieces t is o ≡ p.header_pieces u is o
header-alike t u h is o =
    both-alike _ _ _ _ (indexes-pieces-alike (barred t is) (barred u is) (indexes-alike Barred is t u h) is) (given-mask-alike (inner t is) (inner u is) (indexes-alike Index' is t u h) true o)

module _ (t u : List Row) (h : Alike t u) (inside : Bool) where
  mutual
    where-alike : (b : Body) → p.where_pieces t inside b ≡ p.where_pieces u inside b
    where-alike (Assign l r) = assigned-alike t u h inside l r
    where-alike (Masked' mask _ block _ rest) = both-alike _ _ _ _ (both-alike _ _ _ _ (mask-alike t u h inside mask) (block-alike block)) (elses-alike rest)
    where-alike (Forall' is mask _ block) = refl
    where-alike (Loop' x l k s _ block) = refl
    where-alike (Allocate ps) = refl
    where-alike (Deallocate xs) = refl
    where-alike (Read es) = refl
    where-alike (Shared' _ block) = refl
    where-alike Unsupported = refl
    where-alike TooDeep = refl

    block-alike : {m : Count} (block : Stmts m) → p.block_pieces t inside block ≡ p.block_pieces u inside block
    block-alike end_stmts = refl
    block-alike (more_stmts line body rest) = both-alike _ _ _ _ (where-alike body) (block-alike rest)

    elses-alike : {m : Count} (es : Elses m) → p.elses_pieces t inside es ≡ p.elses_pieces u inside es
    elses-alike end_elses = refl
    elses-alike (more_elses (Else' line None _ block) es) = both-alike _ _ _ _ (block-alike block) refl
    elses-alike (more_elses (Else' line (Some test) _ block) es) = both-alike _ _ _ _ (both-alike _ _ _ _ (mask-alike t u h inside test) (block-alike block)) (elses-alike es)

mutual
  pub statement-alike : (t u : List Row) → Alike t u → (inside : Bool) (b : Body) → p.statement_pieces t inside b ≡ p.statement_pieces u inside b
  statement-alike t u h inside (Forall' is mask _ block) = both-alike _ _ _ _ (header-alike t u h is mask) (forall-alike (inner t is) (inner u is) (indexes-alike Index' is t u h) block)
  statement-alike t u h inside (Assign l r) = where-alike t u h inside (Assign l r)
  statement-alike t u h inside (Masked' mask c block d rest) = where-alike t u h inside (Masked' mask c block d rest)
  statement-alike t u h inside (Loop' x l k s _ block) = refl
  statement-alike t u h inside (Allocate ps) = refl
  statement-alike t u h inside (Deallocate xs) = refl
  statement-alike t u h inside (Read es) = refl
  statement-alike t u h inside (Shared' _ block) = refl
  statement-alike t u h inside Unsupported = refl
  statement-alike t u h inside TooDeep = refl

  forall-alike : {m : Count} (t u : List Row) → Alike t u → (block : Stmts m) → p.forall_pieces t block ≡ p.forall_pieces u block
  forall-alike t u h end_stmts = refl
  forall-alike t u h (more_stmts line body rest) = both-alike _ _ _ _ (statement-alike t u h true body) (forall-alike t u h rest)

-- ---- DO, ALLOCATE and READ

module _ (t u : List Row) (h : Alike t u) where
  pub loop-alike : (l k : Expr) (s : Option Expr) → loop_pieces t l k s ≡ loop_pieces u l k s
  loop-alike l k s = both-alike _ _ _ _ (both-alike _ _ _ _ (pieces-alike t u h false false l) (pieces-alike t u h false false k)) (given-alike t u h false false s)

  bound-alike : (b : Bound) → bound_pieces t b ≡ bound_pieces u b
  bound-alike (bound.Upper k) = pieces-alike t u h false false k
  bound-alike (bound.Both l k) = both-alike _ _ _ _ (pieces-alike t u h false false l) (pieces-alike t u h false false k)
  bound-alike bound.Deferred = refl

  bounds-alike : (bs : List Bound) → flat_map (bound_pieces t) bs ≡ flat_map (bound_pieces u) bs
  bounds-alike [] = refl
  bounds-alike (b ∷ bs) = both-alike _ _ _ _ (bound-alike b) (bounds-alike bs)

  pub allocate-alike : (ps : List Part) → allocate_pieces t ps ≡ allocate_pieces u ps
  allocate-alike [] = refl
  allocate-alike (x ∷ ps) = both-alike _ _ _ _ (bounds-alike x.shape) (allocate-alike ps)

  pub read-alike : (es : List Expr) → read_pieces t es ≡ read_pieces u es
  read-alike [] = refl
  read-alike (e ∷ es) = both-alike _ _ _ _ (pieces-alike t u h false false e) (read-alike es)
