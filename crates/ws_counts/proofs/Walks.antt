-- The pieces at each form of expression, over the lists that the code goes over.
use Rattle.std.proofs.Common.{◌≡◌, refl, ap, ◌∙◌, sym, Bool, List, [], ◌∷◌, ◌++◌}
use Rattle.ws_base.specs.declared.op.CallWord.{CallWord}
use Rattle.ws_tree.specs.declared.expr.Expr.{Expr}
use Rattle.ws_base.specs.declared.op.UnOp.{UnOp}
use Rattle.ws_base.specs.declared.op.BinOp.{BinOp}
use Rattle.ws_tree.specs.declared.expr.Expr.TheVariants.{Part, Call, Vector, Unary, Binary}
use Rattle.ws_tree.specs.declared.expr.Expr.TheBlock.{hidden-the_row-Expr-1, hidden-the_row-Sub-0}
use Rattle.ws_tree.specs.declared.expr.Sub.{Sub}
use Rattle.ws_tree.specs.Opened.{trees_open}
use Rattle.ws_types.specs.declared.types.Row.{Row}
use Rattle.ws_counts.specs.declared.tally.Piece.TheVariants as piece
use Rattle.ws_counts.specs.declared.tally.Tally.{Tally}
use Rattle.ws_counts.specs.Pieces as one
use Rattle.ws_counts.specs.Lists as lists
use Rattle.ws_counts.specs.Tallies.{tallied}
use Rattle.ws_counts.proofs.Tallied.{tallied-append, tallied-none, tallied-first}

all_list : (t : List Row) (inside mask : Bool) (es : List Expr) → one.all_pieces t inside mask (hidden-the_row-Expr-1 es) ≡ lists.all_pieces t inside mask es
unfolding trees_open
all_list t inside mask [] = refl
all_list t inside mask (e ∷ es) = ap (λ r. piece.Part ∷ (one.pieces t inside mask e ++ r)) (all_list t inside mask es)

subs_list : (t : List Row) (inside mask : Bool) (ss : List Sub) → one.subs_pieces t inside mask (hidden-the_row-Sub-0 ss) ≡ lists.subs_pieces t inside mask ss
unfolding trees_open
subs_list t inside mask [] = refl
subs_list t inside mask (x ∷ xs) = ap (λ r. one.sub_pieces t inside mask x ++ r) (subs_list t inside mask xs)

pub pieces_part : (t : List Row) (inside mask : Bool) (x : List _) (ss : List Sub) → one.pieces t inside mask (Part x ss) ≡ lists.subs_pieces t inside mask ss
unfolding trees_open
pieces_part t inside mask x ss = subs_list t inside mask ss

pub pieces_call : (t : List Row) (inside mask : Bool) (w : CallWord) (es : List Expr) → one.pieces t inside mask (Call w es) ≡ one.call_pieces w ++ lists.all_pieces t inside mask es
unfolding trees_open
pieces_call t inside mask w es = ap (λ r. one.call_pieces w ++ r) (all_list t inside mask es)

pub pieces_vector : (t : List Row) (inside mask : Bool) (es : List Expr) → one.pieces t inside mask (Vector es) ≡ lists.all_pieces t inside mask es
unfolding trees_open
pieces_vector t inside mask es = all_list t inside mask es

pub ruleset walk_rules = (tallied-append, tallied-none, tallied-first, pieces_part, pieces_call, pieces_vector)

pieces_unary : (t : List Row) (inside mask : Bool) (op : UnOp) (e : Expr) → one.pieces t inside mask (Unary op e) ≡ piece.Part ∷ one.pieces t inside mask e
unfolding trees_open
pieces_unary t inside mask op e = refl

pieces_binary : (t : List Row) (inside mask : Bool) (op : BinOp) (a b : Expr) → one.pieces t inside mask (Binary op a b) ≡ piece.Part ∷ (one.pieces t inside mask a ++ one.pieces t inside mask b)
unfolding trees_open
pieces_binary t inside mask op a b = refl

-- ---- what the code counts at each form

pub part_counted : (t : List Row) (inside mask : Bool) (whole : Expr) (x : List _) (ss ss' : List Sub) (k0 k1 : Tally) →
    whole ≡ Part x ss → ss' ≡ ss → k1 ≡ tallied k0 (lists.subs_pieces t inside mask ss') → k1 ≡ tallied k0 (one.pieces t inside mask whole)
part_counted t inside mask whole x ss ss' k0 k1 is same e =
    e ∙ ap (λ l. tallied k0 (lists.subs_pieces t inside mask l)) same ∙ ap (tallied k0) (sym (pieces_part t inside mask x ss)) ∙ ap (λ y. tallied k0 (one.pieces t inside mask y)) (sym is)

pub call_counted : (t : List Row) (inside mask : Bool) (whole : Expr) (w : CallWord) (es es' : List Expr) (k0 k1 k2 : Tally) →
    whole ≡ Call w es → es' ≡ es → k1 ≡ tallied k0 (one.call_pieces w) → k2 ≡ tallied k1 (lists.all_pieces t inside mask es') → k2 ≡ tallied k0 (one.pieces t inside mask whole)
call_counted t inside mask whole w es es' k0 k1 k2 is same e1 e2 =
    e2
    ∙ ap (λ l. tallied k1 (lists.all_pieces t inside mask l)) same
    ∙ ap (λ k. tallied k (lists.all_pieces t inside mask es)) e1
    ∙ sym (tallied-append k0 (one.call_pieces w) (lists.all_pieces t inside mask es))
    ∙ ap (tallied k0) (sym (pieces_call t inside mask w es))
    ∙ ap (λ y. tallied k0 (one.pieces t inside mask y)) (sym is)

pub unary_counted : (t : List Row) (inside mask : Bool) (whole : Expr) (op : UnOp) (e e' : Expr) (k0 k1 k2 : Tally) →
    whole ≡ Unary op e → e' ≡ e → k1 ≡ tallied k0 (piece.Part ∷ []) → k2 ≡ tallied k1 (one.pieces t inside mask e') → k2 ≡ tallied k0 (one.pieces t inside mask whole)
unary_counted t inside mask whole op e e' k0 k1 k2 is same e1 e2 =
    e2
    ∙ ap (λ y. tallied k1 (one.pieces t inside mask y)) same
    ∙ ap (λ k. tallied k (one.pieces t inside mask e)) e1
    ∙ sym (tallied-first k0 piece.Part (one.pieces t inside mask e))
    ∙ ap (tallied k0) (sym (pieces_unary t inside mask op e))
    ∙ ap (λ y. tallied k0 (one.pieces t inside mask y)) (sym is)

pub binary_counted : (t : List Row) (inside mask : Bool) (whole : Expr) (op : BinOp) (a b a' b' : Expr) (k0 k1 k2 k3 : Tally) →
    whole ≡ Binary op a b → a' ≡ a → b' ≡ b → k1 ≡ tallied k0 (piece.Part ∷ []) → k2 ≡ tallied k1 (one.pieces t inside mask a') → k3 ≡ tallied k2 (one.pieces t inside mask b') → k3 ≡ tallied k0 (one.pieces t inside mask whole)
binary_counted t inside mask whole op a b a' b' k0 k1 k2 k3 is sa sb e1 e2 e3 =
    e3
    ∙ ap (λ y. tallied k2 (one.pieces t inside mask y)) sb
    ∙ ap (λ k. tallied k (one.pieces t inside mask b)) (e2 ∙ ap (λ y. tallied k1 (one.pieces t inside mask y)) sa)
    ∙ sym (tallied-append k1 (one.pieces t inside mask a) (one.pieces t inside mask b))
    ∙ ap (λ k. tallied k (one.pieces t inside mask a ++ one.pieces t inside mask b)) e1
    ∙ sym (tallied-first k0 piece.Part (one.pieces t inside mask a ++ one.pieces t inside mask b))
    ∙ ap (tallied k0) (sym (pieces_binary t inside mask op a b))
    ∙ ap (λ y. tallied k0 (one.pieces t inside mask y)) (sym is)
