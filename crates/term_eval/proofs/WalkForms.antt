-- What the definitions say of expressions at each form, over the lists that the code goes over.
use Rattle.std.proofs.Common.{◌≡◌, refl, ap, ℕ, ◌≤◌, false, List, [], ◌∷◌, map, length, drop, All, Ok, append-nil}
use mathlib.Core.Path.{fun_ext}
use Rattle.std.proofs.Math.ListN.{drop_of_length-le}
use Rattle.ws_base.specs.declared.op.CallWord.{CallWord}
use Rattle.ws_base.specs.Outcomes.{◌>>=◌}
use Rattle.ws_space.specs.declared.shape.Dim.{Dim}
use Rattle.ws_space.specs.Shapes.{dims}
use Rattle.ws_space.specs.Values.{state_of}
use Rattle.ws_tree.specs.declared.expr.Expr.{Expr}
use Rattle.ws_tree.specs.declared.expr.Expr.TheVariants.{Part, Call, Vector}
use Rattle.ws_tree.specs.declared.expr.Expr.TheBlock.{hidden-the_row-Expr-1, hidden-the_row-Sub-0}
use Rattle.ws_tree.specs.declared.expr.Sub.{Sub}
use Rattle.ws_tree.specs.Opened.{trees_open}
use Rattle.array_meaning.specs.declared.world.World.{World}
use Rattle.array_meaning.specs.declared.term.Pick.{Pick}
use Rattle.array_meaning.specs.declared.term.Term.TheVariants.{Listed}
use Rattle.ws_types.specs.Operations.{is_inquiry}
use Rattle.array_meaning.specs.Stage1.{walk, walks, picks, one_pick, allocated, designator, called, value_of}
use Rattle.term_eval.specs.Limits.{IsSmall, AreSmall, AreSmallSubs, IsSmallSub}
use Rattle.term_eval.specs.Lists as lists
use Rattle.term_eval.proofs.Rows.{each_in_row, row_of_each}

-- ---- lists

pub walks_list : (w : World) (es : List Expr) → walks w (hidden-the_row-Expr-1 es) ≡ lists.walks w es
unfolding trees_open
walks_list w [] = refl
walks_list w (e ∷ es) = ap (λ r. walk w e >>= (λ t. r >>= (λ ts. Ok (t ∷ ts)))) (walks_list w es)

pub picks_list : (w : World) (ds : List Dim) (ss : List Sub) → picks w ds (hidden-the_row-Sub-0 ss) ≡ lists.picks w ds ss
unfolding trees_open
picks_list w ds [] = refl
picks_list w [] (s ∷ ss) = refl
picks_list w (d ∷ ds) (s ∷ ss) = ap (λ r. one_pick w d s >>= (λ p. r >>= (λ ps. Ok (p ∷ ps)))) (picks_list w ds ss)

pub are_small_exprs : (es : List Expr) → All IsSmall es → AreSmall (hidden-the_row-Expr-1 es)
unfolding trees_open
are_small_exprs = row_of_each IsSmall (λ es. AreSmall (hidden-the_row-Expr-1 es)) tt (λ e es h. h)

pub are_small_subs : (ss : List Sub) → All IsSmallSub ss → AreSmallSubs (hidden-the_row-Sub-0 ss)
unfolding trees_open
are_small_subs = row_of_each IsSmallSub (λ ss. AreSmallSubs (hidden-the_row-Sub-0 ss)) tt (λ s ss h. h)

-- ---- the walk at each form

pub walk_part : (w : World) (x : List ℕ) (ss : List Sub) → walk w (Part x ss) ≡ (allocated (state_of w.vars x) >>= (λ a. lists.picks w (dims a.shape) ss >>= (λ ps. designator a ps)))
unfolding trees_open
walk_part w x ss = ap (λ f. allocated (state_of w.vars x) >>= f) (fun_ext (λ a. ap (λ r. r >>= (λ ps. designator a ps)) (picks_list w (dims a.shape) ss)))

pub walk_call : (w : World) (word : CallWord) (es : List Expr) → is_inquiry word ≡ false → walk w (Call word es) ≡ (lists.walks w es >>= called word)
unfolding trees_open
walk_call w word es h = rw h (ap (λ r. r >>= called word) (walks_list w es))

pub walk_vector : (w : World) (es : List Expr) → walk w (Vector es) ≡ (lists.walks w es >>= (λ ts. Ok (Listed (map value_of ts))))
unfolding trees_open
walk_vector w es = ap (λ r. r >>= (λ ts. Ok (Listed (map value_of ts)))) (walks_list w es)

-- ---- what is small

each_small : (es : List Expr) → AreSmall (hidden-the_row-Expr-1 es) → All IsSmall es
unfolding trees_open
each_small = each_in_row IsSmall (λ fs. AreSmall (hidden-the_row-Expr-1 fs)) (λ f fs k. k)

pub small_part : (x : List ℕ) (ss : List Sub) → IsSmall (Part x ss) → All IsSmallSub ss
unfolding trees_open
small_part x ss h = each_in_row IsSmallSub (λ rs. AreSmallSubs (hidden-the_row-Sub-0 rs)) (λ r rs k. k) ss h

pub small_call : (word : CallWord) (es : List Expr) → IsSmall (Call word es) → All IsSmall es
unfolding trees_open
small_call word es h = each_small es h

pub small_vector : (es : List Expr) → IsSmall (Vector es) → All IsSmall es
unfolding trees_open
small_vector es h = each_small es h.1

-- ---- picks

pub picks-none : (w : World) (ss : List Sub) → lists.picks w [] ss ≡ Ok []
picks-none w [] = refl
picks-none w (s ∷ ss) = refl

pub picks-done : (w : World) (ds : List Dim) (ss : List Sub) (i : ℕ) (made : List Pick) → length ds ≤ i → lists.then_rest made (lists.picks w (drop i ds) ss) ≡ Ok made
picks-done w ds ss i made h = rw (drop_of_length-le ds h, picks-none w ss) (ap Ok (append-nil made))
