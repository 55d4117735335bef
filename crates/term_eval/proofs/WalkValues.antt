-- What the first stage leaves of expressions, as the code finds it.
use Rattle.std.proofs.Common.{◌≡◌, refl, sym, ap, ◌∙◌, subst, ℕ, ◌≤◌, true, false, List, [], ◌∷◌, length, map, drop, All, Result, Ok, Err, IfOk, append-nil, ℤ}
use Rattle.std.specs.Prelude.{if◌then◌else◌}
use Rattle.std.proofs.Math.ListN.{drop_of_length-le}
use Rattle.ws_base.specs.declared.fault.FaultName.{FaultName}
use Rattle.ws_base.specs.declared.op.BinOp.{BinOp}
use Rattle.ws_base.specs.declared.op.UnOp.{UnOp}
use Rattle.ws_base.specs.declared.op.CallWord.{CallWord}
use Rattle.ws_base.specs.Outcomes.{Staged, trouble, ◌>>=◌}
use Rattle.ws_space.specs.declared.shape.Dim.{Dim}
use Rattle.ws_space.specs.declared.state.ArrayValue.{ArrayValue}
use Rattle.ws_space.specs.declared.state.Var.{Var}
use Rattle.ws_space.specs.Shapes.{dims}
use Rattle.ws_space.specs.Values.{state_of}
use Rattle.ws_tree.specs.declared.expr.Expr.{Expr}
use Rattle.ws_tree.specs.declared.expr.Expr.TheVariants.{Number, TooWide, Truth, Named, Part', Call', Vector', Paren', Unary', Binary', Part, Call, Vector, Unary, Binary}
use Rattle.ws_tree.specs.declared.expr.Expr.TheVariants as expr
use Rattle.ws_tree.specs.declared.expr.Expr.TheBlock.{hidden-the_row-Expr-1}
use Rattle.ws_tree.specs.declared.expr.Sub.{Sub}
use Rattle.ws_tree.specs.Opened.{trees_open}
use Rattle.array_meaning.specs.declared.world.World.{World}
use Rattle.array_meaning.specs.declared.term.Pick.{Pick}
use Rattle.array_meaning.specs.declared.term.Term.{Term}
use Rattle.array_meaning.specs.declared.term.Term.TheVariants.{Scalar, Listed}
use Rattle.ws_types.specs.Operations.{is_inquiry}
use Rattle.array_meaning.specs.Stage1.{constant_of, allocated, named, designator, inquired, known, called, value_of, unary_on, binary_on, name_in, dimension_in, walk, walks}
use Rattle.term_eval.specs.declared.stop.Stop.{Stop}
use Rattle.term_eval.specs.Made.{Stops, Gives}
use Rattle.term_eval.specs.Limits.{IsSmall, IsSmallSub, IsWorld, IsSmallTerm}
use Rattle.term_eval.specs.Lists as lists
use Rattle.term_eval.proofs.SmallWalk.{walk-small, walks-small}
use Rattle.term_eval.proofs.TermValues.{stops_first}
use Rattle.term_eval.proofs.WalkForms.{walks_list, walk_part, walk_call, walk_vector, small_part, small_call, small_vector, are_small_exprs}

-- ---- what is small

pub small_of : (w : World) → IsWorld w → (e : Expr) → IsSmall e → (r : Result Term Stop) → Gives r (walk w e) → IfOk r IsSmallTerm
small_of w is e h (Ok t) g = let s : IfOk (walk w e) IsSmallTerm = walk-small w is e h in rw g at s
small_of w is e h (Err s) g = tt

all_small : (r : Staged (List Term)) (ts : List Term) (n : ℕ) → r ≡ Ok ts → IfOk r (λ us. (length us ≡ n) × All IsSmallTerm us) → All IsSmallTerm ts
all_small r ts n e h = (rw e at h).1

pub walks_small : (w : World) → IsWorld w → (es : List Expr) → All IsSmall es → (ts : List Term) → lists.walks w es ≡ Ok ts → All IsSmallTerm ts
walks_small w is es h ts e = all_small (walks w (hidden-the_row-Expr-1 es)) ts _ (walks_list w es ∙ e) (walks-small w is (hidden-the_row-Expr-1 es) (are_small_exprs es h))

-- ---- names

module _ (w : World) (e : Expr) (x x' : List ℕ) (is : e ≡ Named x) (same : x' ≡ x) where
  pub name_value : (r : Result Term Stop) → Gives r (named (constant_of w.constants x') (state_of w.vars x')) → Gives r (walk w e)
  name_value r g = subst (Gives r) (ap (λ y. named (constant_of w.constants y) (state_of w.vars y)) same ∙ ap (walk w) (sym is)) g

-- ---- parts of arrays

module _ (w : World) (e : Expr) (x x' : List ℕ) (ss ss' : List Sub) (vs : List Var) (is : e ≡ Part x ss) (same_name : x' ≡ x) (same : ss' ≡ ss) (same_vars : vs ≡ w.vars) (a : ArrayValue) (found : allocated (state_of vs x') ≡ Ok a) where
  allocated_is : allocated (state_of w.vars x) ≡ Ok a
  allocated_is = ap (λ y. allocated (state_of w.vars y)) (sym same_name) ∙ ap (λ v. allocated (state_of v x')) (sym same_vars) ∙ found

  part_is : walk w e ≡ (lists.picks w (dims a.shape) ss' >>= (λ ps. designator a ps))
  part_is =
      ap (walk w) is ∙ walk_part w x ss ∙ ap (λ r. r >>= (λ b. lists.picks w (dims b.shape) ss >>= (λ ps. designator b ps))) allocated_is
      ∙ ap (λ l. lists.picks w (dims a.shape) l >>= (λ ps. designator a ps)) (sym same)

  pub picks_stop : (ds : List Dim) (s : Stop) → ds ≡ dims a.shape → Stops s (lists.picks w ds ss') → Stops s (walk w e)
  picks_stop ds s d h = subst (Stops s) (sym part_is) (stops_first s (lists.picks w (dims a.shape) ss') (λ ps. designator a ps) (subst (λ l. Stops s (lists.picks w l ss')) d h))

  pub part_value : (ds : List Dim) (ps : List Pick) (r : Result Term Stop) → ds ≡ dims a.shape → lists.picks w ds ss' ≡ Ok ps → Gives r (designator a ps) → Gives r (walk w e)
  part_value ds ps r d h g = subst (Gives r) (sym (part_is ∙ ap (λ x. x >>= (λ qs. designator a qs)) (ap (λ l. lists.picks w l ss') (sym d) ∙ h))) g

-- ---- calls

name_at : (e : Expr) (es : List Expr) → name_in (hidden-the_row-Expr-1 (e ∷ es)) ≡ lists.name_in (e ∷ es)
unfolding trees_open
name_at (Named x) es = refl
name_at (Number n) es = refl
name_at TooWide es = refl
name_at expr.TooDeep es = refl
name_at (Truth b) es = refl
name_at (Part' x h ss) es = refl
name_at (Call' w h fs) es = refl
name_at (Vector' h fs) es = refl
name_at (Paren' h f) es = refl
name_at (Unary' op h f) es = refl
name_at (Binary' op h f k g) es = refl

pub name_list : (es : List Expr) → name_in (hidden-the_row-Expr-1 es) ≡ lists.name_in es
unfolding trees_open
name_list [] = refl
name_list (e ∷ es) = name_at e es

dimension_at : (d e : Expr) (es : List Expr) → dimension_in (hidden-the_row-Expr-1 (d ∷ e ∷ es)) ≡ lists.dimension_in (d ∷ e ∷ es)
unfolding trees_open
dimension_at d (Named x) es = refl
dimension_at d (Number n) es = refl
dimension_at d TooWide es = refl
dimension_at d expr.TooDeep es = refl
dimension_at d (Truth b) es = refl
dimension_at d (Part' x h ss) es = refl
dimension_at d (Call' w h fs) es = refl
dimension_at d (Vector' h fs) es = refl
dimension_at d (Paren' h f) es = refl
dimension_at d (Unary' op h f) es = refl
dimension_at d (Binary' op h f k g) es = refl

pub dimension_list : (es : List Expr) → dimension_in (hidden-the_row-Expr-1 es) ≡ lists.dimension_in es
unfolding trees_open
dimension_list [] = refl
dimension_list (e ∷ []) = refl
dimension_list (d ∷ e ∷ es) = dimension_at d e es

inquiry_is : (w : World) (word : CallWord) (es : List Expr) → is_inquiry word ≡ true → walk w (Call word es) ≡ known (lists.inquiry w word es)
unfolding trees_open
inquiry_is w word es h =
    ap (λ b. if b then known (inquired word (state_of w.vars (name_in (hidden-the_row-Expr-1 es))) (dimension_in (hidden-the_row-Expr-1 es))) else (walks w (hidden-the_row-Expr-1 es) >>= called word)) h
    ∙ ap (λ x. known (inquired word (state_of w.vars x) (dimension_in (hidden-the_row-Expr-1 es)))) (name_list es)
    ∙ ap (λ k. known (inquired word (state_of w.vars (lists.name_in es)) k)) (dimension_list es)

module _ (w : World) (e : Expr) (word : CallWord) (es es' : List Expr) (is : e ≡ Call word es) (same : es' ≡ es) where
  module _ (inquires : is_inquiry word ≡ true) where
    known_is : walk w e ≡ known (lists.inquiry w word es')
    known_is = ap (walk w) is ∙ inquiry_is w word es inquires ∙ ap (λ l. known (lists.inquiry w word l)) (sym same)

    pub inquiry_fault : (n : FaultName) → lists.inquiry w word es' ≡ trouble n → walk w e ≡ trouble n
    inquiry_fault n h = known_is ∙ ap known h

    pub inquiry_value : (v z : ℤ) → z ≡ v → lists.inquiry w word es' ≡ Ok v → walk w e ≡ Ok (Scalar z)
    inquiry_value v z s h = known_is ∙ ap known h ∙ ap (λ y. Ok (Scalar y)) (sym s)

  module _ (inquires_not : is_inquiry word ≡ false) where
    call_is : walk w e ≡ (lists.walks w es' >>= called word)
    call_is = ap (walk w) is ∙ walk_call w word es inquires_not ∙ ap (λ l. lists.walks w l >>= called word) (sym same)

    pub arguments_stop : (s : Stop) → Stops s (lists.walks w es') → Stops s (walk w e)
    arguments_stop s h = subst (Stops s) (sym call_is) (stops_first s (lists.walks w es') (called word) h)

    pub call_value : (ts : List Term) (r : Result Term Stop) → lists.walks w es' ≡ Ok ts → Gives r (called word ts) → Gives r (walk w e)
    call_value ts r h g = subst (Gives r) (sym (call_is ∙ ap (λ x. x >>= called word) h)) g

-- ---- constructors

module _ (w : World) (e : Expr) (es es' : List Expr) (is : e ≡ Vector es) (same : es' ≡ es) where
  vector_is : walk w e ≡ (lists.walks w es' >>= (λ ts. Ok (Listed (map value_of ts))))
  vector_is = ap (walk w) is ∙ walk_vector w es ∙ ap (λ l. lists.walks w l >>= (λ ts. Ok (Listed (map value_of ts)))) (sym same)

  pub items_stop : (s : Stop) → Stops s (lists.walks w es') → Stops s (walk w e)
  items_stop s h = subst (Stops s) (sym vector_is) (stops_first s (lists.walks w es') (λ ts. let r : Staged Term = Ok (Listed (map value_of ts)) in r) h)

  pub vector_value : (ts ts' : List Term) (xs : List ℤ) → lists.walks w es' ≡ Ok ts → ts' ≡ ts → xs ≡ map value_of ts' → walk w e ≡ Ok (Listed xs)
  vector_value ts ts' xs h s v = vector_is ∙ ap (λ x. x >>= (λ us. Ok (Listed (map value_of us)))) h ∙ ap (λ l. Ok (Listed l)) (ap (map value_of) (sym s) ∙ sym v)

-- ---- operators

unary_walk : (w : World) (op : UnOp) (e : Expr) → walk w (Unary op e) ≡ (walk w e >>= unary_on op)
unfolding trees_open
unary_walk w op e = refl

binary_walk : (w : World) (op : BinOp) (e f : Expr) → walk w (Binary op e f) ≡ (walk w e >>= (λ t. walk w f >>= (λ u. binary_on op t u)))
unfolding trees_open
binary_walk w op e f = refl

pub unary_value : (w : World) (e f f' : Expr) (op : UnOp) (t : Term) (r : Result Term Stop) → e ≡ Unary op f → f' ≡ f → walk w f' ≡ Ok t → Gives r (unary_on op t) → Gives r (walk w e)
unary_value w e f f' op t r is same h g =
    subst (Gives r) (sym (ap (walk w) is ∙ unary_walk w op f ∙ ap (λ x. walk w x >>= unary_on op) (sym same) ∙ ap (λ x. x >>= unary_on op) h)) g

pub binary_value : (w : World) (e f g f' g' : Expr) (op : BinOp) (t u : Term) (r : Result Term Stop) → e ≡ Binary op f g → f' ≡ f → g' ≡ g → walk w f' ≡ Ok t → walk w g' ≡ Ok u → Gives r (binary_on op t u) → Gives r (walk w e)
binary_value w e f g f' g' op t u r is sf sg hf hg gives =
    let left : walk w f ≡ Ok t = ap (walk w) (sym sf) ∙ hf in
    let right : walk w g ≡ Ok u = ap (walk w) (sym sg) ∙ hg in
    subst (Gives r)
    (sym (ap (walk w) is ∙ binary_walk w op f g ∙ ap (λ x. x >>= (λ p. walk w g >>= (λ q. binary_on op p q))) left ∙ ap (λ y. y >>= (λ q. binary_on op t q)) right)) gives

-- ---- lists

pub walks-done : (w : World) (es : List Expr) (i : ℕ) (made : List Term) → length es ≤ i → lists.walks w es ≡ lists.then_rest made (lists.walks w (drop i es)) → lists.walks w es ≡ Ok made
walks-done w es i made h e = e ∙ ap (λ l. lists.then_rest made (lists.walks w l)) (drop_of_length-le es h) ∙ ap Ok (append-nil made)

-- ---- the requirements of the calls

pub part_small : (e : Expr) (x : List ℕ) (ss ss' : List Sub) → IsSmall e → e ≡ Part x ss → ss' ≡ ss → All IsSmallSub ss'
part_small e x ss ss' h is same = subst (All IsSmallSub) (sym same) (small_part x ss (subst IsSmall is h))

pub arguments_small : (e : Expr) (word : CallWord) (es es' : List Expr) → IsSmall e → e ≡ Call word es → es' ≡ es → All IsSmall es'
arguments_small e word es es' h is same = subst (All IsSmall) (sym same) (small_call word es (subst IsSmall is h))

pub items_small : (e : Expr) (es es' : List Expr) → IsSmall e → e ≡ Vector es → es' ≡ es → All IsSmall es'
items_small e es es' h is same = subst (All IsSmall) (sym same) (small_vector es (subst IsSmall is h))
