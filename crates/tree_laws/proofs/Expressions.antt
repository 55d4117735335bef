-- The expressions that are read are ones that the grammar can give.
use Rattle.std.proofs.Common.{◌≡◌, refl, ap, sym, ◌∙◌, ℕ, ◌+◌, ◌≤◌, max, nat_lt, Bool, true, false, not, ◌||◌, ◌⊎◌, inl, inr, ⊎_elim, List, [], ◌∷◌, ◌++◌, length, Option, Some, None, if◌then◌else◌, codes, bytes_eq, arith, eqb-true, leb-true, ltb-true, true≢false}
use Rattle.std.specs.Prelude.{⊤}
use Rattle.std.proofs.lemmas.Bool.{and_parts}
use Rattle.std.proofs.lemmas.Option.{none-some}
use Rattle.ws_lex.specs.declared.token.Token.{Token}
use Rattle.ws_base.specs.declared.op.CallWord.{CallWord}
use Rattle.ws_base.specs.declared.op.CallWord.TheVariants as word
use Rattle.ws_base.specs.declared.op.UnOp.{UnOp}
use Rattle.ws_base.specs.declared.op.BinOp.{BinOp}
use Rattle.ws_tree.specs.declared.expr.Expr.{Expr}
use Rattle.ws_tree.specs.declared.expr.Expr.TheVariants.{Number, TooWide, TooDeep, Truth, Named, Part, Call, Vector, Paren, Unary, Binary}
use Rattle.ws_tree.specs.declared.expr.Expr.TheBlock.{hidden-the_row-Expr-1, hidden-the_row-Sub-0}
use Rattle.ws_tree.specs.declared.expr.Sub.{Sub}
use Rattle.ws_tree.specs.declared.expr.Sub.TheVariants as sub
use Rattle.ws_tree.specs.Opened.{trees_open}
use Rattle.ws_tree.specs.Grammatical.{depth, exprs_depth, subs_depth, given_depth, IsExpr, AreExprs, AreSubs, IsGiven, HasExprs, HasSubs, IsSide, IsDesignator, Takes, IsOneName, HasDimension, count, IsName, IsDigits, is_call_word}
use Rattle.ws_tree.specs.Words.{is_other_call}
use Rattle.ws_tree.specs.declared.words.TheConstants.{CALL_WORDS}
use Rattle.std.specs.List.{list_any}
use Rattle.ws_expr.specs.declared.reading.Reading.{Reading}
use Rattle.ws_expr.specs.declared.reading.Gathered.{Gathered}
use Rattle.ws_expr.specs.declared.calls.Callee.{Callee}
use Rattle.ws_expr.specs.declared.calls.Callee.TheVariants.{Listed, LeftOut}
use Rattle.ws_expr.specs.Readings.{node, leaf, unary, binary, paren, empty, with_one, vector, part, range, tree_of, depth_of, odd_of, number_of, value_from, or_left_out, callee, call, call_word}
use Rattle.ws_tree.specs.Calls.{takes, is_name, is_digits, is_one_name, is_with_dimension}
use Rattle.ws_expr.specs.Grammar.{Reads, Primary, ReadsArguments, ReadsAll, ReadsSubs, ReadsSub, ReadsMaybe}
use Rattle.ws_expr.specs.Grammar.Reads.{primary, signed, joined}
use Rattle.ws_expr.specs.Grammar.Primary.{number, yes, no, named, subscripted, called, squared, slashed, bracketed}
use Rattle.ws_expr.specs.Grammar.ReadsArguments.{none, some}
use Rattle.ws_expr.specs.Grammar.ReadsAll.{first, next}
use Rattle.ws_expr.specs.Grammar.ReadsSubs.{first_sub, next_sub}
use Rattle.ws_expr.specs.Grammar.ReadsSub.{single, bounded, strided, doubled}
use Rattle.ws_expr.specs.Grammar.ReadsMaybe.{absent, present}
use Rattle.ws_stmt.specs.Statements.{Designates, element}
use Rattle.ws_stmt.specs.Statements.Designates.{whole, subscripted as subscripted_name}
use Rattle.tree_laws.proofs.Good.{IsGoodReading}

-- ---- what is known of the parts of a node: they are too deep, or of their depth, and right where none is left out

abbrev Known : ℕ → ℕ → Bool → Type 0 → Type 0
Known d deep odd P = (65 ≤ d) ⊎ ((deep ≡ d) × (odd ≡ false → P))

left_false : (b c : Bool) → (b || c) ≡ false → b ≡ false
left_false true c h = h
left_false false c h = refl

right_false : (b c : Bool) → (b || c) ≡ false → c ≡ false
right_false true c h = absurd (true≢false h)
right_false false c h = h

both : {P Q : Type 0} (d d' e e' : ℕ) (a b : Bool) → Known d d' a P → Known e e' b Q → Known (max d e) (max d' e') (a || b) (P × Q)
both d d' e e' a b (inl h) k = inl (omega (arith, h))
both d d' e e' a b (inr h) (inl k) = inl (omega (arith, k))
both d d' e e' a b (inr h) (inr k) = inr ((let p = h.0 in let q = k.0 in omega (arith, p, q)), λ o. (h.1 (left_false a b o), k.1 (right_false a b o)))

with_odd : {P Q : Type 0} (d d' : ℕ) (a b : Bool) → Known d d' a P → (b ≡ false → Q) → Known d d' (a || b) (P × Q)
with_odd d d' a b (inl h) q = inl h
with_odd d d' a b (inr h) q = inr (h.0, λ o. (h.1 (left_false a b o), q (right_false a b o)))

changed : {P Q : Type 0} (d d' e : ℕ) (a : Bool) → e ≡ d' → (P → Q) → Known d d' a P → Known d e a Q
changed d d' e a is f (inl h) = inl h
changed d d' e a is f (inr h) = inr (is ∙ h.0, λ o. f (h.1 o))

known : (e : Reading Expr) → IsGoodReading e → Known e.depth (depth e.tree) e.odd (IsExpr e.tree)
known e (inl h) = inl (let p = h.0 in omega (arith, p))
known e (inr h) = inr (h.1, h.2)

good_node : {P : Type 0} (d d' : ℕ) (odd : Bool) (tree : Expr) → depth tree ≡ 1 + d' → (P → IsExpr tree) → Known d d' odd P → IsGoodReading (node d odd tree)
good_node {P = P} d d' odd tree is f k = at (nat_lt d 64) refl k
  where
    at : (b : Bool) → nat_lt d 64 ≡ b → Known d d' odd P → IsGoodReading (if b then record { tree = tree; depth = d + 1; odd = odd } else record { tree = TooDeep; depth = 65; odd = false })
    at true l (inl h) = absurd (let p = ltb-true d 64 l in omega (arith, p, h))
    at true l (inr h) = inr ((let p = ltb-true d 64 l in omega (arith, p)), (let q = h.0 in omega (arith, is, q)), λ o. f (h.1 o))
    at false l k = inl (refl, refl, refl)

good_leaf : (tree : Expr) → depth tree ≡ 1 → IsExpr tree → IsGoodReading (leaf tree)
good_leaf tree is h = inr (omega arith, is, λ o. h)

-- ---- lists of parts

abbrev sub_deep : Sub → ℕ
sub_deep (sub.One e) = depth e
sub_deep (sub.Range' l u s) = max (max (given_depth l) (given_depth u)) (given_depth s)

abbrev IsSub : Sub → Type 0
IsSub (sub.One e) = IsExpr e
IsSub (sub.Range' l u s) = IsGiven l × IsGiven u × IsGiven s

module _ {T : Type 0} where
  abbrev deepest : (T → ℕ) → List T → ℕ
  deepest deep [] = 0
  deepest deep (x ∷ xs) = max (deep x) (deepest deep xs)

  abbrev Each : (T → Type 0) → List T → Type 0
  Each P [] = ⊤
  Each P (x ∷ xs) = P x × Each P xs

  deepest-end : (deep : T → ℕ) (xs : List T) (x : T) → deepest deep (xs ++ x ∷ []) ≡ max (deepest deep xs) (deep x)
  deepest-end deep [] x = omega arith
  deepest-end deep (y ∷ ys) x = let h = deepest-end deep ys x in omega (arith, h)

  each-end : (P : T → Type 0) (xs : List T) (x : T) → Each P xs × P x → Each P (xs ++ x ∷ [])
  each-end P [] x h = (h.1, tt)
  each-end P (y ∷ ys) x h = (h.0.0, each-end P ys x (h.0.1, h.1))

  abbrev Some' : List T → Type 0
  Some' [] = ⊥
  Some' (x ∷ xs) = ⊤

  some_end : (xs : List T) (x : T) → Some' (xs ++ x ∷ [])
  some_end [] x = tt
  some_end (y ∷ ys) x = tt

abbrev exprs_deep : List Expr → ℕ
exprs_deep = deepest depth

abbrev EachExpr : List Expr → Type 0
EachExpr = Each IsExpr

abbrev subs_deep : List Sub → ℕ
subs_deep = deepest sub_deep

abbrev EachSub : List Sub → Type 0
EachSub = Each IsSub

-- ---- the same of rows

exprs_depth_row : (es : List Expr) → exprs_depth (hidden-the_row-Expr-1 es) ≡ exprs_deep es
unfolding trees_open
exprs_depth_row [] = refl
exprs_depth_row (e ∷ es) = ap (λ (n : ℕ). max (depth e) n) (exprs_depth_row es)

count_row : (es : List Expr) → count (hidden-the_row-Expr-1 es) ≡ length es
unfolding trees_open
count_row [] = refl
count_row (e ∷ es) = let h = count_row es in omega (arith, h)

exprs_row : (es : List Expr) → EachExpr es → AreExprs (hidden-the_row-Expr-1 es)
unfolding trees_open
exprs_row [] h = tt
exprs_row (e ∷ es) h = (h.0, exprs_row es h.1)

has_exprs_row : (es : List Expr) → Some' es → HasExprs (hidden-the_row-Expr-1 es)
unfolding trees_open
has_exprs_row [] h = absurd h
has_exprs_row (e ∷ es) h = tt

subs_depth_row : (ss : List Sub) → subs_depth (hidden-the_row-Sub-0 ss) ≡ subs_deep ss
unfolding trees_open
subs_depth_row [] = refl
subs_depth_row (sub.One e ∷ ss) = ap (λ (n : ℕ). max (depth e) n) (subs_depth_row ss)
subs_depth_row (sub.Range' l u s ∷ ss) = ap (λ (n : ℕ). max (max (max (given_depth l) (given_depth u)) (given_depth s)) n) (subs_depth_row ss)

subs_row : (ss : List Sub) → EachSub ss → AreSubs (hidden-the_row-Sub-0 ss)
unfolding trees_open
subs_row [] h = tt
subs_row (sub.One e ∷ ss) h = (h.0, subs_row ss h.1)
subs_row (sub.Range' l u s ∷ ss) h = (h.0.0, h.0.1, h.0.2, subs_row ss h.1)

has_subs_row : (ss : List Sub) → Some' ss → HasSubs (hidden-the_row-Sub-0 ss)
unfolding trees_open
has_subs_row [] h = absurd h
has_subs_row (s ∷ ss) h = tt

-- ---- what calls take

name_by : (e : Expr) → is_name e ≡ true → IsName e
name_by (Named x) h = tt
name_by _ h = absurd (true≢false (sym h))

digits_by : (e : Expr) → is_digits e ≡ true → IsDigits e
digits_by (Number n) h = tt
digits_by TooWide h = tt
digits_by _ h = absurd (true≢false (sym h))

either_true : (b c : Bool) → (b || c) ≡ true → (b ≡ true) ⊎ (c ≡ true)
either_true true c h = inl refl
either_true false c h = inr h

not_false : (b : Bool) → not b ≡ false → b ≡ true
not_false true h = refl
not_false false h = absurd (true≢false h)

one_name_row : (es : List Expr) → is_one_name es ≡ true → IsOneName (hidden-the_row-Expr-1 es)
unfolding trees_open
one_name_row [] h = absurd (true≢false (sym h))
one_name_row (x ∷ []) h = name_by x h
one_name_row (x ∷ y ∷ es) h = absurd (true≢false (sym h))

dimension_row : (es : List Expr) → is_with_dimension es ≡ true → HasDimension (hidden-the_row-Expr-1 es)
unfolding trees_open
dimension_row [] h = absurd (true≢false (sym h))
dimension_row (x ∷ []) h = absurd (true≢false (sym h))
dimension_row (x ∷ d ∷ []) h = let k = and_parts (is_name x) (is_digits d) h in (name_by x k.0, digits_by d k.1)
dimension_row (x ∷ y ∷ z ∷ es) h = absurd (true≢false (sym h))

takes_row : (w : CallWord) (es : List Expr) → takes w es ≡ true → Takes w (hidden-the_row-Expr-1 es)
unfolding takes
takes_row word.Abs es h = count_row es ∙ eqb-true (length es) 1 h
takes_row word.Mod es h = count_row es ∙ eqb-true (length es) 2 h
takes_row word.Modulo es h = count_row es ∙ eqb-true (length es) 2 h
takes_row word.Min es h = let c = count_row es in let l = leb-true 2 (length es) h in omega (arith, c, l)
takes_row word.Max es h = let c = count_row es in let l = leb-true 2 (length es) h in omega (arith, c, l)
takes_row word.Merge es h = count_row es ∙ eqb-true (length es) 3 h
takes_row word.Sum es h = count_row es ∙ eqb-true (length es) 1 h
takes_row word.Product es h = count_row es ∙ eqb-true (length es) 1 h
takes_row word.Minval es h = count_row es ∙ eqb-true (length es) 1 h
takes_row word.Maxval es h = count_row es ∙ eqb-true (length es) 1 h
takes_row word.Count es h = count_row es ∙ eqb-true (length es) 1 h
takes_row word.Any es h = count_row es ∙ eqb-true (length es) 1 h
takes_row word.All es h = count_row es ∙ eqb-true (length es) 1 h
takes_row word.Size es h = ⊎_elim (λ a. inl (one_name_row es a)) (λ b. inr (dimension_row es b)) (either_true (is_one_name es) (is_with_dimension es) h)
takes_row word.Lbound es h = dimension_row es h
takes_row word.Ubound es h = dimension_row es h
takes_row word.Allocated es h = one_name_row es h

-- ---- the words of calls

step : (b : Bool) (w : CallWord) (r : Option CallWord) (rest : Bool) → (r ≡ None → rest ≡ false) → (if b then Some w else r) ≡ None → (b || rest) ≡ false
step true w r rest f h = absurd (none-some w (sym h))
step false w r rest f h = f h

no_word : (x : List ℕ) → call_word x ≡ None → list_any (λ entry. bytes_eq x entry.now) CALL_WORDS ≡ false
no_word x = step (bytes_eq x (codes "abs")) word.Abs _ _ (
    step (bytes_eq x (codes "mod")) word.Mod _ _ (
    step (bytes_eq x (codes "modulo")) word.Modulo _ _ (
    step (bytes_eq x (codes "min")) word.Min _ _ (
    step (bytes_eq x (codes "max")) word.Max _ _ (
    step (bytes_eq x (codes "merge")) word.Merge _ _ (
    step (bytes_eq x (codes "sum")) word.Sum _ _ (
    step (bytes_eq x (codes "product")) word.Product _ _ (
    step (bytes_eq x (codes "minval")) word.Minval _ _ (
    step (bytes_eq x (codes "maxval")) word.Maxval _ _ (
    step (bytes_eq x (codes "count")) word.Count _ _ (
    step (bytes_eq x (codes "any")) word.Any _ _ (
    step (bytes_eq x (codes "all")) word.All _ _ (
    step (bytes_eq x (codes "size")) word.Size _ _ (
    step (bytes_eq x (codes "lbound")) word.Lbound _ _ (
    step (bytes_eq x (codes "ubound")) word.Ubound _ _ (
    step (bytes_eq x (codes "allocated")) word.Allocated _ _ (λ h. refl)))))))))))))))))

left_none : (o : Option CallWord) (b : Bool) → or_left_out o b ≡ None → (o ≡ None) × (b ≡ false)
left_none (Some w) b h = absurd (none-some (Listed w) (sym h))
left_none None true h = absurd (none-some LeftOut (sym h))
left_none None false h = (refl, refl)

neither : (b c : Bool) → b ≡ false → c ≡ false → (b || c) ≡ false
neither true c h k = h
neither false c h k = k

not_call_word : (x : List ℕ) → callee x ≡ None → is_call_word x ≡ false
not_call_word x h = let k = left_none (call_word x) (is_other_call x) h in neither (list_any (λ entry. bytes_eq x entry.now) CALL_WORDS) (is_other_call x) (no_word x k.0) k.1

-- ---- each form

good_part : (x : List ℕ) (ss : Gathered Sub) → callee x ≡ None → Some' ss.trees → Known ss.depth (subs_deep ss.trees) ss.odd (EachSub ss.trees) → IsGoodReading (part x ss)
unfolding trees_open
good_part x ss h s k =
    good_node ss.depth (subs_deep ss.trees) ss.odd (Part x ss.trees) (ap (λ (n : ℕ). 1 + n) (subs_depth_row ss.trees)) (λ a. (not_call_word x h, has_subs_row ss.trees s, subs_row ss.trees a)) k

good_vector : (es : Gathered Expr) → Some' es.trees → Known es.depth (exprs_deep es.trees) es.odd (EachExpr es.trees) → IsGoodReading (vector es)
unfolding trees_open
good_vector es s k =
    good_node es.depth (exprs_deep es.trees) es.odd (Vector es.trees) (ap (λ (n : ℕ). 1 + n) (exprs_depth_row es.trees)) (λ a. (has_exprs_row es.trees s, exprs_row es.trees a)) k

left_out : {P : Type 0} (d d' : ℕ) (a : Bool) → Known d d' a P → Known d d' true ⊥
left_out d d' a (inl h) = inl h
left_out d d' a (inr h) = inr (h.0, λ o. absurd (true≢false o))

good_call : (w : Callee) (es : Gathered Expr) → Known es.depth (exprs_deep es.trees) es.odd (EachExpr es.trees) → IsGoodReading (call w es)
unfolding trees_open
good_call (Listed w) es k =
    good_node {P = EachExpr es.trees × (takes w es.trees ≡ true)} es.depth (exprs_deep es.trees) (es.odd || not (takes w es.trees)) (Call w es.trees) (ap (λ (n : ℕ). 1 + n) (exprs_depth_row es.trees))
    (λ a. (takes_row w es.trees a.1, exprs_row es.trees a.0))
    (with_odd es.depth (exprs_deep es.trees) es.odd (not (takes w es.trees)) k (not_false (takes w es.trees)))
good_call LeftOut es k =
    good_node {P = ⊥} es.depth (exprs_deep es.trees) true (Vector es.trees) (ap (λ (n : ℕ). 1 + n) (exprs_depth_row es.trees)) (λ a. absurd a) (left_out es.depth (exprs_deep es.trees) es.odd k)

good_number : (d : List ℕ) → IsGoodReading (number_of d)
good_number d = at (nat_lt (value_from 0 d) 2147483648) refl
  where
    at : (b : Bool) → nat_lt (value_from 0 d) 2147483648 ≡ b → IsGoodReading (leaf (if b then Number (value_from 0 d) else TooWide))
    at true l = good_leaf (Number (value_from 0 d)) refl (ltb-true (value_from 0 d) 2147483648 l)
    at false l = good_leaf TooWide refl tt

good_unary : (op : UnOp) (a : Reading Expr) → IsGoodReading a → IsGoodReading (unary op a)
unfolding trees_open
good_unary op a h = good_node a.depth (depth a.tree) a.odd (Unary op a.tree) refl (λ b. b) (known a h)

good_binary : (op : BinOp) (a b : Reading Expr) → IsGoodReading a → IsGoodReading b → IsGoodReading (binary op a b)
unfolding trees_open
good_binary op a b h k =
    good_node (max a.depth b.depth) (max (depth a.tree) (depth b.tree)) (a.odd || b.odd) (Binary op a.tree b.tree) refl (λ c. c)
    (both a.depth (depth a.tree) b.depth (depth b.tree) a.odd b.odd (known a h) (known b k))

good_paren : (a : Reading Expr) → IsGoodReading a → IsGoodReading (paren a)
unfolding trees_open
good_paren a h = good_node a.depth (depth a.tree) a.odd (Paren a.tree) refl (λ b. b) (known a h)

-- ---- lists and triplets

abbrev KnownExprs : Gathered Expr → Type 0
KnownExprs es = Some' es.trees × Known es.depth (exprs_deep es.trees) es.odd (EachExpr es.trees)

abbrev KnownSub : Reading Sub → Type 0
KnownSub s = Known s.depth (sub_deep s.tree) s.odd (IsSub s.tree)

abbrev KnownSubs : Gathered Sub → Type 0
KnownSubs ss = Some' ss.trees × Known ss.depth (subs_deep ss.trees) ss.odd (EachSub ss.trees)

one_more_expr : (es : Gathered Expr) (e : Reading Expr) → Known es.depth (exprs_deep es.trees) es.odd (EachExpr es.trees) → IsGoodReading e → KnownExprs (with_one es e)
one_more_expr es e k h = (
  some_end es.trees e.tree,
  changed (max es.depth e.depth) (max (exprs_deep es.trees) (depth e.tree)) (exprs_deep (es.trees ++ e.tree ∷ [])) (es.odd || e.odd) (deepest-end depth es.trees e.tree) (each-end IsExpr es.trees e.tree)
      (both es.depth (exprs_deep es.trees) e.depth (depth e.tree) es.odd e.odd k (known e h)),
)

one_more_sub : (ss : Gathered Sub) (s : Reading Sub) → Known ss.depth (subs_deep ss.trees) ss.odd (EachSub ss.trees) → KnownSub s → KnownSubs (with_one ss s)
one_more_sub ss s k h = (
  some_end ss.trees s.tree,
  changed (max ss.depth s.depth) (max (subs_deep ss.trees) (sub_deep s.tree)) (subs_deep (ss.trees ++ s.tree ∷ [])) (ss.odd || s.odd) (deepest-end sub_deep ss.trees s.tree) (each-end IsSub ss.trees s.tree)
      (both ss.depth (subs_deep ss.trees) s.depth (sub_deep s.tree) ss.odd s.odd k h),
)

abbrev maybe_deep : Option Expr → ℕ
maybe_deep None = 0
maybe_deep (Some e) = depth e

abbrev IsMaybe : Option Expr → Type 0
IsMaybe None = ⊤
IsMaybe (Some e) = IsExpr e

abbrev KnownMaybe : Option (Reading Expr) → Type 0
KnownMaybe o = Known (depth_of o) (maybe_deep (tree_of o)) (odd_of o) (IsMaybe (tree_of o))

known_none : KnownMaybe None
known_none = inr (refl, λ o. tt)

known_some : (e : Reading Expr) → IsGoodReading e → KnownMaybe (Some e)
known_some e h = known e h

range_deep : (l u s : Option Expr) → sub_deep (sub.Range l u s) ≡ max (max (maybe_deep l) (maybe_deep u)) (maybe_deep s)
unfolding trees_open
range_deep None None None = refl
range_deep None None (Some s) = refl
range_deep None (Some u) None = refl
range_deep None (Some u) (Some s) = refl
range_deep (Some l) None None = refl
range_deep (Some l) None (Some s) = refl
range_deep (Some l) (Some u) None = refl
range_deep (Some l) (Some u) (Some s) = refl

range_is : (l u s : Option Expr) → (IsMaybe l × IsMaybe u) × IsMaybe s → IsSub (sub.Range l u s)
unfolding trees_open
range_is None None None h = (tt, tt, tt)
range_is None None (Some s) h = (tt, tt, h.1)
range_is None (Some u) None h = (tt, h.0.1, tt)
range_is None (Some u) (Some s) h = (tt, h.0.1, h.1)
range_is (Some l) None None h = (h.0.0, tt, tt)
range_is (Some l) None (Some s) h = (h.0.0, tt, h.1)
range_is (Some l) (Some u) None h = (h.0.0, h.0.1, tt)
range_is (Some l) (Some u) (Some s) h = (h.0.0, h.0.1, h.1)

good_range : (l u s : Option (Reading Expr)) → KnownMaybe l → KnownMaybe u → KnownMaybe s → KnownSub (range l u s)
good_range l u s a b c =
    changed (max (max (depth_of l) (depth_of u)) (depth_of s)) (max (max (maybe_deep (tree_of l)) (maybe_deep (tree_of u))) (maybe_deep (tree_of s))) (sub_deep (range l u s).tree) ((odd_of l || odd_of u) || odd_of s)
    (range_deep (tree_of l) (tree_of u) (tree_of s)) (range_is (tree_of l) (tree_of u) (tree_of s))
    (both (max (depth_of l) (depth_of u)) (max (maybe_deep (tree_of l)) (maybe_deep (tree_of u))) (depth_of s) (maybe_deep (tree_of s)) (odd_of l || odd_of u) (odd_of s)
    (both (depth_of l) (maybe_deep (tree_of l)) (depth_of u) (maybe_deep (tree_of u)) (odd_of l) (odd_of u) a b) c)

-- ---- what is read

mutual
  reads : {r : ℕ} {ts rest : List Token} {e : Reading Expr} → Reads r ts e rest → IsGoodReading e
  reads (primary p) = primaries p
  reads (signed {op = op} {a = a} _ _ d) = good_unary op a (reads d)
  reads (joined {op = op} {a = a} {b = b} _ _ d f) = good_binary op a b (reads d) (reads f)

  primaries : {ts rest : List Token} {e : Reading Expr} → Primary ts e rest → IsGoodReading e
  primaries (number {d = d} _) = good_number d
  primaries (yes _) = good_leaf (Truth true) refl tt
  primaries (no _) = good_leaf (Truth false) refl tt
  primaries (named {x = x} _) = good_leaf (Named x) refl tt
  primaries (subscripted {x = x} {subs = ss} _ c _ d _) = let k = subscripts d in good_part x ss c k.0 k.1
  primaries (called {w = w} {es = es} _ _ _ d _) = good_call w es (arguments d)
  primaries (squared {es = es} _ d _) = let k = all_read d in good_vector es k.0 k.1
  primaries (slashed {es = es} _ d _) = let k = all_read d in good_vector es k.0 k.1
  primaries (bracketed {e = e} _ d _) = good_paren e (reads d)

  arguments : {ts rest : List Token} {es : Gathered Expr} → ReadsArguments ts es rest → Known es.depth (exprs_deep es.trees) es.odd (EachExpr es.trees)
  arguments none = inr (refl, λ o. tt)
  arguments (some d) = (all_read d).1

  all_read : {ts rest : List Token} {es : Gathered Expr} → ReadsAll ts es rest → KnownExprs es
  all_read (first {e = e} d) = one_more_expr empty e (inr (refl, λ o. tt)) (reads d)
  all_read (next {es = es} {e = e} d _ f) = one_more_expr es e (all_read d).1 (reads f)

  subscripts : {ts rest : List Token} {ss : Gathered Sub} → ReadsSubs ts ss rest → KnownSubs ss
  subscripts (first_sub {s = s} d) = one_more_sub empty s (inr (refl, λ o. tt)) (subscript d)
  subscripts (next_sub {ss = ss} {s = s} d _ f) = one_more_sub ss s (subscripts d).1 (subscript f)

  subscript : {ts rest : List Token} {s : Reading Sub} → ReadsSub ts s rest → KnownSub s
  subscript (single {e = e} d) = known e (reads d)
  subscript (bounded {l = l} {u = u} d _ f) = good_range l u None (maybe d) (maybe f) known_none
  subscript (strided {l = l} {u = u} {s = s} d _ f _ g) = good_range l u (Some s) (maybe d) (maybe f) (known_some s (reads g))
  subscript (doubled {l = l} {s = s} d _ g) = good_range l None (Some s) (maybe d) known_none (known_some s (reads g))

  maybe : {ts rest : List Token} {o : Option (Reading Expr)} → ReadsMaybe ts o rest → KnownMaybe o
  maybe absent = known_none
  maybe (present {e = e} d) = known_some e (reads d)

pub good_reading : (r : ℕ) (ts : List Token) (e : Reading Expr) (rest : List Token) → Reads r ts e rest → IsGoodReading e
good_reading r ts e rest d = reads d

-- ---- as it stands in a statement

side_by : (e : Reading Expr) → IsGoodReading e → e.odd ≡ false → IsSide e.tree
side_by e (inl h) o = inl h.1
side_by e (inr h) o = inr (h.2 o, let d = h.1 in let l = h.0 in omega (arith, d, l))

pub side : (ts : List Token) (e : Reading Expr) (rest : List Token) → Reads 8 ts e rest → e.odd ≡ false → IsSide e.tree
side ts e rest d o = side_by e (reads d) o

designated : (x : List ℕ) (ss : Gathered Sub) → KnownSubs ss → (element x ss).odd ≡ false → IsDesignator (element x ss).tree
unfolding trees_open
designated x ss k o = at (nat_lt ss.depth 64) refl k.1 o
  where
    at : (b : Bool) → nat_lt ss.depth 64 ≡ b → Known ss.depth (subs_deep ss.trees) ss.odd (EachSub ss.trees) →
        (let e : Reading Expr = if b then record { tree = Part x ss.trees; depth = ss.depth + 1; odd = ss.odd || is_other_call x } else record { tree = TooDeep; depth = 65; odd = false } in (e.odd ≡ false → IsDesignator e.tree))
    at true l (inl h) o = absurd (let p = ltb-true ss.depth 64 l in omega (arith, p, h))
    at true l (inr h) o = (
      right_false ss.odd (is_other_call x) o,
      has_subs_row ss.trees k.0,
      subs_row ss.trees (h.1 (left_false ss.odd (is_other_call x) o)),
      let p = ltb-true ss.depth 64 l in let q = h.0 in let r = subs_depth_row ss.trees in omega (arith, p, q, r),
    )
    at false l h o = tt

pub designator : (ts : List Token) (e : Reading Expr) (rest : List Token) → Designates ts e rest → e.odd ≡ false → IsDesignator e.tree
designator ts e rest d o = by d o
  where
    by : {ts rest : List Token} {e : Reading Expr} → Designates ts e rest → e.odd ≡ false → IsDesignator e.tree
    by (whole _) o = tt
    by (subscripted_name {x = x} {subs = ss} _ _ d _) o = designated x ss (subscripts d) o
