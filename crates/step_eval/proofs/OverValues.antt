-- Over combinations there are as many values as combinations, and each is a default integer.
use Rattle.std.proofs.Common.{◌≡◌, refl, sym, ap, ◌∙◌, subst, ℕ, suc, ◌+◌, ◌<◌, Bool, true, false, List, [], ◌∷◌, map, length, All, Option, Some, None, IfSome, Result, Ok, Err, IfOk, ℤ, pos, bytes_eq, arith}
use Rattle.std.specs.Prelude.{if◌then◌else◌}
use Rattle.std.proofs.lemmas.Bool.{lt-ltb}
use Rattle.std.proofs.lemmas.List.{length-map}
use Rattle.std.proofs.lemmas.List.Elements.{All-nil, All-cons, All-head, All-tail, All-map}
use Rattle.ws_base.specs.declared.fault.FaultName.{FaultName}
use Rattle.ws_base.specs.declared.op.CallWord.{CallWord}
use Rattle.ws_base.specs.Numbers.{Exact, truth, default_half, unary_value, call_value}
use Rattle.ws_base.specs.Outcomes.{Staged, ◌>>=◌, joined, each, rows}
use Rattle.ws_space.specs.declared.shape.Triplet.{Triplet}
use Rattle.ws_space.specs.declared.state.VarState.{VarState}
use Rattle.ws_space.specs.declared.state.VarState.TheVariants as state
use Rattle.ws_space.specs.Combinations.{indexes_at}
use Rattle.ws_space.specs.Values.{Name, state_of}
use Rattle.ws_space.specs.Maps.{pair_value, call_map}
use Rattle.ws_tree.specs.declared.expr.Expr.{Expr}
use Rattle.ws_tree.specs.declared.expr.Expr.TheVariants.{Number, TooWide, TooDeep, Truth, Named, Part', Call', Vector'}
use Rattle.ws_tree.specs.declared.expr.Expr.TheBlock.{hidden-the_row-Expr-1, hidden-the_row-Sub-0}
use Rattle.ws_tree.specs.declared.expr.Sub.{Sub}
use Rattle.ws_tree.specs.declared.expr.Sub.TheVariants as sub
use Rattle.ws_tree.specs.Trees.{Exprs, end_exprs, more_exprs, Subs, end_subs, more_subs, paren, unary, binary}
use Rattle.ws_tree.specs.declared.stmt.Index.{Index}
use Rattle.ws_types.specs.Operations.{is_inquiry}
use Rattle.array_meaning.specs.declared.world.World.{World}
use Rattle.array_meaning.specs.declared.world.Constant.{Constant}
use Rattle.array_meaning.specs.Stage1.{constant_of, inquired, name_in, dimension_in}
use Rattle.array_meaning.specs.Forall as forall
use Rattle.array_meaning.specs.Forall.{Combination, by_name, combination, name_value, element_of, without_element, inquiries, over}
use Rattle.array_meaning.proofs.Chains.{after_each, after_fact}
use Rattle.term_eval.specs.Limits.{IsInteger, IsSmall, AreSmall, AreSmallSubs, IsSmallState, IsWorld}
use Rattle.term_eval.proofs.Columns.{rows-length, two}
use Rattle.term_eval.proofs.Integers.{truth-integer, unary-integer, pair-integer, call-integer}
use Rattle.term_eval.proofs.SmallTerms.{element-integer, map-all, each-all, each-any, rows-all}
use Rattle.term_eval.proofs.SmallWalk.{constant_of-integer, inquired-integer}
use Rattle.step_eval.specs.Combinations.{combinations_at, over_all, over_subs, AreCombinations}
use Rattle.step_eval.proofs.AxisValues.{indexes_integers}
use Rattle.step_eval.proofs.KeptLimits.{state_held}
use Rattle.step_eval.proofs.OverForms.{exprs_list, subs_list}

-- ---- lengths

joined_length : {B : Type 0} (n : ℕ) (r : Result B FaultName) (rest : Staged (List B)) → IfOk rest (λ ys. length ys ≡ n) → IfOk (joined r rest) (λ ys. length ys ≡ suc n)
joined_length n (Err name) rest h = tt
joined_length n (Ok y) (Ok ys) h = ap suc h
joined_length n (Ok y) (Err t) h = tt

each_length : {A B : Type 0} (f : A → Result B FaultName) (n : ℕ) (xs : List A) → length xs ≡ n → IfOk (each f xs) (λ ys. length ys ≡ n)
each_length f n xs h = subst (λ m. IfOk (each f xs) (λ ys. length ys ≡ m)) h (of_all xs) where
  of_all : (l : List _) → IfOk (each f l) (λ ys. length ys ≡ length l)
  of_all [] = refl
  of_all (x ∷ l) = joined_length (length l) (f x) (each f l) (of_all l)

abbrev Columns : ℕ → List (List ℤ) → Type 0
Columns n cols = All (λ c. length c ≡ n) cols

column_more : (n : ℕ) (r : Staged (List ℤ)) (rest : Staged (List (List ℤ))) → IfOk r (λ xs. length xs ≡ n) → IfOk rest (Columns n) → IfOk (r >>= (λ xs. rest >>= (λ cols. Ok (xs ∷ cols)))) (Columns n)
column_more n (Ok xs) (Ok cols) h k = All-cons (λ c. length c ≡ n) xs cols h k
column_more n (Ok xs) (Err t) h k = tt
column_more n (Err t) rest h k = tt

call_length : (b : Bool) (n : ℕ) (r s : Staged (List ℤ)) → IfOk r (λ xs. length xs ≡ n) → IfOk s (λ xs. length xs ≡ n) → IfOk (if b then r else s) (λ xs. length xs ≡ n)
call_length true n r s h k = h
call_length false n r s h k = k

mutual
  over_length : (w : World) (e : Expr) (cs : List Combination) → IfOk (over w e cs) (λ xs. length xs ≡ length cs)
  over_length w (Number n) cs = length-map cs (λ _. pos n)
  over_length w TooWide cs = length-map cs (λ _. pos 0)
  over_length w TooDeep cs = length-map cs (λ _. pos 0)
  over_length w (Truth b) cs = length-map cs (λ _. truth b)
  over_length w (Named x) cs = length-map cs (name_value w x)
  over_length w (Part' x _ ss) cs = after_fact (Columns (length cs)) _ (forall.over_subs w ss cs) _ (subs_length w ss cs) (λ cols are. each_length (element_of (state_of w.vars x)) (length cs) (rows cs cols) (rows-length cs cols are))
  over_length w (Call' word _ es) cs =
      let answer : Exact = without_element (inquired word (state_of w.vars (name_in es)) (dimension_in es)) in
      call_length (is_inquiry word) (length cs) (inquiries w answer cs) (forall.over_all w es cs >>= call_map word cs) (each_length (λ _. answer) (length cs) cs refl)
      (after_fact (Columns (length cs)) _ (forall.over_all w es cs) _ (all_length w es cs) (λ cols are. each_length (call_value default_half word) (length cs) (rows cs cols) (rows-length cs cols are)))
  over_length w (Vector' _ es) cs = length-map cs (λ _. pos 0)
  over_length w (paren e) cs = over_length w e cs
  over_length w (unary op e) cs = after_fact (λ xs. length xs ≡ length cs) _ (over w e cs) _ (over_length w e cs) (λ xs n. each_length (unary_value default_half op) (length cs) xs n)
  over_length w (binary op e f) cs =
      after_fact (λ xs. length xs ≡ length cs) _ (over w e cs) _ (over_length w e cs) (λ xs n. after_fact (λ ys. length ys ≡ length cs) _ (over w f cs) _ (over_length w f cs) (λ ys m.
      each_length (pair_value op) (length cs) (rows cs (xs ∷ ys ∷ [])) (rows-length cs (xs ∷ ys ∷ []) (two (length cs) xs ys n m))))

  all_length : {m : _} (w : World) (es : Exprs m) (cs : List Combination) → IfOk (forall.over_all w es cs) (Columns (length cs))
  all_length w end_exprs cs = All-nil (λ c. length c ≡ length cs)
  all_length w (more_exprs e es) cs = column_more (length cs) (over w e cs) (forall.over_all w es cs) (over_length w e cs) (all_length w es cs)

  subs_length : {m : _} (w : World) (ss : Subs m) (cs : List Combination) → IfOk (forall.over_subs w ss cs) (Columns (length cs))
  subs_length w end_subs cs = All-nil (λ c. length c ≡ length cs)
  subs_length w (more_subs (sub.One e) ss) cs = column_more (length cs) (over w e cs) (forall.over_subs w ss cs) (over_length w e cs) (subs_length w ss cs)
  subs_length w (more_subs (sub.Range' l u s) ss) cs = subs_length w ss cs

-- ---- default integers

-- each index is one
abbrev AreIntegers : Combination → Type 0
AreIntegers c = All (λ k. IsInteger k.value) c

given_integer : (w : World) (x : Name) (c : Combination) (a b : Option ℤ) (s : VarState) → constant_of c x ≡ a → constant_of w.constants x ≡ b → state_of w.vars x ≡ s → IfSome a IsInteger → IfSome b IsInteger → IsSmallState s → IsInteger (name_value w x c)
given_integer w x c (Some v) b s e f g h k l = rw e h
given_integer w x c None (Some v) s e f g h k l = rw (e, f) k
given_integer w x c None None (state.Scalar v) e f g h k l = rw (e, f, g) l
given_integer w x c None None (state.Array a) e f g h k l = rw (e, f, g) refl
given_integer w x c None None (state.Unallocated r) e f g h k l = rw (e, f, g) refl

name_integer : (w : World) → IsWorld w → (x : Name) (c : Combination) → AreIntegers c → IsInteger (name_value w x c)
name_integer w is x c h =
    given_integer w x c (constant_of c x) (constant_of w.constants x) (state_of w.vars x) refl refl refl (constant_of-integer c x h) (constant_of-integer w.constants x is.constants) (state_held w.vars x is.vars)

names_integers : (w : World) → IsWorld w → (x : Name) (cs : List Combination) → All AreIntegers cs → All IsInteger (map (name_value w x) cs)
names_integers w is x [] h = All-nil IsInteger
names_integers w is x (c ∷ cs) h =
    All-cons IsInteger (name_value w x c) (map (name_value w x) cs) (name_integer w is x c (All-head AreIntegers c cs h)) (names_integers w is x cs (All-tail AreIntegers c cs h))

element_integer : (s : VarState) → IsSmallState s → (is : List ℤ) → IfOk (element_of s is) IsInteger
element_integer (state.Scalar v) h is = tt
element_integer (state.Array a) h is = element-integer a is h.values
element_integer (state.Unallocated r) h is = tt

without_integer : (r : Staged ℤ) → IfOk r IsInteger → IfOk (without_element r) IsInteger
without_integer (Ok v) h = h
without_integer (Err t) h = tt

call_integer : (b : Bool) (r s : Staged (List ℤ)) → IfOk r (All IsInteger) → IfOk s (All IsInteger) → IfOk (if b then r else s) (All IsInteger)
call_integer true r s h k = h
call_integer false r s h k = k

mutual
  over_integers : (w : World) → IsWorld w → (e : Expr) → IsSmall e → (cs : List Combination) → All AreIntegers cs → IfOk (over w e cs) (All IsInteger)
  over_integers w is (Number n) h cs all = map-all IsInteger (λ _. pos n) (λ _. lt-ltb n default_half h) cs
  over_integers w is TooWide h cs all = map-all IsInteger (λ _. pos 0) (λ _. refl) cs
  over_integers w is TooDeep h cs all = map-all IsInteger (λ _. pos 0) (λ _. refl) cs
  over_integers w is (Truth b) h cs all = map-all IsInteger (λ _. truth b) (λ _. truth-integer b) cs
  over_integers w is (Named x) h cs all = names_integers w is x cs all
  over_integers w is (Part' x _ ss) h cs all =
      after_each _ (forall.over_subs w ss cs) _ (λ cols. each-any IsInteger (element_of (state_of w.vars x)) (element_integer (state_of w.vars x) (state_held w.vars x is.vars)) (rows cs cols))
  over_integers w is (Call' word _ es) h cs all =
      let answer : Staged ℤ = inquired word (state_of w.vars (name_in es)) (dimension_in es) in
      call_integer (is_inquiry word) (inquiries w (without_element answer) cs) (forall.over_all w es cs >>= call_map word cs)
      (each-any IsInteger (λ _. without_element answer) (λ _. without_integer answer (inquired-integer word (state_of w.vars (name_in es)) (dimension_in es))) cs)
      (after_fact (All (All IsInteger)) _ (forall.over_all w es cs) _ (all_integers w is es h cs all) (λ cols are. each-all (All IsInteger) IsInteger (call_value default_half word) (call-integer word) (rows cs cols) (rows-all cs cols are)))
  over_integers w is (Vector' _ es) h cs all = map-all IsInteger (λ _. pos 0) (λ _. refl) cs
  over_integers w is (paren e) h cs all = over_integers w is e h cs all
  over_integers w is (unary op e) h cs all = after_fact (All IsInteger) _ (over w e cs) _ (over_integers w is e h cs all) (λ xs are. each-all IsInteger IsInteger (unary_value default_half op) (unary-integer op) xs are)
  over_integers w is (binary op e f) h cs all =
      after_each _ (over w e cs) _ (λ xs. after_each _ (over w f cs) _ (λ ys. each-any IsInteger (pair_value op) (pair-integer op) (rows cs (xs ∷ ys ∷ []))))

  all_integers : {m : _} (w : World) → IsWorld w → (es : Exprs m) → AreSmall es → (cs : List Combination) → All AreIntegers cs → IfOk (forall.over_all w es cs) (All (All IsInteger))
  all_integers w is end_exprs h cs all = All-nil (All IsInteger)
  all_integers w is (more_exprs e es) h cs all =
      after_fact (All IsInteger) _ (over w e cs) _ (over_integers w is e h.0 cs all) (λ xs are. after_fact (All (All IsInteger)) _ (forall.over_all w es cs) _ (all_integers w is es h.1 cs all) (λ rest also. All-cons (All IsInteger) xs rest are also))

-- ---- the indexes at places

by_name_integers : (is : List Index) (vs : List ℤ) → All IsInteger vs → AreIntegers (by_name is vs)
by_name_integers [] vs h = All-nil (λ k. IsInteger k.value)
by_name_integers (i ∷ is) [] h = All-nil (λ k. IsInteger k.value)
by_name_integers (i ∷ is) (v ∷ vs) h = All-cons (λ k. IsInteger k.value) (record { name = i.name; value = v }) (by_name is vs) (All-head IsInteger v vs h) (by_name_integers is vs (All-tail IsInteger v vs h))

combinations_integers : (is : List Index) (ts : List Triplet) (ps : List ℕ) → AreCombinations ts ps → All AreIntegers (combinations_at is ts ps)
combinations_integers is ts ps h = All-map AreIntegers (combination is ts) ps (λ i d low. by_name_integers is (indexes_at ts _) (indexes_integers ts _ h.axes (h.within i d low)))

-- ---- as the code finds them

ok_fact : {A : Type 0} (P : A → Type 0) (r : Staged A) (x : A) → r ≡ Ok x → IfOk r P → P x
ok_fact P r x e h = rw e at h

module _ (w : World) (is : List Index) (ts : List Triplet) (ps : List ℕ) where
  count_is : length (combinations_at is ts ps) ≡ length ps
  count_is = length-map ps (combination is ts)

  pub values_along : (e : Expr) (xs : List ℤ) → over w e (combinations_at is ts ps) ≡ Ok xs → length xs ≡ length ps
  values_along e xs h = ok_fact (λ l. length l ≡ length (combinations_at is ts ps)) _ xs h (over_length w e (combinations_at is ts ps)) ∙ count_is

  pub values_integers : (e : Expr) (xs : List ℤ) → over w e (combinations_at is ts ps) ≡ Ok xs → IsWorld w → IsSmall e → AreCombinations ts ps → All IsInteger xs
  values_integers e xs h good small are = ok_fact (All IsInteger) _ xs h (over_integers w good e small (combinations_at is ts ps) (combinations_integers is ts ps are))

  columns_along : (r : Staged (List (List ℤ))) (cols cols' : List (List ℤ)) → r ≡ Ok cols → IfOk r (Columns (length (combinations_at is ts ps))) → cols' ≡ cols → All (λ c. length c ≡ length ps) cols'
  columns_along r cols cols' h are same =
      let P : ℕ → Type 0 = λ n. All (λ c. length c ≡ n) cols in
      let Q : List (List ℤ) → Type 0 = λ l. All (λ c. length c ≡ length ps) l in
      subst Q (sym same) (subst P count_is (ok_fact (Columns (length (combinations_at is ts ps))) r cols h are))

  pub arguments_along : (es : List Expr) (cols cols' : List (List ℤ)) → over_all w es (combinations_at is ts ps) ≡ Ok cols → cols' ≡ cols → All (λ c. length c ≡ length ps) cols'
  arguments_along es cols cols' h =
      columns_along (forall.over_all w (hidden-the_row-Expr-1 es) (combinations_at is ts ps)) cols cols' (exprs_list w es (combinations_at is ts ps) ∙ h) (all_length w (hidden-the_row-Expr-1 es) (combinations_at is ts ps))

  pub subscripts_along : (ss : List Sub) (cols cols' : List (List ℤ)) → over_subs w ss (combinations_at is ts ps) ≡ Ok cols → cols' ≡ cols → All (λ c. length c ≡ length ps) cols'
  subscripts_along ss cols cols' h =
      columns_along (forall.over_subs w (hidden-the_row-Sub-0 ss) (combinations_at is ts ps)) cols cols' (subs_list w ss (combinations_at is ts ps) ∙ h) (subs_length w (hidden-the_row-Sub-0 ss) (combinations_at is ts ps))
