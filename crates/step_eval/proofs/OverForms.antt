-- The values of each form of expression over combinations, from lists of arguments and subscripts.
use Rattle.std.proofs.Common.{◌≡◌, refl, sym, ap, ◌∙◌, subst, ℕ, suc, ◌+◌, ◌<◌, ◌≤◌, ◌*◌, Bool, true, false, List, [], ◌∷◌, ◌++◌, map, length, drop, get_or, Option, Some, None, ◌⊎◌, inl, inr, Result, Ok, Err, All, ℤ, pos, arith, append_assoc, append-nil}
use Rattle.std.specs.Prelude.{if◌then◌else◌}
use Rattle.std.proofs.lemmas.Simd.{map-map}
use Rattle.std.proofs.lemmas.List.{drop_more}
use Rattle.std.proofs.Math.ListN.{drop_of_length-le}
use Rattle.ws_base.specs.declared.fault.FaultName.{FaultName}
use Rattle.ws_base.specs.declared.op.BinOp.{BinOp}
use Rattle.ws_base.specs.declared.op.UnOp.{UnOp}
use Rattle.ws_base.specs.declared.op.CallWord.{CallWord}
use Rattle.ws_base.specs.Numbers.{Exact, truth}
use Rattle.ws_base.specs.Outcomes.{Staged, ◌>>=◌, scalar_of, joined, each, pair_up, rows}
use Rattle.ws_space.specs.declared.shape.Triplet.{Triplet}
use Rattle.ws_space.specs.declared.state.Var.{Var}
use Rattle.ws_space.specs.Values.{Name, state_of}
use Rattle.ws_space.specs.Maps.{everywhere_same, unary_map, binary_map, call_map}
use Rattle.ws_tree.specs.declared.expr.Expr.{Expr}
use Rattle.ws_tree.specs.declared.expr.Expr.TheVariants.{Number, TooWide, TooDeep, Truth, Part, Call, Vector, Unary, Binary}
use Rattle.ws_tree.specs.declared.expr.Expr.TheBlock.{hidden-the_row-Expr-1, hidden-the_row-Sub-0}
use Rattle.ws_tree.specs.declared.expr.Sub.{Sub}
use Rattle.ws_tree.specs.declared.expr.Sub.TheVariants as sub
use Rattle.ws_tree.specs.declared.stmt.Index.{Index}
use Rattle.ws_tree.specs.Opened.{trees_open}
use Rattle.ws_types.specs.Operations.{is_inquiry}
use Rattle.array_meaning.specs.declared.world.World.{World}
use Rattle.array_meaning.specs.Stage1.{inquired, name_in, dimension_in}
use Rattle.array_meaning.specs.Forall as forall
use Rattle.array_meaning.specs.Forall.{Combination, element_of, place_in, without_element, inquiries, over, over_targets}
use Rattle.term_eval.specs.declared.stop.Stop.{Stop}
use Rattle.term_eval.specs.declared.stop.Stop.TheVariants.{Memory, Failed}
use Rattle.term_eval.specs.Made.{Gives, Stops}
use Rattle.term_eval.specs.Limits.{IsSmall, IsSmallSub}
use Rattle.term_eval.specs.Lists as lists
use Rattle.term_eval.specs.Lists.{then_rest}
use Rattle.term_eval.proofs.ExprWeights.{weight, sub_weight, subs_weight, of_subs}
use Rattle.term_eval.proofs.TermValues.{stops_first}
use Rattle.term_eval.proofs.WalkValues.{name_list, dimension_list}
use Rattle.step_eval.specs.Combinations.{combinations_at, over_all, over_subs}

-- ---- lists

pub exprs_list : (w : World) (es : List Expr) (cs : List Combination) → forall.over_all w (hidden-the_row-Expr-1 es) cs ≡ over_all w es cs
unfolding trees_open
exprs_list w [] cs = refl
exprs_list w (e ∷ es) cs = ap (λ r. over w e cs >>= (λ xs. r >>= (λ rest. Ok (xs ∷ rest)))) (exprs_list w es cs)

pub subs_list : (w : World) (ss : List Sub) (cs : List Combination) → forall.over_subs w (hidden-the_row-Sub-0 ss) cs ≡ over_subs w ss cs
unfolding trees_open
subs_list w [] cs = refl
subs_list w (sub.One e ∷ ss) cs = ap (λ r. over w e cs >>= (λ xs. r >>= (λ rest. Ok (xs ∷ rest)))) (subs_list w ss cs)
subs_list w (sub.Range' l u s ∷ ss) cs = subs_list w ss cs

-- ---- at each form

over_part : (w : World) (x : Name) (ss : List Sub) (cs : List Combination) → over w (Part x ss) cs ≡ (over_subs w ss cs >>= (λ cols. each (element_of (state_of w.vars x)) (rows cs cols)))
unfolding trees_open
over_part w x ss cs = ap (λ r. r >>= (λ cols. each (element_of (state_of w.vars x)) (rows cs cols))) (subs_list w ss cs)

targets_part : (w : World) (x : Name) (ss : List Sub) (cs : List Combination) → over_targets w (Part x ss) cs ≡ (over_subs w ss cs >>= (λ cols. each (place_in (state_of w.vars x)) (rows cs cols)))
unfolding trees_open
targets_part w x ss cs = ap (λ r. r >>= (λ cols. each (place_in (state_of w.vars x)) (rows cs cols))) (subs_list w ss cs)

over_call : (w : World) (word : CallWord) (es : List Expr) (cs : List Combination) → is_inquiry word ≡ false → over w (Call word es) cs ≡ (over_all w es cs >>= call_map word cs)
unfolding trees_open
over_call w word es cs h = rw h (ap (λ r. r >>= call_map word cs) (exprs_list w es cs))

over_inquiry : (w : World) (word : CallWord) (es : List Expr) (cs : List Combination) → is_inquiry word ≡ true → over w (Call word es) cs ≡ inquiries w (without_element (lists.inquiry w word es)) cs
unfolding trees_open
over_inquiry w word es cs h =
    ap (λ b. if b then inquiries w (without_element (inquired word (state_of w.vars (name_in (hidden-the_row-Expr-1 es))) (dimension_in (hidden-the_row-Expr-1 es)))) cs else (forall.over_all w (hidden-the_row-Expr-1 es) cs >>= call_map word cs)) h
    ∙ (ap (λ x. inquiries w (without_element (inquired word (state_of w.vars x) (dimension_in (hidden-the_row-Expr-1 es)))) cs) (name_list es)
    ∙ ap (λ k. inquiries w (without_element (inquired word (state_of w.vars (lists.name_in es)) k)) cs) (dimension_list es))

over_vector : (w : World) (es : List Expr) (cs : List Combination) → over w (Vector es) cs ≡ Ok (everywhere_same (pos 0) cs)
unfolding trees_open
over_vector w es cs = refl

over_binary : (w : World) (op : BinOp) (e f : Expr) (cs : List Combination) → over w (Binary op e f) cs ≡ (over w e cs >>= (λ xs. over w f cs >>= (λ ys. binary_map op cs xs ys)))
unfolding trees_open
over_binary w op e f cs = refl

-- ---- places in place of combinations

pub rows_same : {A X Y : Type 0} (f : X → Y) (at : List X) (cols : List (List A)) → rows (map f at) cols ≡ rows at cols
rows_same f at [] = map-map (λ _. []) f at
rows_same f at (c ∷ cols) = ap (pair_up c) (rows_same f at cols)

each_same : {X Y B : Type 0} (f : X → Y) (r : Result B FaultName) (at : List X) → each (λ _. r) (map f at) ≡ each (λ _. r) at
each_same f r [] = refl
each_same f r (x ∷ at) = ap (joined r) (each_same f r at)

without_scalar : (r : Exact) → without_element (scalar_of r) ≡ r
without_scalar (Ok v) = refl
without_scalar (Err n) = refl

-- ---- as the code finds them

same_over : (f : ℕ → Combination) (v : ℤ) (ps : List ℕ) (xs : List ℤ) (outcome : Staged (List ℤ)) → outcome ≡ Ok (everywhere_same v (map f ps)) → xs ≡ everywhere_same v ps → outcome ≡ Ok xs
same_over f v ps xs outcome h same = h ∙ ap Ok (map-map (λ _. v) f ps ∙ sym same)

module _ (w : World) (e : Expr) (is : List Index) (ts : List Triplet) (ps : List ℕ) (xs : List ℤ) where
  pub number_values : (n : ℕ) → e ≡ Number n → xs ≡ everywhere_same (pos n) ps → over w e (combinations_at is ts ps) ≡ Ok xs
  number_values n form = same_over (forall.combination is ts) (pos n) ps xs (over w e (combinations_at is ts ps)) (ap (λ f. over w f (combinations_at is ts ps)) form)

  pub truth_values : (b : Bool) → e ≡ Truth b → xs ≡ everywhere_same (truth b) ps → over w e (combinations_at is ts ps) ≡ Ok xs
  truth_values b form = same_over (forall.combination is ts) (truth b) ps xs (over w e (combinations_at is ts ps)) (ap (λ f. over w f (combinations_at is ts ps)) form)

  -- what stands in no accepted program counts as 0
  pub zero_values : (e ≡ TooWide) ⊎ ((e ≡ TooDeep) ⊎ ((es : List Expr) × e ≡ Vector es)) → xs ≡ everywhere_same (pos 0) ps → over w e (combinations_at is ts ps) ≡ Ok xs
  zero_values form = same_over (forall.combination is ts) (pos 0) ps xs (over w e (combinations_at is ts ps)) (zero_over form) where
    zero_over : (e ≡ TooWide) ⊎ ((e ≡ TooDeep) ⊎ ((es : List Expr) × e ≡ Vector es)) → over w e (combinations_at is ts ps) ≡ Ok (everywhere_same (pos 0) (combinations_at is ts ps))
    zero_over (inl h) = ap (λ f. over w f (combinations_at is ts ps)) h
    zero_over (inr (inl h)) = ap (λ f. over w f (combinations_at is ts ps)) h
    zero_over (inr (inr (es, h))) = ap (λ f. over w f (combinations_at is ts ps)) h ∙ over_vector w es (combinations_at is ts ps)

module _ (w : World) (is : List Index) (ts : List Triplet) (ps : List ℕ) where
  module _ (e : Expr) (x x' : Name) (ss ss' : List Sub) (form : e ≡ Part x ss) (same_name : x' ≡ x) (same : ss' ≡ ss) where
    part_is : over w e (combinations_at is ts ps) ≡ (over_subs w ss' (combinations_at is ts ps) >>= (λ cols. each (element_of (state_of w.vars x')) (rows (combinations_at is ts ps) cols)))
    part_is =
        ap (λ f. over w f (combinations_at is ts ps)) form ∙ (over_part w x ss (combinations_at is ts ps)
        ∙ (ap (λ y. over_subs w ss (combinations_at is ts ps) >>= (λ cols. each (element_of (state_of w.vars y)) (rows (combinations_at is ts ps) cols))) (sym same_name)
        ∙ ap (λ l. over_subs w l (combinations_at is ts ps) >>= (λ cols. each (element_of (state_of w.vars x')) (rows (combinations_at is ts ps) cols))) (sym same)))

    pub part_stops : (s : Stop) → Stops s (over_subs w ss' (combinations_at is ts ps)) → Stops s (over w e (combinations_at is ts ps))
    part_stops s h = subst (Stops s) (sym part_is) (stops_first s (over_subs w ss' (combinations_at is ts ps)) _ h)

    pub part_value : (vs : List Var) (cols cols' : List (List ℤ)) (r : Result (List ℤ) Stop) → vs ≡ w.vars → over_subs w ss' (combinations_at is ts ps) ≡ Ok cols → cols' ≡ cols →
        Gives r (each (element_of (state_of vs x')) (rows ps cols')) → Gives r (over w e (combinations_at is ts ps))
    part_value vs cols cols' r vars h k g =
        subst (Gives r) (ap (λ v. each (element_of (state_of v x')) (rows ps cols')) vars ∙ (ap (λ l. each (element_of (state_of w.vars x')) (rows ps l)) k
        ∙ (ap (each (element_of (state_of w.vars x'))) (sym (rows_same (forall.combination is ts) ps cols)) ∙ sym (part_is ∙ ap (λ q. q >>= (λ l. each (element_of (state_of w.vars x')) (rows (combinations_at is ts ps) l))) h)))) g

    target_is : over_targets w e (combinations_at is ts ps) ≡ (over_subs w ss' (combinations_at is ts ps) >>= (λ cols. each (place_in (state_of w.vars x')) (rows (combinations_at is ts ps) cols)))
    target_is =
        ap (λ f. over_targets w f (combinations_at is ts ps)) form ∙ (targets_part w x ss (combinations_at is ts ps)
        ∙ (ap (λ y. over_subs w ss (combinations_at is ts ps) >>= (λ cols. each (place_in (state_of w.vars y)) (rows (combinations_at is ts ps) cols))) (sym same_name)
        ∙ ap (λ l. over_subs w l (combinations_at is ts ps) >>= (λ cols. each (place_in (state_of w.vars x')) (rows (combinations_at is ts ps) cols))) (sym same)))

    pub target_stops : (s : Stop) → Stops s (over_subs w ss' (combinations_at is ts ps)) → Stops s (over_targets w e (combinations_at is ts ps))
    target_stops s h = subst (Stops s) (sym target_is) (stops_first s (over_subs w ss' (combinations_at is ts ps)) _ h)

    pub target_value : (vs : List Var) (cols cols' : List (List ℤ)) (r : Result (List ℕ) Stop) → vs ≡ w.vars → over_subs w ss' (combinations_at is ts ps) ≡ Ok cols → cols' ≡ cols →
        Gives r (each (place_in (state_of vs x')) (rows ps cols')) → Gives r (over_targets w e (combinations_at is ts ps))
    target_value vs cols cols' r vars h k g =
        subst (Gives r) (ap (λ v. each (place_in (state_of v x')) (rows ps cols')) vars ∙ (ap (λ l. each (place_in (state_of w.vars x')) (rows ps l)) k
        ∙ (ap (each (place_in (state_of w.vars x'))) (sym (rows_same (forall.combination is ts) ps cols)) ∙ sym (target_is ∙ ap (λ q. q >>= (λ l. each (place_in (state_of w.vars x')) (rows (combinations_at is ts ps) l))) h)))) g

  module _ (e : Expr) (word : CallWord) (es es' : List Expr) (form : e ≡ Call word es) (same : es' ≡ es) where
    pub inquiry_values : (answer : Exact) (r : Result (List ℤ) Stop) → is_inquiry word ≡ true → lists.inquiry w word es' ≡ scalar_of answer → Gives r (each (λ _. answer) ps) → Gives r (over w e (combinations_at is ts ps))
    inquiry_values answer r h q g =
        subst (Gives r) (sym (each_same (forall.combination is ts) answer ps) ∙ (ap (λ a. each (λ _. a) (combinations_at is ts ps)) (sym (ap without_element q ∙ without_scalar answer))
        ∙ sym (ap (λ f. over w f (combinations_at is ts ps)) form ∙ (over_inquiry w word es (combinations_at is ts ps) h ∙ ap (λ l. inquiries w (without_element (lists.inquiry w word l)) (combinations_at is ts ps)) (sym same))))) g

    module _ (no_inquiry : is_inquiry word ≡ false) where
      call_is : over w e (combinations_at is ts ps) ≡ (over_all w es' (combinations_at is ts ps) >>= call_map word (combinations_at is ts ps))
      call_is =
          ap (λ f. over w f (combinations_at is ts ps)) form ∙ (over_call w word es (combinations_at is ts ps) no_inquiry ∙ ap (λ l. over_all w l (combinations_at is ts ps) >>= call_map word (combinations_at is ts ps)) (sym same))

      pub call_stops : (s : Stop) → Stops s (over_all w es' (combinations_at is ts ps)) → Stops s (over w e (combinations_at is ts ps))
      call_stops s h = subst (Stops s) (sym call_is) (stops_first s (over_all w es' (combinations_at is ts ps)) (call_map word (combinations_at is ts ps)) h)

      pub call_value : (cols cols' : List (List ℤ)) (r : Result (List ℤ) Stop) → over_all w es' (combinations_at is ts ps) ≡ Ok cols → cols' ≡ cols → Gives r (call_map word ps cols') → Gives r (over w e (combinations_at is ts ps))
      call_value cols cols' r h k g =
          subst (Gives r) (ap (call_map word ps) k ∙ (ap (each _) (sym (rows_same (forall.combination is ts) ps cols)) ∙ sym (call_is ∙ ap (λ q. q >>= call_map word (combinations_at is ts ps)) h))) g

  pub binary_value : (e f g f' g' : Expr) (op : BinOp) (xs xs' ys ys' : List ℤ) (r : Result (List ℤ) Stop) → e ≡ Binary op f g → f' ≡ f → g' ≡ g → over w f' (combinations_at is ts ps) ≡ Ok xs → over w g' (combinations_at is ts ps) ≡ Ok ys →
      xs' ≡ xs → ys' ≡ ys → Gives r (binary_map op ps xs' ys') → Gives r (over w e (combinations_at is ts ps))
  binary_value e f g f' g' op xs xs' ys ys' r form sf sg hf hg kx ky gives =
      let left : over w f (combinations_at is ts ps) ≡ Ok xs = ap (λ q. over w q (combinations_at is ts ps)) (sym sf) ∙ hf in
      let right : over w g (combinations_at is ts ps) ≡ Ok ys = ap (λ q. over w q (combinations_at is ts ps)) (sym sg) ∙ hg in
      subst (Gives r) (ap (λ l. binary_map op ps l ys') kx ∙ (ap (binary_map op ps xs) ky ∙ (ap (each _) (sym (rows_same (forall.combination is ts) ps (xs ∷ ys ∷ [])))
      ∙ sym (ap (λ q. over w q (combinations_at is ts ps)) form ∙ (over_binary w op f g (combinations_at is ts ps)
      ∙ (ap (λ q. q >>= (λ l. over w g (combinations_at is ts ps) >>= (λ m. binary_map op (combinations_at is ts ps) l m))) left ∙ ap (λ q. q >>= (λ m. binary_map op (combinations_at is ts ps) xs m)) right)))))) gives

-- ---- a subscript
pub of_one : (n : ℕ) (ss : List Sub) (i : ℕ) (s : Sub) (e : Expr) → 2 * subs_weight ss + 1 ≡ n → i < length ss → s ≡ get_or ss i s → s ≡ sub.One e → 2 * weight e < n
of_one n ss i s e m low item h = omega (arith, of_subs n ss i s m low item, ap sub_weight h)

pub small_one : (ss : List Sub) (i : ℕ) (s : Sub) (e : Expr) → All IsSmallSub ss → i < length ss → s ≡ get_or ss i s → s ≡ sub.One e → IsSmall e
small_one ss i s e h low item is = subst IsSmallSub (sym item ∙ is) (h i s low)
