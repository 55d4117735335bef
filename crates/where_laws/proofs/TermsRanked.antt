-- The term of an expression has the rank of its type.
use Rattle.std.proofs.Common.{◌≡◌, refl, sym, ap, ◌∙◌, subst, ℕ, suc, ◌+◌, ◌<◌, Bool, true, false, not, ◌&&◌, ◌||◌, List, [], ◌∷◌, length, map, max, nat_lt, nat_eq, Option, Some, None, Ok, Err, IfOk, ℤ, pos, arith, if◌then◌else◌}
use Rattle.std.proofs.lemmas.Bool.{eqb-true}
use Rattle.std.proofs.lemmas.List.Elements.{All-nil, All-cons}
use mathlib.Core.Former.{Count}
use Rattle.ws_base.specs.declared.op.BinOp.{BinOp}
use Rattle.ws_base.specs.declared.op.CallWord.{CallWord}
use Rattle.ws_base.specs.declared.refusal.RefusalKind.TheVariants as kind
use Rattle.ws_base.specs.Outcomes.{Staged, ◌>>=◌}
use Rattle.ws_space.specs.declared.shape.Dim.{Dim}
use Rattle.ws_space.specs.declared.state.ArrayValue.{ArrayValue}
use Rattle.ws_space.specs.declared.state.VarState.{VarState}
use Rattle.ws_space.specs.declared.state.VarState.TheVariants as state
use Rattle.ws_space.specs.Shapes.{dims}
use Rattle.ws_space.specs.Values.{state_of}
use Rattle.ws_space.specs.Sections.{omitted_upper}
use Rattle.ws_tree.specs.declared.expr.Expr.{Expr}
use Rattle.ws_tree.specs.declared.expr.Expr.TheVariants.{Number, TooWide, TooDeep, Truth, Named, Part', Call', Vector'}
use Rattle.ws_tree.specs.declared.expr.Sub.{Sub}
use Rattle.ws_tree.specs.declared.expr.Sub.TheVariants as sub
use Rattle.ws_tree.specs.Trees.{Exprs, end_exprs, more_exprs, Subs, end_subs, more_subs, Given, paren, unary, binary}
use Rattle.ws_types.specs.declared.types.Row.{Row}
use Rattle.ws_types.specs.declared.types.Typed.{Typed}
use Rattle.ws_types.specs.declared.types.Standing.{Standing}
use Rattle.ws_types.specs.declared.types.Arguments.{Arguments}
use Rattle.ws_types.specs.declared.types.Subscripts.{Subscripts}
use Rattle.ws_types.specs.Names.{standing_of, name_type, integer, logical, is_no_allocatable}
use Rattle.ws_types.specs.Sections.{is_designator}
use Rattle.ws_types.specs.Operations.{differ, ranks_differ, with_subscript, binary_faults, is_other_number, part_faults, no_subscripts, no_arguments, item_limit, vector_type, takes, is_inquiry, is_allocated_word, is_outside_type, has_wide_dimension, inquired_type, inquiry_type, call_type}
use Rattle.ws_types.specs.Expressions.{listed, how_many, number_limit, named_type, typed, faults, arguments, all_faults, subs_faults}
use Rattle.ws_types.specs.Expressions as types
use Rattle.ws_sema.proofs.NoFaults.{none_first, none_after, not_broken, not_false}
use Rattle.array_meaning.specs.declared.world.World.{World}
use Rattle.array_meaning.specs.declared.term.Term.{Term}
use Rattle.array_meaning.specs.declared.term.Term.TheVariants.{Listed}
use Rattle.array_meaning.specs.declared.term.Pick.{Pick}
use Rattle.array_meaning.specs.declared.term.Pick.TheVariants as pick
use Rattle.array_meaning.specs.Stage1.{allocated, picked, designator, unary_on, binary_on, called, known, value_of, subscript, walk, walks, picks, one_pick, end}
use Rattle.array_meaning.proofs.Chains.{after_each, after_fact}
use Rattle.lower_values.specs.Scopes.{Scope}
use Rattle.kind_laws.specs.Standing.{Knows}
use Rattle.kind_laws.proofs.TypesKnown.{name_known}
use Rattle.kind_laws.proofs.TypedExpressions.{type_known}
use Rattle.kind_laws.proofs.TypeFacts.{same_type, no_type, chosen_type, unary_operand, binary_result, part_result}
use Rattle.kind_laws.proofs.Arguments.{argued}
use Rattle.kind_laws.proofs.FormsMade.{AreTyped, types_known, arguments-are, call_asked, call_typed, parts_faultless}
use Rattle.world_laws.specs.Worlds.{FitsNames}
use Rattle.where_laws.specs.Laws.{TermsHaveRanks}
use Rattle.where_laws.proofs.Ranked.{HasRank, operands_ranked, unary_ranked, binary_ranked}
use Rattle.where_laws.proofs.CallsRanked.{EachRanked, called_ranked}
use Rattle.where_laws.proofs.NamesRanked.{name_ranked, name_dims}
use Rattle.where_laws.proofs.PartsRanked.{added, picked-length, designator_ranked, Leaves, subscript_leaves}

-- ---- what the rules say of ranks

operands_agree : (line : ℕ) (op : BinOp) (o p : Option Typed) (a b : Typed) → o ≡ Some a → p ≡ Some b → binary_faults line op o p ≡ [] → differ a.rank b.rank ≡ false
unfolding binary_faults
operands_agree line op o p a b h g f = ap (λ q. ranks_differ (Some a) q) (sym g) ∙ (ap (λ q. ranks_differ q p) (sym h) ∙ not_broken (ranks_differ o p) line kind.RankWrong (none_after _ _ f))

subscripts_count : (line : ℕ) (o : Option Typed) (a : Typed) (n : ℕ) → o ≡ Some a → part_faults line o n ≡ [] → a.rank ≡ n
unfolding part_faults
subscripts_count line o a n h f = eqb-true a.rank n (not_false (nat_eq a.rank n) (ap (λ p. is_other_number p n) (sym h) ∙ not_broken (is_other_number o n) line kind.RankWrong f))

vector_rank : (count : ℕ) (a : Arguments) (ty : Typed) → vector_type false count a ≡ Some ty → 1 ≡ ty.rank
unfolding vector_type
vector_rank count a ty h =
    let made : Typed = record { truth = a.truths; rank = 1 } in
    ap (λ x. x.rank) (same_type made ty (chosen_type (false || nat_lt 0 a.rank || (a.truths && a.numbers) || nat_lt item_limit count || not a.sound) (Some made) ty h))

inquired_rank : (w : CallWord) (o : Option Typed) (ty : Typed) → inquired_type w o ≡ Some ty → ty.rank ≡ 0
inquired_rank w None ty h = no_type ty h
inquired_rank w (Some a) ty h = sym (ap (λ x. x.rank) (same_type (record { truth = is_allocated_word w; rank = 0 }) ty h))

inquiry_rank : (w : CallWord) (st : Option Standing) (es : List Expr) (ty : Typed) → inquiry_type w st es ≡ Some ty → ty.rank ≡ 0
unfolding inquiry_type
inquiry_rank w st es ty h =
    inquired_rank w (name_type st) ty (chosen_type (not (is_allocated_word w) && is_outside_type (name_type st) es || is_allocated_word w && is_no_allocatable st || has_wide_dimension es) (inquired_type w (name_type st)) ty h)

-- ---- forms

listed_ranked : (xs : List ℤ) (n : ℕ) → 1 ≡ n → HasRank n (Listed xs)
listed_ranked xs n is = (omega (arith, is), All-cons (λ e. (length e ≡ n) × (0 < n)) (length xs ∷ []) [] (is, omega (arith, is)) (All-nil (λ e. (length e ≡ n) × (0 < n))))

call_if : (b : Bool) (word : CallWord) (p q : Staged Term) (n : ℕ) → is_inquiry word ≡ b → (is_inquiry word ≡ true → IfOk p (HasRank n)) → (is_inquiry word ≡ false → IfOk q (HasRank n)) → IfOk (if b then p else q) (HasRank n)
call_if true word p q n is h g = h is
call_if false word p q n is h g = g is

known_ranked : (r : Staged ℤ) (n : ℕ) → n ≡ 0 → IfOk (known r) (HasRank n)
known_ranked (Ok v) n is = is
known_ranked (Err t) n is = tt

part_if : (v : VarState) (f : ArrayValue → Staged Term) (n : ℕ) → ((a : ArrayValue) → v ≡ state.Array a → IfOk (f a) (HasRank n)) → IfOk (allocated v >>= f) (HasRank n)
part_if (state.Scalar z) f n h = tt
part_if (state.Array a) f n h = h a refl
part_if (state.Unallocated r) f n h = tt

all_added : (m n r : ℕ) → m + 0 ≡ n → n ≡ r → m ≡ r
all_added m n r h g = omega (arith, h, g)

abbrev PicksRanked : ℕ → ℕ → ℕ → List Pick → Type 0
PicksRanked many before after ps = (length ps ≡ many) × (length (picked ps) + before ≡ after)

range_leaves : (w : World) (d : Dim) (l u st : Given) (c : ℕ) → IfOk (one_pick w d (sub.Range' l u st)) (λ p. added p + c ≡ c + 1)
range_leaves w d l u st c =
    let P : Pick → Type 0 = λ p. added p + c ≡ c + 1 in
    after_each P (end w (Ok d.lower) l) _ (λ a. after_each P (end w (omitted_upper d) u) _ (λ b. after_each P (end w (Ok (pos 1)) st) (λ x. Ok (pick.Range (record { l = a; u = b; s = x }))) (λ x. omega arith)))

-- ---- expressions

module _ (t : List Row) (line : ℕ) (s : Scope) (w : World) (knows : Knows t s) (no_index : s.indexes ≡ []) (fits : FitsNames s.names w) where
  mutual
    pub value_ranked : (e : Expr) (ty : Typed) → faults t false line e ≡ [] → typed t false e ≡ Some ty → IfOk (walk w e) (HasRank ty.rank)
    value_ranked (Number n) ty f h = sym (ap (λ x. x.rank) (same_type integer ty (chosen_type (nat_lt number_limit n) (Some integer) ty h)))
    value_ranked TooWide ty f h = no_type ty h
    value_ranked TooDeep ty f h = no_type ty h
    value_ranked (Truth b) ty f h = sym (ap (λ x. x.rank) (same_type logical ty h))
    value_ranked (Named x) ty f h = name_ranked t s w x ty knows no_index fits h
    value_ranked (Part' x _ subs) ty f h =
        let first = name_known line (standing_of t x) (none_first _ _ (none_first _ _ f)) in
        let select = types.subscripts t false no_subscripts subs in
        let rank : select.rank ≡ ty.rank = ap (λ x. x.rank) (part_result (named_type t x) (how_many subs) select first.0 ty first.1 h) in
        let count : first.0.rank ≡ how_many subs = subscripts_count line (named_type t x) first.0 (how_many subs) first.1 (none_after _ _ f) in
        part_if (state_of w.vars x) (λ a. picks w (dims a.shape) subs >>= designator a) ty.rank (λ a is.
        after_fact (PicksRanked (length (dims a.shape)) 0 select.rank) (HasRank ty.rank) (picks w (dims a.shape) subs) (designator a)
        (picks_ranked no_subscripts (dims a.shape) subs (none_after _ _ (none_first _ _ f)) (name_dims t s w x first.0 knows no_index fits first.1 a is ∙ count))
        (λ ps g. designator_ranked a ps ty.rank g.0 (all_added (length (picked ps)) select.rank ty.rank g.1 rank)))
    value_ranked (Call' word _ es) ty f h =
        call_if (is_inquiry word) word _ (walks w es >>= called word) ty.rank refl
        (λ i. known_ranked _ ty.rank (inquiry_rank word _ (listed es) ty (call_asked (takes word (listed es)) (is_inquiry word) _ _ ty h i)))
        (λ i. let none = parts_faultless (takes word (listed es)) (is_inquiry word) line _ (all_faults t false line es) _ i f in
        let tys = types_known t false line es none in
        let type : call_type false word (argued no_arguments tys.0) ≡ Some ty =
        ap (call_type false word) (sym (arguments-are t false no_arguments es tys.0 tys.1)) ∙ call_typed (takes word (listed es)) (is_inquiry word) _ _ ty h i in
        after_fact (EachRanked tys.0) (HasRank ty.rank) (walks w es) (called word) (values_ranked es tys.0 none tys.1) (λ ts each. called_ranked word tys.0 ts ty type each))
    value_ranked (Vector' _ es) ty f h = after_each (HasRank ty.rank) (walks w es) (λ ts. Ok (Listed (map value_of ts))) (λ ts. listed_ranked (map value_of ts) ty.rank (vector_rank (length (listed es)) (arguments t false no_arguments es) ty h))
    value_ranked (paren e) ty f h = value_ranked e ty f h
    value_ranked (unary op e) ty f h =
        after_fact (HasRank ty.rank) (HasRank ty.rank) (walk w e) (unary_on op) (value_ranked e ty (none_first _ _ f) (unary_operand op (typed t false e) ty h)) (λ x ranked. unary_ranked op ty.rank x ranked)
    value_ranked (binary op a b) ty f h =
        let left = type_known t false line a (none_first _ _ (none_first _ _ f)) in
        let right = type_known t false line b (none_after _ _ (none_first _ _ f)) in
        let one = operands_agree line op (typed t false a) (typed t false b) left.0 right.0 left.1 right.1 (none_after _ _ f) in
        let rank : max left.0.rank right.0.rank ≡ ty.rank = ap (λ x. x.rank) (binary_result op (typed t false a) (typed t false b) left.0 right.0 ty left.1 right.1 h) in
        after_fact (HasRank left.0.rank) (HasRank ty.rank) (walk w a) (λ x. walk w b >>= binary_on op x) (value_ranked a left.0 (none_first _ _ (none_first _ _ f)) left.1)
        (λ x first. after_fact (HasRank right.0.rank) (HasRank ty.rank) (walk w b) (binary_on op x) (value_ranked b right.0 (none_after _ _ (none_first _ _ f)) right.1)
        (λ y second. subst (λ n. IfOk (binary_on op x y) (HasRank n)) rank (binary_ranked op left.0.rank right.0.rank one x y first second)))

    values_ranked : {m : Count} (es : Exprs m) (tys : List Typed) → all_faults t false line es ≡ [] → AreTyped t false es tys → IfOk (walks w es) (EachRanked tys)
    values_ranked end_exprs [] f h = tt
    values_ranked end_exprs (a ∷ tys) f h = absurd h
    values_ranked (more_exprs e es) [] f h = absurd h
    values_ranked (more_exprs e es) (a ∷ tys) f h =
        after_fact (HasRank a.rank) (EachRanked (a ∷ tys)) (walk w e) (λ x. walks w es >>= (λ xs. Ok (x ∷ xs))) (value_ranked e a (none_first _ _ f) h.0)
        (λ x first. after_fact (EachRanked tys) (EachRanked (a ∷ tys)) (walks w es) (λ xs. Ok (x ∷ xs)) (values_ranked es tys (none_after _ _ f) h.1) (λ xs rest. (first, rest)))

    picks_ranked : {m : Count} (c : Subscripts) (ds : List Dim) (ss : Subs m) → subs_faults t false line ss ≡ [] → length ds ≡ how_many ss → IfOk (picks w ds ss) (PicksRanked (length ds) c.rank (types.subscripts t false c ss).rank)
    picks_ranked c ds end_subs f h = (sym h, omega arith)
    picks_ranked c [] (more_subs x xs) f h = absurd (omega (arith, h))
    picks_ranked c (d ∷ ds) (more_subs x xs) f h =
        let next = types.with_sub t false c x in
        let P = PicksRanked (suc (length ds)) c.rank (types.subscripts t false next xs).rank in
        after_fact (λ p. added p + c.rank ≡ next.rank) P (one_pick w d x) (λ p. picks w ds xs >>= (λ ps. Ok (p ∷ ps))) (pick_leaves c d x (none_first _ _ f))
        (λ p one. after_fact (PicksRanked (length ds) next.rank (types.subscripts t false next xs).rank) P (picks w ds xs) (λ ps. Ok (p ∷ ps)) (picks_ranked next ds xs (none_after _ _ f) (omega (arith, h)))
        (λ ps g. (ap suc g.0, let sum = g.1 in let all = picked-length p ps in omega (arith, sum, all, one))))

    pick_leaves : (c : Subscripts) (d : Dim) (x : Sub) → types.sub_faults t false line x ≡ [] → IfOk (one_pick w d x) (λ p. added p + c.rank ≡ (types.with_sub t false c x).rank)
    pick_leaves c d (sub.One e) f =
        let one = type_known t false line e (none_first _ _ f) in
        let P : ℕ → Pick → Type 0 = λ n p. added p + c.rank ≡ n in
        let after : (if nat_lt 0 one.0.rank then c.rank + 1 else c.rank) ≡ (types.with_sub t false c (sub.One e)).rank = ap (λ o. (with_subscript c o).rank) (sym one.1) in
        subst (λ n. IfOk (one_pick w d (sub.One e)) (P n)) after
        (after_fact (HasRank one.0.rank) (Leaves c.rank one.0.rank) (walk w e) (subscript (is_designator e)) (value_ranked e one.0 (none_first _ _ f) one.1) (λ x ranked. subscript_leaves (is_designator e) c.rank one.0.rank x ranked))
    pick_leaves c d (sub.Range' l u st) f = range_leaves w d l u st c.rank

known_value : (r : Staged Term) (x : Term) (P : Term → Type 0) → r ≡ Ok x → IfOk r P → P x
known_value r x P is h = let Q : Staged Term → Type 0 = λ o. IfOk o P in subst Q is h

pub terms_ranked : TermsHaveRanks
terms_ranked t line e s w ty r knows no_index fits f h walked = operands_ranked ty.rank r (known_value (walk w e) r (HasRank ty.rank) walked (value_ranked t line s w knows no_index fits e ty f h))
