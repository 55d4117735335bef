-- Expressions in which no rule is broken are sound.
use Rattle.std.proofs.Common.{◌≡◌, refl, sym, ap, ◌∙◌, ℕ, ◌<◌, ◌≤◌, Bool, true, false, List, [], ◌++◌, length, inl, inr, Option, Some, None, arith, if◌then◌else◌}
use Rattle.std.specs.Prelude.{not, ◌&&◌, ◌||◌, nat_lt}
use Rattle.std.proofs.lemmas.Bool.{true≢false}
use Rattle.ws_base.specs.declared.op.CallWord.{CallWord}
use Rattle.ws_base.specs.declared.op.CallWord.TheVariants as word
use Rattle.ws_base.specs.declared.refusal.RefusalKind.TheVariants as kind
use Rattle.ws_base.specs.declared.refusal.Refusal.{Refusal}
use Rattle.ws_tree.specs.declared.expr.Expr.{Expr}
use Rattle.ws_tree.specs.declared.expr.Expr.TheVariants.{Number, TooWide, TooDeep, Truth, Named, Part', Call', Vector'}
use Rattle.ws_tree.specs.declared.expr.Sub.TheVariants as sub
use Rattle.ws_tree.specs.Trees.{Exprs, end_exprs, more_exprs, Subs, end_subs, more_subs, Given, absent, given, paren, unary, binary}
use Rattle.ws_tree.specs.Grammatical.{count, Takes, HasSubs, IsOneName, HasDimension, IsExpr, AreExprs, AreSubs, IsGiven}
use Rattle.ws_types.specs.declared.types.Typed.{Typed}
use Rattle.ws_types.specs.declared.types.Row.{Row}
use Rattle.ws_types.specs.declared.types.Arguments.{Arguments}
use Rattle.ws_types.specs.Kinds.{when}
use Rattle.ws_types.specs.Names.{Name, standing_of, name_type, name_faults, is_no_allocatable}
use Rattle.ws_types.specs.Expressions.{listed, how_many, first_standing, named_faults, called_faults, typed, arguments, faults, all_faults, subs_faults, sub_faults, given_faults}
use Rattle.ws_types.specs.Operations.{is_other_type, is_above, is_other_number, is_outside_type, unary_faults, scalar_faults, binary_faults, subscript_faults, part_faults, no_arguments, with_argument, item_limit, vector_faults, takes, is_inquiry, is_allocated_word, has_wide_dimension, call_faults, inquiry_faults}
use Rattle.ws_sema.proofs.NoFaults.{none_first, none_after, not_broken, left_false, right_false}
use Rattle.hlfir_ops.specs.RulesValues.{rank_of}
use Rattle.lower_values.specs.References.{first_name}
use Rattle.lower_values.specs.Scopes.{Scope, index_of}
use Rattle.lower_values.specs.Values.{value}
use Rattle.kind_laws.specs.Standing.{Knows}
use Rattle.kind_laws.specs.Laws.{TypesAreKnown, KindsAreTypes}
use Rattle.kind_laws.proofs.FormsMade.{some_subs}
use Rattle.value_laws.specs.Sound.{IsVariable, IsItem, AreItems, IsSoundCall, IsSound, AreSound, AreSoundSubs, IsSoundGiven}
use Rattle.sound_laws.proofs.NamesSound.{name-valued, part-variable, inquired-variable}

not_above : (n m : ℕ) → nat_lt n m ≡ false → m ≤ n
not_above n m h = grind (arith, h)

count-listed : {k : _} (es : Exprs k) → count es ≡ length (listed es)
count-listed end_exprs = refl
count-listed (more_exprs e es) = let rest = count-listed es in omega (arith, rest)

-- the first argument of an inquiry is a name
abbrev BeginsWithName : {k : _} → Exprs k → Type 0
BeginsWithName (more_exprs (Named x) es) = Unit {0}
BeginsWithName es = ⊥

one_name : {k : _} (es : Exprs k) → IsOneName es → BeginsWithName es
one_name (more_exprs (Named x) end_exprs) h = tt
one_name (more_exprs e end_exprs) h = absurd h
one_name (more_exprs e (more_exprs d es)) h = absurd h
one_name end_exprs h = absurd h

with_dimension : {k : _} (es : Exprs k) → HasDimension es → BeginsWithName es
with_dimension (more_exprs (Named x) (more_exprs d end_exprs)) h = tt
with_dimension (more_exprs x (more_exprs d end_exprs)) h = absurd h.0
with_dimension (more_exprs x (more_exprs d (more_exprs e es))) h = absurd h
with_dimension (more_exprs x end_exprs) h = absurd h
with_dimension end_exprs h = absurd h

module _ (types : TypesAreKnown) (kinds : KindsAreTypes) (t : List Row) (line : ℕ) (s : Scope) (knows : Knows t s) (none : s.indexes ≡ []) where
  apart : (x : Name) → index_of s.indexes x ≡ None
  apart x = ap (λ is. index_of is x) none

  abbrev Goal : Expr → Type 0
  Goal e = IsExpr e → faults t false line e ≡ [] → IsSound true s e

  -- ---- ranks

  rank_at : (e : Expr) (ty : Typed) → IsExpr e → faults t false line e ≡ [] → typed t false e ≡ Some ty → (n : ℕ) → rank_of (value e s n).made.kind ≡ ty.rank
  rank_at e ty g f is n = (kinds t false line e s n ty g knows f is).rank

  above_at : (e : Expr) (n : ℕ) → IsExpr e → faults t false line e ≡ [] → is_above n (typed t false e) ≡ false → (m : ℕ) → rank_of (value e s m).made.kind ≤ n
  above_at e n g f h m =
      let known = types t false line e f in
      let same = rank_at e known.0 g f known.1 m in
      let low = not_above n known.0.rank (ap (is_above n) (sym known.1) ∙ h) in
      omega (arith, same, low)

  item_at : (e : Expr) → IsExpr e → faults t false line e ≡ [] → is_above 0 (typed t false e) ≡ false → IsItem s e
  item_at e g f h = λ n. let low = above_at e 0 g f h n in grind (arith, low)

  subscript_above : (ty : Option Typed) → subscript_faults line ty ≡ [] → is_above 1 ty ≡ false
  unfolding subscript_faults
  subscript_above ty h = not_broken (is_above 1 ty) line _ (none_after (when (is_other_type false ty) line _) (when (is_above 1 ty) line _) h)

  scalar_above : (ty : Option Typed) → scalar_faults line ty ≡ [] → is_above 0 ty ≡ false
  unfolding scalar_faults
  scalar_above ty h = not_broken (is_above 0 ty) line _ (none_after (when (is_other_type false ty) line _) (when (is_above 0 ty) line _) h)

  -- ---- constructors

  with_rank : (a : Arguments) (ty : Option Typed) → a.rank ≤ (with_argument a ty).rank
  with_rank a None = omega arith
  with_rank a (Some ty) = grind arith

  arguments_rank : {k : _} (es : Exprs k) (a : Arguments) → a.rank ≤ (arguments t false a es).rank
  arguments_rank end_exprs a = omega arith
  arguments_rank (more_exprs e es) a = let here = with_rank a (typed t false e) in let rest = arguments_rank es (with_argument a (typed t false e)) in omega (arith, here, rest)

  argument_above : (a : Arguments) (ty : Option Typed) → (with_argument a ty).rank ≤ 0 → is_above 0 ty ≡ false
  argument_above a None h = refl
  argument_above a (Some ty) h = grind (arith, h)

  items : {k : _} (es : Exprs k) (a : Arguments) → AreExprs es → (arguments t false a es).rank ≤ 0 → all_faults t false line es ≡ [] → AreItems s es
  items end_exprs a g h f = tt
  items (more_exprs e es) a g h f =
      let b = with_argument a (typed t false e) in
      let low = arguments_rank es b in (
        item_at e g.0 (none_first (faults t false line e) (all_faults t false line es) f) (argument_above a (typed t false e) (omega (arith, low, h))),
        items es b g.1 h (none_after (faults t false line e) (all_faults t false line es) f),
      )

  vector_rank : (many : ℕ) (a : Arguments) → vector_faults line false many a ≡ [] → a.rank ≤ 0
  unfolding vector_faults
  vector_rank many a h = not_above 0 a.rank (not_broken (nat_lt 0 a.rank) line kind.Unsupported
      (none_first (when (nat_lt 0 a.rank) line kind.Unsupported) (when (a.truths && a.numbers) line kind.TypeWrong)
      (none_first (when (nat_lt 0 a.rank) line kind.Unsupported ++ when (a.truths && a.numbers) line kind.TypeWrong) (when (nat_lt item_limit many) line kind.OverLimit) h)))

  -- ---- calls

  inquiry_sound : {k : _} (w : CallWord) (es : Exprs k) → BeginsWithName es → inquiry_faults line w (first_standing t (listed es)) (listed es) ≡ [] → IsVariable s (first_name (listed es))
  unfolding inquiry_faults
  inquiry_sound w (more_exprs (Named x) es) named f =
      let st = standing_of t x in
      let all = listed (more_exprs (Named x) es) in
      let c = is_allocated_word w in
      let outside = not c && is_outside_type (name_type st) all in
      let owned = c && is_no_allocatable st in
      let first = name_faults line st in
      let second = when outside line kind.RankWrong in
      let third = when owned line kind.NotAllocatable in
      let three = none_first (first ++ second ++ third) (when (has_wide_dimension all) line kind.OverLimit) f in
      let two = none_first (first ++ second) third three in
      inquired-variable s x line st c all (knows x) (apart x) (none_first first second two)
      (not_broken outside line kind.RankWrong (none_after first second two)) (not_broken owned line kind.NotAllocatable (none_after (first ++ second) third three))
  inquiry_sound w es named f = absurd named

  abbrev OwnOrParts : Bool → List Refusal → List Refusal → Type 0
  OwnOrParts true own parts = own ≡ []
  OwnOrParts false own parts = parts ≡ []

  called_by : (b c : Bool) (own parts other : List Refusal) → (if b then (if c then own else (parts ++ other)) else when true line kind.Unsupported) ≡ [] → OwnOrParts c own parts
  called_by true true own parts other h = h
  called_by true false own parts other h = none_first parts other h
  called_by false c own parts other h = absurd (true≢false (not_broken true line kind.Unsupported h))

  call_faults_none : {k : _} (w : CallWord) (es : Exprs k) → called_faults t false line w (listed es) (all_faults t false line es) (arguments t false no_arguments es) ≡ [] → OwnOrParts (is_inquiry w) (inquiry_faults line w (first_standing t (listed es)) (listed es)) (all_faults t false line es)
  call_faults_none w es f = called_by (takes w (listed es)) (is_inquiry w) (inquiry_faults line w (first_standing t (listed es)) (listed es)) (all_faults t false line es) (call_faults line false w (arguments t false no_arguments es)) f

  call_sound : {k : _} (w : CallWord) (es : Exprs k) → Takes w es → OwnOrParts (is_inquiry w) (inquiry_faults line w (first_standing t (listed es)) (listed es)) (all_faults t false line es) →
      (all_faults t false line es ≡ [] → AreSound true s es) → IsSoundCall (is_inquiry w) s w es (AreSound true s es)
  call_sound word.Size es (inl one) f all = inquiry_sound word.Size es (one_name es one) f
  call_sound word.Size es (inr two) f all = inquiry_sound word.Size es (with_dimension es two) f
  call_sound word.Lbound es two f all = inquiry_sound word.Lbound es (with_dimension es two) f
  call_sound word.Ubound es two f all = inquiry_sound word.Ubound es (with_dimension es two) f
  call_sound word.Allocated es one f all = inquiry_sound word.Allocated es (one_name es one) f
  call_sound word.Abs es many f all = (sym (count-listed es) ∙ many, all f)
  call_sound word.Mod es many f all = (sym (count-listed es) ∙ many, all f)
  call_sound word.Modulo es many f all = (sym (count-listed es) ∙ many, all f)
  call_sound word.Merge es many f all = (sym (count-listed es) ∙ many, all f)
  call_sound word.Min es many f all = ((let same = count-listed es in omega (arith, many, same)), all f)
  call_sound word.Max es many f all = ((let same = count-listed es in omega (arith, many, same)), all f)
  call_sound word.Sum es many f all = (sym (count-listed es) ∙ many, all f)
  call_sound word.Product es many f all = (sym (count-listed es) ∙ many, all f)
  call_sound word.Minval es many f all = (sym (count-listed es) ∙ many, all f)
  call_sound word.Maxval es many f all = (sym (count-listed es) ∙ many, all f)
  call_sound word.Count es many f all = (sym (count-listed es) ∙ many, all f)
  call_sound word.Any es many f all = (sym (count-listed es) ∙ many, all f)
  call_sound word.All es many f all = (sym (count-listed es) ∙ many, all f)

  -- ---- designators

  part_none : (ty : Option Typed) (many : ℕ) → part_faults line ty many ≡ [] → is_other_number ty many ≡ false
  unfolding part_faults
  part_none ty many h = not_broken (is_other_number ty many) line kind.RankWrong h

  -- ---- the induction

  mutual
    pub expression-sound : (e : Expr) → Goal e
    expression-sound (Number z) g f = tt
    expression-sound TooWide g f = tt
    expression-sound TooDeep g f = tt
    expression-sound (Truth b) g f = tt
    expression-sound (Named x) g f = (apart x, name-valued s x line (standing_of t x) (knows x) f)
    expression-sound (Part' x _ subs) g f =
        let first = named_faults t line x in
        let second = subs_faults t false line subs in
        let third = part_faults line (name_type (standing_of t x)) (how_many subs) in
        let two = none_first (first ++ second) third f in
        let v = part-variable s x line (standing_of t x) (how_many subs) (knows x) (apart x) (none_first first second two) (part_none (name_type (standing_of t x)) (how_many subs) (none_after (first ++ second) third f)) (some_subs subs g.1) in
        (v.0, v.1, v.2, subscripts-sound subs g.2 (none_after first second two))
    expression-sound (Call' w _ es) g f = call_sound w es g.0 (call_faults_none w es f) (λ all. arguments-sound es g.1 all)
    expression-sound (Vector' _ es) g f =
        let first = all_faults t false line es in
        let second = vector_faults line false (length (listed es)) (arguments t false no_arguments es) in
        let all = none_first first second f in
        (arguments-sound es g.1 all, items es no_arguments g.1 (vector_rank (length (listed es)) (arguments t false no_arguments es) (none_after first second f)) all)
    expression-sound (paren e) g f = expression-sound e g f
    expression-sound (unary op e) g f = expression-sound e g (none_first (faults t false line e) (unary_faults line op (typed t false e)) f)
    expression-sound (binary op a b) g f =
        let two = none_first (faults t false line a ++ faults t false line b) (binary_faults line op (typed t false a) (typed t false b)) f in
        (expression-sound a g.0 (none_first (faults t false line a) (faults t false line b) two), expression-sound b g.1 (none_after (faults t false line a) (faults t false line b) two))

    pub arguments-sound : {k : _} (es : Exprs k) → AreExprs es → all_faults t false line es ≡ [] → AreSound true s es
    arguments-sound end_exprs g f = tt
    arguments-sound (more_exprs e es) g f = (expression-sound e g.0 (none_first (faults t false line e) (all_faults t false line es) f), arguments-sound es g.1 (none_after (faults t false line e) (all_faults t false line es) f))

    pub subscripts-sound : {k : _} (subs : Subs k) → AreSubs subs → subs_faults t false line subs ≡ [] → AreSoundSubs true s subs
    subscripts-sound end_subs g f = tt
    subscripts-sound (more_subs (sub.One e) xs) g f =
        let here = none_first (sub_faults t false line (sub.One e)) (subs_faults t false line xs) f in
        let none_in = none_first (faults t false line e) (subscript_faults line (typed t false e)) here in (
          (expression-sound e g.0 none_in, above_at e 1 g.0 none_in (subscript_above (typed t false e) (none_after (faults t false line e) (subscript_faults line (typed t false e)) here))),
          subscripts-sound xs g.1 (none_after (sub_faults t false line (sub.One e)) (subs_faults t false line xs) f),
        )
    subscripts-sound (more_subs (sub.Range' l u st) xs) g f =
        let here = none_first (sub_faults t false line (sub.Range' l u st)) (subs_faults t false line xs) f in
        let two = none_first (given_faults t false line l ++ given_faults t false line u) (given_faults t false line st) here in (
          (
            given-sound l g.0 (none_first (given_faults t false line l) (given_faults t false line u) two),
            given-sound u g.1 (none_after (given_faults t false line l) (given_faults t false line u) two),
            given-sound st g.2 (none_after (given_faults t false line l ++ given_faults t false line u) (given_faults t false line st) here),
          ),
          subscripts-sound xs g.3 (none_after (sub_faults t false line (sub.Range' l u st)) (subs_faults t false line xs) f),
        )

    pub given-sound : (x : Given) → IsGiven x → given_faults t false line x ≡ [] → IsSoundGiven true s x
    given-sound absent g f = tt
    given-sound (given e) g f =
        let none_in = none_first (faults t false line e) (scalar_faults line (typed t false e)) f in
        (expression-sound e g none_in, item_at e g none_in (scalar_above (typed t false e) (none_after (faults t false line e) (scalar_faults line (typed t false e)) f)))
