-- An expression in which no rule is broken has a type.
use Rattle.std.proofs.Common.{◌≡◌, refl, ℕ, Bool, true, false, ◌&&◌, List, [], length}
use mathlib.Core.Former.{Count}
use Rattle.ws_tree.specs.declared.expr.Expr.{Expr}
use Rattle.ws_tree.specs.declared.expr.Expr.TheVariants.{Number, TooWide, TooDeep, Truth, Named, Part', Call', Vector'}
use Rattle.ws_tree.specs.declared.expr.Sub.{Sub}
use Rattle.ws_tree.specs.declared.expr.Sub.TheVariants as sub
use Rattle.ws_tree.specs.Trees.{Exprs, end_exprs, more_exprs, Subs, end_subs, more_subs, Given, absent, given, paren, unary, binary}
use Rattle.ws_base.specs.declared.refusal.RefusalKind.TheVariants as kind
use Rattle.ws_types.specs.declared.types.Row.{Row}
use Rattle.ws_types.specs.declared.types.Arguments.{Arguments}
use Rattle.ws_types.specs.declared.types.Subscripts.{Subscripts}
use Rattle.ws_types.specs.Names.{standing_of, logical}
use Rattle.ws_types.specs.Operations.{takes, is_inquiry, no_subscripts, no_arguments, with_argument}
use Rattle.ws_types.specs.Expressions.{listed, how_many, first_standing, named_type, wide_faults, typed, faults, arguments, all_faults, subscripts, subs_faults, with_sub, sub_faults, is_sound, given_faults}
use Rattle.ws_sema.proofs.NoFaults.{none_first, none_after, impossible}
use Rattle.kind_laws.specs.Laws.{TypeIsKnown, TypesAreKnown}
use Rattle.kind_laws.proofs.TypesKnown.{known, number_known, name_known, unary_known, binary_known, subscript_sound, scalar_sound, part_known, argument_sound, vector_known, call_known, inquiry_known, called_known}

four_true : (x y z u : Bool) → x ≡ true → y ≡ true → z ≡ true → u ≡ true → (x && (y && z && u)) ≡ true
four_true true true true u h k l m = m
four_true true true false u h k l m = l
four_true true false z u h k l m = k
four_true false y z u h k l m = h

mutual
  unfolding wide_faults

  pub type_known : (t : List Row) (inside : Bool) (line : ℕ) (e : Expr) → faults t inside line e ≡ [] → TypeIsKnown (typed t inside e)
  type_known t inside line (Number n) f = number_known line n f
  type_known t inside line TooWide f = impossible line kind.OverLimit f
  type_known t inside line TooDeep f = impossible line kind.OverLimit f
  type_known t inside line (Truth b) f = known logical
  type_known t inside line (Named x) f = name_known line (standing_of t x) f
  type_known t inside line (Part' x _ subs) f =
      part_known line (how_many subs) (named_type t x) (subscripts t inside no_subscripts subs)
      (name_known line (standing_of t x) (none_first _ _ (none_first _ _ f)))
      (subs_sound t inside line no_subscripts subs refl (none_after _ _ (none_first _ _ f))) (none_after _ _ f)
  type_known t inside line (Call' w _ es) f =
      called_known (takes w (listed es)) (is_inquiry w) line _ (all_faults t inside line es) _ _ _
      (λ g. inquiry_known line w (first_standing t (listed es)) (listed es) g)
      (λ g h. call_known line inside w (arguments t inside no_arguments es) (arguments_sound t inside line no_arguments es refl g) h) f
  type_known t inside line (Vector' _ es) f =
      vector_known line inside (length (listed es)) (arguments t inside no_arguments es) (arguments_sound t inside line no_arguments es refl (none_first _ _ f)) (none_after _ _ f)
  type_known t inside line (paren e) f = type_known t inside line e f
  type_known t inside line (unary op e) f = unary_known line op (typed t inside e) (type_known t inside line e (none_first _ _ f)) (none_after _ _ f)
  type_known t inside line (binary op a b) f =
      binary_known line op (typed t inside a) (typed t inside b)
      (type_known t inside line a (none_first _ _ (none_first _ _ f))) (type_known t inside line b (none_after _ _ (none_first _ _ f))) (none_after _ _ f)

  pub arguments_sound : {m : Count} (t : List Row) (inside : Bool) (line : ℕ) (a : Arguments) (es : Exprs m) → a.sound ≡ true → all_faults t inside line es ≡ [] → (arguments t inside a es).sound ≡ true
  arguments_sound t inside line a end_exprs h f = h
  arguments_sound t inside line a (more_exprs e es) h f =
      arguments_sound t inside line (with_argument a (typed t inside e)) es (argument_sound a (typed t inside e) h (type_known t inside line e (none_first _ _ f))) (none_after _ _ f)

  pub subs_sound : {m : Count} (t : List Row) (inside : Bool) (line : ℕ) (s : Subscripts) (ss : Subs m) → s.sound ≡ true → subs_faults t inside line ss ≡ [] → (subscripts t inside s ss).sound ≡ true
  subs_sound t inside line s end_subs h f = h
  subs_sound t inside line s (more_subs x xs) h f = subs_sound t inside line (with_sub t inside s x) xs (sub_sound t inside line s x h (none_first _ _ f)) (none_after _ _ f)

  sub_sound : (t : List Row) (inside : Bool) (line : ℕ) (s : Subscripts) (x : Sub) → s.sound ≡ true → sub_faults t inside line x ≡ [] → (with_sub t inside s x).sound ≡ true
  sub_sound t inside line s (sub.One e) h f = subscript_sound line s (typed t inside e) h (type_known t inside line e (none_first _ _ f)) (none_after _ _ f)
  sub_sound t inside line s (sub.Range' l u st) h f =
      four_true s.sound (is_sound t inside l) (is_sound t inside u) (is_sound t inside st) h
      (given_sound t inside line l (none_first _ _ (none_first _ _ f))) (given_sound t inside line u (none_after _ _ (none_first _ _ f))) (given_sound t inside line st (none_after _ _ f))

  given_sound : (t : List Row) (inside : Bool) (line : ℕ) (g : Given) → given_faults t inside line g ≡ [] → is_sound t inside g ≡ true
  given_sound t inside line absent f = refl
  given_sound t inside line (given e) f = scalar_sound line (typed t inside e) (type_known t inside line e (none_first _ _ f)) (none_after _ _ f)

pub types_are_known : TypesAreKnown
types_are_known t inside line e f = type_known t inside line e f
