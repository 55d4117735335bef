-- An expression that the grammar gives, and in which no rule is broken, is small.
use Rattle.std.proofs.Common.{◌≡◌, refl, ℕ, ◌≤◌, Bool, true, false, List, [], ◌++◌, length, ◌⊎◌, inl, inr, Option, Some, None, if◌then◌else◌, arith}
use Rattle.std.proofs.lemmas.Bool.{ltb-false, false≢true}
use mathlib.Core.Former.{Count}
use Rattle.ws_base.specs.declared.refusal.Refusal.{Refusal}
use Rattle.ws_base.specs.declared.refusal.RefusalKind.TheVariants as kind
use Rattle.ws_base.specs.declared.op.CallWord.{CallWord}
use Rattle.ws_base.specs.declared.op.CallWord.TheVariants as word
use Rattle.ws_tree.specs.declared.expr.Expr.{Expr}
use Rattle.ws_tree.specs.declared.expr.Expr.TheVariants.{Number, TooWide, TooDeep, Truth, Named, Part', Call', Vector'}
use Rattle.ws_tree.specs.declared.expr.Sub.TheVariants as sub
use Rattle.ws_tree.specs.Trees.{Exprs, end_exprs, more_exprs, Subs, end_subs, more_subs, Given, absent, given, paren, unary, binary}
use Rattle.ws_tree.specs.Grammatical.{count, Takes, IsOneName, HasDimension, IsName, IsDigits, IsExpr, AreExprs, AreSubs, IsGiven, IsSide, IsDesignator, IsOptional}
use Rattle.ws_types.specs.declared.types.Row.{Row}
use Rattle.ws_types.specs.declared.types.Arguments.{Arguments}
use Rattle.ws_types.specs.Kinds.{when}
use Rattle.ws_types.specs.Operations.{item_limit, vector_faults, is_inquiry, takes}
use Rattle.ws_types.specs.Expressions.{listed, faults, all_faults, subs_faults, given_faults}
use Rattle.ws_types.specs.Lists as lists
use Rattle.term_eval.specs.Limits.{IsSmall, AreSmall, AreSmallSubs, IsSmallPart}
use Rattle.small_laws.specs.Small.{IsSmallOption}
use Rattle.ws_sema.proofs.NoFaults.{none_first, none_after, not_broken, impossible}

-- ---- constructors

counted : {m : Count} (es : Exprs m) → count es ≡ length (listed es)
counted end_exprs = refl
counted (more_exprs e es) = let h = counted es in omega (arith, h)

few_at : (line : ℕ) (inside : Bool) (n : ℕ) (a : Arguments) → vector_faults line inside n a ≡ [] → n ≤ 256
unfolding vector_faults
few_at line inside n a e = ltb-false item_limit n (not_broken _ _ _ (none_after _ _ e))

few_items : {m : Count} (line : ℕ) (inside : Bool) (es : Exprs m) (a : Arguments) → vector_faults line inside (length (listed es)) a ≡ [] → count es ≤ 256
few_items line inside es a e = omega (arith, counted es, few_at line inside (length (listed es)) a e)

-- ---- calls

name_small : (e : Expr) → IsName e → IsSmall e
name_small (Named x) h = tt
name_small _ h = absurd h

digits_small : (e : Expr) → IsDigits e → IsExpr e → IsSmall e
digits_small (Number n) h g = g
digits_small TooWide h g = tt
digits_small _ h g = absurd h

one_name_small : {m : Count} (es : Exprs m) → IsOneName es → AreSmall es
one_name_small end_exprs h = absurd h
one_name_small (more_exprs x end_exprs) h = (name_small x h, tt)
one_name_small (more_exprs x (more_exprs y es)) h = absurd h

dimension_small : {m : Count} (es : Exprs m) → HasDimension es → AreExprs es → AreSmall es
dimension_small end_exprs h g = absurd h
dimension_small (more_exprs x end_exprs) h g = absurd h
dimension_small (more_exprs x (more_exprs d end_exprs)) h g = (name_small x h.0, (digits_small d h.1 g.1.0, tt))
dimension_small (more_exprs x (more_exprs d (more_exprs y es))) h g = absurd h

size_small : {m : Count} (es : Exprs m) → IsOneName es ⊎ HasDimension es → AreExprs es → AreSmall es
size_small es (inl h) g = one_name_small es h
size_small es (inr h) g = dimension_small es h g

-- what an inquiry takes is not looked into
inquired_small : {m : Count} (w : CallWord) (es : Exprs m) → is_inquiry w ≡ true → Takes w es → AreExprs es → AreSmall es
inquired_small word.Size es is h g = size_small es h g
inquired_small word.Lbound es is h g = dimension_small es h g
inquired_small word.Ubound es is h g = dimension_small es h g
inquired_small word.Allocated es is h g = one_name_small es h
inquired_small _ es is h g = absurd (false≢true is)

arguments_at : {P : Type 0} (right inquiry : Bool) (line : ℕ) (asked parts rules : List Refusal) → (inquiry ≡ true → P) → (parts ≡ [] → P) →
    (if right then (if inquiry then asked else (parts ++ rules)) else when true line kind.Unsupported) ≡ [] → P
arguments_at false inquiry line asked parts rules f g e = impossible line kind.Unsupported e
arguments_at true true line asked parts rules f g e = f refl
arguments_at true false line asked parts rules f g e = g (none_first parts rules e)

-- ---- expressions

mutual
  pub expr_small : (t : List Row) (inside : Bool) (line : ℕ) (e : Expr) → IsExpr e → faults t inside line e ≡ [] → IsSmall e
  expr_small t inside line (Number n) h f = h
  expr_small t inside line TooWide h f = tt
  expr_small t inside line TooDeep h f = tt
  expr_small t inside line (Truth b) h f = tt
  expr_small t inside line (Named x) h f = tt
  expr_small t inside line (Part' x _ ss) h f = subs_small t inside line ss h.2 (none_after _ _ (none_first _ _ f))
  expr_small t inside line (Call' w _ es) h f =
      arguments_at (takes w (listed es)) (is_inquiry w) line _ (all_faults t inside line es) _ (λ is. inquired_small w es is h.0 h.1) (λ g. exprs_small t inside line es h.1 g) f
  expr_small t inside line (Vector' _ es) h f =
      (few_items line inside es _ (none_after _ _ f), exprs_small t inside line es h.1 (none_first _ _ f))
  expr_small t inside line (paren e) h f = expr_small t inside line e h f
  expr_small t inside line (unary op e) h f = expr_small t inside line e h (none_first _ _ f)
  expr_small t inside line (binary op a b) h f = (expr_small t inside line a h.0 (none_first _ _ (none_first _ _ f)), expr_small t inside line b h.1 (none_after _ _ (none_first _ _ f)))

  exprs_small : {m : Count} (t : List Row) (inside : Bool) (line : ℕ) (es : Exprs m) → AreExprs es → all_faults t inside line es ≡ [] → AreSmall es
  exprs_small t inside line end_exprs h f = tt
  exprs_small t inside line (more_exprs e es) h f = (expr_small t inside line e h.0 (none_first _ _ f), exprs_small t inside line es h.1 (none_after _ _ f))

  subs_small : {m : Count} (t : List Row) (inside : Bool) (line : ℕ) (ss : Subs m) → AreSubs ss → subs_faults t inside line ss ≡ [] → AreSmallSubs ss
  subs_small t inside line end_subs h f = tt
  subs_small t inside line (more_subs (sub.One e) ss) h f = (expr_small t inside line e h.0 (none_first _ _ (none_first _ _ f)), subs_small t inside line ss h.1 (none_after _ _ f))
  subs_small t inside line (more_subs (sub.Range' l u s) ss) h f = (
    (
      part_small t inside line l h.0 (none_first _ _ (none_first _ _ (none_first _ _ f))),
      part_small t inside line u h.1 (none_after _ _ (none_first _ _ (none_first _ _ f))),
      part_small t inside line s h.2 (none_after _ _ (none_first _ _ f)),
    ),
    subs_small t inside line ss h.3 (none_after _ _ f),
  )

  part_small : (t : List Row) (inside : Bool) (line : ℕ) (g : Given) → IsGiven g → given_faults t inside line g ≡ [] → IsSmallPart g
  part_small t inside line absent h f = tt
  part_small t inside line (given e) h f = expr_small t inside line e h (none_first _ _ f)

-- ---- expressions as they stand in a statement

pub side_small : (t : List Row) (inside : Bool) (line : ℕ) (e : Expr) → IsSide e → faults t inside line e ≡ [] → IsSmall e
side_small t inside line e (inl h) f = rw h tt
side_small t inside line e (inr h) f = expr_small t inside line e h.0 f

pub designator_small : (t : List Row) (inside : Bool) (line : ℕ) (e : Expr) → IsDesignator e → faults t inside line e ≡ [] → IsSmall e
designator_small t inside line (Named x) h f = tt
designator_small t inside line TooDeep h f = tt
designator_small t inside line (Part' x _ ss) h f = subs_small t inside line ss h.2 (none_after _ _ (none_first _ _ f))
designator_small t inside line _ h f = absurd h

pub option_small : (t : List Row) (inside : Bool) (line : ℕ) (o : Option Expr) → IsOptional o → lists.given_faults t inside line o ≡ [] → IsSmallOption o
option_small t inside line None h f = tt
option_small t inside line (Some e) h f = side_small t inside line e h (none_first _ _ f)
