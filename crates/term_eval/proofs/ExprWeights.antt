-- How much an expression holds: what stands in it weighs less.
use Rattle.std.proofs.Common.{◌≡◌, refl, ap, ◌∙◌, ℕ, suc, ◌+◌, ◌*◌, ◌<◌, List, [], ◌∷◌, length, get_or, Option, Some, None}
use Rattle.ws_base.specs.declared.op.CallWord.{CallWord}
use Rattle.ws_tree.specs.declared.expr.Expr.{Expr}
use Rattle.ws_tree.specs.declared.expr.Expr.TheVariants.{Part', Call', Vector', Part, Call, Vector}
use Rattle.ws_tree.specs.declared.expr.Expr.TheBlock.{hidden-the_row-Expr-1, hidden-the_row-Sub-0}
use Rattle.ws_tree.specs.declared.expr.Sub.{Sub}
use Rattle.ws_tree.specs.declared.expr.Sub.TheVariants as sub
use Rattle.ws_tree.specs.Trees.{Exprs, end_exprs, more_exprs, Subs, end_subs, more_subs, Given, absent, given, paren, unary, binary}
use Rattle.ws_tree.specs.Opened.{trees_open}
use Rattle.term_eval.proofs.Rows.{row_weight, row-within, one-within}

abbrev mutual
  pub weight : Expr → ℕ
  weight (Part' x _ ss) = suc (row_of_subs ss)
  weight (Call' w _ es) = suc (row_of_exprs es)
  weight (Vector' _ es) = suc (row_of_exprs es)
  weight (paren e) = suc (weight e)
  weight (unary op e) = suc (weight e)
  weight (binary op e f) = suc (weight e + weight f)
  weight _ = 0

  row_of_exprs : {m : _} → Exprs m → ℕ
  row_of_exprs end_exprs = 0
  row_of_exprs (more_exprs e es) = weight e + row_of_exprs es

  row_of_subs : {m : _} → Subs m → ℕ
  row_of_subs end_subs = 0
  row_of_subs (more_subs s ss) = sub_weight s + row_of_subs ss

  pub sub_weight : Sub → ℕ
  sub_weight (sub.One e) = suc (weight e)
  sub_weight (sub.Range' l u s) = suc (given_weight l + given_weight u + given_weight s)

  given_weight : Given → ℕ
  given_weight absent = 0
  given_weight (given e) = suc (weight e)

abbrev pub exprs_weight : List Expr → ℕ
exprs_weight = row_weight weight

abbrev pub subs_weight : List Sub → ℕ
subs_weight = row_weight sub_weight

abbrev pub part_weight : Option Expr → ℕ
part_weight None = 0
part_weight (Some e) = suc (weight e)

exprs_list : (es : List Expr) → row_of_exprs (hidden-the_row-Expr-1 es) ≡ exprs_weight es
unfolding trees_open
exprs_list [] = refl
exprs_list (e ∷ es) = ap (λ n. weight e + n) (exprs_list es)

subs_list : (ss : List Sub) → row_of_subs (hidden-the_row-Sub-0 ss) ≡ subs_weight ss
unfolding trees_open
subs_list [] = refl
subs_list (s ∷ ss) = ap (λ n. sub_weight s + n) (subs_list ss)

part_is : (x : List ℕ) (ss : List Sub) → weight (Part x ss) ≡ suc (subs_weight ss)
unfolding trees_open
part_is x ss = ap suc (subs_list ss)

call_is : (w : CallWord) (es : List Expr) → weight (Call w es) ≡ suc (exprs_weight es)
unfolding trees_open
call_is w es = ap suc (exprs_list es)

vector_is : (es : List Expr) → weight (Vector es) ≡ suc (exprs_weight es)
unfolding trees_open
vector_is es = ap suc (exprs_list es)

-- ---- what the calls go down to

pub of_part : (n : ℕ) (e : Expr) (x : List ℕ) (ss ss' : List Sub) → 2 * weight e ≡ n → e ≡ Part x ss → ss' ≡ ss → 2 * subs_weight ss' + 1 < n
of_part n e x ss ss' m is = row-within sub_weight n (weight e) ss ss' m (ap weight is ∙ part_is x ss)

pub of_call : (n : ℕ) (e : Expr) (w : CallWord) (es es' : List Expr) → 2 * weight e ≡ n → e ≡ Call w es → es' ≡ es → 2 * exprs_weight es' + 1 < n
of_call n e w es es' m is = row-within weight n (weight e) es es' m (ap weight is ∙ call_is w es)

pub of_vector : (n : ℕ) (e : Expr) (es es' : List Expr) → 2 * weight e ≡ n → e ≡ Vector es → es' ≡ es → 2 * exprs_weight es' + 1 < n
of_vector n e es es' m is = row-within weight n (weight e) es es' m (ap weight is ∙ vector_is es)

pub of_exprs : (n : ℕ) (es : List Expr) (i : ℕ) (e : Expr) → 2 * exprs_weight es + 1 ≡ n → i < length es → e ≡ get_or es i e → 2 * weight e < n
of_exprs = one-within weight

pub of_subs : (n : ℕ) (ss : List Sub) (i : ℕ) (s : Sub) → 2 * subs_weight ss + 1 ≡ n → i < length ss → s ≡ get_or ss i s → 2 * sub_weight s < n
of_subs = one-within sub_weight
