-- How much a term holds: what stands in it weighs less.
use Rattle.std.proofs.Common.{◌≡◌, refl, ap, ◌∙◌, ℕ, suc, ◌+◌, ◌*◌, ◌<◌, List, [], ◌∷◌, length, get_or, arith}
use Rattle.ws_base.specs.declared.op.CallWord.{CallWord}
use Rattle.ws_space.specs.declared.state.ArrayValue.{ArrayValue}
use Rattle.array_meaning.specs.declared.term.Term.{Term}
use Rattle.array_meaning.specs.declared.term.Term.TheVariants.{Scalar, Listed, Section', Call' as CallOf', Section, Call}
use Rattle.array_meaning.specs.declared.term.Pick.{Pick}
use Rattle.array_meaning.specs.declared.term.Pick.TheVariants as pick
use Rattle.array_meaning.specs.declared.term.Pick.TheBlock.{hidden-the_row-Pick-0, hidden-the_row-Term-2, Row_of-Term as Terms, end_of-Term as end_terms, more_of-Term as more_terms, Row_of-Pick as Picks, end_of-Pick as end_picks, more_of-Pick as more_picks}
use Rattle.array_meaning.specs.Terms.{terms_open, unary_term, binary_term}
use Rattle.term_eval.proofs.Rows.{row_weight, row-within, one-within}

abbrev mutual
  pub weight : Term → ℕ
  weight (Scalar v) = 0
  weight (Listed xs) = 0
  weight (Section' a _ ps) = suc (row_of_picks ps)
  weight (unary_term op t) = suc (weight t)
  weight (binary_term op t u) = suc (weight t + weight u)
  weight (CallOf' w _ ts) = suc (row_of_terms ts)

  row_of_terms : {m : _} → Terms m → ℕ
  row_of_terms end_terms = 0
  row_of_terms (more_terms t ts) = weight t + row_of_terms ts

  row_of_picks : {m : _} → Picks m → ℕ
  row_of_picks end_picks = 0
  row_of_picks (more_picks p ps) = pick_weight p + row_of_picks ps

  pub pick_weight : Pick → ℕ
  pick_weight (pick.Vector t) = suc (weight t)
  pick_weight _ = 0

abbrev pub terms_weight : List Term → ℕ
terms_weight = row_weight weight

abbrev pub picks_weight : List Pick → ℕ
picks_weight = row_weight pick_weight

terms_list : (ts : List Term) → row_of_terms (hidden-the_row-Term-2 ts) ≡ terms_weight ts
unfolding terms_open
terms_list [] = refl
terms_list (t ∷ ts) = ap (λ n. weight t + n) (terms_list ts)

picks_list : (ps : List Pick) → row_of_picks (hidden-the_row-Pick-0 ps) ≡ picks_weight ps
unfolding terms_open
picks_list [] = refl
picks_list (p ∷ ps) = ap (λ n. pick_weight p + n) (picks_list ps)

section_is : (a : ArrayValue) (ps : List Pick) → weight (Section a ps) ≡ suc (picks_weight ps)
unfolding terms_open
section_is a ps = ap suc (picks_list ps)

call_is : (w : CallWord) (ts : List Term) → weight (Call w ts) ≡ suc (terms_weight ts)
unfolding terms_open
call_is w ts = ap suc (terms_list ts)

-- ---- what the calls go down to

pub of_section : (n : ℕ) (t : Term) (a : ArrayValue) (ps ps' : List Pick) → 2 * weight t ≡ n → t ≡ Section a ps → ps' ≡ ps → 2 * picks_weight ps' + 1 < n
of_section n t a ps ps' m is = row-within pick_weight n (weight t) ps ps' m (ap weight is ∙ section_is a ps)

pub of_call : (n : ℕ) (t : Term) (w : CallWord) (ts ts' : List Term) → 2 * weight t ≡ n → t ≡ Call w ts → ts' ≡ ts → 2 * terms_weight ts' + 1 < n
of_call n t w ts ts' m is = row-within weight n (weight t) ts ts' m (ap weight is ∙ call_is w ts)

pub of_terms : (n : ℕ) (ts : List Term) (i : ℕ) (t : Term) → 2 * terms_weight ts + 1 ≡ n → i < length ts → t ≡ get_or ts i t → 2 * weight t < n
of_terms = one-within weight

pub of_picks : (n : ℕ) (ps : List Pick) (i : ℕ) (p : Pick) → 2 * picks_weight ps + 1 ≡ n → i < length ps → p ≡ get_or ps i p → 2 * pick_weight p < n
of_picks = one-within pick_weight

pub of_vector : (n : ℕ) (p : Pick) (t : Term) → 2 * pick_weight p ≡ n → p ≡ pick.Vector t → 2 * weight t < n
of_vector n p t m is = let e : pick_weight p ≡ suc (weight t) = ap pick_weight is in omega (arith, e, m)
