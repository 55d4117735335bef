-- The values of small terms are default integers, and no more than an array may have elements.
use Rattle.std.proofs.Common.{ℕ, ◌≤◌, true, false, List, [], ◌∷◌, length, All, Ok, Err, IfOk, ℤ, arith}
use Rattle.std.specs.Prelude.{Bool, if◌then◌else◌}
use Rattle.std.proofs.lemmas.List.Elements.{All-nil, All-cons, All-head, All-tail, All-append}
use Rattle.ws_base.specs.declared.fault.FaultName.TheVariants.{Shape as Shape'}
use Rattle.ws_base.specs.Numbers.{default_half, unary_value, call_value}
use Rattle.ws_base.specs.Outcomes.{Staged, trouble, rows}
use Rattle.ws_space.specs.declared.state.ArrayValue.{ArrayValue}
use Rattle.ws_space.specs.Faults.{over_all_places}
use Rattle.ws_space.specs.Maps.{pair_value}
use Rattle.ws_space.specs.Shapes.{Extents, size, same_extents, agreed, all_places}
use Rattle.ws_space.specs.Values.{value_at, element}
use Rattle.array_meaning.specs.declared.term.Term.{Term}
use Rattle.array_meaning.specs.declared.term.Term.TheVariants.{Scalar, Listed, Section', Call'}
use Rattle.array_meaning.specs.declared.term.Pick.TheBlock.{Row_of-Term as Terms, end_of-Term as end_terms, more_of-Term as more_terms}
use Rattle.array_meaning.specs.Terms.{unary_term, binary_term}
use Rattle.array_meaning.specs.Stage2.{array_operand, operands, all_operands, extents, values, all_values, columns, whole}
use Rattle.array_meaning.proofs.Chains.{after_each, after_fact}
use Rattle.array_meaning.proofs.KeptValues.{value_at-passes}
use Rattle.array_meaning.proofs.TypedValues as typed
pub use Rattle.array_meaning.proofs.TypedValues.{map-all, each-passes as each-all, each-all as each-any}
use Rattle.term_eval.specs.Limits.{IsInteger, IsFew, IsSmallTerm, AreSmallTerms}
use Rattle.ws_space.proofs.Places.{length-places_from}
use Rattle.term_eval.proofs.Along.{Along, values-along}
use Rattle.term_eval.proofs.Integers.{unary-integer, pair-integer, call-integer}

-- ---- lists of values

pub rows-all : {X : Type 0} (at : List X) (cs : List (List ℤ)) → All (All IsInteger) cs → All (All IsInteger) (rows at cs)
rows-all = typed.rows-all false

pub element-integer : (a : ArrayValue) (is : List ℤ) → All IsInteger a.values → IfOk (element a is) IsInteger
element-integer = typed.element-passes false

-- ---- values

mutual
  pub values-integers : (t : Term) → IsSmallTerm t → (at : List ℕ) → IfOk (values t at) (All IsInteger)
  values-integers (Scalar v) h at = map-all IsInteger (λ _. v) (λ _. h) at
  values-integers (Listed xs) h at = map-all IsInteger (value_at xs) (λ p. value_at-passes false xs p h.1) at
  values-integers (Section' a _ ps) h at = after_each _ (columns ps at) _ (λ cs. each-any IsInteger (element a) (λ is. element-integer a is h.0.values) (rows at cs))
  values-integers (unary_term op t) h at = after_fact (All IsInteger) _ (values t at) _ (values-integers t h at) (λ xs is. each-all IsInteger IsInteger (unary_value default_half op) (unary-integer op) xs is)
  values-integers (binary_term op t u) h at = after_each _ (values t at) _ (λ xs. after_each _ (values u at) _ (λ ys. each-any IsInteger (pair_value op) (pair-integer op) (rows at (xs ∷ ys ∷ []))))
  values-integers (Call' w _ ts) h at =
      after_fact (All (All IsInteger)) _ (all_values ts at) _ (all_values-integers ts h at) (λ cs is. each-all (All IsInteger) IsInteger (call_value default_half w) (call-integer w) (rows at cs) (rows-all at cs is))

  all_values-integers : {m : _} (ts : Terms m) → AreSmallTerms ts → (at : List ℕ) → IfOk (all_values ts at) (All (All IsInteger))
  all_values-integers end_terms h at = All-nil (All IsInteger)
  all_values-integers (more_terms t ts) h at =
      after_fact (All IsInteger) _ (values t at) _ (values-integers t h.0 at) (λ xs is. after_fact (All (All IsInteger)) _ (all_values ts at) _ (all_values-integers ts h.1 at) (λ rest are. All-cons (All IsInteger) xs rest is are))

-- ---- shapes

array_operand-few : (e : Extents) → IsFew e → All IsFew (array_operand e)
array_operand-few [] h = All-nil IsFew
array_operand-few (n ∷ ns) h = All-cons IsFew (n ∷ ns) [] h (All-nil IsFew)

mutual
  pub operands-few : (t : Term) → IsSmallTerm t → All IsFew (operands t)
  operands-few (Scalar v) h = All-nil IsFew
  operands-few (Listed xs) h = All-cons IsFew (length xs ∷ []) [] (omega (arith, h.0)) (All-nil IsFew)
  operands-few (Section' a _ ps) h = array_operand-few (extents ps) h.1
  operands-few (unary_term op t) h = operands-few t h
  operands-few (binary_term op t u) h = All-append IsFew (operands t) (operands u) (operands-few t h.0) (operands-few u h.1)
  operands-few (Call' w _ ts) h = all_operands-few ts h

  all_operands-few : {m : _} (ts : Terms m) → AreSmallTerms ts → All IsFew (all_operands ts)
  all_operands-few end_terms h = All-nil IsFew
  all_operands-few (more_terms t ts) h = All-append IsFew (operands t) (all_operands ts) (operands-few t h.0) (all_operands-few ts h.1)

if_same : (c : Bool) (r : Staged Extents) → IfOk r IsFew → IfOk (if c then r else trouble Shape') IsFew
if_same true r h = h
if_same false r h = tt

pub agreed-few : (es : List Extents) → All IsFew es → IfOk (agreed es) IsFew
agreed-few [] h = omega arith
agreed-few (e ∷ []) h = All-head IsFew e [] h
agreed-few (e ∷ f ∷ more) h = if_same (same_extents e f) (agreed (f ∷ more)) (agreed-few (f ∷ more) (All-tail IsFew e (f ∷ more) h))

-- ---- all values of a term

over_all : (r : Staged (List ℤ)) (n : ℕ) → n ≤ 65536 → Along n r → IfOk r (All IsInteger) → IfOk (over_all_places r) (λ xs. (length xs ≤ 65536) × All IsInteger xs)
over_all (Ok xs) n few h is = (omega (arith, h, few), is)
over_all (Err t) n few h is = tt

pub whole-small : (t : Term) → IsSmallTerm t → IfOk (whole t) (λ xs. (length xs ≤ 65536) × All IsInteger xs)
whole-small t h =
    after_fact IsFew _ (agreed (operands t)) _ (agreed-few (operands t) (operands-few t h)) (λ e few.
    over_all (values t (all_places e)) (length (all_places e)) (omega (arith, length-places_from 0 (size e), few)) (values-along t (all_places e)) (values-integers t h (all_places e)))
