-- The shapes of operands, as the code finds them.
use Rattle.std.proofs.Common.{◌≡◌, refl, sym, ap, ◌∙◌, subst, List, ◌++◌, All, Result, Ok, Err, IfOk}
use Rattle.ws_base.specs.declared.op.BinOp.{BinOp}
use Rattle.ws_base.specs.declared.op.CallWord.{CallWord}
use Rattle.ws_space.specs.declared.state.ArrayValue.{ArrayValue}
use Rattle.ws_space.specs.Shapes.{Extents}
use Rattle.array_meaning.specs.declared.term.Term.{Term}
use Rattle.array_meaning.specs.declared.term.Term.TheVariants.{Section, Binary, Call}
use Rattle.array_meaning.specs.declared.term.Pick.{Pick}
use Rattle.array_meaning.specs.Terms.{terms_open}
use Rattle.array_meaning.specs.Stage1.{picked}
use Rattle.array_meaning.specs.Stage2.{array_operand, operands}
use Rattle.term_eval.specs.Limits.{IsFew, IsSmallTerm}
use Rattle.term_eval.specs.Lists as lists
use Rattle.term_eval.proofs.Forms.{operands_section, operands_call}
use Rattle.term_eval.proofs.SmallTerms.{operands-few}

module _ {E : Type 0} where
  pub of_section : (t : Term) (a : ArrayValue) (ps ps' : List Pick) (e : Extents) (r : Result (List Extents) E) → t ≡ Section a ps → ps' ≡ ps → e ≡ picked ps' → IfOk r (λ s. s ≡ array_operand e) → IfOk r (λ s. s ≡ operands t)
  of_section t a ps ps' e (Ok s) is same extents h = h ∙ ap array_operand (extents ∙ ap picked same) ∙ sym (operands_section a ps) ∙ ap operands (sym is)
  of_section t a ps ps' e (Err x) is same extents h = tt

  pub of_call : (t : Term) (w : CallWord) (ts ts' : List Term) (r : Result (List Extents) E) → t ≡ Call w ts → ts' ≡ ts → IfOk r (λ s. s ≡ lists.all_operands ts') → IfOk r (λ s. s ≡ operands t)
  of_call t w ts ts' (Ok s) is same h = h ∙ ap lists.all_operands same ∙ sym (operands_call w ts) ∙ ap operands (sym is)
  of_call t w ts ts' (Err x) is same h = tt

  pub are_few : (t : Term) (r : Result (List Extents) E) → IfOk r (λ s. s ≡ operands t) → IsSmallTerm t → IfOk r (All IsFew)
  are_few t (Ok s) h small = subst (All IsFew) (sym h) (operands-few t small)
  are_few t (Err x) h small = tt

both : (op : BinOp) (t u : Term) → operands (Binary op t u) ≡ operands t ++ operands u
unfolding terms_open
both op t u = refl

pub of_binary : (whole : Term) (op : BinOp) (t u t' u' : Term) (s r all : List Extents) → whole ≡ Binary op t u → t' ≡ t → u' ≡ u → s ≡ operands t' → r ≡ operands u' → all ≡ s ++ r → all ≡ operands whole
of_binary whole op t u t' u' s r all is st su hs hr h =
    h ∙ ap (λ x. x ++ r) (hs ∙ ap operands st) ∙ ap (λ x. operands t ++ x) (hr ∙ ap operands su) ∙ sym (both op t u) ∙ ap operands (sym is)

pub few_of : (t : Term) (s : List Extents) → s ≡ operands t → IsSmallTerm t → All IsFew s
few_of t s h small = subst (All IsFew) (sym h) (operands-few t small)
