-- Left sides, as the code finds them.
use Rattle.std.proofs.Common.{◌≡◌, refl, sym, ap, ◌∙◌, subst, ℕ, Bool, List, [], All, Ok, Err, IfOk, arith}
use mathlib.Core.Path.{fun_ext}
use Rattle.std.proofs.lemmas.List.Elements.{All-nil, All-cons}
use Rattle.ws_base.specs.Outcomes.{Staged, ◌>>=◌}
use Rattle.ws_space.specs.declared.state.ArrayValue.{ArrayValue}
use Rattle.ws_space.specs.declared.state.VarState.{VarState}
use Rattle.ws_space.specs.declared.state.VarState.TheVariants as state
use Rattle.ws_space.specs.Shapes.{dims}
use Rattle.ws_space.specs.Values.{state_of, held}
use Rattle.ws_tree.specs.declared.expr.Expr.{Expr}
use Rattle.ws_tree.specs.declared.expr.Expr.TheVariants.{Part}
use Rattle.ws_tree.specs.declared.expr.Expr.TheBlock.{hidden-the_row-Sub-0}
use Rattle.ws_tree.specs.declared.expr.Sub.{Sub}
use Rattle.ws_tree.specs.Opened.{trees_open}
use Rattle.array_meaning.specs.declared.world.World.{World}
use Rattle.array_meaning.specs.declared.term.Pick.{Pick}
use Rattle.array_meaning.specs.declared.term.Term.{Term}
use Rattle.array_meaning.specs.declared.term.Term.TheVariants.{Section}
use Rattle.array_meaning.specs.Stage1.{allocated, selected, picked}
use Rattle.array_meaning.specs.Assign.{selection, held_by, target}
use Rattle.term_eval.specs.declared.stop.Stop.{Stop}
use Rattle.term_eval.specs.Made.{Stops}
use Rattle.term_eval.specs.Limits.{IsInteger, IsSmall, IsSmallSub, IsWorld, IsFew, IsSmallState, IsSmallArray, IsSmallTerm, IsSmallPick}
use Rattle.term_eval.specs.Lists as lists
use Rattle.array_meaning.proofs.Chains.{after_fact}
use Rattle.term_eval.proofs.Forms.{is_small_section}
use Rattle.term_eval.proofs.SmallWalk.{allocated-small, picks-small, selected-small, whole_array-small}
use Rattle.term_eval.proofs.TermValues.{stops_first}
use Rattle.term_eval.proofs.Variables.{state_of-small}
use Rattle.term_eval.proofs.WalkForms.{picks_list, small_part, are_small_subs}

-- ---- what is small

held-small : (s : VarState) → IsSmallState s → IfOk (held_by (held s)) IsSmallArray
held-small (state.Scalar v) h = record { few = omega arith; values = All-cons IsInteger v [] h (All-nil IsInteger) }
held-small (state.Array a) h = h
held-small (state.Unallocated r) h = tt

whole_of-small : (w : World) (x : List ℕ) → IsWorld w → IfOk (lists.whole_of w x) IsSmallTerm
whole_of-small w x is = after_fact IsSmallArray IsSmallTerm (held_by (held (state_of w.vars x))) _ (held-small (state_of w.vars x) (state_of-small w.vars x is.vars)) (λ a h. whole_array-small a h)

pub whole_small : (w : World) (x : List ℕ) (t : Term) → IsWorld w → lists.whole_of w x ≡ Ok t → IsSmallTerm t
whole_small w x t is e = let s : IfOk (lists.whole_of w x) IsSmallTerm = whole_of-small w x is in rw e at s

list-picks-small : (w : World) → IsWorld w → (a : ArrayValue) (ss : List Sub) → All IsSmallSub ss → IfOk (lists.picks w (dims a.shape) ss) (All IsSmallPick)
list-picks-small w is a ss h = rw (← picks_list w (dims a.shape) ss) (picks-small w is (dims a.shape) (hidden-the_row-Sub-0 ss) (are_small_subs ss h))

part_of-small : (w : World) (x : List ℕ) (ss : List Sub) → IsWorld w → All IsSmallSub ss → IfOk (lists.part_of w x ss) IsSmallTerm
part_of-small w x ss is h =
    after_fact IsSmallArray IsSmallTerm (allocated (state_of w.vars x)) _ (allocated-small (state_of w.vars x) (state_of-small w.vars x is.vars)) (λ a small.
    after_fact (All IsSmallPick) IsSmallTerm (lists.picks w (dims a.shape) ss) _ (list-picks-small w is a ss h) (λ ps are.
    after_fact (λ qs. IsFew (picked qs) × All IsSmallPick qs) IsSmallTerm (selected a ps) _ (selected-small a ps are) (λ qs good. is_small_section a qs small good.0 good.1)))

pub part_small : (w : World) (x : List ℕ) (ss : List Sub) (t : Term) → IsWorld w → All IsSmallSub ss → lists.part_of w x ss ≡ Ok t → IsSmallTerm t
part_small w x ss t is h e = let s : IfOk (lists.part_of w x ss) IsSmallTerm = part_of-small w x ss is h in rw e at s

-- ---- a part of a variable

after_selected : (a : ArrayValue) (r : Staged (List Pick)) → (r >>= (λ qs. Ok (selection (Section a qs)))) ≡ (r >>= (λ qs. let t : Staged Term = Ok (Section a qs) in t) >>= (λ t. Ok (selection t)))
after_selected a (Ok qs) = refl
after_selected a (Err t) = refl

after_picks : (a : ArrayValue) (r : Staged (List Pick)) → (r >>= (λ ps. selected a ps >>= (λ qs. Ok (selection (Section a qs))))) ≡ (r >>= (λ ps. selected a ps >>= (λ qs. let t : Staged Term = Ok (Section a qs) in t)) >>= (λ t. Ok (selection t)))
after_picks a (Ok ps) = after_selected a (selected a ps)
after_picks a (Err t) = refl

after_allocated : (w : World) (ss : List Sub) (r : Staged ArrayValue) →
    (r >>= (λ a. lists.picks w (dims a.shape) ss >>= (λ ps. selected a ps >>= (λ qs. Ok (selection (Section a qs))))))
    ≡ (r >>= (λ a. lists.picks w (dims a.shape) ss >>= (λ ps. selected a ps >>= (λ qs. let t : Staged Term = Ok (Section a qs) in t))) >>= (λ t. Ok (selection t)))
after_allocated w ss (Ok a) = after_picks a (lists.picks w (dims a.shape) ss)
after_allocated w ss (Err t) = refl

target_part : (b : Bool) (w : World) (x : List ℕ) (ss : List Sub) → target b w (Part x ss) ≡ (lists.part_of w x ss >>= (λ t. Ok (selection t)))
unfolding trees_open
target_part b w x ss =
    ap (λ f. allocated (state_of w.vars x) >>= f) (fun_ext (λ a. ap (λ r. r >>= (λ ps. selected a ps >>= (λ qs. Ok (selection (Section a qs))))) (picks_list w (dims a.shape) ss)))
    ∙ after_allocated w ss (allocated (state_of w.vars x))

module _ (b : Bool) (w : World) (e : Expr) (x x' : List ℕ) (ss ss' : List Sub) (is : e ≡ Part x ss) (same_name : x' ≡ x) (same : ss' ≡ ss) where
  part_is : target b w e ≡ (lists.part_of w x' ss' >>= (λ t. Ok (selection t)))
  part_is =
      ap (target b w) is ∙ target_part b w x ss ∙ ap (λ y. lists.part_of w y ss >>= (λ t. Ok (selection t))) (sym same_name) ∙ ap (λ l. lists.part_of w x' l >>= (λ t. Ok (selection t))) (sym same)

  pub part_stops : (s : Stop) → Stops s (lists.part_of w x' ss') → Stops s (target b w e)
  part_stops s h = subst (Stops s) (sym part_is) (stops_first s (lists.part_of w x' ss') (λ t. Ok (selection t)) h)

  pub part_value : (t : Term) → lists.part_of w x' ss' ≡ Ok t → target b w e ≡ Ok (selection t)
  part_value t h = part_is ∙ ap (λ r. r >>= (λ u. Ok (selection u))) h

  pub subs_small : IsSmall e → All IsSmallSub ss'
  subs_small h = subst (All IsSmallSub) (sym same) (small_part x ss (subst IsSmall is h))
