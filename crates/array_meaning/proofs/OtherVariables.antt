-- An assignment changes no variable but its target.
use Rattle.std.proofs.Common.{◌≡◌, refl, ap, ◌∙◌, ℕ, Bool, true, false, List, [], ◌∷◌, ◌++◌, bytes_eq}
use Rattle.std.specs.Prelude.{if◌then◌else◌}
use Rattle.std.proofs.lemmas.Slice.Eq.{bytes_eq-Decides}
use Rattle.ws_space.specs.declared.state.Var.{Var}
use Rattle.ws_space.specs.declared.state.VarState.{VarState}
use Rattle.ws_space.specs.Values.{state_of, with_state}
use Rattle.ws_space.specs.Shapes.{all_places}
use Rattle.ws_space.specs.Faults.{at_line, at_places}
use Rattle.ws_space.specs.Masks.{active, shapes_of}
use Rattle.array_meaning.specs.Stage2.{operands}
use Rattle.array_meaning.specs.Stage1.{walk}
use Rattle.array_meaning.specs.Assign.{target, target_name, step_shape, carried_out}
use Rattle.array_meaning.specs.Where.{mask_terms, operands_of, splits_after}
use Rattle.array_meaning.specs.Forall.{over, over_targets, replaced_over}
use Rattle.array_meaning.specs.Laws.{AssignmentKeepsOthers, MaskedAssignmentKeepsOthers, ForallAssignmentKeepsOthers}
use Rattle.array_meaning.proofs.Chains.{after_each}

other_at : (b : Bool) (v : Var) (vs : List Var) (x y : List ℕ) (s : VarState) → bytes_eq v.name x ≡ b → bytes_eq x y ≡ false → state_of (with_state vs x s) y ≡ state_of vs y →
    state_of (if b then record v { state = s } ∷ vs else v ∷ with_state vs x s) y ≡ state_of (v ∷ vs) y
other_at true v vs x y s e apart rest =
    let same : v.name ≡ x = (bytes_eq-Decides v.name x).0 e in
    let here : bytes_eq v.name y ≡ false = ap (λ z. bytes_eq z y) same ∙ apart in
    rw here refl
other_at false v vs x y s e apart rest = ap (λ z. if bytes_eq v.name y then v.state else z) rest

pub state_of-with_state-other : (vs : List Var) (x y : List ℕ) (s : VarState) → bytes_eq x y ≡ false → state_of (with_state vs x s) y ≡ state_of vs y
state_of-with_state-other [] x y s apart = refl
state_of-with_state-other (v ∷ vs) x y s apart = other_at (bytes_eq v.name x) v vs x y s refl apart (state_of-with_state-other vs x y s apart)

pub plain : AssignmentKeepsOthers
plain w line left right =
    after_each _ (at_line line (walk w right)) _ (λ r. after_each _ (at_line line (target false w left)) _ (λ t. after_each _ (at_line line (step_shape (operands r) t)) _ (λ e.
    after_each _ (carried_out w line right r e (all_places e) t) _ (λ s y apart. state_of-with_state-other w.vars (target_name left) y s apart))))

pub masked : MaskedAssignmentKeepsOthers
masked w ss ms a =
    after_each _ (mask_terms w a.line ms) _ (λ ts. after_each _ (at_line a.line (walk w a.right)) _ (λ r. after_each _ (at_line a.line (target true w a.left)) _ (λ t.
    after_each _ (at_line a.line (step_shape (shapes_of ss ++ operands_of ts ++ operands r) t)) _ (λ e. after_each _ (splits_after e ss ms ts) _ (λ all.
    after_each _ (carried_out w a.line a.right r e (active all e a.under) t) _ (λ s y apart. state_of-with_state-other w.vars (target_name a.left) y s apart))))))

pub in_forall : ForallAssignmentKeepsOthers
in_forall w line left right places cs =
    after_each _ (at_places line places (over w right cs)) _ (λ xs. after_each _ (at_places line places (over_targets w left cs)) _ (λ ts.
    after_each _ (replaced_over line places (state_of w.vars (target_name left)) ts xs) _ (λ s y apart. state_of-with_state-other w.vars (target_name left) y s apart)))
