-- A step of a WHERE from its second stage on.
use Rattle.std.proofs.Common.{◌≡◌, refl, sym, ap, ◌∙◌, subst, ℕ, true, List, ◌++◌, map, Result, Ok, Err}
use Rattle.ws_base.specs.declared.fault.Fault.{Fault}
use Rattle.ws_base.specs.Outcomes.{◌>>=◌}
use Rattle.ws_space.specs.Shapes.{Extents, agreed}
use Rattle.ws_space.specs.Masks.{Split, active, shapes_of}
use Rattle.ws_space.specs.Faults.{at_line}
use Rattle.ws_space.specs.Values.{Name, state_of}
use Rattle.ws_types.specs.Steps as steps
use Rattle.array_meaning.specs.declared.world.World.{World}
use Rattle.array_meaning.specs.declared.term.Term.{Term}
use Rattle.array_meaning.specs.Stage1.{walk}
use Rattle.array_meaning.specs.Stage2.{operands}
use Rattle.array_meaning.specs.Assign.{Target, target, target_name, step_shape, carried_out, with_target}
use Rattle.array_meaning.specs.Where.{mask_terms, operands_of, splits_after, last_line, run_masks, run_assignment}
use Rattle.step_eval.specs.declared.events.MaskOf.{MaskOf}
use Rattle.step_eval.specs.declared.construct.MaskTerm.{MaskTerm}
use Rattle.step_eval.specs.declared.halt.Halt.{Halt}
use Rattle.step_eval.specs.declared.halt.Halt.TheVariants.{Memory, Faulted}
use Rattle.term_eval.specs.declared.left_sides.Target as code
use Rattle.term_eval.specs.Targets.{target_of}
use Rattle.step_eval.specs.declared.construct.Places.{Places}
use Rattle.step_eval.specs.Halts.{Leaves}
use Rattle.step_eval.specs.Masked.{splits_of, splits_through, second_stage, LeavesBoth}
use Rattle.step_eval.specs.Events.{mask_of, AreTermsOf}
use Rattle.step_eval.proofs.MaskTerms.{splits_same}

same_then : {A B : Type 0} (r : Result A Fault) (f g : A → Result B Fault) → ((x : A) → f x ≡ g x) → (r >>= f) ≡ (r >>= g)
same_then (Ok x) f g h = h x
same_then (Err e) f g h = refl

three : {A B C D : Type 0} (p : Result A Fault) (q : Result B Fault) (r : Result C Fault) (f : A → B → C → Result D Fault) (a : A) (b : B) (c : C) → p ≡ Ok a → q ≡ Ok b → r ≡ Ok c →
    (p >>= (λ x. q >>= (λ y. r >>= (λ z. f x y z)))) ≡ f a b c
three p q r f a b c h g k =
    ap (λ s. s >>= (λ x. q >>= (λ y. r >>= (λ z. f x y z)))) h ∙ (ap (λ s. s >>= (λ y. r >>= (λ z. f a y z))) g ∙ ap (λ s. s >>= (λ z. f a b z)) k)

-- ---- an assignment

module _ (w : World) (ss : List Split) (ms : List MaskOf) (ts : List MaskTerm) (a : steps.Assignment) where
  abbrev Both : Type 0
  Both = Result (World × List Split) Fault

  -- what comes after the first stage
  abbrev staged : List Term → Term → Target → Both
  staged us r t = at_line a.line (step_shape (shapes_of ss ++ operands_of us ++ operands r) t) >>= (λ e.
      splits_after e ss (map mask_of ms) us >>= (λ all. carried_out w a.line a.right r e (active all e a.under) t >>= (λ s. Ok (with_target w a.left s, all))))

  assignment_staged : (r : Term) (t : Target) → AreTermsOf ms ts → mask_terms w a.line (map mask_of ms) ≡ Ok (map (λ m. m.term) ts) → at_line a.line (walk w a.right) ≡ Ok r → at_line a.line (target true w a.left) ≡ Ok t →
      run_assignment (w, ss) (map mask_of ms) a ≡ second_stage (w, ss) ts a r (target_name a.left) t
  assignment_staged r t terms first right left =
      let us : List Term = map (λ m. m.term) ts in
      let rest : List Split → Extents → Both = λ all e. carried_out w a.line a.right r e (active all e a.under) t >>= (λ s. Ok (with_target w a.left s, all)) in
      three (mask_terms w a.line (map mask_of ms)) (at_line a.line (walk w a.right)) (at_line a.line (target true w a.left)) staged us r t first right left
      ∙ same_then (at_line a.line (step_shape (shapes_of ss ++ operands_of us ++ operands r) t)) _ _ (λ e. ap (λ q. q >>= (λ all. rest all e)) (splits_same e ss ms ts terms))

  -- the second stage leaves what the assignment does
  pub assignment_left : {B : Type 0} (result : Result B Halt) (new : World) (ps : List Places) (us : List MaskTerm) (r : Term) (x : Name) (t : code.Target) → AreTermsOf ms ts × (mask_terms w a.line (map mask_of ms) ≡ Ok (map (λ m. m.term) ts)) →
      at_line a.line (walk w a.right) ≡ Ok r → x ≡ target_name a.left → at_line a.line (target true w a.left) ≡ Ok (target_of (state_of w.vars (target_name a.left)) t) → us ≡ ts →
      LeavesBoth result (second_stage (w, ss) us a r x (target_of (state_of w.vars x) t)) new ps → LeavesBoth result (run_assignment (w, ss) (map mask_of ms) a) new ps
  assignment_left result new ps us r x t terms right name left same h =
      let P : Both → Type 0 = λ o. LeavesBoth result o new ps in
      let there : second_stage (w, ss) us a r x (target_of (state_of w.vars x) t) ≡ second_stage (w, ss) ts a r (target_name a.left) (target_of (state_of w.vars (target_name a.left)) t) =
      ap (λ l. second_stage (w, ss) l a r x (target_of (state_of w.vars x) t)) same ∙ ap (λ y. second_stage (w, ss) ts a r y (target_of (state_of w.vars y) t)) name in
      subst P (there ∙ sym (assignment_staged r (target_of (state_of w.vars (target_name a.left)) t) terms.0 terms.1 right left)) h

-- ---- masks alone

masks_staged : (w : World) (ss : List Split) (ms : List MaskOf) (ts : List MaskTerm) (e : Extents) → AreTermsOf ms ts → mask_terms w (last_line 0 (map mask_of ms)) (map mask_of ms) ≡ Ok (map (λ m. m.term) ts) →
    at_line (last_line 0 (map mask_of ms)) (agreed (shapes_of ss ++ operands_of (map (λ m. m.term) ts))) ≡ Ok e → run_masks (w, ss) (map mask_of ms) ≡ (splits_through e ss ts >>= (λ all. Ok (w, all)))
masks_staged w ss ms ts e terms first shape =
    let us : List Term = map (λ m. m.term) ts in
    let line : ℕ = last_line 0 (map mask_of ms) in
    let P : List Term → Extents → Result (World × List Split) Fault = λ vs f. splits_after f ss (map mask_of ms) vs >>= (λ all. Ok (w, all)) in
    ap (λ q. q >>= (λ vs. at_line line (agreed (shapes_of ss ++ operands_of vs)) >>= (λ f. P vs f))) first
    ∙ (ap (λ q. q >>= (λ f. P us f)) shape ∙ ap (λ q. q >>= (λ all. Ok (w, all))) (splits_same e ss ms ts terms))

with_world : {B : Type 0} (result : Result B Halt) (w : World) (ps : List Places) (through : Result (List Split) Fault) → Leaves result through (splits_of ps) → LeavesBoth result (through >>= (λ all. Ok (w, all))) w ps
with_world (Ok x) w ps through h = ap (λ q. q >>= (λ all. Ok (w, all))) h
with_world (Err Memory) w ps through h = tt
with_world (Err (Faulted f)) w ps through h = ap (λ q. q >>= (λ all. Ok (w, all))) h

-- the second stage leaves what masks alone do
pub masks_left : {B : Type 0} (result : Result B Halt) (w : World) (olds now ps : List Places) (ms : List MaskOf) (ts us : List MaskTerm) (e f : Extents) (line : ℕ) → line ≡ last_line 0 (map mask_of ms) →
    AreTermsOf ms ts × (mask_terms w line (map mask_of ms) ≡ Ok (map (λ m. m.term) ts)) → at_line line (agreed (shapes_of (splits_of now) ++ operands_of (map (λ m. m.term) us))) ≡ Ok e → now ≡ olds → us ≡ ts → f ≡ e →
    Leaves result (splits_through f (splits_of olds) us) (splits_of ps) → LeavesBoth result (run_masks (w, splits_of olds) (map mask_of ms)) w ps
masks_left result w olds now ps ms ts us e f line last terms shape before same extents h =
    let last_of : ℕ = last_line 0 (map mask_of ms) in
    let there : splits_through f (splits_of olds) us ≡ splits_through e (splits_of olds) ts = ap (λ x. splits_through x (splits_of olds) us) extents ∙ ap (λ l. splits_through e (splits_of olds) l) same in
    let Q : Result (List Split) Fault → Type 0 = λ o. Leaves result o (splits_of ps) in
    let P : Result (World × List Split) Fault → Type 0 = λ o. LeavesBoth result o w ps in
    let first : mask_terms w last_of (map mask_of ms) ≡ Ok (map (λ m. m.term) ts) = ap (λ k. mask_terms w k (map mask_of ms)) (sym last) ∙ terms.1 in
    let one : at_line last_of (agreed (shapes_of (splits_of olds) ++ operands_of (map (λ m. m.term) ts))) ≡ Ok e =
    ap (λ k. at_line k (agreed (shapes_of (splits_of olds) ++ operands_of (map (λ m. m.term) ts)))) (sym last)
    ∙ (ap (λ l. at_line line (agreed (shapes_of (splits_of olds) ++ operands_of (map (λ m. m.term) l)))) (sym same) ∙ (ap (λ l. at_line line (agreed (shapes_of (splits_of l) ++ operands_of (map (λ m. m.term) us)))) (sym before) ∙ shape)) in
    subst P (sym (masks_staged w (splits_of olds) ms ts e terms.0 first one)) (with_world result w ps (splits_through e (splits_of olds) ts) (subst Q there h))
