-- The events of a construct that the code lists, and those of the meaning.
use Rattle.std.specs.Prelude.{◌≡◌, ⊤, ℕ, List, [], ◌∷◌, ◌++◌, map, Result, Ok, Err}
use Rattle.ws_base.specs.declared.fault.Fault.{Fault}
use Rattle.ws_base.specs.Outcomes.{◌>>=◌}
use Rattle.ws_space.specs.Masks.{Control, Split}
use Rattle.ws_tree.specs.declared.stmt.Stmt.{Stmt}
use Rattle.ws_tree.specs.declared.stmt.Else.{Else}
use Rattle.ws_tree.specs.declared.stmt.Body.TheViews.{out-Else}
use Rattle.ws_types.specs.Steps as steps
use Rattle.ws_types.specs.Steps.{Numbered, nothing, both, inside, else_part}
use Rattle.step_eval.specs.declared.events.MaskOf.{MaskOf}
use Rattle.step_eval.specs.declared.events.AssignmentOf.{AssignmentOf}
use Rattle.step_eval.specs.declared.events.Event.{Event}
use Rattle.step_eval.specs.declared.events.Event.TheVariants.{Mask, Assigned}
use Rattle.array_meaning.specs.declared.term.Term.{Term}
use Rattle.array_meaning.specs.declared.world.World.{World}
use Rattle.array_meaning.specs.Where.{run_assignment}
use Rattle.term_eval.specs.Limits.{IsSmall}
use Rattle.step_eval.specs.declared.construct.MaskTerm.{MaskTerm}
use Rattle.step_eval.specs.declared.construct.Places.{Places}
use Rattle.step_eval.specs.declared.halt.Halt.{Halt}
use Rattle.step_eval.specs.Halts.{Halts}
use Rattle.step_eval.specs.Masked.{control_of, splits_of}

abbrev pub mask_of : MaskOf → steps.Mask
mask_of m = record { line = m.line; test = m.test.now; under = control_of m.under }

abbrev pub assignment_of : AssignmentOf → steps.Assignment
assignment_of a = record { line = a.line; left = a.left.now; right = a.right.now; under = control_of a.under }

abbrev pub event_of : Event → steps.Event
event_of (Mask m) = steps.mask (mask_of m)
event_of (Assigned a) = steps.assigned (assignment_of a)

-- the statements of a block
abbrev pub stmts_events : Control → List Stmt → Numbered
stmts_events c [] = nothing
stmts_events c (s ∷ ss) = both (inside c s.line s.body) (stmts_events c ss)

-- ELSEWHERE by ELSEWHERE
abbrev pub elses_events : Control → List Else → Numbered
elses_events c [] = nothing
elses_events c (e ∷ es) = else_part (out-Else e).line (out-Else e).mask c (λ d. stmts_events d (out-Else e).block) (λ d. elses_events d es)

-- these events, and the number of masks after them, follow others
pub record Follows (old new : List Event) (number next : ℕ) (p : Numbered) : Type 0 where
  pub events : map event_of new ≡ map event_of old ++ (p number).0
  pub masks : next ≡ (p number).1

-- ---- limits

abbrev pub IsSmallMaskOf : MaskOf → Type 0
IsSmallMaskOf m = IsSmall m.test.now

abbrev pub IsSmallAssignmentOf : AssignmentOf → Type 0
IsSmallAssignmentOf a = IsSmall a.left.now × IsSmall a.right.now

abbrev pub IsSmallEvent : Event → Type 0
IsSmallEvent (Mask m) = IsSmallMaskOf m
IsSmallEvent (Assigned a) = IsSmallAssignmentOf a

-- ---- masks whose first stage is done

abbrev pub IsTermOf : MaskOf → MaskTerm → Type 0
IsTermOf m t = (t.line ≡ m.line) × (t.under ≡ m.under)

abbrev pub AreTermsOf : List MaskOf → List MaskTerm → Type 0
AreTermsOf [] [] = ⊤
AreTermsOf (m ∷ ms) (t ∷ ts) = IsTermOf m t × AreTermsOf ms ts
AreTermsOf _ _ = ⊥

-- the terms of these masks
abbrev pub YieldsTerms : List MaskOf → Result (List MaskTerm) Halt → Result (List Term) Fault → Type 0
YieldsTerms ms (Ok ts) outcome = AreTermsOf ms ts × (outcome ≡ Ok (map (λ t. t.term) ts))
YieldsTerms ms (Err e) outcome = Halts e outcome

-- ---- event after event

-- A mask waits for the next assignment, which is a step with the masks that wait.
abbrev pub after_event : World × List Split → List steps.Mask → steps.Event → Result ((World × List Split) × List steps.Mask) Fault
after_event r ms (steps.mask m) = Ok (r, ms ++ m ∷ [])
after_event r ms (steps.assigned a) = do
  q ← run_assignment r ms a
  Ok (q, [])

-- what an event leaves in place: the variables, the evaluated masks, and those that wait
abbrev pub LeavesAll : {B : Type 0} → Result B Halt → Result ((World × List Split) × List steps.Mask) Fault → World → List Places → List MaskOf → Type 0
LeavesAll (Ok x) outcome w ps ms = outcome ≡ Ok ((w, splits_of ps), map mask_of ms)
LeavesAll (Err e) outcome w ps ms = Halts e outcome
