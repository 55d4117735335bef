-- A WHERE construct, event after event.
use Rattle.std.specs.Prelude.{◌≡◌, ◌≤◌, ◌<◌, ◌^◌, ℕ, Bool, true, false, List, [], ◌∷◌, ◌++◌, map, length, Result, Ok, Err}
use Rattle.std.specs.List.{All}
use Rattle.ws_base.specs.declared.fault.Fault.{Fault}
use Rattle.ws_base.specs.Outcomes.{◌>>=◌}
use Rattle.ws_space.specs.Shapes.{Extents}
use Rattle.ws_space.specs.Faults.{at_line, at_places}
use Rattle.ws_space.specs.Masks.{Control, everywhere, held, failed, Split, split_by, split_at, active, shapes_of}
use Rattle.array_meaning.specs.declared.world.World.{World}
use Rattle.array_meaning.specs.declared.term.Term.{Term}
use Rattle.ws_space.specs.Values.{with_state}
use Rattle.ws_types.specs.Steps as steps
use Rattle.array_meaning.specs.Stage2.{operands, values}
use Rattle.array_meaning.specs.Assign as assign
use Rattle.array_meaning.specs.Where.{operands_of}
use Rattle.term_eval.specs.Limits.{IsFew, IsSmallTerm}
use Rattle.step_eval.specs.declared.halt.Halt.{Halt}
use Rattle.step_eval.specs.Halts.{Halts}
use Rattle.step_eval.specs.Narrow.{IsNarrow, IsNarrowTerm}
use Rattle.step_eval.specs.declared.construct.Under as code
use Rattle.step_eval.specs.declared.construct.Under.TheVariants.{Everywhere, Held, Failed}
use Rattle.step_eval.specs.declared.construct.Places.{Places}
use Rattle.step_eval.specs.declared.construct.MaskTerm.{MaskTerm}

-- ---- the code's types as those of the meaning

abbrev pub control_of : code.Under → Control
control_of Everywhere = everywhere
control_of (Held k) = held k
control_of (Failed k) = failed k

abbrev pub split_of : Places → Split
split_of p = record { shape = p.shape; yes = p.yes; no = p.no }

abbrev pub splits_of : List Places → List Split
splits_of = map split_of

-- the places where the mask of this number is true, or false
abbrev pub places_at : List Split → ℕ → Bool → List ℕ
places_at ss k true = (split_at ss k).yes
places_at ss k false = (split_at ss k).no

-- the second stage of a mask, at the places that its control leaves
abbrev pub one_split : Extents → List Split → MaskTerm → Result Split Fault
one_split e ss t = do
  xs ← at_places t.line (active ss e (control_of t.under)) (values t.term (active ss e (control_of t.under)))
  Ok (split_by e (active ss e (control_of t.under)) xs)

abbrev pub YieldsSplit : Result Places Halt → Result Split Fault → Type 0
YieldsSplit (Ok p) outcome = outcome ≡ Ok (split_of p)
YieldsSplit (Err e) outcome = Halts e outcome

-- the second stage of masks, one after another
abbrev pub splits_through : Extents → List Split → List MaskTerm → Result (List Split) Fault
splits_through e ss [] = Ok ss
splits_through e ss (t ∷ ts) = do
  s ← one_split e ss t
  splits_through e (ss ++ s ∷ []) ts

-- ---- limits

-- places of elements
pub record ArePlaces (ps : List ℕ) : Type 0 where
  pub few : length ps ≤ 2 ^ 31
  pub below : All (λ p. p < 2 ^ 31) ps

pub record IsEvaluated (p : Places) : Type 0 where
  pub few : IsFew p.shape
  pub narrow : IsNarrow p.shape
  pub yes : ArePlaces p.yes
  pub no : ArePlaces p.no

pub record IsSmallMask (t : MaskTerm) : Type 0 where
  pub small : IsSmallTerm t.term
  pub narrow : IsNarrowTerm t.term

-- what a step of a WHERE leaves in place: the variables, and the evaluated masks
abbrev pub LeavesBoth : {B : Type 0} → Result B Halt → Result (World × List Split) Fault → World → List Places → Type 0
LeavesBoth (Ok x) outcome w ps = outcome ≡ Ok (w, splits_of ps)
LeavesBoth (Err e) outcome w ps = Halts e outcome

-- a step whose first stage is done: its shape, its masks, both sides at the active places, and the replacement
abbrev pub second_stage : World × List Split → List MaskTerm → steps.Assignment → Term → List ℕ → assign.Target → Result (World × List Split) Fault
second_stage (w, ss) ts a r x t = do
  e ← at_line a.line (assign.step_shape (shapes_of ss ++ operands_of (map (λ m. m.term) ts) ++ operands r) t)
  all ← splits_through e ss ts
  s ← assign.carried_out w a.line a.right r e (active all e a.under) t
  Ok (assign.with_vars w (with_state w.vars x s), all)
