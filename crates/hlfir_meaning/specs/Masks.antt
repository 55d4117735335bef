-- What each step of a plain assignment or of a WHERE does.
use Rattle.std.specs.Prelude.{ℕ, List, [], ◌∷◌, ◌++◌, Option, Some, None, Result, Ok}
use Rattle.ws_base.specs.declared.fault.Fault.{Fault}
use Rattle.ws_base.specs.Outcomes.{◌>>=◌}
use Rattle.ws_space.specs.declared.state.Var.{Var}
use Rattle.ws_space.specs.Shapes.{Extents, agreed}
use Rattle.ws_space.specs.Faults.{at_lines, at_line, at_places}
use Rattle.ws_space.specs.Masks.{Split, split_by, active, shapes_of}
use Rattle.hlfir_ops.specs.declared.op.Op.{Op}
use Rattle.hlfir_meaning.specs.Environments.{of_variables, Yielded, result}
use Rattle.hlfir_meaning.specs.Stage2.{operands, values}
use Rattle.hlfir_meaning.specs.Stage1.{walk}
use Rattle.hlfir_meaning.specs.Steps.{Mask, Assignment, Step, steps_of}
use Rattle.hlfir_meaning.specs.Assign.{target, step_shape, carried_out, with_target}

-- stage 1 of the new masks
abbrev pub mask_values : List Var → ℕ → List Mask → Result (List Yielded) Fault
mask_values vars shape_line [] = Ok []
mask_values vars shape_line (m ∷ ms) = do
  y ← at_lines m.line shape_line (walk (of_variables vars) m.test)
  ys ← mask_values vars shape_line ms
  Ok (y ∷ ys)

abbrev pub operands_of_masks : List Yielded → List Extents
operands_of_masks [] = []
operands_of_masks (y ∷ ys) = operands (result y) ++ operands_of_masks ys

-- stage 2 of the new masks, one after another, each at the places that its control leaves
abbrev pub splits_after : Extents → List Split → List Mask → List Yielded → Result (List Split) Fault
splits_after e ss (m ∷ ms) (y ∷ ys) = do
  xs ← at_places m.line (active ss e m.under) (values y (active ss e m.under))
  splits_after e (ss ++ split_by e (active ss e m.under) xs ∷ []) ms ys
splits_after e ss _ _ = Ok ss

abbrev pub last_line : ℕ → List Mask → ℕ
last_line line [] = line
last_line line (m ∷ ms) = last_line m.line ms

-- the variables, and the masks of the construct that were evaluated
abbrev pub Progress : Type 0
Progress = List Var × List Split

-- The evaluated masks of a construct have one shape: each stands under the outermost.
abbrev pub run_masks : Progress → List Mask → Result Progress Fault
run_masks (vars, ss) ms = do
  ys ← mask_values vars (last_line 0 ms) ms
  e ← at_line (last_line 0 ms) (agreed (shapes_of ss ++ operands_of_masks ys))
  all ← splits_after e ss ms ys
  Ok (vars, all)

abbrev pub run_assignment : Progress → List Mask → Assignment → Result Progress Fault
run_assignment (vars, ss) ms a = do
  ys ← mask_values vars a.line ms
  r ← at_line a.line (walk (of_variables vars) a.right)
  l ← at_line a.line (walk (of_variables vars) a.left)
  t ← at_line a.line (target a.realloc (result l))
  e ← at_line a.line (step_shape (shapes_of ss ++ operands_of_masks ys ++ operands (result r)) t)
  all ← splits_after e ss ms ys
  s ← carried_out a.line r e (active all e a.under) t
  Ok (with_target vars (result l) s, all)

abbrev pub run_part : Progress → List Mask → Option Assignment → Result Progress Fault
run_part r ms None = run_masks r ms
run_part r ms (Some a) = run_assignment r ms a

abbrev pub run_step : Progress → Step → Result Progress Fault
run_step r s = run_part r s.masks s.assignment

abbrev pub run_steps : Progress → List Step → Result (List Var) Fault
run_steps (vars, ss) [] = Ok vars
run_steps r (s ∷ more) = run_step r s >>= (λ q. run_steps q more)

-- a plain assignment or a WHERE, whose values are numbered from this number on
unfoldable pub run_masked : List Var → ℕ → Op → Result (List Var) Fault
run_masked vars n op = run_steps (vars, []) (steps_of n op)
