-- WHERE: what each step of a construct does.
use Rattle.std.specs.Prelude.{ℕ, true, List, [], ◌∷◌, ◌++◌, Option, Some, None, Result, Ok}
use Rattle.ws_base.specs.declared.fault.Fault.{Fault}
use Rattle.ws_base.specs.Outcomes.{◌>>=◌}
use Rattle.ws_space.specs.Shapes.{Extents, agreed}
use Rattle.ws_space.specs.Faults.{at_lines, at_line, at_places}
use Rattle.ws_space.specs.Masks.{Split, split_by, active, shapes_of}
use Rattle.ws_tree.specs.declared.stmt.Body.{Body}
use Rattle.ws_types.specs.Steps.{Mask, Assignment, Step, where_steps}
use Rattle.array_meaning.specs.declared.world.World.{World}
use Rattle.array_meaning.specs.declared.term.Term.{Term}
use Rattle.array_meaning.specs.Stage2.{operands, values}
use Rattle.array_meaning.specs.Stage1.{walk}
use Rattle.array_meaning.specs.Assign.{target, step_shape, carried_out, with_target}

-- stage 1 of the new masks
abbrev pub mask_terms : World → ℕ → List Mask → Result (List Term) Fault
mask_terms w shape_line [] = Ok []
mask_terms w shape_line (m ∷ ms) = do
  t ← at_lines m.line shape_line (walk w m.test)
  ts ← mask_terms w shape_line ms
  Ok (t ∷ ts)

abbrev pub operands_of : List Term → List Extents
operands_of [] = []
operands_of (t ∷ ts) = operands t ++ operands_of ts

-- stage 2 of the new masks, one after another, each at the places that its control leaves
abbrev pub splits_after : Extents → List Split → List Mask → List Term → Result (List Split) Fault
splits_after e ss (m ∷ ms) (t ∷ ts) = do
  xs ← at_places m.line (active ss e m.under) (values t (active ss e m.under))
  splits_after e (ss ++ split_by e (active ss e m.under) xs ∷ []) ms ts
splits_after e ss _ _ = Ok ss

abbrev pub last_line : ℕ → List Mask → ℕ
last_line line [] = line
last_line line (m ∷ ms) = last_line m.line ms

-- The evaluated masks of a construct have one shape: each stands under the outermost.
abbrev pub run_masks : World × List Split → List Mask → Result (World × List Split) Fault
run_masks (w, ss) ms = do
  ts ← mask_terms w (last_line 0 ms) ms
  e ← at_line (last_line 0 ms) (agreed (shapes_of ss ++ operands_of ts))
  all ← splits_after e ss ms ts
  Ok (w, all)

abbrev pub run_assignment : World × List Split → List Mask → Assignment → Result (World × List Split) Fault
run_assignment (w, ss) ms a = do
  ts ← mask_terms w a.line ms
  r ← at_line a.line (walk w a.right)
  t ← at_line a.line (target true w a.left)
  e ← at_line a.line (step_shape (shapes_of ss ++ operands_of ts ++ operands r) t)
  all ← splits_after e ss ms ts
  s ← carried_out w a.line a.right r e (active all e a.under) t
  Ok (with_target w a.left s, all)

abbrev pub run_part : World × List Split → List Mask → Option Assignment → Result (World × List Split) Fault
run_part r ms None = run_masks r ms
run_part r ms (Some a) = run_assignment r ms a

abbrev pub run_step : World × List Split → Step → Result (World × List Split) Fault
run_step r s = run_part r s.masks s.assignment

abbrev pub run_steps : World × List Split → List Step → Result World Fault
run_steps (w, ss) [] = Ok w
run_steps r (s ∷ more) = run_step r s >>= (λ q. run_steps q more)

-- a WHERE construct
unfoldable pub run_where : World → ℕ → Body → Result World Fault
run_where w line body = run_steps (w, []) (where_steps line body)
