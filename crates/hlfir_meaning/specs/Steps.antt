-- The steps of a plain assignment and of a WHERE: masks and assignments in printed order, each under a control.
use Rattle.std.specs.Prelude.{ℕ, suc, ◌+◌, Bool, false, List, [], ◌∷◌, ◌++◌, Option, Some, None, Result, Ok}
use mathlib.Core.Former.{Count}
use Rattle.ws_base.specs.declared.fault.Fault.{Fault}
use Rattle.ws_base.specs.Outcomes.{◌>>=◌}
use Rattle.ws_space.specs.declared.state.Var.{Var}
use Rattle.ws_space.specs.Masks.{Control, everywhere, held, failed}
use Rattle.hlfir_ops.specs.declared.what.What.{What}
use Rattle.hlfir_ops.specs.declared.what.What.TheVariants as what
use Rattle.hlfir_ops.specs.declared.op.Op.{Op, Op', out-Op}
use Rattle.hlfir_ops.specs.declared.op.Region.{Region, Region', out-Region}
use Rattle.hlfir_ops.specs.Sorts.{Controls, ControlsNothing, ControlsLeft, ControlsMask, ControlsElseMask, sort_of}
use Rattle.hlfir_ops.specs.Trees.{Ops, end_ops, more_ops, Regions, end_regions, more_regions}
use Rattle.hlfir_ops.specs.Numbers.{op_numbers, numbers_of}
use Rattle.hlfir_ops.specs.RulesRegions.{ops_in}
use Rattle.hlfir_meaning.specs.Environments.{OpRegion}

pub record Mask : Type 0 where
  pub line : ℕ
  pub test : OpRegion
  pub under : Control

pub record Assignment : Type 0 where
  pub line : ℕ
  pub realloc : Bool
  pub right : OpRegion
  pub left : OpRegion
  pub under : Control

-- the masks that were not evaluated yet, and the assignment that they stand before; after the last assignment, masks alone
pub record Step : Type 0 where
  pub masks : List Mask
  pub assignment : Option Assignment

-- ---- the regions of an op; the values of the first one are numbered from this number on

abbrev pub first_region : ℕ → List Region → OpRegion
first_region n rs = record { first = n; ops = ops_in rs 0 }

abbrev pub after_first : ℕ → List Region → ℕ
after_first n rs = numbers_of (ops_in rs 0) + n

abbrev pub second_region : ℕ → List Region → OpRegion
second_region n rs = record { first = after_first n rs; ops = ops_in rs 1 }

abbrev pub assignment_of : Control → ℕ → Bool → ℕ → List Region → Assignment
assignment_of c line realloc n rs = record { line = line; realloc = realloc; right = first_region n rs; left = second_region n rs; under = c }

-- ---- ops that change variables, one after another; the values of the first one are numbered from this number on

abbrev pub in_turn : (ℕ → Op → List Var → Result (List Var) Fault) → ℕ → List Op → List Var → Result (List Var) Fault
in_turn does n [] vars = Ok vars
in_turn does n (op ∷ ops) vars = does n op vars >>= (λ new. in_turn does (op_numbers op + n) ops new)

-- ---- the masks and assignments of a WHERE in printed order. The masks are numbered from 0.

pub data Event : Type 0 where
  mask : Mask → Event
  assigned : Assignment → Event

-- from the number of the next mask: what stands here, and the number of the next mask after it
abbrev pub Numbered : Type 0
Numbered = ℕ → List Event × ℕ

abbrev pub nothing : Numbered
nothing = λ k. ([], k)

abbrev pub event : Event → Numbered
event e = λ k. (e ∷ [], k)

abbrev pub both : Numbered → Numbered → Numbered
both p q = λ k. let a = p k in let b = q a.1 in (a.0 ++ b.0, b.1)

-- one more mask, and what stands under its number
abbrev pub masking : ℕ → OpRegion → Control → (ℕ → Numbered) → Numbered
masking line test under inside = λ k. let a = inside k (suc k) in (mask (record { line = line; test = test; under = under }) ∷ a.0, a.1)

abbrev pub op_region : ℕ → Region → OpRegion
op_region n r = record { first = n; ops = (out-Region r).ops }

abbrev pub past : ℕ → Region → ℕ
past n r = numbers_of (out-Region r).ops + n

-- Nothing but assignments and WHERE stands in a WHERE: what an assignment is there, and what a WHERE is.
abbrev pub inside_as : Controls → Numbered → Numbered → Numbered
inside_as ControlsNothing one more = nothing
inside_as ControlsLeft one more = one
inside_as ControlsMask one more = more
inside_as ControlsElseMask one more = nothing

abbrev pub reallocates : What → Bool
reallocates (what.Assign realloc) = realloc
reallocates _ = false

abbrev mutual
  -- the ops of a body, from the value with this number on
  pub block : {m : Count} → Control → ℕ → Ops m → Numbered
  block c n end_ops = nothing
  block c n (more_ops op ops) = both (inside c n op) (block c (op_numbers op + n) ops)

  pub inside : Control → ℕ → Op → Numbered
  inside c n (Op' w line os kind h regions) =
      inside_as (sort_of w).controls (event (assigned (assignment_of c line (reallocates w) n (out-Op (Op' w line os kind h regions)).regions))) (under_mask c line n regions)

  -- a mask, its body, and what follows it under the pending mask
  pub under_mask : {m : Count} → Control → ℕ → ℕ → Regions m → Numbered
  under_mask c line n end_regions = nothing
  under_mask c line n (more_regions test regions) = masking line (op_region n test) c (λ k. bodies k (past n test) regions)

  pub bodies : {m : Count} → ℕ → ℕ → Regions m → Numbered
  bodies k n end_regions = nothing
  bodies k n (more_regions (Region' h ops) regions) = both (block (held k) n ops) (otherwise (failed k) (past n (Region' h ops)) regions)

  -- the elsewheres, which stand in a region of their own
  pub otherwise : {m : Count} → Control → ℕ → Regions m → Numbered
  otherwise c n end_regions = nothing
  otherwise c n (more_regions (Region' _ ops) regions) = elsewheres c n ops

  pub elsewheres : {m : Count} → Control → ℕ → Ops m → Numbered
  elsewheres c n end_ops = nothing
  elsewheres c n (more_ops op ops) = elsewhere c n op (λ d. elsewheres d (op_numbers op + n) ops)

  -- with a mask and a body, or with a body alone, which is the last one
  pub elsewhere : Control → ℕ → Op → (Control → Numbered) → Numbered
  elsewhere c n (Op' w line os kind _ regions) rest = elsewhere_regions c line n regions rest

  pub elsewhere_regions : {m : Count} → Control → ℕ → ℕ → Regions m → (Control → Numbered) → Numbered
  elsewhere_regions c line n end_regions rest = nothing
  elsewhere_regions c line n (more_regions (Region' _ ops) end_regions) rest = block c n ops
  elsewhere_regions c line n (more_regions test (more_regions (Region' _ ops) regions)) rest =
      masking line (op_region n test) c (λ k. both (block (held k) (past n test) ops) (rest (failed k)))

abbrev pub where_events : ℕ → Op → List Event
where_events n op = (inside everywhere n op 0).0

-- ---- steps

abbrev pub steps_after : List Mask → List Event → List Step
steps_after [] [] = []
steps_after (m ∷ ms) [] = record { masks = m ∷ ms; assignment = None } ∷ []
steps_after ms (mask m ∷ es) = steps_after (ms ++ m ∷ []) es
steps_after ms (assigned a ∷ es) = record { masks = ms; assignment = Some a } ∷ steps_after [] es

-- A plain assignment is one step, active everywhere.
abbrev pub steps_of : ℕ → Op → List Step
steps_of n op = steps_after [] (where_events n op)
