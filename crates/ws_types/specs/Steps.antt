-- The steps of a WHERE: its masks and assignments in the order of the text, each under a control.
use Rattle.std.specs.Prelude.{ℕ, suc, List, [], ◌∷◌, ◌++◌, Option, Some, None}
use Rattle.ws_space.specs.Masks.{Control, everywhere, held, failed}
use Rattle.ws_tree.specs.declared.expr.Expr.{Expr}
use Rattle.ws_tree.specs.declared.stmt.Body.{Body}
use Rattle.ws_tree.specs.declared.stmt.Body.TheVariants.{Assign, Masked'}
use Rattle.ws_tree.specs.declared.stmt.Else.{Else'}
use Rattle.ws_tree.specs.Trees.{Stmts, end_stmts, more_stmts, Elses, end_elses, more_elses}

pub record Mask : Type 0 where
  pub line : ℕ
  pub test : Expr
  pub under : Control

pub record Assignment : Type 0 where
  pub line : ℕ
  pub left : Expr
  pub right : Expr
  pub under : Control

pub data Event : Type 0 where
  mask : Mask → Event
  assigned : Assignment → Event

-- ---- the masks and assignments of a construct in the order of the text. The masks are numbered from 0.

-- from the number of the next mask: what stands here, and the number of the next mask after it
abbrev pub Numbered : Type 0
Numbered = ℕ → List Event × ℕ

abbrev pub nothing : Numbered
nothing = λ k. ([], k)

abbrev pub event : Event → Numbered
event e = λ k. (e ∷ [], k)

abbrev pub both : Numbered → Numbered → Numbered
both p q = λ k. let a = p k in let b = q a.1 in (a.0 ++ b.0, b.1)

-- one more mask, and what stands under its number
abbrev pub masking : ℕ → Expr → Control → (ℕ → Numbered) → Numbered
masking line test under inside = λ k. let a = inside k (suc k) in (mask (record { line = line; test = test; under = under }) ∷ a.0, a.1)

-- ELSEWHERE with a mask or without, its block, and what follows it
abbrev pub else_part : ℕ → Option Expr → Control → (Control → Numbered) → (Control → Numbered) → Numbered
else_part line (Some test) c stmts rest = masking line test c (λ k. both (stmts (held k)) (rest (failed k)))
else_part line None c stmts rest = stmts c

abbrev mutual
  pub block : {m : _} → Control → Stmts m → Numbered
  block c end_stmts = nothing
  block c (more_stmts line body rest) = both (inside c line body) (block c rest)

  -- In an accepted program nothing but assignments and WHERE stands in a WHERE.
  pub inside : Control → ℕ → Body → Numbered
  inside c line (Assign left right) = event (assigned (record { line = line; left = left; right = right; under = c }))
  inside c line (Masked' test _ stmts _ elses) = masking line test c (λ k. both (block (held k) stmts) (otherwise (failed k) elses))
  inside c line body = nothing

  -- what follows a mask, under the pending mask
  pub otherwise : {m : _} → Control → Elses m → Numbered
  otherwise c end_elses = nothing
  otherwise c (more_elses (Else' line test _ stmts) rest) = else_part line test c (λ d. block d stmts) (λ d. otherwise d rest)

abbrev pub where_events : ℕ → Body → List Event
where_events line body = (inside everywhere line body 0).0

-- ---- steps

-- the masks that were not evaluated yet, and the assignment that they stand before; after the last assignment, masks alone
pub record Step : Type 0 where
  pub masks : List Mask
  pub assignment : Option Assignment

abbrev pub steps_after : List Mask → List Event → List Step
steps_after [] [] = []
steps_after (m ∷ ms) [] = record { masks = m ∷ ms; assignment = None } ∷ []
steps_after ms (mask m ∷ es) = steps_after (ms ++ m ∷ []) es
steps_after ms (assigned a ∷ es) = record { masks = ms; assignment = Some a } ∷ steps_after [] es

abbrev pub where_steps : ℕ → Body → List Step
where_steps line body = steps_after [] (where_events line body)
