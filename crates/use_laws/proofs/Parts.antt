-- What the grammar and the rules say of a construct in a source without variables: it is a WHERE or a workshare.
use Rattle.std.proofs.Common.{◌≡◌, ℕ, false, ◌≤◌, List, [], ◌∷◌, length, Option, Some, None, arith}
use mathlib.Core.Former.{Count}
use Rattle.ws_tree.specs.declared.expr.Expr.{Expr}
use Rattle.ws_tree.specs.declared.stmt.Index.{Index}
use Rattle.ws_tree.specs.declared.stmt.Body.{Body}
use Rattle.ws_tree.specs.declared.stmt.Body.TheVariants.{Masked', Forall', Loop', Shared'}
use Rattle.ws_tree.specs.declared.stmt.Else.{Else'}
use Rattle.ws_tree.specs.Trees.{Stmts, more_stmts, Elses, more_elses}
use Rattle.ws_tree.specs.Grammatical as grammar
use Rattle.ws_tree.specs.Grammatical.{IsSide, IsOneAssignment, HasNoElse, IsBody, AreStmts, AreElses}
use Rattle.ws_tree.specs.Grammatical.Within.{anywhere, in_where, in_forall}
use Rattle.ws_types.specs.declared.types.Row.{Row}
use Rattle.ws_types.specs.Names.{standing_of}
use Rattle.ws_types.specs.Tables.{barred}
use Rattle.ws_types.specs.Expressions.{faults}
use Rattle.ws_sema.specs.declared.within.Within.{Within}
use Rattle.ws_sema.specs.declared.within.Within.TheVariants as within
use Rattle.ws_sema.specs.Statements.{header_faults, under, mask_rank, else_control, body_faults, block_faults, elses_faults}
use Rattle.ws_sema.proofs.NoFaults.{none_first, none_after}
use Rattle.ws_sema.proofs.Grammar.{where_parts, forall_parts, shared_parts, no_else}
use Rattle.kind_laws.proofs.Sides.{sides_are_expressions}
use Rattle.kind_laws.proofs.Faultless.{where_faultless, forall_faultless, loop_faultless, shared_faultless}
use Rattle.use_laws.proofs.Standing.{HasNoVariables}
use Rattle.use_laws.proofs.Clean.{no-variable, no-loop}
use Rattle.use_laws.proofs.Values.{IsClean}

-- somewhere the grammar gives it, and no rule is broken in it
pub record IsRight (t : List Row) (line : ℕ) (body : Body) : Type 0 where
  pub place : grammar.Within
  pub room : ℕ
  pub around : Within
  pub stands : IsBody place room line body
  pub faultless : body_faults t around line body ≡ []

pub record AreRight {m : Count} (t : List Row) (block : Stmts m) : Type 0 where
  pub place : grammar.Within
  pub room : ℕ
  pub around : Within
  pub stands : AreStmts place room block
  pub faultless : block_faults t around block ≡ []

pub record ElsesAreRight {m : Count} (t : List Row) (rest : Elses m) : Type 0 where
  pub room : ℕ
  pub line : ℕ
  pub first : Option ℕ
  pub stands : AreElses room rest
  pub faultless : elses_faults t line first rest ≡ []

-- ---- what is in them

side_clean : (t : List Row) (line : ℕ) (e : Expr) → (HasNoVariables t → IsSide e × (faults t false line e ≡ [])) → IsClean t line e
side_clean t line e h none = (sides_are_expressions t false line e (h none).0 (h none).1, (h none).1)

module _ (t : List Row) (line : ℕ) (mask : Expr) (c : _) (block : _) (d : _) (rest : _) (h : HasNoVariables t → IsRight t line (Masked' mask c block d rest)) where
  pub where_mask : IsClean t line mask
  where_mask = side_clean t line mask (λ none. ((where_parts (h none).place (h none).room line mask c block d rest (h none).stands).0, (where_faultless t (h none).around line mask c block d rest (h none).faultless).in_mask))

  pub where_block : HasNoVariables t → AreRight t block
  where_block none =
      let stands = (where_parts (h none).place (h none).room line mask c block d rest (h none).stands).1 in
      record { place = stands.place; room = stands.room; around = under t line mask; stands = stands.stands; faultless = (where_faultless t (h none).around line mask c block d rest (h none).faultless).in_block }

  pub where_rest : HasNoVariables t → ElsesAreRight t rest
  where_rest none =
      let stands = (where_parts (h none).place (h none).room line mask c block d rest (h none).stands).2 in
      record { room = stands.room; line = line; first = mask_rank t mask; stands = stands.stands; faultless = (where_faultless t (h none).around line mask c block d rest (h none).faultless).in_rest }

some_index : (t b : List Row) (line : ℕ) (before is : List Index) → HasNoVariables t → 1 ≤ length is → header_faults t b line before is ≡ [] → ⊥
some_index t b line before [] none h f = omega arith
some_index t b line before (i ∷ is) none h f =
    no-variable line (standing_of t i.name) (none.each i.name) (none_first _ _ (none_first _ _ (none_first _ _ (none_first _ _ (none_first _ _ f)))))

pub unused_forall : (t : List Row) (line : ℕ) (is : List Index) (mask : Option Expr) (c : _) (block : _) → (HasNoVariables t → IsRight t line (Forall' is mask c block)) → HasNoVariables t → ⊥
unused_forall t line is mask c block h none =
    some_index t (barred t is) line [] is none (forall_parts (h none).place (h none).room line is mask c block (h none).stands).0.0
    (forall_faultless t (h none).around line is mask c block (h none).faultless).in_triplets

pub unused_loop : (t : List Row) (line : ℕ) (x : List ℕ) (l u : Expr) (s : Option Expr) (c : _) (block : _) → (HasNoVariables t → IsRight t line (Loop' x l u s c block)) → HasNoVariables t → ⊥
unused_loop t line x l u s c block h none =
    no-loop (h none).around line (standing_of t x) (none.each x) (loop_faultless t (h none).around line x l u s c block (h none).faultless).in_variable

pub shared_block : (t : List Row) (line : ℕ) (c : _) (block : _) → (HasNoVariables t → IsRight t line (Shared' c block)) → HasNoVariables t → AreRight t block
shared_block t line c block h none =
    let stands = shared_parts (h none).place (h none).room line c block (h none).stands in
    record { place = stands.place; room = stands.room; around = within.Shared; stands = stands.stands; faultless = shared_faultless t (h none).around line c block (h none).faultless }

-- ---- lists

pub first_right : {m : Count} (t : List Row) (line : ℕ) (body : Body) (rest : Stmts m) → (HasNoVariables t → AreRight t (more_stmts line body rest)) → HasNoVariables t → IsRight t line body
first_right t line body rest h none = let a = h none in record { place = a.place; room = a.room; around = a.around; stands = a.stands.0; faultless = none_first _ _ a.faultless }

pub rest_right : {m : Count} (t : List Row) (line : ℕ) (body : Body) (rest : Stmts m) → (HasNoVariables t → AreRight t (more_stmts line body rest)) → HasNoVariables t → AreRight t rest
rest_right t line body rest h none = let a = h none in record { place = a.place; room = a.room; around = a.around; stands = a.stands.1; faultless = none_after _ _ a.faultless }

module _ {m : Count} (t : List Row) (own : ℕ) (mask : Expr) (c : _) (block : _) (rest : Elses m) (h : HasNoVariables t → ElsesAreRight t (more_elses (Else' own (Some mask) c block) rest)) where
  pub else_mask : IsClean t own mask
  else_mask = side_clean t own mask (λ none. ((h none).stands.0, none_first _ _ (none_first _ _ (none_first _ _ (h none).faultless))))

  pub else_block : HasNoVariables t → AreRight t block
  else_block none = let a = h none in record { place = in_where; room = a.room; around = else_control t own a.line a.first (Some mask); stands = a.stands.1; faultless = none_after _ _ (none_first _ _ a.faultless) }

  pub else_rest : HasNoVariables t → ElsesAreRight t rest
  else_rest none = let a = h none in record { room = a.room; line = a.line; first = a.first; stands = a.stands.2; faultless = none_after _ _ a.faultless }

module _ {m : Count} (t : List Row) (own : ℕ) (c : _) (block : _) (rest : Elses m) (h : HasNoVariables t → ElsesAreRight t (more_elses (Else' own None c block) rest)) where
  pub last_block : HasNoVariables t → AreRight t block
  last_block none = let a = h none in record { place = in_where; room = a.room; around = else_control t own a.line a.first None; stands = a.stands.0; faultless = none_first _ _ a.faultless }

  pub last_rest : HasNoVariables t → ElsesAreRight t rest
  last_rest none = let a = h none in record { room = 0; line = a.line; first = a.first; stands = no_else rest a.stands.1; faultless = none_after _ _ a.faultless }
