-- Where no rule is broken in a statement, none is broken in its parts.
use Rattle.std.proofs.Common.{◌≡◌, refl, ℕ, Bool, true, false, List, [], Option, if◌then◌else◌, ◌∷◌, All}
use Rattle.std.specs.List.{AllByRecursion, flat_map}
use Rattle.std.proofs.lemmas.List.Elements.{All-head, All-tail}
use mathlib.Core.Former.{Count}
use Rattle.ws_base.specs.declared.refusal.Refusal.{Refusal}
use Rattle.ws_base.specs.declared.refusal.RefusalKind.TheVariants as kind
use Rattle.ws_tree.specs.declared.expr.Expr.{Expr}
use Rattle.ws_tree.specs.declared.stmt.Index.{Index}
use Rattle.ws_tree.specs.declared.stmt.Part.{Part}
use Rattle.ws_tree.specs.declared.stmt.Body.TheVariants.{Masked', Forall', Loop', Allocate, Deallocate, Read, Shared'}
use Rattle.ws_tree.specs.declared.stmt.Else.{Else'}
use Rattle.ws_tree.specs.Trees.{Stmts, Elses, more_elses}
use Rattle.ws_tree.specs.declared.stmt.Stmt.{Stmt}
use Rattle.ws_tree.specs.Grammatical.{IsBody}
use Rattle.ws_tree.specs.Grammatical.Within.{anywhere}
use Rattle.ws_types.specs.declared.types.Row.{Row}
use Rattle.ws_types.specs.Kinds.{when}
use Rattle.ws_types.specs.Names.{Name, standing_of}
use Rattle.ws_types.specs.Tables.{barred, inner}
use Rattle.ws_types.specs.Expressions.{faults}
use Rattle.ws_types.specs.Lists.{given_faults}
use Rattle.ws_sema.specs.declared.within.Within.{Within}
use Rattle.ws_sema.specs.declared.within.Within.TheVariants as within
use Rattle.ws_sema.specs.Statements.{is_inside, is_masked, is_outside, scalar_expr_faults, header_faults, forall_mask_faults, loop_faults, items_faults, allocations_faults, deallocations_faults, with_active, else_mask_faults, else_control, mask_rank, under, where_mask_faults, block_faults, body_faults, elses_faults}
use Rattle.ws_sema.proofs.NoFaults.{none_first, none_after, impossible, looked_into, allowed}

-- ---- WHERE

pub record WhereFaultless {a b : Count} (t : List Row) (w : Within) (line : ℕ) (mask : Expr) (block : Stmts a) (rest : Elses b) : Type 0 where
  pub in_header : where_mask_faults t w line mask ≡ []
  pub in_mask : faults t false line mask ≡ []
  pub in_block : block_faults t (under t line mask) block ≡ []
  pub in_rest : elses_faults t line (mask_rank t mask) rest ≡ []

pub where_faultless : (t : List Row) (w : Within) (line : ℕ) (mask : Expr) (c : _) (block : _) (d : _) (rest : _) → body_faults t w line (Masked' mask c block d rest) ≡ [] → WhereFaultless t w line mask block rest
where_faultless t w line mask c block d rest f =
    let all = looked_into (is_inside w) line kind.Unsupported _ f in
    let test = none_first _ _ all in
    let header = none_first _ _ test in
    record { in_header = header; in_mask = none_first _ _ header; in_block = none_after _ _ test; in_rest = none_after _ _ all }

pub record ElseFaultless {a b : Count} (t : List Row) (own line : ℕ) (first : Option ℕ) (mask : Option Expr) (block : Stmts a) (rest : Elses b) : Type 0 where
  pub in_header : else_mask_faults t own first mask ≡ []
  pub in_block : block_faults t (else_control t own line first mask) block ≡ []
  pub in_rest : elses_faults t line first rest ≡ []

pub else_faultless : {m : Count} (t : List Row) (own line : ℕ) (first : Option ℕ) (mask : Option Expr) (c : _) (block : _) (rest : Elses m) → elses_faults t line first (more_elses (Else' own mask c block) rest) ≡ [] → ElseFaultless t own line first mask block rest
else_faultless t own line first mask c block rest f = let here = none_first _ _ f in record { in_header = none_first _ _ here; in_block = none_after _ _ here; in_rest = none_after _ _ f }

-- ---- FORALL and DO, which stand in no mask

may_stand : (refused : Bool) (line : ℕ) (xs : List Refusal) → (if refused then when true line kind.Unsupported else xs) ≡ [] → refused ≡ false
may_stand true line xs f = impossible line kind.Unsupported f
may_stand false line xs f = refl

pub record ForallFaultless {a : Count} (t : List Row) (w : Within) (line : ℕ) (is : List Index) (mask : Option Expr) (block : Stmts a) : Type 0 where
  pub unmasked : is_masked w ≡ false
  pub in_triplets : header_faults t (barred t is) line [] is ≡ []
  pub in_mask : forall_mask_faults (inner t is) line mask ≡ []
  pub in_block : block_faults (inner t is) within.Forall block ≡ []

pub forall_faultless : (t : List Row) (w : Within) (line : ℕ) (is : List Index) (mask : Option Expr) (c : _) (block : _) → body_faults t w line (Forall' is mask c block) ≡ [] → ForallFaultless t w line is mask block
forall_faultless t w line is mask c block f =
    let all = looked_into (is_masked w) line kind.Unsupported _ f in
    let header = none_first _ _ all in
    record { unmasked = may_stand (is_masked w) line _ f; in_triplets = none_first _ _ header; in_mask = none_after _ _ header; in_block = none_after _ _ all }

pub record LoopFaultless {a : Count} (t : List Row) (w : Within) (line : ℕ) (x : Name) (l u : Expr) (step : Option Expr) (block : Stmts a) : Type 0 where
  pub in_variable : loop_faults w line (standing_of t x) ≡ []
  pub in_first : scalar_expr_faults t line l ≡ []
  pub in_last : scalar_expr_faults t line u ≡ []
  pub in_step : given_faults t false line step ≡ []
  pub in_block : block_faults (with_active t x) w block ≡ []

pub loop_faultless : (t : List Row) (w : Within) (line : ℕ) (x : Name) (l u : Expr) (step : Option Expr) (c : _) (block : _) → body_faults t w line (Loop' x l u step c block) ≡ [] → LoopFaultless t w line x l u step block
loop_faultless t w line x l u step c block f =
    let all = looked_into (is_masked w) line kind.Unsupported _ f in
    let header = none_first _ _ all in
    let limits = none_first _ _ header in
    let lower = none_first _ _ limits in
    record { in_variable = none_after _ _ (none_first _ _ lower); in_first = none_after _ _ lower; in_last = none_after _ _ limits; in_step = none_after _ _ header; in_block = none_after _ _ all }

-- ---- a workshare, and what stands outside one

pub shared_faultless : (t : List Row) (w : Within) (line : ℕ) (c : _) (block : _) → body_faults t w line (Shared' c block) ≡ [] → block_faults t within.Shared block ≡ []
shared_faultless t w line c block f = allowed (is_outside w) line kind.Unsupported _ f

pub allocate_faultless : (t : List Row) (w : Within) (line : ℕ) (ps : List Part) → body_faults t w line (Allocate ps) ≡ [] → allocations_faults t line ps ≡ []
allocate_faultless t w line ps f = none_after _ _ (looked_into (is_masked w) line kind.Unsupported _ f)

pub deallocate_faultless : (t : List Row) (w : Within) (line : ℕ) (xs : List Name) → body_faults t w line (Deallocate xs) ≡ [] → deallocations_faults t line xs ≡ []
deallocate_faultless t w line xs f = none_after _ _ (looked_into (is_masked w) line kind.Unsupported _ f)

pub read_faultless : (t : List Row) (w : Within) (line : ℕ) (es : List Expr) → body_faults t w line (Read es) ≡ [] → items_faults t line es ≡ []
read_faultless t w line es f = none_after _ _ (looked_into (is_masked w) line kind.Unsupported _ f)

-- each item of a list, where all of them are so
pub each_faultless : {A : Type 0} (P : A → Type 0) (rules : A → List Refusal) (xs : List A) → All P xs → flat_map rules xs ≡ [] → AllByRecursion (λ x. P x × (rules x ≡ [])) xs
each_faultless P rules [] h f = tt
each_faultless P rules (x ∷ xs) h f = ((All-head P x xs h, none_first _ _ f), each_faultless P rules xs (All-tail P x xs h) (none_after _ _ f))

-- ---- a statement of the program that stands in no construct

abbrev pub IsOuter : Stmt → Type 0
IsOuter s = IsBody anywhere 64 s.line s.body
