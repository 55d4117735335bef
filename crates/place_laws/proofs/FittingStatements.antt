-- Each list of statements in a lowered source holds what it may.
use Rattle.std.proofs.Common.{◌≡◌, refl, ap, ◌∙◌, ℕ, ◌+◌, Bool, true, false, ◌||◌, List, [], ◌∷◌, ◌++◌, map, Option, Some, None}
use Rattle.std.specs.Prelude.{⊤, not, ◌&&◌}
use Rattle.std.specs.List.{list_all}
use Rattle.std.proofs.Math.Bool.{or-true}
use mathlib.Core.Former.{Count}
use Rattle.ws_tree.specs.declared.expr.Expr.{Expr}
use Rattle.ws_tree.specs.declared.stmt.Body.{Body}
use Rattle.ws_tree.specs.declared.stmt.Body.TheVariants.{Assign, Masked', Forall', Loop', Allocate, Deallocate, Read, Shared', Unsupported, TooDeep as TooDeep'}
use Rattle.ws_tree.specs.declared.stmt.Else.{Else'}
use Rattle.ws_tree.specs.declared.stmt.Stmt.{Stmt}
use Rattle.ws_tree.specs.Trees.{Stmts, end_stmts, more_stmts, Elses, end_elses, more_elses}
use Rattle.ws_types.specs.declared.types.Row.{Row}
use Rattle.ws_types.specs.Tables.{inner}
use Rattle.ws_sema.specs.declared.within.Within.{Within}
use Rattle.ws_sema.specs.declared.within.Within.TheVariants as within
use Rattle.ws_sema.specs.Declarations.{table_of}
use Rattle.ws_sema.specs.Statements.{under, mask_rank, else_control, with_active, block_faults, body_faults, else_mask_faults, else_faults, elses_faults, stmts_faults}
use Rattle.ws_sema.proofs.Accepted.{no_stmt_faults}
use Rattle.ws_sema.proofs.NoFaults.{none_first, none_after}
use Rattle.hlfir_ops.specs.declared.what.What.{What}
use Rattle.hlfir_ops.specs.declared.what.What.TheVariants as what
use Rattle.hlfir_ops.specs.declared.op.ValueId.{ValueId}
use Rattle.hlfir_ops.specs.declared.op.Op.{Op}
use Rattle.hlfir_ops.specs.declared.op.Region.{Region}
use Rattle.hlfir_ops.specs.Trees.{op_of}
use Rattle.hlfir_ops.specs.Numbers.{own_numbers, numbers_of}
use Rattle.hlfir_ops.specs.Rules.{holds_statements}
use Rattle.hlfir_ops.specs.RulesPlaces.{outermost}
use Rattle.hlfir_ops.specs.RulesRegions.{last_of}
use Rattle.hlfir_ops.specs.RulesStatements.{is_statement, is_also, is_like, stands_in_workshare, stands_in_program}
use Rattle.lower_assign.specs.Known.{names_of}
use Rattle.lower_values.specs.Scopes.{Scope, inside, scope_at}
use Rattle.lower_values.specs.Lowerings.{Lowering, ◌>>=◌, in_turn, regions_from, statement_of}
use Rattle.lower_values.specs.References.{declare_of}
use Rattle.lower_values.specs.Values.{value}
use Rattle.lower_assign.specs.Statements.{yielded, all_yielded, left, is_whole_allocatable, assignment, allocation, deallocation, reading}
use Rattle.lower_constructs.specs.Modules.{triple, triples, forall_mask, third, elsewhere, statement, statements, elsewheres, statement_list, declaration, lowered}
use Rattle.place_laws.specs.Laws.{ListsFit}
use Rattle.place_laws.proofs.PlainValues.{plain-value}
use Rattle.place_laws.proofs.PlainSides.{plain-yielded, plain-all_yielded, plain-left, plain-triple, plain-triples}
use Rattle.kind_laws.proofs.Faultless.{where_faultless, forall_faultless, loop_faultless, shared_faultless}
use Rattle.kind_laws.proofs.Ends.{ops-region_of}
use Rattle.place_laws.proofs.Sorts.{program_block, shared_block}
use Rattle.place_laws.proofs.Fitting.{fit, Fits, Enters, AllEnter, enters-plain, fits-by, fits-done, fits-then, fits-scoped, fits-statement}
use Rattle.place_laws.proofs.FittingItems.{items-fit, allocations, deallocations, readings, declares-fit}

-- an op that is a statement without `also`, and one that is none but stands in another list than the module's own
module _ (w : What) (line : ℕ) (operands : List ValueId) (ps : List (Lowering ⊤)) (own : Bool) (before : List Op) (s : Scope) (n : ℕ) (enter : AllEnter ps) (single : is_also w ≡ false) where
  abbrev regions : List Region
  regions = regions_from w line 0 (n + own_numbers None) ps s

  pub statement-fits : is_statement w ≡ true → holds_statements w (regions_from w line 0 (n + own_numbers None) ps s) ≡ true → Fits own before (statement_of w line operands ps s n).ops
  statement-fits is h =
      fits-statement own before w line operands ps s n (fits-by own before w line operands None regions h (ap (λ b. not own || b) is ∙ or-true (not own)) (ap (λ b. not b || is_like (last_of before) (op_of w line operands None regions)) single)) enter

  pub inner-fits : own ≡ false → holds_statements w (regions_from w line 0 (n + own_numbers None) ps s) ≡ true → Fits own before (statement_of w line operands ps s n).ops
  inner-fits is h = fits-statement own before w line operands ps s n (fits-by own before w line operands None regions h (ap (λ b. not b || is_statement w) is) (ap (λ b. not b || is_like (last_of before) (op_of w line operands None regions)) single)) enter

-- ---- statements

fits-value : (e : Expr) → Enters (yielded (value e))
fits-value e = enters-plain (yielded (value e)) (plain-yielded (value e) (plain-value e))

fits-assignment : (line : ℕ) (l r : Expr) (own : Bool) (s : Scope) (n : ℕ) (before : List Op) → Fits own before (assignment line l r s n).ops
unfolding assignment
fits-assignment line l r own s n before =
    let realloc = not s.masked && is_whole_allocatable s.names l in
    fits-scoped own (λ s. statement_of (what.Assign (not s.masked && is_whole_allocatable s.names l)) line [] (yielded (value r) ∷ yielded (left l) ∷ [])) s n before
    (statement-fits (what.Assign realloc) line [] (yielded (value r) ∷ yielded (left l) ∷ []) own before s n (fits-value r, (enters-plain (yielded (left l)) (plain-yielded (left l) (plain-left l)), tt)) refl refl refl)

fits-forall_mask : (mask : Option Expr) (s : Scope) (n : ℕ) (before : List Op) → Fits false before (forall_mask mask s n).ops
unfolding forall_mask
fits-forall_mask None s n before = fits-done false tt s n before
fits-forall_mask (Some e) s n before =
    fits-scoped false (λ s. statement_of what.ForallMask s.line [] (yielded (value e) ∷ [])) s n before
    (inner-fits what.ForallMask s.line [] (yielded (value e) ∷ []) false before s n (fits-value e, tt) refl refl refl)

fits-elsewhere : (line : ℕ) (mask : Option Expr) (block : Lowering ⊤) → Enters block → (s : Scope) (n : ℕ) (before : List Op) → Fits false before (elsewhere line mask block s n).ops
fits-elsewhere line (Some e) block h s n before = inner-fits what.Elsewhere line [] (yielded (value e) ∷ block ∷ []) false before s n (fits-value e, (h, tt)) refl refl refl
fits-elsewhere line None block h s n before = inner-fits what.Elsewhere line [] (block ∷ []) false before s n (h, tt) refl refl refl

enters-third : {m : Count} (rest : Elses m) (p : Lowering ⊤) → Enters p → AllEnter (third rest p)
enters-third end_elses p h = tt
enters-third (more_elses e es) p h = (h, tt)

workshare-holds : {m : Count} (t : List Row) (line n : ℕ) (block : Stmts m) (s : Scope) → block_faults t within.Shared block ≡ [] → holds_statements what.Workshare (regions_from what.Workshare line 0 n (statements block ∷ []) s) ≡ true
workshare-holds t line n block s f =
    let ops = (statements block (inside what.Workshare line 0 n s) (n + 0)).ops in ap (list_all stands_in_workshare) (ops-region_of ops) ∙ shared_block t block f (inside what.Workshare line 0 n s) (n + 0)

loop-holds : {m : Count} (line n : ℕ) (header : Lowering ⊤) (block : Stmts m) (s : Scope) → holds_statements what.DoLoop (regions_from what.DoLoop line 0 n (header ∷ statements block ∷ []) s) ≡ true
loop-holds line n header block s =
    let first = (header (inside what.DoLoop line 0 n s) (n + 0)).ops in
    let m = n + (0 + numbers_of first) in
    let ops = (statements block (inside what.DoLoop line 1 m s) (m + 0)).ops in
    ap (list_all stands_in_program) (ops-region_of ops) ∙ program_block block (inside what.DoLoop line 1 m s) (m + 0)

mutual
  fits-body : (t : List Row) (w : Within) (line : ℕ) (body : Body) → body_faults t w line body ≡ [] → (own : Bool) (s : Scope) (n : ℕ) (before : List Op) → Fits own before (statement line body s n).ops
  fits-body t w line (Assign l r) f own s n before = fits-assignment line l r own s n before
  fits-body t w line (Masked' mask c block d rest) f own s n before =
      let right = where_faultless t w line mask c block d rest f in
      statement-fits what.Masked line [] (yielded (value mask) ∷ statements block ∷ third rest (elsewheres rest)) own before s n
      (fits-value mask, ((λ s n. fits-block t (under t line mask) block right.in_block false s n []), enters-third rest (elsewheres rest) (λ s n. fits-elses t line (mask_rank t mask) rest right.in_rest s n [])))
      refl refl refl
  fits-body t w line (Forall' is mask c block) f own s n before =
      let right = forall_faultless t w line is mask c block f in
      statement-fits (what.Forall (map (λ i. i.name) is)) line [] (all_yielded (triples is) ∷ (forall_mask mask >>= (λ _. statements block)) ∷ []) own before s n (
        enters-plain (all_yielded (triples is)) (plain-all_yielded (triples is) (plain-triples is)),
        (
          (λ s n. fits-then false (forall_mask mask) (λ _. statements block) s n [] (fits-forall_mask mask s n [])
              (fits-block (inner t is) within.Forall block right.in_block false s (n + numbers_of (forall_mask mask s n).ops) (forall_mask mask s n).ops)),
          tt,
        ),
      )
      refl refl refl
  fits-body t w line (Loop' x l u st c block) f own s n before =
      let right = loop_faultless t w line x l u st c block f in
      fits-scoped own (λ s. statement_of what.DoLoop line ((declare_of s.names x).value ∷ []) (all_yielded (triple l u st) ∷ statements block ∷ [])) s n before
      (statement-fits what.DoLoop line ((declare_of s.names x).value ∷ []) (all_yielded (triple l u st) ∷ statements block ∷ []) own before s n
      (enters-plain (all_yielded (triple l u st)) (plain-all_yielded (triple l u st) (plain-triple l u st)), ((λ s n. fits-block (with_active t x) w block right.in_block false s n []), tt))
      refl refl (loop-holds line (n + 0) (all_yielded (triple l u st)) block s))
  fits-body t w line (Shared' c block) f own s n before =
      let inside = shared_faultless t w line c block f in
      statement-fits what.Workshare line [] (statements block ∷ []) own before s n ((λ s n. fits-block t within.Shared block inside false s n []), tt) refl refl (workshare-holds t line (n + 0) block s inside)
  fits-body t w line (Allocate ps) f own s n before = items-fit (allocation line) what.Allocmem line (allocations line) own 0 ps s n before tt
  fits-body t w line (Deallocate xs) f own s n before = items-fit (deallocation line) what.Freemem line (deallocations line) own 0 xs s n before tt
  fits-body t w line (Read es) f own s n before = items-fit (reading line) what.Read line (readings line) own 0 es s n before tt
  fits-body t w line Unsupported f own s n before = fits-done own tt s n before
  fits-body t w line TooDeep' f own s n before = fits-done own tt s n before

  fits-block : {m : Count} (t : List Row) (w : Within) (block : Stmts m) → block_faults t w block ≡ [] → (own : Bool) (s : Scope) (n : ℕ) (before : List Op) → Fits own before (statements block s n).ops
  fits-block t w end_stmts f own s n before = fits-done own tt s n before
  fits-block t w (more_stmts line body rest) f own s n before =
      fits-then own (statement line body) (λ _. statements rest) s n before (fits-body t w line body (none_first _ _ f) own s n before)
      (fits-block t w rest (none_after _ _ f) own s (n + numbers_of (statement line body s n).ops) (before ++ (statement line body s n).ops))

  fits-elses : {m : Count} (t : List Row) (line : ℕ) (first : Option ℕ) (es : Elses m) → elses_faults t line first es ≡ [] → (s : Scope) (n : ℕ) (before : List Op) → Fits false before (elsewheres es s n).ops
  fits-elses t line first end_elses f s n before = fits-done false tt s n before
  fits-elses t line first (more_elses (Else' own mask c block) rest) f s n before =
      let here = none_first (else_faults t line first (Else' own mask c block)) (elses_faults t line first rest) f in
      fits-then false (elsewhere own mask (statements block)) (λ _. elsewheres rest) s n before
      (fits-elsewhere own mask (statements block) (λ s n. fits-block t (else_control t own line first mask) block (none_after (else_mask_faults t own first mask) (block_faults t (else_control t own line first mask) block) here) false s n []) s n before)
      (fits-elses t line first rest (none_after (else_faults t line first (Else' own mask c block)) (elses_faults t line first rest) f) s (n + numbers_of (elsewhere own mask (statements block) s n).ops) (before ++ (elsewhere own mask (statements block) s n).ops))

-- ---- sources

fits-list : (t : List Row) (w : Within) (ts : List Stmt) → stmts_faults t w ts ≡ [] → (own : Bool) (s : Scope) (n : ℕ) (before : List Op) → Fits own before (statement_list ts s n).ops
fits-list t w [] f own s n before = fits-done own tt s n before
fits-list t w (x ∷ xs) f own s n before =
    fits-then own (statement x.line x.body) (λ _. statement_list xs) s n before (fits-body t w x.line x.body (none_first _ _ f) own s n before)
    (fits-list t w xs (none_after _ _ f) own s (n + numbers_of (statement x.line x.body s n).ops) (before ++ (statement x.line x.body s n).ops))

pub lists_fit_in_order : ListsFit
unfolding lowered fit
lists_fit_in_order t h =
    let vs = (names_of t).variables in
    let s = scope_at (names_of t) [] in
    let declares = in_turn declaration 0 vs in
    fits-then true declares (λ _. statement_list t.body) s 0 [] (declares-fit 0 vs s 0 [] refl)
    (fits-list (table_of t.decls) within.Outside t.body (no_stmt_faults t h) true s (0 + numbers_of (declares s 0).ops) (declares s 0).ops)
    outermost 0 [] refl
