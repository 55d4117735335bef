-- What sorts of ops a list of statements is lowered to.
use Rattle.std.proofs.Common.{◌≡◌, refl, ap, ◌∙◌, ℕ, suc, ◌+◌, Bool, true, ◌||◌, List, [], ◌∷◌, map, Option, None, nat_lt}
use Rattle.std.specs.Prelude.{⊤, not, ◌&&◌}
use Rattle.std.specs.List.{list_all}
use Rattle.std.proofs.lemmas.Bool.{and_from}
use mathlib.Core.Former.{Count}
use Rattle.ws_base.specs.declared.name.Name.{Name}
use Rattle.ws_base.specs.declared.refusal.RefusalKind.TheVariants as kind
use Rattle.ws_tree.specs.declared.expr.Expr.{Expr}
use Rattle.ws_tree.specs.declared.stmt.Part.{Part}
use Rattle.ws_tree.specs.declared.stmt.Body.{Body}
use Rattle.ws_tree.specs.declared.stmt.Body.TheVariants.{Assign, Masked', Forall', Loop', Allocate, Deallocate, Read, Shared', Unsupported, TooDeep as TooDeep'}
use Rattle.ws_tree.specs.Trees.{Stmts, end_stmts, more_stmts}
use Rattle.ws_types.specs.declared.types.Row.{Row}
use Rattle.ws_sema.specs.declared.within.Within.TheVariants as within
use Rattle.ws_sema.specs.Statements.{serial_faults, block_faults, body_faults}
use Rattle.ws_sema.proofs.NoFaults.{none_first, none_after, impossible}
use Rattle.hlfir_ops.specs.declared.what.What.{What}
use Rattle.hlfir_ops.specs.declared.what.What.TheVariants as what
use Rattle.hlfir_ops.specs.declared.op.ValueId.{ValueId}
use Rattle.hlfir_ops.specs.declared.op.Op.{out-Op}
use Rattle.hlfir_ops.specs.Numbers.{own_numbers, numbers_of}
use Rattle.hlfir_ops.specs.RulesStatements.{is_assign, is_where, is_forall, is_statement, stands_in_where, stands_in_workshare, stands_in_program, assigns}
use Rattle.lower_values.specs.Scopes.{Scope}
use Rattle.lower_values.specs.Lowerings.{Lowering, done, ◌>>=◌, scoped, in_turn, regions_from, holding, statement_of}
use Rattle.lower_values.specs.References.{declare_of}
use Rattle.lower_values.specs.Values.{value}
use Rattle.lower_assign.specs.Statements.{yielded, all_yielded, left, item, is_whole_allocatable, assignment, all_bounds, allocation, deallocation, reading}
use Rattle.lower_constructs.specs.Modules.{triple, triples, forall_mask, third, statement, statements, elsewheres}
use Rattle.place_laws.proofs.Printed.{all-append, parts-op_of}

-- each op of the list has a sort that passes this test
abbrev pub Sorted : {A : Type 0} → (What → Bool) → Lowering A → Type 0
Sorted test p = (s : Scope) (n : ℕ) → list_all (λ op. test (out-Op op).what) (p s n).ops ≡ true

module _ (test : What → Bool) where
  pub sorted-done : {A : Type 0} (x : A) → Sorted test (done x)
  unfolding done
  sorted-done x s n = refl

  pub sorted-then : {A B : Type 0} (p : Lowering A) (q : A → Lowering B) → Sorted test p → ((x : A) → Sorted test (q x)) → Sorted test (p >>= q)
  unfolding ◌>>=◌
  sorted-then p q h g s n =
      all-append (λ op. test (out-Op op).what) (p s n).ops (q (p s n).made s (n + numbers_of (p s n).ops)).ops (h s n) (g (p s n).made s (n + numbers_of (p s n).ops))

  pub sorted-scoped : {A : Type 0} (f : Scope → Lowering A) → ((s : Scope) → Sorted test (f s)) → Sorted test (scoped f)
  unfolding scoped
  sorted-scoped f h s n = h s s n

  pub sorted-statement : (w : What) (line : ℕ) (operands : List ValueId) (ps : List (Lowering ⊤)) → test w ≡ true → Sorted test (statement_of w line operands ps)
  unfolding statement_of
  sorted-statement w line operands ps h s n =
      let op = holding w line operands None ps s n in
      and_from (test (out-Op op).what) true (ap (λ f. test f.what) (parts-op_of w line operands None (regions_from w line 0 (n + own_numbers None) ps s)) ∙ h) refl

  pub sorted-in_turn : {A : Type 0} (f : ℕ → A → Lowering ⊤) (k : ℕ) (xs : List A) → ((k : ℕ) (x : A) → Sorted test (f k x)) → Sorted test (in_turn f k xs)
  unfolding in_turn
  sorted-in_turn f k [] h = sorted-done tt
  sorted-in_turn f k (x ∷ xs) h = sorted-then (f k x) (λ _. in_turn f (suc k) xs) (h k x) (λ _. sorted-in_turn f (suc k) xs h)

  -- ---- statements

  -- what the test has to say of a statement
  abbrev pub Passes : Body → Type 0
  Passes (Assign l r) = (realloc : Bool) → test (what.Assign realloc) ≡ true
  Passes (Masked' mask _ block _ rest) = test what.Masked ≡ true
  Passes (Forall' is mask _ block) = (names : List Name) → test (what.Forall names) ≡ true
  Passes (Loop' x l u s _ block) = test what.DoLoop ≡ true
  Passes (Shared' _ block) = test what.Workshare ≡ true
  Passes (Allocate ps) = (also : Bool) → test (what.Allocmem also) ≡ true
  Passes (Deallocate xs) = (also : Bool) → test (what.Freemem also) ≡ true
  Passes (Read es) = (also : Bool) → test (what.Read also) ≡ true
  Passes Unsupported = Unit {0}
  Passes TooDeep' = Unit {0}

  pub sorted-assignment : (line : ℕ) (l r : Expr) → ((realloc : Bool) → test (what.Assign realloc) ≡ true) → Sorted test (assignment line l r)
  unfolding assignment
  sorted-assignment line l r h =
      sorted-scoped (λ s. statement_of (what.Assign (not s.masked && is_whole_allocatable s.names l)) line [] (yielded (value r) ∷ yielded (left l) ∷ []))
      (λ s. sorted-statement (what.Assign (not s.masked && is_whole_allocatable s.names l)) line [] (yielded (value r) ∷ yielded (left l) ∷ []) (h (not s.masked && is_whole_allocatable s.names l)))

  sorted-allocation : (line : ℕ) (also : Bool) (p : Part) → test (what.Allocmem also) ≡ true → Sorted test (allocation line also p)
  unfolding allocation
  sorted-allocation line also p h =
      sorted-scoped (λ s. statement_of (what.Allocmem also) line ((declare_of s.names p.name).value ∷ []) (all_yielded (all_bounds p.shape) ∷ []))
      (λ s. sorted-statement (what.Allocmem also) line ((declare_of s.names p.name).value ∷ []) (all_yielded (all_bounds p.shape) ∷ []) h)

  sorted-deallocation : (line : ℕ) (also : Bool) (x : Name) → test (what.Freemem also) ≡ true → Sorted test (deallocation line also x)
  unfolding deallocation
  sorted-deallocation line also x h =
      sorted-scoped (λ s. statement_of (what.Freemem also) line ((declare_of s.names x).value ∷ []) []) (λ s. sorted-statement (what.Freemem also) line ((declare_of s.names x).value ∷ []) [] h)

  sorted-reading : (line : ℕ) (also : Bool) (e : Expr) → test (what.Read also) ≡ true → Sorted test (reading line also e)
  unfolding reading
  sorted-reading line also e h = sorted-statement (what.Read also) line [] (yielded (item e) ∷ []) h

  pub sorted-body : (line : ℕ) (body : Body) → Passes body → Sorted test (statement line body)
  sorted-body line (Assign l r) h = sorted-assignment line l r h
  sorted-body line (Masked' mask _ block _ rest) h = sorted-statement what.Masked line [] (yielded (value mask) ∷ statements block ∷ third rest (elsewheres rest)) h
  sorted-body line (Forall' is mask _ block) h =
      sorted-statement (what.Forall (map (λ i. i.name) is)) line [] (all_yielded (triples is) ∷ (forall_mask mask >>= (λ _. statements block)) ∷ []) (h (map (λ i. i.name) is))
  sorted-body line (Loop' x l u s _ block) h =
      sorted-scoped (λ c. statement_of what.DoLoop line ((declare_of c.names x).value ∷ []) (all_yielded (triple l u s) ∷ statements block ∷ []))
      (λ c. sorted-statement what.DoLoop line ((declare_of c.names x).value ∷ []) (all_yielded (triple l u s) ∷ statements block ∷ []) h)
  sorted-body line (Shared' _ block) h = sorted-statement what.Workshare line [] (statements block ∷ []) h
  sorted-body line (Allocate ps) h = sorted-in_turn (λ k. allocation line (nat_lt 0 k)) 0 ps (λ k p. sorted-allocation line (nat_lt 0 k) p (h (nat_lt 0 k)))
  sorted-body line (Deallocate xs) h = sorted-in_turn (λ k. deallocation line (nat_lt 0 k)) 0 xs (λ k x. sorted-deallocation line (nat_lt 0 k) x (h (nat_lt 0 k)))
  sorted-body line (Read es) h = sorted-in_turn (λ k. reading line (nat_lt 0 k)) 0 es (λ k e. sorted-reading line (nat_lt 0 k) e (h (nat_lt 0 k)))
  sorted-body line Unsupported h = sorted-done tt
  sorted-body line TooDeep' h = sorted-done tt

  abbrev pub AllPass : {m : Count} → Stmts m → Type 0
  AllPass end_stmts = Unit {0}
  AllPass (more_stmts line body rest) = Passes body × AllPass rest

  pub sorted-block : {m : Count} (block : Stmts m) → AllPass block → Sorted test (statements block)
  sorted-block end_stmts h = sorted-done tt
  sorted-block (more_stmts line body rest) h = sorted-then (statement line body) (λ _. statements rest) (sorted-body line body h.0) (λ _. sorted-block rest h.1)

-- ---- where they may stand

any_statement : (body : Body) → Passes is_statement body
any_statement (Assign l r) = λ realloc. refl
any_statement (Masked' mask _ block _ rest) = refl
any_statement (Forall' is mask _ block) = λ names. refl
any_statement (Loop' x l u s _ block) = refl
any_statement (Shared' _ block) = refl
any_statement (Allocate ps) = λ also. refl
any_statement (Deallocate xs) = λ also. refl
any_statement (Read es) = λ also. refl
any_statement Unsupported = tt
any_statement TooDeep' = tt

all_statements : {m : Count} (block : Stmts m) → AllPass is_statement block
all_statements end_stmts = tt
all_statements (more_stmts line body rest) = (any_statement body, all_statements rest)

pub program_block : {m : Count} (block : Stmts m) (s : Scope) (n : ℕ) → list_all stands_in_program (statements block s n).ops ≡ true
program_block block s n = sorted-block is_statement block (all_statements block) s n

-- under a mask

in_where : What → Bool
in_where w = is_assign w || is_where w

masked_statement : (t : List Row) (l : ℕ) (rank : Option ℕ) (line : ℕ) (body : Body) → body_faults t (within.Masked l rank) line body ≡ [] → Passes in_where body
unfolding in_where
masked_statement t l rank line (Assign left right) f = λ realloc. refl
masked_statement t l rank line (Masked' mask _ block _ rest) f = refl
masked_statement t l rank line Unsupported f = tt
masked_statement t l rank line TooDeep' f = tt
masked_statement t l rank line _ f = impossible line kind.Unsupported f

masked_statements : {m : Count} (t : List Row) (l : ℕ) (rank : Option ℕ) (block : Stmts m) → block_faults t (within.Masked l rank) block ≡ [] → AllPass in_where block
masked_statements t l rank end_stmts f = tt
masked_statements t l rank (more_stmts line body rest) f = (masked_statement t l rank line body (none_first _ _ f), masked_statements t l rank rest (none_after _ _ f))

pub where_block : {m : Count} (t : List Row) (l : ℕ) (rank : Option ℕ) (block : Stmts m) → block_faults t (within.Masked l rank) block ≡ [] → (s : Scope) (n : ℕ) → list_all stands_in_where (statements block s n).ops ≡ true
unfolding in_where
where_block t l rank block f s n = sorted-block in_where block (masked_statements t l rank block f) s n

-- in a workshare region

in_workshare : What → Bool
in_workshare w = is_assign w || is_where w || is_forall w

shared_statement : (t : List Row) (line : ℕ) (body : Body) → body_faults t within.Shared line body ≡ [] → Passes in_workshare body
unfolding in_workshare serial_faults
shared_statement t line (Assign left right) f = λ realloc. refl
shared_statement t line (Masked' mask _ block _ rest) f = refl
shared_statement t line (Forall' is mask _ block) f = λ names. refl
shared_statement t line (Loop' x lower upper s _ block) f = impossible line kind.NotInWorkshare (none_first _ _ (none_first _ _ (none_first _ _ (none_first _ _ (none_first _ _ f)))))
shared_statement t line (Shared' _ block) f = impossible line kind.Unsupported f
shared_statement t line (Allocate ps) f = impossible line kind.NotInWorkshare (none_first _ _ f)
shared_statement t line (Deallocate xs) f = impossible line kind.NotInWorkshare (none_first _ _ f)
shared_statement t line (Read es) f = impossible line kind.NotInWorkshare (none_first _ _ f)
shared_statement t line Unsupported f = tt
shared_statement t line TooDeep' f = tt

shared_statements : {m : Count} (t : List Row) (block : Stmts m) → block_faults t within.Shared block ≡ [] → AllPass in_workshare block
shared_statements t end_stmts f = tt
shared_statements t (more_stmts line body rest) f = (shared_statement t line body (none_first _ _ f), shared_statements t rest (none_after _ _ f))

pub shared_block : {m : Count} (t : List Row) (block : Stmts m) → block_faults t within.Shared block ≡ [] → (s : Scope) (n : ℕ) → list_all stands_in_workshare (statements block s n).ops ≡ true
unfolding in_workshare
shared_block t block f s n = sorted-block in_workshare block (shared_statements t block f) s n

-- in a FORALL

inner_statement : (t : List Row) (line : ℕ) (body : Body) → body_faults t within.Forall line body ≡ [] → Passes is_assign body
inner_statement t line (Assign left right) f = λ realloc. refl
inner_statement t line Unsupported f = tt
inner_statement t line TooDeep' f = tt
inner_statement t line _ f = impossible line kind.Unsupported f

inner_statements : {m : Count} (t : List Row) (block : Stmts m) → block_faults t within.Forall block ≡ [] → AllPass is_assign block
inner_statements t end_stmts f = tt
inner_statements t (more_stmts line body rest) f = (inner_statement t line body (none_first _ _ f), inner_statements t rest (none_after _ _ f))

pub forall_block : {m : Count} (t : List Row) (block : Stmts m) → block_faults t within.Forall block ≡ [] → (s : Scope) (n : ℕ) → list_all assigns (statements block s n).ops ≡ true
forall_block t block f s n = sorted-block is_assign block (inner_statements t block f) s n
