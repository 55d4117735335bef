-- The ops of a whole source.
use Rattle.std.proofs.Common.{◌≡◌, refl, sym, ap, subst, inl, inr, ◌⊎◌, ℕ, ◌+◌, List, [], ◌∷◌, ◌++◌, map, length, All, arith}
use Rattle.std.specs.List.{AllByRecursion}
use Rattle.std.proofs.lemmas.List.Elements.{All-head, All-tail}
use Rattle.ws_tree.specs.declared.stmt.Decl.{Decl}
use Rattle.ws_tree.specs.declared.stmt.Stmt.{Stmt}
use Rattle.ws_tree.specs.declared.stmt.Tree.{Tree}
use Rattle.ws_tree.specs.Grammatical.{IsBody}
use Rattle.ws_tree.specs.Grammatical.Within.{anywhere}
use Rattle.ws_types.specs.declared.types.Row.{Row}
use Rattle.ws_types.specs.declared.constant.Constant.{Constant}
use Rattle.ws_sema.specs.declared.within.Within.TheVariants.{Outside}
use Rattle.ws_sema.specs.Checks.{IsAccepted}
use Rattle.ws_sema.specs.Declarations.{table_of, constants_after}
use Rattle.ws_sema.specs.Statements.{stmts_faults}
use Rattle.ws_sema.proofs.NoFaults.{none_first, none_after}
use Rattle.hlfir_ops.specs.declared.op.Op.{Op}
use Rattle.hlfir_ops.specs.Numbers.{numbers_of, kinds_of}
use Rattle.hlfir_ops.proofs.NumberedKinds.{kinds_of-append}
use Rattle.hlfir_ops.proofs.Sites.{defined_by}
use Rattle.lower_assign.specs.Known.{numbered, variable_decls, names_of}
use Rattle.lower_values.specs.Scopes.{Scope, scope_at}
use Rattle.lower_values.specs.Lowerings.{◌>>=◌}
use Rattle.lower_constructs.specs.Modules.{statement_list, lowered}
use Rattle.use_laws.proofs.Counting.{IsArrayAt, array-first, array-rest}
use Rattle.use_laws.proofs.Standing.{HasNoVariables, IsFree, IsFreeVariable, Stands}
use Rattle.use_laws.proofs.Uses.{Uses, kinds_of-length, uses-append}
use Rattle.kind_laws.proofs.DeclaresFound.{declare_op, declares-ops}
use Rattle.use_laws.proofs.Constructs.{IsRightStmt, region-list}
use Rattle.use_laws.proofs.Declares.{declares-kinds, declares-use, numbered-plain, declared-free, no_variables}

-- ---- the statements of an accepted source

all-right : (t : List Row) (ss : List Stmt) → All (λ (s : Stmt). IsBody anywhere 64 s.line s.body) ss → stmts_faults t Outside ss ≡ [] → AllByRecursion (IsRightStmt t) ss
all-right t [] h f = tt
all-right t (s ∷ ss) h f = (
  λ none. record { place = anywhere; room = 64; around = Outside; stands = All-head (λ (r : Stmt). IsBody anywhere 64 r.line r.body) s ss h; faultless = none_first _ _ f },
  all-right t ss (All-tail (λ (r : Stmt). IsBody anywhere 64 r.line r.body) s ss h) (none_after _ _ f),
)

-- ---- the scope outside all statements, after the declares

zero-stands : (k : ℕ) (t : List Row) (E : List ℕ) (cs : List Constant) (ds : List Decl) → (ds ≡ [] → HasNoVariables t) → AllByRecursion (IsFreeVariable k E) (numbered 0 cs ds) → IsFree k E 0 ⊎ HasNoVariables t
zero-stands k t E cs [] none h = inr (none refl)
zero-stands k t E cs (d ∷ ds) none h = inl h.0

module _ (t : Tree) (accepted : IsAccepted t) (k : ℕ) where
  outer : Scope
  outer = scope_at (names_of t) []

  declares : List Op
  declares = map (declare_op outer.line) outer.names.variables

  outer-stands : IsArrayAt k 0 (kinds_of declares) → Stands k (table_of t.decls) (defined_by 0 declares) outer
  unfolding outer declares
  outer-stands strict =
      let cs = constants_after [] t.decls in let ds = variable_decls t.decls in
      let own = subst (IsArrayAt k 0) (declares-kinds outer.line (numbered 0 cs ds)) strict in
      let free = declared-free k outer.line cs ds own in
      record { variables = free; indexes = tt; zero = zero-stands k (table_of t.decls) (defined_by 0 declares) cs ds (no_variables t.decls (none_first _ _ (none_first _ _ accepted.faultless))) free }

  body : List Op
  body = (statement_list t.body outer (0 + numbers_of declares)).ops

  lowered-ops : (lowered t).ops ≡ declares ++ body
  unfolding lowered ◌>>=◌ outer declares body
  lowered-ops = ap (λ l. l ++ (statement_list t.body outer (0 + numbers_of l)).ops) (declares-ops outer.names.variables 0 0 outer)

  both-use : IsArrayAt k 0 (kinds_of (declares ++ body)) → Uses k 0 [] (declares ++ body) 0 0
  unfolding declares outer body
  both-use strict =
      let split = subst (IsArrayAt k 0) (kinds_of-append declares body) strict in
      let first = array-first k 0 (kinds_of declares) (kinds_of body) split in
      let number : 0 + numbers_of declares ≡ 0 + length (kinds_of declares) = omega (arith, kinds_of-length declares) in
      let cs = constants_after [] t.decls in let ds = variable_decls t.decls in
      let right = all-right (table_of t.decls) t.body accepted.grammatical.body (none_after _ _ (none_first _ _ accepted.faultless)) in
      let later = region-list k (table_of t.decls) t.body right outer (0 + numbers_of declares) (defined_by 0 declares) (outer-stands first) in
      uses-append k 0 [] declares body 0 0 0 0 (declares-use outer.line k 0 [] outer.names.variables (numbered-plain 0 cs ds) (subst (IsArrayAt k 0) (declares-kinds outer.line outer.names.variables) first))
      (later.walked (array-rest k 0 (0 + numbers_of declares) (kinds_of declares) (kinds_of body) number split)).uses

  pub lowered-uses : IsArrayAt k 0 (kinds_of (lowered t).ops) → Uses k 0 [] (lowered t).ops 0 0
  lowered-uses strict = subst (λ ops. Uses k 0 [] ops 0 0) (sym lowered-ops) (both-use (subst (λ ops. IsArrayAt k 0 (kinds_of ops)) lowered-ops strict))
