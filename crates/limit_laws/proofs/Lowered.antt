-- The module of each accepted source keeps the limits.
use Rattle.std.proofs.Common.{◌≡◌, refl, sym, ap, ◌∙◌, ◌+◌, true, List, [], ◌++◌, arith, append-nil}
use Rattle.std.specs.Prelude.{⊤}
use Rattle.std.specs.List.{list_all}
use Rattle.std.proofs.lemmas.Bool.{and_from}
use Rattle.std.proofs.lemmas.List.Folds.{list_all-append}
use Rattle.ws_tree.specs.declared.stmt.Tree.{Tree}
use Rattle.ws_sema.specs.Checks.{IsAccepted}
use Rattle.ws_sema.specs.Declarations.{table_of, constants_after}
use Rattle.hlfir_ops.specs.declared.op.Op.{Op}
use Rattle.hlfir_ops.specs.Numbers.{numbers_of}
use Rattle.hlfir_ops.specs.RulesValues.{Value, values_of}
use Rattle.hlfir_ops.specs.RulesPlaces.{sites_of, outermost}
use Rattle.lower_values.specs.Scopes.{Scope, scope_at}
use Rattle.lower_values.specs.Lowerings.{Lowering, ◌>>=◌ as ◌then◌, in_turn}
use Rattle.lower_assign.specs.Known.{names_of}
use Rattle.lower_constructs.specs.Modules.{declaration, statement_list, lowered}
use Rattle.small_laws.proofs.NoFaults.{none_first, none_after}
use Rattle.small_laws.proofs.Accepted.{accepted_small}
use Rattle.hlfir_ops.proofs.Sites.{sites_of-append, defined_by}
use Rattle.kind_laws.specs.Found.{Holds, ScopeIsFound}
use Rattle.kind_laws.proofs.TypedExpressions.{types_are_known}
use Rattle.kind_laws.proofs.ExpressionsMade.{kinds_are_types}
use Rattle.kind_laws.proofs.ExpressionsFound.{values_are_found}
use Rattle.kind_laws.proofs.NamesKnown.{names_are_known}
use Rattle.kind_laws.proofs.Held.{held-first, held-rest}
use Rattle.kind_laws.proofs.DeclaresFound.{outermost_found}
use Rattle.limit_laws.specs.Laws.{EveryOpKeepsTheLimits}
use Rattle.limit_laws.proofs.Passing.{fits_there}
use Rattle.limit_laws.proofs.ProgramBlocks.{list-passes}
use Rattle.limit_laws.proofs.Shapes.{variables-small}
use Rattle.limit_laws.proofs.Declared.{few-variables, declares-pass}

module _ (t : Tree) (h : IsAccepted t) where
  abbrev scope : Scope
  scope = scope_at (names_of t) []

  abbrev declares : Lowering ⊤
  declares = in_turn declaration 0 (names_of t).variables

  abbrev first : List Op
  first = (declares scope 0).ops

  abbrev rest : List Op
  rest = (statement_list t.body scope (0 + numbers_of first)).ops

  abbrev vs : List Value
  vs = values_of (first ++ rest)

  whole : Holds vs 0 ((declares then (λ _. statement_list t.body)) scope 0).ops
  unfolding ◌then◌
  whole = record { before = []; after = []; whole = sym (append-nil vs); count = refl }

  scope_found : ScopeIsFound vs scope
  scope_found = outermost_found vs t (held-first vs declares (λ _. statement_list t.body) scope 0 whole)

  all_fit : list_all (fits_there vs) (sites_of outermost [] 0 [] (first ++ rest)) ≡ true
  all_fit =
      ap (list_all (fits_there vs)) (sites_of-append outermost [] 0 [] first rest)
      ∙ (list_all-append (fits_there vs) (sites_of outermost [] 0 [] first) (sites_of outermost ([] ++ first) (numbers_of first + 0) ([] ++ defined_by 0 first) rest)
      ∙ and_from _ _
      (declares-pass vs scope outermost 0 0 (names_of t).variables [] 0 [] (omega (arith, few-variables (constants_after [] t.decls) t.decls (none_first _ _ (none_first _ _ h.faultless)))) (variables-small t.decls (none_first _ _ (none_first _ _ h.faultless))))
      (list-passes types_are_known kinds_are_types values_are_found vs (table_of t.decls) t.body h.grammatical.body (accepted_small t h) (none_after _ _ (none_first _ _ h.faultless)) (none_after _ _ h.faultless) scope (0 + numbers_of first) outermost (names_are_known t h) scope_found (omega arith)
      (held-rest vs declares (λ _. statement_list t.body) scope 0 whole) ([] ++ first) (numbers_of first + 0) ([] ++ defined_by 0 first)))

pub every_op_keeps_the_limits : EveryOpKeepsTheLimits
unfolding lowered ◌then◌
every_op_keeps_the_limits t h = all_fit t h
