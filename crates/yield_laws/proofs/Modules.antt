-- Each op of an accepted source's module keeps the rules on yields, sides and declares.
use Rattle.std.proofs.Common.{◌≡◌, refl, sym, subst, ◌+◌, Bool, true, false, List, [], ◌∷◌, ◌++◌, map, All}
use Rattle.std.specs.List.{list_all}
use Rattle.std.proofs.lemmas.List.Elements.{All-head, All-tail, All-append, All-same, All-weaker}
use Rattle.std.proofs.lemmas.Bool.{and_from}
use Rattle.ws_tree.specs.declared.stmt.Tree.{Tree}
use Rattle.ws_sema.specs.declared.within.Within.TheVariants.{Outside}
use Rattle.ws_sema.specs.Checks.{IsAccepted}
use Rattle.ws_sema.specs.Declarations.{table_of, constants_after}
use Rattle.ws_sema.proofs.NoFaults.{none_first, none_after}
use Rattle.hlfir_ops.specs.declared.op.Op.{Op, out-Op}
use Rattle.hlfir_ops.specs.Numbers.{numbers_of}
use Rattle.hlfir_ops.specs.RulesValues.{Value, values_of}
use Rattle.hlfir_ops.specs.RulesPlaces.{Site, sites_of, outermost, module_sites}
use Rattle.hlfir_ops.specs.Rules.{facts_of, yields_of, sides_of, realloc_of, declares_fit}
use Rattle.hlfir_ops.proofs.Sites.{sites_of-append, defined_by}
use Rattle.lower_values.specs.Scopes.{Scope, scope_at}
use Rattle.lower_assign.specs.Known.{names_of, variable_decls, numbered}
use Rattle.lower_values.specs.Lowerings.{◌>>=◌, in_turn}
use Rattle.lower_constructs.specs.Modules.{declaration, statement_list, lowered}
use Rattle.lower_constructs.specs.Sites.{Test, passes, EveryOpPasses}
use Rattle.kind_laws.specs.Found.{Holds, ScopeIsFound}
use Rattle.kind_laws.proofs.NamesKnown.{names_are_known}
use Rattle.yield_laws.specs.Laws.{YieldsAreOfTheirForms, SidesAgree, ReallocsAreOfWholes, DeclaresFit}
use Rattle.yield_laws.proofs.Right.{Keeps, sites-right}
use Rattle.kind_laws.proofs.Finding.{holds_first, holds_after}
use Rattle.kind_laws.proofs.DeclaresFound.{declare_op, declares-ops, outermost_found}
use Rattle.kind_laws.proofs.Held.{held-whole}
use Rattle.yield_laws.proofs.Holders.{statements-right}
use Rattle.yield_laws.proofs.Statements.{walks-statements}
use Rattle.yield_laws.proofs.Declares.{declares-kept}

module _ (t : Tree) (accepted : IsAccepted t) where
  abbrev scope : Scope
  scope = scope_at (names_of t) []

  abbrev declares : List Op
  declares = (in_turn declaration 0 (names_of t).variables scope 0).ops

  abbrev statements : List Op
  statements = (statement_list t.body scope (0 + numbers_of declares)).ops

  abbrev values : List Value
  values = values_of (declares ++ statements)

  held : Holds values 0 (declares ++ statements)
  held = held-whole (declares ++ statements)

  declares_are : declares ≡ map (declare_op scope.line) (numbered 0 (constants_after [] t.decls) (variable_decls t.decls))
  declares_are = declares-ops (names_of t).variables 0 0 scope

  found : ScopeIsFound values scope
  found = outermost_found values t (holds_first values _ declares statements held)

  declare_sites : All (Keeps values) (sites_of outermost [] 0 [] declares)
  declare_sites = subst (λ ops. All (Keeps values) (sites_of outermost [] 0 [] ops)) (sym declares_are)
      (declares-kept values scope.line (constants_after [] t.decls) t.decls [] [] (none_first _ _ (none_first _ _ accepted.faultless)) [] refl (λ x none. refl) outermost 0 0 [])

  statement_sites : All (Keeps values) (sites_of outermost ([] ++ declares) (numbers_of declares + 0) ([] ++ defined_by 0 declares) statements)
  statement_sites =
      let walked = walks-statements values (table_of t.decls) Outside t.body accepted.grammatical.body (none_after _ _ (none_first _ _ accepted.faultless)) scope (names_are_known t accepted) found false
      (record { around = refl; masked = refl }) (0 + numbers_of declares) (holds_after values _ declares statements held) in
      sites-right values false statements (statements-right values false statements walked.0) outermost refl ([] ++ declares) (numbers_of declares + 0) ([] ++ defined_by 0 declares)

  lowered_ops : (lowered t).ops ≡ declares ++ statements
  unfolding lowered ◌>>=◌
  lowered_ops = refl

  every_site : All (Keeps (facts_of (lowered t)).values) (module_sites (lowered t))
  every_site =
      subst (λ ops. All (Keeps (values_of ops)) (sites_of outermost [] 0 [] ops)) (sym lowered_ops)
      (All-same (Keeps values) _ _ (sites_of-append outermost [] 0 [] declares statements) (All-append (Keeps values) _ _ declare_sites statement_sites))

all_pass : (test : Site → Bool) (sites : List Site) → All (λ s. test s ≡ true) sites → list_all test sites ≡ true
all_pass test [] h = refl
all_pass test (s ∷ sites) h = and_from _ _ (All-head (λ s. test s ≡ true) s sites h) (all_pass test sites (All-tail (λ s. test s ≡ true) s sites h))

every : (test : Test) → ((t : Tree) (s : Site) → Keeps (facts_of (lowered t)).values s → passes test (facts_of (lowered t)) s ≡ true) → EveryOpPasses test
every test f t accepted =
    all_pass (passes test (facts_of (lowered t))) (module_sites (lowered t))
    (All-weaker (Keeps (facts_of (lowered t)).values) (λ s. passes test (facts_of (lowered t)) s ≡ true) (f t) (module_sites (lowered t)) (every_site t accepted))

pub yields_are_of_their_forms : YieldsAreOfTheirForms
yields_are_of_their_forms = every (λ f p op. yields_of f.values (out-Op op).what (out-Op op).regions) (λ t s h. h.yields)

pub sides_agree : SidesAgree
sides_agree = every (λ f p op. sides_of f.values (out-Op op).what (out-Op op).regions) (λ t s h. h.sides)

pub reallocs_are_of_wholes : ReallocsAreOfWholes
reallocs_are_of_wholes = every (λ f p op. realloc_of p.around.masked f.values (out-Op op).what (out-Op op).regions) (λ t s h. h.realloc)

pub declares_fit_everywhere : DeclaresFit
declares_fit_everywhere = every (λ f p op. declares_fit p.around.own f.values p.before op) (λ t s h. h.declares)
