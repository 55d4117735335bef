-- Each op of a lowered source has its form.
use Rattle.std.proofs.Common.{◌≡◌, refl, ap, ◌∙◌, Bool, true, ◌&&◌, List, [], ◌∷◌}
use Rattle.std.specs.List.{list_all}
use Rattle.std.proofs.lemmas.Bool.{and_parts}
use Rattle.ws_tree.specs.declared.stmt.Tree.{Tree}
use Rattle.ws_sema.specs.declared.within.Within.TheVariants.{Outside}
use Rattle.ws_sema.specs.Checks.{IsAccepted}
use Rattle.ws_sema.specs.Declarations.{table_of, constants_after}
use Rattle.ws_sema.proofs.Accepted.{no_decl_faults, no_stmt_faults}
use Rattle.hlfir_ops.specs.declared.op.Op.{Op}
use Rattle.hlfir_ops.specs.RulesValues.{Value, values_of}
use Rattle.hlfir_ops.specs.RulesPlaces.{Site, outermost, sites_of, module_sites}
use Rattle.hlfir_ops.specs.Rules.{operands_fit, result_fits, facts_of}
use Rattle.lower_assign.specs.Known.{names_of}
use Rattle.lower_values.specs.Scopes.{Scope, scope_at}
use Rattle.lower_values.specs.Lowerings.{in_turn}
use Rattle.lower_constructs.specs.Modules.{declaration, statement_list, program, lowered}
use Rattle.kind_laws.specs.Found.{Holds}
use Rattle.kind_laws.proofs.NamesKnown.{names_are_known}
use Rattle.kind_laws.proofs.Held.{held-first, held-whole}
use Rattle.kind_laws.proofs.DeclaresFound.{outermost_found}
use Rattle.small_laws.proofs.Tables as tables
use Rattle.form_laws.specs.Laws.{OperandsFit, ResultsFit}
use Rattle.form_laws.proofs.Passing.{site_fits}
use Rattle.form_laws.proofs.Constants.{declared-fit}
use Rattle.form_laws.proofs.Stages.{Stage}
use Rattle.form_laws.proofs.Regions.{Walks, walks-then}
use Rattle.form_laws.proofs.Blocks.{walks-list}
use Rattle.form_laws.proofs.Declares.{variables-are, walks-declarations}

-- ---- two tests at once

all_both : (p q : Site → Bool) (xs : List Site) → list_all (λ s. p s && q s) xs ≡ true → (list_all p xs ≡ true) × (list_all q xs ≡ true)
all_both p q [] h = (refl, refl)
all_both p q (x ∷ xs) h =
    let here = (and_parts (p x && q x) (list_all (λ s. p s && q s) xs) h).0 in
    let more = all_both p q xs ((and_parts (p x && q x) (list_all (λ s. p s && q s) xs) h).1) in
    (ap (λ b. b && list_all p xs) ((and_parts (p x) (q x) here).0) ∙ more.0, ap (λ b. b && list_all q xs) ((and_parts (p x) (q x) here).1) ∙ more.1)

-- ---- a source

module _ (t : Tree) (h : IsAccepted t) where
  abbrev s : Scope
  s = scope_at (names_of t) []

  abbrev ops : List Op
  ops = (program t s 0).ops

  abbrev vs : List Value
  vs = values_of ops

  all_held : Holds vs 0 ops
  all_held = held-whole ops

  stage : Stage vs (table_of t.decls) s
  stage = record {
    knows = names_are_known t h;
    scope = outermost_found vs t (held-first vs (in_turn declaration 0 (names_of t).variables) (λ _. statement_list t.body) s 0 all_held);
    constants = declared-fit t.decls;
    fit = tables.declared_fit [] [] t.decls (no_decl_faults t h);
  }

  walks-program : Walks vs s (program t)
  walks-program = walks-then vs s (in_turn declaration 0 (names_of t).variables) (λ _. statement_list t.body)
      (walks-declarations vs s 0 (names_of t).variables (variables-are (constants_after [] t.decls) t.decls (no_decl_faults t h)))
      (λ _. walks-list vs (table_of t.decls) Outside t.body s stage h.grammatical.body (no_stmt_faults t h))

  all_fit : list_all (site_fits vs) (sites_of outermost [] 0 [] ops) ≡ true
  all_fit = (walks-program.fits 0 all_held).anywhere outermost [] 0 [] refl

  forms : (list_all (λ (x : Site). operands_fit x.place.around.elemental (facts_of (lowered t)).values x.op) (module_sites (lowered t)) ≡ true) × (list_all (λ (x : Site). result_fits (facts_of (lowered t)).values x.op) (module_sites (lowered t)) ≡ true)
  unfolding lowered
  forms = all_both (λ x. operands_fit x.place.around.elemental vs x.op) (λ x. result_fits vs x.op) (sites_of outermost [] 0 [] ops) all_fit

pub operands-fit : OperandsFit
operands-fit t h = (forms t h).0

pub results-fit : ResultsFit
results-fit t h = (forms t h).1
