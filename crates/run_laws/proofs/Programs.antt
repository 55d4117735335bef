-- A lowered program means what its source means.
use Rattle.std.proofs.Common.{◌≡◌, refl, sym, ap, ◌∙◌, ℕ, ◌+◌, List, [], ◌++◌, map, append-nil, arith}
use Rattle.ws_space.specs.declared.state.State.{State}
use Rattle.ws_space.specs.Runs.{and_then}
use Rattle.ws_tree.specs.declared.stmt.Tree.{Tree}
use Rattle.ws_sema.specs.declared.within.Within.TheVariants.{Outside as Nothing}
use Rattle.ws_sema.specs.Checks.{IsAccepted}
use Rattle.ws_sema.specs.Declarations.{table_of}
use Rattle.ws_sema.proofs.Accepted.{no_decl_faults, no_stmt_faults}
use Rattle.array_meaning.specs.declared.world.Source.{Source}
use Rattle.array_meaning.specs.Program as program
use Rattle.hlfir_ops.specs.declared.op.Op.{Op}
use Rattle.hlfir_ops.specs.Numbers.{numbers_of}
use Rattle.hlfir_meaning.specs.Statements.{statement_list}
use Rattle.hlfir_meaning.specs.Meaning.{opening, meaning}
use Rattle.lower_values.specs.declared.names.Variable.{Variable}
use Rattle.lower_values.specs.Scopes.{Scope, scope_at}
use Rattle.lower_values.specs.Lowerings.{◌>>=◌, in_turn}
use Rattle.lower_assign.specs.Known.{names_of}
use Rattle.lower_constructs.specs.Modules as module'
use Rattle.lower_constructs.specs.Modules.{declaration, lowered}
use Rattle.kind_laws.proofs.NamesKnown.{names_are_known}
use Rattle.small_laws.proofs.Tables.{declared_fit}
use Rattle.world_laws.specs.Meanings.{ListsMean, LeftsMean, SimplesMean, ProgramsMean}
use Rattle.run_laws.proofs.Appended.{statement_list-append}
use Rattle.run_laws.proofs.Outside.{Outside}
use Rattle.run_laws.proofs.Serial.{RunsAlike}
use Rattle.run_laws.proofs.Statements.{statements_run}
use Rattle.run_laws.proofs.Declares.{beginnings}
use Rattle.run_laws.proofs.Opening.{begun, opening_fits}
use Rattle.run_laws.proofs.Declaring.{declare_op, declares_are, declares_run, declares_numbers, declared_in-declares, of_statements}

module _ (lists : ListsMean) (lefts : LeftsMean) (simples : SimplesMean) (t : Tree) (accepted : IsAccepted t) (bytes : List ℕ) where
  abbrev scope : Scope
  scope = scope_at (names_of t) []

  abbrev variables : List Variable
  variables = (names_of t).variables

  abbrev declares : List Op
  declares = map (declare_op scope) variables

  -- the number of the first value of the statements
  abbrev first : ℕ
  first = 0 + numbers_of declares

  abbrev body : List Op
  body = (module'.statement_list t.body scope first).ops

  ops_front : (lowered t).ops ≡ (let d = (in_turn declaration 0 variables scope 0).ops in d ++ (module'.statement_list t.body scope (0 + numbers_of d)).ops)
  unfolding lowered ◌>>=◌
  ops_front = refl

  ops_are : (lowered t).ops ≡ declares ++ body
  ops_are = ops_front ∙ ap (λ d. d ++ (module'.statement_list t.body scope (0 + numbers_of d)).ops) (declares_are 0 variables scope 0)

  opening_is : opening (declares ++ body) ≡ program.opening t
  opening_is = ap (λ vars. let s : State = record { vars = vars; read_to = 0; steps = 0; regions = 0 } in s)
      (declared_in-declares scope variables body ∙ (ap (λ l. beginnings variables ++ l) (of_statements t.body scope first) ∙ (append-nil (beginnings variables) ∙ sym (begun t accepted).same)))

  outside : Outside (table_of t.decls) scope first
  outside = record {
    knows = names_are_known t accepted;
    fit = declared_fit [] [] t.decls (no_decl_faults t accepted);
    no_index = refl;
    unmasked = refl;
    declared = omega (arith, declares_numbers scope variables);
  }

  abbrev source : Source
  source = program.source_of t bytes

  alike : RunsAlike source (module'.statement_list t.body) (program.statement_list source t.body) scope first
  alike = statements_run lists lefts simples source (table_of t.decls) Nothing t.body scope first outside refl accepted.grammatical.body (no_stmt_faults t accepted)

  meaning_front : meaning (lowered t) bytes ≡ statement_list bytes 0 (lowered t).ops (opening (lowered t).ops)
  unfolding meaning
  meaning_front = refl

  run_back : program.statement_list source t.body (program.opening t) ≡ program.run t bytes
  unfolding program.run
  run_back = refl

  means : meaning (lowered t) bytes ≡ program.run t bytes
  means =
      meaning_front
      ∙ (ap (λ ops. statement_list bytes 0 ops (opening ops)) ops_are
      ∙ (ap (statement_list bytes 0 (declares ++ body)) opening_is
      ∙ (statement_list-append bytes 0 declares body (program.opening t) alike.anew
      ∙ (ap (λ r. and_then r (λ q. statement_list bytes (numbers_of declares + 0) body q)) (declares_run bytes scope 0 variables (program.opening t))
      ∙ (ap (λ k. statement_list bytes k body (program.opening t)) (let e : numbers_of declares + 0 ≡ first = omega arith in e)
      ∙ ((alike.runs (program.opening t) (opening_fits t accepted bytes)).same ∙ run_back))))))

pub programs_mean : ListsMean → LeftsMean → SimplesMean → ProgramsMean
programs_mean lists lefts simples t accepted bytes = means lists lefts simples t accepted bytes
