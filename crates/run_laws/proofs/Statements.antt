-- Lowered statements run as their sources do.
use Rattle.std.proofs.Common.{◌≡◌, refl, sym, ap, ◌∙◌, subst, ℕ, ◌+◌, ◌≤◌, false, List, [], ◌∷◌, ◌++◌, length, All, Ok, arith}
use Rattle.std.proofs.lemmas.List.Elements.{All-head, All-tail}
use Rattle.std.specs.Prelude.{⊤}
use mathlib.Core.Former.{Count}
use Rattle.ws_base.specs.declared.refusal.RefusalKind.TheVariants as kind
use Rattle.ws_space.specs.declared.state.State.{State}
use Rattle.ws_space.specs.Runs.{Run, run_of, and_then}
use Rattle.ws_tree.specs.declared.expr.Expr.{Expr}
use Rattle.ws_tree.specs.declared.stmt.Part.{Part}
use Rattle.ws_tree.specs.declared.stmt.Stmt.{Stmt}
use Rattle.ws_tree.specs.declared.stmt.Body.{Body}
use Rattle.ws_tree.specs.declared.stmt.Body.TheVariants.{Assign, Masked', Forall', Loop', Allocate, Deallocate, Read, Shared', Unsupported, TooDeep as TooDeep'}
use Rattle.ws_tree.specs.Trees.{Stmts, end_stmts, more_stmts}
use Rattle.ws_tree.specs.Grammatical as grammar
use Rattle.ws_tree.specs.Grammatical.{IsSide, IsOptional, IsDesignator, IsPart, IsBody, AreStmts}
use Rattle.ws_tree.specs.Grammatical.Within.{anywhere, in_where, in_forall}
use Rattle.ws_types.specs.declared.types.Row.{Row}
use Rattle.ws_sema.specs.declared.within.Within.{Within}
use Rattle.ws_sema.specs.Statements.{is_masked, allocations_faults, deallocations_faults, items_faults, with_active, block_faults, body_faults, stmts_faults}
use Rattle.ws_sema.proofs.Grammar.{loop_parts, shared_parts}
use Rattle.array_meaning.specs.declared.world.Source.{Source}
use Rattle.array_meaning.specs.Program as program
use Rattle.hlfir_ops.specs.Numbers.{numbers_of}
use Rattle.hlfir_meaning.specs.Statements as lowered
use Rattle.lower_values.specs.Scopes.{Scope}
use Rattle.lower_values.specs.Lowerings.{Lowering, done, ◌>>=◌ as ◌then◌}
use Rattle.lower_constructs.specs.Modules.{statement, statements, statement_list}
use Rattle.small_laws.proofs.NoFaults.{none_first, none_after, impossible}
use Rattle.kind_laws.proofs.Faultless.{loop_faultless, shared_faultless, allocate_faultless, deallocate_faultless, read_faultless, IsOuter}
use Rattle.world_laws.specs.Meanings.{ListsMean, LeftsMean, SimplesMean}
use Rattle.run_laws.proofs.InOrder.{same-then}
use Rattle.run_laws.proofs.Loops.{FitsState}
use Rattle.run_laws.proofs.Appended.{StartsAnew, anew-append, statement_list-append}
use Rattle.run_laws.proofs.Outside.{Outside, outside-later}
use Rattle.run_laws.proofs.Serial.{RunsAlike, same-moved, allocate_runs, deallocate_runs, read_runs}
use Rattle.run_laws.proofs.Constructs.{assign_runs, where_runs, forall_runs, shared_runs, block_outside, loop_runs}

-- ---- what the grammar says of lists of ALLOCATE, DEALLOCATE and READ: that they are not empty, too

allocated_parts : (k : grammar.Within) (room line : ℕ) (ps : List Part) → IsBody k room line (Allocate ps) → (1 ≤ length ps) × All IsPart ps
allocated_parts anywhere room line ps h = h
allocated_parts in_where room line ps h = absurd h
allocated_parts in_forall room line ps h = absurd h

deallocated_parts : (k : grammar.Within) (room line : ℕ) (xs : _) → IsBody k room line (Deallocate xs) → 1 ≤ length xs
deallocated_parts anywhere room line xs h = h
deallocated_parts in_where room line xs h = absurd h
deallocated_parts in_forall room line xs h = absurd h

read_parts : (k : grammar.Within) (room line : ℕ) (es : List Expr) → IsBody k room line (Read es) → (1 ≤ length es) × All IsDesignator es
read_parts anywhere room line es h = h
read_parts in_where room line es h = absurd h
read_parts in_forall room line es h = absurd h

-- ---- one after another

none_runs : (g : Source) (p : Lowering ⊤) (q : State → Run) (s : Scope) (n : ℕ) → (p s n).ops ≡ [] → ((st : State) → q st ≡ run_of (Ok st)) → RunsAlike g p q s n
none_runs g p q s n none done = record {
  anew = subst StartsAnew (sym none) tt;
  runs = λ st fits. same-moved (FitsState g s.names) _ _ _ _ (ap (λ ops. lowered.statement_list g.input n ops st) none) (done st) (record { same = refl; ends = fits });
}

module _ (g : Source) (p q : Lowering ⊤) (a b : State → Run) (s : Scope) (n : ℕ) where
  abbrev past : ℕ
  past = n + numbers_of (p s n).ops

  both_ops : ((p then (λ _. q)) s n).ops ≡ (p s n).ops ++ (q s past).ops
  unfolding ◌then◌
  both_ops = refl

  then_runs : RunsAlike g p a s n → RunsAlike g q b s past → RunsAlike g (p then (λ _. q)) (λ st. and_then (a st) b) s n
  then_runs h k = record {
    anew = subst StartsAnew (sym both_ops) (anew-append (p s n).ops (q s past).ops h.anew k.anew);
    runs = λ st fits. same-moved (FitsState g s.names) _ _ _ _
        (ap (λ ops. lowered.statement_list g.input n ops st) both_ops
        ∙ (statement_list-append g.input n (p s n).ops (q s past).ops st k.anew
        ∙ ap (λ m. and_then (lowered.statement_list g.input n (p s n).ops st) (λ r. lowered.statement_list g.input m (q s past).ops r)) (let e : numbers_of (p s n).ops + n ≡ past = omega arith in e)))
        refl (same-then (FitsState g s.names) _ _ _ _ (h.runs st fits) (λ r fit. k.runs r fit));
  }

moved_runs : (g : Source) (p : Lowering ⊤) (a b : State → Run) (s : Scope) (n : ℕ) → ((st : State) → b st ≡ a st) → RunsAlike g p a s n → RunsAlike g p b s n
moved_runs g p a b s n e h = record { anew = h.anew; runs = λ st fits. same-moved (FitsState g s.names) _ _ _ _ refl (e st) (h.runs st fits) }

statements_source : {m : Count} (g : Source) (line : ℕ) (body : Body) (rest : Stmts m) (st : State) → program.statements g (more_stmts line body rest) st ≡ and_then (program.statement g line body st) (λ r. program.statements g rest r)
unfolding program.statements
statements_source g line body rest st = refl

end_source : (g : Source) (st : State) → program.statements g end_stmts st ≡ run_of (Ok st)
unfolding program.statements
end_source g st = refl

end_ops : (s : Scope) (n : ℕ) → (statements end_stmts s n).ops ≡ []
unfolding done
end_ops s n = refl

-- ---- statements that hold no others

module _ (lists : ListsMean) (lefts : LeftsMean) (g : Source) (t : List Row) (line : ℕ) (s : Scope) (n : ℕ) (outside : Outside t s n) where
  allocated : (ps : List Part) → 1 ≤ length ps → All IsPart ps → allocations_faults t line ps ≡ [] → RunsAlike g (statement line (Allocate ps)) (program.statement g line (Allocate ps)) s n
  allocated [] some parts f = absurd (omega (arith, some))
  allocated (p ∷ ps) some parts f = allocate_runs g t line s n outside lists p ps parts f

  deallocated : (xs : _) → 1 ≤ length xs → deallocations_faults t line xs ≡ [] → RunsAlike g (statement line (Deallocate xs)) (program.statement g line (Deallocate xs)) s n
  deallocated [] some f = absurd (omega (arith, some))
  deallocated (x ∷ xs) some f = deallocate_runs g t line s n outside x xs f

  read : (es : List Expr) → 1 ≤ length es → All IsDesignator es → items_faults t line es ≡ [] → RunsAlike g (statement line (Read es)) (program.statement g line (Read es)) s n
  read [] some each f = absurd (omega (arith, some))
  read (e ∷ es) some each f = read_runs g t line s n outside lefts e es each f

-- ---- all

module _ (lists : ListsMean) (lefts : LeftsMean) (simples : SimplesMean) (g : Source) where
  mutual
    pub body_runs : (k : grammar.Within) (room : ℕ) (t : List Row) (w : Within) (line : ℕ) (body : Body) (s : Scope) (n : ℕ) → Outside t s n → is_masked w ≡ false → IsBody k room line body → body_faults t w line body ≡ [] →
        RunsAlike g (statement line body) (program.statement g line body) s n
    body_runs k room t w line (Assign left right) s n outside free h f = assign_runs simples g k room t w line s n outside free left right h f
    body_runs k room t w line (Masked' mask c block d rest) s n outside free h f = where_runs simples g k room t w line s n outside free mask c block d rest h f
    body_runs k room t w line (Forall' is mask c block) s n outside free h f = forall_runs simples g k room t w line s n outside free is mask c block h f
    body_runs k room t w line (Loop' x l u e c block) s n outside free h f =
        let parts = loop_parts k room line x l u e c block h in
        let sides : IsSide l × IsSide u × IsOptional e = (parts.0, parts.1, parts.2) in
        let good = loop_faultless t w line x l u e c block f in
        loop_runs lists g t w line s n outside x l u e c block sides good.in_first good.in_last good.in_step good.in_variable
        (block_runs parts.3.place parts.3.room (with_active t x) w block _ _ (block_outside lists g t w line s n outside x l u e c block sides good.in_first good.in_last good.in_step good.in_variable) free parts.3.stands good.in_block).runs
    body_runs k room t w line (Allocate ps) s n outside free h f =
        let parts = allocated_parts k room line ps h in allocated lists lefts g t line s n outside ps parts.0 parts.1 (allocate_faultless t w line ps f)
    body_runs k room t w line (Deallocate xs) s n outside free h f = deallocated lists lefts g t line s n outside xs (deallocated_parts k room line xs h) (deallocate_faultless t w line xs f)
    body_runs k room t w line (Read es) s n outside free h f =
        let parts = read_parts k room line es h in read lists lefts g t line s n outside es parts.0 parts.1 (read_faultless t w line es f)
    body_runs k room t w line (Shared' c block) s n outside free h f =
        let parts = shared_parts k room line c block h in
        shared_runs simples g parts.place parts.room t line s n outside c block parts.stands (shared_faultless t w line c block f)
    body_runs k room t w line Unsupported s n outside free h f = impossible line kind.Unsupported f
    body_runs k room t w line TooDeep' s n outside free h f = impossible line kind.OverLimit f

    block_runs : {m : Count} (k : grammar.Within) (room : ℕ) (t : List Row) (w : Within) (block : Stmts m) (s : Scope) (n : ℕ) → Outside t s n → is_masked w ≡ false → AreStmts k room block → block_faults t w block ≡ [] →
        RunsAlike g (statements block) (program.statements g block) s n
    block_runs k room t w end_stmts s n outside free h f = none_runs g (statements end_stmts) (program.statements g end_stmts) s n (end_ops s n) (end_source g)
    block_runs k room t w (more_stmts line body rest) s n outside free h f =
        let m = n + numbers_of (statement line body s n).ops in
        moved_runs g (statements (more_stmts line body rest)) _ _ s n (statements_source g line body rest)
        (then_runs g (statement line body) (statements rest) (program.statement g line body) (program.statements g rest) s n
        (body_runs k room t w line body s n outside free h.0 (none_first _ _ f))
        (block_runs k room t w rest s m (outside-later t s n m outside (omega arith)) free h.1 (none_after _ _ f)))

  no_statements : (s : Scope) (n : ℕ) → (statement_list [] s n).ops ≡ []
  unfolding done
  no_statements s n = refl

  pub statements_run : (t : List Row) (w : Within) (ss : List Stmt) (s : Scope) (n : ℕ) → Outside t s n → is_masked w ≡ false → All IsOuter ss → stmts_faults t w ss ≡ [] → RunsAlike g (statement_list ss) (program.statement_list g ss) s n
  statements_run t w [] s n outside free h f = none_runs g (statement_list []) (program.statement_list g []) s n (no_statements s n) (λ st. refl)
  statements_run t w (x ∷ ss) s n outside free h f =
      let m = n + numbers_of (statement x.line x.body s n).ops in
      then_runs g (statement x.line x.body) (statement_list ss) (program.statement g x.line x.body) (program.statement_list g ss) s n
      (body_runs anywhere 64 t w x.line x.body s n outside free (All-head IsOuter x ss h) (none_first _ _ f))
      (statements_run t w ss s m (outside-later t s n m outside (omega arith)) free (All-tail IsOuter x ss h) (none_after _ _ f))
