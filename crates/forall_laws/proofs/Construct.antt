-- A whole FORALL leaves the variables that its source leaves.
use Rattle.std.specs.Prelude.{⊤}
use Rattle.std.proofs.Common.{◌≡◌, refl, sym, ap, ◌∙◌, subst, ℕ, ◌+◌, List, [], ◌∷◌, length, map, Option, None, Result, Ok, Err, pos, arith, All}
use Rattle.std.proofs.lemmas.List.{length-map}
use mathlib.Core.Former.{Count}
use Rattle.ws_base.specs.declared.fault.Fault.{Fault}
use Rattle.ws_base.specs.declared.name.Name.{Name}
use Rattle.ws_base.specs.Outcomes.{Staged, ◌>>=◌}
use Rattle.ws_space.specs.declared.shape.Triplet.{Triplet}
use Rattle.ws_space.specs.declared.state.Var.{Var}
use Rattle.ws_space.specs.Shapes.{all_places}
use Rattle.ws_space.specs.Combinations.{lengths, indexes_at}
use Rattle.ws_space.specs.Faults.{at_lines}
use Rattle.ws_tree.specs.declared.expr.Expr.{Expr}
use Rattle.ws_tree.specs.declared.stmt.Index.{Index}
use Rattle.ws_tree.specs.declared.stmt.Body.TheVariants.{Forall'}
use Rattle.ws_tree.specs.Trees.{Stmts}
use Rattle.ws_tree.specs.Grammatical.{IsHeader, IsOneAssignment, IsBody, AreStmts}
use Rattle.ws_tree.specs.Grammatical as grammar
use Rattle.ws_tree.specs.Grammatical.Within.{anywhere, in_where, in_forall}
use Rattle.ws_types.specs.declared.types.Row.{Row}
use Rattle.ws_types.specs.Tables.{barred, inner}
use Rattle.ws_sema.specs.declared.within.Within.TheVariants as within
use Rattle.ws_sema.specs.Statements.{header_faults, forall_mask_faults, block_faults}
use Rattle.ws_sema.proofs.Grammar.{StandsIn, forall_parts}
use Rattle.array_meaning.specs.declared.world.World.{World}
use Rattle.array_meaning.specs.Forall as source
use Rattle.array_meaning.specs.Forall.{Combination, combination}
use Rattle.array_meaning.specs.Program as program
use Rattle.hlfir_ops.specs.declared.what.What.TheVariants as what
use Rattle.hlfir_ops.specs.declared.op.Op.{Op, out-Op}
use Rattle.hlfir_ops.specs.declared.op.Region.{Region}
use Rattle.hlfir_ops.specs.Trees.{op_of, region_of}
use Rattle.hlfir_ops.specs.Numbers.{numbers_of}
use Rattle.hlfir_ops.specs.RulesRegions.{ops_in}
use Rattle.hlfir_meaning.specs.Environments.{of_variables}
use Rattle.hlfir_meaning.specs.Steps.{after_first, in_turn}
use Rattle.hlfir_meaning.specs.Combinations.{Header, header, at_combinations, active_places, forall_part, first_line, run_forall}
use Rattle.hlfir_meaning.specs.Statements.{simple}
use Rattle.lower_values.specs.declared.names.Names.{Names}
use Rattle.lower_values.specs.Scopes.{Scope, inside, index_of}
use Rattle.lower_values.specs.Lowerings.{Lowering, ◌>>◌, statement_of, regions_from}
use Rattle.lower_assign.specs.Statements.{all_yielded}
use Rattle.lower_constructs.specs.Modules.{statement, statements, triples, forall_mask}
use Rattle.kind_laws.specs.Standing.{Knows}
use Rattle.kind_laws.specs.Laws.{index_names}
use Rattle.kind_laws.proofs.ScopesKnown.{header_known, forall_known}
use Rattle.kind_laws.proofs.Faultless.{forall_faultless}
use Rattle.kind_laws.proofs.Ends.{ops_in-second}
use Rattle.value_laws.proofs.Ops.{parts-op_of, ops_in-first}
use Rattle.world_laws.specs.Worlds.{FitsNames}
use Rattle.world_laws.specs.Yields.{region}
use Rattle.world_laws.specs.Meanings.{StandsOutside, LeavesWorld, SimpleMeans, ListsMean}
use Rattle.world_laws.proofs.Fitting.{as_many}
use Rattle.world_laws.proofs.Leaving.{leaves_after}
use Rattle.forall_laws.specs.Combined.{StandsOver}
use Rattle.forall_laws.specs.Headers.{HeadersMean}
use Rattle.forall_laws.specs.Owned.{SubscriptsAreOwn}
use Rattle.forall_laws.proofs.Headers.{headers_mean}
use Rattle.forall_laws.proofs.Lengths.{AreMany, header-many}
use Rattle.forall_laws.proofs.Indexes.{indexes-below, index-stands, from_first, no_constant}
use Rattle.forall_laws.proofs.Body.{region_ops, BodyStands}
use Rattle.forall_laws.proofs.Masked.{BodyMeans, body-means}

-- ---- a run, by the ops of its two regions

abbrev evaluated : ℕ → List Name → List Triplet → Header
evaluated first names ts = record { first = first; names = names; axes = ts }

abbrev body_run : List Var → ℕ → List Name → ℕ → ℕ → List Op → List Triplet → Result (List Var) Fault
body_run vars line names first from ops ts =
    active_places vars (evaluated first names ts) line from ops (all_places (lengths ts)) >>= (λ at. in_turn (λ k op v. forall_part (evaluated first names ts) at k op (out-Op op).what v) from ops vars)

abbrev run_by : List Var → ℕ → List Name → ℕ → ℕ → List Op → List Op → Result (List Var) Fault
run_by vars line names n first header_ops ops = at_lines line (first_line line ops) (header (of_variables vars) (region n header_ops)) >>= body_run vars line names first (length names + first) ops

run-by : (vars : List Var) (line n : ℕ) (names : List Name) (rs : List Region) → run_forall vars line n names rs ≡ run_by vars line names n (after_first n rs) (ops_in rs 0) (ops_in rs 1)
unfolding run_forall
run-by vars line n names rs = refl

abbrev source_body : {m : Count} → World → ℕ → List Index → Option Expr → Stmts m → List Triplet → Result World Fault
source_body w line is mask block ts =
    source.mask_places w line mask (all_places (lengths ts)) (map (combination is ts) (all_places (lengths ts))) >>= (λ active. source.forall_block w block active (map (combination is ts) active))

source-by : {m : Count} (w : World) (line : ℕ) (is : List Index) (mask : Option Expr) (block : Stmts m) →
    source.run_forall w line is mask block ≡ (at_lines line (source.first_line line block) (source.header w is) >>= source_body w line is mask block)
unfolding source.run_forall
source-by w line is mask block = refl

after_header : (names : Names) (line l : ℕ) (many : ℕ) (r : Staged (List Triplet)) (f : List Triplet → Result (List Var) Fault) (g : List Triplet → Result World Fault) → AreMany many r →
    ((ts : List Triplet) → length ts ≡ many → LeavesWorld names (f ts) (g ts)) → LeavesWorld names (at_lines line l r >>= f) (at_lines line l r >>= g)
after_header names line l many (Ok ts) f g h k = k ts h
after_header names line l many (Err t) f g h k = refl

-- ---- the construct

module _ {m : Count} (t : List Row) (line : ℕ) (is : List Index) (mask : Option Expr) (block : Stmts m) (s : Scope) (n : ℕ) (w : World) (outside : StandsOutside t s w n) where
  abbrev names : List Name
  names = index_names is

  abbrev header_part : Lowering ⊤
  header_part = all_yielded (triples is)

  abbrev body_part : Lowering ⊤
  body_part = forall_mask mask >> statements block

  abbrev regions : List Region
  regions = regions_from (what.Forall names) line 0 (n + 0) (header_part ∷ body_part ∷ []) s

  abbrev header_ops : List Op
  header_ops = region_ops (what.Forall names) line 0 (n + 0) header_part s

  abbrev first : ℕ
  first = (n + 0) + (0 + numbers_of header_ops)

  abbrev header_scope : Scope
  header_scope = inside (what.Forall names) line 0 (n + 0) s

  abbrev body_scope : Scope
  body_scope = inside (what.Forall names) line 1 first s

  abbrev body_ops : List Op
  body_ops = (body_part body_scope (first + length names)).ops

  abbrev op : Op
  op = op_of (what.Forall names) line [] None regions

  many_names : length names ≡ length is
  many_names = length-map is (λ i. i.name)

  header_is : ops_in regions 0 ≡ header_ops
  header_is = ops_in-first header_ops (region_of body_ops ∷ [])

  body_is : ops_in regions 1 ≡ body_ops
  body_is = ops_in-second (region_of header_ops) body_ops []

  first_is : after_first n regions ≡ first
  first_is = ap (λ ops. numbers_of ops + n) header_is ∙ omega arith

  ran : simple n op (out-Op op).what w.vars ≡ run_by w.vars line names n first header_ops body_ops
  ran =
      ap (λ p. simple n op p.what w.vars) (parts-op_of (what.Forall names) line [] None regions)
      ∙ (ap (λ p. run_forall w.vars p.line n names p.regions) (parts-op_of (what.Forall names) line [] None regions)
      ∙ (run-by w.vars line n names regions
      ∙ (ap (λ f. run_by w.vars line names n f (ops_in regions 0) (ops_in regions 1)) first_is
      ∙ (ap (λ ops. run_by w.vars line names n first ops (ops_in regions 1)) header_is ∙ ap (run_by w.vars line names n first header_ops) body_is))))

  module _ (faultless : header_faults t (barred t is) line [] is ≡ []) where
    body_stands : (ts : List Triplet) → length ts ≡ length is → BodyStands (inner t is) body_scope (evaluated first names ts) (first + length is) (combination is ts)
    body_stands ts long = record { knows = known; stands = stands } where
      known : Knows (inner t is) body_scope
      known = forall_known t s is line line first faultless outside.knows

      stands : (v : World) → FitsNames s.names v → (at : List ℕ) → StandsOver at (combination is ts) body_scope v (first + length is) (at_combinations v.vars (evaluated first names ts) at)
      stands v fits at =
          let old = as_many 0 s.names.variables w.vars outside.world.variables in
          let new = as_many 0 s.names.variables v.vars fits.variables in
          record {
            world = fits;
            variables = λ k low. indexes-below at ts first 0 names (of_variables v.vars) k (omega (arith, low, old, new, outside.declared));
            declared = omega (arith, old, new, outside.declared);
            indexes = λ x. index-stands at ts t (barred t is) line s.names first 0 [] is s.indexes (of_variables v.vars) (indexes_at ts) x (ap (λ xs. index_of xs x) outside.no_index) faultless (from_first ts (length is) long)
                (λ listed. no_constant t is body_scope x (known x) listed);
          }

    module _ (mask_faultless : forall_mask_faults (inner t is) line mask ≡ []) (block_faultless : block_faults (inner t is) within.Forall block ≡ []) (head : IsHeader is mask) (block_stands : StandsIn block) where
      from : ℕ
      from = first + length names

      means : (ts : List Triplet) (long : length ts ≡ length is) → BodyMeans (inner t is) body_scope (evaluated first names ts) (first + length is) (combination is ts) (body_stands ts long) mask block (first + length names) line body_ops
      means ts long = body-means (inner t is) body_scope (evaluated first names ts) (first + length is) (combination is ts) (body_stands ts long) block block_stands.place block_stands.room block_stands.stands block_faultless mask
          (first + length names) line (let e = many_names in omega (arith, e)) head.2 mask_faultless

      some_axes : List Triplet
      some_axes = map (λ i. record { l = pos 0; u = pos 0; s = pos 1 }) is

      first_same : first_line line body_ops ≡ source.first_line line block
      unfolding some_axes
      first_same = (means (map (λ i. record { l = pos 0; u = pos 0; s = pos 1 }) is) (length-map is (λ i. record { l = pos 0; u = pos 0; s = pos 1 }))).first

      body_same : (ts : List Triplet) → length ts ≡ length is → LeavesWorld s.names (body_run w.vars line names first (first + length names) body_ops ts) (source_body w line is mask block ts)
      body_same ts long =
          let all = all_places (lengths ts) in
          let runs : List ℕ → Result (List Var) Fault = λ at. in_turn (λ k op v. forall_part (evaluated first names ts) at k op (out-Op op).what v) (first + length names) body_ops w.vars in
          subst (λ p. LeavesWorld s.names (p >>= runs) (source_body w line is mask block ts)) (sym ((means ts long).active w outside.world all))
          (leaves_after s.names (source.mask_places w line mask all (map (combination is ts) all)) runs (λ active. source.forall_block w block active (map (combination is ts) active)) (λ active. (means ts long).turns w outside.world active))

      leaves : header (of_variables w.vars) (region n header_ops) ≡ source.header w is → LeavesWorld s.names (run_by w.vars line names n first header_ops body_ops) (source.run_forall w line is mask block)
      leaves same =
          subst (λ q. LeavesWorld s.names (run_by w.vars line names n first header_ops body_ops) q) (sym (source-by w line is mask block))
          (subst (λ r. LeavesWorld s.names (at_lines line (first_line line body_ops) r >>= body_run w.vars line names first (length names + first) body_ops) (at_lines line (source.first_line line block) (source.header w is) >>= source_body w line is mask block)) (sym same)
          (subst (λ l. LeavesWorld s.names (at_lines line l (source.header w is) >>= body_run w.vars line names first (length names + first) body_ops) (at_lines line (source.first_line line block) (source.header w is) >>= source_body w line is mask block)) (sym first_same)
          (subst (λ j. LeavesWorld s.names (at_lines line (source.first_line line block) (source.header w is) >>= body_run w.vars line names first j body_ops) (at_lines line (source.first_line line block) (source.header w is) >>= source_body w line is mask block))
          (let e : first + length names ≡ length names + first = omega arith in e)
          (after_header s.names line (source.first_line line block) (length is) (source.header w is) (body_run w.vars line names first (first + length names) body_ops) (source_body w line is mask block) (header-many w is) body_same))))

    header_outside : StandsOutside (barred t is) header_scope w n
    header_outside = record { knows = header_known t s is line (n + 0) outside.knows; no_index = outside.no_index; world = outside.world; declared = outside.declared }

    header_place : HeadersMean → All grammar.IsIndex is → header (of_variables w.vars) (region n header_ops) ≡ source.header w is
    header_place headers each =
        ap (λ k. header (of_variables w.vars) (region n (header_part header_scope k).ops)) (let e : n + 0 + 0 ≡ n = omega arith in e)
        ∙ headers t (barred t is) line is header_scope n w header_outside each faultless

statement_ops : (line : ℕ) (is : List Index) (mask : Option Expr) (c : _) (block : _) (s : Scope) (n : ℕ) → (statement line (Forall' is mask c block) s n).ops ≡
    op_of (what.Forall (index_names is)) line [] None (regions_from (what.Forall (index_names is)) line 0 (n + 0) (all_yielded (triples is) ∷ (forall_mask mask >> statements block) ∷ []) s) ∷ []
unfolding statement_of
statement_ops line is mask c block s n = refl

pub forall_means : HeadersMean → (is : List Index) (mask : Option Expr) (c : _) (block : _) → SimpleMeans (Forall' is mask c block)
forall_means headers is mask c block t within line s n w place room outside plain free stands f =
    let parts = forall_parts place room line is mask c block stands in
    let good = forall_faultless t within line is mask c block f in
    record {
      op = op t line is mask block s n w outside;
      alone = statement_ops line is mask c block s n;
      same = subst (λ q. LeavesWorld s.names q (program.simple w line (Forall' is mask c block))) (sym (ran t line is mask block s n w outside))
          (leaves t line is mask block s n w outside good.in_triplets good.in_mask good.in_block parts.0 parts.1 (header_place t line is mask block s n w outside good.in_triplets headers parts.0.1));
    }

-- given lists of scalars
pub foralls_mean : ListsMean → SubscriptsAreOwn → (is : List Index) (mask : Option Expr) (c : _) (block : _) → SimpleMeans (Forall' is mask c block)
foralls_mean lists owned is mask c block = forall_means (headers_mean lists owned) is mask c block
