-- Assignments and constructs, alone and in regions.
use Rattle.std.proofs.Common.{◌≡◌, refl, sym, ap, ◌∙◌, subst, ℕ, suc, ◌+◌, List, [], ◌∷◌, ◌++◌, length, None, Result, Ok, arith}
use mathlib.Core.Former.{Count}
use Rattle.ws_base.specs.declared.fault.Fault.{Fault}
use Rattle.ws_base.specs.declared.refusal.RefusalKind.TheVariants as kind
use Rattle.ws_tree.specs.declared.stmt.Body.{Body}
use Rattle.ws_tree.specs.declared.stmt.Body.TheVariants.{Assign, Masked', Forall', Loop', Allocate, Deallocate, Read, Shared', Unsupported, TooDeep as TooDeep'}
use Rattle.ws_tree.specs.Trees.{Stmts, end_stmts, more_stmts}
use Rattle.ws_tree.specs.Grammatical as grammar
use Rattle.ws_tree.specs.Grammatical.{IsBody, AreStmts}
use Rattle.ws_types.specs.declared.types.Row.{Row}
use Rattle.ws_sema.specs.declared.within.Within.TheVariants as within
use Rattle.ws_sema.specs.Statements.{serial_faults, block_faults, body_faults}
use Rattle.ws_sema.proofs.NoFaults.{none_first, none_after, impossible}
use Rattle.array_meaning.specs.declared.world.World.{World}
use Rattle.array_meaning.specs.Program as program
use Rattle.hlfir_ops.specs.declared.what.What.{What}
use Rattle.hlfir_ops.specs.declared.op.Op.{Op, out-Op, out-roll-Op}
use Rattle.hlfir_ops.specs.declared.op.Region.{Region}
use Rattle.hlfir_ops.specs.Trees.{op_of}
use Rattle.hlfir_ops.specs.Numbers.{op_numbers, numbers_of}
use Rattle.hlfir_meaning.specs.Statements.{simple, simple_block}
use Rattle.lower_values.specs.declared.names.Names.{Names}
use Rattle.lower_values.specs.Scopes.{Scope}
use Rattle.lower_values.specs.Lowerings.{done, ◌>>=◌ as ◌then◌}
use Rattle.lower_constructs.specs.Modules.{statement, statements}
use Rattle.world_laws.specs.Worlds.{FitsNames}
use Rattle.world_laws.specs.Meanings.{IsSimple, LeavesWorld, MeansStatement, SimplesMean}
use Rattle.world_laws.proofs.Leaving.{leaves_then}
use Rattle.run_laws.proofs.Outside.{Outside, stands, outside-later}

-- ---- the one op of a statement

abbrev first_or : Op → List Op → Op
first_or other [] = other
first_or other (op ∷ ops) = op

pub means_op : (s : Scope) (n : ℕ) (w : World) (what : What) (line : ℕ) (regions : List Region) (r : Result World Fault) → MeansStatement s n w (op_of what line [] None regions ∷ []) r →
    LeavesWorld s.names (simple n (op_of what line [] None regions) what w.vars) r
means_op s n w what line regions r m =
    let op = op_of what line [] None regions in
    let same : op ≡ m.op = ap (first_or op) m.alone in
    let what_is : (out-Op op).what ≡ what = ap (λ f. f.what) (out-roll-Op (record { what = what; line = line; operands = []; kind = None; regions = regions })) in
    subst (λ x. LeavesWorld s.names (simple n op x w.vars) r) what_is (subst (λ o. LeavesWorld s.names (simple n o (out-Op o).what w.vars) r) (sym same) m.same)

-- ---- one after another

-- In a region nothing else stands.
only_simple : (t : List Row) (line : ℕ) (body : Body) → body_faults t within.Shared line body ≡ [] → IsSimple body
unfolding serial_faults
only_simple t line (Assign left right) f = tt
only_simple t line (Masked' mask c block d rest) f = tt
only_simple t line (Forall' is mask c block) f = tt
only_simple t line (Loop' x l u st c block) f = impossible line kind.NotInWorkshare (none_first _ _ (none_first _ _ (none_first _ _ (none_first _ _ (none_first _ _ f)))))
only_simple t line (Allocate ps) f = impossible line kind.NotInWorkshare (none_first _ _ f)
only_simple t line (Deallocate xs) f = impossible line kind.NotInWorkshare (none_first _ _ f)
only_simple t line (Read es) f = impossible line kind.NotInWorkshare (none_first _ _ f)
only_simple t line (Shared' c block) f = impossible line kind.Unsupported f
only_simple t line Unsupported f = impossible line kind.Unsupported f
only_simple t line TooDeep' f = impossible line kind.OverLimit f

-- the ops of a block, of which each is a statement
pub record SharedBlock (names : Names) (n : ℕ) (ops : List Op) (w : World) (many : ℕ) (r : Result World Fault) : Type 0 where
  pub count : length ops ≡ many
  pub leaves : LeavesWorld names (simple_block n ops w.vars) r

none_shared : (s : Scope) (n : ℕ) (w : World) → FitsNames s.names w → SharedBlock s.names n (statements end_stmts s n).ops w 0 (Ok w)
unfolding done
none_shared s n w fits = record { count = refl; leaves = (refl, fits) }

module _ (s : Scope) (n : ℕ) (w : World) (line : ℕ) (body : Body) {m : Count} (rest : Stmts m) (means : MeansStatement s n w (statement line body s n).ops (program.simple w line body)) where
  abbrev next : ℕ
  next = op_numbers means.op + n

  more_ops_are : (statements (more_stmts line body rest) s n).ops ≡ means.op ∷ (statements rest s next).ops
  unfolding ◌then◌
  more_ops_are =
      ap (λ ops. ops ++ (statements rest s (n + numbers_of ops)).ops) means.alone
      ∙ ap (λ k. means.op ∷ (statements rest s k).ops) (let e : n + numbers_of (means.op ∷ []) ≡ next = omega arith in e)

  more_shared : (many : ℕ) → ((v : World) → FitsNames s.names v → SharedBlock s.names next (statements rest s next).ops v many (program.simple_block v rest)) → length (statements rest s next).ops ≡ many →
      SharedBlock s.names n (statements (more_stmts line body rest) s n).ops w (suc many) (program.simple_block w (more_stmts line body rest))
  more_shared many later all = record {
    count = ap length more_ops_are ∙ ap suc all;
    leaves =
        subst (λ ops. LeavesWorld s.names (simple_block n ops w.vars) (program.simple_block w (more_stmts line body rest))) (sym more_ops_are)
        (leaves_then s.names (simple n means.op (out-Op means.op).what w.vars) (program.simple w line body) _ _ means.same (λ v fits. (later v fits).leaves));
  }

module _ (simples : SimplesMean) where
  pub shared_block : {m : Count} (k : grammar.Within) (room : ℕ) (t : List Row) (s : Scope) (n : ℕ) (block : Stmts m) (w : World) → Outside t s n → FitsNames s.names w → AreStmts k room block → block_faults t within.Shared block ≡ [] →
      SharedBlock s.names n (statements block s n).ops w (program.length_of block) (program.simple_block w block)
  shared_block k room t s n end_stmts w outside fits h f = none_shared s n w fits
  shared_block k room t s n (more_stmts line body rest) w outside fits h f =
      let here = none_first _ _ f in
      let means = simples body (only_simple t line body here) t within.Shared line s n w k room (stands t s n w outside fits) outside.unmasked refl h.0 here in
      let m = op_numbers means.op + n in
      let later : (v : World) → FitsNames s.names v → SharedBlock s.names m (statements rest s m).ops v (program.length_of rest) (program.simple_block v rest) =
      λ v fit. shared_block k room t s m rest v (outside-later t s n m outside (omega arith)) fit h.1 (none_after _ _ f) in
      more_shared s n w line body rest means (program.length_of rest) later (later w fits).count
