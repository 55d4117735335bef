-- The body of a FORALL: its mask, and its assignments one after another.
use Rattle.std.proofs.Common.{◌≡◌, refl, sym, ap, subst, ℕ, ◌+◌, ◌≤◌, false, List, [], ◌∷◌, map, None, Result, Ok, if◌then◌else◌, arith}
use mathlib.Core.Former.{Count}
use Rattle.ws_base.specs.declared.fault.Fault.{Fault}
use Rattle.ws_base.specs.declared.refusal.RefusalKind.TheVariants as kind
use Rattle.ws_space.specs.declared.state.Var.{Var}
use Rattle.ws_tree.specs.declared.expr.Expr.{Expr}
use Rattle.ws_tree.specs.declared.stmt.Body.TheVariants.{Assign, Masked', Forall', Loop', Allocate, Deallocate, Read, Shared', Unsupported, TooDeep}
use Rattle.ws_tree.specs.Trees.{Stmts, end_stmts, more_stmts}
use Rattle.ws_tree.specs.Grammatical.{IsOptional, IsSide, IsBody, AreStmts}
use Rattle.ws_tree.specs.Grammatical as grammar
use Rattle.ws_types.specs.declared.types.Row.{Row}
use Rattle.ws_sema.specs.declared.within.Within.TheVariants as within
use Rattle.ws_sema.specs.Statements.{block_faults}
use Rattle.ws_sema.proofs.NoFaults.{none_first, none_after, impossible}
use Rattle.array_meaning.specs.declared.world.World.{World}
use Rattle.array_meaning.specs.Forall as source
use Rattle.array_meaning.specs.Forall.{Combination}
use Rattle.hlfir_ops.specs.declared.op.Op.{Op, out-Op}
use Rattle.hlfir_ops.specs.Numbers.{op_numbers}
use Rattle.hlfir_ops.specs.RulesStatements.{is_assign, is_forall_mask}
use Rattle.hlfir_meaning.specs.Steps.{in_turn}
use Rattle.hlfir_meaning.specs.Combinations.{Header, active_places, forall_part, first_line}
use Rattle.lower_values.specs.Scopes.{Scope}
use Rattle.lower_values.specs.Lowerings.{done, ◌>>=◌ as ◌then◌, scoped, statement_of}
use Rattle.lower_assign.specs.Statements.{assignment}
use Rattle.lower_constructs.specs.Modules.{statements}
use Rattle.value_laws.proofs.Ops.{parts-op_of}
use Rattle.world_laws.specs.Worlds.{FitsNames}
use Rattle.world_laws.specs.Meanings.{LeavesWorld}
use Rattle.world_laws.proofs.Leaving.{leaves_then}
use Rattle.forall_laws.proofs.Body.{BodyStands, assign_op, assign-part}

module _ (t : List Row) (s : Scope) (h : Header) (n : ℕ) (of : ℕ → Combination) (body : BodyStands t s h n of) where
  abbrev pub does : List ℕ → ℕ → Op → List Var → Result (List Var) Fault
  does at = λ k op v. forall_part h at k op (out-Op op).what v

  -- ---- the assignments

  block_ops : {m : Count} (at : List ℕ) (line j : ℕ) (l r : Expr) (low : n ≤ j) (rest : Stmts m) → (statements (more_stmts line (Assign l r) rest) s j).ops ≡
      assign_op t s h n of body at line j l r low ∷ (statements rest s (op_numbers (assign_op t s h n of body at line j l r low) + j)).ops
  unfolding ◌then◌ assignment scoped statement_of
  block_ops at line j l r low rest = let op = assign_op t s h n of body at line j l r low in ap (λ k. op ∷ (statements rest s k).ops) (let e : j + (op_numbers op + 0) ≡ op_numbers op + j = omega arith in e)

  pub block-same : {m : Count} (at : List ℕ) (j : ℕ) → n ≤ j → (place : grammar.Within) (room : ℕ) (stmts : Stmts m) → AreStmts place room stmts → block_faults t within.Forall stmts ≡ [] → (w : World) → FitsNames s.names w →
      LeavesWorld s.names (in_turn (does at) j (statements stmts s j).ops w.vars) (source.forall_block w stmts at (map of at))
  unfolding done
  block-same at j low place room end_stmts g f w fits = (refl, fits)
  block-same at j low place room (more_stmts line (Assign l r) rest) g f w fits =
      let op = assign_op t s h n of body at line j l r low in
      subst (λ ops. LeavesWorld s.names (in_turn (does at) j ops w.vars) (source.forall_block w (more_stmts line (Assign l r) rest) at (map of at))) (sym (block_ops at line j l r low rest))
      (leaves_then s.names (does at j op w.vars) (source.forall_assign w line l r at (map of at)) (in_turn (does at) (op_numbers op + j) (statements rest s (op_numbers op + j)).ops) (λ v. source.forall_block v rest at (map of at))
      (assign-part t s h n of body at line j l r low w fits g.0.0 g.0.1 (none_first _ _ f))
      (λ v again. block-same at (op_numbers op + j) (omega (arith, low)) place room rest g.1 (none_after _ _ f) v again))
  block-same at j low place room (more_stmts line (Masked' a b c d e) rest) g f w fits = impossible line kind.Unsupported (none_first _ _ f)
  block-same at j low place room (more_stmts line (Forall' a b c d) rest) g f w fits = impossible line kind.Unsupported (none_first _ _ f)
  block-same at j low place room (more_stmts line (Loop' a b c d e i) rest) g f w fits = impossible line kind.Unsupported (none_first _ _ f)
  block-same at j low place room (more_stmts line (Allocate a) rest) g f w fits = impossible line kind.Unsupported (none_first _ _ f)
  block-same at j low place room (more_stmts line (Deallocate a) rest) g f w fits = impossible line kind.Unsupported (none_first _ _ f)
  block-same at j low place room (more_stmts line (Read a) rest) g f w fits = impossible line kind.Unsupported (none_first _ _ f)
  block-same at j low place room (more_stmts line (Shared' a b) rest) g f w fits = impossible line kind.Unsupported (none_first _ _ f)
  block-same at j low place room (more_stmts line Unsupported rest) g f w fits = impossible line kind.Unsupported (none_first _ _ f)
  block-same at j low place room (more_stmts line TooDeep rest) g f w fits = impossible line kind.OverLimit (none_first _ _ f)

  -- ---- what stands first

  -- no mask, and the line of the first assignment
  pub record IsBlock {m : Count} (stmts : Stmts m) (ops : List Op) : Type 0 where
    pub active : (vars : List Var) (line j : ℕ) (at : List ℕ) → active_places vars h line j ops at ≡ Ok at
    pub first : (line : ℕ) → first_line line ops ≡ source.first_line line stmts

  assign_first : {m : Count} (at : List ℕ) (line j : ℕ) (l r : Expr) (low : n ≤ j) (rest : Stmts m) (ops : List Op) → IsBlock (more_stmts line (Assign l r) rest) (assign_op t s h n of body at line j l r low ∷ ops)
  assign_first at line j l r low rest ops = record {
    active = λ vars header k places. let none : is_forall_mask (out-Op op).what ≡ false = ap (λ p. is_forall_mask p.what) (parts-op_of _ line [] None _) in rw none refl;
    first = λ header. ap (λ p. if is_assign p.what then p.line else first_line header ops) (parts-op_of _ line [] None _);
  } where
    op : Op
    op = assign_op t s h n of body at line j l r low

  pub block-first : {m : Count} (at : List ℕ) (j : ℕ) → n ≤ j → (stmts : Stmts m) → block_faults t within.Forall stmts ≡ [] → IsBlock stmts (statements stmts s j).ops
  unfolding done
  block-first at j low end_stmts f = record { active = λ vars line k places. refl; first = λ line. refl }
  block-first at j low (more_stmts line (Assign l r) rest) f = subst (IsBlock (more_stmts line (Assign l r) rest)) (sym (block_ops at line j l r low rest)) (assign_first at line j l r low rest _)
  block-first at j low (more_stmts line (Masked' a b c d e) rest) f = impossible line kind.Unsupported (none_first _ _ f)
  block-first at j low (more_stmts line (Forall' a b c d) rest) f = impossible line kind.Unsupported (none_first _ _ f)
  block-first at j low (more_stmts line (Loop' a b c d e i) rest) f = impossible line kind.Unsupported (none_first _ _ f)
  block-first at j low (more_stmts line (Allocate a) rest) f = impossible line kind.Unsupported (none_first _ _ f)
  block-first at j low (more_stmts line (Deallocate a) rest) f = impossible line kind.Unsupported (none_first _ _ f)
  block-first at j low (more_stmts line (Read a) rest) f = impossible line kind.Unsupported (none_first _ _ f)
  block-first at j low (more_stmts line (Shared' a b) rest) f = impossible line kind.Unsupported (none_first _ _ f)
  block-first at j low (more_stmts line Unsupported rest) f = impossible line kind.Unsupported (none_first _ _ f)
  block-first at j low (more_stmts line TooDeep rest) f = impossible line kind.OverLimit (none_first _ _ f)
