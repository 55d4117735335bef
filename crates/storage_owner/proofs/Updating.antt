-- A new state of one variable.
use Rattle.std.proofs.Common.{◌≡◌, ◌≢◌, refl, sym, ap, ◌∙◌, subst, ℕ, ◌<◌, List, length, slice_index}
use mathlib.Core.Logic.{dite}
use native.Mathlib.Decide.{ℕ_discrete}
use Rattle.ws_space.specs.declared.state.VarState.{VarState}
use Rattle.ws_space.specs.declared.state.Var.{Var}
use Rattle.ws_space.specs.Values.{with_state}
use Rattle.phase_ops.specs.declared.phase.Layout.{Layout}
use Rattle.phase_ops.specs.Phases.{Cells}
use Rattle.phase_ops.specs.Free.{In}
use Rattle.hlfir_ops.specs.declared.kinds.ValueKind.{ValueKind}
use Rattle.storage_owner.specs.Ranges.{range_at, HasCell}
use Rattle.storage_owner.specs.Standing.{Owner, number_of, owned, HasRoom, StateStands, state_at, VarStands, IsOfKind, HoldWords, IsNamed, Stands}
use Rattle.storage_owner.specs.Laws.{KeepsCells, KeepsAllBut}
use Rattle.storage_owner.proofs.Copying.{still_stands}
use Rattle.storage_owner.proofs.Naming.{replaced_there, replaced_elsewhere, still_named}

module _ (l : Layout) (kinds : ℕ → ValueKind) (vs : List ℕ) (cells : ℕ) (vars : List Var) (m m' : Cells) (room : HasRoom l kinds vs cells) (st : Stands l kinds vs cells vars m) where
  pub frame : length m' ≡ cells → HoldWords m' → KeepsCells l m m' vs → Stands l kinds vs cells vars m'
  frame long words keeps = record {
    long = long;
    stands = λ n i. still_stands l kinds vs cells room n i vars m m' (st.of_kinds n i) (λ o c e h. keeps o c (subst (λ k. In k vs) (sym e) i) h) (st.stands n i);
    of_kinds = st.of_kinds;
    words = words;
    names = st.names;
  }

  module _ (goal : ℕ) (keeps : KeepsAllBut l m m' vs goal) where
    pub others : (n : ℕ) → In n vs → n ≢ goal → VarStands m' l kinds vars n
    others n i other = still_stands l kinds vs cells room n i vars m m' (st.of_kinds n i) (λ o c e h. keeps o c (subst (λ k. In k vs) (sym e) i) (λ f. other (sym e ∙ f)) h) (st.stands n i)

    module _ (v : Var) (s : VarState) (named : IsNamed vars goal v) where
      abbrev new : List Var
      new = with_state vars v.name s

      there : state_at new goal ≡ s
      there = replaced_there v s vars goal named

      elsewhere : (n : ℕ) → n ≢ goal → state_at new n ≡ state_at vars n
      elsewhere n other = replaced_elsewhere v s vars goal n named other

      pub updated : length m' ≡ cells → HoldWords m' → IsOfKind (kinds goal) s → StateStands m' (range_at l.vars goal) (range_at l.boxes goal) (kinds goal) s → Stands l kinds vs cells new m'
      updated long words fit stands = record {
        long = long;
        stands = λ n i. dite (ℕ_discrete n goal)
            (λ e. subst (λ k. VarStands m' l kinds new k) (sym e) (subst (StateStands m' (range_at l.vars goal) (range_at l.boxes goal) (kinds goal)) (sym there) stands))
            (λ other. subst (StateStands m' (range_at l.vars n) (range_at l.boxes n) (kinds n)) (sym (elsewhere n other)) (others n i other));
        of_kinds = λ n i. dite (ℕ_discrete n goal)
            (λ e. subst (λ k. IsOfKind (kinds k) (state_at new k)) (sym e) (subst (IsOfKind (kinds goal)) (sym there) fit))
            (λ other. subst (IsOfKind (kinds n)) (sym (elsewhere n other)) (st.of_kinds n i));
        words = words;
        names = λ n i. let x = st.names n i in let y = still_named v s n x.0 vars x.1 in (y.0, y.2);
      }
