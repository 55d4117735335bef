-- Cells copied into another layout, and back.
use Rattle.std.proofs.Common.{◌≡◌, ◌⊎◌, inl, inr, refl, sym, ap, ◌∙◌, subst, ℕ, ◌+◌, List, [], ◌∷◌, length, slice_index}
use mathlib.Core.Logic.{dite}
use native.Mathlib.Decide.{ℕ_discrete}
use Rattle.ws_space.specs.declared.state.VarState.{VarState}
use Rattle.ws_space.specs.declared.state.Var.{Var}
use Rattle.phase_ops.specs.declared.phase.Layout.{Layout}
use Rattle.phase_ops.specs.Phases.{Cells}
use Rattle.phase_ops.specs.Free.{In}
use Rattle.hlfir_ops.specs.declared.kinds.ValueKind.{ValueKind}
use Rattle.storage_owner.specs.Ranges.{range_at, HasCell}
use Rattle.storage_owner.specs.Standing.{Owner, number_of, owned, HasRoom, StateStands, state_at, VarStands, IsOfKind, HoldWords, IsNamed, Stands}
use Rattle.storage_owner.specs.Laws.{AreCopied}
use Rattle.storage_owner.proofs.Copying.{same_value, state_copied, still_stands}

module _ (l r : Layout) (kinds : ℕ → ValueKind) (us : List ℕ) (m m' : Cells) (copied : AreCopied l r kinds us m m') where
  pub var_copied : (vars : List Var) (n : ℕ) → In n us → IsOfKind (kinds n) (state_at vars n) → VarStands m l kinds vars n → VarStands m' r kinds vars n
  var_copied vars n i fit h = state_copied m m' (range_at l.vars n) (range_at l.boxes n) (range_at r.vars n) (range_at r.boxes n) (kinds n) (state_at vars n)
      (λ p low. same_value m m' ((range_at l.vars n).first + p) ((range_at r.vars n).first + p) (copied.vars n p i low))
      (λ p low. same_value m m' ((range_at l.boxes n).first + p) ((range_at r.boxes n).first + p) (copied.boxes n p i low)) fit h

  pub packed_stand : (vs : List ℕ) (cells packed : ℕ) (vars : List Var) → Stands l kinds vs cells vars m → ((n : ℕ) → In n us → In n vs) → length m' ≡ packed → HoldWords m' → Stands r kinds us packed vars m'
  packed_stand vs cells packed vars st some long words = record {
    long = long;
    stands = λ n i. var_copied vars n i (st.of_kinds n (some n i)) (st.stands n (some n i));
    of_kinds = λ n i. st.of_kinds n (some n i);
    words = words;
    names = λ n i. st.names n (some n i);
  }

is_in : (n : ℕ) (ns : List ℕ) → In n ns ⊎ (In n ns → ⊥)
is_in n [] = inr (λ h. h)
is_in n (k ∷ ns) = dite (ℕ_discrete n k) (λ e. inl (inl e)) (λ other. more other (is_in n ns))
  where
    more : (n ≡ k → ⊥) → In n ns ⊎ (In n ns → ⊥) → In n (k ∷ ns) ⊎ (In n (k ∷ ns) → ⊥)
    more other (inl h) = inl (inr h)
    more other (inr none) = inr (λ h. elim h [ inl e ↦ other e | inr g ↦ none g ])

module _ (l r : Layout) (kinds : ℕ → ValueKind) (vs us : List ℕ) (cells packed : ℕ) (before vars : List Var) (m m' n : Cells)
    (room : HasRoom l kinds vs cells) (old : Stands l kinds vs cells before m) (st : Stands r kinds us packed vars m')
    (same : (k : ℕ) → In k vs → (In k us → ⊥) → state_at vars k ≡ state_at before k) (copied : AreCopied r l kinds us m' n)
    (keeps : (o : Owner) (c : ℕ) → In (number_of o) vs → (In (number_of o) us → ⊥) → HasCell (owned l o) c → slice_index n c ≡ slice_index m c) where
  kept_stands : (k : ℕ) → In k vs → (In k us → ⊥) → VarStands n l kinds vars k
  kept_stands k i out = subst (StateStands n (range_at l.vars k) (range_at l.boxes k) (kinds k)) (sym (same k i out))
      (still_stands l kinds vs cells room k i before m n (old.of_kinds k i) (λ o c e h. keeps o c (subst (λ j. In j vs) (sym e) i) (λ g. out (subst (λ j. In j us) e g)) h) (old.stands k i))

  pub unpacked_stand : ((k : ℕ) → In k vs → (v : Var) × IsNamed vars k v) → length n ≡ cells → HoldWords n → Stands l kinds vs cells vars n
  unpacked_stand names long words = record {
    long = long;
    stands = λ k i. elim (is_in k us) [ inl h ↦ var_copied r l kinds us m' n copied vars k h (st.of_kinds k h) (st.stands k h) | inr out ↦ kept_stands k i out ];
    of_kinds = λ k i. elim (is_in k us) [ inl h ↦ st.of_kinds k h | inr out ↦ subst (IsOfKind (kinds k)) (sym (same k i out)) (old.of_kinds k i) ];
    words = words;
    names = names;
  }
