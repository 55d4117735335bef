-- Effects on cells that no variable owns.
use Rattle.std.proofs.Common.{◌≡◌, ◌≢◌, ◌⊎◌, inl, inr, refl, sym, ap, ◌∙◌, subst, ℕ, ◌<◌, ◌≤◌, min, List, [], ◌∷◌, length, set, slice_index, length-set, get_or-set_other, get_or-set_same, arith}
use Rattle.std.proofs.lemmas.List.{get_or_past}
use mathlib.Core.Logic.{dite}
use native.Mathlib.Decide.{ℕ_discrete, dec_le}
use Rattle.phase_ops.specs.declared.effect.Effect.{Effect}
use Rattle.phase_ops.specs.declared.effect.Effect.TheVariants.{Store, Least, Fault}
use Rattle.phase_ops.specs.Phases.{Cells, over, lay}
use Rattle.phase_ops.specs.Free.{In, stored, lessened}
use Rattle.phase_ops.proofs.Frame.{over_length}
use Rattle.ws_space.specs.declared.state.Var.{Var}
use Rattle.phase_ops.specs.declared.phase.Layout.{Layout}
use Rattle.hlfir_ops.specs.declared.kinds.ValueKind.{ValueKind}
use Rattle.storage_owner.specs.Standing.{HasRoom, HoldWords, IsUnowned, Stands}
use Rattle.storage_owner.specs.Laws.{AreWords}
use Rattle.storage_owner.proofs.Updating.{frame}

set_other : (m : Cells) (c d w : ℕ) → d ≢ c → slice_index (set m c w) d ≡ slice_index m d
set_other m c d w other = get_or-set_other m c d w 0 other

set_word : (m : Cells) (c w : ℕ) → w < 18446744073709551616 → HoldWords m → HoldWords (set m c w)
set_word m c w small words d = dite (ℕ_discrete d c)
    (λ e. subst (λ k. slice_index (set m c w) k < 18446744073709551616) (sym e) (dite (dec_le (length m) c) past (λ near. there (omega (arith, near)))))
    (λ other. subst (λ k. k < 18446744073709551616) (sym (set_other m c d w other)) (words d))
  where
    past : length m ≤ c → slice_index (set m c w) c < 18446744073709551616
    past far = subst (λ k. k < 18446744073709551616) (sym (get_or_past (set m c w) c 0 (let n = length-set m c w in omega (arith, n, far)))) (omega arith)

    there : c < length m → slice_index (set m c w) c < 18446744073709551616
    there low = subst (λ k. k < 18446744073709551616) (sym (get_or-set_same m c w 0 low)) small

over_words : (e : Effect) (m : Cells) → AreWords (e ∷ []) → HoldWords m → HoldWords (over e m)
over_words (Store c v) m h words = set_word m c v h.0 words
over_words (Least c v) m h words = set_word m c (min (slice_index m c) v) (let l = h.0 in omega (arith, l)) words
over_words (Fault k) m h words = words

first_word : (e : Effect) (es : List Effect) → AreWords (e ∷ es) → AreWords (e ∷ []) × AreWords es
first_word (Store c v) es h = ((h.0, tt), h.1)
first_word (Least c v) es h = ((h.0, tt), h.1)
first_word (Fault k) es h = (tt, h)

lay_words : (es : List Effect) (m : Cells) → AreWords es → HoldWords m → HoldWords (lay m es)
lay_words [] m h words = words
lay_words (e ∷ es) m h words = let p = first_word e es h in lay_words es (over e m) p.1 (over_words e m p.0 words)

lay_length : (es : List Effect) (m : Cells) → length (lay m es) ≡ length m
lay_length [] m = refl
lay_length (e ∷ es) m = lay_length es (over e m) ∙ over_length e m

lay_other : (es : List Effect) (m : Cells) (c : ℕ) → (In c (stored es) ⊎ In c (lessened es) → ⊥) → slice_index (lay m es) c ≡ slice_index m c
lay_other [] m c none = refl
lay_other (Store d v ∷ es) m c none = lay_other es (set m d v) c (λ h. elim h [ inl s ↦ none (inl (inr s)) | inr s ↦ none (inr s) ]) ∙ set_other m d c v (λ e. none (inl (inl e)))
lay_other (Least d v ∷ es) m c none = lay_other es (set m d (min (slice_index m d) v)) c (λ h. elim h [ inl s ↦ none (inl s) | inr s ↦ none (inr (inr s)) ]) ∙ set_other m d c (min (slice_index m d) v) (λ e. none (inr (inl e)))
lay_other (Fault k ∷ es) m c none = lay_other es m c none

module _ (l : Layout) (kinds : ℕ → ValueKind) (vs : List ℕ) (cells : ℕ) (vars : List Var) (m : Cells) (es : List Effect) (room : HasRoom l kinds vs cells) (st : Stands l kinds vs cells vars m) where
  pub laid_stand : ((c : ℕ) → In c (stored es) ⊎ In c (lessened es) → IsUnowned l vs c) → AreWords es → Stands l kinds vs cells vars (lay m es)
  laid_stand free small = frame l kinds vs cells vars m (lay m es) room st (lay_length es m ∙ st.long) (lay_words es m small st.words) (λ o c i h. lay_other es m c (λ s. free c s o i h))
