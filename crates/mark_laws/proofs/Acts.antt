-- What acts do, from what their runs of ops do.
use Rattle.std.proofs.Common.{◌≡◌, ℕ, suc, ◌+◌, ◌<◌, Bool, true, false, List, [], ◌∷◌, ◌++◌, refl, ap, ◌∙◌, arith, Some, ℤ, pos, negsuc, slice_index}
use Rattle.std.specs.Prelude.{if◌then◌else◌, nat_lt, int_lt, int_le}
use Rattle.std.specs.Int.{w64, cast_signed}
use Rattle.std.proofs.lemmas.Int.{to_z_pos}
use Rattle.std.proofs.lemmas.Bool.Decides.{nat_tests}
use Rattle.ws_base.specs.declared.fault.FaultName.TheVariants.{ManyOne}
use Rattle.ws_base.specs.Numbers.{truth, is_true}
use Rattle.phase_ops.specs.declared.effect.Effect.{Effect}
use Rattle.phase_ops.specs.declared.effect.Effect.TheVariants.{Store, Least, Fault}
use Rattle.phase_ops.specs.declared.effect.Turn.TheVariants.{Next, Shut, Fails}
use Rattle.phase_ops.specs.declared.phase.Micro.{Micro}
use Rattle.phase_ops.specs.declared.phase.Micro.TheVariants as op
use Rattle.phase_ops.specs.declared.phase.ScalarOp.TheVariants as scalar
use Rattle.phase_ops.specs.Phases.{Cells, word, cell_value, key_of, none_yet, ops_events, makes}
use Rattle.loop_laws.specs.Loops.{does}
use Rattle.save_laws.specs.Saves.{assigned}
use Rattle.mark_laws.specs.Marks.{marking, checking}
use Rattle.segment_laws.specs.Segments.{Ran, Through, Out, stepped, ran, onward}
use Rattle.segment_laws.specs.Acts.{from}
use Rattle.mark_laws.specs.Acts.{its_target, clear_acts, mark_acts, check_acts, assign_acts, place_of}
use Rattle.segment_laws.proofs.Acts.{onward_makes, at_is, at_first, nothing}

-- ---- the acts that are always the same

pub clears : (line marks i : ℕ) (m : Cells) → does (clear_acts line marks) m i ≡ Store (marks + i) none_yet ∷ []
clears line marks i m = ap (λ (c : ℕ). let es : List Effect = Store c none_yet ∷ [] in es) (at_is marks i)

abbrev pub not_less : ℤ → Bool
not_less z = is_true (truth (int_le (pos 0) z))

pub target_there : (q : ℕ) → not_less (pos q) ≡ true
target_there q = grind (arith, nat_tests)

pub target_none : (q : ℕ) → not_less (negsuc q) ≡ false
target_none q = grind (arith, nat_tests)

-- the registers behind the gate
abbrev pub gated : ℕ → ℤ → Ran
gated i z = Through (pos i ∷ z ∷ pos 0 ∷ truth (int_le (pos 0) z) ∷ pos 0 ∷ [])

pub target_of : (a i : ℕ) (m : Cells) (z : ℤ) → cell_value m (a + i) ≡ z → ran i m [] (its_target a) ≡ (if not_less z then gated i z else Out)
target_of a i m z e = ap (λ (y : ℤ). stepped 4 (λ x. Through (pos i ∷ y ∷ pos 0 ∷ truth (int_le (pos 0) y) ∷ x ∷ [])) (if not_less y then Next (pos 0) else Shut)) (ap (cell_value m) (at_is a i) ∙ e) ∙ by (not_less z)
  where
    by : (b : Bool) → stepped 4 (λ x. Through (pos i ∷ z ∷ pos 0 ∷ truth (int_le (pos 0) z) ∷ x ∷ [])) (if b then Next (pos 0) else Shut) ≡ (if b then gated i z else Out)
    by true = refl
    by false = refl

behind : (a i : ℕ) (m : Cells) (more : List Micro) (q : ℕ) → cell_value m (a + i) ≡ pos q → makes (ops_events (at_first i) (its_target a ++ more) m [] nothing) ≡ makes (ops_events (at_first i) more m (pos i ∷ pos q ∷ pos 0 ∷ truth (int_le (pos 0) (pos q)) ∷ pos 0 ∷ []) nothing)
behind a i m more q e = onward_makes (at_first i) (its_target a) more m [] nothing (tt, (tt, (tt, (tt, (tt, tt)))))
    ∙ ap (λ (r : Ran). makes (onward (at_first i) more m nothing r)) (target_of a i m (pos q) e ∙ ap (λ (b : Bool). if b then gated i (pos q) else Out) (target_there q))

idle : (a i : ℕ) (m : Cells) (more : List Micro) (q : ℕ) → cell_value m (a + i) ≡ negsuc q → makes (ops_events (at_first i) (its_target a ++ more) m [] nothing) ≡ []
idle a i m more q e = onward_makes (at_first i) (its_target a) more m [] nothing (tt, (tt, (tt, (tt, (tt, tt)))))
    ∙ ap (λ (r : Ran). makes (onward (at_first i) more m nothing r)) (target_of a i m (negsuc q) e ∙ ap (λ (b : Bool). if b then gated i (negsuc q) else Out) (target_none q))

assigns_by : (line t a base i : ℕ) (m : Cells) (z : ℤ) → cell_value m (a + i) ≡ z → does (assign_acts line t a base) m i ≡ assigned base (word (cell_value m (t + i))) z
assigns_by line t a base i m (pos q) e = behind a i m (op.Load (from t 0) ∷ op.Store (from base 1) 5 ∷ []) q e
    ∙ (λ j. Store (at_is base q j) (word (cell_value m (at_is t i j))) ∷ [])
assigns_by line t a base i m (negsuc q) e = idle a i m (op.Load (from t 0) ∷ op.Store (from base 1) 5 ∷ []) q e

pub assigns : (line t a base i : ℕ) (m : Cells) → does (assign_acts line t a base) m i ≡ assigned base (word (cell_value m (t + i))) (cell_value m (a + i))
assigns line t a base i m = assigns_by line t a base i m (cell_value m (a + i)) refl

marks_by : (line a marks i : ℕ) (m : Cells) (z : ℤ) → cell_value m (a + i) ≡ z → does (mark_acts line a marks) m i ≡ marking marks i (place_of z)
marks_by line a marks i m (pos q) e = behind a i m (op.Least (from marks 1) 0 ∷ []) q e ∙ (λ j. Least (at_is marks q j) i ∷ [])
marks_by line a marks i m (negsuc q) e = idle a i m (op.Least (from marks 1) 0 ∷ []) q e

pub marks_it : (line a marks i : ℕ) (m : Cells) → does (mark_acts line a marks) m i ≡ marking marks i (place_of (cell_value m (a + i)))
marks_it line a marks i m = marks_by line a marks i m (cell_value m (a + i)) refl

abbrev pub check_tail : ℕ → List Micro
check_tail marks = op.Load (from marks 1) ∷ op.Binary scalar.Lt 5 0 ∷ op.FailIf ManyOne 6 ∷ []

small_cell : (n : ℕ) → n < 9223372036854775808 → cast_signed w64 n ≡ pos n
small_cell n h = to_z_pos w64 n h

pub checks : (line a marks i : ℕ) (m : Cells) (q : ℕ) → cell_value m (a + i) ≡ pos q → slice_index m (marks + q) < 9223372036854775808 → does (check_acts line a marks) m i ≡ checking marks i (key_of 0 7 (suc i) ManyOne) m i (Some q)
checks line a marks i m q e h =
    behind a i m (check_tail marks) q e
    ∙ onward_makes (at_first i) (check_tail marks) [] m (pos i ∷ pos q ∷ pos 0 ∷ truth (int_le (pos 0) (pos q)) ∷ pos 0 ∷ []) nothing (tt, (tt, (tt, tt)))
    ∙ ap (λ (v : ℤ). makes (onward (at_first i) [] m nothing (stepped 7 (λ y. Through (pos i ∷ pos q ∷ pos 0 ∷ truth (int_le (pos 0) (pos q)) ∷ pos 0 ∷ v ∷ truth (int_lt v (pos i)) ∷ y ∷ [])) (if is_true (truth (int_lt v (pos i))) then Fails ManyOne else Next (pos 0))))) (ap (cell_value m) (at_is marks q) ∙ small_cell (slice_index m (marks + q)) h)
    ∙ ap (λ (b : Bool). makes (onward (at_first i) [] m nothing (stepped 7 (λ y. Through (pos i ∷ pos q ∷ pos 0 ∷ truth (int_le (pos 0) (pos q)) ∷ pos 0 ∷ pos (slice_index m (marks + q)) ∷ truth (int_lt (pos (slice_index m (marks + q))) (pos i)) ∷ y ∷ [])) (if b then Fails ManyOne else Next (pos 0))))) (less (slice_index m (marks + q)) i)
    ∙ by (nat_lt (slice_index m (marks + q)) i)
  where
    less : (n k : ℕ) → is_true (truth (int_lt (pos n) (pos k))) ≡ nat_lt n k
    less n k = flip (nat_lt n k)
      where
        flip : (b : Bool) → is_true (truth b) ≡ b
        flip true = refl
        flip false = refl

    by : (b : Bool) → makes (onward (at_first i) [] m nothing (stepped 7 (λ y. Through (pos i ∷ pos q ∷ pos 0 ∷ truth (int_le (pos 0) (pos q)) ∷ pos 0 ∷ pos (slice_index m (marks + q)) ∷ truth (int_lt (pos (slice_index m (marks + q))) (pos i)) ∷ y ∷ [])) (if b then Fails ManyOne else Next (pos 0)))) ≡ (if b then Fault (key_of 0 7 (suc i) ManyOne) ∷ [] else [])
    by true = refl
    by false = refl

pub checks_idle : (line a marks i : ℕ) (m : Cells) (q : ℕ) → cell_value m (a + i) ≡ negsuc q → does (check_acts line a marks) m i ≡ []
checks_idle line a marks i m q e = idle a i m (check_tail marks) q e
