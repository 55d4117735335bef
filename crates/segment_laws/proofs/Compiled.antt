-- Moves as runs of ops.
use Rattle.std.proofs.Common.{◌≡◌, ℕ, suc, ◌+◌, Bool, true, false, List, [], ◌∷◌, length, sym, refl, ap, ◌∙◌, subst, arith, Some, None, Result, Ok, Err, ℤ}
use Rattle.std.specs.Prelude.{if◌then◌else◌}
use Rattle.ws_base.specs.declared.fault.FaultName.{FaultName}
use Rattle.phase_ops.specs.declared.phase.Micro.{Micro}
use Rattle.phase_ops.specs.Phases.{Cells}
use Rattle.loop_laws.specs.Moves.{Move, Makes, Keeps, Ended, made, deeper, moved}
use Rattle.segment_laws.specs.Segments.{Ran, Broke, ran}
use Rattle.segment_laws.specs.Compiled.{MakesIt, TestsIt, Compiled, all_ops, RanSo}
use Rattle.segment_laws.proofs.Segments.{ran_on, ran_join}

module _ (V : Type 0) where
  module _ (stands : ℕ → ℕ → List ℤ → List V → Type 0) (m : Cells) (number : ℕ → ℕ) where
    shifted : (o q i : ℕ) (x : Ended V) (r : Ran) → RanSo stands number (suc o) q i x r → RanSo stands number o q i (deeper x) r
    shifted o q i (Ok (Some s)) r h = h
    shifted o q i (Ok None) r h = h
    shifted o q i (Err e) r h = h ∙ ap (λ (k : ℕ). Broke (number k) e.1) (let g : suc o + e.0 ≡ o + suc e.0 = omega arith in g)

    pub runs : (o i : ℕ) (xs : List (Move V)) (parts : List (List Micro)) (regs : List ℤ) (s : List V) → Compiled stands m number o xs parts → stands o i regs s → RanSo stands number o (o + length xs) i (moved xs s) (ran i m regs (all_ops parts))
    runs o i [] [] regs s w h = (regs, refl, subst (λ (k : ℕ). stands k i regs s) (let g : o ≡ o + 0 = omega arith in g) h)
    runs o i [] (ops ∷ parts) regs s w h = elim w [ ]
    runs o i (x ∷ xs) [] regs s w h = elim w [ ]
    runs o i (Makes f ∷ xs) (ops ∷ parts) regs s w h =
        subst (RanSo stands number o (o + length (Makes f ∷ xs)) i (moved (Makes f ∷ xs) s)) (sym (ran_join i m ops (all_ops parts) regs))
        (by (λ regs' v g. subst (λ (k : ℕ). RanSo stands number (suc o) k i (moved xs (v ∷ s)) (ran i m regs' (all_ops parts))) (let e : suc o + length xs ≡ o + suc (length xs) = omega arith in e) (runs (suc o) i xs parts regs' (v ∷ s) w.1 g)) (f s) (ran i m regs ops) (w.0 i regs s h))
      where
        by : ((regs' : List ℤ) (v : V) → stands (suc o) i regs' (v ∷ s) → RanSo stands number (suc o) (o + suc (length xs)) i (moved xs (v ∷ s)) (ran i m regs' (all_ops parts)))
            → (y : Result V FaultName) (r : Ran) → MakesIt stands o i s (number o) y r → RanSo stands number o (o + suc (length xs)) i (made (λ t. moved xs t) s y) (ran_on i m (all_ops parts) r)
        by rec (Ok v) r g = shifted o (o + suc (length xs)) i (moved xs (v ∷ s)) (ran_on i m (all_ops parts) r) (subst (λ (z : Ran). RanSo stands number (suc o) (o + suc (length xs)) i (moved xs (v ∷ s)) (ran_on i m (all_ops parts) z)) (sym g.1) (rec g.0 v g.2))
        by rec (Err n) r g = ap (ran_on i m (all_ops parts)) g ∙ ap (λ (k : ℕ). Broke (number k) n) (let e : o ≡ o + 0 = omega arith in e)
    runs o i (Keeps t ∷ xs) (ops ∷ parts) regs s w h =
        subst (RanSo stands number o (o + length (Keeps t ∷ xs)) i (moved (Keeps t ∷ xs) s)) (sym (ran_join i m ops (all_ops parts) regs))
        (by (λ regs' g. subst (λ (k : ℕ). RanSo stands number (suc o) k i (moved xs s) (ran i m regs' (all_ops parts))) (let e : suc o + length xs ≡ o + suc (length xs) = omega arith in e) (runs (suc o) i xs parts regs' s w.1 g)) (t s) (ran i m regs ops) (w.0 i regs s h))
      where
        by : ((regs' : List ℤ) → stands (suc o) i regs' s → RanSo stands number (suc o) (o + suc (length xs)) i (moved xs s) (ran i m regs' (all_ops parts)))
            → (y : Bool) (r : Ran) → TestsIt stands o i s y r → RanSo stands number o (o + suc (length xs)) i (if y then deeper (moved xs s) else Ok None) (ran_on i m (all_ops parts) r)
        by rec true r g = shifted o (o + suc (length xs)) i (moved xs s) (ran_on i m (all_ops parts) r) (subst (λ (z : Ran). RanSo stands number (suc o) (o + suc (length xs)) i (moved xs s) (ran_on i m (all_ops parts) z)) (sym g.1) (rec g.0 g.2))
        by rec false r g = ap (ran_on i m (all_ops parts)) g
