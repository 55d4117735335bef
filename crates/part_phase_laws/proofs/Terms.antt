-- The act of a Part whose ops are those of some moves.
use Rattle.std.proofs.Common.{◌≡◌, ℕ, ◌+◌, false, List, [], ◌∷◌, ◌++◌, length, refl, ap, ◌∙◌, subst, arith, Some, None, Ok, Err, ℤ, pos}
use Rattle.phase_ops.specs.declared.effect.Turn.{Turn}
use Rattle.phase_ops.specs.declared.effect.Turn.TheVariants.{Next, Shut, Fails, Does}
use Rattle.phase_ops.specs.declared.phase.Micro.{Micro}
use Rattle.phase_ops.specs.Phases.{Cells, looks, divisors, turn, Gives, spot, gives, last_event, value_events}
use Rattle.act_eval.proofs.PartSteps.{gives_join}
use Rattle.act_eval.proofs.ValueSteps.{gives_plain}
use Rattle.loop_laws.specs.Moves.{Move, Ended, moved}
use Rattle.segment_laws.specs.Segments.{Ran, ran, seen, seen_next, AllStoreNothing, onward}
use Rattle.segment_laws.specs.Compiled.{Compiled, all_ops, RanSo}
use Rattle.segment_laws.proofs.Compiled.{runs}
use Rattle.part_phase_laws.specs.Parts.{given_at}
use Rattle.part_phase_laws.proofs.InOrder.{value_segment, with_value}

-- what was seen gives nothing
seen_gives : (i : ℕ) (m : Cells) (ops : List Micro) (regs : List ℤ) → gives (seen i m regs ops) ≡ []
seen_gives i m [] regs = refl
seen_gives i m (o ∷ ops) regs = gives_plain (looks m regs o) (divisors m o) (seen_next (λ z. seen i m (regs ++ z ∷ []) ops) (turn i m regs o)) ∙ by (λ z. seen_gives i m ops (regs ++ z ∷ [])) (turn i m regs o)
  where
    by : ((z : ℤ) → gives (seen i m (regs ++ z ∷ []) ops) ≡ []) → (t : Turn) → gives (seen_next (λ z. seen i m (regs ++ z ∷ []) ops) t) ≡ []
    by rec (Next z) = rec z
    by rec Shut = refl
    by rec (Fails n) = refl
    by rec (Does e) = rec (pos 0)

module _ (V : Type 0) (stands : ℕ → ℕ → List ℤ → List V → Type 0) (m : Cells) (number : ℕ → ℕ) where
  pub act_gives : (i line : ℕ) (xs : List (Move V)) (start : ℕ → List V) (value : ℕ → List V → ℤ) (parts : List (List Micro)) → AllStoreNothing (all_ops parts) → Compiled stands m number 0 xs parts → stands 0 i [] (start i)
      → ((regs : List ℤ) (s : List V) → stands (length xs) i regs s → last_event regs ≡ Gives (value i s) ∷ [])
      → gives (value_events (record { line = line; ops = all_ops parts; whole = false }) m i) ≡ given_at value i (moved xs (start i))
  act_gives i line xs start value parts quiet w h at_end =
      ap gives (value_segment (record { line = line; ops = all_ops parts; whole = false }) m quiet i)
      ∙ gives_join (seen i m [] (all_ops parts)) (onward (spot 0 (record { line = line; ops = all_ops parts; whole = false }) i) [] m with_value (ran i m [] (all_ops parts)))
      ∙ ap (λ (l : List ℤ). l ++ gives (onward (spot 0 (record { line = line; ops = all_ops parts; whole = false }) i) [] m with_value (ran i m [] (all_ops parts)))) (seen_gives i m (all_ops parts) [])
      ∙ by (moved xs (start i)) (ran i m [] (all_ops parts)) (runs V stands m number 0 i xs parts [] (start i) w h)
    where
      by : (x : Ended V) (r : Ran) → RanSo stands number 0 (0 + length xs) i x r → gives (onward (spot 0 (record { line = line; ops = all_ops parts; whole = false }) i) [] m with_value r) ≡ given_at value i x
      by (Ok (Some s)) r g = ap (λ (z : Ran). gives (onward (spot 0 (record { line = line; ops = all_ops parts; whole = false }) i) [] m with_value z)) g.1 ∙ ap gives (at_end g.0 s (subst (λ (z : ℕ). stands z i g.0 s) (let e : 0 + length xs ≡ length xs = omega arith in e) g.2))
      by (Ok None) r g = ap (λ (z : Ran). gives (onward (spot 0 (record { line = line; ops = all_ops parts; whole = false }) i) [] m with_value z)) g
      by (Err e) r g = ap (λ (z : Ran). gives (onward (spot 0 (record { line = line; ops = all_ops parts; whole = false }) i) [] m with_value z)) g
