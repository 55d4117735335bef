-- The act that puts the negative of the number of its position.
use Rattle.std.proofs.Common.{◌≡◌, ℕ, ◌+◌, ◌<◌, Bool, true, List, [], ◌∷◌, ap, ◌∙◌, arith, Ok, Err, pos, negsuc}
use Rattle.std.specs.Prelude.{if◌then◌else◌, ◌-ℤ◌}
use Rattle.std.proofs.lemmas.Int.{ints}
use Rattle.std.proofs.lemmas.Bool.Decides.{nat_tests}
use Rattle.ws_base.specs.declared.fault.FaultName.TheVariants.{Overflow}
use Rattle.ws_base.specs.Numbers.{Exact, exact, in_range, default_half}
use Rattle.phase_ops.specs.declared.effect.Effect.TheVariants.{Store}
use Rattle.phase_ops.specs.declared.phase.Micro.TheVariants as op
use Rattle.phase_ops.specs.declared.phase.Act.{Act}
use Rattle.phase_ops.specs.Phases.{Cells, word, over, turn_of, acts_events, makes}
use Rattle.loop_laws.specs.Loops.{does}
use Rattle.segment_laws.specs.Segments.{Ran, Through, stepped, ran, onward}
use Rattle.segment_laws.specs.Acts.{from, negative_ops, idle_act}
use Rattle.segment_laws.proofs.Acts.{onward_makes, at_is, at_first}

negative : (i : ℕ) → i < 65536 → exact default_half (negsuc 0 -ℤ pos i) ≡ Ok (negsuc i)
negative i l = ap (exact default_half) (let e : negsuc 0 -ℤ pos i ≡ negsuc i = grind (arith, ints) in e) ∙ ap (λ (b : Bool). let r : Exact = if b then Ok (negsuc i) else Err Overflow in r) (let e : in_range default_half (negsuc i) ≡ true = grind (arith, nat_tests) in e)

pub idles : (i : ℕ) (m : Cells) → i < 65536 → ran i m [] negative_ops ≡ Through (pos i ∷ negsuc 0 ∷ negsuc i ∷ [])
idles i m l = ap (λ (r : Exact). stepped 2 (λ z. Through (pos i ∷ negsuc 0 ∷ z ∷ [])) (turn_of r)) (negative i l)

-- the memory behind the first act
abbrev pub with_idle : ℕ → ℕ → Cells → Cells
with_idle a i m = over (Store (a + i) (word (negsuc i))) m

pub first_act : (line a i : ℕ) (more : List Act) (m : Cells) → i < 65536 → does (idle_act line a ∷ more) m i ≡ Store (a + i) (word (negsuc i)) ∷ makes (acts_events i 1 more (with_idle a i m))
first_act line a i more m l =
    onward_makes (at_first i) negative_ops (op.Store (from a 0) 2 ∷ []) m [] (λ m' regs. acts_events i 1 more m') (tt, (tt, (tt, tt)))
    ∙ ap (λ (r : Ran). makes (onward (at_first i) (op.Store (from a 0) 2 ∷ []) m (λ m' regs. acts_events i 1 more m') r)) (idles i m l)
    ∙ (λ j. Store (at_is a i j) (word (negsuc i)) ∷ makes (acts_events i 1 more (over (Store (at_is a i j) (word (negsuc i))) m)))
