-- A phase that does nothing is free of races.
use Rattle.std.proofs.Common.{◌≡◌, ◌⊎◌, inl, inr, ℕ, zero, suc, ◌<◌, ◌≤◌, List, [], ◌∷◌, ◌++◌, length, sym, refl, ap, ◌∙◌, subst, arith, replicate, ℤ, pos}
use Rattle.std.proofs.lemmas.Int.{ints}
use Rattle.std.proofs.lemmas.List.{length-replicate}
use Rattle.phase_ops.specs.declared.phase.Micro.TheVariants as op
use Rattle.phase_ops.specs.declared.phase.Act.{Act}
use Rattle.phase_ops.specs.Phases.{Cells, Event, loads, makes, divides, Spot, spot, ops_events, strand_events, strand_effects}
use Rattle.phase_ops.specs.Free.{In, stored, lessened, Apart, WellFormed, NameEarlier, IsChunk}
use Rattle.team_core.specs.Laws.{MayStart}
use Rattle.team_run.specs.Idle.{idle_act, idle}
use Rattle.team_run.proofs.Cells.{only}

fixed_nothing : (s : Spot) (ops : ℕ) (m : Cells) (regs : List ℤ) → ops_events s (replicate ops (op.Fixed (pos 0))) m regs (λ m' r. []) ≡ []
fixed_nothing s zero m regs = refl
fixed_nothing s (suc ops) m regs = fixed_nothing s ops m (regs ++ pos 0 ∷ [])

fixed_earlier : (k ops : ℕ) → NameEarlier k (replicate ops (op.Fixed (pos 0)))
fixed_earlier k zero = tt
fixed_earlier k (suc ops) = (λ r i. elim i [ ], fixed_earlier (suc k) ops)

module _ (ops : ℕ) (few : ops ≤ 1048576) (m : Cells) (chunk : ℕ) where
  idle_nothing : (s : ℕ) → strand_events (idle ops) m chunk s ≡ []
  idle_nothing s = fixed_nothing (spot 0 (idle_act ops) 0) ops m []

  not_in : {A : Type 0} (f : List Event → List A) (x : A) (s : ℕ) → f [] ≡ [] → In x (f (strand_events (idle ops) m chunk s)) → ⊥
  not_in f x s e i = (let none : In x [] = subst (λ (l : List _). In x l) (ap f (idle_nothing s) ∙ e) i in elim none [ ])

  stores_none : (s c : ℕ) → In c (stored (strand_effects (idle ops) m chunk s)) → ⊥
  stores_none s c i = not_in (λ es. stored (makes es)) c s refl i

  lessens_none : (s c : ℕ) → In c (lessened (strand_effects (idle ops) m chunk s)) → ⊥
  lessens_none s c i = not_in (λ es. lessened (makes es)) c s refl i

  idle_apart : Apart (idle ops) m chunk
  idle_apart = record {
    stores = λ s t c bs bt i j. absurd (stores_none s c i);
    loads_apart = λ s t c bs bt i j. absurd (stores_none s c i);
    leasts = λ s t c bs bt i j. lessens_none s c i;
    parameter_apart = λ s c bs i j. elim j [ ];
  }

  idle_ops : (a : Act) → In a (idle_act ops ∷ []) → (length a.ops ≤ 1048576) × NameEarlier 0 a.ops
  idle_ops a i = subst (λ (x : Act). (length x.ops ≤ 1048576) × NameEarlier 0 x.ops) (sym (only a (idle_act ops) i)) (let e = length-replicate ops (op.Fixed (pos 0)) in omega (arith, e, few), fixed_earlier 0 ops)

  idle_laid : (s c : ℕ) → In c (stored (strand_effects (idle ops) m chunk s)) ⊎ In c (lessened (strand_effects (idle ops) m chunk s)) → c < length m
  idle_laid s c (inl i) = absurd (stores_none s c i)
  idle_laid s c (inr i) = absurd (lessens_none s c i)

  idle_well : WellFormed (idle ops) m chunk
  idle_well = record {
    count = (omega (arith, ints), omega (arith, ints));
    few_acts = omega arith;
    few_ops = idle_ops;
    positive = λ s z b i. absurd (not_in divides z s refl i);
    reduction = tt;
    there = λ c i. elim i [ ];
    loaded = λ s c b i. absurd (not_in loads c s refl i);
    laid = λ s c b i. idle_laid s c i;
  }

pub idle_may : (ops team chunk : ℕ) (m : Cells) → ops ≤ 1048576 → 1 ≤ team → team ≤ 64 → IsChunk chunk → MayStart (idle ops ∷ []) m team chunk
idle_may ops team chunk m few some most is =
    record { someone = some; team_small = most; chunk_is = is; few = omega arith; free = record { joins = (tt, tt); phases = λ c ci. (λ d di. (idle_apart ops few m d, idle_well ops few m d), λ none. tt) } }
