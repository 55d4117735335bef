-- A Set does what its one strand does.
use Rattle.std.proofs.Common.{◌≡◌, ◌⊎◌, inl, inr, ℕ, ◌<◌, List, [], ◌++◌, length, ◌∙◌, arith}
use Rattle.std.proofs.lemmas.Int.{ints}
use Rattle.std.proofs.lemmas.List.{append-nil}
use Rattle.phase_ops.specs.declared.phase.Act.{Act}
use Rattle.phase_ops.specs.declared.phase.Label.{Label}
use Rattle.phase_ops.specs.declared.phase.Phase.TheVariants.{Set}
use Rattle.phase_ops.specs.Phases.{Cells, phase_effects}
use Rattle.phase_ops.specs.Free.{In, stored, lessened, Free}
use Rattle.loop_laws.specs.Loops.{does}
use Rattle.loop_laws.specs.Sets.{Staging}

module _ (l : ℕ) (b : Label) (acts : List Act) (m : Cells) (w : Staging acts m) where
  pub one_strand : (chunk : ℕ) → phase_effects (Set l b acts) m chunk ≡ does acts m 0
  one_strand chunk = append-nil (does acts m 0 ++ []) ∙ append-nil (does acts m 0)

  laid : (c : ℕ) → In c (stored (does acts m 0)) ⊎ In c (lessened (does acts m 0)) → c < length m
  laid c (inl h) = w.stored_there c h
  laid c (inr h) = absurd (w.no_least c h)

  pub set_free : Free (Set l b acts) m
  set_free = λ chunk is. (
    record {
      stores = λ s t c hs ht x y. omega (arith, hs, ht);
      loads_apart = λ s t c hs ht x y. omega (arith, hs, ht);
      leasts = λ s t c hs ht x y. w.no_least c x;
      parameter_apart = λ s c hs x y. y;
    },
    record {
      count = (grind (arith, ints), grind (arith, ints));
      few_acts = w.few_acts;
      few_ops = w.few_ops;
      positive = λ s z hs h. w.positive z h;
      reduction = tt;
      there = λ c h. elim h [ ];
      loaded = λ s c hs h. w.loaded c h;
      laid = λ s c hs h. laid c h;
    },
  )
