use Rattle.std.proofs.Common.{ℤ, ◌+◌}
use Rattle.phase_ops.specs.declared.phase.Phase.TheVariants.{Loop}
use Rattle.phase_ops.specs.Phases.{after_phase, word}
use Rattle.ws_base.specs.Numbers.{truth}
use Rattle.loop_laws.specs.Moves.{whole}
use Rattle.loop_laws.specs.Loops.{rows_of}
use Rattle.loop_laws.proofs.Keyed.{keyed_loop, the_bridge}
use Rattle.loop_laws.proofs.Direct.{direct_free, direct_leaves}
use Rattle.save_laws.proofs.Values.{saving_direct, saved_values}
use Rattle.mask_laws.proofs.Masks.{masked}
use Rattle.mask_laws.proofs.laws.masking_law.Goals as goal

pub returns : goal.returns
returns c = λ l b count acts m n plan test t w.
    let d = saving_direct ℤ plan (λ i s. word (truth (test s))) t count acts m n w in
    let g = the_bridge ℤ plan acts m n w.fitting.small w.follows in (
      direct_free ℤ plan (λ i s. t + i) (λ i s. word (truth (test s))) count acts m n d l b,
      λ chunk is. (
        keyed_loop ℤ l b count acts m n chunk plan is w.fitting w.follows,
        masked ℤ test t n m (after_phase (Loop l b count acts) m chunk) (whole plan.moves (rows_of plan n))
            (saved_values ℤ plan (λ i s. word (truth (test s))) t count acts m n w (after_phase (Loop l b count acts) m chunk) (whole plan.moves (rows_of plan n)) g
            (direct_leaves ℤ plan (λ i s. t + i) (λ i s. word (truth (test s))) count acts m n d l b chunk is (whole plan.moves (rows_of plan n)) g)),
      ),
    )
