-- The phases of the tests over a few cells, computed.
use Rattle.std.specs.Prelude.{◌≡◌, refl, [], ◌∷◌}
use Rattle.ws_base.specs.declared.op.CallWord.TheVariants as word
use Rattle.phase_ops.specs.Phases.{result, Finished, Failed}
use Rattle.team_run.specs.Reduced.{reduced}
use Rattle.team_run.specs.Added.{added}
use Rattle.team_run.specs.Idle.{idle}

sum_by_1 : result (reduced word.Sum 4) (0 ∷ 1 ∷ 2 ∷ 3 ∷ 0 ∷ 0 ∷ 0 ∷ 0 ∷ 0 ∷ []) 1 ≡ Finished (0 ∷ 1 ∷ 2 ∷ 3 ∷ 0 ∷ 1 ∷ 2 ∷ 3 ∷ 6 ∷ [])
sum_by_1 = refl

sum_by_3 : result (reduced word.Sum 4) (0 ∷ 1 ∷ 2 ∷ 3 ∷ 0 ∷ 0 ∷ 0 ∷ 0 ∷ 0 ∷ []) 3 ≡ Finished (0 ∷ 1 ∷ 2 ∷ 3 ∷ 3 ∷ 3 ∷ 0 ∷ 0 ∷ 6 ∷ [])
sum_by_3 = refl

greatest : result (reduced word.Maxval 3) (1 ∷ 2 ∷ 3 ∷ 0 ∷ 0 ∷ 0 ∷ 0 ∷ []) 2 ≡ Finished (1 ∷ 2 ∷ 3 ∷ 2 ∷ 3 ∷ 0 ∷ 3 ∷ [])
greatest = refl

-- the Join fails, by Overflow
past_the_range : result (reduced word.Sum 2) (2147483647 ∷ 1 ∷ 0 ∷ 0 ∷ 0 ∷ []) 1 ≡ Failed 1 3
past_the_range = refl

added_once : result (added 2 ∷ []) (1 ∷ 2 ∷ 10 ∷ 20 ∷ 100 ∷ 200 ∷ 0 ∷ 0 ∷ []) 1 ≡ Finished (1 ∷ 2 ∷ 10 ∷ 20 ∷ 100 ∷ 200 ∷ 111 ∷ 222 ∷ [])
added_once = refl

nothing_done : result (idle 3 ∷ []) (7 ∷ []) 1 ≡ Finished (7 ∷ [])
nothing_done = refl
