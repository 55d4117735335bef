-- Two runs of a DO whose blocks run alike, and whose states fit the names.
use Rattle.std.proofs.Common.{◌≡◌, refl, ap, ℕ, zero, suc, ◌+◌, Bool, true, false, Result, Ok, Err, ℤ, nat_lt, if◌then◌else◌}
use Rattle.ws_base.specs.declared.fault.FaultName.TheVariants.{Steps}
use Rattle.ws_base.specs.declared.fault.Fault.{Fault}
use Rattle.ws_base.specs.Numbers.{Exact, default_half, exact}
use Rattle.ws_base.specs.Outcomes.{scalar_of, ◌>>=◌}
use Rattle.ws_space.specs.declared.shape.Triplet.{Triplet}
use Rattle.ws_space.specs.declared.state.State.{State}
use Rattle.ws_space.specs.Shapes.{count}
use Rattle.ws_space.specs.Values.{Name}
use Rattle.ws_space.specs.Faults.{at_line}
use Rattle.ws_space.specs.Subscripts.{stepped}
use Rattle.ws_space.specs.Runs.{Run, run_of, and_then, region_run, entered, ticked, most_steps, assigned_scalar, iterations, iteration, looped, loop_of}
use Rattle.array_meaning.specs.declared.world.Source.{Source}
use Rattle.array_meaning.specs.Program.{world}
use Rattle.lower_values.specs.declared.names.Names.{Names}
use Rattle.world_laws.specs.Worlds.{FitsNames}
use Rattle.run_laws.proofs.InOrder.{EndsIn, Same, same-then, same-after}

-- the variables of the state fit the names, in the world of this source
abbrev pub FitsState : Source → Names → State → Type 0
FitsState g names s = FitsNames names (world g s)

-- an outcome of which this holds, as a run
pub same_end : (P : State → Type 0) (r q : Result State Fault) → r ≡ q → EndsIn P q → Same P (run_of r) (run_of q)
same_end P r q e h = record { same = ap run_of e; ends = h }

module _ (g : Source) (names : Names) where
  abbrev P : State → Type 0
  P = FitsState g names

  ticked_at : (b : Bool) (line n : ℕ) (s : State) → P s → EndsIn P (if b then Err (record { line = line; name = Steps; element = 0 }) else Ok (record s { steps = s.steps + n }))
  ticked_at true line n s h = tt
  ticked_at false line n s h = h

  pub ticked_fits : (line n : ℕ) (s : State) → P s → EndsIn P (ticked line n s)
  ticked_fits line n s h = ticked_at (nat_lt most_steps (s.steps + n)) line n s h

  -- after the count, where the states fit still
  pub same-counted : (line n : ℕ) (s : State) (f q : State → Run) → P s → ((r : State) → P r → Same P (f r) (q r)) → Same P (and_then (run_of (ticked line n s)) f) (and_then (run_of (ticked line n s)) q)
  same-counted line n s f q h k = same-after P P (run_of (ticked line n s)) f q (ticked_fits line n s h) k

  pub same-region : (line : ℕ) (s : State) (f q : State → Result State Fault) → P s → ((r : State) → P r → (f r ≡ q r) × EndsIn P (q r)) → Same P (region_run line s f) (region_run line s q)
  same-region line s f q h k =
      let both = k (entered s) h in
      record { same = ap (λ r. let run : Run = record { entries = (region_run line s q).entries; end = r } in run) both.0; ends = both.1 }

  module _ (line : ℕ) (x : Name) (scalar_fits : (s : State) (v : ℤ) → P s → P (assigned_scalar s x v)) where
    module _ (t : Triplet) (f q : State → Run) (blocks : (s : State) → P s → Same P (f s) (q s)) where
      iteration_same : (k : ℕ) (s : State) → P s → Same P (iteration line x t f k s) (iteration line x t q k s)
      unfolding iteration
      iteration_same k s h = same-counted line 1 s _ _ h (λ r fits. blocks (assigned_scalar r x (stepped t k)) (scalar_fits r (stepped t k) fits))

      iterations_same : (n k : ℕ) (s : State) → P s → Same P (iterations (iteration line x t f) n k s) (iterations (iteration line x t q) n k s)
      iterations_same zero k s h = record { same = refl; ends = h }
      iterations_same (suc n) k s h = same-then P (iteration line x t f k s) (iteration line x t q k s) _ _ (iteration_same k s h) (λ r fits. iterations_same n (suc k) r fits)

      ends_at : (r : Exact) (s : State) → P s → EndsIn P (at_line line (scalar_of r >>= (λ v. Ok (assigned_scalar s x v))))
      ends_at (Ok v) s h = scalar_fits s v h
      ends_at (Err e) s h = tt

      looped_same : (s : State) → P s → Same P (looped line x t f s) (looped line x t q s)
      looped_same s h = same-then P _ _ _ _ (iterations_same (count t) 0 s h) (λ r fits. record { same = refl; ends = ends_at (exact default_half (stepped t (count t))) r fits })

    pub loop_same : (r : Result Triplet Fault) (f q : State → Run) → ((s : State) → P s → Same P (f s) (q s)) → (s : State) → P s → Same P (loop_of line x r f s) (loop_of line x r q s)
    loop_same (Ok t) f q blocks s h = looped_same t f q blocks s h
    loop_same (Err e) f q blocks s h = record { same = refl; ends = tt }
