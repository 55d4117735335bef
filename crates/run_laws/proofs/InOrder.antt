-- Runs one after another.
use Rattle.std.proofs.Common.{◌≡◌, refl, ap, ◌∙◌, List, ◌++◌, Result, Ok, Err, append_assoc, append-nil}
use Rattle.ws_base.specs.declared.fault.Fault.{Fault}
use Rattle.ws_space.specs.declared.state.State.{State}
use Rattle.ws_space.specs.Runs.{Entry, Run, run_of, continued, after_state, and_then}

after_same : (es : List Entry) (r : Result State Fault) (f g : State → Run) → ((s : State) → f s ≡ g s) → after_state es r f ≡ after_state es r g
after_same es (Ok s) f g h = ap (continued es) (h s)
after_same es (Err e) f g h = refl

pub and_then-same : (r : Run) (f g : State → Run) → ((s : State) → f s ≡ g s) → and_then r f ≡ and_then r g
and_then-same r f g h = after_same r.entries r.end f g h

after_more : (es fs : List Entry) (r : Result State Fault) (g : State → Run) → after_state (es ++ fs) r g ≡ continued es (after_state fs r g)
after_more es fs (Ok s) g = ap (λ l. let q : Run = record { entries = l; end = (g s).end } in q) (append_assoc es fs (g s).entries)
after_more es fs (Err e) g = refl

after_both : (es : List Entry) (r : Result State Fault) (f g : State → Run) → and_then (after_state es r f) g ≡ after_state es r (λ s. and_then (f s) g)
after_both es (Ok s) f g = after_more es (f s).entries (f s).end g
after_both es (Err e) f g = refl

pub and_then-both : (r : Run) (f g : State → Run) → and_then (and_then r f) g ≡ and_then r (λ s. and_then (f s) g)
and_then-both r f g = after_both r.entries r.end f g

after_done : (es : List Entry) (r : Result State Fault) → after_state es r (λ s. run_of (Ok s)) ≡ record { entries = es; end = r }
after_done es (Ok s) = ap (λ l. let q : Run = record { entries = l; end = Ok s } in q) (append-nil es)
after_done es (Err e) = refl

pub and_then-done : (r : Run) → and_then r (λ s. run_of (Ok s)) ≡ r
and_then-done r = after_done r.entries r.end

-- ---- runs that end in states of which this holds

abbrev pub EndsIn : (State → Type 0) → Result State Fault → Type 0
EndsIn P (Ok s) = P s
EndsIn P (Err e) = Unit {0}

-- the first run is the second, which ends in such a state
pub record Same (P : State → Type 0) (r q : Run) : Type 0 where
  pub same : r ≡ q
  pub ends : EndsIn P q.end

module _ (P : State → Type 0) where
  after_same_in : (es : List Entry) (r : Result State Fault) (f g : State → Run) → EndsIn P r → ((s : State) → P s → Same P (f s) (g s)) → Same P (after_state es r f) (after_state es r g)
  after_same_in es (Ok s) f g h k = let both = k s h in record { same = ap (continued es) both.same; ends = both.ends }
  after_same_in es (Err e) f g h k = record { same = refl; ends = tt }

  pub same-then : (r q : Run) (f g : State → Run) → Same P r q → ((s : State) → P s → Same P (f s) (g s)) → Same P (and_then r f) (and_then q g)
  same-then r q f g h k =
      let both = after_same_in q.entries q.end f g h.ends k in
      record { same = ap (λ x. and_then x f) h.same ∙ both.same; ends = both.ends }

  -- where what holds in between is something else
  after_step_in : (Q : State → Type 0) (es : List Entry) (r : Result State Fault) (f g : State → Run) → EndsIn Q r → ((s : State) → Q s → Same P (f s) (g s)) → Same P (after_state es r f) (after_state es r g)
  after_step_in Q es (Ok s) f g h k = let both = k s h in record { same = ap (continued es) both.same; ends = both.ends }
  after_step_in Q es (Err e) f g h k = record { same = refl; ends = tt }

  pub same-after : (Q : State → Type 0) (r : Run) (f g : State → Run) → EndsIn Q r.end → ((s : State) → Q s → Same P (f s) (g s)) → Same P (and_then r f) (and_then r g)
  same-after Q r f g h k = after_step_in Q r.entries r.end f g h k
