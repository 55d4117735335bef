-- One place at a time.
use Rattle.std.proofs.Common.{◌≡◌, arith, inl, inr, refl, sym, ap, ◌∙◌, subst, ℕ, zero, suc, ◌+◌, ◌*◌, ◌<◌, ◌≤◌, Bool, true, false, List, [], ◌∷◌, ◌++◌, map, length, Option, Some, None, Ok, Err, ℤ, pos, ◌<ℤ◌}
use Rattle.std.specs.Prelude.{if◌then◌else◌, option_map}
use mathlib.Core.Logic.{dite}
use native.Mathlib.Decide.{dec_le}
use Rattle.std.specs.List.{slice_get}
use Rattle.std.proofs.lemmas.Option.{slice_get-map}
use Rattle.ws_base.specs.declared.fault.FaultName.{FaultName}
use Rattle.ws_base.specs.declared.fault.Trouble.{Trouble}
use Rattle.ws_base.specs.Numbers.{Exact, is_true, default_half}
use Rattle.ws_base.specs.Outcomes.{Staged, joined, each}
use Rattle.ws_base.specs.Laws.{FailsFirst}
use Rattle.ws_base.proofs.Each.{FailsFirst-from_each}
use Rattle.ws_base.specs.Words.{fault_number}
use Rattle.phase_ops.specs.declared.effect.Turn.{Turn}
use Rattle.phase_ops.specs.declared.effect.Turn.TheVariants.{Next, Shut, Fails, Does}
use Rattle.phase_ops.specs.declared.effect.Effect.TheVariants.{Fault}
use Rattle.phase_ops.specs.declared.phase.Micro.{Micro}
use Rattle.phase_ops.specs.declared.phase.Micro.TheVariants as micro
use Rattle.phase_ops.specs.Scalars.{one_value, scalar_value}
use Rattle.phase_ops.specs.Phases.{Cells, register, looks, divisors, turn, turn_of, key_of, Spot, Event, Loads, Divides, Makes, plain, went, ops_events, makes, gives, loads, divides}
use Rattle.phase_ops.specs.Free.{In}
use Rattle.act_laws.specs.Together.{Files, Scene, outcome, number_in, gives_at, with_op, with_ops, Stop, stop_at, first_stop, Level, MayRead}
use Rattle.act_laws.specs.Strands.{IsPlain, ArePlain, Quiet, Goes, NoEarlier, Apart}
use Rattle.act_laws.proofs.Following.{Level-with_op}

-- ---- turns of plain ops

abbrev IsPlainTurn : Turn → Type 0
IsPlainTurn (Next z) = Unit {0}
IsPlainTurn (Fails n) = Unit {0}
IsPlainTurn Shut = ⊥
IsPlainTurn (Does e) = ⊥

plain_of : (e : Exact) → IsPlainTurn (turn_of e)
plain_of (Ok z) = tt
plain_of (Err n) = tt

plain_if : (b : Bool) (n : FaultName) → IsPlainTurn (if b then Fails n else Next (pos 0))
plain_if true n = tt
plain_if false n = tt

plain_turn : (i : ℕ) (m : Cells) (regs : List ℤ) (op : Micro) → IsPlain op → IsPlainTurn (turn i m regs op)
plain_turn i m regs (micro.Fixed z) h = tt
plain_turn i m regs micro.Position h = tt
plain_turn i m regs (micro.Digit r b d) h = tt
plain_turn i m regs (micro.Load a) h = tt
plain_turn i m regs (micro.Unary o r) h = plain_of (one_value default_half o (register regs r))
plain_turn i m regs (micro.Binary o r q) h = plain_of (scalar_value default_half o (register regs r) (register regs q))
plain_turn i m regs (micro.Select r q t) h = tt
plain_turn i m regs (micro.Gate r) h = absurd h
plain_turn i m regs (micro.FailIf n r) h = plain_if (is_true (register regs r)) n
plain_turn i m regs (micro.Store a r) h = absurd h
plain_turn i m regs (micro.Least a r) h = absurd h

-- ---- quiet events

pub makes_plain : (cs : List ℕ) (ds : List ℤ) (es : List Event) → makes (plain cs ds es) ≡ makes es
makes_plain [] [] es = refl
makes_plain [] (d ∷ ds) es = makes_plain [] ds es
makes_plain (c ∷ cs) ds es = makes_plain cs ds es

gives_plain : (cs : List ℕ) (ds : List ℤ) (es : List Event) → gives (plain cs ds es) ≡ gives es
gives_plain [] [] es = refl
gives_plain [] (d ∷ ds) es = gives_plain [] ds es
gives_plain (c ∷ cs) ds es = gives_plain cs ds es

module _ (s : Scene) (es : List Event) (q : Quiet s es) where
  loads_plain : (cs : List ℕ) (ds : List ℤ) → ((c : ℕ) → In c cs → In c s.may) → (c : ℕ) → In c (loads (plain cs ds es)) → In c s.may
  loads_plain [] [] h c i = q.may c i
  loads_plain [] (d ∷ ds) h c i = loads_plain [] ds h c i
  loads_plain (b ∷ cs) ds h c (inl e) = h c (inl e)
  loads_plain (b ∷ cs) ds h c (inr i) = loads_plain cs ds (λ d l. h d (inr l)) c i

  divides_plain : (cs : List ℕ) (ds : List ℤ) → ((z : ℤ) → In z ds → pos 0 <ℤ z) → (z : ℤ) → In z (divides (plain cs ds es)) → pos 0 <ℤ z
  divides_plain [] [] h z i = q.positive z i
  divides_plain [] (d ∷ ds) h z (inl e) = h z (inl e)
  divides_plain [] (d ∷ ds) h z (inr i) = divides_plain [] ds (λ y l. h y (inr l)) z i
  divides_plain (c ∷ cs) ds h z i = divides_plain cs ds h z i

  quiet_plain : (cs : List ℕ) (ds : List ℤ) → ((c : ℕ) → In c cs → In c s.may) → ((z : ℤ) → In z ds → pos 0 <ℤ z) → Quiet s (plain cs ds es)
  quiet_plain cs ds may positive = record {
    makes_none = makes_plain cs ds es ∙ q.makes_none;
    gives_none = gives_plain cs ds es ∙ q.gives_none;
    may = loads_plain cs ds may;
    positive = divides_plain cs ds positive;
  }

quiet_none : (s : Scene) → Quiet s []
quiet_none s = record { makes_none = refl; gives_none = refl; may = λ c i. elim i [ ]; positive = λ z i. elim i [ ] }

plain-append : (cs : List ℕ) (ds : List ℤ) (es fs : List Event) → plain cs ds (es ++ fs) ≡ plain cs ds es ++ fs
plain-append [] [] es fs = refl
plain-append [] (d ∷ ds) es fs = ap (λ (l : List Event). Divides d ∷ l) (plain-append [] ds es fs)
plain-append (c ∷ cs) ds es fs = ap (λ (l : List Event). Loads c ∷ l) (plain-append cs ds es fs)

-- ---- a strand

module _ (s : Scene) (act element p : ℕ) (more : List Micro) (rest : Cells → List ℤ → List Event) where
  abbrev spot : Spot
  spot = record { act = act; element = element; iteration = s.iteration p }

  abbrev Ready : Files → List Micro → Option Stop → Type 0
  Ready files ops stop = Goes s act element p files ops more rest stop

  -- what comes after the looks of the first op
  module _ (files : Files) (op : Micro) (ops : List Micro) (may : (c : ℕ) → In c (looks s.cells (files p) op) → In c s.may) (positive : (z : ℤ) → In z (divisors s.cells op) → pos 0 <ℤ z) where
    abbrev after_looks : List Event → List Event
    after_looks es = plain (looks s.cells (files p) op) (divisors s.cells op) es

    abbrev here : Turn → List Event
    here t = went (((act * 1048576 + length (files p)) * 1048576 + element) * 16) s.cells (λ m' z. ops_events spot (ops ++ more) m' (files p ++ z ∷ []) rest) rest t

    with_looks : (stop : Option Stop) → Ready (with_op s op files) ops stop
        → after_looks (ops_events spot (ops ++ more) s.cells (with_op s op files p) rest) ≡ ops_events spot (op ∷ (ops ++ more)) s.cells (files p) rest
        → Ready files (op ∷ ops) stop
    with_looks None h e = (
      after_looks h.0,
      quiet_plain s h.0 h.1 (looks s.cells (files p) op) (divisors s.cells op) may positive,
      sym e ∙ (ap after_looks h.2 ∙ plain-append (looks s.cells (files p) op) (divisors s.cells op) h.0 (ops_events spot more s.cells (with_ops s ops (with_op s op files) p) rest)),
    )
    with_looks (Some stop) h e = (
      after_looks h.0,
      quiet_plain s h.0 h.1 (looks s.cells (files p) op) (divisors s.cells op) may positive,
      sym e ∙ (ap after_looks h.2 ∙ plain-append (looks s.cells (files p) op) (divisors s.cells op) h.0 (Makes (Fault (key_of act stop.op element stop.trouble.name)) ∷ [])),
    )

    one_step : (k : ℕ) → Level k files → (t : Turn) → turn (s.iteration p) s.cells (files p) op ≡ t → IsPlainTurn t
        → ((z : ℤ) → t ≡ Next z → Ready (with_op s op files) ops (first_stop s (p ∷ []) (suc k) (with_op s op files) ops))
        → Ready files (op ∷ ops) (stop_at k (joined (outcome t) (Ok [])) (first_stop s (p ∷ []) (suc k) (with_op s op files) ops))
    one_step k level (Next z) e h more_ready =
        with_looks (first_stop s (p ∷ []) (suc k) (with_op s op files) ops) (more_ready z refl)
        (ap after_looks (ap (λ t. ops_events spot (ops ++ more) s.cells (files p ++ number_in (outcome t) ∷ []) rest) e ∙ ap here (sym e)))
    one_step k level (Fails n) e h more_ready = (
      after_looks [],
      quiet_plain s [] (quiet_none s) (looks s.cells (files p) op) (divisors s.cells op) may positive,
      ap (λ t. after_looks (here t)) e
          ∙ (ap (λ l. after_looks (Makes (Fault (((act * 1048576 + l) * 1048576 + element) * 16 + fault_number n)) ∷ [])) (level p)
          ∙ plain-append (looks s.cells (files p) op) (divisors s.cells op) [] (Makes (Fault (key_of act k element n)) ∷ [])),
    )
    one_step k level Shut e h more_ready = absurd h
    one_step k level (Does x) e h more_ready = absurd h

  pub strand_goes : (k : ℕ) (files : Files) (ops : List Micro) → Level k files → ArePlain ops → MayRead s ops files p → Ready files ops (first_stop s (p ∷ []) k files ops)
  strand_goes k files [] level plains may = ([], quiet_none s, refl)
  strand_goes k files (op ∷ ops) level plains may =
      one_step files op ops may.0 may.1 k level (turn (s.iteration p) s.cells (files p) op) refl (plain_turn (s.iteration p) s.cells (files p) op plains.0)
      (λ z e. strand_goes (suc k) (with_op s op files) ops (Level-with_op s k files op level) plains.1 (may.2 z (ap outcome e)))

-- ---- one place and many

abbrev pub IsOkay : Exact → Type 0
IsOkay (Ok z) = Unit {0}
IsOkay (Err n) = ⊥

okay_both : (x : Exact) (r : Staged (List ℤ)) (xs : List ℤ) → joined x r ≡ Ok xs → IsOkay x × ((ys : List ℤ) × (r ≡ Ok ys))
okay_both (Ok z) (Ok ys) xs h = (tt, (ys, refl))
okay_both (Ok z) (Err t) xs h = let f : ⊥ = cc in absurd f
okay_both (Err n) r xs h = let f : ⊥ = cc in absurd f

pub each_okay : (f : ℕ → Exact) (at : List ℕ) (xs : List ℤ) → each f at ≡ Ok xs → (p : ℕ) → In p at → IsOkay (f p)
each_okay f [] xs h p i = elim i [ ]
each_okay f (q ∷ qs) xs h p (inl e) = subst (λ j. IsOkay (f j)) (sym e) (okay_both (f q) (each f qs) xs h).0
each_okay f (q ∷ qs) xs h p (inr i) = let more = (okay_both (f q) (each f qs) xs h).1 in each_okay f qs more.0 more.1 p i

in_got : (at : List ℕ) (j p : ℕ) → slice_get at j ≡ Some p → In p at
in_got [] j p h = let f : ⊥ = cc in absurd f
in_got (q ∷ qs) zero p h = inl (let e : p ≡ q = cc in e)
in_got (q ∷ qs) (suc j) p h = inr (in_got qs j p h)

got_from : {B : Type 0} (f : ℕ → B) (o : Option ℕ) (y : B) → option_map f o ≡ Some y → (p : ℕ) × (o ≡ Some p) × (f p ≡ y)
got_from f (Some p) y h = (p, refl, let e : f p ≡ y = cc in e)
got_from f None y h = let g : ⊥ = cc in absurd g

got : {B : Type 0} (f : ℕ → B) (at : List ℕ) (j : ℕ) (y : B) → slice_get (map f at) j ≡ Some y → (p : ℕ) × (slice_get at j ≡ Some p) × (f p ≡ y)
got f at j y h = got_from f (slice_get at j) y (sym (slice_get-map f at j) ∙ h)

-- no op before the first one stops
above_from : (k : ℕ) (r : Staged (List ℤ)) (later : Option Stop) (stop : Stop) → stop_at k r later ≡ Some stop → (later ≡ Some stop → suc k ≤ stop.op) → k ≤ stop.op
above_from k (Ok xs) later stop h more = let l = more h in omega (arith, l)
above_from k (Err t) later stop h more = let e : k ≡ stop.op = cc in omega (arith, e)

stop_above : (s : Scene) (at : List ℕ) (k : ℕ) (files : Files) (ops : List Micro) (stop : Stop) → first_stop s at k files ops ≡ Some stop → k ≤ stop.op
stop_above s at k files [] stop h = let f : ⊥ = cc in absurd f
stop_above s at k files (op ∷ ops) stop h = above_from k (each (gives_at s files op) at) (first_stop s at (suc k) (with_op s op files) ops) stop h (stop_above s at (suc k) (with_op s op files) ops stop)

module _ (s : Scene) (at : List ℕ) (k : ℕ) (files : Files) (op : Micro) (ops : List Micro) where
  abbrev later : List ℕ → Option Stop
  later ps = first_stop s ps (suc k) (with_op s op files) ops

  -- a single place that passes the first op
  single_on : (p : ℕ) (x : Exact) → gives_at s files op p ≡ x → IsOkay x → first_stop s (p ∷ []) k files (op ∷ ops) ≡ later (p ∷ [])
  single_on p (Ok z) e h = ap (λ y. stop_at k (joined y (Ok [])) (later (p ∷ []))) e
  single_on p (Err n) e h = absurd h

  single_off : (p : ℕ) (n : FaultName) → gives_at s files op p ≡ Err n → first_stop s (p ∷ []) k files (op ∷ ops) ≡ Some (record { op = k; trouble = record { element = 0; name = n } })
  single_off p n e = ap (λ y. stop_at k (joined y (Ok [])) (later (p ∷ []))) e

  all_on : (xs : List ℤ) → each (gives_at s files op) at ≡ Ok xs → (stop : Option Stop) → Apart s at (suc k) (with_op s op files) ops stop → Apart s at k files (op ∷ ops) stop
  all_on xs e None h = λ p i. single_on p (gives_at s files op p) refl (each_okay (gives_at s files op) at xs e p i) ∙ h p i
  all_on xs e (Some first) h = (
    (h.0.0, h.0.1, single_on h.0.0 (gives_at s files op h.0.0) refl (each_okay (gives_at s files op) at xs e h.0.0 (in_got at first.trouble.element h.0.0 h.0.1)) ∙ h.0.2),
    λ j p g. subst (NoEarlier first j) (sym (single_on p (gives_at s files op p) refl (each_okay (gives_at s files op) at xs e p (in_got at j p g)))) (h.1 j p g),
  )

  no_earlier_on : (t : Trouble) (j : ℕ) (o : Option Stop) → ((stop : Stop) → o ≡ Some stop → suc k ≤ stop.op) → NoEarlier (record { op = k; trouble = t }) j o
  no_earlier_on t j None h = tt
  no_earlier_on t j (Some stop) h = inl (h stop refl)

  no_earlier : (t : Trouble) → FailsFirst (gives_at s files op) at t → (j p : ℕ) → slice_get at j ≡ Some p → (x : Exact) → gives_at s files op p ≡ x → NoEarlier (record { op = k; trouble = t }) j (first_stop s (p ∷ []) k files (op ∷ ops))
  no_earlier t fails j p g (Ok z) e = subst (NoEarlier (record { op = k; trouble = t }) j) (sym (single_on p (Ok z) e tt)) (no_earlier_on t j (later (p ∷ [])) (stop_above s (p ∷ []) (suc k) (with_op s op files) ops))
  no_earlier t fails j p g (Err n) e = subst (NoEarlier (record { op = k; trouble = t }) j) (sym (single_off p n e)) (inr (refl, dite (dec_le t.element j) (λ l. l) (λ l. absurd (too_early (omega (arith, l))))))
    where
      too_early : j < t.element → ⊥
      too_early l =
          let b = fails.before j l in
          let c = got (gives_at s files op) at j (Ok b.0) b.1 in
          let same : Some c.0 ≡ Some p = sym c.1 ∙ g in
          let q : c.0 ≡ p = cc in
          let clash : Ok b.0 ≡ Err n = sym c.2 ∙ (ap (gives_at s files op) q ∙ e) in
          cc

  some_off : (t : Trouble) → each (gives_at s files op) at ≡ Err t → Apart s at k files (op ∷ ops) (Some (record { op = k; trouble = t }))
  some_off t e =
      let fails = FailsFirst-from_each (gives_at s files op) at t e in
      let x = got (gives_at s files op) at t.element (Err t.name) fails.fault in (
        (x.0, x.1, single_off x.0 t.name x.2),
        λ j p g. no_earlier t fails j p g (gives_at s files op p) refl,
      )

  apart_from : (r : Staged (List ℤ)) → each (gives_at s files op) at ≡ r → Apart s at (suc k) (with_op s op files) ops (later at) → Apart s at k files (op ∷ ops) (stop_at k r (later at))
  apart_from (Ok xs) e h = all_on xs e (later at) h
  apart_from (Err t) e h = some_off t e

pub places_apart : (s : Scene) (at : List ℕ) (k : ℕ) (files : Files) (ops : List Micro) → Apart s at k files ops (first_stop s at k files ops)
places_apart s at k files [] = λ p i. refl
places_apart s at k files (op ∷ ops) = apart_from s at k files op ops (each (gives_at s files op) at) refl (places_apart s at (suc k) (with_op s op files) ops)
