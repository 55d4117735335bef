-- A run of ops that stores nothing.
use Rattle.std.proofs.Common.{◌≡◌, ℕ, ◌+◌, ◌*◌, Bool, true, false, List, [], ◌∷◌, ◌++◌, map, length, sym, refl, ap, ◌∙◌, Ok, Err, ℤ, pos}
use Rattle.std.specs.Prelude.{if◌then◌else◌}
use Rattle.std.proofs.lemmas.List.{append_assoc}
use Rattle.ws_base.specs.declared.fault.FaultName.{FaultName}
use Rattle.ws_base.specs.Numbers.{Exact, is_true, default_half}
use Rattle.phase_ops.specs.Scalars.{one_value, scalar_value}
use Rattle.phase_ops.specs.declared.effect.Turn.{Turn}
use Rattle.phase_ops.specs.declared.effect.Turn.TheVariants.{Next, Shut, Fails, Does}
use Rattle.phase_ops.specs.declared.phase.Micro.{Micro}
use Rattle.phase_ops.specs.declared.phase.Micro.TheVariants as micro
use Rattle.phase_ops.specs.Phases.{Cells, register, looks, divisors, turn, turn_of, Spot, Event, Loads, Divides, plain, went, ops_events, makes}
use Rattle.phase_ops.proofs.Keys.{makes_plain}
use Rattle.segment_laws.specs.Segments.{Ran, Through, Out, Broke, stepped, ran, seen_next, seen, StoresNothing, AllStoreNothing, onward}

abbrev Quiet : Turn → Type 0
Quiet (Does e) = ⊥
Quiet _ = Unit {0}

given_quiet : (r : Exact) → Quiet (turn_of r)
given_quiet (Ok z) = tt
given_quiet (Err n) = tt

gate_quiet : (b : Bool) → Quiet (if b then Next (pos 0) else Shut)
gate_quiet true = tt
gate_quiet false = tt

fail_quiet : (b : Bool) (n : FaultName) → Quiet (if b then Fails n else Next (pos 0))
fail_quiet true n = tt
fail_quiet false n = tt

turn_quiet : (i : ℕ) (m : Cells) (regs : List ℤ) (op : Micro) → StoresNothing op → Quiet (turn i m regs op)
turn_quiet i m regs (micro.Fixed z) h = tt
turn_quiet i m regs micro.Position h = tt
turn_quiet i m regs (micro.Digit r b q) h = tt
turn_quiet i m regs (micro.Load a) h = tt
turn_quiet i m regs (micro.Unary o r) h = given_quiet (one_value default_half o (register regs r))
turn_quiet i m regs (micro.Binary o r q) h = given_quiet (scalar_value default_half o (register regs r) (register regs q))
turn_quiet i m regs (micro.Select r q t) h = tt
turn_quiet i m regs (micro.Gate r) h = gate_quiet (is_true (register regs r))
turn_quiet i m regs (micro.FailIf n r) h = fail_quiet (is_true (register regs r)) n
turn_quiet i m regs (micro.Store a r) h = elim h [ ]
turn_quiet i m regs (micro.Least a r) h = elim h [ ]

plain_join : (cs : List ℕ) (ds : List ℤ) (xs ys : List Event) → plain cs ds (xs ++ ys) ≡ plain cs ds xs ++ ys
plain_join cs ds xs ys = sym (append_assoc (map Loads cs ++ map Divides ds) xs ys)

pub segment : (s : Spot) (ops more : List Micro) (m : Cells) (regs : List ℤ) (rest : Cells → List ℤ → List Event) → AllStoreNothing ops
    → ops_events s (ops ++ more) m regs rest ≡ seen s.iteration m regs ops ++ onward s more m rest (ran s.iteration m regs ops)
segment s [] more m regs rest h = refl
segment s (op ∷ ops) more m regs rest h =
    ap (plain (looks m regs op) (divisors m op)) (by (λ z. segment s ops more m (regs ++ z ∷ []) rest h.1) (turn s.iteration m regs op) (turn_quiet s.iteration m regs op h.0))
    ∙ plain_join (looks m regs op) (divisors m op) (seen_next (λ z. seen s.iteration m (regs ++ z ∷ []) ops) (turn s.iteration m regs op)) (onward s more m rest (stepped (length regs) (λ z. ran s.iteration m (regs ++ z ∷ []) ops) (turn s.iteration m regs op)))
  where
    by : ((z : ℤ) → ops_events s (ops ++ more) m (regs ++ z ∷ []) rest ≡ seen s.iteration m (regs ++ z ∷ []) ops ++ onward s more m rest (ran s.iteration m (regs ++ z ∷ []) ops))
        → (t : Turn) → Quiet t
        → went (((s.act * 1048576 + length regs) * 1048576 + s.element) * 16) m (λ m' z. ops_events s (ops ++ more) m' (regs ++ z ∷ []) rest) rest t
        ≡ seen_next (λ z. seen s.iteration m (regs ++ z ∷ []) ops) t ++ onward s more m rest (stepped (length regs) (λ z. ran s.iteration m (regs ++ z ∷ []) ops) t)
    by rec (Next z) q = rec z
    by rec Shut q = refl
    by rec (Fails n) q = refl
    by rec (Does e) q = elim q [ ]

-- what was seen makes nothing
pub seen_makes : (i : ℕ) (m : Cells) (ops : List Micro) (regs : List ℤ) (more : List Event) → makes (seen i m regs ops ++ more) ≡ makes more
seen_makes i m [] regs more = refl
seen_makes i m (op ∷ ops) regs more =
    ap makes (sym (plain_join (looks m regs op) (divisors m op) (seen_next (λ z. seen i m (regs ++ z ∷ []) ops) (turn i m regs op)) more))
    ∙ makes_plain (looks m regs op) (divisors m op) (seen_next (λ z. seen i m (regs ++ z ∷ []) ops) (turn i m regs op) ++ more)
    ∙ by (λ z. seen_makes i m ops (regs ++ z ∷ []) more) (turn i m regs op)
  where
    by : ((z : ℤ) → makes (seen i m (regs ++ z ∷ []) ops ++ more) ≡ makes more) → (t : Turn) → makes (seen_next (λ z. seen i m (regs ++ z ∷ []) ops) t ++ more) ≡ makes more
    by rec (Next z) = rec z
    by rec Shut = refl
    by rec (Fails n) = refl
    by rec (Does e) = rec (pos 0)

-- a run of two parts
abbrev pub ran_on : ℕ → Cells → List Micro → Ran → Ran
ran_on i m ops (Through regs) = ran i m regs ops
ran_on i m ops Out = Out
ran_on i m ops (Broke k n) = Broke k n

pub ran_join : (i : ℕ) (m : Cells) (xs ys : List Micro) (regs : List ℤ) → ran i m regs (xs ++ ys) ≡ ran_on i m ys (ran i m regs xs)
ran_join i m [] ys regs = refl
ran_join i m (op ∷ xs) ys regs = by (λ z. ran_join i m xs ys (regs ++ z ∷ [])) (turn i m regs op)
  where
    by : ((z : ℤ) → ran i m (regs ++ z ∷ []) (xs ++ ys) ≡ ran_on i m ys (ran i m (regs ++ z ∷ []) xs)) → (t : Turn) → stepped (length regs) (λ z. ran i m (regs ++ z ∷ []) (xs ++ ys)) t ≡ ran_on i m ys (stepped (length regs) (λ z. ran i m (regs ++ z ∷ []) xs) t)
    by rec (Next z) = rec z
    by rec Shut = refl
    by rec (Fails n) = refl
    by rec (Does e) = rec (pos 0)
