-- Ops that name earlier registers, and ops that divide by nothing.
use Rattle.std.proofs.Common.{◌≡◌, inl, inr, ℕ, zero, suc, ◌+◌, ◌*◌, ◌<◌, Bool, true, false, ◌&&◌, List, [], ◌∷◌, ◌++◌, length, refl, ap, ◌∙◌, arith, ℤ, pos}
use Rattle.std.specs.Prelude.{nat_lt}
use Rattle.std.proofs.lemmas.Bool.Decides.{nat_tests}
use Rattle.phase_ops.specs.declared.effect.Turn.{Turn}
use Rattle.phase_ops.specs.declared.effect.Turn.TheVariants.{Next, Shut, Fails, Does}
use Rattle.phase_ops.specs.declared.phase.Micro.{Micro}
use Rattle.phase_ops.specs.declared.phase.Micro.TheVariants as op
use Rattle.phase_ops.specs.Phases.{Cells, Spot, Event, went, over, looks, divisors, turn, ops_events, divides}
use Rattle.phase_ops.specs.Free.{In, registers, NameEarlier}
use Rattle.act_eval.proofs.OpSteps.{divides_plain}
use Rattle.segment_laws.proofs.Acts.{nothing}

-- ---- ops that name earlier registers, by a test

abbrev pub below : ℕ → List ℕ → Bool
below k [] = true
below k (r ∷ rs) = nat_lt r k && below k rs

abbrev pub early : ℕ → List Micro → Bool
early k [] = true
early k (o ∷ ops) = below k (registers o) && early (suc k) ops

both : (a b : Bool) → (a && b) ≡ true → (a ≡ true) × (b ≡ true)
both true true e = (refl, refl)
both true false e = absurd (let z : zero ≡ suc zero = cc in omega (arith, z))
both false b e = absurd (let z : zero ≡ suc zero = cc in omega (arith, z))

is_below : (k : ℕ) (rs : List ℕ) → below k rs ≡ true → (r : ℕ) → In r rs → r < k
is_below k [] e r h = elim h [ ]
is_below k (x ∷ rs) e r (inl g) = let b = (both (nat_lt x k) (below k rs) e).0 in let l : x < k = grind (arith, nat_tests) in omega (arith, l, g)
is_below k (x ∷ rs) e r (inr g) = is_below k rs (both (nat_lt x k) (below k rs) e).1 r g

pub is_early : (k : ℕ) (ops : List Micro) → early k ops ≡ true → NameEarlier k ops
is_early k [] e = tt
is_early k (o ∷ ops) e = let b = both (below k (registers o)) (early (suc k) ops) e in (λ r h. is_below k (registers o) b.0 r h, is_early (suc k) ops b.1)

-- ---- ops that divide by nothing

abbrev pub NoDigit : Micro → Type 0
NoDigit (op.Digit r b q) = ⊥
NoDigit _ = Unit {0}

abbrev pub AllNoDigit : List Micro → Type 0
AllNoDigit [] = Unit {0}
AllNoDigit (o ∷ ops) = NoDigit o × AllNoDigit ops

no_divisor : (m : Cells) (o : Micro) → NoDigit o → divisors m o ≡ []
no_divisor m (op.Fixed z) h = refl
no_divisor m op.Position h = refl
no_divisor m (op.Digit r b q) h = elim h [ ]
no_divisor m (op.Load a) h = refl
no_divisor m (op.Unary o r) h = refl
no_divisor m (op.Binary o r q) h = refl
no_divisor m (op.Select r q t) h = refl
no_divisor m (op.Gate r) h = refl
no_divisor m (op.FailIf n r) h = refl
no_divisor m (op.Store a r) h = refl
no_divisor m (op.Least a r) h = refl

pub divides_rest : (s : Spot) (ops : List Micro) (m : Cells) (regs : List ℤ) (rest : Cells → List ℤ → List Event) → ((x : Cells) (r : List ℤ) → divides (rest x r) ≡ []) → AllNoDigit ops → divides (ops_events s ops m regs rest) ≡ []
divides_rest s [] m regs rest d h = d m regs
divides_rest s (o ∷ ops) m regs rest d h =
    divides_plain (looks m regs o) (divisors m o) (went (((s.act * 1048576 + length regs) * 1048576 + s.element) * 16) m (λ m' z. ops_events s ops m' (regs ++ z ∷ []) rest) rest (turn s.iteration m regs o))
    ∙ ap (λ (ds : List ℤ). ds ++ divides (went (((s.act * 1048576 + length regs) * 1048576 + s.element) * 16) m (λ m' z. ops_events s ops m' (regs ++ z ∷ []) rest) rest (turn s.iteration m regs o))) (no_divisor m o h.0)
    ∙ by (λ m' z. divides_rest s ops m' (regs ++ z ∷ []) rest d h.1) (turn s.iteration m regs o)
  where
    by : ((m' : Cells) (z : ℤ) → divides (ops_events s ops m' (regs ++ z ∷ []) rest) ≡ []) → (t : Turn) → divides (went (((s.act * 1048576 + length regs) * 1048576 + s.element) * 16) m (λ m' z. ops_events s ops m' (regs ++ z ∷ []) rest) rest t) ≡ []
    by rec (Next z) = rec m z
    by rec Shut = d m []
    by rec (Fails n) = refl
    by rec (Does e) = rec (over e m) (pos 0)

pub divides_none : (s : Spot) (ops : List Micro) (m : Cells) (regs : List ℤ) → AllNoDigit ops → divides (ops_events s ops m regs nothing) ≡ []
divides_none s ops m regs h = divides_rest s ops m regs nothing (λ x r. refl) h
