-- One op of an iteration of a Part.
use Rattle.std.proofs.Common.{◌≡◌, inl, inr, ℕ, zero, suc, ◌+◌, ◌-◌, ◌*◌, ◌<◌, ◌≤◌, List, [], ◌∷◌, ◌++◌, map, length, drop, take, sym, refl, ap, ◌∙◌, subst, arith, slice_index_or, drop-cons, ℤ, pos, ◌<ℤ◌}
use Rattle.std.specs.Prelude.{if◌then◌else◌, Bool, true, false, Ok, Err}
use Rattle.ws_base.specs.Numbers.{Exact}
use Rattle.ws_base.specs.declared.fault.FaultName.{FaultName}
use Rattle.phase_ops.specs.declared.effect.Effect.{Effect}
use Rattle.phase_ops.specs.declared.effect.Turn.{Turn}
use Rattle.phase_ops.specs.declared.effect.Turn.TheVariants.{Next, Shut, Fails, Does}
use Rattle.phase_ops.specs.declared.phase.Micro.{Micro}
use Rattle.phase_ops.specs.declared.phase.Micro.TheVariants as micro
use Rattle.phase_ops.specs.Phases.{Cells, address, address_cells, turn_of, looks, divisors, turn, Spot, Event, Gives, plain, went, ops_events, loads, makes, divides, gives, calm, last_event}
use Rattle.phase_ops.specs.Free.{In}
use Rattle.phase_ops.proofs.Members.{in_left, in_right}
use Rattle.phase_ops.proofs.Frame.{loads_plain}
use Rattle.act_eval.specs.Sites.{Small, Rest, MayLook, IsWorth, named_cells}
use Rattle.act_eval.specs.declared.site.Worth.TheVariants as worth
use Rattle.phase_ops.proofs.Keys.{makes_plain}
use Rattle.act_eval.proofs.OpSteps.{divides_plain}

pub gives_plain : (cs : List ℕ) (ds : List ℤ) (es : List Event) → gives (plain cs ds es) ≡ gives es
gives_plain [] [] es = refl
gives_plain [] (d ∷ ds) es = gives_plain [] ds es
gives_plain (c ∷ cs) ds es = gives_plain cs ds es

-- of the whole these events are left: what was before makes and gives nothing
pub record Left (may : List ℕ) (whole es : List Event) : Type 0 where
  pub makes_are : makes whole ≡ makes es
  pub gives_are : gives whole ≡ gives es
  pub look : MayLook may es

-- no op of a Part has an effect
is_done : Turn → Type 0
is_done (Does e) = Unit {0}
is_done (Next z) = ⊥
is_done Shut = ⊥
is_done (Fails n) = ⊥

pub never_does : (i : ℕ) (m : Cells) (regs : List ℤ) (op : Micro) (e : Effect) → Does e ≡ turn i m regs (calm op) → ⊥
unfolding is_done
never_does i m regs op e q = by op (subst is_done q tt)
  where
    exact : (x : Exact) → is_done (turn_of x) → ⊥
    exact (Ok z) h = elim h [ ]
    exact (Err n) h = elim h [ ]

    gate : (t : Bool) → is_done (if t then Next (pos 0) else Shut) → ⊥
    gate true h = elim h [ ]
    gate false h = elim h [ ]

    fail : (n : FaultName) (t : Bool) → is_done (if t then Fails n else Next (pos 0)) → ⊥
    fail n true h = elim h [ ]
    fail n false h = elim h [ ]

    by : (o : Micro) → is_done (turn i m regs (calm o)) → ⊥
    by (micro.Fixed z) h = elim h [ ]
    by micro.Position h = elim h [ ]
    by (micro.Digit r b d) h = elim h [ ]
    by (micro.Load a) h = elim h [ ]
    by (micro.Unary o r) h = exact _ h
    by (micro.Binary o r s) h = exact _ h
    by (micro.Select r s t) h = elim h [ ]
    by (micro.Gate r) h = gate _ h
    by (micro.FailIf n r) h = fail n _ h
    by (micro.Store a r) h = elim h [ ]
    by (micro.Least a r) h = elim h [ ]

abbrev pub base : Spot → List ℤ → ℕ
base s regs = ((s.act * 1048576 + length regs) * 1048576 + s.element) * 16

-- the op `at` and those after it are left
pub opened : (s : Spot) (may : List ℕ) (whole : List Event) (m : Cells) (ops : List Micro) (at : ℕ) (o : Micro) (d : Micro) (regs : List ℤ) (rest : Rest) → o ≡ slice_index_or ops at d → at < length ops
    → Left may whole (ops_events s (map calm (drop at ops)) m regs rest) → Left may whole (ops_events s (calm o ∷ map calm (drop (at + 1) ops)) m regs rest)
opened s may whole m ops at o d regs rest q l h = subst (λ (os : List Micro). Left may whole (ops_events s (map calm os) m regs rest))
    (drop-cons ops at d l ∙ (λ i. sym q i ∷ drop ((let e : suc at ≡ at + 1 = omega arith in e) i) ops)) h

module _ (s : Spot) (may : List ℕ) (whole : List Event) (m : Cells) (op : Micro) (ops : List Micro) (regs : List ℤ) (rest : Rest) (h : Left may whole (ops_events s (op ∷ ops) m regs rest)) where
  abbrev follows : Turn → List Event
  follows t = went (base s regs) m (λ m' z. ops_events s ops m' (regs ++ z ∷ []) rest) rest t

  pub may_looks : (c : ℕ) → In c (looks m regs op) → In c may × Small c
  may_looks c i = h.look.may_load c (subst (λ (l : List ℕ). In c l) (sym (loads_plain (looks m regs op) (divisors m op) (follows (turn s.iteration m regs op)))) (in_left c (looks m regs op) (loads (follows (turn s.iteration m regs op))) i))

  pub all_positive : (z : ℤ) → In z (divisors m op) → pos 0 <ℤ z
  all_positive z i = h.look.positive z (subst (λ (l : List ℤ). In z l) (sym (divides_plain (looks m regs op) (divisors m op) (follows (turn s.iteration m regs op)))) (in_left z (divisors m op) (divides (follows (turn s.iteration m regs op))) i))

  pub follow : (t : Turn) → t ≡ turn s.iteration m regs op → Left may whole (follows t)
  follow t e = subst (λ (t' : Turn). Left may whole (follows t')) (sym e) (record {
    makes_are = h.makes_are ∙ makes_plain (looks m regs op) (divisors m op) (follows (turn s.iteration m regs op));
    gives_are = h.gives_are ∙ gives_plain (looks m regs op) (divisors m op) (follows (turn s.iteration m regs op));
    look = record {
      may_load = λ c i. h.look.may_load c (subst (λ (l : List ℕ). In c l) (sym (loads_plain (looks m regs op) (divisors m op) (follows (turn s.iteration m regs op)))) (in_right c (looks m regs op) (loads (follows (turn s.iteration m regs op))) i));
      positive = λ z i. h.look.positive z (subst (λ (l : List ℤ). In z l) (sym (divides_plain (looks m regs op) (divisors m op) (follows (turn s.iteration m regs op)))) (in_right z (divisors m op) (divides (follows (turn s.iteration m regs op))) i));
    };
  })

pub last_taken : (regs : List ℤ) (n : ℕ) → n < length regs → last_event (take (suc n) regs) ≡ Gives (slice_index_or regs n (pos 0)) ∷ []
last_taken [] n h = absurd (omega (arith, h))
last_taken (z ∷ zs) zero h = refl
last_taken (z ∷ []) (suc n) h = absurd (omega (arith, h))
last_taken (z ∷ y ∷ zs) (suc n) h = last_taken (y ∷ zs) n (omega (arith, h))

pub last_worth : (regs : List ℤ) (count : ℕ) (z : ℤ) → (count ≡ 0 → ⊥) → count ≤ length regs → z ≡ slice_index_or regs (count - 1) (pos 0) → IsWorth (worth.Value z) (last_event (take count regs))
last_worth regs zero z some l e = absurd (some refl)
last_worth regs (suc n) z some l e =
    let k : suc n - 1 ≡ n = omega arith in
    subst (λ (es : List Event). IsWorth (worth.Value z) es) (sym (last_taken regs n (omega (arith, l)))) (refl, ap (λ (x : ℤ). x ∷ []) (sym (e ∙ ap (λ (i : ℕ). slice_index_or regs i (pos 0)) k)))

-- an op of a Part names no cell that it does not load
pub named_calm : (m : Cells) (regs : List ℤ) (op : Micro) (c : ℕ) → In c (named_cells m regs (calm op)) → In c (looks m regs (calm op))
named_calm m regs (micro.Load a) c (inl e) = in_right c (address_cells a) (address m regs a ∷ []) (inl e)
named_calm m regs (micro.Load a) c (inr i) = elim i [ ]
named_calm m regs (micro.Fixed z) c i = elim i [ ]
named_calm m regs micro.Position c i = elim i [ ]
named_calm m regs (micro.Digit r b d) c i = elim i [ ]
named_calm m regs (micro.Unary o r) c i = elim i [ ]
named_calm m regs (micro.Binary o r s) c i = elim i [ ]
named_calm m regs (micro.Select r s t) c i = elim i [ ]
named_calm m regs (micro.Gate r) c i = elim i [ ]
named_calm m regs (micro.FailIf n r) c i = elim i [ ]
named_calm m regs (micro.Store a r) c i = elim i [ ]
named_calm m regs (micro.Least a r) c i = elim i [ ]
