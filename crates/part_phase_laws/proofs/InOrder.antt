-- Iterations in order: what all of them tell, and the least of their keys.
use Rattle.std.proofs.Common.{◌≡◌, ℕ, zero, suc, ◌+◌, ◌-◌, ◌*◌, ◌<◌, ◌≤◌, min, Bool, true, false, List, [], ◌∷◌, ◌++◌, map, sym, refl, ap, ◌∙◌, arith, ℤ}
use Rattle.std.specs.Prelude.{if◌then◌else◌, nat_lt}
use Rattle.std.proofs.lemmas.Bool.Decides.{nat_tests}
use Rattle.std.proofs.lemmas.List.{append-nil}
use Rattle.std.proofs.Math.Nat.{suc-mul, div-mul-le_self, mul-le-mul_right}
use Rattle.ws_base.specs.Numbers.{default_half}
use Rattle.ws_base.specs.declared.op.CallWord.{CallWord}
use Rattle.phase_ops.specs.Partials.{part_of, merged}
use Rattle.phase_ops.specs.declared.effect.Effect.{Effect}
use Rattle.phase_ops.specs.declared.effect.Effect.TheVariants.{Store, Least, Fault}
use Rattle.phase_ops.specs.declared.phase.Micro.{Micro}
use Rattle.phase_ops.specs.declared.phase.Micro.TheVariants as micro
use Rattle.phase_ops.specs.declared.phase.Act.{Act}
use Rattle.phase_ops.specs.Phases.{Cells, word, Spot, Event, Loads, Divides, Makes, Gives, spot, calm, ops_events, acts_events, last_event, value_events, each_from, loads, makes, gives, divides, least_key, none_yet, summed, pieces}
use Rattle.phase_ops.proofs.Strands.{loads_append}
use Rattle.act_eval.proofs.PartSteps.{makes_join}
use Rattle.segment_laws.specs.Segments.{Ran, Through, Out, Broke, ran, seen, StoresNothing, AllStoreNothing, onward}
use Rattle.segment_laws.proofs.Segments.{segment}
use Rattle.loop_laws.proofs.Keyed.{least_bound}

-- ---- each, in order

pub each_same : {A : Type 0} (f g : ℕ → List A) (from n : ℕ) → ((i : ℕ) → from ≤ i → i < from + n → f i ≡ g i) → each_from f from n ≡ each_from g from n
each_same f g from zero h = refl
each_same f g from (suc n) h = λ i. h from (omega arith) (omega arith) i ++ each_same f g (suc from) n (λ k a b. h k (omega (arith, a)) (omega (arith, b))) i

module _ {A : Type 0} (tell : List Event → List A) (join : (xs ys : List Event) → tell (xs ++ ys) ≡ tell xs ++ tell ys) (none : tell [] ≡ []) where
  pub tell_each : (f : ℕ → List Event) (from n : ℕ) → tell (each_from f from n) ≡ each_from (λ i. tell (f i)) from n
  tell_each f from zero = none
  tell_each f from (suc n) = join (f from) (each_from f (suc from) n) ∙ ap (λ (l : List A). tell (f from) ++ l) (tell_each f (suc from) n)

pub divides_append : (es fs : List Event) → divides (es ++ fs) ≡ divides es ++ divides fs
divides_append [] fs = refl
divides_append (Loads c ∷ es) fs = divides_append es fs
divides_append (Divides z ∷ es) fs = ap (λ (l : List ℤ). z ∷ l) (divides_append es fs)
divides_append (Makes e ∷ es) fs = divides_append es fs
divides_append (Gives z ∷ es) fs = divides_append es fs

-- ---- the act of a Part is that of a loop, and gives a value besides

calm_one : (o : Micro) → StoresNothing o → calm o ≡ o
calm_one (micro.Fixed z) h = refl
calm_one micro.Position h = refl
calm_one (micro.Digit r b q) h = refl
calm_one (micro.Load a) h = refl
calm_one (micro.Unary o r) h = refl
calm_one (micro.Binary o r q) h = refl
calm_one (micro.Select r q t) h = refl
calm_one (micro.Gate r) h = refl
calm_one (micro.FailIf n r) h = refl
calm_one (micro.Store a r) h = elim h [ ]
calm_one (micro.Least a r) h = elim h [ ]

pub calm_all : (ops : List Micro) → AllStoreNothing ops → map calm ops ≡ ops
calm_all [] h = refl
calm_all (o ∷ ops) h = λ i. calm_one o h.0 i ∷ calm_all ops h.1 i

last_makes : (regs : List ℤ) → makes (last_event regs) ≡ []
last_makes [] = refl
last_makes (z ∷ []) = refl
last_makes (z ∷ y ∷ zs) = last_makes (y ∷ zs)

last_loads : (regs : List ℤ) → loads (last_event regs) ≡ []
last_loads [] = refl
last_loads (z ∷ []) = refl
last_loads (z ∷ y ∷ zs) = last_loads (y ∷ zs)

last_divides : (regs : List ℤ) → divides (last_event regs) ≡ []
last_divides [] = refl
last_divides (z ∷ []) = refl
last_divides (z ∷ y ∷ zs) = last_divides (y ∷ zs)

abbrev pub with_value : Cells → List ℤ → List Event
with_value m regs = last_event regs

abbrev pub with_none : Cells → List ℤ → List Event
with_none m regs = []

module _ (act : Act) (m : Cells) (quiet : AllStoreNothing act.ops) where
  -- the ops of the value, one segment
  pub value_segment : (i : ℕ) → value_events act m i ≡ seen i m [] act.ops ++ onward (spot 0 act i) [] m with_value (ran i m [] act.ops)
  value_segment i =
      ap (λ (ops : List Micro). ops_events (spot 0 act i) ops m [] with_value) (calm_all act.ops quiet ∙ sym (append-nil act.ops))
      ∙ segment (spot 0 act i) act.ops [] m [] with_value quiet

  acts_segment : (i : ℕ) → acts_events i 0 (act ∷ []) m ≡ seen i m [] act.ops ++ onward (spot 0 act i) [] m with_none (ran i m [] act.ops)
  acts_segment i =
      ap (λ (ops : List Micro). ops_events (spot 0 act i) ops m [] with_none) (sym (append-nil act.ops))
      ∙ segment (spot 0 act i) act.ops [] m [] with_none quiet

  module _ {A : Type 0} (tell : List Event → List A) (join : (xs ys : List Event) → tell (xs ++ ys) ≡ tell xs ++ tell ys) (calm_last : (regs : List ℤ) → tell (last_event regs) ≡ tell []) where
    ends_same : (s : Spot) (r : Ran) → tell (onward s [] m with_value r) ≡ tell (onward s [] m with_none r)
    ends_same s (Through regs) = calm_last regs
    ends_same s Out = refl
    ends_same s (Broke k n) = refl

    tell_same : (i : ℕ) → tell (value_events act m i) ≡ tell (acts_events i 0 (act ∷ []) m)
    tell_same i =
        ap tell (value_segment i)
        ∙ join (seen i m [] act.ops) (onward (spot 0 act i) [] m with_value (ran i m [] act.ops))
        ∙ ap (λ (l : List A). tell (seen i m [] act.ops) ++ l) (ends_same (spot 0 act i) (ran i m [] act.ops))
        ∙ sym (join (seen i m [] act.ops) (onward (spot 0 act i) [] m with_none (ran i m [] act.ops)))
        ∙ ap tell (sym (acts_segment i))

  pub same_makes : (i : ℕ) → makes (value_events act m i) ≡ makes (acts_events i 0 (act ∷ []) m)
  same_makes i = tell_same makes makes_join last_makes i

  pub same_loads : (i : ℕ) → loads (value_events act m i) ≡ loads (acts_events i 0 (act ∷ []) m)
  same_loads i = tell_same loads loads_append last_loads i

  pub same_divides : (i : ℕ) → divides (value_events act m i) ≡ divides (acts_events i 0 (act ∷ []) m)
  same_divides i = tell_same divides divides_append last_divides i

-- ---- least keys

pub least_join : (xs ys : List Effect) → least_key (xs ++ ys) ≡ min (least_key xs) (least_key ys)
least_join [] ys = let b = least_bound ys in omega (arith, b)
least_join (Fault k ∷ xs) ys = let h = least_join xs ys in omega (arith, h)
least_join (Store c v ∷ xs) ys = least_join xs ys
least_join (Least c v ∷ xs) ys = least_join xs ys

pub least_each : (f g : ℕ → List Effect) (from n : ℕ) → ((i : ℕ) → from ≤ i → i < from + n → least_key (f i) ≡ least_key (g i)) → least_key (each_from f from n) ≡ least_key (each_from g from n)
least_each f g from zero h = refl
least_each f g from (suc n) h =
    least_join (f from) (each_from f (suc from) n)
    ∙ (λ i. min (h from (omega arith) (omega arith) i) (least_each f g (suc from) n (λ k a b. h k (omega (arith, a)) (omega (arith, b))) i))
    ∙ sym (least_join (g from) (each_from g (suc from) n))

-- the effect of a unit has the key of its iterations
pub least_summed : (k : CallWord) (c : ℕ) (es : List Event) → least_key (summed k c es ++ []) ≡ least_key (makes es)
least_summed k c es = by (nat_lt (least_key (makes es)) none_yet) refl
  where
    by : (b : Bool) → nat_lt (least_key (makes es)) none_yet ≡ b → least_key ((if b then Fault (least_key (makes es)) ∷ [] else Store c (word (merged default_half k (map (part_of default_half k) (gives es)))) ∷ []) ++ []) ≡ least_key (makes es)
    by true e = let b = least_bound (makes es) in omega (arith, b)
    by false e = let b = least_bound (makes es) in let l : none_yet ≤ least_key (makes es) = grind (arith, nat_tests) in omega (arith, b, l)

-- ---- sizes

pub le_times : (s c : ℕ) → 0 < c → s ≤ s * c
le_times zero c h = omega arith
le_times (suc s) c h = let r = le_times s c h in let e = suc-mul s c in omega (arith, r, e, h)

pub unit_starts : (n chunk u : ℕ) → 0 < chunk → u < pieces n chunk → u * chunk < n
unit_starts n chunk u c h =
    let all = div-mul-le_self (n + (chunk - 1)) chunk in
    let some : suc u * chunk ≤ pieces n chunk * chunk = mul-le-mul_right chunk (let e : suc u ≤ pieces n chunk = omega (arith, h) in e) in
    let s = suc-mul u chunk in omega (arith, all, some, s, c)

pub unit_below : (n chunk u : ℕ) → 0 < chunk → u < pieces n chunk → u < n
unit_below n chunk u c h = let a = unit_starts n chunk u c h in let b = le_times u chunk c in omega (arith, a, b)
