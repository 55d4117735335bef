-- The key of a phase belongs to the first operation that fails anywhere, at the least position at which it fails.
use Rattle.std.proofs.Common.{◌≡◌, ◌⊎◌, inl, inr, ℕ, zero, suc, ◌+◌, ◌-◌, ◌*◌, ◌/◌, ◌<◌, ◌≤◌, min, Bool, true, false, cond, Ok, Err, List, [], ◌∷◌, ◌++◌, map, length, sym, refl, ap, ◌∙◌, subst, arith, ℤ, pos, negsuc}
use Rattle.phase_ops.specs.declared.phase.Micro.TheVariants as micro
use Rattle.std.specs.Prelude.{if◌then◌else◌}
use mathlib.Core.Logic.{dite}
use native.Mathlib.Decide.{dec_le}
use Rattle.std.proofs.Math.Nat.{div-mul-le_self, lt-div-mul-add, div-lt_iff_lt-mul}
use Rattle.ws_base.specs.declared.op.CallWord.{CallWord}
use Rattle.ws_base.specs.declared.fault.FaultName.{FaultName}
use Rattle.std.specs.Prelude.{slice_index_or, nat_lt, ◌≤ℤ◌}
use Rattle.std.proofs.lemmas.List.{length-map}
use Rattle.std.proofs.lemmas.Bool.Decides.{nat_tests}
use Rattle.std.proofs.lemmas.Int.{ints}
use Rattle.ws_base.specs.declared.fault.FaultName.TheVariants as fault
use Rattle.phase_ops.specs.declared.effect.Effect.{Effect}
use Rattle.phase_ops.specs.declared.effect.Effect.TheVariants.{Store, Least, Fault}
use Rattle.phase_ops.specs.declared.effect.Turn.{Turn}
use Rattle.phase_ops.specs.declared.effect.Turn.TheVariants.{Next, Shut, Fails, Does}
use Rattle.phase_ops.specs.declared.phase.Micro.{Micro}
use Rattle.phase_ops.specs.declared.phase.Act.{Act}
use Rattle.phase_ops.specs.declared.phase.Phase.{Phase}
use Rattle.phase_ops.specs.declared.phase.Phase.TheVariants.{Set, Loop, Part, Join}
use Rattle.ws_base.specs.Numbers.{Exact, is_true, default_half}
use Rattle.phase_ops.specs.Scalars.{one_value, scalar_value}
use Rattle.ws_base.specs.Words.{fault_number}
use Rattle.phase_ops.specs.Phases.{turn_of, register, Cells, source, looks, divisors, turn, over, key_of, Spot, Event, Loads, Divides, Makes, Gives, plain, went, ops_events, spot, acts_events, each_from, makes, none_yet, least_key, natural, pieces, unit_size, strand_effects, units, effects, phase_effects, key, first_strand, strand_count, iterations, calm, last_event, value_events, summed, gives, word, joined, partial_cells, cell_value}
use Rattle.phase_ops.specs.Free.{In, WellFormed, IsChunk}
use Rattle.phase_ops.specs.Partials.{part_of, merged, total}
use Rattle.phase_ops.specs.Faults.{act_lines, lines}
use Rattle.phase_ops.specs.Laws.{iteration_effects, wholes, act_wholes, element_of, FailsAt, NoLater, NoneFails, IsFirstFault}
use Rattle.phase_ops.proofs.Members.{from_each, to_each}

-- ---- the least key of effects

pub least_is_one : (es : List Effect) → least_key es < none_yet → In (Fault (least_key es)) es
least_is_one [] h = absurd (omega (arith, h))
least_is_one (Store c v ∷ es) h = inr (least_is_one es h)
least_is_one (Least c v ∷ es) h = inr (least_is_one es h)
least_is_one (Fault k ∷ es) h = dite (dec_le k (least_key es))
    (λ l. inl (ap (λ (z : ℕ). let e : Effect = Fault z in e) (let e : min k (least_key es) ≡ k = omega (arith, l) in e)))
    (λ g. let e : min k (least_key es) ≡ least_key es = omega (arith, g) in
    inr (subst (λ (z : ℕ). In (Fault z) es) (sym e) (least_is_one es (subst (λ (z : ℕ). z < none_yet) e h))))

key_in : Effect → ℕ → ℕ
key_in (Fault k) d = k
key_in (Store c v) d = d
key_in (Least c v) d = d

fault_same : (j k : ℕ) → Fault j ≡ Fault k → j ≡ k
unfolding key_in
fault_same j k e = ap (λ (z : Effect). key_in z 0) e

is_fault : Effect → Type 0
is_fault (Fault k) = Unit {0}
is_fault (Store c v) = ⊥
is_fault (Least c v) = ⊥

no_fault : (k : ℕ) (e : Effect) → (is_fault e → ⊥) → Fault k ≡ e → ⊥
unfolding is_fault
no_fault k e n q = n (subst is_fault q tt)

pub least_below : (k : ℕ) (es : List Effect) → In (Fault k) es → least_key es ≤ k
unfolding is_fault
least_below k [] h = elim h [ ]
least_below k (Store c v ∷ es) (inl e) = absurd (no_fault k (Store c v) (λ x. x) e)
least_below k (Store c v ∷ es) (inr h) = least_below k es h
least_below k (Least c v ∷ es) (inl e) = absurd (no_fault k (Least c v) (λ x. x) e)
least_below k (Least c v ∷ es) (inr h) = least_below k es h
least_below k (Fault j ∷ es) (inl e) = let s = fault_same k j e in omega (arith, s)
least_below k (Fault j ∷ es) (inr h) = let l = least_below k es h in omega (arith, l)

-- ---- the keys of a strand

pub makes_plain : (cs : List ℕ) (ds : List ℤ) (es : List Event) → makes (plain cs ds es) ≡ makes es
makes_plain [] [] es = refl
makes_plain [] (d ∷ ds) es = makes_plain [] ds es
makes_plain (c ∷ cs) ds es = makes_plain cs ds es

-- a key of the op o, counted in the act from `from` on
abbrev OfOp : Spot → ℕ → ℕ → ℕ → Type 0
OfOp s from count k = (o : ℕ) × (from ≤ o) × (o < from + count) × (n : FaultName) × (k ≡ ((s.act * 1048576 + o) * 1048576 + s.element) * 16 + fault_number n)

abbrev Later : ℕ → (Cells → List ℤ → List Event) → Type 0
Later k rest = (m : Cells) × (regs : List ℤ) × In (Fault k) (makes (rest m regs))

one_op : (s : Spot) (from count : ℕ) (k : ℕ) → OfOp s (suc from) count k → OfOp s from (suc count) k
one_op s from count k w = let a = w.1 in let b = w.2 in (w.0, omega arith, omega arith, w.3, w.4)

length_next : (xs : List ℤ) (z : ℤ) → length (xs ++ z ∷ []) ≡ suc (length xs)
length_next [] z = refl
length_next (x ∷ xs) z = ap suc (length_next xs z)

makes_fault : Turn → Type 0
makes_fault (Next z) = ⊥
makes_fault Shut = ⊥
makes_fault (Fails n) = ⊥
makes_fault (Does (Fault k)) = Unit {0}
makes_fault (Does (Store c v)) = ⊥
makes_fault (Does (Least c v)) = ⊥

given_none : (r : Exact) → makes_fault (turn_of r) → ⊥
unfolding makes_fault
given_none (Ok z) h = h
given_none (Err n) h = h

gate_none : (b : Bool) → makes_fault (if b then Next (pos 0) else Shut) → ⊥
unfolding makes_fault
gate_none true h = h
gate_none false h = h

fail_none : (b : Bool) (n : FaultName) → makes_fault (if b then Fails n else Next (pos 0)) → ⊥
unfolding makes_fault
fail_none true n h = h
fail_none false n h = h

turn_none : (i : ℕ) (m : Cells) (regs : List ℤ) (op : Micro) → makes_fault (turn i m regs op) → ⊥
unfolding makes_fault
turn_none i m regs (micro.Fixed z) h = h
turn_none i m regs micro.Position h = h
turn_none i m regs (micro.Digit r b q) h = h
turn_none i m regs (micro.Load a) h = h
turn_none i m regs (micro.Unary o r) h = given_none (one_value default_half o (register regs r)) h
turn_none i m regs (micro.Binary o r q) h = given_none (scalar_value default_half o (register regs r) (register regs q)) h
turn_none i m regs (micro.Select r q t) h = h
turn_none i m regs (micro.Gate r) h = gate_none (is_true (register regs r)) h
turn_none i m regs (micro.FailIf n r) h = fail_none (is_true (register regs r)) n h
turn_none i m regs (micro.Store a r) h = h
turn_none i m regs (micro.Least a r) h = h

one_more : (s : Spot) (regs : List ℤ) (count k : ℕ) (rest : Cells → List ℤ → List Event) → OfOp s (suc (length regs)) count k ⊎ Later k rest → OfOp s (length regs) (suc count) k ⊎ Later k rest
one_more s regs count k rest (inl w) = inl (one_op s (length regs) count k w)
one_more s regs count k rest (inr w) = inr w

went_fault : (s : Spot) (regs : List ℤ) (count k : ℕ) (next : Cells → ℤ → List Event) (rest : Cells → List ℤ → List Event) (m : Cells) (t : Turn) → (makes_fault t → ⊥)
    → ((m' : Cells) (z : ℤ) → In (Fault k) (makes (next m' z)) → OfOp s (suc (length regs)) count k ⊎ Later k rest)
    → In (Fault k) (makes (went (((s.act * 1048576 + length regs) * 1048576 + s.element) * 16) m next rest t)) → OfOp s (length regs) (suc count) k ⊎ Later k rest
unfolding is_fault makes_fault
went_fault s regs count k next rest m (Next z) never go h = one_more s regs count k rest (go m z h)
went_fault s regs count k next rest m Shut never go h = inr (m, [], h)
went_fault s regs count k next rest m (Fails n) never go (inl e) = inl (length regs, omega arith, omega arith, n, fault_same k ((((s.act * 1048576 + length regs) * 1048576 + s.element) * 16) + fault_number n) e)
went_fault s regs count k next rest m (Fails n) never go (inr h) = elim h [ ]
went_fault s regs count k next rest m (Does (Fault j)) never go (inr h) = one_more s regs count k rest (go m (pos 0) h)
went_fault s regs count k next rest m (Does (Fault j)) never go (inl e) = absurd (never tt)
went_fault s regs count k next rest m (Does (Store c v)) never go (inl e) = absurd (no_fault k (Store c v) (λ x. x) e)
went_fault s regs count k next rest m (Does (Store c v)) never go (inr h) = one_more s regs count k rest (go (over (Store c v) m) (pos 0) h)
went_fault s regs count k next rest m (Does (Least c v)) never go (inl e) = absurd (no_fault k (Least c v) (λ x. x) e)
went_fault s regs count k next rest m (Does (Least c v)) never go (inr h) = one_more s regs count k rest (go (over (Least c v) m) (pos 0) h)

ops_fault : (s : Spot) (ops : List Micro) (m : Cells) (regs : List ℤ) (rest : Cells → List ℤ → List Event) (k : ℕ) → In (Fault k) (makes (ops_events s ops m regs rest)) → OfOp s (length regs) (length ops) k ⊎ Later k rest
ops_fault s [] m regs rest k h = inr (m, regs, h)
ops_fault s (op ∷ ops) m regs rest k h =
    let next : Cells → ℤ → List Event = λ m' z. ops_events s ops m' (regs ++ z ∷ []) rest in
    let t : Turn = turn s.iteration m regs op in
    went_fault s regs (length ops) k next rest m t (turn_none s.iteration m regs op)
    (λ m' z g. subst (λ (n : ℕ). OfOp s n (length ops) k ⊎ Later k rest) (length_next regs z) (ops_fault s ops m' (regs ++ z ∷ []) rest k g))
    (subst (λ (l : List Effect). In (Fault k) l) (makes_plain (looks m regs op) (divisors m op) (went (((s.act * 1048576 + length regs) * 1048576 + s.element) * 16) m next rest t)) h)

-- ---- the iterations

small : (z : ℤ) → z ≤ℤ pos 65536 → natural z ≤ 65536
small (pos n) h = omega (arith, ints)
small (negsuc n) h = omega arith

key_bound : (es : List Effect) → least_key es ≤ none_yet
key_bound [] = omega arith
key_bound (Store c v ∷ es) = key_bound es
key_bound (Least c v ∷ es) = key_bound es
key_bound (Fault k ∷ es) = let h = key_bound es in omega arith

-- the key of some op of some of the acts, of which the first has the number `from`, at the iteration i
record KeyAt (k i from : ℕ) (acts : List Act) : Type 0 where
  pub act : ℕ
  pub op : ℕ
  pub name : FaultName
  pub act_in : act < length acts
  pub op_in : op < 1048576
  pub key_is : k ≡ key_of (from + act) op (cond (slice_index_or (wholes acts) act true) 0 (suc i)) name

abbrev Short : Act → Type 0
Short a = length a.ops ≤ 1048576

one_act : (k i from : ℕ) (a : Act) (more : List Act) → KeyAt k i (suc from) more → KeyAt k i from (a ∷ more)
one_act k i from a more r = record {
  act = suc r.act;
  op = r.op;
  name = r.name;
  act_in = (let x = r.act_in in omega arith);
  op_in = r.op_in;
  key_is = r.key_is ∙ ap (λ (z : ℕ). key_of z r.op (cond (slice_index_or (wholes more) r.act true) 0 (suc i)) r.name) (let e : suc from + r.act ≡ from + suc r.act = omega arith in e);
}

first_act : (k i from : ℕ) (a : Act) (more : List Act) → Short a → OfOp (spot from a i) 0 (length a.ops) k → KeyAt k i from (a ∷ more)
first_act k i from a more f w = record {
  act = 0;
  op = w.0;
  name = w.3;
  act_in = omega arith;
  op_in = (let y = w.2 in omega (arith, f, y));
  key_is = w.4 ∙ ap (λ (z : ℕ). key_of z w.0 (cond a.whole 0 (suc i)) w.3) (let e : from ≡ from + 0 = omega arith in e);
}

acts_fault : (i from : ℕ) (acts : List Act) (m : Cells) (k : ℕ) → ((a : Act) → In a acts → Short a) → In (Fault k) (makes (acts_events i from acts m)) → KeyAt k i from acts
acts_fault i from [] m k fine h = elim h [ ]
acts_fault i from (a ∷ more) m k fine h = pick (λ m' g. acts_fault i (suc from) more m' k (λ b j. fine b (inr j)) g) (ops_fault (spot from a i) a.ops m [] (λ m' regs. acts_events i (suc from) more m') k h)
  where
    pick : ((m' : Cells) → In (Fault k) (makes (acts_events i (suc from) more m')) → KeyAt k i (suc from) more) → OfOp (spot from a i) 0 (length a.ops) k ⊎ Later k (λ m' regs. acts_events i (suc from) more m') → KeyAt k i from (a ∷ more)
    pick go (inl w) = first_act k i from a more (fine a (inl refl)) w
    pick go (inr w) = one_act k i from a more (go w.0 w.2)

last_makes : (regs : List ℤ) → makes (last_event regs) ≡ []
last_makes [] = refl
last_makes (z ∷ []) = refl
last_makes (z ∷ y ∷ zs) = last_makes (y ∷ zs)

value_fault : (a : Act) (i : ℕ) (m : Cells) (k : ℕ) → Short a → In (Fault k) (makes (value_events a m i)) → KeyAt k i 0 (a ∷ [])
value_fault a i m k f h = pick (ops_fault (spot 0 a i) (map calm a.ops) m [] (λ m' regs. last_event regs) k h)
  where
    pick : OfOp (spot 0 a i) 0 (length (map calm a.ops)) k ⊎ Later k (λ m' regs. last_event regs) → KeyAt k i 0 (a ∷ [])
    pick (inl w) = first_act k i 0 a [] f (subst (λ (n : ℕ). OfOp (spot 0 a i) 0 n k) (length-map a.ops calm) w)
    pick (inr w) = elim (subst (λ (l : List Effect). In (Fault k) l) (last_makes w.1) w.2) [ ]

numbered : (p : Phase) (m : Cells) (chunk i k : ℕ) (acts : List Act) → i < iterations p m → length acts ≡ length (act_lines p) → wholes acts ≡ act_wholes p → In (Fault k) (iteration_effects p m chunk i) → KeyAt k i 0 acts
    → (act op : ℕ) × (name : FaultName) × FailsAt p m chunk i act op name × (k ≡ key_of act op (element_of p act i) name)
numbered p m chunk i k acts l long same h r =
    let is : k ≡ key_of r.act r.op (element_of p r.act i) r.name =
    r.key_is ∙ ap (λ (z : ℕ). key_of z r.op (cond (slice_index_or (wholes acts) r.act true) 0 (suc i)) r.name) (let e : 0 + r.act ≡ r.act = omega arith in e)
    ∙ ap (λ (z : List Bool). key_of r.act r.op (cond (slice_index_or z r.act true) 0 (suc i)) r.name) same in (
      r.act,
      r.op,
      r.name,
      record {
        there = l;
        act_in = (let x = r.act_in in omega (arith, x, long));
        op_in = r.op_in;
        fails = subst (λ (z : ℕ). In (Fault z) (iteration_effects p m chunk i)) is h;
      },
      is,
    )

lines_long : (acts : List Act) → length acts ≡ length (lines acts)
lines_long acts = sym (length-map acts (λ (a : Act). a.line))

pub makes_loads : (cs : List ℕ) (es : List Event) → makes (map Loads cs ++ es) ≡ makes es
makes_loads [] es = refl
makes_loads (c ∷ cs) es = makes_loads cs es

joined_fault : (slot k : ℕ) (r : Exact) → In (Fault k) (joined slot r ∷ []) → (n : FaultName) × (k ≡ fault_number n)
unfolding is_fault
joined_fault slot k (Ok z) (inl e) = absurd (no_fault k (Store slot (word z)) (λ x. x) e)
joined_fault slot k (Ok z) (inr h) = elim h [ ]
joined_fault slot k (Err n) (inl e) = (n, fault_same k (fault_number n) e)
joined_fault slot k (Err n) (inr h) = elim h [ ]

-- each fault of an iteration is that of an operation
form : (p : Phase) (m : Cells) (chunk i k : ℕ) → WellFormed p m chunk → i < iterations p m → In (Fault k) (iteration_effects p m chunk i)
    → (act op : ℕ) × (name : FaultName) × FailsAt p m chunk i act op name × (k ≡ key_of act op (element_of p act i) name)
form (Set l b acts) m chunk i k w t h = numbered (Set l b acts) m chunk i k acts t (lines_long acts) refl h (acts_fault i 0 acts m k (λ a j. (w.few_ops a j).0) h)
form (Loop l b count acts) m chunk i k w t h = numbered (Loop l b count acts) m chunk i k acts t (lines_long acts) refl h (acts_fault i 0 acts m k (λ a j. (w.few_ops a j).0) h)
form (Part l count act kind t' f) m chunk i k w t h = numbered (Part l count act kind t' f) m chunk i k (act ∷ []) t refl refl h (value_fault act i m k ((w.few_ops act (inl refl)).0) h)
form (Join l count kind t' f slot) m chunk i k w t h =
    let cells : List ℕ = partial_cells f (pieces (natural (source m count)) chunk) in
    let e : Effect = joined slot (total default_half kind (merged default_half kind (map (cell_value m) cells))) in
    let x = joined_fault slot k (total default_half kind (merged default_half kind (map (cell_value m) cells))) (subst (λ (l' : List Effect). In (Fault k) l') (makes_loads cells (Makes e ∷ [])) h) in
    let is : k ≡ key_of 0 0 0 x.0 = x.1 ∙ (let g : fault_number x.0 ≡ key_of 0 0 0 x.0 = omega arith in g) in
    (0, 0, x.0, record { there = t; act_in = omega arith; op_in = omega arith; fails = subst (λ (z : ℕ). In (Fault z) (iteration_effects (Join l count kind t' f slot) m chunk i)) is h }, is)

-- ---- keys are compared as act, op, element

pub name_small : (n : FaultName) → (0 < fault_number n) × (fault_number n < 13)
name_small fault.Bounds = (omega arith, omega arith)
name_small fault.Shape = (omega arith, omega arith)
name_small fault.Overflow = (omega arith, omega arith)
name_small fault.DivideByZero = (omega arith, omega arith)
name_small fault.ZeroStride = (omega arith, omega arith)
name_small fault.ManyOne = (omega arith, omega arith)
name_small fault.Unallocated = (omega arith, omega arith)
name_small fault.Allocated = (omega arith, omega arith)
name_small fault.TooLarge = (omega arith, omega arith)
name_small fault.DataEnd = (omega arith, omega arith)
name_small fault.DataBad = (omega arith, omega arith)
name_small fault.Steps = (omega arith, omega arith)

compared : (a o e a' o' e' : ℕ) (n n' : FaultName) → o < 1048576 → o' < 1048576 → e < 1048576 → e' < 1048576 → key_of a o e n ≤ key_of a' o' e' n' → NoLater a o e a' o' e'
compared a o e a' o' e' n n' ho ho' he he' l =
    let x = (name_small n).1 in let y = (name_small n').1 in
    dite (dec_le (suc a) a') (λ s. inl s) (λ ns.
    let same : a ≡ a' = omega (arith, ns, ho, ho', he, he', l, x, y) in
    inr (
      same,
      dite (dec_le (suc o) o') (λ s. inl s) (λ no.
          let same_op : o ≡ o' = omega (arith, same, no, ho, ho', he, he', l, x, y) in
          inr (same_op, omega (arith, same, same_op, he, he', l, x, y))),
    ))

key_small : (a o e : ℕ) (n : FaultName) → a < 1048576 → o < 1048576 → e < 1048576 → key_of a o e n < none_yet
key_small a o e n ha ho he = let x = (name_small n).1 in omega (arith, x, ha, ho, he)

-- ---- iterations and units

makes_append : (es fs : List Event) → makes (es ++ fs) ≡ makes es ++ makes fs
makes_append [] fs = refl
makes_append (Makes e ∷ es) fs = ap (λ (l : List Effect). e ∷ l) (makes_append es fs)
makes_append (Loads c ∷ es) fs = makes_append es fs
makes_append (Divides z ∷ es) fs = makes_append es fs
makes_append (Gives z ∷ es) fs = makes_append es fs

makes_each : (f : ℕ → List Event) (from n : ℕ) → makes (each_from f from n) ≡ each_from (λ s. makes (f s)) from n
makes_each f from zero = refl
makes_each f from (suc n) = makes_append (f from) (each_from f (suc from) n) ∙ ap (λ (l : List Effect). makes (f from) ++ l) (makes_each f (suc from) n)

reach : (n s chunk : ℕ) → 0 < chunk → s < n → s < pieces n chunk * chunk
reach n s chunk c l = let t = lt-div-mul-add {a = n + (chunk - 1)} {b = chunk} c in omega (arith, c, l, t)

-- the unit of an iteration
unit_below : (n s chunk : ℕ) → 0 < chunk → s < n → s / chunk < pieces n chunk
unit_below n s chunk c l = let q = div-lt_iff_lt-mul {k = chunk} {x = s} {y = pieces n chunk} c in q.1 (reach n s chunk c l)

in_unit : (n s chunk : ℕ) → 0 < chunk → s < n → (s / chunk * chunk ≤ s) × (s < s / chunk * chunk + unit_size n chunk (s / chunk))
in_unit n s chunk c l =
    let a = div-mul-le_self s chunk in
    let b = lt-div-mul-add {a = s} {b = chunk} c in
    (a, omega (arith, a, b, l))

not_least : (k : ℕ) (es : List Effect) → (nat_lt (least_key es) none_yet ≡ false) → In (Fault k) es → none_yet ≤ k
not_least k es q h = let l = least_below k es h in let g : none_yet ≤ least_key es = grind (arith, nat_tests) in omega (arith, l, g)

-- what a Part's unit reports is the least fault of its iterations
summed_fault : (kind : CallWord) (cell : ℕ) (es : List Event) (k : ℕ) (b : Bool) → nat_lt (least_key (makes es)) none_yet ≡ b → In (Fault k) (summed kind cell es) → In (Fault k) (makes es)
unfolding is_fault
summed_fault kind cell es k true q h = one (subst (λ (z : Bool). In (Fault k) (if z then Fault (least_key (makes es)) ∷ [] else Store cell (word (merged default_half kind (map (part_of default_half kind) (gives es)))) ∷ [])) q h)
  where
    one : In (Fault k) (Fault (least_key (makes es)) ∷ []) → In (Fault k) (makes es)
    one (inl e) = subst (λ (z : ℕ). In (Fault z) (makes es)) (sym (fault_same k (least_key (makes es)) e)) (least_is_one (makes es) (grind (arith, nat_tests)))
    one (inr g) = elim g [ ]
summed_fault kind cell es k false q h = one (subst (λ (z : Bool). In (Fault k) (if z then Fault (least_key (makes es)) ∷ [] else Store cell (word (merged default_half kind (map (part_of default_half kind) (gives es)))) ∷ [])) q h)
  where
    one : In (Fault k) (Store cell (word (merged default_half kind (map (part_of default_half kind) (gives es)))) ∷ []) → In (Fault k) (makes es)
    one (inl e) = absurd (no_fault k (Store cell (word (merged default_half kind (map (part_of default_half kind) (gives es))))) (λ x. x) e)
    one (inr g) = elim g [ ]

summed_least : (kind : CallWord) (cell : ℕ) (es : List Event) (k : ℕ) → k < none_yet → In (Fault k) (makes es) → In (Fault (least_key (makes es))) (summed kind cell es)
summed_least kind cell es k small h =
    let l = least_below k (makes es) h in
    let q : nat_lt (least_key (makes es)) none_yet ≡ true = (let g : least_key (makes es) < none_yet = omega (arith, l, small) in grind (arith, nat_tests)) in
    subst (λ (z : Bool). In (Fault (least_key (makes es))) (if z then Fault (least_key (makes es)) ∷ [] else Store cell (word (merged default_half kind (map (part_of default_half kind) (gives es)))) ∷ [])) (sym q) (inl refl)

-- a strand's fault is that of an iteration
from_strand : (p : Phase) (m : Cells) (chunk u s k : ℕ) → u < units p m chunk → first_strand p chunk u ≤ s → s < first_strand p chunk u + strand_count p m chunk u → In (Fault k) (strand_effects p m chunk s)
    → (i : ℕ) × (i < iterations p m) × In (Fault k) (iteration_effects p m chunk i)
from_strand (Set l b acts) m chunk u s k hu a c h = (0, omega arith, h)
from_strand (Loop l b count acts) m chunk u s k hu a c h = (s, omega (arith, a, c), h)
from_strand (Part l count act kind t f) m chunk u s k hu a c h =
    let n : ℕ = natural (source m count) in
    let es : List Event = each_from (value_events act m) (s * chunk) (unit_size n chunk s) in
    let g : In (Fault k) (makes es) = summed_fault kind (f + s) es k (nat_lt (least_key (makes es)) none_yet) refl h in
    let x = from_each (Fault k) (λ i. makes (value_events act m i)) (s * chunk) (unit_size n chunk s) (subst (λ (l' : List Effect). In (Fault k) l') (makes_each (value_events act m) (s * chunk) (unit_size n chunk s)) g) in
    let x₁ = x.1 in let x₂ = x.2 in
    (x.0, omega (arith, x₁, x₂), x.3)
from_strand (Join l count kind t f slot) m chunk u s k hu a c h = (0, omega arith, h)

from_phase : (p : Phase) (m : Cells) (chunk k : ℕ) → In (Fault k) (phase_effects p m chunk) → (i : ℕ) × (i < iterations p m) × In (Fault k) (iteration_effects p m chunk i)
from_phase p m chunk k h =
    let x = from_each (Fault k) (effects p m chunk) 0 (units p m chunk) h in
    let y = from_each (Fault k) (strand_effects p m chunk) (first_strand p chunk x.0) (strand_count p m chunk x.0) x.3 in
    from_strand p m chunk x.0 y.0 k (let b = x.2 in omega (arith, b)) y.1 y.2 y.3

-- a strand's fault is one of its phase
to_phase : (p : Phase) (m : Cells) (chunk u s k : ℕ) → u < units p m chunk → first_strand p chunk u ≤ s → s < first_strand p chunk u + strand_count p m chunk u → In (Fault k) (strand_effects p m chunk s) → key p m chunk ≤ k
to_phase p m chunk u s k hu a b h =
    least_below k (phase_effects p m chunk)
    (to_each (Fault k) (effects p m chunk) 0 (units p m chunk) u (omega arith) (let e : u < 0 + units p m chunk = omega (arith, hu) in e)
    (to_each (Fault k) (strand_effects p m chunk) (first_strand p chunk u) (strand_count p m chunk u) s a b h))

below_all : (p : Phase) (m : Cells) (chunk i k : ℕ) → 0 < chunk → i < iterations p m → k < none_yet → In (Fault k) (iteration_effects p m chunk i) → key p m chunk ≤ k
below_all (Set l b acts) m chunk i k c l' small h = to_phase (Set l b acts) m chunk 0 0 k (omega arith) (omega arith) (omega arith) (subst (λ (z : ℕ). In (Fault k) (makes (acts_events z 0 acts m))) (let e : i ≡ 0 = omega (arith, l') in e) h)
below_all (Loop l b count acts) m chunk i k c l' small h =
    let n : ℕ = natural (source m count) in
    let w = in_unit n i chunk c l' in
    to_phase (Loop l b count acts) m chunk (i / chunk) i k (unit_below n i chunk c l') w.0 w.1 h
below_all (Part l count act kind t f) m chunk i k c l' small h =
    let n : ℕ = natural (source m count) in
    let u : ℕ = i / chunk in
    let w = in_unit n i chunk c l' in
    let es : List Event = each_from (value_events act m) (u * chunk) (unit_size n chunk u) in
    let g : In (Fault k) (makes es) = subst (λ (l₁ : List Effect). In (Fault k) l₁) (sym (makes_each (value_events act m) (u * chunk) (unit_size n chunk u))) (to_each (Fault k) (λ j. makes (value_events act m j)) (u * chunk) (unit_size n chunk u) i w.0 w.1 h) in
    let low = least_below k (makes es) g in
    let low' = to_phase (Part l count act kind t f) m chunk u u (least_key (makes es)) (unit_below n i chunk c l') (omega arith) (omega arith) (summed_least kind (f + u) es k small g) in
    omega (arith, low, low')
below_all (Join l count kind t f slot) m chunk i k c l' small h = to_phase (Join l count kind t f slot) m chunk 0 0 k (omega arith) (omega arith) (omega arith) h

-- ---- the law

few_iterations : (p : Phase) (m : Cells) (chunk : ℕ) → WellFormed p m chunk → iterations p m ≤ 65536
few_iterations (Set l b acts) m chunk w = omega arith
few_iterations (Loop l b count acts) m chunk w = small (source m count) w.count.1
few_iterations (Part l count act kind t f) m chunk w = small (source m count) w.count.1
few_iterations (Join l count kind t f slot) m chunk w = omega arith

few_lines : (p : Phase) (m : Cells) (chunk : ℕ) → WellFormed p m chunk → length (act_lines p) < 1048576
few_lines (Set l b acts) m chunk w = let a = w.few_acts in let e = lines_long acts in omega (arith, a, e)
few_lines (Loop l b count acts) m chunk w = let a = w.few_acts in let e = lines_long acts in omega (arith, a, e)
few_lines (Part l count act kind t f) m chunk w = omega arith
few_lines (Join l count kind t f slot) m chunk w = omega arith

element_small : (p : Phase) (act i : ℕ) → i < 65536 → element_of p act i < 1048576
element_small p act i h = go (slice_index_or (act_wholes p) act true)
  where
    go : (b : Bool) → cond b 0 (suc i) < 1048576
    go true = omega arith
    go false = omega (arith, h)

module _ (p : Phase) (m : Cells) (chunk : ℕ) (is : IsChunk chunk) (w : WellFormed p m chunk) where
  small_at : (i act op : ℕ) (name : FaultName) → FailsAt p m chunk i act op name → (element_of p act i < 1048576) × (key_of act op (element_of p act i) name < none_yet)
  small_at i act op name f =
      let t = f.there in let n = few_iterations p m chunk w in let a = f.act_in in let l = few_lines p m chunk w in
      let e = element_small p act i (omega (arith, t, n)) in
      (e, key_small act op (element_of p act i) name (omega (arith, a, l)) f.op_in e)

  least_of_all : (i act op : ℕ) (name : FaultName) → FailsAt p m chunk i act op name → key p m chunk ≤ key_of act op (element_of p act i) name
  least_of_all i act op name f = below_all p m chunk i (key_of act op (element_of p act i) name) is.0 f.there ((small_at i act op name f).1) f.fails

  key_there : key p m chunk < none_yet → IsFirstFault p m chunk (key p m chunk)
  key_there h =
      let x = from_phase p m chunk (key p m chunk) (least_is_one (phase_effects p m chunk) h) in
      let y = form p m chunk x.0 (key p m chunk) w x.1 x.2 in record {
        iteration = x.0;
        act = y.0;
        op = y.1;
        name = y.2;
        fails = y.3;
        is_key = record { act_in = y.3.act_in; op_in = y.3.op_in; element_in = (small_at x.0 y.0 y.1 y.2 y.3).0; key_is = y.4 };
        first = λ i a o n f.
            let low : key_of y.0 y.1 (element_of p y.0 x.0) y.2 ≤ key_of a o (element_of p a i) n = subst (λ (z : ℕ). z ≤ key_of a o (element_of p a i) n) y.4 (least_of_all i a o n f) in
            compared y.0 y.1 (element_of p y.0 x.0) a o (element_of p a i) y.2 n y.3.op_in f.op_in ((small_at x.0 y.0 y.1 y.2 y.3).0) ((small_at i a o n f).0) low;
      }

pub key_holds : (p : Phase) (m : Cells) (chunk : ℕ) → IsChunk chunk → WellFormed p m chunk
    → ((key p m chunk ≡ none_yet) × NoneFails p m chunk) ⊎ ((key p m chunk < none_yet) × IsFirstFault p m chunk (key p m chunk))
key_holds p m chunk is w = dite (dec_le (suc (key p m chunk)) none_yet)
    (λ l. inr (l, key_there p m chunk is w l))
    (λ g. inl (
      (let b = key_bound (phase_effects p m chunk) in omega (arith, b, g)),
      λ i act op name f. let low = least_of_all p m chunk is w i act op name f in let s = (small_at p m chunk is w i act op name f).1 in absurd (omega (arith, g, low, s)),
    ))
