-- The phases of the tests are free of races.
use Rattle.std.proofs.Common.{◌≡◌, ◌⊎◌, inl, inr, ℕ, zero, suc, true, false, ◌+◌, ◌-◌, ◌*◌, ◌<◌, ◌≤◌, Bool, List, [], ◌∷◌, ◌++◌, map, length, sym, refl, ap, ◌∙◌, subst, arith, ℤ, pos, ◌<ℤ◌}
use Rattle.std.specs.Prelude.{IsTrue, Ok, Err, if◌then◌else◌, nat_lt}
use Rattle.std.proofs.Math.Nat.{div-mul-le_self, mul-le-mul_right}
use Rattle.std.proofs.lemmas.Int.{ints}
use Rattle.ws_base.specs.Numbers.{Exact, default_half}
use Rattle.ws_base.specs.declared.op.CallWord.{CallWord}
use Rattle.ws_base.specs.declared.op.CallWord.TheVariants as word
use Rattle.phase_ops.specs.declared.effect.Effect.{Effect}
use Rattle.phase_ops.specs.declared.effect.Effect.TheVariants.{Store, Fault}
use Rattle.phase_ops.specs.declared.phase.Micro.{Micro}
use Rattle.phase_ops.specs.declared.phase.Act.{Act}
use Rattle.phase_ops.specs.Phases.{Cells, Event, Loads, Makes, strand_events, strand_effects, reads, loads, makes, gives, divides, value_events, each_from, pieces, unit_size, partial_cells, joined, summed, after_phase, phase_effects}
use Rattle.phase_ops.specs.Partials.{takes, is_reduction}
use Rattle.phase_ops.specs.Free.{In, stored, lessened, NameEarlier, Free}
use Rattle.phase_ops.proofs.Checked.{test, tested_free}
use Rattle.phase_ops.proofs.Keys.{makes_loads}
use Rattle.phase_ops.proofs.Members.{from_each}
use Rattle.phase_ops.proofs.Strands.{lay_length}
use Rattle.phase_ops.specs.declared.phase.Phase.{Phase}
use Rattle.serial_run.specs.Samples.{single, storing, store_seven, overflowing, overflows, choosing, chosen, gating, gated, numbering, bit_act, bits_part, bits_join}

only : {A : Type 0} (x y : A) → In x (y ∷ []) → x ≡ y
only x y (inl e) = e
only x y (inr i) = elim i [ ]

once_free : (ops : List Micro) (m : Cells) → ((chunk : ℕ) → test (single ops) m chunk ≡ true) → Free (single ops) m
once_free ops m h = tested_free (single ops) m (omega (arith, ints), omega (arith, ints)) (omega arith) (λ chunk. tt) h

pub seven_free : Free store_seven (0 ∷ 0 ∷ [])
seven_free = once_free storing _ (λ chunk. refl)

pub overflow_free : Free overflows (0 ∷ 0 ∷ [])
overflow_free = once_free overflowing _ (λ chunk. refl)

pub chosen_free : Free chosen (0 ∷ [])
chosen_free = once_free choosing _ (λ chunk. refl)

pub gated_free : Free gated (0 ∷ 20 ∷ [])
gated_free = once_free gating _ (λ chunk. refl)

pub numbering_free : Free numbering (3 ∷ 8 ∷ 8 ∷ 8 ∷ 8 ∷ [])
numbering_free = tested_free numbering _ (omega (arith, ints), omega (arith, ints)) (omega arith) (λ chunk. tt) (λ chunk. refl)

-- ---- a reduction of 0 and 1

two_pieces : (chunk : ℕ) → 0 < chunk → pieces 2 chunk ≤ 2
two_pieces chunk c = by (pieces 2 chunk) refl
  where
    by : (q : ℕ) → pieces 2 chunk ≡ q → q ≤ 2
    by zero e = omega arith
    by (suc zero) e = omega arith
    by (suc (suc zero)) e = omega arith
    by (suc (suc (suc q))) e =
        let d = div-mul-le_self (2 + (chunk - 1)) chunk in
        let most : suc (suc (suc q)) * chunk ≤ 2 + (chunk - 1) = subst (λ (n : ℕ). n * chunk ≤ 2 + (chunk - 1)) e d in
        let some : 3 * chunk ≤ suc (suc (suc q)) * chunk = mul-le-mul_right chunk (let l : 3 ≤ suc (suc (suc q)) = omega arith in l) in
        absurd (omega (arith, c, most, some))

bit_loads : (m : Cells) (from n c : ℕ) → In c (loads (each_from (value_events bit_act m) from n)) → ⊥
bit_loads m from zero c h = elim h [ ]
bit_loads m from (suc n) c h = bit_loads m (suc from) n c h

bit_divides : (m : Cells) (from n : ℕ) (z : ℤ) → In z (divides (each_from (value_events bit_act m) from n)) → ⊥
bit_divides m from zero z h = elim h [ ]
bit_divides m from (suc n) z h = bit_divides m (suc from) n z h

bit_gives : (m : Cells) (from n : ℕ) (z : ℤ) → In z (gives (each_from (value_events bit_act m) from n)) → (i : ℕ) × (from ≤ i) × (i < from + n) × (z ≡ pos i)
bit_gives m from zero z h = elim h [ ]
bit_gives m from (suc n) z (inl e) = (from, omega arith, omega arith, e)
bit_gives m from (suc n) z (inr h) = let r = bit_gives m (suc from) n z h in let low = r.1 in let high = r.2 in (r.0, omega (arith, low), omega (arith, high), r.3)

-- each reduction takes 0 and 1
takes_bits : (k : CallWord) → IsTrue (is_reduction k) → IsTrue (takes default_half k (pos 0)) × IsTrue (takes default_half k (pos 1))
takes_bits word.Sum r = (refl, refl)
takes_bits word.Product r = (refl, refl)
takes_bits word.Minval r = (refl, refl)
takes_bits word.Maxval r = (refl, refl)
takes_bits word.Count r = (refl, refl)
takes_bits word.Any r = (refl, refl)
takes_bits word.All r = (refl, refl)
takes_bits _ r = cc

takes_bit : (k : CallWord) → IsTrue (is_reduction k) → (i : ℕ) → i < 2 → IsTrue (takes default_half k (pos i))
takes_bit k r zero h = (takes_bits k r).0
takes_bit k r (suc zero) h = (takes_bits k r).1
takes_bit k r (suc (suc i)) h = absurd (omega (arith, h))

-- where a unit of a Part stores, and where a Join does
summed_laid : (k : CallWord) (cell c : ℕ) (es : List Event) → (In c (stored (summed k cell es)) → c ≡ cell) × (In c (lessened (summed k cell es)) → ⊥)
summed_laid k cell c es = by _ _ (nat_lt _ _)
  where
    by : (q w : ℕ) (t : Bool) → (In c (stored (if t then Fault q ∷ [] else Store cell w ∷ [])) → c ≡ cell) × (In c (lessened (if t then Fault q ∷ [] else Store cell w ∷ [])) → ⊥)
    by q w true = (λ h. elim h [ ], λ h. elim h [ ])
    by q w false = (λ h. only c cell h, λ h. elim h [ ])

joined_laid : (slot c : ℕ) (x : Exact) → (In c (stored (joined slot x ∷ [])) → c ≡ slot) × (In c (lessened (joined slot x ∷ [])) → ⊥)
joined_laid slot c (Ok z) = (λ h. only c slot h, λ h. elim h [ ])
joined_laid slot c (Err f) = (λ h. elim h [ ], λ h. elim h [ ])

merges : List ℕ → Effect → List Event
merges cs e = map Loads cs ++ Makes e ∷ []

merged_laid : (cs : List ℕ) (slot c : ℕ) (x : Exact) → (In c (stored (makes (merges cs (joined slot x)))) → c ≡ slot) × (In c (lessened (makes (merges cs (joined slot x)))) → ⊥)
unfolding merges
merged_laid cs slot c x = subst (λ (es : List Effect). (In c (stored es) → c ≡ slot) × (In c (lessened es) → ⊥)) (sym (makes_loads cs (Makes (joined slot x) ∷ []))) (joined_laid slot c x)

merged_loads : (cs : List ℕ) (e : Effect) (c : ℕ) → In c (loads (merges cs e)) → In c cs
unfolding merges
merged_loads [] e c h = elim h [ ]
merged_loads (d ∷ cs) e c (inl i) = inl i
merged_loads (d ∷ cs) e c (inr i) = inr (merged_loads cs e c i)

merged_divides : (cs : List ℕ) (e : Effect) (z : ℤ) → In z (divides (merges cs e)) → ⊥
unfolding merges
merged_divides [] e z h = elim h [ ]
merged_divides (d ∷ cs) e z h = merged_divides cs e z h

within : (n chunk s i : ℕ) → s * chunk ≤ i → i < s * chunk + unit_size n chunk s → i < n
within n chunk s i a b = omega (arith, a, b)

pub bits_part_free : (k : CallWord) (m : Cells) → IsTrue (is_reduction k) → length m ≡ 3 → Free (bits_part k) m
bits_part_free k m reduces room chunk is = (
  record {
    stores = λ s t c a b i j. let e = (laid s c).0 i in let f = (laid t c).0 j in omega (arith, e, f);
    loads_apart = λ s t c a b i j. absurd (bit_loads m (t * chunk) (unit_size 2 chunk t) c j);
    leasts = λ s t c a b i j. (laid s c).1 i;
    parameter_apart = λ s c a i j. elim j [ ];
  },
  record {
    count = (omega (arith, ints), omega (arith, ints));
    few_acts = omega arith;
    few_ops = λ a i. subst (λ (x : Act). (length x.ops ≤ 1048576) × NameEarlier 0 x.ops) (sym (only a bit_act i)) (omega arith, (λ r j. elim j [ ], tt));
    positive = λ s z a i. absurd (bit_divides m (s * chunk) (unit_size 2 chunk s) z i);
    reduction = (reduces, (λ e. cc), λ s z a i. given s z i);
    there = λ c i. elim i [ ];
    loaded = λ s c a i. absurd (bit_loads m (s * chunk) (unit_size 2 chunk s) c i);
    laid = below;
  },
)
  where
    laid : (s c : ℕ) → (In c (stored (strand_effects (bits_part k) m chunk s)) → c ≡ 0 + s) × (In c (lessened (strand_effects (bits_part k) m chunk s)) → ⊥)
    laid s c = summed_laid k (0 + s) c (strand_events (bits_part k) m chunk s)

    given : (s : ℕ) (z : ℤ) → In z (gives (strand_events (bits_part k) m chunk s)) → IsTrue (takes default_half k z)
    given s z i =
        let r = bit_gives m (s * chunk) (unit_size 2 chunk s) z i in
        subst (λ (x : ℤ). IsTrue (takes default_half k x)) (sym r.3) (takes_bit k reduces r.0 (within 2 chunk s r.0 r.1 r.2))

    below : (s c : ℕ) → s < pieces 2 chunk → In c (stored (strand_effects (bits_part k) m chunk s)) ⊎ In c (lessened (strand_effects (bits_part k) m chunk s)) → c < length m
    below s c a (inl i) = let e = (laid s c).0 i in let p = two_pieces chunk is.0 in omega (arith, e, p, a, room)
    below s c a (inr i) = absurd ((laid s c).1 i)

pub bits_join_free : (k : CallWord) (m : Cells) → IsTrue (is_reduction k) → length m ≡ 3 → Free (bits_join k) m
unfolding merges
bits_join_free k m reduces room chunk is = (
  record {
    stores = λ s t c a b i j. omega (arith, a, b);
    loads_apart = λ s t c a b i j. omega (arith, a, b);
    leasts = λ s t c a b i j. (laid s c).1 i;
    parameter_apart = λ s c a i j. elim j [ ];
  },
  record {
    count = (omega (arith, ints), omega (arith, ints));
    few_acts = omega arith;
    few_ops = λ a i. elim i [ ];
    positive = λ s z a i. absurd (merged_divides (partial_cells 0 (pieces 2 chunk)) _ z i);
    reduction = reduces;
    there = λ c i. elim i [ ];
    loaded = λ s c a i. loaded c (merged_loads (partial_cells 0 (pieces 2 chunk)) _ c i);
    laid = below;
  },
)
  where
    laid : (s c : ℕ) → (In c (stored (strand_effects (bits_join k) m chunk s)) → c ≡ 2) × (In c (lessened (strand_effects (bits_join k) m chunk s)) → ⊥)
    laid s c = merged_laid (partial_cells 0 (pieces 2 chunk)) 2 c _

    loaded : (c : ℕ) → In c (partial_cells 0 (pieces 2 chunk)) → c < length m
    loaded c i =
        let r = from_each c (λ d. d ∷ []) 0 (pieces 2 chunk) i in
        let e = only c r.0 r.3 in let h = r.2 in let p = two_pieces chunk is.0 in omega (arith, e, h, p, room)

    below : (s c : ℕ) → s < 1 → In c (stored (strand_effects (bits_join k) m chunk s)) ⊎ In c (lessened (strand_effects (bits_join k) m chunk s)) → c < length m
    below s c a (inl i) = let e = (laid s c).0 i in omega (arith, e, room)
    below s c a (inr i) = absurd ((laid s c).1 i)

-- a phase leaves as many cells as there were
pub cells_stay : (p : Phase) (m m' : Cells) → m' ≡ after_phase p m 65536 → length m' ≡ length m
cells_stay p m m' e = ap length e ∙ lay_length m (phase_effects p m 65536)
