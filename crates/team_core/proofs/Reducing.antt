-- The two phases of a reduction are free of races.
use Rattle.std.proofs.Common.{◌≡◌, ◌⊎◌, inl, inr, ℕ, zero, suc, ◌+◌, ◌-◌, ◌*◌, ◌<◌, ◌≤◌, Bool, true, false, List, [], ◌∷◌, ◌++◌, map, length, sym, refl, ap, ◌∙◌, subst, arith, ℤ, pos}
use Rattle.std.specs.Prelude.{IsTrue, Ok, Err, if◌then◌else◌, nat_lt}
use Rattle.std.specs.Int.{w64, cast_signed}
use Rattle.std.proofs.Math.Nat.{div-mul-le_self, suc-mul}
use Rattle.std.proofs.lemmas.Bool.Decides.{nat_tests}
use Rattle.std.proofs.lemmas.Int.{ints, to_z_pos}
use Rattle.ws_base.specs.Numbers.{Exact, default_half, in_range}
use Rattle.ws_base.specs.declared.op.CallWord.{CallWord}
use Rattle.phase_ops.specs.declared.effect.Effect.{Effect}
use Rattle.phase_ops.specs.declared.effect.Effect.TheVariants.{Store, Fault}
use Rattle.phase_ops.specs.declared.phase.Act.{Act}
use Rattle.phase_ops.specs.Phases.{Cells, cell_value, Event, Loads, Makes, loads, makes, gives, divides, value_events, each_from, pieces, unit_size, partial_cells, joined, summed, strand_events, strand_effects, reads, after_phase, phase_effects}
use Rattle.phase_ops.specs.Partials.{takes, is_reduction}
use Rattle.phase_ops.specs.Free.{In, stored, lessened, Apart, WellFormed, NameEarlier, IsChunk, Free, FreeList}
use Rattle.phase_ops.proofs.Members.{from_each}
use Rattle.phase_ops.proofs.Strands.{lay_length}
use Rattle.team_core.specs.Laws.{MayStart}
use Rattle.team_core.proofs.Cells.{only, address_is}
use Rattle.team_core.specs.Reduced.{value_act, part, join, reduced, IsNumbered, Fits}

pieces_few : (n chunk : ℕ) → 0 < chunk → pieces n chunk ≤ n
pieces_few n chunk c = below (pieces n chunk) n chunk c (div-mul-le_self (n + (chunk - 1)) chunk)
  where
    below : (q n chunk : ℕ) → 0 < chunk → q * chunk ≤ n + (chunk - 1) → q ≤ n
    below zero n chunk c h = omega arith
    below (suc q) zero chunk c h = let z = suc-mul q chunk in absurd (omega (arith, c, h, z))
    below (suc q) (suc n) chunk c h = let z = suc-mul q chunk in let r = below q n chunk c (omega (arith, c, h, z)) in omega (arith, r)

-- ---- the iterations of a unit

values : Cells → ℕ → ℕ → List Event
values m from size = each_from (value_events value_act m) from size

value_loads : (m : Cells) (from size c : ℕ) → In c (loads (values m from size)) → (from ≤ c) × (c < from + size)
unfolding values
value_loads m from zero c h = elim h [ ]
value_loads m from (suc size) c (inl e) = let a = address_is 0 from in (omega (arith, e, a), omega (arith, e, a))
value_loads m from (suc size) c (inr h) = let r = value_loads m (suc from) size c h in let low = r.0 in let high = r.1 in (omega (arith, low), omega (arith, high))

value_gives : (m : Cells) (from size : ℕ) (z : ℤ) → In z (gives (values m from size)) → (i : ℕ) × (from ≤ i) × (i < from + size) × (z ≡ cell_value m i)
unfolding values
value_gives m from zero z h = elim h [ ]
value_gives m from (suc size) z (inl e) = (from, omega arith, omega arith, e ∙ ap (λ (c : ℕ). cell_value m c) (address_is 0 from ∙ (let q : 0 + from ≡ from = omega arith in q)))
value_gives m from (suc size) z (inr h) = let r = value_gives m (suc from) size z h in let low = r.1 in let high = r.2 in (r.0, omega (arith, low), omega (arith, high), r.3)

value_divides : (m : Cells) (from size : ℕ) (z : ℤ) → In z (divides (values m from size)) → ⊥
unfolding values
value_divides m from zero z h = elim h [ ]
value_divides m from (suc size) z h = value_divides m (suc from) size z h

within : (n chunk s i : ℕ) → s * chunk ≤ i → i < s * chunk + unit_size n chunk s → i < n
within n chunk s i a b = omega (arith, a, b)

-- ---- what a unit does

summed_stored : (k : CallWord) (cell c : ℕ) (es : List Event) → In c (stored (summed k cell es)) → c ≡ cell
summed_stored k cell c es h = by _ _ (nat_lt _ _) h
  where
    by : (q w : ℕ) (t : Bool) → In c (stored (if t then Fault q ∷ [] else Store cell w ∷ [])) → c ≡ cell
    by q w true h = elim h [ ]
    by q w false h = only c cell h

summed_lessened : (k : CallWord) (cell c : ℕ) (es : List Event) → In c (lessened (summed k cell es)) → ⊥
summed_lessened k cell c es h = by _ _ (nat_lt _ _) h
  where
    by : (q w : ℕ) (t : Bool) → In c (lessened (if t then Fault q ∷ [] else Store cell w ∷ [])) → ⊥
    by q w true h = elim h [ ]
    by q w false h = elim h [ ]

-- ---- the Part

reduces : (k : CallWord) (n from : ℕ) → Fits k n from → IsTrue (is_reduction k)
reduces k n from (inl t) = t.0
reduces k n from (inr t) = t.0.0

module _ (k : CallWord) (n from : ℕ) (m : Cells) (few : n ≤ 65536) (low : from ≤ 1) (fits : Fits k n from) (numbers : IsNumbered n from m) (chunk : ℕ) (is : IsChunk chunk) where
  reads_within : (s c : ℕ) → In c (reads (part k n) m chunk s) → c < n
  unfolding values
  reads_within s c i = let r = value_loads m (s * chunk) (unit_size n chunk s) c i in within n chunk s c r.0 r.1

  part_stored : (s c : ℕ) → In c (stored (strand_effects (part k n) m chunk s)) → c ≡ n + s
  part_stored s c i = summed_stored k (n + s) c (strand_events (part k n) m chunk s) i

  part_lessened : (s c : ℕ) → In c (lessened (strand_effects (part k n) m chunk s)) → ⊥
  part_lessened s c i = summed_lessened k (n + s) c (strand_events (part k n) m chunk s) i

  part_apart : Apart (part k n) m chunk
  part_apart = record {
    stores = λ s t c bs bt i j. let e = part_stored s c i in let f = part_stored t c j in omega (arith, e, f);
    loads_apart = λ s t c bs bt i j. let e = part_stored s c i in let f = reads_within t c j in absurd (omega (arith, e, f));
    leasts = λ s t c bs bt i j. part_lessened s c i;
    parameter_apart = λ s c bs i j. elim j [ ];
  }

  value_is : (i : ℕ) → i < n → cell_value m i ≡ pos (from + i)
  value_is i h = ap (λ (c : ℕ). cast_signed w64 c) (numbers.values i h) ∙ to_z_pos w64 (from + i) (omega (arith, h, few, low))

  number_taken : Fits k n from → (i : ℕ) → i < n → IsTrue (takes default_half k (pos (from + i)))
  number_taken (inl t) i h = t.1 (pos (from + i)) (small (from + i) (omega (arith, h, few, low)))
    where
      small : (j : ℕ) → j ≤ 65536 → IsTrue (in_range default_half (pos j))
      small j l = grind (arith, nat_tests)
  number_taken (inr t) i h = truth (from + i) (let b = t.1 in omega (arith, h, b))
    where
      truth : (j : ℕ) → j < 2 → IsTrue (takes default_half k (pos j))
      truth zero l = t.0.1
      truth (suc zero) l = t.0.2
      truth (suc (suc j)) l = absurd (omega (arith, l))

  part_takes : (s : ℕ) (z : ℤ) → In z (gives (strand_events (part k n) m chunk s)) → IsTrue (takes default_half k z)
  unfolding values
  part_takes s z i =
      let r = value_gives m (s * chunk) (unit_size n chunk s) z i in
      let there = within n chunk s r.0 r.1 r.2 in
      subst (λ (y : ℤ). IsTrue (takes default_half k y)) (sym (r.3 ∙ value_is r.0 there)) (number_taken fits r.0 there)

  part_laid : (s c : ℕ) → s < pieces n chunk → In c (stored (strand_effects (part k n) m chunk s)) ⊎ In c (lessened (strand_effects (part k n) m chunk s)) → c < length m
  part_laid s c b (inl i) = let e = part_stored s c i in let p = pieces_few n chunk is.0 in let l = numbers.room in omega (arith, e, p, b, l)
  part_laid s c b (inr i) = absurd (part_lessened s c i)

  part_ops : (a : Act) → In a (value_act ∷ []) → (length a.ops ≤ 1048576) × NameEarlier 0 a.ops
  part_ops a i = subst (λ (x : Act). (length x.ops ≤ 1048576) × NameEarlier 0 x.ops) (sym (only a value_act i)) (omega arith, (λ r j. elim j [ ], (λ r j. let e = only r 0 j in omega (arith, e), tt)))

  part_well : WellFormed (part k n) m chunk
  unfolding values
  part_well = record {
    count = (omega (arith, ints), omega (arith, ints, few));
    few_acts = omega arith;
    few_ops = part_ops;
    positive = λ s z b i. absurd (value_divides m (s * chunk) (unit_size n chunk s) z i);
    reduction = (reduces k n from fits, (λ e. cc), λ s z b i. part_takes s z i);
    there = λ c i. elim i [ ];
    loaded = λ s c b i. let h = reads_within s c i in let l = numbers.room in omega (arith, h, l);
    laid = part_laid;
  }

-- ---- the Join

join_makes : (cs : List ℕ) (e : Effect) → makes (map Loads cs ++ Makes e ∷ []) ≡ e ∷ []
join_makes [] e = refl
join_makes (c ∷ cs) e = join_makes cs e

join_loads : (cs : List ℕ) (e : Effect) → loads (map Loads cs ++ Makes e ∷ []) ≡ cs
join_loads [] e = refl
join_loads (c ∷ cs) e = ap (λ (l : List ℕ). c ∷ l) (join_loads cs e)

join_divides : (cs : List ℕ) (e : Effect) → divides (map Loads cs ++ Makes e ∷ []) ≡ []
join_divides [] e = refl
join_divides (c ∷ cs) e = join_divides cs e

joined_stored : (slot c : ℕ) (x : Exact) → In c (stored (joined slot x ∷ [])) → c ≡ slot
joined_stored slot c (Ok z) h = only c slot h
joined_stored slot c (Err f) h = elim h [ ]

joined_lessened : (slot c : ℕ) (x : Exact) → In c (lessened (joined slot x ∷ [])) → ⊥
joined_lessened slot c (Ok z) h = elim h [ ]
joined_lessened slot c (Err f) h = elim h [ ]

module _ (k : CallWord) (n : ℕ) (m : Cells) (few : n ≤ 65536) (reduces : IsTrue (is_reduction k)) (room : length m ≡ 2 * n + 1) (chunk : ℕ) (is : IsChunk chunk) where
  partials : List ℕ
  partials = partial_cells n (pieces n chunk)

  join_stored : (s c : ℕ) → In c (stored (strand_effects (join k n) m chunk s)) → c ≡ 2 * n
  unfolding partials
  join_stored s c i = joined_stored (2 * n) c _ (subst (λ (es : List Effect). In c (stored es)) (join_makes partials _) i)

  join_lessened : (s c : ℕ) → In c (lessened (strand_effects (join k n) m chunk s)) → ⊥
  unfolding partials
  join_lessened s c i = joined_lessened (2 * n) c _ (subst (λ (es : List Effect). In c (lessened es)) (join_makes partials _) i)

  join_reads : (s c : ℕ) → In c (reads (join k n) m chunk s) → c < 2 * n
  unfolding partials
  join_reads s c i =
      let r = from_each c (λ d. d ∷ []) n (pieces n chunk) (subst (λ (cs : List ℕ). In c cs) (join_loads partials _) i) in
      let e = only c r.0 r.3 in let h = r.2 in let p = pieces_few n chunk is.0 in omega (arith, e, h, p)

  join_apart : Apart (join k n) m chunk
  join_apart = record {
    stores = λ s t c bs bt i j. omega (arith, bs, bt);
    loads_apart = λ s t c bs bt i j. omega (arith, bs, bt);
    leasts = λ s t c bs bt i j. join_lessened s c i;
    parameter_apart = λ s c bs i j. elim j [ ];
  }

  join_laid : (s c : ℕ) → In c (stored (strand_effects (join k n) m chunk s)) ⊎ In c (lessened (strand_effects (join k n) m chunk s)) → c < length m
  join_laid s c (inl i) = let e = join_stored s c i in omega (arith, e, room)
  join_laid s c (inr i) = absurd (join_lessened s c i)

  join_well : WellFormed (join k n) m chunk
  unfolding partials
  join_well = record {
    count = (omega (arith, ints), omega (arith, ints, few));
    few_acts = omega arith;
    few_ops = λ a i. elim i [ ];
    positive = λ s z b i. (let none : In z [] = subst (λ (ds : List ℤ). In z ds) (join_divides partials _) i in elim none [ ]);
    reduction = reduces;
    there = λ c i. elim i [ ];
    loaded = λ s c b i. let h = join_reads s c i in omega (arith, h, room);
    laid = λ s c b i. join_laid s c i;
  }

-- ---- both

pub after_room : (k : CallWord) (n chunk : ℕ) (m : Cells) → length m ≡ 2 * n + 1 → length (after_phase (part k n) m chunk) ≡ 2 * n + 1
after_room k n chunk m room = lay_length m (phase_effects (part k n) m chunk) ∙ room

pub part_free : (k : CallWord) (n from : ℕ) (m : Cells) → n ≤ 65536 → from ≤ 1 → Fits k n from → IsNumbered n from m → Free (part k n) m
part_free k n from m few low fits numbers chunk is = (part_apart k n from m few low fits numbers chunk is, part_well k n from m few low fits numbers chunk is)

pub join_free : (k : CallWord) (n from : ℕ) (m : Cells) → n ≤ 65536 → Fits k n from → length m ≡ 2 * n + 1 → Free (join k n) m
join_free k n from m few fits room chunk is = (join_apart k n m few (reduces k n from fits) room chunk is, join_well k n m few (reduces k n from fits) room chunk is)

reduced_free : (k : CallWord) (n from : ℕ) (m : Cells) → n ≤ 65536 → from ≤ 1 → Fits k n from → IsNumbered n from m → FreeList (reduced k n) m
reduced_free k n from m few low fits numbers = record {
  joins = (tt, ((refl, refl, refl, refl, refl), tt));
  phases = λ chunk is. (part_free k n from m few low fits numbers, λ none. (join_free k n from (after_phase (part k n) m chunk) few fits (after_room k n chunk m numbers.room), λ none'. tt));
}

pub reduced_may : (k : CallWord) (n from team chunk : ℕ) (m : Cells) → n ≤ 65536 → from ≤ 1 → Fits k n from → IsNumbered n from m → 1 ≤ team → team ≤ 64 → IsChunk chunk → MayStart (reduced k n) m team chunk
reduced_may k n from team chunk m few low fits numbers some most is =
    record { someone = some; team_small = most; chunk_is = is; few = omega arith; free = reduced_free k n from m few low fits numbers }
