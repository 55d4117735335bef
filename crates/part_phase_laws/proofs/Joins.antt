-- What a Join makes of partials, and the two phases together.
use Rattle.std.proofs.Common.{◌≡◌, ◌⊎◌, inl, inr, ℕ, zero, suc, ◌+◌, ◌-◌, ◌<◌, ◌≤◌, min, Bool, true, false, List, [], ◌∷◌, ◌++◌, map, length, slice_index, set, length-set, length-append, get_or-set_same, get_or-set_other, sym, refl, ap, ◌∙◌, subst, arith, Result, Ok, Err, Some, None, ℤ, pos, ◌≤ℤ◌}
use Rattle.std.specs.Prelude.{if◌then◌else◌, IsTrue}
use Rattle.std.specs.Int.{w64, cast_signed}
use Rattle.std.proofs.lemmas.Int.{ints, to_z-of_z}
use Rattle.std.proofs.lemmas.List.{append-nil}
use Rattle.ws_base.specs.declared.fault.FaultName.{FaultName}
use Rattle.ws_base.specs.declared.fault.FaultName.TheVariants.{Overflow}
use Rattle.ws_base.specs.declared.op.CallWord.{CallWord}
use Rattle.ws_base.specs.declared.op.CallWord.TheVariants as call
use Rattle.ws_base.specs.Numbers.{Exact, default_half, in_range, reduction}
use Rattle.phase_ops.specs.Partials.{merged, total, takes, is_reduction}
use Rattle.phase_ops.specs.declared.effect.Effect.{Effect}
use Rattle.phase_ops.specs.declared.phase.Source.{Source}
use Rattle.phase_ops.specs.declared.phase.Act.{Act}
use Rattle.phase_ops.specs.declared.phase.Phase.{Phase}
use Rattle.phase_ops.specs.declared.phase.Phase.TheVariants.{Part, Join}
use Rattle.phase_ops.specs.Phases.{Cells, cell_value, word, source, source_cells, natural, lay, pieces, partial_cells, each_from, Event, Loads, Makes, loads, makes, divides, joined, least_key, none_yet, key_of, strand_effects, phase_effects, after_phase, key, Failed, later, result}
use Rattle.phase_ops.specs.Free.{In, stored, lessened, Free, FreeFrom, IsChunk}
use Rattle.phase_ops.proofs.Members.{from_each}
use Rattle.phase_ops.proofs.Frame.{source_same}
use Rattle.scan_parts.specs.Laws.{partial}
use Rattle.scan_parts.proofs.Merging.{is_merging}
use Rattle.act_eval.proofs.Fitting.{Near, reach, values_near, reach_fits}
use Rattle.loop_laws.specs.Moves.{Row, Failure, Ended, whole, values_of}
use Rattle.loop_laws.specs.Loops.{Plan, ended, rows_of, Keyed, Inside}
use Rattle.loop_laws.specs.Laws.{Bridged, AllMoved}
use Rattle.loop_laws.proofs.Keyed.{number_small, failure_within}
use Rattle.loop_laws.proofs.Direct.{left}
use Rattle.part_phase_laws.specs.Parts.{given_at, Summing, Partials, Parts, Reduced, Joining, TotalEnds, ReductionEnds, reducing}
use Rattle.part_phase_laws.proofs.InOrder.{unit_below}
use Rattle.part_phase_laws.proofs.Rows.{rows_give}
use Rattle.part_phase_laws.proofs.PartCells.{part_free}
use Rattle.ws_base.specs.Words.{fault_number}
use Rattle.phase_ops.proofs.Keys.{makes_loads}
use Rattle.list_laws.proofs.Lists.{result_more, result_fails}

divides_loads : (cs : List ℕ) (es : List Event) → divides (map Loads cs ++ es) ≡ divides es
divides_loads [] es = refl
divides_loads (c ∷ cs) es = divides_loads cs es

loads_loads : (cs : List ℕ) (e : Event) → loads (e ∷ []) ≡ [] → loads (map Loads cs ++ e ∷ []) ≡ cs
loads_loads [] e h = h
loads_loads (c ∷ cs) e h = ap (λ (l : List ℕ). c ∷ l) (loads_loads cs e h)

-- ---- totals

total_value : (k : CallWord) (a z : ℤ) → IsTrue (is_reduction k) → total default_half k a ≡ Ok z → z ≡ a
total_value k a z h e = by k h e
  where
    ranged : (b : Bool) → (let r : Exact = if b then Ok a else Err Overflow in r) ≡ Ok z → z ≡ a
    ranged true e = cc
    ranged false e = absurd (let x : zero ≡ suc zero = cc in omega (arith, x))

    by : (k : CallWord) → IsTrue (is_reduction k) → total default_half k a ≡ Ok z → z ≡ a
    by call.Sum h e = ranged (in_range default_half a) e
    by call.Product h e = ranged (in_range default_half a) e
    by call.Minval h e = cc
    by call.Maxval h e = cc
    by call.Count h e = cc
    by call.Any h e = cc
    by call.All h e = cc
    by _ h e = absurd (let f : ⊥ = cc in f)

module _ (l t f slot : ℕ) (kind : CallWord) (count : Source) (m x : Cells) (n : ℕ) (vs : List ℤ) (count_is : source m count ≡ pos n) (few : n ≤ 65536) (count_there : (c : ℕ) → In c (source_cells count) → c < length m)
    (reduces : IsTrue (is_reduction kind)) (there : f + n ≤ length m) (apart : (c : ℕ) → In c (source_cells count) → Inside f n c → ⊥) (j : Joining slot count m n) where
  abbrev join : Phase
  join = Join l count kind t f slot

  module _ (chunk : ℕ) (is : IsChunk chunk) (p : Partials kind f n chunk vs m x) where
    same_count : source x count ≡ pos n
    same_count = source_same x m count (p.same_length, λ c h. p.others c (apart c h)) ∙ count_is

    total_is : total default_half kind (merged default_half kind (map (cell_value x) (partial_cells f (pieces (natural (source x count)) chunk)))) ≡ reduction default_half kind vs
    total_is =
        ap (λ (z : ℤ). total default_half kind (merged default_half kind (map (cell_value x) (partial_cells f (pieces (natural z) chunk))))) same_count
        ∙ ap (total default_half kind) p.merged_is
        ∙ (is_merging default_half kind reduces).exact vs

    abbrev here : List ℕ
    here = partial_cells f (pieces (natural (source x count)) chunk)

    pub effects_are : phase_effects join x chunk ≡ joined slot (reduction default_half kind vs) ∷ []
    effects_are =
        append-nil (makes (map Loads here ++ Makes (joined slot (total default_half kind (merged default_half kind (map (cell_value x) here)))) ∷ []) ++ [])
        ∙ append-nil (makes (map Loads here ++ Makes (joined slot (total default_half kind (merged default_half kind (map (cell_value x) here)))) ∷ []))
        ∙ makes_loads here (Makes (joined slot (total default_half kind (merged default_half kind (map (cell_value x) here)))) ∷ [])
        ∙ ap (λ (r : Exact). let es : List Effect = joined slot r ∷ [] in es) total_is

    pub key_of_total : (r : Exact) → reduction default_half kind vs ≡ r → key join x chunk ≡ least_key (joined slot r ∷ [])
    key_of_total r e = ap least_key (effects_are ∙ ap (λ (y : Exact). let es : List Effect = joined slot y ∷ [] in es) e)

    pub no_fault : (z : ℤ) → reduction default_half kind vs ≡ Ok z → key join x chunk ≡ none_yet
    no_fault z e = key_of_total (Ok z) e

    pub its_fault : (y : FaultName) → reduction default_half kind vs ≡ Err y → key join x chunk ≡ key_of 0 0 0 y
    its_fault y e = key_of_total (Err y) e ∙ (let s = number_small y in let g : min (fault_number y) none_yet ≡ key_of 0 0 0 y = omega (arith, s) in g)

    pub reduced : ((z : ℤ) → In z vs → IsTrue (takes default_half kind z)) → length vs ≤ n → (z : ℤ) → reduction default_half kind vs ≡ Ok z → Reduced slot f n z m (after_phase join x chunk)
    reduced taken short z e = record {
      same_length = ap length laid ∙ length-set x slot (word z) ∙ p.same_length;
      word_is = word_there;
      value_is = ap (cast_signed w64) word_there ∙ to_z-of_z w64 z (reach_fits kind (length vs) z (omega (arith, short, few)) (subst (Near (reach kind (length vs))) (sym (total_value kind (partial default_half kind vs) z reduces ((is_merging default_half kind reduces).exact vs ∙ e))) (values_near kind vs taken)));
      others = λ c out other. ap (λ (y : Cells). slice_index y c) laid ∙ get_or-set_other x slot c (word z) 0 other ∙ p.others c out;
    }
      where
        laid : after_phase join x chunk ≡ set x slot (word z)
        laid = ap (lay x) (effects_are ∙ ap (λ (y : Exact). let es : List Effect = joined slot y ∷ [] in es) e)

        word_there : slice_index (after_phase join x chunk) slot ≡ word z
        word_there = ap (λ (y : Cells). slice_index y slot) laid ∙ get_or-set_same x slot (word z) 0 (let a = p.same_length in let b = j.slot_there in omega (arith, a, b))

    -- ---- free of races, for every chunk

    module _ (other : ℕ) (is_other : IsChunk other) where
      abbrev cells : List ℕ
      cells = partial_cells f (pieces (natural (source x count)) other)

      abbrev one_effect : Effect
      one_effect = joined slot (total default_half kind (merged default_half kind (map (cell_value x) cells)))

      one_is : (s : ℕ) → strand_effects join x other s ≡ one_effect ∷ []
      one_is s = makes_loads cells (Makes one_effect ∷ [])

      its_store : (y : Exact) (c : ℕ) → In c (stored (joined slot y ∷ [])) → c ≡ slot
      its_store (Ok z) c (inl g) = g
      its_store (Ok z) c (inr g) = elim g [ ]
      its_store (Err z) c g = elim g [ ]

      its_least : (y : Exact) (c : ℕ) → In c (lessened (joined slot y ∷ [])) → ⊥
      its_least (Ok z) c g = elim g [ ]
      its_least (Err z) c g = elim g [ ]

      stores_slot : (s c : ℕ) → In c (stored (strand_effects join x other s)) → c ≡ slot
      stores_slot s c h = its_store (total default_half kind (merged default_half kind (map (cell_value x) cells))) c (subst (λ (es : List Effect). In c (stored es)) (one_is s) h)

      lessens_none : (s c : ℕ) → In c (lessened (strand_effects join x other s)) → ⊥
      lessens_none s c h = its_least (total default_half kind (merged default_half kind (map (cell_value x) cells))) c (subst (λ (es : List Effect). In c (lessened es)) (one_is s) h)

      either_slot : (s c : ℕ) → In c (stored (strand_effects join x other s)) ⊎ In c (lessened (strand_effects join x other s)) → c ≡ slot
      either_slot s c (inl h) = stores_slot s c h
      either_slot s c (inr h) = absurd (lessens_none s c h)

      cells_there : (c : ℕ) → In c cells → c < length x
      cells_there c h =
          let y = from_each c (λ (k : ℕ). k ∷ []) f (pieces (natural (source x count)) other) h in
          let e : c ≡ y.0 = only y.0 y.3 in
          let a = y.1 in let b = y.2 in let q = p.same_length in
          omega (arith, e, q, at_most (y.0) a b, there)
        where
          only : (k : ℕ) → In c (k ∷ []) → c ≡ k
          only k (inl g) = g
          only k (inr g) = elim g [ ]

          at_most : (k : ℕ) → f ≤ k → k < f + pieces (natural (source x count)) other → k < f + n
          at_most k a b =
              let e : pieces (natural (source x count)) other ≡ pieces n other = ap (λ (z : ℤ). pieces (natural z) other) same_count in
              let u = unit_below n other (k - f) is_other.0 (omega (arith, a, b, e)) in omega (arith, a, u)

    pub join_free : Free join x
    join_free = λ other is_other. (
      record {
        stores = λ s u c hs hu a b. omega (arith, hs, hu);
        loads_apart = λ s u c hs hu a b. omega (arith, hs, hu);
        leasts = λ s u c hs hu a b. lessens_none other is_other s c a;
        parameter_apart = λ s c hs a b. j.not_count (subst (λ (y : ℕ). In y (source_cells count)) (either_slot other is_other s c a) b);
      },
      record {
        count = (subst (λ (z : ℤ). pos 0 ≤ℤ z) (sym same_count) (grind (arith, ints)), subst (λ (z : ℤ). z ≤ℤ pos 65536) (sym same_count) (grind (arith, ints)));
        few_acts = omega arith;
        few_ops = λ a h. elim h [ ];
        positive = λ s z hs h. elim (subst (In z) (divides_loads (cells other is_other) (Makes (one_effect other is_other) ∷ [])) h) [ ];
        reduction = reduces;
        there = λ c h. let a = count_there c h in let q = p.same_length in omega (arith, a, q);
        loaded = λ s c hs h. cells_there other is_other c (subst (In c) (loads_loads (cells other is_other) (Makes (one_effect other is_other)) refl) h);
        laid = λ s c hs h. let e = either_slot other is_other s c h in let a = j.slot_there in let q = p.same_length in omega (arith, e, a, q);
      },
    )

-- ---- both

in_values : (V : Type 0) (value : ℕ → List V → ℤ) (ts : List (Row V)) (z : ℤ) → In z (values_of value ts) → (i : ℕ) × (s : List V) × In (i, s) ts × (z ≡ value i s)
in_values V value [] z h = elim h [ ]
in_values V value (r ∷ rs) z (inl e) = (r.0, r.1, inl refl, e)
in_values V value (r ∷ rs) z (inr h) = let x = in_values V value rs z h in (x.0, x.1, inr x.2, x.3)

at_most_one : (V : Type 0) (value : ℕ → List V → ℤ) (i : ℕ) (x : Ended V) → length (given_at value i x) ≤ 1
at_most_one V value i (Ok (Some s)) = omega arith
at_most_one V value i (Ok None) = omega arith
at_most_one V value i (Err e) = omega arith

short_each : (g : ℕ → List ℤ) (from n : ℕ) → ((i : ℕ) → length (g i) ≤ 1) → length (each_from g from n) ≤ n
short_each g from zero h = omega arith
short_each g from (suc n) h = let r = short_each g (suc from) n h in let a = h from in let e = length-append (g from) (each_from g (suc from) n) in omega (arith, r, a, e)

module _ (V : Type 0) (l t f slot : ℕ) (kind : CallWord) (count : Source) (act : Act) (m : Cells) (n : ℕ) (plan : Plan V) (value : ℕ → List V → ℤ) (w : Summing V plan value kind f count act m n) (j : Joining slot count m n) (chunk : ℕ) (is : IsChunk chunk) where
  abbrev part : Phase
  part = Part l count act kind t f

  abbrev joins : Phase
  joins = Join l count kind t f slot

  abbrev x : Cells
  x = after_phase part m chunk

  module _ (ts : List (Row V)) (e : whole plan.moves (rows_of plan n) ≡ Ok ts) (b : AllMoved V plan.moves (rows_of plan n) ts) (k : key part m chunk ≡ none_yet) (p : Partials kind f n chunk (values_of value ts) m x) where
    taken : (z : ℤ) → In z (values_of value ts) → IsTrue (takes default_half kind z)
    taken z h = let y = in_values V value ts z h in let q = left V plan n ts b y.0 y.1 y.2 in subst (λ (v : ℤ). IsTrue (takes default_half kind v)) (sym y.3) (w.taken y.0 y.1 q.0 q.1)

    short : length (values_of value ts) ≤ n
    short = subst (λ (vs : List ℤ). length vs ≤ n) (rows_give V plan value n ts e b) (short_each (λ i. given_at value i (ended plan i)) 0 n (λ i. at_most_one V value i (ended plan i)))

    free_both : FreeFrom chunk (reducing l t f slot kind count act) m
    free_both = (
      part_free V plan value kind f count act m n w l t,
      λ q. (
        join_free l t f slot kind count m x n (values_of value ts) w.fitting.count_is w.fitting.small w.fitting.count_there w.reduces w.partials_there w.not_count j chunk is p,
        λ q'. tt,
      ),
    )

    ends : (r : Exact) → reduction default_half kind (values_of value ts) ≡ r → TotalEnds slot f n m r (result (reducing l t f slot kind count act) m chunk)
    ends (Ok z) h = (
      after_phase joins x chunk,
      result_more chunk part (joins ∷ []) m k ∙ ap later (result_more chunk joins [] x (no_fault l t f slot kind count m x n (values_of value ts) w.fitting.count_is w.fitting.small w.fitting.count_there w.reduces w.partials_there w.not_count j chunk is p z h)),
      reduced l t f slot kind count m x n (values_of value ts) w.fitting.count_is w.fitting.small w.fitting.count_there w.reduces w.partials_there w.not_count j chunk is p taken short z h,
    )
    ends (Err y) h =
        let q = its_fault l t f slot kind count m x n (values_of value ts) w.fitting.count_is w.fitting.small w.fitting.count_there w.reduces w.partials_there w.not_count j chunk is p y h in
        result_more chunk part (joins ∷ []) m k
        ∙ ap later (result_fails chunk joins [] x (let s = number_small y in omega (arith, q, s)) ∙ ap (Failed 0) q)

  pub reduces_all : (r : Result (List (Row V)) Failure) → whole plan.moves (rows_of plan n) ≡ r → Bridged V plan.moves (rows_of plan n) r → Keyed plan (key part m chunk) r → Parts V value kind f n chunk m x r
      → FreeFrom chunk (reducing l t f slot kind count act) m × ReductionEnds V plan value kind slot f n m r (result (reducing l t f slot kind count act) m chunk)
  reduces_all (Ok ts) e b k p = (free_both ts e b k p, ends ts e b k p (reduction default_half kind (values_of value ts)) refl)
  reduces_all (Err y) e b k p =
      let low = failure_within V plan (act ∷ []) m n w.fitting.small w.follows y b in (
        (part_free V plan value kind f count act m n w l t, λ q. absurd (omega (arith, low, k, q))),
        result_fails chunk part (joins ∷ []) m (omega (arith, low, k)) ∙ ap (Failed 0) k,
      )
