-- What a Part leaves: its key, or the partials of all values.
use Rattle.std.proofs.Common.{◌≡◌, ◌⊎◌, inl, inr, ℕ, zero, suc, ◌+◌, ◌*◌, ◌<◌, ◌≤◌, Bool, true, false, List, [], ◌∷◌, ◌++◌, map, length, slice_index, get_or-set_same, sym, refl, ap, ◌∙◌, subst, arith, Result, Ok, Err, Some, None, ℤ, pos, ◌≤ℤ◌}
use Rattle.std.specs.Prelude.{if◌then◌else◌, nat_lt, IsTrue}
use Rattle.std.specs.Int.{w64, cast_signed}
use Rattle.std.proofs.lemmas.Int.{ints, to_z-of_z}
use Rattle.std.proofs.lemmas.Bool.Decides.{nat_tests}
use Rattle.std.proofs.lemmas.List.{append-nil}
use Rattle.ws_base.specs.Numbers.{default_half}
use Rattle.ws_base.specs.declared.op.CallWord.{CallWord}
use Rattle.phase_ops.specs.Partials.{merge, merged, part_of, takes}
use Rattle.phase_ops.specs.declared.effect.Effect.{Effect}
use Rattle.phase_ops.specs.declared.effect.Effect.TheVariants.{Store, Fault}
use Rattle.phase_ops.specs.declared.phase.Source.{Source}
use Rattle.phase_ops.specs.declared.phase.Act.{Act}
use Rattle.phase_ops.specs.declared.phase.Phase.{Phase}
use Rattle.phase_ops.specs.declared.phase.Phase.TheVariants.{Part}
use Rattle.phase_ops.specs.Phases.{Cells, cell_value, word, source, natural, lay, pieces, unit_size, partial_cells, Event, value_events, each_from, loads, makes, gives, divides, least_key, none_yet, strand_events, strand_effects, phase_effects, after_phase, key, effects}
use Rattle.phase_ops.specs.Free.{In, stored, lessened, Free, IsChunk}
use Rattle.phase_ops.proofs.Members.{in_left, to_each, from_each}
use Rattle.phase_ops.proofs.Strands.{lay_length, loads_append}
use Rattle.phase_ops.proofs.Keys.{least_below}
use Rattle.scan_parts.specs.Laws.{partial}
use Rattle.scan_parts.proofs.Merging.{is_merging}
use Rattle.act_eval.proofs.Fitting.{wider, values_near, values_give, reach_fits}
use Rattle.act_eval.proofs.PartSteps.{makes_join, gives_join}
use Rattle.loop_laws.specs.Moves.{Row, Failure, Ended, whole, values_of}
use Rattle.loop_laws.specs.Loops.{Plan, ended, rows_of, does, Keyed, Inside}
use Rattle.loop_laws.specs.Laws.{Bridged}
use Rattle.loop_laws.proofs.Units.{all_units}
use Rattle.loop_laws.proofs.Touched.{one_touches, none_touches}
use Rattle.loop_laws.proofs.Keyed.{keyed, the_bridge}
use Rattle.part_phase_laws.specs.Parts.{given_at, Summing, Partials, Parts}
use Rattle.part_phase_laws.proofs.InOrder.{each_same, tell_each, divides_append, same_makes, same_loads, same_divides, least_each, least_summed, unit_below}
use Rattle.part_phase_laws.proofs.Rows.{rows_give}

module _ (V : Type 0) (plan : Plan V) (value : ℕ → List V → ℤ) (kind : CallWord) (f : ℕ) (count : Source) (act : Act) (m : Cells) (n : ℕ) (w : Summing V plan value kind f count act m n) (l t : ℕ) where
  abbrev part : Phase
  part = Part l count act kind t f

  counted : natural (source m count) ≡ n
  counted = ap natural w.fitting.count_is

  module _ (chunk : ℕ) (is : IsChunk chunk) where
    abbrev many : ℕ
    many = pieces (natural (source m count)) chunk

    abbrev events : ℕ → List Event
    events u = strand_events part m chunk u

    abbrev values : ℕ → List ℤ
    values u = gives (events u)

    -- ---- units and positions

    pub many_is : many ≡ pieces n chunk
    many_is = ap (λ (k : ℕ). pieces k chunk) counted

    pub few_units : (u : ℕ) → u < many → u < n
    few_units u h = unit_below n chunk u is.0 (let e = many_is in omega (arith, h, e))

    size_is : (u : ℕ) → unit_size (natural (source m count)) chunk u ≡ unit_size n chunk u
    size_is u = ap (λ (k : ℕ). unit_size k chunk u) counted

    below : (u i : ℕ) → i < u * chunk + unit_size (natural (source m count)) chunk u → u * chunk ≤ i → i < n
    below u i h g = let e = size_is u in omega (arith, h, g, e)

    module _ {A : Type 0} (tell : List Event → List A) (join : (xs ys : List Event) → tell (xs ++ ys) ≡ tell xs ++ tell ys) (none : tell [] ≡ []) where
      in_unit : (x : A) (u : ℕ) → In x (tell (events u)) → (i : ℕ) × (i < n) × In x (tell (value_events act m i))
      in_unit x u h =
          let y = from_each x (λ i. tell (value_events act m i)) (u * chunk) (unit_size (natural (source m count)) chunk u) (subst (In x) (tell_each tell join none (value_events act m) (u * chunk) (unit_size (natural (source m count)) chunk u)) h) in
          (y.0, below u y.0 y.2 y.1, y.3)

      -- all units, one after another, tell what the positions do
      all_tell : each_from (λ u. tell (events u)) 0 many ≡ each_from (λ i. tell (value_events act m i)) 0 n
      all_tell =
          each_same (λ u. tell (events u)) (λ u. each_from (λ i. tell (value_events act m i)) (u * chunk) (unit_size n chunk u)) 0 many
          (λ u a b. tell_each tell join none (value_events act m) (u * chunk) (unit_size (natural (source m count)) chunk u) ∙ ap (λ (k : ℕ). each_from (λ i. tell (value_events act m i)) (u * chunk) k) (size_is u))
          ∙ ap (λ (k : ℕ). each_from (λ u. each_from (λ i. tell (value_events act m i)) (u * chunk) (unit_size n chunk u)) 0 k) many_is
          ∙ all_units (λ i. tell (value_events act m i)) n chunk is.0

    -- ---- the key

    key_is : key part m chunk ≡ least_key (each_from (does (act ∷ []) m) 0 n)
    key_is =
        least_each (effects part m chunk) (λ u. makes (events u)) 0 many (λ u a b. least_summed kind (f + u) (events u))
        ∙ ap least_key (all_tell makes makes_join refl ∙ each_same (λ i. makes (value_events act m i)) (does (act ∷ []) m) 0 n (λ i a b. same_makes act m w.quiet i))

    pub part_keyed : Keyed plan (key part m chunk) (whole plan.moves (rows_of plan n))
    part_keyed = subst (λ (k : ℕ). Keyed plan k (whole plan.moves (rows_of plan n))) (sym key_is)
        (keyed V plan (act ∷ []) m n w.fitting.small w.follows (whole plan.moves (rows_of plan n)) (the_bridge V plan (act ∷ []) m n w.fitting.small w.follows))

    -- ---- stores

    stores_there : (u c : ℕ) → In c (stored (strand_effects part m chunk u)) → c ≡ f + u
    stores_there u c h = by (nat_lt (least_key (makes (events u))) none_yet) h
      where
        one : (c d : ℕ) → In c (d ∷ []) → c ≡ d
        one c d (inl e) = e
        one c d (inr i) = elim i [ ]

        by : (b : Bool) → In c (stored (if b then Fault (least_key (makes (events u))) ∷ [] else Store (f + u) (word (merged default_half kind (map (part_of default_half kind) (values u)))) ∷ [])) → c ≡ f + u
        by true i = elim i [ ]
        by false i = one c (f + u) i

    lessens_none : (u c : ℕ) → In c (lessened (strand_effects part m chunk u)) → ⊥
    lessens_none u c h = by (nat_lt (least_key (makes (events u))) none_yet) h
      where
        by : (b : Bool) → In c (lessened (if b then Fault (least_key (makes (events u))) ∷ [] else Store (f + u) (word (merged default_half kind (map (part_of default_half kind) (values u)))) ∷ [])) → ⊥
        by true i = elim i [ ]
        by false i = elim i [ ]

    touches : (u c : ℕ) → In c (stored (effects part m chunk u)) ⊎ In c (lessened (effects part m chunk u)) → c ≡ f + u
    touches u c h = by (subst (λ (es : List Effect). In c (stored es) ⊎ In c (lessened es)) (append-nil (strand_effects part m chunk u)) h)
      where
        by : In c (stored (strand_effects part m chunk u)) ⊎ In c (lessened (strand_effects part m chunk u)) → c ≡ f + u
        by (inl g) = stores_there u c g
        by (inr g) = absurd (lessens_none u c g)

    its_cell : (u : ℕ) → u < many → Inside f n (f + u)
    its_cell u h = let b = few_units u h in (omega arith, omega (arith, b))

    unread : (u c : ℕ) → In c (loads (events u)) → Inside f n c → ⊥
    unread u c h = let y = in_unit loads loads_append refl c u h in w.unread y.0 c y.1 (subst (In c) (same_loads act m w.quiet y.0) y.2)

    -- ---- values

    taken : (u : ℕ) (z : ℤ) → In z (values u) → IsTrue (takes default_half kind z)
    taken u z h = let y = in_unit gives gives_join refl z u h in by y.0 y.1 (ended plan y.0) refl (subst (In z) (w.gives_it y.0 y.1) y.2)
      where
        by : (i : ℕ) → i < n → (x : Ended V) → ended plan i ≡ x → In z (given_at value i (ended plan i)) → IsTrue (takes default_half kind z)
        by i l x e g = at_end x e (subst (λ (y : Ended V). In z (given_at value i y)) e g)
          where
            at_end : (x : Ended V) → ended plan i ≡ x → In z (given_at value i x) → IsTrue (takes default_half kind z)
            at_end (Ok (Some s)) e (inl q) = subst (λ (y : ℤ). IsTrue (takes default_half kind y)) (sym q) (w.taken i s l e)
            at_end (Ok (Some s)) e (inr q) = elim q [ ]
            at_end (Ok None) e q = elim q [ ]
            at_end (Err y) e q = elim q [ ]

    pub all_values : (ts : List (Row V)) → whole plan.moves (rows_of plan n) ≡ Ok ts → Bridged V plan.moves (rows_of plan n) (Ok ts) → each_from values 0 many ≡ values_of value ts
    all_values ts e b =
        all_tell gives gives_join refl
        ∙ each_same (λ i. gives (value_events act m i)) (λ i. given_at value i (ended plan i)) 0 n (λ i a h. w.gives_it i (omega (arith, h)))
        ∙ rows_give V plan value n ts e b

    -- ---- where no position fails

    module _ (keyless : key part m chunk ≡ none_yet) where
      abbrev after : Cells
      after = after_phase part m chunk

      abbrev held : ℕ → ℤ
      held u = partial default_half kind (values u)

      faultless : (u q : ℕ) → u < many → In (Fault q) (strand_effects part m chunk u) → none_yet ≤ q
      faultless u q b h =
          let low = least_below q (phase_effects part m chunk) (to_each (Fault q) (effects part m chunk) 0 many u (omega arith) (omega (arith, b)) (in_left (Fault q) (strand_effects part m chunk u) [] h)) in
          omega (arith, low, keyless)

      stores_partial : (u : ℕ) → u < many → strand_effects part m chunk u ≡ Store (f + u) (word (held u)) ∷ []
      stores_partial u b = by (nat_lt (least_key (makes (events u))) none_yet) refl
        where
          by : (y : Bool) → nat_lt (least_key (makes (events u))) none_yet ≡ y → strand_effects part m chunk u ≡ Store (f + u) (word (held u)) ∷ []
          by true e =
              let low : least_key (makes (events u)) < none_yet = grind (arith, nat_tests) in
              let not_low = faultless u (least_key (makes (events u))) b (subst (λ (z : Bool). In (Fault (least_key (makes (events u)))) (if z then Fault (least_key (makes (events u))) ∷ [] else Store (f + u) (word (held u)) ∷ [])) (sym e) (inl refl)) in
              absurd (omega (arith, low, not_low))
          by false e = ap (λ (z : Bool). if z then Fault (least_key (makes (events u))) ∷ [] else Store (f + u) (word (held u)) ∷ []) e

      held_fits : (u : ℕ) → u < many → cast_signed w64 (word (held u)) ≡ held u
      held_fits u b =
          let c = values_give act m (u * chunk) (unit_size (natural (source m count)) chunk u) in
          let few : length (values u) ≤ chunk = omega (arith, c) in
          let h = is.1 in
          to_z-of_z w64 (held u) (reach_fits kind chunk (held u) (omega (arith, h)) (wider kind (length (values u)) chunk (held u) few (values_near kind (values u) (λ z i. taken u z i))))

      cell_is : (u : ℕ) → u < many → cell_value after (f + u) ≡ held u
      cell_is u b =
          ap (cast_signed w64)
          (one_touches (effects part m chunk) m many u (f + u) b (λ j hj g. let e = touches j (f + u) g in omega (arith, e))
          ∙ ap (λ (es : List Effect). slice_index (lay m (es ++ [])) (f + u)) (stores_partial u b)
          ∙ get_or-set_same m (f + u) (word (held u)) 0 (let x = few_units u b in let y = w.partials_there in omega (arith, x, y)))
          ∙ held_fits u b

      merges : (from j : ℕ) → from + j ≤ many → merged default_half kind (map (cell_value after) (partial_cells (f + from) j)) ≡ partial default_half kind (each_from values from j)
      merges from zero b = refl
      merges from (suc j) b =
          (λ i. merge default_half kind (cell_is from (omega (arith, b)) i) (merged default_half kind (map (cell_value after) (partial_cells ((let e : suc (f + from) ≡ f + suc from = omega arith in e) i) j))))
          ∙ ap (merge default_half kind (held from)) (merges (suc from) j (omega (arith, b)))
          ∙ sym ((is_merging default_half kind w.reduces).joined (values from) (each_from values (suc from) j))

      pub leaves : (ts : List (Row V)) → whole plan.moves (rows_of plan n) ≡ Ok ts → Bridged V plan.moves (rows_of plan n) (Ok ts) → Partials kind f n chunk (values_of value ts) m after
      leaves ts e b = record {
        same_length = lay_length m (phase_effects part m chunk);
        merged_is =
            (λ i. merged default_half kind (map (cell_value after) (partial_cells ((let z : f ≡ f + 0 = omega arith in z) i) (sym many_is i))))
            ∙ merges 0 many (omega arith)
            ∙ ap (partial default_half kind) (all_values ts e b);
        others = λ c out. none_touches (effects part m chunk) m 0 many c (λ u x y g. let z = touches u c g in out (subst (Inside f n) (sym z) (its_cell u (omega (arith, y)))));
      }

    pub part_leaves : (r : Result (List (Row V)) Failure) → whole plan.moves (rows_of plan n) ≡ r → Bridged V plan.moves (rows_of plan n) r → Keyed plan (key part m chunk) r → Parts V value kind f n chunk m (after_phase part m chunk) r
    part_leaves (Ok ts) e b k = leaves k ts e b
    part_leaves (Err x) e b k = tt

    stored_low : (u c : ℕ) → u < many → In c (stored (strand_effects part m chunk u)) ⊎ In c (lessened (strand_effects part m chunk u)) → Inside f n c
    stored_low u c b (inl g) = subst (Inside f n) (sym (stores_there u c g)) (its_cell u b)
    stored_low u c b (inr g) = absurd (lessens_none u c g)

  pub part_free : Free part m
  part_free = λ chunk is. (
    record {
      stores = λ s u c hs hu x y. let a = stores_there chunk is s c x in let b = stores_there chunk is u c y in omega (arith, a, b);
      loads_apart = λ s u c hs hu x y. absurd (unread chunk is u c y (stored_low chunk is s c hs (inl x)));
      leasts = λ s u c hs hu x y. lessens_none chunk is s c x;
      parameter_apart = λ s c hs x y. w.not_count c y (stored_low chunk is s c hs x);
    },
    record {
      count = (subst (λ (z : ℤ). pos 0 ≤ℤ z) (sym w.fitting.count_is) (grind (arith, ints)), subst (λ (z : ℤ). z ≤ℤ pos 65536) (sym w.fitting.count_is) (let h = w.fitting.small in grind (arith, ints)));
      few_acts = w.fitting.few_acts;
      few_ops = w.fitting.few_ops;
      positive = λ s z hs h. let y = in_unit chunk is divides divides_append refl z s h in w.fitting.positive y.0 z y.1 (subst (In z) (same_divides act m w.quiet y.0) y.2);
      reduction = (w.reduces, w.some_op, λ s z hs h. taken chunk is s z h);
      there = w.fitting.count_there;
      loaded = λ s c hs h. let y = in_unit chunk is loads loads_append refl c s h in w.fitting.loaded y.0 c y.1 (subst (In c) (same_loads act m w.quiet y.0) y.2);
      laid = λ s c hs h. let i = (stored_low chunk is s c hs h).1 in let y = w.partials_there in omega (arith, i, y);
    },
  )
