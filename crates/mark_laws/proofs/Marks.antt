-- The check for targets that are named twice.
use Rattle.std.proofs.Common.{◌≡◌, ◌⊎◌, inl, inr, ℕ, zero, suc, ◌+◌, ◌<◌, ◌≤◌, min, Bool, true, false, List, [], ◌∷◌, length, set, length-set, sym, refl, ap, ◌∙◌, subst, arith, slice_index, get_or-set_same, get_or-set_other, Option, Some, None}
use Rattle.std.specs.Prelude.{nat_lt, if◌then◌else◌}
use mathlib.Core.Logic.{dite}
use native.Mathlib.Decide.{dec_le, ℕ_discrete}
use Rattle.std.proofs.lemmas.Bool.Decides.{nat_tests}
use Rattle.ws_base.specs.declared.fault.FaultName.TheVariants.{ManyOne}
use Rattle.phase_ops.specs.declared.effect.Effect.{Effect}
use Rattle.phase_ops.specs.declared.effect.Effect.TheVariants.{Store, Least, Fault}
use Rattle.phase_ops.specs.declared.phase.Source.{Source}
use Rattle.phase_ops.specs.declared.phase.Act.{Act}
use Rattle.phase_ops.specs.declared.phase.Label.{Label}
use Rattle.phase_ops.specs.declared.phase.Phase.TheVariants.{Loop}
use Rattle.phase_ops.specs.Phases.{Cells, over, each_from, lay, least_key, after_phase, key, key_of, none_yet}
use Rattle.phase_ops.specs.Free.{In, stored, lessened, Free, IsChunk}
use Rattle.phase_ops.proofs.Members.{from_each, to_each}
use Rattle.phase_ops.proofs.Keys.{least_is_one, least_below}
use Rattle.phase_ops.proofs.Frame.{over_length}
use Rattle.phase_ops.proofs.Strands.{from_stored, from_lessened}
use Rattle.loop_laws.specs.Loops.{does, looks_at, Alone, Inside}
use Rattle.mark_laws.specs.Marks.{Clearing, Cleared, Places, marking, Marking, Marked, checking, Checking, Repeats, Checked}
use Rattle.loop_laws.proofs.Units.{free_loop, chunked}
use Rattle.loop_laws.proofs.Touched.{same_length, by_one, by_none, all_there, Touches, inside_at}
use Rattle.loop_laws.proofs.Keyed.{one_fault, least_bound, key_in_range, keyless}

-- ---- clear

module _ (l : ℕ) (b : Label) (count : Source) (acts : List Act) (m : Cells) (n marks : ℕ) (w : Clearing marks count acts m n) where
  clears_at : (i c : ℕ) → i < n → Touches c (does acts m i) → c ≡ marks + i
  clears_at i c h g = one (subst (Touches c) (w.does_this i h) g)
    where
      one : Touches c (Store (marks + i) none_yet ∷ []) → c ≡ marks + i
      one (inl (inl e)) = e
      one (inl (inr z)) = elim z [ ]
      one (inr z) = elim z [ ]

  clearing_alone : Alone count acts m n
  clearing_alone = record {
    stores = λ i j c hi hj x y. let e = clears_at i c hi (inl x) in let f = clears_at j c hj (inl y) in omega (arith, e, f);
    unread = λ i j c hi hj x y. absurd (w.unread j c hj y (inside_at marks n i c hi (clears_at i c hi (inl x))));
    leasts = λ i j c hi hj x y. subst (λ (es : List Effect). In c (lessened es)) (w.does_this i hi) x;
    not_count = λ i c hi x y. w.not_count c y (inside_at marks n i c hi (clears_at i c hi x));
    there = λ i c hi x. let e = clears_at i c hi x in let r = w.marks_there in omega (arith, e, r, hi);
  }

  pub clearing_free : Free (Loop l b count acts) m
  clearing_free = free_loop l b count acts m n w.fitting clearing_alone

  module _ (chunk : ℕ) (is : IsChunk chunk) where
    pub clearing_key : key (Loop l b count acts) m chunk ≡ none_yet
    clearing_key = keyless l b count acts m n chunk is w.fitting (λ i k hi h. never i k (subst (λ (es : List Effect). In (Fault k) es) (w.does_this i hi) h))
      where
        never : (i k : ℕ) → In (Fault k) (Store (marks + i) none_yet ∷ []) → ⊥
        never i k (inl e) = absurd (let z : zero ≡ suc zero = cc in omega (arith, z))
        never i k (inr h) = elim h [ ]

    pub clearing_leaves : Cleared marks n m (after_phase (Loop l b count acts) m chunk)
    clearing_leaves = record {
      same = record {
        same_length = same_length l b count acts m n chunk is w.fitting;
        others = λ c out. by_none l b count acts m n chunk is w.fitting c (λ g. out (inside_at marks n g.0 c g.1 (clears_at g.0 c g.1 g.2)));
      };
      clear = λ q h.
          by_one l b count acts m n chunk is w.fitting q (marks + q) h (λ j hj g. let e = clears_at j (marks + q) hj g in omega (arith, e))
          ∙ ap (λ (es : List Effect). slice_index (lay m es) (marks + q)) (w.does_this q h)
          ∙ get_or-set_same m (marks + q) none_yet 0 (let r = w.marks_there in omega (arith, r, h));
    }

-- ---- the least of many

record LeastLaid (m : Cells) (es : List Effect) (c : ℕ) : Type 0 where
  pub below : slice_index (lay m es) c ≤ slice_index m c
  pub each : (w : ℕ) → In (Least c w) es → slice_index (lay m es) c ≤ w
  pub one : (slice_index (lay m es) c ≡ slice_index m c) ⊎ In (Least c (slice_index (lay m es) c)) es

-- what was there at first changes
start_with : (m m' : Cells) (es : List Effect) (c : ℕ) → slice_index m' c ≡ slice_index m c → LeastLaid m' es c → (e : Effect) → ((w : ℕ) → Least c w ≡ e → ⊥) → (let r = slice_index (lay m' es) c in (r ≤ slice_index m c) × ((w : ℕ) → In (Least c w) (e ∷ es) → r ≤ w) × ((r ≡ slice_index m c) ⊎ In (Least c r) (e ∷ es)))
start_with m m' es c s r e never = (let b = r.below in omega (arith, b, s), λ w h. low w h, one r.one)
  where
    low : (w : ℕ) → In (Least c w) (e ∷ es) → slice_index (lay m' es) c ≤ w
    low w (inl h) = absurd (never w h)
    low w (inr h) = r.each w h

    one : (slice_index (lay m' es) c ≡ slice_index m' c) ⊎ In (Least c (slice_index (lay m' es) c)) es → (slice_index (lay m' es) c ≡ slice_index m c) ⊎ In (Least c (slice_index (lay m' es) c)) (e ∷ es)
    one (inl h) = inl (h ∙ s)
    one (inr h) = inr (inr h)

least_laid : (es : List Effect) (m : Cells) (c : ℕ) → (In c (stored es) → ⊥) → c < length m → LeastLaid m es c
least_laid [] m c q l = record { below = omega arith; each = λ w h. elim h [ ]; one = inl refl }
least_laid (Fault k ∷ es) m c q l = let x = start_with m m es c refl (least_laid es m c q l) (Fault k) (λ w e. let z : zero ≡ suc zero = cc in omega (arith, z)) in record { below = x.0; each = x.1; one = x.2 }
least_laid (Store d v ∷ es) m c q l =
    let x = start_with m (set m d v) es c (get_or-set_other m d c v 0 (λ e. q (inl e))) (least_laid es (set m d v) c (λ h. q (inr h)) (let n = length-set m d v in omega (arith, n, l))) (Store d v) (λ w e. let z : zero ≡ suc zero = cc in omega (arith, z)) in
    record { below = x.0; each = x.1; one = x.2 }
least_laid (Least d v ∷ es) m c q l = dite (ℕ_discrete c d)
    (λ e. same e (least_laid es (over (Least d v) m) c q (let n = over_length (Least d v) m in omega (arith, n, l))))
    (λ e.
    let x = start_with m (over (Least d v) m) es c (get_or-set_other m d c (min (slice_index m d) v) 0 e) (least_laid es (over (Least d v) m) c q (let n = over_length (Least d v) m in omega (arith, n, l))) (Least d v) (λ w f. e (let z : c ≡ d = cc in z)) in
    record { below = x.0; each = x.1; one = x.2 })
  where
    same : c ≡ d → LeastLaid (over (Least d v) m) es c → LeastLaid m (Least d v ∷ es) c
    same e r = record {
      below = (let b = r.below in omega (arith, b, at));
      each = λ w h. low w h;
      one = one r.one;
    }
      where
        at : slice_index (over (Least d v) m) c ≡ min (slice_index m c) v
        at = subst (λ (z : ℕ). slice_index (set m z (min (slice_index m z) v)) c ≡ min (slice_index m c) v) e (get_or-set_same m c (min (slice_index m c) v) 0 l)

        low : (w : ℕ) → In (Least c w) (Least d v ∷ es) → slice_index (lay (over (Least d v) m) es) c ≤ w
        low w (inl h) = let z : w ≡ v = cc in let b = r.below in let k = at in omega (arith, b, k, z)
        low w (inr h) = r.each w h

        one : (slice_index (lay (over (Least d v) m) es) c ≡ slice_index (over (Least d v) m) c) ⊎ In (Least c (slice_index (lay (over (Least d v) m) es) c)) es → (slice_index (lay (over (Least d v) m) es) c ≡ slice_index m c) ⊎ In (Least c (slice_index (lay (over (Least d v) m) es) c)) (Least d v ∷ es)
        one (inr h) = inr (inr h)
        one (inl h) = dite (dec_le (slice_index m c) v)
            (λ small. inl (h ∙ at ∙ (let g : min (slice_index m c) v ≡ slice_index m c = omega (arith, small) in g)))
            (λ big.
            let is : slice_index (lay (over (Least d v) m) es) c ≡ v = h ∙ at ∙ (let g : min (slice_index m c) v ≡ v = omega (arith, big) in g) in
            inr (inl (λ i. Least (e i) (is i))))

-- ---- mark

module _ (l : ℕ) (b : Label) (count : Source) (acts : List Act) (m : Cells) (n marks z from : ℕ) (at : Places) (w : Marking marks z from at count acts m n) where
  no_store : (i c : ℕ) (x : Option ℕ) → In c (stored (marking marks (from + i) x)) → ⊥
  no_store i c None h = h
  no_store i c (Some q) h = h

  lays_at : (i c v : ℕ) (x : Option ℕ) → In (Least c v) (marking marks (from + i) x) → (q : ℕ) × (x ≡ Some q) × (c ≡ marks + q) × (v ≡ from + i)
  lays_at i c v None h = elim h [ ]
  lays_at i c v (Some q) (inl e) = let f : c ≡ marks + q = cc in let g : v ≡ from + i = cc in (q, refl, f, g)
  lays_at i c v (Some q) (inr h) = elim h [ ]

  lessens_at : (i c : ℕ) (x : Option ℕ) → In c (lessened (marking marks (from + i) x)) → (q : ℕ) × (x ≡ Some q) × (c ≡ marks + q)
  lessens_at i c None h = elim h [ ]
  lessens_at i c (Some q) (inl e) = (q, refl, e)
  lessens_at i c (Some q) (inr h) = elim h [ ]

  stores_none : (i c : ℕ) → i < n → In c (stored (does acts m i)) → ⊥
  stores_none i c hi h = no_store i c (at i) (subst (λ (es : List Effect). In c (stored es)) (w.does_this i hi) h)

  over_mark : (i c : ℕ) → i < n → In c (lessened (does acts m i)) → (q : ℕ) × (at i ≡ Some q) × (c ≡ marks + q)
  over_mark i c hi h = lessens_at i c (at i) (subst (λ (es : List Effect). In c (lessened es)) (w.does_this i hi) h)

  in_marks : (i c : ℕ) → i < n → Touches c (does acts m i) → Inside marks z c
  in_marks i c hi (inl h) = absurd (stores_none i c hi h)
  in_marks i c hi (inr h) = let x = over_mark i c hi h in inside_at marks z x.0 c (w.places i x.0 hi x.1) x.2

  marking_alone : Alone count acts m n
  marking_alone = record {
    stores = λ i j c hi hj x y. absurd (stores_none i c hi x);
    unread = λ i j c hi hj x y. absurd (stores_none i c hi x);
    leasts = λ i j c hi hj x y. apart i j c hi hj x y;
    not_count = λ i c hi x y. w.not_count c y (in_marks i c hi x);
    there = λ i c hi x. let e = in_marks i c hi x in let f = e.1 in let r = w.marks_there in omega (arith, f, r);
  }
    where
      apart : (i j c : ℕ) → i < n → j < n → In c (lessened (does acts m i)) → In c (stored (does acts m j)) ⊎ In c (looks_at acts m j) → ⊥
      apart i j c hi hj x (inl y) = stores_none j c hj y
      apart i j c hi hj x (inr y) = w.unread j c hj y (in_marks i c hi (inr x))

  pub marking_free : Free (Loop l b count acts) m
  marking_free = free_loop l b count acts m n w.fitting marking_alone

  module _ (chunk : ℕ) (is : IsChunk chunk) where
    pub marking_key : key (Loop l b count acts) m chunk ≡ none_yet
    marking_key = keyless l b count acts m n chunk is w.fitting (λ i k hi h. never i k (at i) (subst (λ (es : List Effect). In (Fault k) es) (w.does_this i hi) h))
      where
        never : (i k : ℕ) (x : Option ℕ) → In (Fault k) (marking marks (from + i) x) → ⊥
        never i k None h = h
        never i k (Some q) (inl e) = absurd (let y : zero ≡ suc zero = cc in omega (arith, y))
        never i k (Some q) (inr h) = elim h [ ]

    laid : (q : ℕ) → q < z → LeastLaid m (each_from (does acts m) 0 n) (marks + q)
    laid q h = least_laid (each_from (does acts m) 0 n) m (marks + q)
        (λ g. let x = from_stored (marks + q) (does acts m) 0 n g in let y = x.2 in stores_none x.0 (marks + q) (omega (arith, y)) x.3)
        (let r = w.marks_there in omega (arith, r, h))

    cell : (q : ℕ) → slice_index (after_phase (Loop l b count acts) m chunk) (marks + q) ≡ slice_index (lay m (each_from (does acts m) 0 n)) (marks + q)
    cell q = ap (λ (y : Cells). slice_index y (marks + q)) (all_there l b count acts m n chunk is w.fitting)

    pub marking_leaves : Marked marks z from n at m (after_phase (Loop l b count acts) m chunk)
    marking_leaves = record {
      same = record {
        same_length = same_length l b count acts m n chunk is w.fitting;
        others = λ c out. by_none l b count acts m n chunk is w.fitting c (λ g. out (in_marks g.0 c g.1 g.2));
      };
      low = λ i q hi e.
          let r = laid q (w.places i q hi e) in
          let x = r.each (from + i) (to_each (Least (marks + q) (from + i)) (does acts m) 0 n i (omega arith) (omega (arith, hi)) (subst (λ (es : List Effect). In (Least (marks + q) (from + i)) es) (sym (w.does_this i hi ∙ ap (marking marks (from + i)) e)) (inl refl))) in
          let y = cell q in omega (arith, x, y);
      is_one = λ q h. pick q h (laid q h).one;
    }
      where
        pick : (q : ℕ) → q < z → (slice_index (lay m (each_from (does acts m) 0 n)) (marks + q) ≡ slice_index m (marks + q)) ⊎ In (Least (marks + q) (slice_index (lay m (each_from (does acts m) 0 n)) (marks + q))) (each_from (does acts m) 0 n)
            → (slice_index (after_phase (Loop l b count acts) m chunk) (marks + q) ≡ none_yet) ⊎ ((i : ℕ) × (i < n) × (at i ≡ Some q) × (slice_index (after_phase (Loop l b count acts) m chunk) (marks + q) ≡ from + i))
        pick q h (inl e) = inl (cell q ∙ e ∙ w.clear q h)
        pick q h (inr g) =
            let v : ℕ = slice_index (lay m (each_from (does acts m) 0 n)) (marks + q) in
            let x = from_each (Least (marks + q) v) (does acts m) 0 n g in
            let hi : x.0 < n = (let y = x.2 in omega (arith, y)) in
            let y = lays_at x.0 (marks + q) v (at x.0) (subst (λ (es : List Effect). In (Least (marks + q) v) es) (w.does_this x.0 hi) x.3) in
            let f = y.2 in
            let same : y.0 ≡ q = omega (arith, f) in
            inr (x.0, hi, y.1 ∙ ap (λ (k : ℕ). let o : Option ℕ = Some k in o) same, cell q ∙ y.3)

-- ---- check

faults_only : (m : Cells) (es : List Effect) → ((c : ℕ) → Touches c es → ⊥) → lay m es ≡ m
faults_only m [] never = refl
faults_only m (Fault k ∷ es) never = faults_only m es never
faults_only m (Store c v ∷ es) never = absurd (never c (inl (inl refl)))
faults_only m (Least c v ∷ es) never = absurd (never c (inr (inl refl)))

module _ (l : ℕ) (b : Label) (count : Source) (acts : List Act) (m m' : Cells) (n marks z from act op : ℕ) (at : Places) (marked : Marked marks z from n at m m') (places : (i q : ℕ) → i < n → at i ≡ Some q → q < z) (w : Checking marks from act op at count acts m' n) where
  abbrev fails_by : ℕ → ℕ
  fails_by i = key_of act op (suc i) ManyOne

  quiet : (i c : ℕ) (x : Option ℕ) → Touches c (checking marks (from + i) (fails_by i) m' i x) → ⊥
  quiet i c None (inl h) = h
  quiet i c None (inr h) = h
  quiet i c (Some q) h = either (nat_lt (slice_index m' (marks + q)) (from + i)) h
    where
      either : (t : Bool) → Touches c (if t then Fault (fails_by i) ∷ [] else []) → ⊥
      either true (inl g) = g
      either true (inr g) = g
      either false (inl g) = g
      either false (inr g) = g

  touches_none : (i c : ℕ) → i < n → Touches c (does acts m' i) → ⊥
  touches_none i c hi h = quiet i c (at i) (subst (Touches c) (w.does_this i hi) h)

  checking_alone : Alone count acts m' n
  checking_alone = record {
    stores = λ i j c hi hj x y. absurd (touches_none i c hi (inl x));
    unread = λ i j c hi hj x y. absurd (touches_none i c hi (inl x));
    leasts = λ i j c hi hj x y. touches_none i c hi (inr x);
    not_count = λ i c hi x y. touches_none i c hi x;
    there = λ i c hi x. absurd (touches_none i c hi x);
  }

  pub checking_free : Free (Loop l b count acts) m'
  checking_free = free_loop l b count acts m' n w.fitting checking_alone

  -- a fault of a position shows that an earlier one has its place
  faulted : (i k : ℕ) → i < n → (x : Option ℕ) → at i ≡ x → In (Fault k) (checking marks (from + i) (fails_by i) m' i x) → (k ≡ fails_by i) × Repeats at i
  faulted i k hi None e h = elim h [ ]
  faulted i k hi (Some q) e h = either (nat_lt (slice_index m' (marks + q)) (from + i)) refl h
    where
      earlier : slice_index m' (marks + q) < from + i → (slice_index m' (marks + q) ≡ none_yet) ⊎ ((j : ℕ) × (j < n) × (at j ≡ Some q) × (slice_index m' (marks + q) ≡ from + j)) → Repeats at i
      earlier less (inl f) = let s = w.small in let t = w.fitting.small in absurd (omega (arith, less, f, s, t, hi))
      earlier less (inr g) = let f = g.3 in (q, g.0, omega (arith, less, f), g.2, e)

      either : (t : Bool) → nat_lt (slice_index m' (marks + q)) (from + i) ≡ t → In (Fault k) (if t then Fault (fails_by i) ∷ [] else []) → (k ≡ fails_by i) × Repeats at i
      either true f g = (one_fault k (fails_by i) g, earlier (let less : slice_index m' (marks + q) < from + i = grind (arith, nat_tests) in less) (marked.is_one q (places i q hi e)))
      either false f g = elim g [ ]

  -- and a position whose place an earlier one has fails
  repeated : (i : ℕ) → i < n → Repeats at i → In (Fault (fails_by i)) (does acts m' i)
  repeated i hi r =
      let q : ℕ = r.0 in
      let j : ℕ = r.1 in
      let before = r.2 in
      let low = marked.low r.1 r.0 (omega (arith, before, hi)) r.3 in
      let less : slice_index m' (marks + r.0) < from + i = omega (arith, before, low) in
      let t : nat_lt (slice_index m' (marks + r.0)) (from + i) ≡ true = grind (arith, nat_tests) in
      subst (λ (es : List Effect). In (Fault (fails_by i)) es) (sym (w.does_this i hi ∙ ap (checking marks (from + i) (fails_by i) m' i) r.4 ∙ ap (λ (x : Bool). let es : List Effect = if x then Fault (fails_by i) ∷ [] else [] in es) t)) (inl refl)

  module _ (chunk : ℕ) (is : IsChunk chunk) where
    abbrev the_key : ℕ
    the_key = least_key (each_from (does acts m') 0 n)

    below_repeat : (i : ℕ) → i < n → Repeats at i → the_key ≤ fails_by i
    below_repeat i hi r = least_below (fails_by i) (each_from (does acts m') 0 n) (to_each (Fault (fails_by i)) (does acts m') 0 n i (omega arith) (omega (arith, hi)) (repeated i hi r))

    checked_key : Checked act op n at the_key
    checked_key = dite (dec_le (suc the_key) none_yet)
        (λ less.
        let x = from_each (Fault the_key) (does acts m') 0 n (least_is_one (each_from (does acts m') 0 n) less) in
        let hi : x.0 < n = (let y = x.2 in omega (arith, y)) in
        let f = faulted x.0 the_key hi (at x.0) refl (subst (λ (es : List Effect). In (Fault the_key) es) (w.does_this x.0 hi) x.3) in
        let k = f.0 in
        inr (x.0, hi, f.1, λ j hj r. let s = below_repeat j hj r in omega (arith, s, k), k))
        (λ more.
        let bound = least_bound (each_from (does acts m') 0 n) in
        inl (
          omega (arith, more, bound),
          λ i hi r.
              let s = below_repeat i hi r in
              let t = key_in_range act op (suc i) ManyOne w.spot.0 w.spot.1 (let y = w.fitting.small in omega (arith, y, hi)) in
              absurd (omega (arith, s, t, more)),
        ))

    pub checking_key : Checked act op n at (key (Loop l b count acts) m' chunk)
    checking_key = subst (λ (es : List Effect). Checked act op n at (least_key es)) (sym (chunked l b count acts m' n w.fitting chunk is)) checked_key

    pub checking_leaves : after_phase (Loop l b count acts) m' chunk ≡ m'
    checking_leaves = all_there l b count acts m' n chunk is w.fitting ∙ faults_only m' (each_from (does acts m') 0 n) (λ c h. pick c h)
      where
        pick : (c : ℕ) → Touches c (each_from (does acts m') 0 n) → ⊥
        pick c (inl h) = let x = from_stored c (does acts m') 0 n h in let y = x.2 in touches_none x.0 c (omega (arith, y)) (inl x.3)
        pick c (inr h) = let x = from_lessened c (does acts m') 0 n h in let y = x.2 in touches_none x.0 c (omega (arith, y)) (inr x.3)
