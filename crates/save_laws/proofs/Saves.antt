-- Loops that save, and the loop that assigns from what they saved.
use Rattle.std.proofs.Common.{◌≡◌, ◌≢◌, ◌⊎◌, inl, inr, ℕ, suc, ◌+◌, ◌<◌, ◌≤◌, List, [], ◌∷◌, ◌++◌, length, set, length-set, sym, refl, ap, ◌∙◌, subst, arith, slice_index, get_or-set_same, get_or-set_other, Some, None, Result, Ok, Err, ℤ, pos, negsuc}
use Rattle.phase_ops.specs.declared.effect.Effect.{Effect}
use Rattle.phase_ops.specs.declared.effect.Effect.TheVariants.{Store, Fault}
use Rattle.phase_ops.specs.declared.phase.Source.{Source}
use Rattle.phase_ops.specs.declared.phase.Act.{Act}
use Rattle.phase_ops.specs.declared.phase.Label.{Label}
use Rattle.phase_ops.specs.declared.phase.Phase.TheVariants.{Loop}
use Rattle.phase_ops.specs.Phases.{Cells, word, lay, after_phase, key, key_of, none_yet, source_cells}
use Rattle.phase_ops.specs.Free.{In, lessened, Free, IsChunk}
use Rattle.loop_laws.specs.Moves.{Row, Failure, Ended}
use Rattle.loop_laws.specs.Loops.{Plan, ended, planned, rows_of, does, Alone, Inside}
use Rattle.loop_laws.specs.Laws.{Bridged}
use Rattle.save_laws.specs.Saves.{Saving, Saved, Saves, assigned, Assigning, Assigned}
use Rattle.loop_laws.proofs.Units.{free_loop}
use Rattle.loop_laws.proofs.Touched.{same_length, by_one, by_none, Touches, inside_at}
use Rattle.loop_laws.proofs.Keyed.{in_rows, not_fault, keyless}
use Rattle.loop_laws.proofs.Direct.{left, is_left}
use Rattle.loop_laws.proofs.Words.{read_back, pos_fits, negsuc_fits}

-- ---- saved values and targets

module _ (V : Type 0) (plan : Plan V) (value target : ℕ → List V → ℕ) (t a : ℕ) (count : Source) (acts : List Act) (m : Cells) (n : ℕ) (w : Saving V plan value target t a count acts m n) where
  abbrev exact : ℕ → Ended V → List Effect
  exact i (Ok None) = Store (a + i) (word (negsuc i)) ∷ []
  exact i (Ok (Some s)) = Store (a + i) (word (negsuc i)) ∷ Store (t + i) (value i s) ∷ Store (a + i) (word (pos (target i s))) ∷ []
  exact i (Err e) = Store (a + i) (word (negsuc i)) ∷ Fault (key_of (plan.act e.0) (plan.op e.0) (suc i) e.1) ∷ []

  written : (i : ℕ) (x : Ended V) → planned plan i x ≡ exact i x
  written i (Ok None) = w.first_is i
  written i (Ok (Some s)) = λ j. w.first_is i j ++ w.last_is i s j
  written i (Err e) = ap (λ (es : List Effect). es ++ Fault (key_of (plan.act e.0) (plan.op e.0) (suc i) e.1) ∷ []) (w.first_is i)

  saves_this : (i : ℕ) (x : Ended V) → i < n → ended plan i ≡ x → does acts m i ≡ exact i x
  saves_this i x l e = w.follows.as_planned i l ∙ ap (planned plan i) e ∙ written i x

  own_exact : (i c : ℕ) (x : Ended V) → Touches c (exact i x) → (c ≡ t + i) ⊎ (c ≡ a + i)
  own_exact i c (Ok None) (inl (inl e)) = inr e
  own_exact i c (Ok None) (inl (inr h)) = elim h [ ]
  own_exact i c (Ok None) (inr h) = elim h [ ]
  own_exact i c (Ok (Some s)) (inl (inl e)) = inr e
  own_exact i c (Ok (Some s)) (inl (inr (inl e))) = inl e
  own_exact i c (Ok (Some s)) (inl (inr (inr (inl e)))) = inr e
  own_exact i c (Ok (Some s)) (inl (inr (inr (inr h)))) = elim h [ ]
  own_exact i c (Ok (Some s)) (inr h) = elim h [ ]
  own_exact i c (Err q) (inl (inl e)) = inr e
  own_exact i c (Err q) (inl (inr h)) = elim h [ ]
  own_exact i c (Err q) (inr h) = elim h [ ]

  no_least_exact : (i c : ℕ) (x : Ended V) → In c (lessened (exact i x)) → ⊥
  no_least_exact i c (Ok None) h = h
  no_least_exact i c (Ok (Some s)) h = h
  no_least_exact i c (Err q) h = h

  own : (i c : ℕ) → i < n → Touches c (does acts m i) → (c ≡ t + i) ⊎ (c ≡ a + i)
  own i c l h = own_exact i c (ended plan i) (subst (λ (es : List Effect). Touches c es) (saves_this i (ended plan i) l refl) h)

  never_least : (i c : ℕ) → i < n → In c (lessened (does acts m i)) → ⊥
  never_least i c l h = no_least_exact i c (ended plan i) (subst (λ (es : List Effect). In c (lessened es)) (saves_this i (ended plan i) l refl) h)

  apart : (i j : ℕ) → i < n → j < n → t + i ≢ a + j
  apart i j hi hj e = away w.temps_apart
    where
      away : (t + n ≤ a) ⊎ (a + n ≤ t) → ⊥
      away (inl h) = omega (arith, h, e, hi, hj)
      away (inr h) = omega (arith, h, e, hi, hj)

  one_owner : (i j c : ℕ) → i < n → j < n → (c ≡ t + i) ⊎ (c ≡ a + i) → (c ≡ t + j) ⊎ (c ≡ a + j) → i ≡ j
  one_owner i j c hi hj (inl x) (inl y) = omega (arith, x, y)
  one_owner i j c hi hj (inr x) (inr y) = omega (arith, x, y)
  one_owner i j c hi hj (inl x) (inr y) = absurd (apart i j hi hj (sym x ∙ y))
  one_owner i j c hi hj (inr x) (inl y) = absurd (apart j i hj hi (sym y ∙ x))

  not_inside : (i c : ℕ) → i < n → (Inside t n c → ⊥) × (Inside a n c → ⊥) → (c ≡ t + i) ⊎ (c ≡ a + i) → ⊥
  not_inside i c l no' (inl e) = no'.0 (inside_at t n i c l e)
  not_inside i c l no' (inr e) = no'.1 (inside_at a n i c l e)

  in_memory : (i c : ℕ) → i < n → (c ≡ t + i) ⊎ (c ≡ a + i) → c < length m
  in_memory i c l (inl e) = let x = w.temps_there.0 in omega (arith, x, e, l)
  in_memory i c l (inr e) = let x = w.temps_there.1 in omega (arith, x, e, l)

  pub saving_alone : Alone count acts m n
  saving_alone = record {
    stores = λ i j c hi hj x y. one_owner i j c hi hj (own i c hi (inl x)) (own j c hj (inl y));
    unread = λ i j c hi hj x y. absurd (not_inside i c hi (w.unread j c hj y) (own i c hi (inl x)));
    leasts = λ i j c hi hj x y. never_least i c hi x;
    not_count = λ i c hi x y. not_inside i c hi (w.not_count c y) (own i c hi x);
    there = λ i c hi x. in_memory i c hi (own i c hi x);
  }

  module _ (l : ℕ) (b : Label) where
    pub saving_free : Free (Loop l b count acts) m
    saving_free = free_loop l b count acts m n w.fitting saving_alone

    module _ (chunk : ℕ) (is : IsChunk chunk) where
      here : (i c : ℕ) (x : Ended V) → i < n → ended plan i ≡ x → (c ≡ t + i) ⊎ (c ≡ a + i) → slice_index (after_phase (Loop l b count acts) m chunk) c ≡ slice_index (lay m (exact i x)) c
      here i c x h e at =
          by_one l b count acts m n chunk is w.fitting i c h (λ j hj g. one_owner j i c hj h (own j c hj g) at)
          ∙ ap (λ (es : List Effect). slice_index (lay m es) c) (saves_this i x h e)

      pub saving_leaves : (r : Result (List (Row V)) Failure) → Bridged V plan.moves (rows_of plan n) r → Saves V value target t a n m (after_phase (Loop l b count acts) m chunk) r
      saving_leaves (Err f) q = tt
      saving_leaves (Ok ts) q = record {
        same_length = same_length l b count acts m n chunk is w.fitting;
        below = λ i s h. (left V plan n ts q i s h).0;
        one_each = λ i s u h g. let x = (left V plan n ts q i s h).1 in let y = (left V plan n ts q i u g).1 in let z : Ok (Some s) ≡ Ok (Some u) = sym x ∙ y in cc;
        value_at = λ i s h.
            let x = left V plan n ts q i s h in let room = w.temps_there.0 in
            let y = x.0 in
            here i (t + i) (Ok (Some s)) x.0 x.1 (inl refl)
            ∙ get_or-set_other (set (set m (a + i) (word (negsuc i))) (t + i) (value i s)) (a + i) (t + i) (word (pos (target i s))) 0 (apart i i x.0 x.0)
            ∙ get_or-set_same (set m (a + i) (word (negsuc i))) (t + i) (value i s) 0 (let e = length-set m (a + i) (word (negsuc i)) in omega (arith, e, room, y));
        target_at = λ i s h.
            let x = left V plan n ts q i s h in let room = w.temps_there.1 in
            let y = x.0 in
            here i (a + i) (Ok (Some s)) x.0 x.1 (inr refl)
            ∙ get_or-set_same (set (set m (a + i) (word (negsuc i))) (t + i) (value i s)) (a + i) (word (pos (target i s))) 0
            (let e = length-set m (a + i) (word (negsuc i)) in let e' = length-set (set m (a + i) (word (negsuc i))) (t + i) (value i s) in omega (arith, e, e', room, y));
        idle_at = λ i h. idle i h (ended plan i) refl;
        others = λ c x y. by_none l b count acts m n chunk is w.fitting c (λ g. not_inside g.0 c g.1 (x, y) (own g.0 c g.1 g.2));
      }
        where
          idle : (i : ℕ) → i < n → (x : Ended V) → ended plan i ≡ x → ((s : List V) × In (i, s) ts) ⊎ (slice_index (after_phase (Loop l b count acts) m chunk) (a + i) ≡ word (negsuc i))
          idle i h (Ok None) e = inr (here i (a + i) (Ok None) h e (inr refl) ∙ get_or-set_same m (a + i) (word (negsuc i)) 0 (let x = w.temps_there.1 in omega (arith, x, h)))
          idle i h (Ok (Some s)) e = inl (s, is_left V plan n ts q i s h e)
          idle i h (Err f) e = absurd (q.none_fails (i, plan.start i) (in_rows V plan.start 0 n i (omega arith) (omega (arith, h))) f.0 f.1 e)

-- ---- `assign from t at a`

module _ (V : Type 0) (value target : ℕ → List V → ℕ) (t a base : ℕ) (ts : List (Row V)) (count : Source) (acts : List Act) (m m' : Cells) (n : ℕ) (few : n ≤ 65536) (sv : Saved V value target t a n ts m m') (w : Assigning V value target t a base ts count acts m' n) where
  kept_does : (i : ℕ) (s : List V) → In (i, s) ts → does acts m' i ≡ Store (base + target i s) (value i s) ∷ []
  kept_does i s h =
      w.does_this i (sv.below i s h)
      ∙ ap (λ (z : ℤ). assigned base (slice_index m' (t + i)) z) (read_back m' (a + i) (pos (target i s)) (pos_fits (target i s) (w.small i s h)) (sv.target_at i s h))
      ∙ ap (λ (v : ℕ). let es : List Effect = Store (base + target i s) v ∷ [] in es) (sv.value_at i s h)

  Shape : ℕ → Type 0
  Shape i = ((s : List V) × In (i, s) ts × (does acts m' i ≡ Store (base + target i s) (value i s) ∷ [])) ⊎ (does acts m' i ≡ [])

  shape : (i : ℕ) → i < n → Shape i
  unfolding Shape
  shape i l = pick (sv.idle_at i l)
    where
      pick : ((s : List V) × In (i, s) ts) ⊎ (slice_index m' (a + i) ≡ word (negsuc i)) → Shape i
      pick (inl h) = inl (h.0, h.1, kept_does i h.0 h.1)
      pick (inr e) = inr (w.does_this i l ∙ ap (λ (z : ℤ). assigned base (slice_index m' (t + i)) z) (read_back m' (a + i) (negsuc i) (negsuc_fits i (omega (arith, l, few))) e))

  at_target : (i c : ℕ) → i < n → Touches c (does acts m' i) → (s : List V) × In (i, s) ts × (c ≡ base + target i s)
  unfolding Shape
  at_target i c l h = pick (shape i l)
    where
      pick : Shape i → (s : List V) × In (i, s) ts × (c ≡ base + target i s)
      pick (inl x) = (x.0, x.1, one (subst (λ (es : List Effect). Touches c es) x.2 h))
        where
          one : Touches c (Store (base + target i x.0) (value i x.0) ∷ []) → c ≡ base + target i x.0
          one (inl (inl e)) = e
          one (inl (inr g)) = elim g [ ]
          one (inr g) = elim g [ ]
      pick (inr x) = absurd (none (subst (λ (es : List Effect). Touches c es) x h))
        where
          none : Touches c [] → ⊥
          none (inl g) = g
          none (inr g) = g

  lays_none : (i c : ℕ) → i < n → In c (lessened (does acts m' i)) → ⊥
  unfolding Shape
  lays_none i c l h = pick (shape i l)
    where
      pick : Shape i → ⊥
      pick (inl x) = subst (λ (es : List Effect). In c (lessened es)) x.2 h
      pick (inr x) = subst (λ (es : List Effect). In c (lessened es)) x h

  fails_none : (i k : ℕ) → i < n → In (Fault k) (does acts m' i) → ⊥
  unfolding Shape
  fails_none i k l h = pick (shape i l)
    where
      pick : Shape i → ⊥
      pick (inl x) = not_fault k (base + target i x.0) (value i x.0) (subst (λ (es : List Effect). In (Fault k) es) x.2 h)
      pick (inr x) = subst (λ (es : List Effect). In (Fault k) es) x h

  pub assigning_alone : Alone count acts m' n
  assigning_alone = record {
    stores = λ i j c hi hj x y.
        let p = at_target i c hi (inl x) in let q = at_target j c hj (inl y) in
        let e = p.2 in let f = q.2 in
        w.apart i j p.0 q.0 p.1 q.1 (omega (arith, e, f));
    unread = λ i j c hi hj x y.
        let p = at_target i c hi (inl x) in absurd (apart_from i j c hj p.0 p.1 p.2 (w.reads_own j c hj y));
    leasts = λ i j c hi hj x y. lays_none i c hi x;
    not_count = λ i c hi x y. let p = at_target i c hi x in w.not_count i p.0 p.1 (subst (λ (z : ℕ). In z (source_cells count)) p.2 y);
    there = λ i c hi x. let p = at_target i c hi x in subst (λ (z : ℕ). z < length m') (sym p.2) (w.there i p.0 p.1);
  }
    where
      apart_from : (i j c : ℕ) → j < n → (s : List V) → In (i, s) ts → c ≡ base + target i s → (c ≡ t + j) ⊎ ((c ≡ a + j) ⊎ ((k : ℕ) (u : List V) → In (k, u) ts → c ≡ base + target k u → ⊥)) → ⊥
      apart_from i j c hj s h e (inl f) = (w.not_temps i s h).0 (subst (λ (z : ℕ). Inside t n z) e (inside_at t n j c hj f))
      apart_from i j c hj s h e (inr (inl f)) = (w.not_temps i s h).1 (subst (λ (z : ℕ). Inside a n z) e (inside_at a n j c hj f))
      apart_from i j c hj s h e (inr (inr f)) = f i s h e

  module _ (l : ℕ) (b : Label) where
    pub assigning_free : Free (Loop l b count acts) m'
    assigning_free = free_loop l b count acts m' n w.fitting assigning_alone

    pub assigning_key : (chunk : ℕ) → IsChunk chunk → key (Loop l b count acts) m' chunk ≡ none_yet
    assigning_key chunk is = keyless l b count acts m' n chunk is w.fitting fails_none

    pub assigning_leaves : (chunk : ℕ) → IsChunk chunk → Assigned V value target t a base n ts m (after_phase (Loop l b count acts) m' chunk)
    assigning_leaves chunk is = record {
      same_length = same_length l b count acts m' n chunk is w.fitting ∙ sv.same_length;
      given = λ i s h.
          by_one l b count acts m' n chunk is w.fitting i (base + target i s) (sv.below i s h) (λ j hj g. let p = at_target j (base + target i s) hj g in let e = p.2 in w.apart j i p.0 s p.1 h (omega (arith, e)))
          ∙ ap (λ (es : List Effect). slice_index (lay m' es) (base + target i s)) (kept_does i s h)
          ∙ get_or-set_same m' (base + target i s) (value i s) 0 (w.there i s h);
      others = λ c x y never. by_none l b count acts m' n chunk is w.fitting c (λ g. let p = at_target g.0 c g.1 g.2 in never g.0 p.0 p.1 p.2) ∙ sv.others c x y;
    }
