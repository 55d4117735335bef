-- Saved values, and the loop that assigns them.
use Rattle.std.proofs.Common.{◌≡◌, inl, inr, ℕ, ◌+◌, ◌<◌, List, [], ◌∷◌, length, slice_index, get_or-set_same, sym, refl, ap, ◌∙◌, subst, arith, Result, Ok, Err}
use Rattle.phase_ops.specs.declared.effect.Effect.{Effect}
use Rattle.phase_ops.specs.declared.effect.Effect.TheVariants.{Store, Fault}
use Rattle.phase_ops.specs.declared.phase.Source.{Source}
use Rattle.phase_ops.specs.declared.phase.Act.{Act}
use Rattle.phase_ops.specs.declared.phase.Label.{Label}
use Rattle.phase_ops.specs.declared.phase.Phase.TheVariants.{Loop}
use Rattle.phase_ops.specs.Phases.{Cells, lay, after_phase, key, none_yet, source_cells, later, result, Failed}
use Rattle.phase_ops.specs.Free.{In, lessened, Free, FreeFrom, IsChunk}
use Rattle.loop_laws.specs.Moves.{Row, Failure}
use Rattle.loop_laws.specs.Loops.{Plan, rows_of, does, looks_at, Alone, Keyed, Inside}
use Rattle.loop_laws.specs.Laws.{Direct, Leaves, Bridged}
use Rattle.save_laws.specs.Pairs.{Lap, loop}
use Rattle.loop_laws.proofs.Units.{free_loop}
use Rattle.loop_laws.proofs.Touched.{same_length, by_one, by_none, Touches}
use Rattle.loop_laws.proofs.Keyed.{failure_within, not_fault, keyless}
use Rattle.loop_laws.proofs.Direct.{left, direct_free}
use Rattle.save_laws.specs.Values.{ValueSaving, SavedValues, SavesValues, ValueAssigning, AssignedValues, ValuePairEnds}
use Rattle.list_laws.proofs.Lists.{result_more, result_fails}

module _ (V : Type 0) (plan : Plan V) (value : ℕ → List V → ℕ) (t : ℕ) (count : Source) (acts : List Act) (m : Cells) (n : ℕ) (w : ValueSaving V plan value t count acts m n) where
  cell_in : (i : ℕ) → i < n → Inside t n (t + i)
  cell_in i h = (omega arith, omega (arith, h))

  pub saving_direct : Direct V plan (λ i s. t + i) value count acts m n
  saving_direct = record {
    follows = w.follows;
    fitting = w.fitting;
    first_is = w.first_is;
    last_is = w.last_is;
    apart = λ i j s u hi hj e f g. omega (arith, g);
    unread = λ i j s hi hj e h. absurd (w.unread j (t + i) hj h (cell_in i hi));
    not_count = λ i s hi e h. w.not_count (t + i) h (cell_in i hi);
    there = λ i s hi e. let a = w.temp_there in omega (arith, hi, a);
  }

  pub saved_values : (x : Cells) (r : Result (List (Row V)) Failure) → Bridged V plan.moves (rows_of plan n) r → Leaves V (λ i s. t + i) value m x r → SavesValues V value t n m x r
  saved_values x (Ok ts) b d = record {
    same_length = d.same_length;
    value_at = d.given;
    others = λ c out. d.others c (λ i s h e. out (subst (Inside t n) (sym e) (cell_in i (left V plan n ts b i s h).0)));
  }
  saved_values x (Err f) b d = tt

module _ (V : Type 0) (target value : ℕ → List V → ℕ) (t : ℕ) (ts : List (Row V)) (count : Source) (acts : List Act) (m m' : Cells) (n : ℕ) (sv : SavedValues V value t n ts m m') (w : ValueAssigning V target t ts count acts m' n) where
  one : (c d v : ℕ) → Touches c (Store d v ∷ []) → c ≡ d
  one c d v (inl (inl e)) = e
  one c d v (inl (inr h)) = elim h [ ]
  one c d v (inr h) = elim h [ ]

  none : (c : ℕ) → Touches c [] → ⊥
  none c (inl h) = h
  none c (inr h) = h

  -- a cell that a position touches is its target
  touches : (i c : ℕ) → i < n → Touches c (does acts m' i) → (s : List V) × In (i, s) ts × (c ≡ target i s)
  touches i c l h = elim (w.does_this i l) [
    | inl y ↦ (y.0, y.1, one c (target i y.0) (slice_index m' (t + i)) (subst (λ (es : List Effect). Touches c es) y.2 h))
    | inr y ↦ absurd (none c (subst (λ (es : List Effect). Touches c es) y.1 h))
  ]

  no_least : (i c : ℕ) → i < n → In c (lessened (does acts m' i)) → ⊥
  no_least i c l h = elim (w.does_this i l) [
    | inl y ↦ (let z : In c (lessened (Store (target i y.0) (slice_index m' (t + i)) ∷ [])) = subst (λ (es : List Effect). In c (lessened es)) y.2 h in elim z [ ])
    | inr y ↦ (let z : In c (lessened []) = subst (λ (es : List Effect). In c (lessened es)) y.1 h in elim z [ ])
  ]

  calm : (i k : ℕ) → i < n → In (Fault k) (does acts m' i) → ⊥
  calm i k l h = elim (w.does_this i l) [
    | inl y ↦ not_fault k (target i y.0) (slice_index m' (t + i)) (subst (λ (es : List Effect). In (Fault k) es) y.2 h)
    | inr y ↦ (let z : In (Fault k) [] = subst (λ (es : List Effect). In (Fault k) es) y.1 h in elim z [ ])
  ]

  stores_this : (i : ℕ) (s : List V) → In (i, s) ts → does acts m' i ≡ Store (target i s) (value i s) ∷ []
  stores_this i s h = elim (w.does_this i (w.rows_below i s h)) [
    | inl y ↦ y.2 ∙ (λ j. Store (target i (w.one_each i y.0 s y.1 h j)) (sv.value_at i s h j) ∷ [])
    | inr y ↦ absurd (y.0 s h)
  ]

  assigning_alone : Alone count acts m' n
  assigning_alone = record {
    stores = λ i j c hi hj x y. let a = touches i c hi (inl x) in let b = touches j c hj (inl y) in w.apart i j a.0 b.0 a.1 b.1 (sym a.2 ∙ b.2);
    unread = λ i j c hi hj x y. let a = touches i c hi (inl x) in w.unread i j a.0 a.1 hj (subst (λ (z : ℕ). In z (looks_at acts m' j)) a.2 y);
    leasts = λ i j c hi hj x y. no_least i c hi x;
    not_count = λ i c hi x y. let a = touches i c hi x in w.not_count i a.0 a.1 (subst (λ (z : ℕ). In z (source_cells count)) a.2 y);
    there = λ i c hi x. let a = touches i c hi x in subst (λ (z : ℕ). z < length m') (sym a.2) (w.there i a.0 a.1);
  }

  module _ (l : ℕ) (b : Label) where
    pub values_free : Free (Loop l b count acts) m'
    values_free = free_loop l b count acts m' n w.fitting assigning_alone

    pub values_key : (chunk : ℕ) → IsChunk chunk → key (Loop l b count acts) m' chunk ≡ none_yet
    values_key chunk is = keyless l b count acts m' n chunk is w.fitting calm

    pub values_leave : (chunk : ℕ) → IsChunk chunk → AssignedValues V target value t n ts m (after_phase (Loop l b count acts) m' chunk)
    values_leave chunk is = record {
      same_length = same_length l b count acts m' n chunk is w.fitting ∙ sv.same_length;
      given = λ i s h.
          by_one l b count acts m' n chunk is w.fitting i (target i s) (w.rows_below i s h) (λ j hj g. let a = touches j (target i s) hj g in sym (w.apart i j s a.0 h a.1 a.2))
          ∙ ap (λ (es : List Effect). slice_index (lay m' es) (target i s)) (stores_this i s h)
          ∙ get_or-set_same m' (target i s) (value i s) 0 (w.there i s h);
      others = λ c out never. by_none l b count acts m' n chunk is w.fitting c (λ q. let a = touches q.0 c q.1 q.2 in never q.0 a.0 a.1 a.2) ∙ sv.others c out;
    }

module _ (V : Type 0) (p q : Lap) (m : Cells) (n : ℕ) (plan : Plan V) (target value : ℕ → List V → ℕ) (t : ℕ) (w : ValueSaving V plan value t p.count p.acts m n) (chunk : ℕ) (is : IsChunk chunk) where
  abbrev x : Cells
  x = after_phase (loop p) m chunk

  first_free : Free (loop p) m
  first_free = direct_free V plan (λ i s. t + i) value p.count p.acts m n (saving_direct V plan value t p.count p.acts m n w) p.line p.label

  pub value_pair : (r : Result (List (Row V)) Failure) → ((ts : List (Row V)) (m' : Cells) → r ≡ Ok ts → SavedValues V value t n ts m m' → ValueAssigning V target t ts q.count q.acts m' n)
      → Keyed plan (key (loop p) m chunk) r → Bridged V plan.moves (rows_of plan n) r → SavesValues V value t n m x r
      → FreeFrom chunk (loop p ∷ loop q ∷ []) m × ValuePairEnds V plan target value t n m r (result (loop p ∷ loop q ∷ []) m chunk)
  value_pair (Ok ts) g k b s =
      let a = g ts x refl s in (
        (first_free, λ e. (values_free V target value t ts q.count q.acts m x n s a q.line q.label, λ e'. tt)),
        (
          after_phase (loop q) x chunk,
          result_more chunk (loop p) (loop q ∷ []) m k ∙ ap later (result_more chunk (loop q) [] x (values_key V target value t ts q.count q.acts m x n s a q.line q.label chunk is)),
          values_leave V target value t ts q.count q.acts m x n s a q.line q.label chunk is,
        ),
      )
  value_pair (Err f) g k b s =
      let low = failure_within V plan p.acts m n w.fitting.small w.follows f b in (
        (first_free, λ e. absurd (omega (arith, low, k, e))),
        result_fails chunk (loop p) (loop q ∷ []) m (omega (arith, low, k)) ∙ ap (Failed 0) k,
      )
