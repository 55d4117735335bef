-- A saved mask under a control.
use Rattle.std.proofs.Common.{◌≡◌, ◌⊎◌, inl, inr, ℕ, zero, suc, ◌+◌, ◌<◌, Bool, true, false, List, [], ◌∷◌, ◌++◌, length, length-set, set, slice_index, get_or-set_same, sym, refl, ap, ◌∙◌, subst, arith, Some, None, Result, Ok, Err, ℤ, negsuc}
use Rattle.std.specs.Prelude.{◌↔◌}
use Rattle.ws_base.specs.Numbers.{truth, is_true, int_eq}
use Rattle.phase_ops.specs.declared.effect.Effect.{Effect}
use Rattle.phase_ops.specs.declared.effect.Effect.TheVariants.{Store, Fault}
use Rattle.phase_ops.specs.declared.phase.Source.{Source}
use Rattle.phase_ops.specs.declared.phase.Act.{Act}
use Rattle.phase_ops.specs.declared.phase.Label.{Label}
use Rattle.phase_ops.specs.declared.phase.Phase.TheVariants.{Loop}
use Rattle.phase_ops.specs.Phases.{Cells, lay, cell_value, word, after_phase, key_of}
use Rattle.phase_ops.specs.Free.{In, stored, lessened, Free, IsChunk}
use Rattle.loop_laws.specs.Moves.{Row, Failure, Ended}
use Rattle.loop_laws.specs.Loops.{Plan, ended, planned, rows_of, does, Alone}
use Rattle.loop_laws.specs.Laws.{Bridged}
use Rattle.mask_laws.specs.Controls.{ControlSaving, ControlSaved, SavesControl}
use Rattle.loop_laws.proofs.Units.{free_loop}
use Rattle.loop_laws.proofs.Touched.{same_length, by_one, by_none, inside_at}
use Rattle.loop_laws.proofs.Keyed.{in_rows}
use Rattle.loop_laws.proofs.Direct.{left, is_left}
use Rattle.loop_laws.proofs.Words.{read_back, negsuc_fits}
use Rattle.mask_laws.proofs.Masks.{truth_back}

module _ (V : Type 0) (plan : Plan V) (test : List V → Bool) (t : ℕ) (count : Source) (acts : List Act) (m : Cells) (n : ℕ) (w : ControlSaving V plan test t count acts m n) where
  -- what a position does after its first store
  abbrev more : ℕ → Ended V → List Effect
  more i (Ok (Some s)) = Store (t + i) (word (truth (test s))) ∷ []
  more i (Ok None) = []
  more i (Err e) = Fault (key_of (plan.act e.0) (plan.op e.0) (suc i) e.1) ∷ []

  planned_is : (i : ℕ) (x : Ended V) → planned plan i x ≡ Store (t + i) (word (negsuc i)) ∷ more i x
  planned_is i (Ok (Some s)) = λ j. w.first_is i j ++ w.last_is i s j
  planned_is i (Ok None) = w.first_is i
  planned_is i (Err e) = ap (λ (es : List Effect). es ++ Fault (key_of (plan.act e.0) (plan.op e.0) (suc i) e.1) ∷ []) (w.first_is i)

  does_this : (i : ℕ) → i < n → (x : Ended V) → ended plan i ≡ x → does acts m i ≡ Store (t + i) (word (negsuc i)) ∷ more i x
  does_this i l x e = w.follows.as_planned i l ∙ ap (planned plan i) e ∙ planned_is i x

  its_store : (i c : ℕ) (x : Ended V) → In c (stored (Store (t + i) (word (negsuc i)) ∷ more i x)) → c ≡ t + i
  its_store i c x (inl e) = e
  its_store i c (Ok (Some s)) (inr (inl e)) = e
  its_store i c (Ok (Some s)) (inr (inr h)) = elim h [ ]
  its_store i c (Ok None) (inr h) = elim h [ ]
  its_store i c (Err e) (inr h) = elim h [ ]

  its_least : (i c : ℕ) (x : Ended V) → In c (lessened (Store (t + i) (word (negsuc i)) ∷ more i x)) → ⊥
  its_least i c (Ok (Some s)) h = h
  its_least i c (Ok None) h = h
  its_least i c (Err e) h = h

  touches : (i c : ℕ) → i < n → In c (stored (does acts m i)) ⊎ In c (lessened (does acts m i)) → c ≡ t + i
  touches i c l (inl h) = its_store i c (ended plan i) (subst (λ (es : List Effect). In c (stored es)) (does_this i l (ended plan i) refl) h)
  touches i c l (inr h) = absurd (its_least i c (ended plan i) (subst (λ (es : List Effect). In c (lessened es)) (does_this i l (ended plan i) refl) h))

  control_alone : Alone count acts m n
  control_alone = record {
    stores = λ i j c hi hj x y. let a = touches i c hi (inl x) in let b = touches j c hj (inl y) in omega (arith, a, b);
    unread = λ i j c hi hj x y. absurd (w.unread j c hj y (inside_at t n i c hi (touches i c hi (inl x))));
    leasts = λ i j c hi hj x y. its_least i c (ended plan i) (subst (λ (es : List Effect). In c (lessened es)) (does_this i hi (ended plan i) refl) x);
    not_count = λ i c hi x y. w.not_count c y (inside_at t n i c hi (touches i c hi x));
    there = λ i c hi x. let e = touches i c hi x in let a = w.temp_there in omega (arith, e, a, hi);
  }

  module _ (l : ℕ) (b : Label) where
    pub control_free : Free (Loop l b count acts) m
    control_free = free_loop l b count acts m n w.fitting control_alone

    module _ (chunk : ℕ) (is : IsChunk chunk) where
      abbrev x : Cells
      x = after_phase (Loop l b count acts) m chunk

      cell_is : (i : ℕ) → i < n → (y : Ended V) → ended plan i ≡ y → slice_index x (t + i) ≡ slice_index (lay (set m (t + i) (word (negsuc i))) (more i y)) (t + i)
      cell_is i h y e =
          by_one l b count acts m n chunk is w.fitting i (t + i) h (λ j hj g. let q = touches j (t + i) hj g in omega (arith, q))
          ∙ ap (λ (es : List Effect). slice_index (lay m es) (t + i)) (does_this i h y e)

      low : (i : ℕ) → i < n → t + i < length m
      low i h = let a = w.temp_there in omega (arith, a, h)

      idle : (i : ℕ) → i < n → ended plan i ≡ Ok None → cell_value x (t + i) ≡ negsuc i
      idle i h e = read_back x (t + i) (negsuc i) (negsuc_fits i (let f = w.fitting.small in omega (arith, h, f))) (cell_is i h (Ok None) e ∙ get_or-set_same m (t + i) (word (negsuc i)) 0 (low i h))

      active : (i : ℕ) (s : List V) → i < n → ended plan i ≡ Ok (Some s) → cell_value x (t + i) ≡ truth (test s)
      active i s h e = truth_back x (t + i) (test s) (cell_is i h (Ok (Some s)) e ∙ get_or-set_same (set m (t + i) (word (negsuc i))) (t + i) (word (truth (test s))) 0 (let a = low i h in let z = length-set m (t + i) (word (negsuc i)) in omega (arith, a, z)))

      pub control_leaves : (r : Result (List (Row V)) Failure) → Bridged V plan.moves (rows_of plan n) r → SavesControl V test t n m x r
      control_leaves (Err f) q = tt
      control_leaves (Ok ts) q = record {
        same_length = same_length l b count acts m n chunk is w.fitting;
        mask_at = λ i s h. let a = left V plan n ts q i s h in active i s a.0 a.1;
        idle_at = λ i h. either i h (ended plan i) refl;
        others = λ c out. by_none l b count acts m n chunk is w.fitting c (λ y. out (inside_at t n y.0 c y.1 (touches y.0 c y.1 y.2)));
      }
        where
          either : (i : ℕ) → i < n → (y : Ended V) → ended plan i ≡ y → ((s : List V) × In (i, s) ts) ⊎ (cell_value x (t + i) ≡ negsuc i)
          either i h (Ok (Some s)) e = inl (s, is_left V plan n ts q i s h e)
          either i h (Ok None) e = inr (idle i h e)
          either i h (Err f) e = absurd (q.none_fails (i, plan.start i) (in_rows V plan.start 0 n i (omega arith) (omega (arith, h))) f.0 f.1 e)

-- ---- gates

same_truth : (a b : Bool) → is_true (truth (int_eq (truth a) (truth b))) ≡ true → a ≡ b
same_truth true true e = refl
same_truth false false e = refl
same_truth true false e = absurd (let x : zero ≡ suc zero = cc in omega (arith, x))
same_truth false true e = absurd (let x : zero ≡ suc zero = cc in omega (arith, x))

truth_same : (a : Bool) → is_true (truth (int_eq (truth a) (truth a))) ≡ true
truth_same true = refl
truth_same false = refl

never_idle : (i : ℕ) (b : Bool) → is_true (truth (int_eq (negsuc i) (truth b))) ≡ true → ⊥
never_idle i true e = let x : zero ≡ suc zero = cc in omega (arith, x)
never_idle i false e = let x : zero ≡ suc zero = cc in omega (arith, x)

pub control_gates : (m x : Cells) (n t : ℕ) (test : List ℤ → Bool) (ts : List (Row ℤ)) → ControlSaved ℤ test t n ts m x → (i : ℕ) → i < n → (want : Bool)
    → (is_true (truth (int_eq (cell_value x (t + i)) (truth want))) ≡ true) ↔ ((s : List ℤ) × In (i, s) ts × (test s ≡ want))
control_gates m x n t test ts w i l want = (there (w.idle_at i l), back)
  where
    there : ((s : List ℤ) × In (i, s) ts) ⊎ (cell_value x (t + i) ≡ negsuc i) → is_true (truth (int_eq (cell_value x (t + i)) (truth want))) ≡ true → (s : List ℤ) × In (i, s) ts × (test s ≡ want)
    there (inl y) e = (y.0, y.1, same_truth (test y.0) want (ap (λ (z : ℤ). is_true (truth (int_eq z (truth want)))) (sym (w.mask_at i y.0 y.1)) ∙ e))
    there (inr y) e = absurd (never_idle i want (ap (λ (z : ℤ). is_true (truth (int_eq z (truth want)))) (sym y) ∙ e))

    back : (s : List ℤ) × In (i, s) ts × (test s ≡ want) → is_true (truth (int_eq (cell_value x (t + i)) (truth want))) ≡ true
    back y = ap (λ (z : ℤ). is_true (truth (int_eq z (truth want)))) (w.mask_at i y.0 y.1 ∙ ap truth y.2) ∙ truth_same want
