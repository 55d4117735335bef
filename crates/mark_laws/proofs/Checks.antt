-- Save, clear, mark, check, assign.
use Rattle.std.proofs.Common.{◌≡◌, ◌⊎◌, inl, inr, ℕ, zero, suc, ◌+◌, ◌<◌, ◌≤◌, List, [], ◌∷◌, sym, refl, ap, ◌∙◌, subst, arith, slice_index, Option, Some, None, Result, Ok, Err, negsuc}
use mathlib.Core.Logic.{dite}
use native.Mathlib.Decide.{dec_le}
use Rattle.ws_base.specs.declared.fault.FaultName.TheVariants.{ManyOne}
use Rattle.phase_ops.specs.Phases.{Cells, word, key, key_of, none_yet, after_phase, Outcome, Finished, Failed, result}
use Rattle.phase_ops.specs.Free.{In, Free, FreeFrom, IsChunk}
use Rattle.loop_laws.specs.Moves.{Row, Failure, Ended}
use Rattle.loop_laws.specs.Loops.{Plan, ended, rows_of, Keyed, Inside}
use Rattle.loop_laws.specs.Laws.{AllMoved, Bridged}
use Rattle.save_laws.specs.Saves.{Saving, Saved, Saves}
use Rattle.mark_laws.specs.Marks.{SameBut, Marked, Checking, Repeats, Checked}
use Rattle.list_laws.specs.Lists.{Good, Leads, LeadsOne, either_fails, Never, NeverAt}
use Rattle.save_laws.specs.Pairs.{Lap, loop}
use Rattle.mark_laws.specs.Checks.{place_at, places_of, Kept, Behind, five, Done, FirstRepeat, FiveEnd}
use Rattle.loop_laws.proofs.Keyed.{key_in_range}
use Rattle.loop_laws.proofs.Direct.{left, is_left}
use Rattle.save_laws.proofs.Saves.{assigning_free, assigning_key, assigning_leaves, saving_free}
use Rattle.mark_laws.proofs.Marks.{clearing_free, clearing_key, clearing_leaves, marking_free, marking_key, marking_leaves, checking_free, checking_key, checking_leaves}
use Rattle.list_laws.proofs.Lists.{one_more, nothing_more, only_first}
use Rattle.save_laws.proofs.Pairs.{fails}

module _ (V : Type 0) (value target : ℕ → List V → ℕ) (t a n marks z : ℕ) (ts : List (Row V)) where
  -- what was saved stands where only other cells change
  saved_on : (m x : Cells) → Saved V value target t a n ts m x → ((t + n ≤ marks) ⊎ (marks + z ≤ t)) × ((a + n ≤ marks) ⊎ (marks + z ≤ a)) → (y : Cells) → SameBut marks z x y → Saved V value target t a n ts y y
  saved_on m x s apart y b = record {
    same_length = refl;
    below = s.below;
    one_each = s.one_each;
    value_at = λ i u h. b.others (t + i) (outside t apart.0 i (s.below i u h)) ∙ s.value_at i u h;
    target_at = λ i u h. b.others (a + i) (outside a apart.1 i (s.below i u h)) ∙ s.target_at i u h;
    idle_at = λ i h. idle i h (s.idle_at i h);
    others = λ c p q. refl;
  }
    where
      outside : (from : ℕ) → (from + n ≤ marks) ⊎ (marks + z ≤ from) → (i : ℕ) → i < n → Inside marks z (from + i) → ⊥
      outside from (inl l) i h g = let u = g.0 in omega (arith, l, h, u)
      outside from (inr l) i h g = let u = g.1 in omega (arith, l, h, u)

      idle : (i : ℕ) → i < n → ((u : List V) × In (i, u) ts) ⊎ (slice_index x (a + i) ≡ word (negsuc i)) → ((u : List V) × In (i, u) ts) ⊎ (slice_index y (a + i) ≡ word (negsuc i))
      idle i h (inl g) = inl g
      idle i h (inr g) = inr (b.others (a + i) (outside a apart.1 i h) ∙ g)

  kept_on : (m x : Cells) → Kept V value target t a n marks z ts m x → ((t + n ≤ marks) ⊎ (marks + z ≤ t)) × ((a + n ≤ marks) ⊎ (marks + z ≤ a)) → (y : Cells) → SameBut marks z x y → Kept V value target t a n marks z ts m y
  kept_on m x k apart y b = record {
    saved = saved_on x x k.saved apart y b;
    same_length = b.same_length ∙ k.same_length;
    others = λ c p q r. b.others c r ∙ k.others c p q r;
  }

  kept_first : (m x : Cells) → Saved V value target t a n ts m x → ((t + n ≤ marks) ⊎ (marks + z ≤ t)) × ((a + n ≤ marks) ⊎ (marks + z ≤ a)) → Kept V value target t a n marks z ts m x
  kept_first m x s apart = record {
    saved = saved_on m x s apart x (record { same_length = refl; others = λ c p. refl });
    same_length = s.same_length;
    others = λ c p q r. s.others c p q;
  }

module _ (V : Type 0) (p c k h q : Lap) (m : Cells) (n marks z base from act op : ℕ) (plan : Plan V) (value target : ℕ → List V → ℕ) (t a : ℕ) (w : Saving V plan value target t a p.count p.acts m n) (chunk : ℕ) (is : IsChunk chunk) (ts : List (Row V)) (moved_all : AllMoved V plan.moves (rows_of plan n) ts) (small : (i : ℕ) (s : List V) → In (i, s) ts → target i s < z) (g : Behind V plan value target t a n marks z base from act op ts m c k h q) where
  abbrev Holds : Cells → Type 0
  Holds = Kept V value target t a n marks z ts m

  abbrev places : ℕ → Option ℕ
  places = places_of plan target

  abbrev Clear : Cells → Type 0
  Clear x = Holds x × ((j : ℕ) → j < z → slice_index x (marks + j) ≡ none_yet)

  abbrev Mark : Cells → Type 0
  Mark x = Holds x × ((y : Cells) × Marked marks z from n places y x)

  abbrev NoRepeat : Type 0
  NoRepeat = (i : ℕ) → i < n → Repeats places i → ⊥

  abbrev Fine : Cells → Type 0
  Fine x = Holds x × NoRepeat

  abbrev End : Cells → Type 0
  End x = NoRepeat × Done V value target t a n marks z base ts m x

  abbrev Twice : ℕ → Type 0
  Twice key = (i : ℕ) × FirstRepeat places n i × (key ≡ key_of act op (suc i) ManyOne)

  -- a position with a place is one of the rows
  place_in : (i j : ℕ) → i < n → places i ≡ Some j → j < z
  place_in i j l e = by (ended plan i) refl e
    where
      by : (x : Ended V) → ended plan i ≡ x → place_at target i x ≡ Some j → j < z
      by (Ok (Some s)) f e' = let y : target i s ≡ j = cc in let b = small i s (is_left V plan n ts moved_all i s l f) in omega (arith, y, b)
      by (Ok None) f e' = absurd (let y : zero ≡ suc zero = cc in omega (arith, y))
      by (Err r) f e' = absurd (let y : zero ≡ suc zero = cc in omega (arith, y))

  at_row : (i : ℕ) (s : List V) → In (i, s) ts → (i < n) × (places i ≡ Some (target i s))
  at_row i s j = let x = left V plan n ts moved_all i s j in (x.0, ap (place_at target i) x.1)

  differ : NoRepeat → (i j : ℕ) (s u : List V) → In (i, s) ts → In (j, u) ts → target i s ≡ target j u → i ≡ j
  differ none i j s u x y e =
      let f = at_row i s x in let f' = at_row j u y in
      dite (dec_le (suc i) j) (λ l. absurd (none j f'.0 (target i s, i, l, f.1, f'.1 ∙ ap (λ (o : ℕ). let r : Option ℕ = Some o in r) (sym e))))
      (λ m₁. dite (dec_le (suc j) i) (λ l. absurd (none i f.0 (target j u, j, l, f'.1, f.1 ∙ ap (λ (o : ℕ). let r : Option ℕ = Some o in r) e))) (λ m₂. omega (arith, m₁, m₂)))

  first_one : (saved : Saved V value target t a n ts m (after_phase (loop p) m chunk)) → key (loop p) m chunk ≡ none_yet → LeadsOne chunk (loop p) (λ x. x ≡ m) Holds Never
  first_one saved none = λ x e. (
    subst (λ (y : Cells). Free (loop p) y) (sym e) (saving_free V plan value target t a p.count p.acts m n w p.line p.label),
    inl (ap (λ (y : Cells). key (loop p) y chunk) e ∙ none, subst (λ (y : Cells). Holds (after_phase (loop p) y chunk)) (sym e) (kept_first V value target t a n marks z ts m (after_phase (loop p) m chunk) saved g.apart)),
  )

  second_one : LeadsOne chunk (loop c) Holds Clear Never
  second_one = λ x e. let b = g.clears x e in let l = clearing_leaves c.line c.label c.count c.acts x z marks b chunk is in (
    clearing_free c.line c.label c.count c.acts x z marks b,
    inl (clearing_key c.line c.label c.count c.acts x z marks b chunk is, (kept_on V value target t a n marks z ts m x e g.apart (after_phase (loop c) x chunk) l.same, l.clear)),
  )

  third_one : LeadsOne chunk (loop k) Clear Mark Never
  third_one = λ x e. let b = g.marks_them x e.0 e.1 in let l = marking_leaves k.line k.label k.count k.acts x n marks z from places b chunk is in (
    marking_free k.line k.label k.count k.acts x n marks z from places b,
    inl (marking_key k.line k.label k.count k.acts x n marks z from places b chunk is, (kept_on V value target t a n marks z ts m x e.0 g.apart (after_phase (loop k) x chunk) l.same, (x, l))),
  )

  fourth_one : LeadsOne chunk (loop h) Mark Fine Twice
  fourth_one = λ x e. let b = g.checks e.1.0 x e.0 e.1.1 in (
    checking_free h.line h.label h.count h.acts e.1.0 x n marks z from act op places e.1.1 place_in b,
    pick x e.0 b (checking_leaves h.line h.label h.count h.acts e.1.0 x n marks z from act op places e.1.1 place_in b chunk is) (checking_key h.line h.label h.count h.acts e.1.0 x n marks z from act op places e.1.1 place_in b chunk is),
  )
    where
      pick : (x : Cells) → Holds x → Checking marks from act op places h.count h.acts x n → after_phase (loop h) x chunk ≡ x → Checked act op n places (key (loop h) x chunk) → ((key (loop h) x chunk ≡ none_yet) × Fine (after_phase (loop h) x chunk)) ⊎ ((key (loop h) x chunk < none_yet) × Twice (key (loop h) x chunk))
      pick x e b same (inl f) = inl (f.0, (subst Holds (sym same) e, f.1))
      pick x e b same (inr f) =
          let l = f.1 in let few = b.fitting.small in
          let small' = key_in_range act op (suc f.0) ManyOne b.spot.0 b.spot.1 (omega (arith, l, few)) in
          inr (subst (λ (y : ℕ). y < none_yet) (sym f.4) small', (f.0, record { there = f.1; repeats = f.2; first = f.3 }, f.4))

  last_one : LeadsOne chunk (loop q) Fine End Never
  last_one = λ x e. let b = g.assigns x e.0 (differ e.1) in let few = w.fitting.small in let l = assigning_leaves V value target t a base ts q.count q.acts x x n few e.0.saved b q.line q.label chunk is in (
    assigning_free V value target t a base ts q.count q.acts x x n few e.0.saved b q.line q.label,
    inl (
      assigning_key V value target t a base ts q.count q.acts x x n few e.0.saved b q.line q.label chunk is,
      (e.1, record { same_length = l.same_length ∙ e.0.same_length; given = l.given; others = λ d u v o never. l.others d u v never ∙ e.0.others d u v o }),
    ),
  )

  abbrev F5 : ℕ → ℕ → Type 0
  F5 = either_fails Never NeverAt

  abbrev F4 : ℕ → ℕ → Type 0
  F4 = either_fails Twice F5

  abbrev F3 : ℕ → ℕ → Type 0
  F3 = either_fails Never F4

  abbrev F2 : ℕ → ℕ → Type 0
  F2 = either_fails Never F3

  abbrev F1 : ℕ → ℕ → Type 0
  F1 = either_fails Never F2

  from_fifth : Leads chunk (loop q ∷ []) Fine End F5
  from_fifth = one_more chunk Fine End End Never NeverAt (loop q) [] last_one (nothing_more chunk End NeverAt)

  from_fourth : Leads chunk (loop h ∷ loop q ∷ []) Mark End F4
  from_fourth = one_more chunk Mark Fine End Twice F5 (loop h) (loop q ∷ []) fourth_one from_fifth

  from_third : Leads chunk (loop k ∷ loop h ∷ loop q ∷ []) Clear End F3
  from_third = one_more chunk Clear Mark End Never F4 (loop k) (loop h ∷ loop q ∷ []) third_one from_fourth

  from_second : Leads chunk (loop c ∷ loop k ∷ loop h ∷ loop q ∷ []) Holds End F2
  from_second = one_more chunk Holds Clear End Never F3 (loop c) (loop k ∷ loop h ∷ loop q ∷ []) second_one from_third

  ends : (r : Outcome) → Good End F1 r → FiveEnd V plan value target t a n marks z base act op m (Ok ts) r
  ends (Finished x) e = inl (x, refl, e)
  ends (Failed zero j) e = absurd e
  ends (Failed (suc zero) j) e = absurd e
  ends (Failed (suc (suc zero)) j) e = absurd e
  ends (Failed (suc (suc (suc zero))) j) e = inr (e.0, e.1, ap (λ (y : ℕ). Failed 3 y) e.2)
  ends (Failed (suc (suc (suc (suc zero)))) j) e = absurd e
  ends (Failed (suc (suc (suc (suc (suc i))))) j) e = absurd e

  pub all_five : Saved V value target t a n ts m (after_phase (loop p) m chunk) → key (loop p) m chunk ≡ none_yet → FreeFrom chunk (five p c k h q) m × FiveEnd V plan value target t a n marks z base act op m (Ok ts) (result (five p c k h q) m chunk)
  all_five saved none =
      let x = one_more chunk (λ y. y ≡ m) Holds End Never F2 (loop p) (loop c ∷ loop k ∷ loop h ∷ loop q ∷ []) (first_one saved none) from_second m refl in
      (x.0, ends (result (five p c k h q) m chunk) x.1)

module _ (V : Type 0) (p c k h q : Lap) (m : Cells) (n marks z base from act op : ℕ) (plan : Plan V) (value target : ℕ → List V → ℕ) (t a : ℕ) (w : Saving V plan value target t a p.count p.acts m n) (chunk : ℕ) (is : IsChunk chunk) where
  pub five_law : (r : Result (List (Row V)) Failure) → ((ts : List (Row V)) → r ≡ Ok ts → ((i : ℕ) (s : List V) → In (i, s) ts → target i s < z) × Behind V plan value target t a n marks z base from act op ts m c k h q) → Keyed plan (key (loop p) m chunk) r → Saves V value target t a n m (after_phase (loop p) m chunk) r → Bridged V plan.moves (rows_of plan n) r
      → FreeFrom chunk (five p c k h q) m × FiveEnd V plan value target t a n marks z base act op m r (result (five p c k h q) m chunk)
  five_law (Ok ts) g key_is s b = let y = g ts refl in all_five V p c k h q m n marks z base from act op plan value target t a w chunk is ts b y.0 y.1 s key_is
  five_law (Err f) g key_is s b =
      let x = one_more chunk (λ x. x ≡ m) (λ x. ⊥) (λ x. ⊥) (λ j. j ≡ key_of (plan.act f.move) (plan.op f.move) (suc f.iteration) f.name) NeverAt (loop p) (loop c ∷ loop k ∷ loop h ∷ loop q ∷ []) (fails V p q m n plan value target t a base w chunk is f key_is b) (λ y e. absurd e) m refl in
      (x.0, only_first (result (five p c k h q) m chunk) (key_of (plan.act f.move) (plan.op f.move) (suc f.iteration) f.name) x.1)
