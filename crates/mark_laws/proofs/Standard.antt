-- The four loops behind a saving one.
use Rattle.std.proofs.Common.{◌≡◌, ◌⊎◌, inl, inr, ℕ, zero, suc, ◌+◌, ◌<◌, ◌≤◌, Bool, true, false, List, [], ◌∷◌, ◌++◌, length, sym, refl, ap, ◌∙◌, subst, arith, Option, Some, None, ℤ, pos, negsuc, ◌+ℤ◌, ◌*ℤ◌, slice_index}
use Rattle.std.specs.Prelude.{if◌then◌else◌, int_lt, int_le}
use Rattle.std.specs.Int.{w64}
use Rattle.std.proofs.lemmas.Int.{of_z-to_z}
use Rattle.ws_base.specs.declared.fault.FaultName.TheVariants.{ManyOne}
use Rattle.ws_base.specs.Numbers.{truth, is_true}
use Rattle.phase_ops.specs.declared.effect.Turn.TheVariants.{Next, Shut, Fails}
use Rattle.phase_ops.specs.declared.phase.Label.{Label}
use Rattle.phase_ops.specs.declared.phase.Source.TheVariants.{Fixed}
use Rattle.phase_ops.specs.declared.phase.Micro.{Micro}
use Rattle.phase_ops.specs.declared.phase.Micro.TheVariants as op
use Rattle.phase_ops.specs.declared.phase.Act.{Act}
use Rattle.phase_ops.specs.Phases.{Cells, word, cell_value, cell_of, key_of, none_yet, ops_events, loads}
use Rattle.phase_ops.specs.Free.{In, NameEarlier}
use Rattle.phase_ops.proofs.Strands.{loads_append}
use Rattle.loop_laws.specs.Loops.{does, looks_at, Plan, Fitting, Inside}
use Rattle.segment_laws.specs.Segments.{Ran, Through, Out, stepped, ran, seen, seen_next, onward}
use Rattle.segment_laws.specs.Acts.{from, act}
use Rattle.mark_laws.specs.Acts.{its_target, clear_acts, mark_acts, check_acts, assign_acts, place_of}
use Rattle.loop_laws.specs.Moves.{Row}
use Rattle.save_laws.specs.Saves.{assigned, Assigning}
use Rattle.mark_laws.specs.Marks.{marking, checking, Clearing, Marking, Marked, Checking}
use Rattle.mark_laws.specs.Checks.{places_of, Kept, Behind}
use Rattle.mark_laws.specs.Standard.{lap, Room, Words, IsPlace}
use Rattle.loop_laws.proofs.Words.{read_back, pos_fits, negsuc_fits}
use Rattle.segment_laws.proofs.Segments.{segment}
use Rattle.mark_laws.proofs.Acts.{clears, assigns, marks_it, checks, checks_idle, target_of, target_there, target_none, gated, check_tail}
use Rattle.segment_laws.proofs.Acts.{at_is, at_first, nothing}
use Rattle.segment_laws.proofs.Early.{early, is_early, AllNoDigit, divides_none}

-- ---- what the acts load

pub clear_looks : (line marks i : ℕ) (m : Cells) → looks_at (clear_acts line marks) m i ≡ []
clear_looks line marks i m = refl

-- behind the gate
target_looks : (a i : ℕ) (m : Cells) (more : List Micro) → loads (ops_events (at_first i) (its_target a ++ more) m [] nothing) ≡ (a + i) ∷ loads (onward (at_first i) more m nothing (ran i m [] (its_target a)))
target_looks a i m more = ap loads (segment (at_first i) (its_target a) more m [] nothing (tt, (tt, (tt, (tt, (tt, tt))))))
    ∙ loads_append (seen i m [] (its_target a)) (onward (at_first i) more m nothing (ran i m [] (its_target a)))
    ∙ ap (λ (cs : List ℕ). cs ++ loads (onward (at_first i) more m nothing (ran i m [] (its_target a)))) one
  where
    after_gate : (b : Bool) → loads (seen_next (λ z. []) (if b then Next (pos 0) else Shut)) ≡ []
    after_gate true = refl
    after_gate false = refl

    one : loads (seen i m [] (its_target a)) ≡ (a + i) ∷ []
    one = (λ j. at_is a i j ∷ after_gate (is_true (truth (int_le (pos 0) (cell_value m (cell_of (pos a +ℤ (pos i *ℤ pos 1 +ℤ pos 0))))))) j)

onward_looks : (a i : ℕ) (m : Cells) (more : List Micro) (z : ℤ) → cell_value m (a + i) ≡ z → (c : ℕ) → In c (loads (ops_events (at_first i) (its_target a ++ more) m [] nothing))
    → (c ≡ a + i) ⊎ ((q : ℕ) × (z ≡ pos q) × In c (loads (ops_events (at_first i) more m (pos i ∷ pos q ∷ pos 0 ∷ truth (int_le (pos 0) (pos q)) ∷ pos 0 ∷ []) nothing)))
onward_looks a i m more (pos q) e c h = by (subst (In c) (target_looks a i m more ∙ ap (λ (r : Ran). (a + i) ∷ loads (onward (at_first i) more m nothing r)) (target_of a i m (pos q) e ∙ ap (λ (b : Bool). if b then gated i (pos q) else Out) (target_there q))) h)
  where
    by : In c ((a + i) ∷ loads (ops_events (at_first i) more m (pos i ∷ pos q ∷ pos 0 ∷ truth (int_le (pos 0) (pos q)) ∷ pos 0 ∷ []) nothing)) → (c ≡ a + i) ⊎ ((k : ℕ) × (let z : ℤ = pos q in z ≡ pos k) × In c (loads (ops_events (at_first i) more m (pos i ∷ pos k ∷ pos 0 ∷ truth (int_le (pos 0) (pos k)) ∷ pos 0 ∷ []) nothing)))
    by (inl g) = inl g
    by (inr g) = inr (q, refl, g)
onward_looks a i m more (negsuc q) e c h = by (subst (In c) (target_looks a i m more ∙ ap (λ (r : Ran). (a + i) ∷ loads (onward (at_first i) more m nothing r)) (target_of a i m (negsuc q) e ∙ ap (λ (b : Bool). if b then gated i (negsuc q) else Out) (target_none q))) h)
  where
    by : In c ((a + i) ∷ []) → (c ≡ a + i) ⊎ ((k : ℕ) × (let z : ℤ = negsuc q in z ≡ pos k) × In c (loads (ops_events (at_first i) more m (pos i ∷ pos k ∷ pos 0 ∷ truth (int_le (pos 0) (pos k)) ∷ pos 0 ∷ []) nothing)))
    by (inl g) = inl g
    by (inr g) = elim g [ ]

pub mark_looks : (line a marks i : ℕ) (m : Cells) (c : ℕ) → In c (looks_at (mark_acts line a marks) m i) → c ≡ a + i
mark_looks line a marks i m c h = by (onward_looks a i m (op.Least (from marks 1) 0 ∷ []) (cell_value m (a + i)) refl c h)
  where
    by : (c ≡ a + i) ⊎ ((q : ℕ) × (cell_value m (a + i) ≡ pos q) × In c []) → c ≡ a + i
    by (inl g) = g
    by (inr g) = elim g.2 [ ]

pub assign_looks : (line t a base i : ℕ) (m : Cells) (c : ℕ) → In c (looks_at (assign_acts line t a base) m i) → (c ≡ t + i) ⊎ (c ≡ a + i)
assign_looks line t a base i m c h = by (onward_looks a i m (op.Load (from t 0) ∷ op.Store (from base 1) 5 ∷ []) (cell_value m (a + i)) refl c h)
  where
    by : (c ≡ a + i) ⊎ ((q : ℕ) × (cell_value m (a + i) ≡ pos q) × In c (cell_of (pos t +ℤ (pos i *ℤ pos 1 +ℤ pos 0)) ∷ [])) → (c ≡ t + i) ⊎ (c ≡ a + i)
    by (inl g) = inr g
    by (inr g) = one g.2
      where
        one : In c (cell_of (pos t +ℤ (pos i *ℤ pos 1 +ℤ pos 0)) ∷ []) → (c ≡ t + i) ⊎ (c ≡ a + i)
        one (inl e) = inl (e ∙ at_is t i)
        one (inr e) = elim e [ ]

pub check_looks : (line a marks i : ℕ) (m : Cells) (c : ℕ) → In c (looks_at (check_acts line a marks) m i) → (c ≡ a + i) ⊎ ((q : ℕ) × (cell_value m (a + i) ≡ pos q) × (c ≡ marks + q))
check_looks line a marks i m c h = by (onward_looks a i m (check_tail marks) (cell_value m (a + i)) refl c h)
  where
    tail : (q : ℕ) → loads (ops_events (at_first i) (check_tail marks) m (pos i ∷ pos q ∷ pos 0 ∷ truth (int_le (pos 0) (pos q)) ∷ pos 0 ∷ []) nothing) ≡ (marks + q) ∷ []
    tail q = ap loads (segment (at_first i) (check_tail marks) [] m (pos i ∷ pos q ∷ pos 0 ∷ truth (int_le (pos 0) (pos q)) ∷ pos 0 ∷ []) nothing (tt, (tt, (tt, tt))))
        ∙ loads_append (seen i m (pos i ∷ pos q ∷ pos 0 ∷ truth (int_le (pos 0) (pos q)) ∷ pos 0 ∷ []) (check_tail marks)) (onward (at_first i) [] m nothing (ran i m (pos i ∷ pos q ∷ pos 0 ∷ truth (int_le (pos 0) (pos q)) ∷ pos 0 ∷ []) (check_tail marks)))
        ∙ (λ j. at_is marks q j ∷ (seen_last (is_true (truth (int_lt (cell_value m (cell_of (pos marks +ℤ (pos q *ℤ pos 1 +ℤ pos 0)))) (pos i)))) j ++ onward_last (is_true (truth (int_lt (cell_value m (cell_of (pos marks +ℤ (pos q *ℤ pos 1 +ℤ pos 0)))) (pos i)))) (λ y. pos i ∷ pos q ∷ pos 0 ∷ truth (int_le (pos 0) (pos q)) ∷ pos 0 ∷ cell_value m (cell_of (pos marks +ℤ (pos q *ℤ pos 1 +ℤ pos 0))) ∷ truth (int_lt (cell_value m (cell_of (pos marks +ℤ (pos q *ℤ pos 1 +ℤ pos 0)))) (pos i)) ∷ y ∷ []) j))
      where
        seen_last : (b : Bool) → loads (seen_next (λ z. []) (if b then Fails ManyOne else Next (pos 0))) ≡ []
        seen_last true = refl
        seen_last false = refl

        onward_last : (b : Bool) (regs : ℤ → List ℤ) → loads (onward (at_first i) [] m nothing (stepped 7 (λ y. Through (regs y)) (if b then Fails ManyOne else Next (pos 0)))) ≡ []
        onward_last true regs = refl
        onward_last false regs = refl

    by : (c ≡ a + i) ⊎ ((q : ℕ) × (cell_value m (a + i) ≡ pos q) × In c (loads (ops_events (at_first i) (check_tail marks) m (pos i ∷ pos q ∷ pos 0 ∷ truth (int_le (pos 0) (pos q)) ∷ pos 0 ∷ []) nothing))) → (c ≡ a + i) ⊎ ((q : ℕ) × (cell_value m (a + i) ≡ pos q) × (c ≡ marks + q))
    by (inl g) = inl g
    by (inr g) = one (subst (In c) (tail g.0) g.2)
      where
        one : In c ((marks + g.0) ∷ []) → (c ≡ a + i) ⊎ ((q : ℕ) × (cell_value m (a + i) ≡ pos q) × (c ≡ marks + q))
        one (inl e) = inr (g.0, g.1, e)
        one (inr e) = elim e [ ]

-- ---- a loop of one act fits

pub fits : (line n : ℕ) (ops : List Micro) (m : Cells) → n ≤ 65536 → length ops ≤ 1048576 → early 0 ops ≡ true → AllNoDigit ops → ((i c : ℕ) → i < n → In c (looks_at (act line ops) m i) → c < length m) → Fitting (Fixed (pos n)) (act line ops) m n
fits line n ops m few short e none loaded = record {
  count_is = refl;
  small = few;
  count_there = λ c h. elim h [ ];
  few_acts = omega arith;
  few_ops = λ x h. one x h;
  positive = λ i z l h. elim (subst (In z) (divides_none (at_first i) ops m [] none) h) [ ];
  loaded = loaded;
}
  where
    one : (x : Act) → In x (act line ops) → (length x.ops ≤ 1048576) × NameEarlier 0 x.ops
    one x (inl g) = subst (λ (y : Act). (length y.ops ≤ 1048576) × NameEarlier 0 y.ops) (sym g) (short, is_early 0 ops e)
    one x (inr g) = elim g [ ]

-- ---- the four loops

module _ (line : ℕ) (c k h q : Label) (n marks z base t a : ℕ) (plan : Plan ℤ) (value target : ℕ → List ℤ → ℕ) (ts : List (Row ℤ)) (m : Cells) (room : Room t a n marks z base m) (words : Words ℤ value ts) (small : (i : ℕ) (s : List ℤ) → In (i, s) ts → target i s < z) (is_place : (i : ℕ) → i < n → IsPlace plan target ts i) where
  abbrev Holds : Cells → Type 0
  Holds = Kept ℤ value target t a n marks z ts m

  abbrev places : ℕ → Option ℕ
  places = places_of plan target

  abbrev Stands : Cells → ℕ → Type 0
  Stands x i = ((s : List ℤ) × In (i, s) ts × (places i ≡ Some (target i s)) × (cell_value x (a + i) ≡ pos (target i s))) ⊎ ((places i ≡ None) × (cell_value x (a + i) ≡ negsuc i))

  in_word : (i : ℕ) (s : List ℤ) → In (i, s) ts → target i s < 9223372036854775808
  in_word i s g = let l = small i s g in let f = room.few.1 in omega (arith, l, f)

  stands : (x : Cells) → Holds x → (i : ℕ) → i < n → Stands x i
  stands x e i l = by (is_place i l) (e.saved.idle_at i l)
    where
      by : IsPlace plan target ts i → ((s : List ℤ) × In (i, s) ts) ⊎ (slice_index x (a + i) ≡ word (negsuc i)) → Stands x i
      by (inl g) o = inl (g.0, g.1, g.2, read_back x (a + i) (pos (target i g.0)) (pos_fits (target i g.0) (in_word i g.0 g.1)) (e.saved.target_at i g.0 g.1))
      by (inr g) (inl o) = absurd (g.0 o.0 o.1)
      by (inr g) (inr o) = inr (g.1, read_back x (a + i) (negsuc i) (negsuc_fits i (let f = room.few.0 in omega (arith, l, f))) o)

  outside : (from : ℕ) (other : ℕ) → (from + n ≤ other) ⊎ (other + z ≤ from) → (i : ℕ) → i < n → Inside other z (from + i) → ⊥
  outside from other (inl l) i b g = let u = g.0 in omega (arith, l, b, u)
  outside from other (inr l) i b g = let u = g.1 in omega (arith, l, b, u)

  of_place : (x : Cells) → Holds x → (i : ℕ) → i < n → place_of (cell_value x (a + i)) ≡ places i
  of_place x e i l = by (stands x e i l)
    where
      by : Stands x i → place_of (cell_value x (a + i)) ≡ places i
      by (inl g) = ap place_of g.3 ∙ sym g.2
      by (inr g) = ap place_of g.1 ∙ sym g.0

  place_small : (i j : ℕ) → i < n → places i ≡ Some j → j < z
  place_small i j l e = by (is_place i l)
    where
      by : IsPlace plan target ts i → j < z
      by (inl g) = let b = small i g.0 g.1 in let f = g.2 in let y : target i g.0 ≡ j = cc in omega (arith, b, y)
      by (inr g) = let f = g.1 in absurd (let y : zero ≡ suc zero = cc in omega (arith, y))

  clears_fit : (x : Cells) → Holds x → Clearing marks (Fixed (pos z)) (clear_acts line marks) x z
  clears_fit x e = record {
    fitting = fits line z (op.Position ∷ op.Fixed (negsuc 0) ∷ op.Store (from marks 0) 1 ∷ []) x room.few.1 (omega arith) refl (tt, (tt, (tt, tt))) (λ i d l g. elim g [ ]);
    does_this = λ i l. clears line marks i x;
    unread = λ i d l g. elim g [ ];
    not_count = λ d g. elim g [ ];
    marks_there = (let r = room.there.2 in let s = e.same_length in omega (arith, r, s));
  }

  marks_fit : (x : Cells) → Holds x → ((j : ℕ) → j < z → slice_index x (marks + j) ≡ none_yet) → Marking marks z 0 places (Fixed (pos n)) (mark_acts line a marks) x n
  marks_fit x e cl = record {
    fitting = fits line n (its_target a ++ op.Least (from marks 1) 0 ∷ []) x room.few.0 (omega arith) refl (tt, (tt, (tt, (tt, (tt, (tt, tt)))))) (λ i d l g. let o = mark_looks line a marks i x d g in let r = room.there.1 in let s = e.same_length in omega (arith, o, r, s, l));
    does_this = λ i l. marks_it line a marks i x ∙ (λ j. marking marks (zero_plus i j) (of_place x e i l j));
    places = place_small;
    small = omega arith;
    unread = λ i d l g b. outside a marks room.marks_apart.1 i l (subst (Inside marks z) (mark_looks line a marks i x d g) b);
    not_count = λ d g. elim g [ ];
    marks_there = (let r = room.there.2 in let s = e.same_length in omega (arith, r, s));
    clear = cl;
  }
    where
      zero_plus : (i : ℕ) → i ≡ 0 + i
      zero_plus i = omega arith

  checks_fit : (y x : Cells) → Holds x → Marked marks z 0 n places y x → Checking marks 0 0 7 places (Fixed (pos n)) (check_acts line a marks) x n
  checks_fit y x e mk = record {
    fitting = fits line n (its_target a ++ check_tail marks) x room.few.0 (omega arith) refl (tt, (tt, (tt, (tt, (tt, (tt, (tt, (tt, tt)))))))) (λ i d l g. loaded i d l (check_looks line a marks i x d g));
    does_this = λ i l. by i l (stands x e i l);
    small = omega arith;
    spot = (omega arith, omega arith);
  }
    where
      loaded : (i d : ℕ) → i < n → (d ≡ a + i) ⊎ ((j : ℕ) × (cell_value x (a + i) ≡ pos j) × (d ≡ marks + j)) → d < length x
      loaded i d l (inl o) = let r = room.there.1 in let s = e.same_length in omega (arith, o, r, s, l)
      loaded i d l (inr o) = let r = room.there.2 in let s = e.same_length in let b = place_small i o.0 l (sym (of_place x e i l) ∙ ap place_of o.1) in let f = o.2 in omega (arith, r, s, b, f)

      by : (i : ℕ) → i < n → Stands x i → does (check_acts line a marks) x i ≡ checking marks (0 + i) (key_of 0 7 (suc i) ManyOne) x i (places i)
      by i l (inl g) =
          checks line a marks i x (target i g.0) g.3 (let o = mk.low i (target i g.0) l g.2 in let f = room.few.0 in omega (arith, o, f, l))
          ∙ ap (λ (o : ℕ). checking marks o (key_of 0 7 (suc i) ManyOne) x i (Some (target i g.0))) (let u : i ≡ 0 + i = omega arith in u)
          ∙ ap (checking marks (0 + i) (key_of 0 7 (suc i) ManyOne) x i) (sym g.2)
      by i l (inr g) = checks_idle line a marks i x i g.1 ∙ ap (checking marks (0 + i) (key_of 0 7 (suc i) ManyOne) x i) (sym g.0)

  assigns_fit : (x : Cells) → Holds x → ((i j : ℕ) (s u : List ℤ) → In (i, s) ts → In (j, u) ts → target i s ≡ target j u → i ≡ j) → Assigning ℤ value target t a base ts (Fixed (pos n)) (assign_acts line t a base) x n
  assigns_fit x e differ = record {
    fitting = fits line n ((its_target a ++ op.Load (from t 0) ∷ []) ++ op.Store (from base 1) 5 ∷ []) x room.few.0 (omega arith) refl (tt, (tt, (tt, (tt, (tt, (tt, (tt, tt))))))) (λ i d l g. loaded i d l (assign_looks line t a base i x d g));
    does_this = λ i l. assigns line t a base i x ∙ by i (stands x e i l);
    reads_own = λ i d l g. own i d (assign_looks line t a base i x d g);
    apart = differ;
    small = in_word;
    there = λ i s g. (let r = room.there.3 in let o = e.same_length in let b = small i s g in omega (arith, r, o, b));
    not_temps = λ i s g. (away t room.base_apart.0 (target i s) (small i s g), away a room.base_apart.1 (target i s) (small i s g));
    not_count = λ i s g o. elim o [ ];
  }
    where
      loaded : (i d : ℕ) → i < n → (d ≡ t + i) ⊎ (d ≡ a + i) → d < length x
      loaded i d l (inl o) = let r = room.there.0 in let s = e.same_length in omega (arith, o, r, s, l)
      loaded i d l (inr o) = let r = room.there.1 in let s = e.same_length in omega (arith, o, r, s, l)

      own : (i d : ℕ) → (d ≡ t + i) ⊎ (d ≡ a + i) → (d ≡ t + i) ⊎ ((d ≡ a + i) ⊎ ((j : ℕ) (s : List ℤ) → In (j, s) ts → d ≡ base + target j s → ⊥))
      own i d (inl o) = inl o
      own i d (inr o) = inr (inl o)

      away : (from : ℕ) → (from + n ≤ base) ⊎ (base + z ≤ from) → (j : ℕ) → j < z → Inside from n (base + j) → ⊥
      away from (inl l) j b g = let u = g.1 in omega (arith, l, b, u)
      away from (inr l) j b g = let u = g.0 in omega (arith, l, b, u)

      by : (i : ℕ) → Stands x i → assigned base (word (cell_value x (t + i))) (cell_value x (a + i)) ≡ assigned base (slice_index x (t + i)) (cell_value x (a + i))
      by i (inl g) = ap (λ (v : ℕ). assigned base v (cell_value x (a + i))) (of_z-to_z w64 (slice_index x (t + i)) (let o = e.saved.value_at i g.0 g.1 in let b = words i g.0 g.1 in omega (arith, o, b)))
      by i (inr g) = ap (assigned base (word (cell_value x (t + i)))) g.1 ∙ sym (ap (assigned base (slice_index x (t + i))) g.1)

  pub behind_fits : Behind ℤ plan value target t a n marks z base 0 0 7 ts m (lap line c z (clear_acts line marks)) (lap line k n (mark_acts line a marks)) (lap line h n (check_acts line a marks)) (lap line q n (assign_acts line t a base))
  behind_fits = record { apart = room.marks_apart; clears = clears_fit; marks_them = marks_fit; checks = checks_fit; assigns = assigns_fit }
