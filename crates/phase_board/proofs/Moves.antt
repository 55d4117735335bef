-- Each step of a seat keeps the rule: its core takes the core's step.
use Rattle.std.proofs.Common.{◌≡◌, ◌≢◌, ⊎_elim, inr, ℕ, suc, ◌+◌, ◌*◌, ◌%◌, ◌^◌, ◌<◌, ◌≤◌, min, Bool, true, false, cond, ltb, eqb, eq-eqb, ne_eqb, List, [], ◌∷◌, ◌++◌, length, get_or, set, sym, refl, ap, ◌∙◌, subst, arith}
use mathlib.Core.Option.{Option, none, some}
use lib.ListN.{get_elem?}
use lib.Seq.{set-get_or}
use Rattle.atomic_table.specs.Table.{State, Me, step, keeps, Allows}
use Rattle.phase_ops.specs.declared.effect.Effect.TheVariants.{Store, Least, Fault}
use Rattle.phase_ops.specs.Phases.{none_yet}
use Rattle.phase_ops.specs.Course.{Course, work_at}
use Rattle.team_core.specs.declared.member.MemberState.{MemberState}
use Rattle.team_core.specs.declared.member.MemberState.TheVariants.{Ready, Within, Out, Arrived, Ended}
use Rattle.team_core.specs.declared.member.StepKind.{StepKind}
use Rattle.team_core.specs.declared.member.StepKind.TheVariants.{Claim, Look, Put, Note, Finish, Arrive, See, Verdict}
use Rattle.team_core.specs.declared.member.StepKind.TheVariants as kind
use Rattle.team_core.specs.declared.state.Numbers.{Numbers}
use Rattle.team_core.specs.declared.state.Counts.{Counts}
use Rattle.team_core.specs.declared.state.Member.{Member}
use Rattle.team_core.specs.declared.state.CoreState.{CoreState}
use Rattle.team_core.specs.Core.{Sound, counts_at, blank, member, claims, acts, finishes, arrives, sees, judged, judges, start}
use Rattle.team_core.specs.Front.{is_there}
use Rattle.team_core.specs.Machines.{Keyless}
use Rattle.team_core.specs.Runs.{happens, run, put_or, least_or, note_or}
use Rattle.team_core.specs.Runs.{stepped as stepped_by}
use Rattle.team_core.proofs.Lists.{at_set, set_here, set_else, set_again, inside}
use Rattle.team_core.proofs.Runs.{every_run, one_more, takes}
use Rattle.team_core.proofs.Teams.{team_safe, team_can}
use Rattle.team_core.proofs.Keeping.{at_front, in_front, judged_key}
use Rattle.team_core.proofs.Ends.{looks_within, looks_ready, claimed_le, finished_le, arrived_le}
use Rattle.phase_board.specs.declared.plays.Run.{Run}
use Rattle.phase_board.specs.declared.plays.View.{View}
use Rattle.phase_board.specs.declared.plays.Role.{Role}
use Rattle.phase_board.specs.declared.plays.Role.TheVariants.{Waiting, Of, Spent}
use Rattle.phase_board.specs.Rule.{course_of, IsOf, four, words_of, arrived_at, sight, found_in, found_by, Stands, S, Kept, view, claimed_role, claimed, acted, finished, arrived, Looked, looked, seen, judged_role, judges_play}
use Rattle.phase_board.proofs.Words.{cell_word, cell_set, count_word, count_word_set}

abbrev St : Type 0
St = State S View

-- one step more
one_found : (c : Course) (k : CoreState) (m : ℕ) (had : List ℕ) (es : List (ℕ × StepKind)) (e : ℕ × StepKind) → found_in c k m had (es ++ e ∷ []) ≡ cond (eqb e.0 m) (sight (run c k es) m e.1) [] ++ found_in c k m had es
one_found c k m had [] e = refl
one_found c k m had (x ∷ es) e = one_found c (happens c k x) m (cond (eqb x.0 m) (sight k m x.1) [] ++ had) es e

pub sound_of : (r : Run) (s : St) (h : Kept r s) → Sound (course_of r) h.core
sound_of r s h = subst (Sound (course_of r)) (sym h.core_is) (every_run (course_of r) h.steps (team_safe r.phases r.opening r.team r.chunk h.may) h.may.someone)

module _ (r : Run) (s : St) (h : Kept r s) where
  -- the phase of a member before its barrier has few units
  few_units_at : (m : ℕ) (x : Member) → get_elem? h.core.members m ≡ some x → is_there x.state ≡ false → (work_at (course_of r) x.phase).units ≤ 65536
  few_units_at m x at before =
      let sound = sound_of r s h in
      let front = at_front (course_of r) h.core sound m x at before in
      let f₀ = front.0 in let f₁ = front.1 in
      (team_can r.phases r.opening r.team r.chunk h.may).few_units x.phase (omega (arith, f₀, f₁)) (λ t l. sound.keyless t (omega (arith, l, f₀)))

  keyless_at : (m : ℕ) (x : Member) → get_elem? h.core.members m ≡ some x → is_there x.state ≡ false → Keyless (course_of r) x.phase
  keyless_at m x at before =
      let sound = sound_of r s h in
      let f₀ = (at_front (course_of r) h.core sound m x at before).0 in λ t l.
      sound.keyless t (omega (arith, l, f₀))

  few_done_at : (m : ℕ) (x : Member) (u d : ℕ) → get_elem? h.core.members m ≡ some x → x.state ≡ Within u d → d < 4611686018427387904
  few_done_at m x u d at is =
      let sound = sound_of r s h in
      let front = at_front (course_of r) h.core sound m x at (ap is_there is) in
      let held = ((sound.here front.1).held m u d (in_front (course_of r) h.core sound m x at front.0 (Within u d) is)).2 in
      let few = (team_can r.phases r.opening r.team r.chunk h.may).few_effects sound.front u front.1 sound.keyless in
      omega (arith, held, few)

  abbrev found : ℕ → List ℕ
  found = found_by (course_of r) h.steps

  abbrev more : ℕ → StepKind → List (ℕ × StepKind)
  more m kind = h.steps ++ (m, kind) ∷ []

  -- the core takes a step of the member m, which the seat owns
  moves : (id m : ℕ) (x y : Member) (ws ws' : List ℕ) (kind : StepKind) (k' : CoreState) (words' : List ℕ) → get_elem? s.views id ≡ some (view r (Of m x.phase x.state x.full) ws) → stepped_by (course_of r) h.core m x kind x.state ≡ some k' → k'.members ≡ set h.core.members m y
      → ws' ≡ sight h.core m kind ++ ws → words' ≡ words_of k' → Kept r record { words = words'; homes = s.homes; views = set s.views id (view r (Of m y.phase y.state y.full) ws') }
  moves id m x y ws ws' kind k' words' at step members sights words = let mine = (h.seats id (view r (Of m x.phase x.state x.full) ws) at).1 in record {
    core = k';
    steps = more m kind;
    core_is = sym (one_more (course_of r) (start (course_of r)) h.steps (m, kind) ∙ (ap (λ (k : CoreState). happens (course_of r) k (m, kind)) (sym h.core_is) ∙ takes (course_of r) h.core k' m x kind mine.1 step));
    may = h.may;
    words_are = words;
    owner = h.owner;
    seats = λ j v q. ⊎_elim
        (λ (t : (j ≡ id) × (view r (Of m y.phase y.state y.full) ws' ≡ v)). subst (λ (z : ℕ × View). IsOf r z.1 × Stands r k' (found_by (course_of r) (more m kind)) h.owner z.0 z.1.sights z.1.role) (λ i. (sym t.0 i, t.1 i))
        (inr refl, (mine.0, ap (λ (l : List Member). get_elem? l m) members ∙ set_here h.core.members m y (inside h.core.members m x mine.1), sights ∙ ap (λ (l : List ℕ). sight h.core m kind ++ l) mine.2 ∙ sym own_sight)))
        (λ (t : (j ≢ id) × (get_elem? s.views j ≡ some v)). let old = h.seats j v t.1 in (old.0, others j v.sights v.role (λ e. t.0 (sym e ∙ mine.0)) old.1))
        (at_set s.views id j (view r (Of m y.phase y.state y.full) ws') v q);
  }
    where
      own_sight : found_by (course_of r) (more m kind) m ≡ sight h.core m kind ++ found m
      own_sight =
          one_found (course_of r) (start (course_of r)) m [] h.steps (m, kind)
          ∙ (λ i. cond (eq-eqb m m refl i) (sight (sym h.core_is i) m kind) [] ++ found m)

      other_sight : (i : ℕ) → i ≢ m → found_by (course_of r) (more m kind) i ≡ found i
      other_sight i n =
          one_found (course_of r) (start (course_of r)) i [] h.steps (m, kind)
          ∙ (λ j. cond (ne_eqb m i (λ e. n (sym e)) j) (sight (sym h.core_is j) i kind) [] ++ found i)

      same : (i : ℕ) → i ≢ m → get_elem? k'.members i ≡ get_elem? h.core.members i
      same i n = ap (λ (l : List Member). get_elem? l i) members ∙ set_else h.core.members m i y n

      others : (j : ℕ) (had : List ℕ) (role : Role) → (h.owner m ≡ j → ⊥) → Stands r h.core found h.owner j had role → Stands r k' (found_by (course_of r) (more m kind)) h.owner j had role
      others j had (Waiting n) not old = λ i l l'. let o = old i l l' in let other : i ≢ m = λ e. not (ap h.owner (sym e) ∙ o.0) in (o.0, same i other ∙ o.1, other_sight i other ∙ o.2)
      others j had (Of i t st full) not old = let other : i ≢ m = λ e. not (ap h.owner (sym e) ∙ old.0) in (old.0, same i other ∙ old.1, old.2 ∙ sym (other_sight i other))
      others j had Spent not old = tt

  -- where the four words of a phase stand
  read_count : (i t j : ℕ) → i ≡ 1 + length r.opening + 4 * t + j → j < 4 → t < length r.phases → get_or s.words i 0 ≡ get_or (four (counts_at h.core t)) j 0
  read_count i t j e l ph = let a = (sound_of r s h).cells_are in let b = (sound_of r s h).sized in ap (λ (ws : List ℕ). get_or ws i 0) h.words_are ∙ count_word h.core i t j (omega (arith, e, a)) l (omega (arith, ph, b))

  write_count : (i t j v : ℕ) (n' : Counts) → i ≡ 1 + length r.opening + 4 * t + j → j < 4 → t < length r.phases → four n' ≡ set (four (counts_at h.core t)) j v
      → set s.words i v ≡ words_of (record h.core { counts = set h.core.counts t n' })
  write_count i t j v n' e l ph q = let a = (sound_of r s h).cells_are in let b = (sound_of r s h).sized in ap (λ (ws : List ℕ). set ws i v) h.words_are ∙ count_word_set h.core i t j v n' (omega (arith, e, a)) l (omega (arith, ph, b)) q

abbrev role_of : ℕ → Member → Role
role_of m x = Of m x.phase x.state x.full

module _ (r : Run) (slots id m t : ℕ) (ws : List ℕ) (ph : t < length r.phases) where
  abbrev C : Course
  C = course_of r

  abbrev Where : ℕ → ℕ → Type 0
  Where i j = i ≡ 1 + length r.opening + 4 * t + j

  abbrev own : MemberState → Bool → View
  own st full = view r (Of m t st full) ws

  abbrev sat : MemberState → Bool → Me S View
  sat st full = (own st full, [])

  pub claims_allowed : (i : ℕ) (full : Bool) → Where i 0 → Allows (Kept r) slots id (sat Ready full) i (λ n. (n + 1) % 2 ^ 64) (claimed (step slots i 1 0 none) (sat Ready full))
  claims_allowed i full e s h _ at _ =
      let x : Member = member t Ready full in
      let k : CoreState = h.core in
      let n : ℕ = (counts_at k t).numbers.claimed in
      let mine = (h.seats id (own Ready full) at).1 in
      let word : get_or s.words i 0 ≡ n = read_count r s h i t 0 e (omega arith) ph in
      let k' : CoreState = claims C k m x in
      let y : Member = member t (cond (ltb n (work_at C t).units) (Within n 0) Out) false in
      let P : ℕ → Type 0 = λ z. Kept r record { words = set s.words i ((z + 1) % 2 ^ 64); homes = s.homes; views = set s.views id (view r (claimed_role C z (Of m t Ready full)) ws) } in
      let small : n + 1 < 2 ^ 64 = let a = claimed_le C k (sound_of r s h) m x mine.1 refl in let b = few_units_at r s h m x mine.1 refl in let o = h.may.team_small in omega (arith, a, b, o) in
      let same : ◌≡◌ {A = ℕ} ((n + 1) % 2 ^ 64) (n + 1) = omega (arith, small) in (
        view r (claimed_role C (get_or s.words i 0) (Of m t Ready full)) ws,
        keeps,
        tt,
        subst P (sym word) (moves r s h id m x y ws ws Claim k' (set s.words i ((n + 1) % 2 ^ 64)) at refl refl refl
            (write_count r s h i t 0 ((n + 1) % 2 ^ 64) (record { numbers = record (counts_at k t).numbers { claimed = n + 1 }; key = (counts_at k t).key }) e (omega arith) ph
            (λ z. sym same z ∷ (counts_at k t).numbers.finished ∷ (counts_at k t).numbers.arrived ∷ (counts_at k t).key ∷ []))),
        (refl, keyless_at r s h m x mine.1 refl, h.may),
      )

  pub puts_allowed : (i cell v u d : ℕ) (full : Bool) → i ≡ suc cell → cell < length r.opening → get_elem? ((work_at C t).effects u) d ≡ some (Store cell v)
      → Allows (Kept r) slots id (sat (Within u d) full) i (λ _. v) (λ _. acted (step slots i v 0 none) (sat (Within u d) full) v)
  puts_allowed i cell v u d full e near eff s h _ at _ =
      let x : Member = member t (Within u d) full in
      let k : CoreState = h.core in
      let mine = (h.seats id (own (Within u d) full) at).1 in
      let y : Member = member t (Within u (suc d)) false in
      let long = (sound_of r s h).cells_are in (
        own (Within u (suc d)) false,
        keeps,
        tt,
        moves r s h id m x y ws ws Put (acts k m x (Store cell v) u d) (set s.words i v) at (ap (put_or k m x u d) eff) refl refl
            (ap (λ (ws : List ℕ). set ws i v) h.words_are ∙ (cell_set k i cell v e (omega (arith, near, long))
            ∙ (λ z. words_of (record k { cells = set k.cells cell v; counts = sym (set-get_or k.counts t blank) z })))),
        (refl, few_done_at r s h m x u d mine.1 refl),
      )

  pub leasts_allowed : (i cell v u d : ℕ) (full : Bool) → i ≡ suc cell → cell < length r.opening → get_elem? ((work_at C t).effects u) d ≡ some (Least cell v)
      → Allows (Kept r) slots id (sat (Within u d) full) i (λ n. min n v) (acted (step slots i v 0 none) (sat (Within u d) full))
  leasts_allowed i cell v u d full e near eff s h _ at _ =
      let x : Member = member t (Within u d) full in
      let k : CoreState = h.core in
      let mine = (h.seats id (own (Within u d) full) at).1 in
      let y : Member = member t (Within u (suc d)) false in
      let long = (sound_of r s h).cells_are in
      let word : get_or s.words i 0 ≡ get_or k.cells cell 0 = ap (λ (ws : List ℕ). get_or ws i 0) h.words_are ∙ cell_word k i cell e (omega (arith, near, long)) in (
        own (Within u (suc d)) false,
        keeps,
        tt,
        moves r s h id m x y ws ws kind.Least (acts k m x (Least cell v) u d) (set s.words i (min (get_or s.words i 0) v)) at (ap (least_or k m x u d) eff) refl refl
            ((λ z. set (h.words_are z) i (min (word z) v)) ∙ (cell_set k i cell (min (get_or k.cells cell 0) v) e (omega (arith, near, long))
            ∙ (λ z. words_of (record k { cells = set k.cells cell (min (get_or k.cells cell 0) v); counts = sym (set-get_or k.counts t blank) z })))),
        (refl, few_done_at r s h m x u d mine.1 refl),
      )

  pub notes_allowed : (i key u d : ℕ) (full : Bool) → Where i 3 → get_elem? ((work_at C t).effects u) d ≡ some (Fault key)
      → Allows (Kept r) slots id (sat (Within u d) full) i (λ n. min n key) (acted (step slots i key 0 none) (sat (Within u d) full))
  notes_allowed i key u d full e eff s h _ at _ =
      let x : Member = member t (Within u d) full in
      let k : CoreState = h.core in
      let a : Counts = counts_at k t in
      let mine = (h.seats id (own (Within u d) full) at).1 in
      let y : Member = member t (Within u (suc d)) false in
      let word : get_or s.words i 0 ≡ a.key = read_count r s h i t 3 e (omega arith) ph in (
        own (Within u (suc d)) false,
        keeps,
        tt,
        moves r s h id m x y ws ws Note (acts k m x (Fault key) u d) (set s.words i (min (get_or s.words i 0) key)) at (ap (note_or k m x u d) eff) refl refl
            (write_count r s h i t 3 (min (get_or s.words i 0) key) (record { numbers = a.numbers; key = min a.key key }) e (omega arith) ph
            (λ z. a.numbers.claimed ∷ a.numbers.finished ∷ a.numbers.arrived ∷ min (sym word z) key ∷ [])),
        (refl, few_done_at r s h m x u d mine.1 refl),
      )

  pub finishes_allowed : (i u d : ℕ) (full : Bool) → Where i 1 → d ≡ length ((work_at C t).effects u)
      → Allows (Kept r) slots id (sat (Within u d) full) i (λ n. (n + 1) % 2 ^ 64) (finished (step slots i 1 0 none) (sat (Within u d) full))
  finishes_allowed i u d full e whole s h _ at _ =
      let x : Member = member t (Within u d) full in
      let k : CoreState = h.core in
      let n : Numbers = (counts_at k t).numbers in
      let mine = (h.seats id (own (Within u d) full) at).1 in
      let y : Member = member t Ready false in
      let word : get_or s.words i 0 ≡ n.finished = read_count r s h i t 1 e (omega arith) ph in
      let small : n.finished + 1 < 2 ^ 64 = let a = finished_le C k (sound_of r s h) m x mine.1 u d refl in let b = few_units_at r s h m x mine.1 refl in omega (arith, a, b) in
      let same : (get_or s.words i 0 + 1) % 2 ^ 64 ≡ n.finished + 1 = omega (arith, small, word) in (
        own Ready false,
        keeps,
        tt,
        moves r s h id m x y ws ws Finish (finishes k m x) (set s.words i ((get_or s.words i 0 + 1) % 2 ^ 64)) at (ap (λ (b : Bool). cond b (some (finishes k m x)) none) (eq-eqb d (length ((work_at C t).effects u)) whole)) refl refl
            (write_count r s h i t 1 ((get_or s.words i 0 + 1) % 2 ^ 64) (record { numbers = record n { finished = n.finished + 1 }; key = (counts_at k t).key }) e (omega arith) ph
            (λ z. n.claimed ∷ sym same z ∷ n.arrived ∷ (counts_at k t).key ∷ [])),
        refl,
      )

  pub arrives_allowed : (i : ℕ) (full : Bool) → Where i 2 → Allows (Kept r) slots id (sat Out full) i (λ n. (n + 1) % 2 ^ 64) (arrived (step slots i 1 0 none) (sat Out full))
  arrives_allowed i full e s h _ at _ =
      let x : Member = member t Out full in
      let k : CoreState = h.core in
      let n : Numbers = (counts_at k t).numbers in
      let mine = (h.seats id (own Out full) at).1 in
      let y : Member = member t Arrived false in
      let word : get_or s.words i 0 ≡ n.arrived = read_count r s h i t 2 e (omega arith) ph in
      let small : n.arrived + 1 < 2 ^ 64 = let a = arrived_le C k (sound_of r s h) m x mine.1 in let o = h.may.team_small in omega (arith, a, o) in
      let same : (get_or s.words i 0 + 1) % 2 ^ 64 ≡ n.arrived + 1 = omega (arith, small, word) in (
        own Arrived false,
        keeps,
        tt,
        moves r s h id m x y ws ws Arrive (arrives k m x) (set s.words i ((get_or s.words i 0 + 1) % 2 ^ 64)) at refl refl refl
            (write_count r s h i t 2 ((get_or s.words i 0 + 1) % 2 ^ 64) (record { numbers = record n { arrived = n.arrived + 1 }; key = (counts_at k t).key }) e (omega arith) ph
            (λ z. n.claimed ∷ n.finished ∷ sym same z ∷ (counts_at k t).key ∷ [])),
        refl,
      )

  unread : (s : St) (h : Kept r s) (i : ℕ) → set s.words i (get_or s.words i 0) ≡ words_of h.core
  unread s h i = set-get_or s.words i 0 ∙ h.words_are

  pub sees_allowed : (i : ℕ) → Where i 2 → Allows (Kept r) slots id (sat Arrived false) i (λ n. n) (seen (step slots i 0 0 none) (sat Arrived false))
  sees_allowed i e s h _ at _ =
      let x : Member = member t Arrived false in
      let k : CoreState = h.core in
      let n : ℕ = (counts_at k t).numbers.arrived in
      let mine = (h.seats id (own Arrived false) at).1 in
      let word : get_or s.words i 0 ≡ n = read_count r s h i t 2 e (omega arith) ph in
      let P : ℕ → Type 0 = λ z. Kept r record { words = set s.words i (get_or s.words i 0); homes = s.homes; views = set s.views id (view r (Of m t Arrived (eqb z r.team)) (z ∷ ws)) } in
      let bound = arrived_le C k (sound_of r s h) m x mine.1 in (
        view r (Of m t Arrived (eqb (get_or s.words i 0) r.team)) (get_or s.words i 0 ∷ ws),
        keeps,
        tt,
        subst P (sym word) (moves r s h id m x (member t Arrived (eqb n r.team)) ws (n ∷ ws) See (sees C k m x) (set s.words i (get_or s.words i 0)) at refl refl (ap (λ (o : Option Member). arrived_at k o ++ ws) (sym mine.1)) (unread s h i)),
        (refl, omega (arith, word, bound)),
      )

  judged_is : (k : CoreState) (full : Bool) → view r (role_of m (judged C.count k (member t Arrived full))) ws ≡ view r (judged_role C (counts_at k t).key (Of m t Arrived full)) ws
  judged_is k full = pick (ltb (counts_at k t).key none_yet) (eqb (suc t) C.count)
    where
      pick : (b d : Bool) → view r (role_of m (cond b (member t Ended false) (cond d (member t Ended false) (member (suc t) Ready false)))) ws ≡ view r (cond b (Of m t Ended false) (cond d (Of m t Ended false) (Of m (suc t) Ready false))) ws
      pick true d = refl
      pick false true = refl
      pick false false = refl

  pub judges_allowed : (i : ℕ) → Where i 3 → Allows (Kept r) slots id (sat Arrived true) i (λ n. n) (judges_play (step slots i 0 0 none) (sat Arrived true))
  judges_allowed i e s h _ at _ =
      let x : Member = member t Arrived true in
      let k : CoreState = h.core in
      let mine = (h.seats id (own Arrived true) at).1 in
      let word : get_or s.words i 0 ≡ (counts_at k t).key = read_count r s h i t 3 e (omega arith) ph in
      let P : View → Type 0 = λ z. Kept r record { words = set s.words i (get_or s.words i 0); homes = s.homes; views = set s.views id z } in (
        view r (judged_role C (get_or s.words i 0) (Of m t Arrived true)) ws,
        keeps,
        tt,
        subst P (judged_is k true ∙ ap (λ (n : ℕ). view r (judged_role C n (Of m t Arrived true)) ws) (sym word))
            (moves r s h id m x (judged C.count k x) ws ws Verdict (judges C k m x) (set s.words i (get_or s.words i 0)) at refl refl refl (unread s h i)),
        (refl, word ∙ judged_key C k (sound_of r s h) m x mine.1 refl refl),
      )

  -- a load that changes nothing
  pub looks_allowed : (i cell : ℕ) (st : MemberState) (full : Bool) → ((k : CoreState) → stepped_by C k m (member t st full) Look st ≡ some k) → i ≡ suc cell → cell < length r.opening → Allows (Kept r) slots id (sat st full) i (λ n. n) (looked (step slots i 0 0 none) (sat st full))
  looks_allowed i cell st full can e near s h _ at _ =
      let x : Member = member t st full in
      let k : CoreState = h.core in
      let mine = (h.seats id (own st full) at).1 in
      let long = (sound_of r s h).cells_are in
      let word : get_or s.words i 0 ≡ get_or k.cells cell 0 = ap (λ (ws : List ℕ). get_or ws i 0) h.words_are ∙ cell_word k i cell e (omega (arith, near, long)) in (
        own st full,
        keeps,
        tt,
        moves r s h id m x x ws ws Look k (set s.words i (get_or s.words i 0)) at (can k) (sym (set_again k.members m x mine.1)) refl (unread s h i),
        (refl, λ c q. subst (λ (z : ℕ). Looked C z (get_or s.words i 0) (Of m t st full)) (let w : cell ≡ c = omega arith in w) (told s h k refl st (get_or s.words i 0) word mine.1)),
      )
    where
      told : (s : St) (h : Kept r s) (k : CoreState) → h.core ≡ k → (st : MemberState) (n : ℕ) → n ≡ get_or k.cells cell 0 → get_elem? k.members m ≡ some (member t st full) → Looked C cell n (Of m t st full)
      told s h k same Ready n w mine = λ read. w ∙ looks_ready C k (subst (Sound C) same (sound_of r s h)) m (member t Ready full) mine (team_safe r.phases r.opening r.team r.chunk h.may) cell refl read
      told s h k same (Within u d) n w mine = λ read. w ∙ looks_within C k (subst (Sound C) same (sound_of r s h)) m (member t (Within u d) full) mine (team_safe r.phases r.opening r.team r.chunk h.may) u d cell refl read
      told s h k same Out n w mine = tt
      told s h k same Arrived n w mine = tt
      told s h k same Ended n w mine = tt
