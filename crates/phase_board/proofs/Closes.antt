-- What the words of an ended board say.
use Rattle.std.proofs.Common.{◌≡◌, ℕ, zero, suc, ◌+◌, ◌*◌, ◌<◌, ◌≤◌, Bool, cond, List, [], ◌∷◌, ◌++◌, length, length-append, sum, get_or, sym, refl, ap, ◌∙◌, subst, arith}
use Rattle.std.proofs.lemmas.Bool.{lt-ltb, le-ltb}
use Rattle.std.proofs.lemmas.List.Sums.{sum_by-cons}
use Rattle.std.proofs.Math.Nat.{suc-mul}
use mathlib.Core.Logic.{dite}
use mathlib.Core.Option.{some, some-injective, some-ne-none}
use native.Mathlib.Decide.{ℕ_discrete, dec_le}
use lib.ListN.{get_elem?}
use Rattle.atomic_table.specs.Table.{Me, Final, Seen}
use Rattle.phase_ops.specs.Phases.{Cells, none_yet, units, after}
use Rattle.phase_ops.specs.Course.{work_at, memory_after, all_effects}
use Rattle.phase_ops.proofs.Courses.{memory_is, key_is}
use Rattle.team_core.specs.declared.member.MemberState.TheVariants.{Ended}
use Rattle.team_core.specs.declared.state.Counts.{Counts}
use Rattle.team_core.specs.declared.state.CoreState.{CoreState}
use Rattle.team_core.specs.Core.{Ending, counts_at, member}
use Rattle.team_core.specs.Machines.{CanRun}
use Rattle.team_core.proofs.Teams.{team_can}
use Rattle.team_core.specs.Laws.{phase_at}
use Rattle.team_core.proofs.Ends.{ends}
use Rattle.team_core.proofs.Laying.{lay_key}
use Rattle.phase_board.specs.declared.plays.Run.{Run}
use Rattle.phase_board.specs.declared.plays.View.{View}
use Rattle.phase_board.specs.declared.plays.Role.TheVariants.{Of}
use Rattle.phase_board.specs.declared.board.Board.{Board}
use Rattle.phase_board.specs.declared.board.Pass.TheInside.{Inside}
use Rattle.phase_board.specs.Rule.{course_of, S, Kept, view}
use Rattle.phase_board.specs.Held.{Held}
use Rattle.phase_board.specs.Passes.{IsPassOf, AllDone}
use Rattle.phase_board.specs.Closed.{AreClosed, IsOutcome, finished_of}
use Rattle.phase_board.proofs.Moves.{sound_of}
use Rattle.phase_board.proofs.Units.{held}
use Rattle.phase_board.proofs.Words.{cell_word, count_word}
use Rattle.phase_board.proofs.Results.{keyed, result_found, key_stands}

-- no phase has more finished units than a count of iterations
few_finished : (r : Run) (k : CoreState) (entered : ℕ) → Ending (course_of r) k entered → CanRun (course_of r) → (t : ℕ) → t < length r.phases → (counts_at k t).numbers.finished ≤ 65536
few_finished r k entered end can t l = dite (dec_le (suc t) entered)
    (λ b. let e = end.finished t b in let f = can.few_units t l (λ s h. sym (end.keys s (omega (arith, h, b))) ∙ end.earlier s (omega (arith, h, b))) in omega (arith, e, f))
    (λ b. let e = ap (λ (v : Counts). v.numbers.finished) (end.untouched t (omega (arith, b))) in omega (arith, e))

pub closes : (key r : Run) (id m t : ℕ) (v : View) (full : Bool) (sights words : List ℕ) (slots : List S) → key ≡ r → 0 < r.team → v ≡ view r (Of m t Ended full) sights → Final (Seen (Kept key) id v) words slots → AreClosed r words
closes key r id m t v full sights words slots k some_one e f =
    let h : Kept r f.0 = subst (λ (z : Run). Kept z f.0) k f.1.0 in
    let mine' = (h.seats id (view r (Of m t Ended full) sights) (f.1.1 ∙ ap (λ (z : View). some z) e)).1 in
    let end = ends (course_of r) h.core (sound_of r f.0 h) m (member t Ended full) mine'.1 some_one refl in
    (h.core, sym f.2 ∙ h.words_are, (sound_of r f.0 h).cells_are, (sound_of r f.0 h).sized, end.0, end.1, few_finished r h.core end.0 end.1 (team_can r.phases r.opening r.team r.chunk h.may), h.may)

-- the last pass tells that the words are those of an ended board
pub closed_by : (b : Board) (p : Inside) (q : Held) → held p ≡ q → p.seat.me ≡ (view p.seat.me.0.run (Of p.member p.phase p.state p.full) p.seat.me.0.sights, []) → IsPassOf b q × (q.state ≡ Ended)
    → (id : ℕ) (me : Me S View) → me ≡ p.seat.me → (words : List ℕ) (slots : List S) → Final (Seen (Kept b.table.shared.key.value) id me.0) words slots → AreClosed b.run words
closed_by b p q v mine is id me same words slots f =
    let run = ap (λ (z : Held). z.run) v ∙ is.0.1 in
    let state = ap (λ (z : Held). z.state) v ∙ is.1 in
    closes b.table.shared.key.value b.run id p.member p.phase me.0 p.full p.seat.me.0.sights words slots b.keyed b.sized.3
    (ap (λ m. m.0) (same ∙ mine) ∙ (λ i. view (run i) (Of p.member p.phase (state i) p.full) p.seat.me.0.sights)) f

pub same_list : (xs ys : List ℕ) → length xs ≡ length ys → ((k : ℕ) → k < length xs → get_or xs k 0 ≡ get_or ys k 0) → xs ≡ ys
same_list [] [] e h = refl
same_list [] (y ∷ ys) e h = absurd (omega arith)
same_list (x ∷ xs) [] e h = absurd (omega arith)
same_list (x ∷ xs) (y ∷ ys) e h = λ i. h zero (omega arith) i ∷ same_list xs ys (omega arith) (λ k l. h (suc k) (omega arith)) i

-- few finished units in each phase are few in all
sum_few : (xs : List ℕ) (most : ℕ) → ((k : ℕ) → k < length xs → get_or xs k 0 ≤ most) → sum xs ≤ length xs * most
sum_few [] most h = omega arith
sum_few (x ∷ xs) most h = let r = sum_few xs most (λ k l. h (suc k) (omega (arith, l))) in let z = suc-mul (length xs) most in let x' = h 0 (omega arith) in let e = sum_by-cons (λ y. y) x xs in omega (arith, r, z, x', e)

pub finished_few : (r : Run) (words finished : List ℕ) → AreClosed r words → length finished ≡ length r.phases → length r.phases ≤ 512 → ((t : ℕ) → t < length r.phases → get_or finished t 0 ≡ get_or words (2 + length r.opening + 4 * t) 0) → sum finished ≤ 33554432
finished_few r words finished a long short fins =
    let n = a.2 in let ph = a.3 in
    let each : (k : ℕ) → k < length finished → get_or finished k 0 ≤ 65536 = λ k l.
    let word = ap (λ (ws : List ℕ). get_or ws (2 + length r.opening + 4 * k) 0) a.1 ∙ count_word a.0 (2 + length r.opening + 4 * k) k 1 (omega (arith, n)) (omega arith) (omega (arith, ph, l, long)) in
    let f = fins k (omega (arith, l, long)) in let b = a.6 k (omega (arith, l, long)) in omega (arith, f, word, b) in
    let s = sum_few finished 65536 each in omega (arith, s, long, short)

module _ (r : Run) (words closing finished : List ℕ) (entered key : ℕ) (a : AreClosed r words) (long : length closing ≡ length r.opening) (cells : (k : ℕ) → k < length closing → get_or closing k 0 ≡ get_or words (1 + k) 0)
    (enough : length finished ≡ length r.phases) (short : length r.phases ≤ 512)
    (fins : (t : ℕ) → t < length r.phases → get_or finished t 0 ≡ get_or words (2 + length r.opening + 4 * t) 0)
    (within : entered ≤ length r.phases)
    (earlier : (t : ℕ) → t + 1 < entered → none_yet ≤ get_or words (4 + length r.opening + 4 * t) 0)
    (last : key < none_yet → (t : ℕ) × (t + 1 ≡ entered) × (get_or words (4 + length r.opening + 4 * t) 0 ≡ key))
    (most : key ≤ none_yet) (whole : none_yet ≤ key → (entered ≡ length r.phases) × ((t : ℕ) → t < length r.phases → none_yet ≤ get_or words (4 + length r.opening + 4 * t) 0)) where
  key_word : (t : ℕ) → t < length r.phases → get_or words (4 + length r.opening + 4 * t) 0 ≡ (counts_at a.0 t).key
  key_word t l = let n = a.2 in let ph = a.3 in ap (λ (ws : List ℕ). get_or ws (4 + length r.opening + 4 * t) 0) a.1 ∙ count_word a.0 (4 + length r.opening + 4 * t) t 3 (omega (arith, n)) (omega arith) (omega (arith, ph, l))

  closing_is : closing ≡ (a.0).cells
  closing_is = let n = a.2 in same_list closing (a.0).cells (omega (arith, long, n)) (λ k l. cells k l ∙ (ap (λ (ws : List ℕ). get_or ws (1 + k) 0) a.1 ∙ cell_word a.0 (1 + k) k (omega arith) (omega (arith, l, long, n))))

  entered_is : entered ≡ a.4
  entered_is = let end = a.5 in dite (dec_le none_yet key)
      (λ none. let w = whole none in let le = end.within in dite (dec_le (length r.phases) a.4) (λ b. let w₀ = w.0 in omega (arith, b, w₀, le))
      (λ b. let s = end.stopped (omega (arith, b)) in let s₁ = s.1 in let s₂ = s.2 in let g = w.1 s.0 (omega (arith, b, s₁)) in let q = key_word s.0 (omega (arith, b, s₁)) in absurd (omega (arith, g, q, s₂))))
      (λ stands. let l = last (omega (arith, stands)) in let t : ℕ = l.0 in let l₁ = l.1 in let l₂ = l.2 in let q = key_word t (omega (arith, l₁, within)) in
      dite (dec_le a.4 t) (λ b. let z = ap (λ (v : Counts). v.key) (end.untouched t b) in absurd (omega (arith, z, q, l₂, stands)))
      (λ b. dite (ℕ_discrete (suc t) a.4) (λ e. omega (arith, e, l₁)) (λ e. let z = end.earlier t (omega (arith, b, e)) in absurd (omega (arith, z, q, l₂, stands)))))

  top : (t : ℕ) → t < length r.phases → suc t ≡ a.4 → none_yet ≤ get_or words (4 + length r.opening + 4 * t) 0 → (counts_at a.0 t).key ≡ none_yet
  top t l e g = let q = key_word t l in let end = a.5 in let k = end.keys t (omega (arith, e)) in let le = lay_key (memory_after (course_of r) t, none_yet) (all_effects (work_at (course_of r) t) (work_at (course_of r) t).units) in omega (arith, q, g, k, le)

  keyless : (t : ℕ) → t < length r.phases → none_yet ≤ get_or words (4 + length r.opening + 4 * t) 0 → (counts_at a.0 t).key ≡ none_yet
  keyless t l g = let q = key_word t l in let end = a.5 in dite (dec_le a.4 t) (λ b. ap (λ (v : Counts). v.key) (end.untouched t b))
      (λ b. dite (ℕ_discrete (suc t) a.4) (λ e. top t l e g) (λ e. end.earlier t (omega (arith, b, e))))

  closing_after : closing ≡ after r.phases r.opening r.chunk entered
  closing_after = closing_is ∙ (a.5).cells_are ∙ ap (memory_after (course_of r)) (sym entered_is) ∙ memory_is r.phases r.opening r.chunk r.team entered within

  key_before : (t : ℕ) → suc t < entered → keyed r.chunk r.phases r.opening t ≡ none_yet
  key_before t l = let e = entered_is in let end = a.5 in
      sym (key_is r.phases r.opening r.chunk r.team t (omega (arith, l, within))) ∙ sym (end.keys t (omega (arith, l, e))) ∙ end.earlier t (omega (arith, l, e))

  key_last : (t : ℕ) → suc t ≡ entered → keyed r.chunk r.phases r.opening t ≡ key
  key_last t at = let e = entered_is in
      sym (key_is r.phases r.opening r.chunk r.team t (omega (arith, at, within))) ∙ sym ((a.5).keys t (omega (arith, at, e)))
      ∙ dite (dec_le none_yet key)
      (λ none. keyless t (omega (arith, at, within)) ((whole none).1 t (omega (arith, at, within))) ∙ (let q : none_yet ≡ key = omega (arith, none, most) in q))
      (λ stands. let l = last (omega (arith, stands)) in let l₁ = l.1 in
      let same : t ≡ l.0 = omega (arith, at, l₁) in ap (λ (n : ℕ). (counts_at a.0 n).key) same ∙ sym (key_word l.0 (omega (arith, l₁, within))) ∙ l.2)

  key_none : entered ≡ 0 → key ≡ none_yet
  key_none z = dite (dec_le none_yet key) (λ none. let q : key ≡ none_yet = omega (arith, none, most) in q) (λ stands. let l = last (omega (arith, stands)) in let l₁ = l.1 in absurd (omega (arith, z, l₁)))

  key_stopped : entered < length r.phases → key < none_yet
  key_stopped l = dite (dec_le none_yet key) (λ none. let w = (whole none).0 in absurd (omega (arith, l, w))) (λ stands. let q : key < none_yet = omega (arith, stands) in q)

  finished_at : (t : ℕ) → t < length r.phases → get_or finished t 0 ≡ finished_of r entered t
  finished_at t l =
      let e = entered_is in let end = a.5 in
      let n = a.2 in let ph = a.3 in
      let word : get_or words (2 + length r.opening + 4 * t) 0 ≡ (counts_at a.0 t).numbers.finished = ap (λ (ws : List ℕ). get_or ws (2 + length r.opening + 4 * t) 0) a.1 ∙ count_word a.0 (2 + length r.opening + 4 * t) t 1 (omega (arith, n)) (omega arith) (omega (arith, ph, l)) in
      fins t l ∙ word ∙ dite (dec_le (suc t) entered)
      (λ b. end.finished t (omega (arith, b, e)) ∙ ap (λ (m : Cells). units (phase_at r.phases t) m r.chunk) (memory_is r.phases r.opening r.chunk r.team t (omega (arith, l)))
      ∙ sym (ap (λ (x : Bool). cond x (units (phase_at r.phases t) (after r.phases r.opening r.chunk t) r.chunk) 0) (lt-ltb t entered b)))
      (λ b. ap (λ (v : Counts). v.numbers.finished) (end.untouched t (omega (arith, b, e)))
      ∙ sym (ap (λ (x : Bool). cond x (units (phase_at r.phases t) (after r.phases r.opening r.chunk t) r.chunk) 0) (le-ltb t entered (omega (arith, b)))))

  pub outcome_is : IsOutcome r entered key closing finished
  outcome_is = record {
    within = within;
    as_many = enough;
    cells_are = closing_after;
    earlier = key_before;
    last = key_last;
    none = key_none;
    stopped = key_stopped;
    result_is = result_found r.chunk r.phases r.opening closing entered key within closing_after key_before key_last key_none key_stopped most;
    has_key = key_stands r.chunk r.phases r.opening closing entered key within closing_after key_before key_last key_none key_stopped most r.team a.7;
    few = finished_few r words finished a enough short fins;
    finished_are = finished_at;
  }

pub word_at : (xs : List ℕ) (i a : ℕ) → get_elem? xs i ≡ some a → a ≡ get_or xs i 0
word_at [] i a e = absurd (some-ne-none a (sym e))
word_at (x ∷ xs) zero a e = sym (some-injective x a e)
word_at (x ∷ xs) (suc i) a e = word_at xs i a e

-- the last of the passes is one of the board's
pub gathered : (b : Board) (passes rest : List Held) (last : Held) → AllDone b passes → passes ≡ rest ++ last ∷ [] → IsPassOf b last × (last.state ≡ Ended)
gathered b passes rest last done e = subst (λ (z : Held). IsPassOf b z × (z.state ≡ Ended)) (ap (λ (l : List Held). get_or l (length rest) last) e ∙ end rest)
    (done (length rest) last (let n = ap (λ (l : List Held). length l) e in let m = length-append rest (last ∷ []) in omega (arith, n, m)))
  where
    end : (xs : List Held) → get_or (xs ++ last ∷ []) (length xs) last ≡ last
    end [] = refl
    end (x ∷ xs) = end xs

-- passes before the last one are done as well
pub done_front : (b : Board) (passes rest : List Held) (last : Held) → AllDone b passes → passes ≡ rest ++ last ∷ [] → AllDone b rest
done_front b passes rest last done e i d l =
    let n = ap (λ (x : List Held). length x) e in let m = length-append rest (last ∷ []) in
    subst (λ (z : Held). IsPassOf b z × (z.state ≡ Ended)) (ap (λ (x : List Held). get_or x i d) e ∙ front rest i l) (done i d (omega (arith, n, m, l)))
  where
    front : (xs : List Held) (i : ℕ) → i < length xs → get_or (xs ++ last ∷ []) i d ≡ get_or xs i d
    front [] i l = absurd (omega (arith, l))
    front (x ∷ xs) zero l = refl
    front (x ∷ xs) (suc i) l = front xs i (omega (arith, l))

-- the same, by the numbers that the code has
pub outcome_at : (r : Run) (words closing finished : List ℕ) (entered key n ph : ℕ) → n ≡ length r.opening → ph ≡ length r.phases → AreClosed r words → length closing ≡ length r.opening → ((k : ℕ) → k < length closing → get_or closing k 0 ≡ get_or words (1 + k) 0)
    → length finished ≡ length r.phases → length r.phases ≤ 512 → ((t : ℕ) → t < length r.phases → get_or finished t 0 ≡ get_or words (2 + length r.opening + 4 * t) 0)
    → entered ≤ ph → ((t : ℕ) → t + 1 < entered → none_yet ≤ get_or words (4 + n + 4 * t) 0) → (key < none_yet → (t : ℕ) × (t + 1 ≡ entered) × (get_or words (4 + n + 4 * t) 0 ≡ key)) → key ≤ none_yet
    → (none_yet ≤ key → (entered ≡ ph) × ((t : ℕ) → t < ph → none_yet ≤ get_or words (4 + n + 4 * t) 0)) → IsOutcome r entered key closing finished
outcome_at r words closing finished entered key n ph en eph a long cells enough short fins within earlier last most whole = subst (λ (z : ℕ × ℕ). entered ≤ z.1 → ((t : ℕ) → t + 1 < entered → none_yet ≤ get_or words (4 + z.0 + 4 * t) 0)
    → (key < none_yet → (t : ℕ) × (t + 1 ≡ entered) × (get_or words (4 + z.0 + 4 * t) 0 ≡ key)) → key ≤ none_yet → (none_yet ≤ key → (entered ≡ z.1) × ((t : ℕ) → t < z.1 → none_yet ≤ get_or words (4 + z.0 + 4 * t) 0)) → IsOutcome r entered key closing finished)
    (λ i. (sym en i, sym eph i)) (outcome_is r words closing finished entered key a long cells enough short fins) within earlier last most whole
