-- A board at its start, and the seats that are split off and joined.
use Rattle.std.proofs.Common.{◌≡◌, ◌≢◌, ◌⊎◌, ⊎_elim, inl, inr, ℕ, zero, suc, ◌+◌, ◌*◌, ◌<◌, List, [], ◌∷◌, ◌++◌, length, length-append, length-set, append_assoc, replicate, set, false, sym, refl, ap, ◌∙◌, subst, arith}
use mathlib.Core.Option.{some, some-injective, some-ne-none}
use lib.ListN.{get_elem?}
use Rattle.atomic_table.specs.Table.{Splits, Joins, opening}
use Rattle.phase_ops.specs.Phases.{none_yet}
use Rattle.team_core.specs.Core.{blank, member, first_state, start}
use Rattle.team_core.specs.Laws.{MayStart}
use Rattle.team_core.proofs.Lists.{at_set, set_again}
use Rattle.team_core.proofs.Laying.{put, put_here, put_else}
use Rattle.phase_board.specs.declared.plays.Run.{Run}
use Rattle.phase_board.specs.declared.plays.View.{View}
use Rattle.phase_board.specs.declared.plays.Role.{Role}
use Rattle.phase_board.specs.declared.plays.Role.TheVariants.{Waiting, Of, Spent}
use Rattle.phase_board.specs.Rule.{course_of, found_by, IsOf, spent_view, count_words, words_of, Stands, Kept, view, base_view, cut_left, cut_right}

one_more : (n : ℕ) → count_words (replicate (suc n) blank) ≡ count_words (replicate n blank) ++ 0 ∷ 0 ∷ 0 ∷ none_yet ∷ []
one_more zero = refl
one_more (suc n) = λ i. 0 ∷ 0 ∷ 0 ∷ none_yet ∷ one_more n i

pub count_more : (xs ys : List ℕ) (n : ℕ) → ys ≡ 0 ∷ (xs ++ count_words (replicate n blank)) → ys ++ 0 ∷ 0 ∷ 0 ∷ none_yet ∷ [] ≡ 0 ∷ (xs ++ count_words (replicate (n + 1) blank))
count_more xs ys n e = ap (λ (l : List ℕ). l ++ 0 ∷ 0 ∷ 0 ∷ none_yet ∷ []) e ∙ (λ i. 0 ∷ (append_assoc xs (count_words (replicate n blank)) (0 ∷ 0 ∷ 0 ∷ none_yet ∷ [])
    ∙ ap (λ (l : List ℕ). xs ++ l) (sym (one_more n) ∙ ap (λ (k : ℕ). count_words (replicate k blank)) (let q : suc n ≡ n + 1 = omega arith in q))) i)

replicated : {A : Type 0} (n i : ℕ) (a : A) → i < n → get_elem? (replicate n a) i ≡ some a
replicated zero i a l = absurd (omega arith)
replicated (suc n) zero a l = refl
replicated (suc n) (suc i) a l = replicated n i a (omega arith)

pub opens : (r : Run) (words : List ℕ) → MayStart r.phases r.opening r.team r.chunk → words ≡ words_of (start (course_of r)) → Kept r (opening words [] (base_view r))
opens r words fit e = record {
  core = start (course_of r);
  steps = [];
  core_is = refl;
  may = fit;
  words_are = e;
  owner = λ _. 0;
  seats = λ j v q. only j v q;
}
  where
    only : (j : ℕ) (v : View) → get_elem? (base_view r ∷ []) j ≡ some v → IsOf r v × Stands r (start (course_of r)) (found_by (course_of r) []) (λ _. 0) j v.sights v.role
    only zero v q = subst (λ (z : View). IsOf r z × Stands r (start (course_of r)) (found_by (course_of r) []) (λ _. 0) 0 z.sights z.role) (some-injective (base_view r) v q)
        (inr refl, λ m l l'. (refl, replicated r.team m (member 0 (first_state (length r.phases)) false) l', refl))
    only (suc j) v q = absurd (some-ne-none v (sym q))

at_end : {A : Type 0} (l : List A) (a b : A) (j : ℕ) → get_elem? (l ++ a ∷ []) j ≡ some b → (get_elem? l j ≡ some b) ⊎ ((j ≡ length l) × (a ≡ b))
at_end [] a b zero e = inr (refl, some-injective a b e)
at_end [] a b (suc j) e = absurd (some-ne-none b (sym e))
at_end (x ∷ xs) a b zero e = inl e
at_end (x ∷ xs) a b (suc j) e = ⊎_elim inl (λ t. inr (ap suc t.0, t.1)) (at_end xs a b j e)

-- the member n gets a seat of its own
pub splits : (r : Run) (id n : ℕ) → n < r.team → Splits (Kept r) id (view r (Waiting n) []) (cut_left (view r (Waiting n) [])) (cut_right (view r (Waiting n) []))
splits r id n l s h at = let base = (h.seats id (view r (Waiting n) []) at).1 in let new : ℕ = length s.views in let owner : ℕ → ℕ = put h.owner n new in let found : ℕ → List ℕ = found_by (course_of r) h.steps in record {
  core = h.core;
  steps = h.steps;
  core_is = h.core_is;
  may = h.may;
  words_are = h.words_are;
  owner = owner;
  seats = λ j v q. ⊎_elim
      (λ q'. ⊎_elim
      (λ (t : (j ≡ id) × (view r (Waiting (suc n)) [] ≡ v)). subst (λ (z : ℕ × View). IsOf r z.1 × Stands r h.core found owner z.0 z.1.sights z.1.role) (λ i. (sym t.0 i, t.1 i))
      (inr refl, λ m a b. let o = base m (omega arith) b in (put_else h.owner n new m (λ e. omega arith) ∙ o.0, o.1, o.2)))
      (λ (t : (j ≢ id) × (get_elem? s.views j ≡ some v)). let o = h.seats j v t.1 in (o.0, others j (λ e. t.0 (sym e ∙ (base n (omega arith) l).0)) v.sights v.role o.1))
      (at_set s.views id j (view r (Waiting (suc n)) []) v q'))
      (λ (t : (j ≡ length (set s.views id (view r (Waiting (suc n)) []))) × (view r (Of n 0 (first_state (length r.phases)) false) [] ≡ v)).
      subst (λ (z : ℕ × View). IsOf r z.1 × Stands r h.core found owner z.0 z.1.sights z.1.role) (λ i. (sym (t.0 ∙ length-set s.views id (view r (Waiting (suc n)) [])) i, t.1 i))
      (inr refl, (put_here h.owner n new, (base n (omega arith) l).1, sym (base n (omega arith) l).2)))
      (at_end (set s.views id (view r (Waiting (suc n)) [])) (view r (Of n 0 (first_state (length r.phases)) false) []) v j q);
}
  where
    others : (j : ℕ) → (h.owner n ≡ j → ⊥) → (had : List ℕ) (role : Role) → Stands r h.core (found_by (course_of r) h.steps) h.owner j had role → Stands r h.core (found_by (course_of r) h.steps) (put h.owner n (length s.views)) j had role
    others j not had (Waiting k) old = λ m a b. let o = old m a b in (put_else h.owner n (length s.views) m (λ e. not (ap h.owner (sym e) ∙ o.0)) ∙ o.0, o.1, o.2)
    others j not had (Of m t st full) old = (put_else h.owner n (length s.views) m (λ e. not (ap h.owner (sym e) ∙ old.0)) ∙ old.0, old.1, old.2)
    others j not had Spent old = tt

pub splits_seat : (key r : Run) (id n : ℕ) (me : View) → key ≡ r → me ≡ view r (Waiting n) [] → n < r.team → Splits (Kept key) id me (cut_left me) (cut_right me)
splits_seat key r id n me k e l = subst (λ (z : Run × View). Splits (Kept z.0) id z.1 (cut_left z.1) (cut_right z.1)) (λ i. (sym k i, sym e i)) (splits r id n l)

blanks_length : (n : ℕ) → length (count_words (replicate n blank)) ≡ 4 * n
blanks_length zero = refl
blanks_length (suc n) = let h = blanks_length n in omega arith

pub start_length : (r : Run) (words : List ℕ) → words ≡ words_of (start (course_of r)) → length words ≡ 1 + length r.opening + 4 * length r.phases
start_length r words e = let a = ap (λ (l : List ℕ). length l) e in let b = length-append r.opening (count_words (replicate (length r.phases) blank)) in let d = blanks_length (length r.phases) in omega arith

-- a seat is joined into another, which keeps its view
pub joins : (r : Run) (id other : ℕ) (v w : View) → Joins (Kept r) id v other w v spent_view
joins r id other v w s h at apart there = let same : set s.views id v ≡ s.views = set_again s.views id v at in
    subst (λ (vs : List View). Kept r record { words = s.words; homes = s.homes; views = set vs other spent_view }) (sym same) record {
      core = h.core;
      steps = h.steps;
      core_is = h.core_is;
      may = h.may;
      words_are = h.words_are;
      owner = h.owner;
      seats = λ j x q. ⊎_elim
          (λ (t : (j ≡ other) × (spent_view ≡ x)). subst (λ (z : View). IsOf r z × Stands r h.core (found_by (course_of r) h.steps) h.owner j z.sights z.role) t.1 (inl refl, tt))
          (λ (t : (j ≢ other) × (get_elem? s.views j ≡ some x)). h.seats j x t.1)
          (at_set s.views other j spent_view x q);
    }
