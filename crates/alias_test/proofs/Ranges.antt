-- The subscripts of a triplet as numbers of a run, and two triplets that select the same ones.
use Rattle.std.proofs.Common.{◌≡◌, ◌≢◌, sym, ap, ◌∙◌, subst, ℕ, suc, ◌+◌, ◌*◌, ◌-◌, ◌<◌, ℤ, pos, negsuc, neg_ℤ, ◌+ℤ◌, ◌*ℤ◌, ◌<ℤ◌, Bool, true, false, [], ◌∷◌, map, length, get_or, unsigned_abs, arith}
use Rattle.std.specs.Bool.{Decides}
use Rattle.std.specs.List.{Contains}
use Rattle.std.proofs.lemmas.Bool.{false_from_ne_true}
use Rattle.std.proofs.lemmas.Bool.Decides.{same_from_decides, Decides-at, Decides-like}
use Rattle.ws_base.specs.Numbers.{int_eq}
use Rattle.std.proofs.lemmas.Int.{ints}
use Rattle.ws_space.specs.declared.shape.Triplet.{Triplet}
use Rattle.ws_space.specs.Shapes.{count, places_from}
use Rattle.ws_space.specs.Subscripts.{stepped, selected}
use Rattle.ws_space.proofs.Counts.{selected_is, length-selected, get_or-selected}
use Rattle.alias_test.specs.declared.designator.Form.TheVariants.{Index, Range}
use Rattle.alias_test.specs.declared.run.Run.{Run}
use Rattle.alias_test.specs.Relations.{constants_of, same_range}
use Rattle.alias_test.proofs.Numbers.{int_eq-true, Decides-int_eq, Decides-same_list}
use Rattle.alias_test.specs.Runs.{stands_at, Lists}

-- ---- the members of a triplet

abbrev HasStep : Triplet → ℤ → Type 0
HasStep t x = (k : ℕ) × (k < count t) × (x ≡ stepped t k)

step_of : (t : Triplet) (x : ℤ) → t.s ≢ pos 0 → Contains (selected t) x → HasStep t x
step_of t x some h =
    let below : h.0 < count t = subst (λ (n : ℕ). h.0 < n) (length-selected t some) h.1 in
    (h.0, below, sym h.2 ∙ get_or-selected t h.0 x some below)

contains_step : (t : Triplet) (x : ℤ) → t.s ≢ pos 0 → HasStep t x → Contains (selected t) x
contains_step t x some h = (h.0, subst (λ (n : ℕ). h.0 < n) (sym (length-selected t some)) h.1, get_or-selected t h.0 x some h.1 ∙ sym h.2)

-- ---- a run that goes along a triplet, or against it

-- Each place of the triplet is one of the run, and each of the run one of the triplet.
lists_steps : (t : Triplet) (r : Run) (place : ℕ → ℕ) → t.s ≢ pos 0 → r.count ≡ count t → ((k : ℕ) → k < count t → (place k < count t) × (stands_at r (place k) ≡ stepped t k)) →
    ((k : ℕ) → k < count t → (place k < count t) × (stands_at r k ≡ stepped t (place k))) → Lists (constants_of (Range t)) r
unfolding constants_of
lists_steps t r place some same to from = λ x. (
  (λ h. let s : HasStep t x = step_of t x some h in let p = to s.0 s.1 in (place s.0, subst (λ (n : ℕ). place s.0 < n) (sym same) p.0, s.2 ∙ sym p.1)),
  (λ h. let below : h.0 < count t = subst (λ (n : ℕ). h.0 < n) same h.1 in let p = from h.0 below in contains_step t x some (place h.0, p.0, h.2 ∙ p.1)),
)

pub lists_rising : (t : Triplet) (r : Run) → t.s ≢ pos 0 → r.first ≡ t.l → pos r.step ≡ t.s → r.count ≡ count t → Lists (constants_of (Range t)) r
lists_rising t r some first step same =
    let at : (k : ℕ) → k < count t → (k < count t) × (stands_at r k ≡ stepped t k) = λ k h. (h, ap (λ f. f +ℤ pos (k * r.step)) first ∙ ap (λ s. t.l +ℤ pos k *ℤ s) step) in
    lists_steps t r (λ k. k) some same at at

pub lists_none : (t : Triplet) (r : Run) → t.s ≢ pos 0 → r.count ≡ count t → count t ≡ 0 → Lists (constants_of (Range t)) r
lists_none t r some same none = lists_steps t r (λ k. k) some same (λ k h. absurd (omega arith)) (λ k h. absurd (omega arith))

-- j places before the last one
against : (l : ℤ) (m n j k : ℕ) → j + k ≡ n → (l +ℤ neg_ℤ (pos (n * suc m))) +ℤ pos (j * suc m) ≡ l +ℤ neg_ℤ (pos (k * suc m))
against l m n j k e = rw (sym e) (omega (arith, ints))

falling : (l s : ℤ) (step n j k : ℕ) → s <ℤ pos 0 → step ≡ unsigned_abs s → j + k ≡ n → (l +ℤ pos n *ℤ s) +ℤ pos (j * step) ≡ l +ℤ pos k *ℤ s
falling l (pos a) step n j k below e same = absurd (omega (arith, ints))
falling l (negsuc m) step n j k below e same = rw e (against l m n j k same)

pub lists_falling : (t : Triplet) (r : Run) → t.s <ℤ pos 0 → t.s ≢ pos 0 → r.first ≡ stepped t (count t - 1) → r.step ≡ unsigned_abs t.s → r.count ≡ count t → Lists (constants_of (Range t)) r
lists_falling t r below some first step same =
    let at : (j k : ℕ) → j + k ≡ count t - 1 → stands_at r j ≡ stepped t k = λ j k e. ap (λ f. f +ℤ pos (j * r.step)) first ∙ falling t.l t.s r.step (count t - 1) j k below step e in
    lists_steps t r (λ k. count t - 1 - k) some same (λ k h. (omega arith, at (count t - 1 - k) k (omega arith))) (λ k h. (omega arith, at k (count t - 1 - k) (omega arith)))

pub lists_index : (i : ℤ) (r : Run) → r.first ≡ i → r.count ≡ 1 → Lists (constants_of (Index i)) r
unfolding constants_of
lists_index i r first one = λ x. (
  (λ h. let place : h.0 ≡ 0 = omega arith in let at : i ≡ x = subst (λ (n : ℕ). get_or (i ∷ []) n x ≡ x) place h.2 in (0, omega arith, omega (arith, ints))),
  (λ h. let place : h.0 ≡ 0 = omega arith in let at : x ≡ stands_at r 0 = subst (λ (n : ℕ). x ≡ stands_at r n) place h.2 in (0, omega arith, omega (arith, ints))),
)

-- ---- two triplets

two_steps : (l m s t : ℤ) → l +ℤ pos 1 *ℤ s ≡ m +ℤ pos 1 *ℤ t → l ≡ m → s ≡ t
two_steps l m s t e same = omega (arith, ints)

stepped-zero : (t : Triplet) → stepped t 0 ≡ t.l
stepped-zero t = omega (arith, ints)

-- the first of each
same_first : (t u : Triplet) → t.s ≢ pos 0 → u.s ≢ pos 0 → 0 < count t → 0 < count u → selected t ≡ selected u → t.l ≡ u.l
same_first t u st su nt nu same = sym (stepped-zero t) ∙ (sym (get_or-selected t 0 (pos 0) st nt) ∙ (ap (λ xs. get_or xs 0 (pos 0)) same ∙ (get_or-selected u 0 (pos 0) su nu ∙ stepped-zero u)))

same_stride : (t u : Triplet) → t.s ≢ pos 0 → u.s ≢ pos 0 → 1 < count t → 1 < count u → selected t ≡ selected u → t.s ≡ u.s
same_stride t u st su nt nu same =
    let second : stepped t 1 ≡ stepped u 1 = sym (get_or-selected t 1 (pos 0) st nt) ∙ (ap (λ xs. get_or xs 1 (pos 0)) same ∙ get_or-selected u 1 (pos 0) su nu) in
    two_steps t.l u.l t.s u.s second (same_first t u st su (omega arith) (omega arith) same)

selected_none : (t : Triplet) → t.s ≢ pos 0 → count t ≡ 0 → selected t ≡ []
selected_none t some none = selected_is t some ∙ ap (λ n. map (stepped t) (places_from 0 n)) none

selected_one : (t : Triplet) → t.s ≢ pos 0 → count t ≡ 1 → selected t ≡ t.l ∷ []
selected_one t some one = selected_is t some ∙ (ap (λ n. map (stepped t) (places_from 0 n)) one ∙ ap (λ x. x ∷ []) (stepped-zero t))

selected_alike : (t u : Triplet) → t.s ≢ pos 0 → u.s ≢ pos 0 → count t ≡ count u → t.l ≡ u.l → t.s ≡ u.s → selected t ≡ selected u
selected_alike t u st su same first stride =
    selected_is t st ∙ (ap (λ n. map (stepped t) (places_from 0 n)) same
    ∙ (ap (λ l. map (λ k. l +ℤ pos k *ℤ t.s) (places_from 0 (count u))) first ∙ (ap (λ s. map (λ k. u.l +ℤ pos k *ℤ s) (places_from 0 (count u))) stride ∙ sym (selected_is u su))))

Decides-same_range : (t u : Triplet) → Decides (same_range t u) (selected t ≡ selected u)
unfolding same_range
Decides-same_range t u = Decides-same_list (selected t) (selected u)

pub ranges_of_other_counts : (t u : Triplet) → t.s ≢ pos 0 → u.s ≢ pos 0 → (count t ≡ count u → ⊥) → false ≡ same_range t u
ranges_of_other_counts t u st su other =
    sym (false_from_ne_true (same_range t u) (λ e. other (sym (length-selected t st) ∙ (ap length ((Decides-same_range t u).0 e) ∙ length-selected u su))))

pub empty_ranges : (t u : Triplet) → t.s ≢ pos 0 → u.s ≢ pos 0 → count t ≡ 0 → count u ≡ 0 → true ≡ same_range t u
empty_ranges t u st su nt nu = sym ((Decides-same_range t u).1 (selected_none t st nt ∙ sym (selected_none u su nu)))

pub ranges_of_one : (t u : Triplet) (b : Bool) → t.s ≢ pos 0 → u.s ≢ pos 0 → count t ≡ 1 → count u ≡ 1 → b ≡ int_eq t.l u.l → b ≡ same_range t u
ranges_of_one t u b st su nt nu e =
    same_from_decides b (same_range t u) (Decides-at b (int_eq t.l u.l) e (Decides-int_eq t.l u.l))
    (Decides-like (same_range t u) (same_first t u st su (omega arith) (omega arith)) (λ same. selected_one t st nt ∙ (ap (λ x. x ∷ []) same ∙ sym (selected_one u su nu))) (Decides-same_range t u))

-- where the first subscript differs
pub ranges_of_other_first : (t u : Triplet) (b : Bool) → t.s ≢ pos 0 → u.s ≢ pos 0 → 0 < count t → count t ≡ count u → (t.l ≡ u.l → ⊥) → b ≡ int_eq t.l u.l → b ≡ same_range t u
ranges_of_other_first t u b st su nt same other e =
    e ∙ (false_from_ne_true (int_eq t.l u.l) (λ h. other (int_eq-true t.l u.l h)) ∙ sym (false_from_ne_true (same_range t u) (λ h. other (same_first t u st su nt (omega arith) ((Decides-same_range t u).0 h)))))

pub ranges_of_one_first : (t u : Triplet) (b : Bool) → t.s ≢ pos 0 → u.s ≢ pos 0 → 1 < count t → count t ≡ count u → t.l ≡ u.l → b ≡ int_eq t.s u.s → b ≡ same_range t u
ranges_of_one_first t u b st su nt same first e =
    same_from_decides b (same_range t u) (Decides-at b (int_eq t.s u.s) e (Decides-int_eq t.s u.s))
    (Decides-like (same_range t u) (same_stride t u st su nt (omega arith)) (selected_alike t u st su same first) (Decides-same_range t u))
