-- What is left of several values, in order of their numbers.
use Rattle.std.proofs.Common.{◌≡◌, ℕ, ◌<◌, ◌≤◌, List, [], ◌∷◌, ◌++◌, All, arith}
use Rattle.std.proofs.lemmas.List.Elements.{All-nil, All-cons, All-head, All-tail}
use Rattle.hlfir_meaning.specs.Environments.{Deferred}
use Rattle.hlfir_meaning.specs.Stage2.{together}
use Rattle.hlfir_meaning.proofs.Walks.{Follow, together-append}
use Rattle.value_laws.specs.Standing.{Before, Ascends, IsOrdered}

pub all-append : {A : Type 0} (P : A → Type 0) (xs ys : List A) → All P xs → All P ys → All P (xs ++ ys)
all-append P [] ys h g = g
all-append P (x ∷ xs) ys h g = All-cons P x (xs ++ ys) (All-head P x xs h) (all-append P xs ys (All-tail P x xs h) g)

pub all-front : {A : Type 0} (P : A → Type 0) (xs ys : List A) → All P (xs ++ ys) → All P xs
all-front P [] ys h = All-nil P
all-front P (x ∷ xs) ys h = All-cons P x xs (All-head P x (xs ++ ys) h) (all-front P xs ys (All-tail P x (xs ++ ys) h))

pub all-back : {A : Type 0} (P : A → Type 0) (xs ys : List A) → All P (xs ++ ys) → All P ys
all-back P [] ys h = h
all-back P (x ∷ xs) ys h = all-back P xs ys (All-tail P x (xs ++ ys) h)

pub all-weaker : {A : Type 0} (P Q : A → Type 0) → ((x : A) → P x → Q x) → (xs : List A) → All P xs → All Q xs
all-weaker P Q f [] h = All-nil Q
all-weaker P Q f (x ∷ xs) h = All-cons Q x xs (f x (All-head P x xs h)) (all-weaker P Q f xs (All-tail P x xs h))

abbrev From : ℕ → List Deferred → Type 0
From n = All (λ d. n ≤ d.number)

before_each : (middle : ℕ) (ds es : List Deferred) → Before ds middle → From middle es → All (λ e. Before ds e.number) es
before_each middle ds es h = all-weaker (λ e. middle ≤ e.number) (λ e. Before ds e.number)
    (λ e is. all-weaker (λ d. d.number < middle) (λ d. d.number < e.number) (λ d low. omega (arith, low, is)) ds h) es

with_last : (ds es : List Deferred) (e : Deferred) → All (λ f. Before ds f.number) es → All (λ f. e.number < f.number) es → All (λ f. Before (ds ++ e ∷ []) f.number) es
with_last ds [] e h g = All-nil (λ f. Before (ds ++ e ∷ []) f.number)
with_last ds (f ∷ es) e h g = All-cons (λ k. Before (ds ++ e ∷ []) k.number) f es
    (all-append (λ d. d.number < f.number) ds (e ∷ []) (All-head (λ k. Before ds k.number) f es h) (All-cons (λ d. d.number < f.number) e [] (All-head (λ k. e.number < k.number) f es g) (All-nil (λ d. d.number < f.number))))
    (with_last ds es e (All-tail (λ k. Before ds k.number) f es h) (All-tail (λ k. e.number < k.number) f es g))

follow : (ds es : List Deferred) → All (λ e. Before ds e.number) es → Ascends es → Follow ds es
follow ds [] h g = tt
follow ds (e ∷ es) h g = (All-head (λ k. Before ds k.number) e es h, follow (ds ++ e ∷ []) es (with_last ds es e (All-tail (λ k. Before ds k.number) e es h) g.0) g.1)

pub together-ordered : (low middle high : ℕ) (ds es : List Deferred) → IsOrdered low middle ds → IsOrdered middle high es → together ds es ≡ ds ++ es
together-ordered low middle high ds es h g = together-append ds es (follow ds es (before_each middle ds es h.upto g.from) g.ascending)

ascends-append : (middle : ℕ) (ds es : List Deferred) → Before ds middle → From middle es → Ascends ds → Ascends es → Ascends (ds ++ es)
ascends-append middle [] es h g i j = j
ascends-append middle (d ∷ ds) es h g i j =
    let low = All-head (λ k. k.number < middle) d ds h in (
      all-append (λ e. d.number < e.number) ds es i.0 (all-weaker (λ e. middle ≤ e.number) (λ e. d.number < e.number) (λ e is. omega (arith, low, is)) es g),
      ascends-append middle ds es (All-tail (λ k. k.number < middle) d ds h) g i.1 j,
    )

pub ordered-append : (low middle high : ℕ) (ds es : List Deferred) → low ≤ middle → middle ≤ high → IsOrdered low middle ds → IsOrdered middle high es → IsOrdered low high (ds ++ es)
ordered-append low middle high ds es l m h g = record {
  from = all-append (λ d. low ≤ d.number) ds es h.from (all-weaker (λ d. middle ≤ d.number) (λ d. low ≤ d.number) (λ d is. omega (arith, is, l)) es g.from);
  upto = all-append (λ d. d.number < high) ds es (all-weaker (λ d. d.number < middle) (λ d. d.number < high) (λ d is. omega (arith, is, m)) ds h.upto) g.upto;
  ascending = ascends-append middle ds es h.upto g.from h.ascending g.ascending;
}

pub ordered-none : (low high : ℕ) → IsOrdered low high []
ordered-none low high = record { from = All-nil (λ d. low ≤ d.number); upto = All-nil (λ d. d.number < high); ascending = tt }

pub ordered-one : (low high : ℕ) (d : Deferred) → low ≤ d.number → d.number < high → IsOrdered low high (d ∷ [])
ordered-one low high d l h = record {
  from = All-cons (λ e. low ≤ e.number) d [] l (All-nil (λ e. low ≤ e.number));
  upto = All-cons (λ e. e.number < high) d [] h (All-nil (λ e. e.number < high));
  ascending = (All-nil (λ e. d.number < e.number), tt);
}

pub ordered-wider : (low low' high high' : ℕ) (ds : List Deferred) → low' ≤ low → high ≤ high' → IsOrdered low high ds → IsOrdered low' high' ds
ordered-wider low low' high high' ds l h is = record {
  from = all-weaker (λ d. low ≤ d.number) (λ d. low' ≤ d.number) (λ d g. omega (arith, g, l)) ds is.from;
  upto = all-weaker (λ d. d.number < high) (λ d. d.number < high') (λ d g. omega (arith, g, h)) ds is.upto;
  ascending = is.ascending;
}
