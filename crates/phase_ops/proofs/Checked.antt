-- A phase over known cells is free of races where its strands can be gone through.
use Rattle.std.proofs.Common.{◌≡◌, ◌⊎◌, inl, inr, ℕ, zero, suc, ◌<◌, ◌≤◌, Bool, true, false, not, ◌&&◌, ◌||◌, eqb, ltb, leb, eq-eqb, List, [], ◌∷◌, ◌++◌, length, sym, refl, ap, ◌∙◌, subst, arith, ℤ, pos, negsuc, ◌<ℤ◌, ◌≤ℤ◌}
use Rattle.std.proofs.lemmas.Bool.{and_parts, not-true, ltb-true, leb-true, eqb-true, true≢false, false≢true}
use Rattle.std.proofs.lemmas.Int.{ints}
use mathlib.Core.Logic.{dite}
use native.Mathlib.Decide.{ℕ_discrete}
use Rattle.phase_ops.specs.declared.phase.Micro.{Micro}
use Rattle.phase_ops.specs.declared.phase.Act.{Act}
use Rattle.phase_ops.specs.declared.phase.Phase.{Phase}
use Rattle.phase_ops.specs.Phases.{Cells, strands, strand_events, strand_effects, reads, divides, parameter}
use Rattle.phase_ops.specs.Free.{In, stored, lessened, registers, NameEarlier, acts_of, count_value, ReductionFits, Apart, WellFormed, IsChunk, Free}

-- ---- tests on lists

abbrev every : ℕ → (ℕ → Bool) → Bool
every zero f = true
every (suc n) f = f n && every n f

every_one : (n : ℕ) (f : ℕ → Bool) → every n f ≡ true → (s : ℕ) → s < n → f s ≡ true
every_one zero f h s l = absurd (omega (arith, l))
every_one (suc n) f h s l = let both = and_parts (f n) (every n f) h in
    dite (ℕ_discrete s n) (λ e. ap f e ∙ both.0) (λ e. every_one n f both.1 s (omega (arith, e, l)))

abbrev has : ℕ → List ℕ → Bool
has x [] = false
has x (y ∷ ys) = eqb x y || has x ys

or_right : (a b : Bool) → b ≡ true → (a || b) ≡ true
or_right true b e = refl
or_right false b e = e

has_in : (x : ℕ) (ys : List ℕ) → In x ys → has x ys ≡ true
has_in x [] i = elim i [ ]
has_in x (y ∷ ys) (inl e) = ap (λ (b : Bool). b || has x ys) (eq-eqb x y e)
has_in x (y ∷ ys) (inr i) = or_right (eqb x y) (has x ys) (has_in x ys i)

-- no cell stands in both
abbrev clear : List ℕ → List ℕ → Bool
clear [] ys = true
clear (x ∷ xs) ys = not (has x ys) && clear xs ys

no_both : (xs ys : List ℕ) → clear xs ys ≡ true → (c : ℕ) → In c xs → In c ys → ⊥
no_both [] ys h c i j = elim i [ ]
no_both (x ∷ xs) ys h c (inl e) j = false≢true (sym (not-true (has x ys) (and_parts (not (has x ys)) (clear xs ys) h).0) ∙ has_in x ys (subst (λ (z : ℕ). In z ys) e j))
no_both (x ∷ xs) ys h c (inr i) j = no_both xs ys (and_parts (not (has x ys)) (clear xs ys) h).1 c i j

abbrev below : ℕ → List ℕ → Bool
below n [] = true
below n (x ∷ xs) = ltb x n && below n xs

all_below : (n : ℕ) (xs : List ℕ) → below n xs ≡ true → (c : ℕ) → In c xs → c < n
all_below n [] h c i = elim i [ ]
all_below n (x ∷ xs) h c (inl e) = subst (λ (z : ℕ). z < n) (sym e) (ltb-true x n (and_parts (ltb x n) (below n xs) h).0)
all_below n (x ∷ xs) h c (inr i) = all_below n xs (and_parts (ltb x n) (below n xs) h).1 c i

abbrev is_positive : ℤ → Bool
is_positive (pos zero) = false
is_positive (pos (suc n)) = true
is_positive (negsuc n) = false

abbrev positive : List ℤ → Bool
positive [] = true
positive (z ∷ zs) = is_positive z && positive zs

one_positive : (z : ℤ) → is_positive z ≡ true → pos 0 <ℤ z
one_positive (pos zero) e = absurd (false≢true e)
one_positive (pos (suc n)) e = omega (arith, ints)
one_positive (negsuc n) e = absurd (false≢true e)

all_positive : (zs : List ℤ) → positive zs ≡ true → (z : ℤ) → In z zs → pos 0 <ℤ z
all_positive [] h z i = elim i [ ]
all_positive (y ∷ ys) h z (inl e) = subst (λ (x : ℤ). pos 0 <ℤ x) (sym e) (one_positive y (and_parts (is_positive y) (positive ys) h).0)
all_positive (y ∷ ys) h z (inr i) = all_positive ys (and_parts (is_positive y) (positive ys) h).1 z i

-- ---- tests on acts

abbrev named : ℕ → List Micro → Bool
named k [] = true
named k (op ∷ ops) = below k (registers op) && named (suc k) ops

names_earlier : (k : ℕ) (ops : List Micro) → named k ops ≡ true → NameEarlier k ops
names_earlier k [] h = tt
names_earlier k (op ∷ ops) h = let both = and_parts (below k (registers op)) (named (suc k) ops) h in (all_below k (registers op) both.0, names_earlier (suc k) ops both.1)

abbrev formed : List Act → Bool
formed [] = true
formed (a ∷ as') = leb (length a.ops) 1048576 && (named 0 a.ops && formed as')

all_formed : (as' : List Act) → formed as' ≡ true → (a : Act) → In a as' → (length a.ops ≤ 1048576) × NameEarlier 0 a.ops
all_formed [] h a i = elim i [ ]
all_formed (x ∷ xs) h a (inl e) = let first = and_parts (leb (length x.ops) 1048576) (named 0 x.ops && formed xs) h in
    subst (λ (y : Act). (length y.ops ≤ 1048576) × NameEarlier 0 y.ops) (sym e) (leb-true (length x.ops) 1048576 first.0, names_earlier 0 x.ops (and_parts (named 0 x.ops) (formed xs) first.1).0)
all_formed (x ∷ xs) h a (inr i) = all_formed xs (and_parts (named 0 x.ops) (formed xs) (and_parts (leb (length x.ops) 1048576) (named 0 x.ops && formed xs) h).1).1 a i

-- ---- a phase

-- two strands, and whether they are one
abbrev stay_apart : Phase → Cells → ℕ → ℕ → ℕ → Bool
stay_apart p m chunk s t = eqb s t || (clear (stored (strand_effects p m chunk s)) (stored (strand_effects p m chunk t)) && clear (stored (strand_effects p m chunk s)) (reads p m chunk t))

abbrev lessen_apart : Phase → Cells → ℕ → ℕ → ℕ → Bool
lessen_apart p m chunk s t = clear (lessened (strand_effects p m chunk s)) (stored (strand_effects p m chunk t)) && clear (lessened (strand_effects p m chunk s)) (reads p m chunk t)

abbrev leave_count : Phase → Cells → ℕ → ℕ → Bool
leave_count p m chunk s = clear (stored (strand_effects p m chunk s)) (parameter p) && clear (lessened (strand_effects p m chunk s)) (parameter p)

abbrev within : Phase → Cells → ℕ → ℕ → Bool
within p m chunk s = below (length m) (reads p m chunk s) && (below (length m) (stored (strand_effects p m chunk s)) && below (length m) (lessened (strand_effects p m chunk s)))

abbrev divide_well : Phase → Cells → ℕ → ℕ → Bool
divide_well p m chunk s = positive (divides (strand_events p m chunk s))

record IsTested (p : Phase) (m : Cells) (chunk : ℕ) : Type 0 where
  acts : formed (acts_of p) ≡ true
  strands_apart : every (strands p m chunk) (λ s. every (strands p m chunk) (stay_apart p m chunk s)) ≡ true
  leasts_apart : every (strands p m chunk) (λ s. every (strands p m chunk) (lessen_apart p m chunk s)) ≡ true
  count_stays : every (strands p m chunk) (leave_count p m chunk) ≡ true
  inside : every (strands p m chunk) (within p m chunk) ≡ true
  divisors : every (strands p m chunk) (divide_well p m chunk) ≡ true
  there : below (length m) (parameter p) ≡ true

-- all of it can be gone through
abbrev pub test : Phase → Cells → ℕ → Bool
test p m chunk =
    formed (acts_of p)
    && (every (strands p m chunk) (λ s. every (strands p m chunk) (stay_apart p m chunk s))
    && (every (strands p m chunk) (λ s. every (strands p m chunk) (lessen_apart p m chunk s))
    && (every (strands p m chunk) (leave_count p m chunk)
    && (every (strands p m chunk) (within p m chunk)
    && (every (strands p m chunk) (divide_well p m chunk) && below (length m) (parameter p))))))

tested : (p : Phase) (m : Cells) (chunk : ℕ) → test p m chunk ≡ true → IsTested p m chunk
tested p m chunk h =
    let a = and_parts _ _ h in
    let b = and_parts _ _ a.1 in
    let c = and_parts _ _ b.1 in
    let d = and_parts _ _ c.1 in
    let e = and_parts _ _ d.1 in
    let f = and_parts _ _ e.1 in
    record { acts = a.0; strands_apart = b.0; leasts_apart = c.0; count_stays = d.0; inside = e.0; divisors = f.0; there = f.1 }

module _ (p : Phase) (m : Cells) (chunk : ℕ) (counts : (pos 0 ≤ℤ count_value p m) × (count_value p m ≤ℤ pos 65536)) (few_acts : length (acts_of p) < 1048576) (reduces : ReductionFits p m chunk) (h : IsTested p m chunk) where
  same_or : (s t : ℕ) → s < strands p m chunk → t < strands p m chunk
      → (s ≡ t) ⊎ ((clear (stored (strand_effects p m chunk s)) (stored (strand_effects p m chunk t)) && clear (stored (strand_effects p m chunk s)) (reads p m chunk t)) ≡ true)
  same_or s t a b = pick (eqb s t) refl (every_one (strands p m chunk) (stay_apart p m chunk s) (every_one (strands p m chunk) (λ x. every (strands p m chunk) (stay_apart p m chunk x)) h.strands_apart s a) t b)
    where
      pick : (e : Bool) → eqb s t ≡ e → (e || (clear (stored (strand_effects p m chunk s)) (stored (strand_effects p m chunk t)) && clear (stored (strand_effects p m chunk s)) (reads p m chunk t))) ≡ true
          → (s ≡ t) ⊎ ((clear (stored (strand_effects p m chunk s)) (stored (strand_effects p m chunk t)) && clear (stored (strand_effects p m chunk s)) (reads p m chunk t)) ≡ true)
      pick true e q = inl (eqb-true s t e)
      pick false e q = inr q

  apart : Apart p m chunk
  apart = record {
    stores = λ s t c a b i j. by_store s t c i j (same_or s t a b);
    loads_apart = λ s t c a b i j. by_load s t c i j (same_or s t a b);
    leasts = λ s t c a b i j. by_least s t c a b i j;
    parameter_apart = λ s c a i j. by_count s c a i j;
  }
    where
      by_store : (s t c : ℕ) → In c (stored (strand_effects p m chunk s)) → In c (stored (strand_effects p m chunk t))
          → (s ≡ t) ⊎ ((clear (stored (strand_effects p m chunk s)) (stored (strand_effects p m chunk t)) && clear (stored (strand_effects p m chunk s)) (reads p m chunk t)) ≡ true) → s ≡ t
      by_store s t c i j (inl e) = e
      by_store s t c i j (inr q) = absurd (no_both (stored (strand_effects p m chunk s)) (stored (strand_effects p m chunk t)) (and_parts _ _ q).0 c i j)

      by_load : (s t c : ℕ) → In c (stored (strand_effects p m chunk s)) → In c (reads p m chunk t)
          → (s ≡ t) ⊎ ((clear (stored (strand_effects p m chunk s)) (stored (strand_effects p m chunk t)) && clear (stored (strand_effects p m chunk s)) (reads p m chunk t)) ≡ true) → s ≡ t
      by_load s t c i j (inl e) = e
      by_load s t c i j (inr q) = absurd (no_both (stored (strand_effects p m chunk s)) (reads p m chunk t) (and_parts _ _ q).1 c i j)

      by_least : (s t c : ℕ) → s < strands p m chunk → t < strands p m chunk → In c (lessened (strand_effects p m chunk s)) → In c (stored (strand_effects p m chunk t)) ⊎ In c (reads p m chunk t) → ⊥
      by_least s t c a b i j =
          let q = and_parts (clear (lessened (strand_effects p m chunk s)) (stored (strand_effects p m chunk t))) (clear (lessened (strand_effects p m chunk s)) (reads p m chunk t))
          (every_one (strands p m chunk) (lessen_apart p m chunk s) (every_one (strands p m chunk) (λ x. every (strands p m chunk) (lessen_apart p m chunk x)) h.leasts_apart s a) t b) in
          on q j
        where
          on : (clear (lessened (strand_effects p m chunk s)) (stored (strand_effects p m chunk t)) ≡ true) × (clear (lessened (strand_effects p m chunk s)) (reads p m chunk t) ≡ true)
              → In c (stored (strand_effects p m chunk t)) ⊎ In c (reads p m chunk t) → ⊥
          on q (inl k) = no_both (lessened (strand_effects p m chunk s)) (stored (strand_effects p m chunk t)) q.0 c i k
          on q (inr k) = no_both (lessened (strand_effects p m chunk s)) (reads p m chunk t) q.1 c i k

      by_count : (s c : ℕ) → s < strands p m chunk → In c (stored (strand_effects p m chunk s)) ⊎ In c (lessened (strand_effects p m chunk s)) → In c (parameter p) → ⊥
      by_count s c a (inl i) j = no_both (stored (strand_effects p m chunk s)) (parameter p) (and_parts _ _ (every_one (strands p m chunk) (leave_count p m chunk) h.count_stays s a)).0 c i j
      by_count s c a (inr i) j = no_both (lessened (strand_effects p m chunk s)) (parameter p) (and_parts _ _ (every_one (strands p m chunk) (leave_count p m chunk) h.count_stays s a)).1 c i j

  well : WellFormed p m chunk
  well = record {
    count = counts;
    few_acts = few_acts;
    few_ops = all_formed (acts_of p) h.acts;
    positive = λ s z a i. all_positive (divides (strand_events p m chunk s)) (every_one (strands p m chunk) (divide_well p m chunk) h.divisors s a) z i;
    reduction = reduces;
    there = all_below (length m) (parameter p) h.there;
    loaded = λ s c a i. all_below (length m) (reads p m chunk s) (and_parts _ _ (every_one (strands p m chunk) (within p m chunk) h.inside s a)).0 c i;
    laid = λ s c a i. laid s c a i;
  }
    where
      laid : (s c : ℕ) → s < strands p m chunk → In c (stored (strand_effects p m chunk s)) ⊎ In c (lessened (strand_effects p m chunk s)) → c < length m
      laid s c a (inl i) = all_below (length m) (stored (strand_effects p m chunk s)) (and_parts _ _ (and_parts _ _ (every_one (strands p m chunk) (within p m chunk) h.inside s a)).1).0 c i
      laid s c a (inr i) = all_below (length m) (lessened (strand_effects p m chunk s)) (and_parts _ _ (and_parts _ _ (every_one (strands p m chunk) (within p m chunk) h.inside s a)).1).1 c i

pub tested_free : (p : Phase) (m : Cells) → (pos 0 ≤ℤ count_value p m) × (count_value p m ≤ℤ pos 65536) → length (acts_of p) < 1048576 → ((chunk : ℕ) → ReductionFits p m chunk) → ((chunk : ℕ) → test p m chunk ≡ true) → Free p m
tested_free p m counts few reduces h chunk is =
    let t = tested p m chunk (h chunk) in
    (apart p m chunk counts few (reduces chunk) t, well p m chunk counts few (reduces chunk) t)
