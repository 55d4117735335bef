-- Sets of wanted values, by their members.
use Rattle.std.proofs.Common.{◌≡◌, refl, ap, sym, ◌∙◌, subst, ℕ, suc, ◌+◌, ◌<◌, ◌≤◌, Bool, true, false, cond, List, [], ◌∷◌, ◌++◌, map, length, take, get_or, Option, Some, arith, append_assoc, Ordering, if◌then◌else◌, max}
use Rattle.std.specs.Prelude.{nat_lt, nat_le, ◌||◌, slice_get}
use Rattle.std.proofs.lemmas.Bool.{ltb-true, lt-leb, leb-false, or_from, or_parts}
use Rattle.std.specs.Ordering.{nat_cmp, match_ordering}
use Rattle.std.specs.declared.cmp.Ordering.TheVariants.{Less, Equal, Greater}
use Rattle.std.specs.BTreeSet.{insert_key}
use Rattle.std.specs.List.{All, filter, flat_map, list_any}
use Rattle.std.proofs.Math.Bool.{or_comm}
use Rattle.std.proofs.lemmas.List.Concat.{flat_map-append}
use Rattle.std.proofs.lemmas.List.Elements.{filter-append, All-push}
use Rattle.std.proofs.lemmas.List.Folds.{list_any-append, list_any_none}
use Rattle.std.proofs.lemmas.Cmp.{ranked}
use Rattle.std.proofs.lemmas.Map.Lookups.{exact_unsigned}
use Rattle.hlfir_ops.specs.declared.op.ValueId.{ValueId}
use Rattle.hlfir_ops.specs.declared.op.Op.{Op}
use Rattle.rule_tests.proofs.Appended.{before_next, append_none, map_append}
use Rattle.assign_schedule.specs.Parts.{is_array_given}
use Rattle.assign_schedule.specs.Reads.{applied}
use Rattle.assign_schedule.specs.Wanted.{SameMembers, passes, below, AllBelow, AreArrays}

-- ---- tests

or_same : (a b : Bool) → (a || (a || b)) ≡ (a || b)
or_same true b = refl
or_same false b = refl

or_swap : (a b c : Bool) → (a || (b || c)) ≡ (b || (a || c))
or_swap true true c = refl
or_swap true false c = refl
or_swap false true c = refl
or_swap false false c = refl

-- ---- one more key

insert_any : (p : ℕ → Bool) (k x : ℕ) (xs : List ℕ) (o : Ordering) → nat_cmp k x ≡ o → list_any p (insert_key nat_cmp xs k) ≡ (p k || list_any p xs) →
    list_any p (match_ordering o (k ∷ x ∷ xs) (x ∷ xs) (x ∷ insert_key nat_cmp xs k)) ≡ (p k || (p x || list_any p xs))
insert_any p k x xs Less e h = refl
insert_any p k x xs Equal e h = sym (or_same (p x) (list_any p xs)) ∙ ap (λ n. p n || (p x || list_any p xs)) (sym (exact_unsigned k x e))
insert_any p k x xs Greater e h = ap (λ b. p x || b) h ∙ or_swap (p x) (p k) (list_any p xs)

any_insert : (p : ℕ → Bool) (ks : List ℕ) (k : ℕ) → list_any p (insert_key nat_cmp ks k) ≡ (p k || list_any p ks)
any_insert p [] k = refl
any_insert p (x ∷ xs) k = insert_any p k x xs (nat_cmp k x) refl (any_insert p xs k)

one_more : (p : ℕ → Bool) (ks : List ℕ) (k : ℕ) → (p k || list_any p ks) ≡ list_any p (ks ++ k ∷ [])
one_more p ks k = or_comm (p k) (list_any p ks) ∙ (ap (λ b. list_any p ks || b) (or_comm false (p k)) ∙ sym (list_any-append p ks (k ∷ [])))

pub inserted : (bound : Option ℕ) (v : ValueId) (old now : List ℕ) → passes bound v.number ≡ true → now ≡ insert_key nat_cmp old v.number → SameMembers now (old ++ below bound (v ∷ []))
inserted bound v old now e is p = ap (list_any p) is ∙ (any_insert p old v.number ∙ (one_more p old v.number ∙ ap (λ b. list_any p (old ++ cond b (v.number ∷ []) [])) (sym e)))

pub not_inserted : (bound : Option ℕ) (v : ValueId) (old : List ℕ) → passes bound v.number ≡ false → SameMembers old (old ++ below bound (v ∷ []))
not_inserted bound v old e p = ap (list_any p) (sym (append_none old) ∙ ap (λ b. old ++ cond b (v.number ∷ []) []) (sym e))

-- ---- members of several lists

pub same_then : (old mid now xs ys : List ℕ) → SameMembers mid (old ++ xs) → SameMembers now (mid ++ ys) → SameMembers now (old ++ (xs ++ ys))
same_then old mid now xs ys first second p =
    second p ∙ (list_any-append p mid ys ∙ (ap (λ b. b || list_any p ys) (first p) ∙ (sym (list_any-append p (old ++ xs) ys) ∙ ap (list_any p) (append_assoc old xs ys))))

pub below-append : (bound : Option ℕ) (vs ws : List ValueId) → below bound (vs ++ ws) ≡ below bound vs ++ below bound ws
below-append bound vs ws = ap (filter (passes bound)) (map_append (λ v. v.number) vs ws) ∙ filter-append (passes bound) (map (λ v. v.number) vs) (map (λ v. v.number) ws)

pub next_value : (bound : Option ℕ) (vs : List ValueId) (i : ℕ) (v : ValueId) (old mid now : List ℕ) → i < length vs → v ≡ get_or vs i v → SameMembers mid (old ++ below bound (take i vs)) →
    SameMembers now (mid ++ below bound (v ∷ [])) → SameMembers now (old ++ below bound (take (i + 1) vs))
next_value bound vs i v old mid now within is first second =
    subst (λ l. SameMembers now (old ++ l)) (sym (ap (below bound) (before_next vs i v within is) ∙ below-append bound (take i vs) (v ∷ []))) (same_then old mid now (below bound (take i vs)) (below bound (v ∷ [])) first second)

pub next_applied : (bound : Option ℕ) (ops : List Op) (i : ℕ) (op : Op) (old mid now : List ℕ) → i < length ops → op ≡ get_or ops i op → SameMembers mid (old ++ below bound (flat_map applied (take i ops))) →
    SameMembers now (mid ++ below bound (applied op)) → SameMembers now (old ++ below bound (flat_map applied (take (i + 1) ops)))
next_applied bound ops i op old mid now within is first second =
    let split = ap (flat_map applied) (before_next ops i op within is) ∙ (flat_map-append applied (take i ops) (op ∷ []) ∙ ap (λ l. flat_map applied (take i ops) ++ l) (append_none (applied op))) in
    subst (λ l. SameMembers now (old ++ l)) (sym (ap (below bound) split ∙ below-append bound (flat_map applied (take i ops)) (applied op)))
    (same_then old mid now (below bound (flat_map applied (take i ops))) (below bound (applied op)) first second)

pub nothing_more : (bound : Option ℕ) (vs : List ValueId) (old : List ℕ) → vs ≡ [] → SameMembers old (old ++ below bound vs)
nothing_more bound vs old e p = ap (list_any p) (sym (append_none old) ∙ ap (λ l. old ++ below bound l) (sym e))

any-flat_map : (p : ℕ → Bool) (f : ℕ → List ℕ) (ns : List ℕ) → list_any p (flat_map f ns) ≡ list_any (λ n. list_any p (f n)) ns
any-flat_map p f [] = refl
any-flat_map p f (n ∷ ns) = list_any-append p (f n) (flat_map f ns) ∙ ap (λ b. list_any p (f n) || b) (any-flat_map p f ns)

pub same-flat_map : (f : ℕ → List ℕ) (ms ns : List ℕ) → SameMembers ms ns → SameMembers (flat_map f ms) (flat_map f ns)
same-flat_map f ms ns h p = any-flat_map p f ms ∙ (h (λ n. list_any p (f n)) ∙ sym (any-flat_map p f ns))

-- ---- a visit of the greatest one

or_regroup : (a b c d : Bool) → ((a || b) || (c || d)) ≡ (a || (c || (b || d)))
or_regroup true b c d = refl
or_regroup false b c d = or_swap b c d

pub visited : (f : ℕ → List ℕ) (n : ℕ) (found own found' keys keys' next : List ℕ) → found' ≡ found ++ own → f n ≡ own ++ flat_map f next → SameMembers keys' (keys ++ next) →
    SameMembers (found' ++ flat_map f keys') (found ++ flat_map f (keys ++ n ∷ []))
visited f n found own found' keys keys' next kept here more p =
    let any = list_any p in
    let a = any found in
    let b = any own in
    let c = any (flat_map f keys) in
    let d = any (flat_map f next) in
    let now : any (found' ++ flat_map f keys') ≡ ((a || b) || (c || d)) =
    ap (λ l. any (l ++ flat_map f keys')) kept
    ∙ (list_any-append p (found ++ own) (flat_map f keys')
    ∙ (ap (λ x. x || any (flat_map f keys')) (list_any-append p found own)
    ∙ ap (λ x. (a || b) || x) (same-flat_map f keys' (keys ++ next) more p ∙ (ap any (flat_map-append f keys next) ∙ list_any-append p (flat_map f keys) (flat_map f next))))) in
    let later : any (found ++ flat_map f (keys ++ n ∷ [])) ≡ (a || (c || (b || d))) =
    list_any-append p found (flat_map f (keys ++ n ∷ []))
    ∙ ap (λ x. a || x)
    (ap any (flat_map-append f keys (n ∷ []))
    ∙ (list_any-append p (flat_map f keys) (f n ++ []) ∙ ap (λ x. c || x) (ap any (append_none (f n) ∙ here) ∙ list_any-append p own (flat_map f next)))) in
    now ∙ (or_regroup a b c d ∙ sym later)

pub visited_nothing : (f : ℕ → List ℕ) (n : ℕ) (found keys : List ℕ) → f n ≡ [] → SameMembers (found ++ flat_map f keys) (found ++ flat_map f (keys ++ n ∷ []))
visited_nothing f n found keys none p =
    ap (λ l. list_any p (found ++ l)) (sym (append_none (flat_map f keys)) ∙ (ap (λ l. flat_map f keys ++ (l ++ [])) (sym none) ∙ sym (flat_map-append f keys (n ∷ []))))

low_below : (n k : ℕ) (rest : List ℕ) (b : Bool) → nat_lt k n ≡ b → list_any (nat_le n) rest ≡ false → list_any (nat_le n) (cond b (k ∷ rest) rest) ≡ false
low_below n k rest true e h = or_from (nat_le n k) (list_any (nat_le n) rest) (lt-leb n k (ltb-true k n e)) h
low_below n k rest false e h = h

filtered_below : (n : ℕ) (ks : List ℕ) → AllBelow n (filter (passes (Some n)) ks)
filtered_below n [] = refl
filtered_below n (k ∷ ks) = low_below n k (filter (passes (Some n)) ks) (nat_lt k n) refl (filtered_below n ks)

pub all_below : (n : ℕ) (keys keys' : List ℕ) (vs : List ValueId) → AllBelow n keys → SameMembers keys' (keys ++ below (Some n) vs) → AllBelow n keys'
all_below n keys keys' vs low more =
    more (nat_le n) ∙ (list_any-append (nat_le n) keys (below (Some n) vs) ∙ or_from (list_any (nat_le n) keys) (list_any (nat_le n) (below (Some n) vs)) low (filtered_below n (map (λ v. v.number) vs)))

pub kept_arrays : (gs : List Op) (found : List ℕ) (n : ℕ) (op : Op) (b : Bool) → slice_get gs n ≡ Some op → is_array_given (Some op) ≡ b → AreArrays gs found → AreArrays gs (found ++ (if b then n ∷ [] else []))
kept_arrays gs found n op true at is arrays = All-push (λ k. is_array_given (slice_get gs k) ≡ true) found n arrays (ap is_array_given at ∙ is)
kept_arrays gs found n op false at is arrays = subst (AreArrays gs) (sym (append_none found)) arrays

-- ---- the greatest key

-- past every key
abbrev pub top : List ℕ → ℕ
top [] = 0
top (k ∷ ks) = max (suc k) (top ks)

pub top_low : (n : ℕ) (ks : List ℕ) → AllBelow n ks → top ks ≤ n
top_low n [] low = omega arith
top_low n (k ∷ ks) low =
    let parts = or_parts (nat_le n k) (list_any (nat_le n) ks) low in
    let first : k < n = leb-false n k parts.0 in
    let rest : top ks ≤ n = top_low n ks parts.1 in omega arith

pub top_last : (n : ℕ) (ks : List ℕ) → suc n ≤ top (ks ++ n ∷ [])
top_last n [] = omega arith
top_last n (k ∷ ks) = let rest : suc n ≤ top (ks ++ n ∷ []) = top_last n ks in omega arith

less_is : (k n : ℕ) → nat_cmp k n ≡ Less → k < n
less_is k n e = ranked k n Less (sym e)

none_at : (n k : ℕ) → nat_cmp k n ≡ Less → nat_le n k ≡ false
none_at n k e = lt-leb n k (less_is k n e)

pub keys_low : (n : ℕ) (ks : List ℕ) → All (λ k. nat_cmp k n ≡ Less) ks → AllBelow n ks
keys_low n ks h = list_any_none (nat_le n) ks (λ k d lt. none_at n (get_or ks k d) (h k d lt))
