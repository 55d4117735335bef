-- Steps that are made item by item.
use Rattle.std.proofs.Common.{◌≡◌, refl, ap, sym, ◌∙◌, ℕ, ◌+◌, ◌-◌, ◌<◌, ◌≤◌, true, false, List, [], ◌∷◌, ◌++◌, length, take, drop, get_or, append_assoc, if◌then◌else◌}
use Rattle.assign_schedule.specs.declared.item.Item.{Item}
use Rattle.rule_tests.proofs.Appended.{front, append_none, map_append}
use Rattle.std.proofs.Math.ListN.{drop_of_length-le}
use Rattle.std.proofs.Math.Seq.{take-length}
use Rattle.std.proofs.lemmas.List.{length-drop}
use Rattle.assign_schedule.specs.Items as items
use Rattle.assign_schedule.specs.Seen.{item_seen, items_seen, steps_seen}
use Rattle.assign_schedule.specs.Steps.{ends_before, with_first, steps_of}

-- these items in front of the first step
abbrev pub with_begun : List items.Item → List (List items.Item) → List (List items.Item)
with_begun [] ss = ss
with_begun (i ∷ is) ss = with_first i (with_begun is ss)

begun_more : (is : List items.Item) (i : items.Item) (ss : List (List items.Item)) → with_begun (is ++ i ∷ []) ss ≡ with_begun is (with_first i ss)
begun_more [] i ss = refl
begun_more (j ∷ is) i ss = ap (with_first j) (begun_more is i ss)

begun_step : (is s : List items.Item) (ss : List (List items.Item)) → with_begun is (s ∷ ss) ≡ (is ++ s) ∷ ss
begun_step [] s ss = refl
begun_step (i ∷ is) s ss = ap (with_first i) (begun_step is s ss)

begun_alone : (i : items.Item) (is : List items.Item) → with_begun (i ∷ is) [] ≡ (i ∷ is) ∷ []
begun_alone i [] = refl
begun_alone i (j ∷ is) = ap (with_first i) (begun_alone j is)

-- ---- the loop

seen_front : (xs : List Item) (k : ℕ) (x : Item) → k < length xs → x ≡ get_or xs k x → items_seen (drop k xs) ≡ item_seen x ∷ items_seen (drop (k + 1) xs)
seen_front xs k x within is = ap items_seen (front xs k x within is)

goes_on : (i : items.Item) (is : List items.Item) → ends_before is i ≡ false → steps_of (i ∷ is) ≡ with_first i (steps_of is)
goes_on i is e = ap (λ b. if b then (i ∷ []) ∷ steps_of is else with_first i (steps_of is)) e

ends : (i : items.Item) (is : List items.Item) → ends_before is i ≡ true → steps_of (i ∷ is) ≡ (i ∷ []) ∷ steps_of is
ends i is e = ap (λ b. if b then (i ∷ []) ∷ steps_of is else with_first i (steps_of is)) e

-- a list from the n-th on, as a slice
pub rest_of : {X : Type 0} (xs : List X) (n : ℕ) → take (length xs - n) (drop n xs) ≡ drop n xs
rest_of xs n = ap (λ m. take m (drop n xs)) (sym (length-drop n xs)) ∙ take-length (drop n xs)

pub next_item : (xs : List Item) (k : ℕ) (x : Item) (done : List (List items.Item)) (begun pushed : List Item) → k < length xs → x ≡ get_or xs k x → pushed ≡ begun ++ x ∷ [] →
    ends_before (items_seen (drop (k + 1) xs)) (item_seen x) ≡ false →
    done ++ with_begun (items_seen pushed) (steps_of (items_seen (drop (k + 1) xs))) ≡ done ++ with_begun (items_seen begun) (steps_of (items_seen (drop k xs)))
next_item xs k x done begun pushed within is push e =
    ap (λ l. done ++ with_begun l (steps_of (items_seen (drop (k + 1) xs)))) (ap items_seen push ∙ map_append item_seen begun (x ∷ []))
    ∙ (ap (λ l. done ++ l) (begun_more (items_seen begun) (item_seen x) (steps_of (items_seen (drop (k + 1) xs))))
    ∙ ap (λ l. done ++ with_begun (items_seen begun) l) (sym (goes_on (item_seen x) (items_seen (drop (k + 1) xs)) e) ∙ ap steps_of (sym (seen_front xs k x within is))))

pub next_step : (xs : List Item) (k : ℕ) (x : Item) (old now : List (List Item)) (begun pushed : List Item) → k < length xs → x ≡ get_or xs k x → pushed ≡ begun ++ x ∷ [] →
    ends_before (items_seen (drop (k + 1) xs)) (item_seen x) ≡ true → now ≡ old ++ pushed ∷ [] →
    steps_seen now ++ steps_of (items_seen (drop (k + 1) xs)) ≡ steps_seen old ++ with_begun (items_seen begun) (steps_of (items_seen (drop k xs)))
next_step xs k x old now begun pushed within is push e more =
    let rest = steps_of (items_seen (drop (k + 1) xs)) in
    ap (λ l. l ++ rest) (ap steps_seen more ∙ map_append items_seen old (pushed ∷ []))
    ∙ (append_assoc (steps_seen old) (items_seen pushed ∷ []) rest
    ∙ ap (λ l. steps_seen old ++ l)
    (ap (λ l. l ∷ rest) (ap items_seen push ∙ map_append item_seen begun (x ∷ []))
    ∙ (sym (begun_step (items_seen begun) (item_seen x ∷ []) rest) ∙ ap (with_begun (items_seen begun)) (sym (ends (item_seen x) (items_seen (drop (k + 1) xs)) e) ∙ ap steps_of (sym (seen_front xs k x within is))))))

-- ---- the end

at_end : (xs : List Item) (k : ℕ) (begun : List items.Item) → length xs ≤ k → with_begun begun (steps_of (items_seen (drop k xs))) ≡ with_begun begun []
at_end xs k begun past = ap (λ l. with_begun begun (steps_of (items_seen l))) (drop_of_length-le xs past)

pub none_begun : (xs : List Item) (k : ℕ) (steps : List (List Item)) (begun : List Item) → length xs ≤ k → begun ≡ [] →
    steps_seen steps ++ with_begun (items_seen begun) (steps_of (items_seen (drop k xs))) ≡ steps_of (items_seen xs) → steps_seen steps ≡ steps_of (items_seen xs)
none_begun xs k steps begun past none h =
    sym (append_none (steps_seen steps)) ∙ (ap (λ l. steps_seen steps ++ with_begun (items_seen l) []) (sym none) ∙ (ap (λ l. steps_seen steps ++ l) (sym (at_end xs k (items_seen begun) past)) ∙ h))

alone : (begun : List Item) → (begun ≡ [] → ⊥) → with_begun (items_seen begun) [] ≡ items_seen begun ∷ []
alone [] some = absurd (some refl)
alone (i ∷ is) some = begun_alone (item_seen i) (items_seen is)

pub some_begun : (xs : List Item) (k : ℕ) (old now : List (List Item)) (begun : List Item) → length xs ≤ k → (begun ≡ [] → ⊥) → now ≡ old ++ begun ∷ [] →
    steps_seen old ++ with_begun (items_seen begun) (steps_of (items_seen (drop k xs))) ≡ steps_of (items_seen xs) → steps_seen now ≡ steps_of (items_seen xs)
some_begun xs k old now begun past some more h =
    ap steps_seen more ∙ (map_append items_seen old (begun ∷ []) ∙ (ap (λ l. steps_seen old ++ l) (sym (alone begun some)) ∙ (ap (λ l. steps_seen old ++ l) (sym (at_end xs k (items_seen begun) past)) ∙ h)))
