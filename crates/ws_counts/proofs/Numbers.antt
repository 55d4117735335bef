-- What the code counts is what the steps count.
use Rattle.std.proofs.Common.{◌≡◌, refl, ap, sym, ◌∙◌, ℕ, ◌+◌, ◌*◌, min, max, Bool, true, false, if◌then◌else◌, List, [], ◌∷◌, ◌++◌, arith, add_assoc, zero-add, append_assoc}
use Rattle.std.proofs.lemmas.List.{append-nil}
use Rattle.ws_counts.specs.declared.tally.Piece.{Piece}
use Rattle.ws_counts.specs.declared.tally.Piece.TheVariants as piece
use Rattle.ws_counts.specs.declared.tally.Tally.{Tally}
use Rattle.ws_counts.specs.declared.tally.Total.{Total}
use Rattle.ws_counts.specs.Counts.{how_many, is_part, is_reduction, is_mask, is_whole, is_whole_in_mask, parts_in, reductions_in, masks_in, wholes_in, wholes_in_masks, step_phases, step_temporaries, parts_of, phases_of, temporaries_after, steps_from}
use Rattle.ws_counts.specs.Tallies.{most, counted, tallied, ended, nothing, total_of}
use Rattle.ws_counts.proofs.Steps.{one_more, ends}

-- ---- numbers of pieces

how_many-append : (test : Piece → Bool) (xs ys : List Piece) → how_many test (xs ++ ys) ≡ how_many test xs + how_many test ys
how_many-append test [] ys = sym (zero-add (how_many test ys))
how_many-append test (x ∷ xs) ys = ap (λ n. (if test x then 1 else 0) + n) (how_many-append test xs ys) ∙ sym (add_assoc (if test x then 1 else 0) (how_many test xs) (how_many test ys))

-- one more piece at the end
how_many-last : (test : Piece → Bool) (xs : List Piece) (x : Piece) → how_many test (xs ++ x ∷ []) ≡ how_many test xs + (if test x then 1 else 0)
how_many-last test xs x = let e = how_many-append test xs (x ∷ []) in omega (arith, e)

abbrev is_other : Piece → Bool
is_other (piece.Whole true) = false
is_other (piece.Whole false) = true
is_other _ = false

abbrev others_in : List Piece → ℕ
others_in = how_many is_other

either : (x : Piece) → (if is_whole x then 1 else 0) ≡ (if is_whole_in_mask x then 1 else 0) + (if is_other x then 1 else 0)
either piece.Part = refl
either piece.Reduction = refl
either (piece.Whole true) = refl
either (piece.Whole false) = refl
either piece.Mask = refl
either piece.Assigned = refl

wholes_are : (xs : List Piece) → wholes_in xs ≡ wholes_in_masks xs + others_in xs
wholes_are [] = refl
wholes_are (x ∷ xs) = let h = wholes_are xs in let g = either x in omega (arith, h, g)

abbrev is_begun : List Piece → Bool
is_begun [] = false
is_begun (x ∷ xs) = true

begun_last : (xs : List Piece) (x : Piece) → true ≡ is_begun (xs ++ x ∷ [])
begun_last [] x = refl
begun_last (y ∷ xs) x = refl

-- ---- the code's numbers

abbrev at : ℕ → ℕ → ℕ → ℕ → ℕ → Bool → Tally
at a p t h q b = record { parts = min a most; phases = min p most; temporaries = min t most; held = min h most; pending = min q most; begun = b }

cap_plus : (a n : ℕ) → min (min a most + n) most ≡ min (a + n) most
cap_plus a n = omega arith

cap_step : (t h q : ℕ) → max (min t most) (min (min (min h most + min q most) most + 2) most) ≡ min (max t (2 + h + q)) most
cap_step t h q = omega arith

counted_part : (a p t h q : ℕ) (b : Bool) → counted (at a p t h q b) piece.Part ≡ at (a + 1) p t h q true
counted_part a p t h q b = ap (λ n. record { parts = n; phases = min p most; temporaries = min t most; held = min h most; pending = min q most; begun = true }) (cap_plus a 1)

abbrev full : ℕ → ℕ → ℕ → ℕ → ℕ → Tally
full a p t h q = record { parts = a; phases = p; temporaries = t; held = h; pending = q; begun = true }

counted_reduction : (a p t h q : ℕ) (b : Bool) → counted (at a p t h q b) piece.Reduction ≡ at a (p + 3) t h (q + 1) true
counted_reduction a p t h q b =
    ap (λ n. full (min a most) n (min t most) (min h most) (min (min q most + 1) most)) (cap_plus p 3) ∙ ap (λ n. full (min a most) (min (p + 3) most) (min t most) (min h most) n) (cap_plus q 1)

counted_mask_whole : (a p t h q : ℕ) (b : Bool) → counted (at a p t h q b) (piece.Whole true) ≡ at a (p + 2) t (h + 1) q true
counted_mask_whole a p t h q b =
    ap (λ n. full (min a most) n (min t most) (min (min h most + 1) most) (min q most)) (cap_plus p 2) ∙ ap (λ n. full (min a most) (min (p + 2) most) (min t most) n (min q most)) (cap_plus h 1)

counted_other_whole : (a p t h q : ℕ) (b : Bool) → counted (at a p t h q b) (piece.Whole false) ≡ at a (p + 2) t h (q + 1) true
counted_other_whole a p t h q b =
    ap (λ n. full (min a most) n (min t most) (min h most) (min (min q most + 1) most)) (cap_plus p 2) ∙ ap (λ n. full (min a most) (min (p + 2) most) (min t most) (min h most) n) (cap_plus q 1)

counted_mask : (a p t h q : ℕ) (b : Bool) → counted (at a p t h q b) piece.Mask ≡ at a (p + 1) t (h + 1) q true
counted_mask a p t h q b =
    ap (λ n. full (min a most) n (min t most) (min (min h most + 1) most) (min q most)) (cap_plus p 1) ∙ ap (λ n. full (min a most) (min (p + 1) most) (min t most) n (min q most)) (cap_plus h 1)

counted_assigned : (a p t h q : ℕ) (b : Bool) → counted (at a p t h q b) piece.Assigned ≡ at a (p + 6) (max t (2 + h + q)) h 0 false
counted_assigned a p t h q b =
    ap (λ n. record { parts = min a most; phases = n; temporaries = max (min t most) (min (min (min h most + min q most) most + 2) most); held = min h most; pending = 0; begun = false }) (cap_plus p 6)
    ∙ ap (λ n. record { parts = min a most; phases = min (p + 6) most; temporaries = n; held = min h most; pending = 0; begun = false }) (cap_step t h q)

-- ---- the counts after these pieces

abbrev pub final : Tally → Total
final k = record { parts = k.parts; phases = k.phases; temporaries = k.temporaries }

abbrev total_at : ℕ → ℕ → ℕ → Total
total_at a p t = record { parts = min a most; phases = min p most; temporaries = min t most }

same_total : (a a' p p' t t' : ℕ) → a ≡ a' → p ≡ p' → t ≡ t' → total_at a p t ≡ total_at a' p' t'
same_total a a' p p' t t' ea ep et = ap (λ n. total_at n p t) ea ∙ ap (λ n. total_at a' n t) ep ∙ ap (λ n. total_at a' p' n) et

-- The numbers stand for the steps so far, of which `before` are the pieces, and for the pieces of the step that is begun.
record Stands (sum_parts sum_phases : ℕ) (before ps : List Piece) (a p h q : ℕ) (b : Bool) : Type 0 where
  parts : a ≡ sum_parts + parts_in ps
  phases : p ≡ sum_phases + (masks_in ps + 3 * reductions_in ps + 2 * wholes_in ps)
  held : h ≡ masks_in (before ++ ps) + wholes_in_masks (before ++ ps)
  pending : q ≡ reductions_in ps + others_in ps
  begun : b ≡ is_begun ps

temporaries_are : (before ps : List Piece) (h q : ℕ) → h ≡ masks_in (before ++ ps) + wholes_in_masks (before ++ ps) → q ≡ reductions_in ps + others_in ps → 2 + h + q ≡ step_temporaries before ps
temporaries_are before ps h q eh eq =
    let split = how_many-append is_whole_in_mask before ps in
    let wholes = wholes_are ps in
    omega (arith, split, wholes, eh, eq)

-- one more piece of the step
stands_more : (A F : ℕ) (before ps : List Piece) (a p h q : ℕ) (b : Bool) (x : Piece) (a' p' h' q' : ℕ) → Stands A F before ps a p h q b →
    a' ≡ a + (if is_part x then 1 else 0) →
    p' ≡ p + ((if is_mask x then 1 else 0) + 3 * (if is_reduction x then 1 else 0) + 2 * (if is_whole x then 1 else 0)) →
    h' ≡ h + ((if is_mask x then 1 else 0) + (if is_whole_in_mask x then 1 else 0)) →
    q' ≡ q + ((if is_reduction x then 1 else 0) + (if is_other x then 1 else 0)) →
    Stands A F before (ps ++ x ∷ []) a' p' h' q' true
stands_more A F before ps a p h q b x a' p' h' q' s ea ep eh eq =
    let parts = how_many-last is_part ps x in
    let masks = how_many-last is_mask ps x in
    let reductions = how_many-last is_reduction ps x in
    let wholes = how_many-last is_whole ps x in
    let others = how_many-last is_other ps x in
    let all_masks = ap masks_in (sym (append_assoc before ps (x ∷ []))) ∙ how_many-last is_mask (before ++ ps) x in
    let all_wholes = ap wholes_in_masks (sym (append_assoc before ps (x ∷ []))) ∙ how_many-last is_whole_in_mask (before ++ ps) x in
    let s1 = s.parts in
    let s2 = s.phases in
    let s3 = s.held in
    let s4 = s.pending in
    record {
      parts = omega (arith, parts, s1, ea);
      phases = omega (arith, masks, reductions, wholes, s2, ep);
      held = omega (arith, all_masks, all_wholes, s3, eh);
      pending = omega (arith, reductions, others, s4, eq);
      begun = begun_last ps x;
    }

-- the step ends
stands_ended : (A F : ℕ) (before ps : List Piece) (a p h q : ℕ) (b : Bool) → Stands A F before ps a p h q b → Stands (A + parts_in ps) (F + step_phases ps) (before ++ ps) [] a (p + 6) h 0 false
stands_ended A F before ps a p h q b s =
    let s1 = s.parts in
    let s2 = s.phases in
    record {
      parts = omega (arith, s1);
      phases = omega (arith, s2);
      held = s.held ∙ ap (λ l. masks_in l + wholes_in_masks l) (sym (append-nil (before ++ ps)));
      pending = refl;
      begun = refl;
    }

one_step : (A F t : ℕ) (before ps : List Piece) (a p h q : ℕ) (b : Bool) → Stands A F before ps a p h q b →
    total_at a (p + 6) (max t (2 + h + q)) ≡ total_at (A + parts_of (ps ∷ [])) (F + phases_of (ps ∷ [])) (max t (temporaries_after before (ps ∷ [])))
one_step A F t before ps a p h q b s =
    let s1 = s.parts in
    let s2 = s.phases in
    let temporaries = temporaries_are before ps h q s.held s.pending in
    same_total a (A + parts_of (ps ∷ [])) (p + 6) (F + phases_of (ps ∷ [])) (max t (2 + h + q)) (max t (temporaries_after before (ps ∷ [])))
    (omega (arith, s1)) (omega (arith, s2)) (omega (arith, temporaries))

more_steps : (A F t : ℕ) (before ps : List Piece) (ss : List (List Piece)) (h q : ℕ) → 2 + h + q ≡ step_temporaries before ps →
    total_at (A + parts_in ps + parts_of ss) (F + step_phases ps + phases_of ss) (max (max t (2 + h + q)) (temporaries_after (before ++ ps) ss))
    ≡ total_at (A + parts_of (ps ∷ ss)) (F + phases_of (ps ∷ ss)) (max t (temporaries_after before (ps ∷ ss)))
more_steps A F t before ps ss h q e =
    same_total (A + parts_in ps + parts_of ss) (A + parts_of (ps ∷ ss)) (F + step_phases ps + phases_of ss) (F + phases_of (ps ∷ ss))
    (max (max t (2 + h + q)) (temporaries_after (before ++ ps) ss)) (max t (temporaries_after before (ps ∷ ss)))
    (omega arith) (omega arith) (omega (arith, e))

-- what is counted at the end, where nothing more stands
at_end : (A F t : ℕ) (before ps : List Piece) (a p h q : ℕ) (b : Bool) → Stands A F before ps a p h q b →
    final (ended (at a p t h q b)) ≡ total_at (A + parts_of (steps_from ps [])) (F + phases_of (steps_from ps [])) (max t (temporaries_after before (steps_from ps [])))
unfolding ended
at_end A F t before [] a p h q b s =
    let s1 = s.parts in
    let s2 = s.phases in
    ap (λ (c : Bool). final (if c then counted (at a p t h q b) piece.Assigned else at a p t h q b)) s.begun
    ∙ same_total a (A + 0) p (F + 0) t (max t 0) (omega (arith, s1)) (omega (arith, s2)) (omega arith)
at_end A F t before (x ∷ ps) a p h q b s =
    ap (λ (c : Bool). final (if c then counted (at a p t h q b) piece.Assigned else at a p t h q b)) s.begun
    ∙ ap final (counted_assigned a p t h q b)
    ∙ one_step A F t before (x ∷ ps) a p h q b s

after : (qs : List Piece) (A F t : ℕ) (before ps : List Piece) (a p h q : ℕ) (b : Bool) → Stands A F before ps a p h q b →
    final (ended (tallied (at a p t h q b) qs)) ≡ total_at (A + parts_of (steps_from ps qs)) (F + phases_of (steps_from ps qs)) (max t (temporaries_after before (steps_from ps qs)))
unfolding tallied
after [] A F t before ps a p h q b s = at_end A F t before ps a p h q b s
after (piece.Part ∷ qs) A F t before ps a p h q b s =
    ap (λ k. final (ended (tallied k qs))) (counted_part a p t h q b)
    ∙ after qs A F t before (ps ++ piece.Part ∷ []) (a + 1) p h q true (stands_more A F before ps a p h q b piece.Part (a + 1) p h q s refl (omega arith) (omega arith) (omega arith))
    ∙ ap (λ ss. total_at (A + parts_of ss) (F + phases_of ss) (max t (temporaries_after before ss))) (sym (one_more ps piece.Part qs tt))
after (piece.Reduction ∷ qs) A F t before ps a p h q b s =
    ap (λ k. final (ended (tallied k qs))) (counted_reduction a p t h q b)
    ∙ after qs A F t before (ps ++ piece.Reduction ∷ []) a (p + 3) h (q + 1) true (stands_more A F before ps a p h q b piece.Reduction a (p + 3) h (q + 1) s (omega arith) (omega arith) (omega arith) (omega arith))
    ∙ ap (λ ss. total_at (A + parts_of ss) (F + phases_of ss) (max t (temporaries_after before ss))) (sym (one_more ps piece.Reduction qs tt))
after (piece.Whole true ∷ qs) A F t before ps a p h q b s =
    ap (λ k. final (ended (tallied k qs))) (counted_mask_whole a p t h q b)
    ∙ after qs A F t before (ps ++ piece.Whole true ∷ []) a (p + 2) (h + 1) q true (stands_more A F before ps a p h q b (piece.Whole true) a (p + 2) (h + 1) q s (omega arith) (omega arith) (omega arith) (omega arith))
    ∙ ap (λ ss. total_at (A + parts_of ss) (F + phases_of ss) (max t (temporaries_after before ss))) (sym (one_more ps (piece.Whole true) qs tt))
after (piece.Whole false ∷ qs) A F t before ps a p h q b s =
    ap (λ k. final (ended (tallied k qs))) (counted_other_whole a p t h q b)
    ∙ after qs A F t before (ps ++ piece.Whole false ∷ []) a (p + 2) h (q + 1) true (stands_more A F before ps a p h q b (piece.Whole false) a (p + 2) h (q + 1) s (omega arith) (omega arith) (omega arith) (omega arith))
    ∙ ap (λ ss. total_at (A + parts_of ss) (F + phases_of ss) (max t (temporaries_after before ss))) (sym (one_more ps (piece.Whole false) qs tt))
after (piece.Mask ∷ qs) A F t before ps a p h q b s =
    ap (λ k. final (ended (tallied k qs))) (counted_mask a p t h q b)
    ∙ after qs A F t before (ps ++ piece.Mask ∷ []) a (p + 1) (h + 1) q true (stands_more A F before ps a p h q b piece.Mask a (p + 1) (h + 1) q s (omega arith) (omega arith) (omega arith) (omega arith))
    ∙ ap (λ ss. total_at (A + parts_of ss) (F + phases_of ss) (max t (temporaries_after before ss))) (sym (one_more ps piece.Mask qs tt))
after (piece.Assigned ∷ qs) A F t before ps a p h q b s =
    ap (λ k. final (ended (tallied k qs))) (counted_assigned a p t h q b)
    ∙ after qs (A + parts_in ps) (F + step_phases ps) (max t (2 + h + q)) (before ++ ps) [] a (p + 6) h 0 false (stands_ended A F before ps a p h q b s)
    ∙ more_steps A F t before ps (steps_from [] qs) h q (temporaries_are before ps h q s.held s.pending)
    ∙ ap (λ ss. total_at (A + parts_of ss) (F + phases_of ss) (max t (temporaries_after before ss))) (sym (ends ps qs))

pub all_counted : (ps : List Piece) (k : Tally) → k ≡ tallied nothing ps → final (ended k) ≡ total_of (steps_from [] ps)
all_counted ps k e =
    let ss : List (List Piece) = steps_from [] ps in
    ap (λ j. final (ended j)) e
    ∙ after ps 0 0 0 [] [] 0 0 0 0 false (record { parts = refl; phases = refl; held = refl; pending = refl; begun = refl })
    ∙ same_total (0 + parts_of ss) (parts_of ss) (0 + phases_of ss) (phases_of ss) (max 0 (temporaries_after [] ss)) (temporaries_after [] ss) (omega arith) (omega arith) (omega arith)
