-- The values of a READ, one after another.
use Rattle.std.proofs.Common.{◌≡◌, ℕ, zero, suc, ◌+◌, ◌≤◌, ◌==◌, Bool, true, false, if◌then◌else◌, List, [], ◌∷◌, ◌++◌, All, Option, Some, None, Result, Ok, Err, IfOk, ℤ, refl, sym, ap, ◌∙◌, subst, append_assoc, append-nil, add-one, arith}
use Rattle.std.specs.Prelude.{length, drop, map, ◌-◌}
use Rattle.std.proofs.lemmas.List.Elements.{All-nil, All-cons}
use Rattle.ws_base.specs.declared.fault.FaultName.{FaultName}
use Rattle.ws_base.specs.declared.fault.Trouble.{Trouble}
use Rattle.ws_base.specs.Outcomes.{Staged, ◌>>=◌}
use Rattle.ws_base.specs.Numbers.{in_range, default_half}
use Rattle.list_io.specs.declared.item.Item.TheVariants as item
use Rattle.list_io.specs.Items.{typed, numbered, next_item, item_from, item_at, item_bytes, lower_case, integer, truth_word, spelled_by, number_or_bad, take_values}
use Rattle.array_meaning.proofs.Chains.{after_fact}
use Rattle.term_eval.specs.Limits.{IsInteger}
use Rattle.term_eval.specs.declared.stop.Stop.{Stop}
use Rattle.term_eval.specs.declared.stop.Stop.TheVariants as stop
use Rattle.term_eval.specs.Made.{Stops}

-- values that were taken before these
abbrev pub taken_then : List ℤ → Staged (List ℤ × ℕ) → Staged (List ℤ × ℕ)
taken_then made (Ok vs) = Ok (made ++ vs.0, vs.1)
taken_then made (Err t) = Err t

-- all values, of which the first k are made, and the rest follows from this place on
abbrev pub Taken : List ℕ → Bool → ℕ → ℕ → ℕ → ℕ → List ℤ → ℕ → Type 0
Taken bytes truth before count at k made place = (left : ℕ) × (left + k ≡ count) × (take_values bytes truth before count at ≡ taken_then made (take_values bytes truth (before + k) left place))

module _ (bytes : List ℕ) (truth : Bool) where
  nothing_taken : (r : Staged (List ℤ × ℕ)) → r ≡ taken_then [] r
  nothing_taken (Ok vs) = refl
  nothing_taken (Err t) = refl

  pub begins : (before count at : ℕ) → Taken bytes truth before count at 0 [] at
  begins before count at = (count, omega arith, let e : before + 0 ≡ before = omega arith in rw e (nothing_taken (take_values bytes truth before count at)))

  one_more : (v : ℤ) (made next : List ℤ) (r : Staged (List ℤ × ℕ)) → next ≡ made ++ v ∷ [] → taken_then made (r >>= (λ vs. Ok (v ∷ vs.0, vs.1))) ≡ taken_then next r
  one_more v made next (Ok vs) e = ap (λ l. Ok (l, vs.1)) (sym (append_assoc made (v ∷ []) vs.0) ∙ ap (λ l. l ++ vs.0) (sym e))
  one_more v made next (Err t) e = refl

  pub goes_on : (before count at k place end : ℕ) (v : ℤ) (made next : List ℤ) → ¬ (k ≡ count) → typed truth (next_item bytes place (before + k == 0)) ≡ Ok (v, end) → next ≡ made ++ v ∷ [] →
      Taken bytes truth before count at k made place → Taken bytes truth before count at (k + 1) next end
  goes_on before count at k place end v made next more is e (zero, sum, all) = absurd (more (omega (arith, sum)))
  goes_on before count at k place end v made next more is e (suc left, sum, all) =
      let n : suc (before + k) ≡ before + (k + 1) = omega arith in
      (left, omega (arith, sum), all ∙ (rw is (one_more v made next (take_values bytes truth (suc (before + k)) left end) e) ∙ ap (λ b. taken_then next (take_values bytes truth b left end)) n))

  pub ends : (before count at k place : ℕ) (made : List ℤ) → count ≤ k → Taken bytes truth before count at k made place → take_values bytes truth before count at ≡ Ok (made, place)
  ends before count at k place made high (zero, sum, all) = all ∙ ap (λ l. Ok (l, place)) (append-nil made)
  ends before count at k place made high (suc left, sum, all) = absurd (omega (arith, sum, high))

  pub fails : (before count at k place : ℕ) (e : Stop) (made : List ℤ) → ¬ (k ≡ count) → Stops e (numbered (suc (before + k)) (typed truth (next_item bytes place (before + k == 0)))) →
      Taken bytes truth before count at k made place → Stops e (take_values bytes truth before count at)
  fails before count at k place stop.Memory made more is h = tt
  fails before count at k place (stop.Failed t) made more is (zero, sum, all) = absurd (more (omega (arith, sum)))
  fails before count at k place (stop.Failed t) made more is (suc left, sum, all) = all ∙ rw is refl

-- ---- what is taken is a default integer

either : (truth b : Bool) (z : ℤ) (end : ℕ) → in_range default_half z ≡ b → IfOk (typed truth (if b then item.Number z end else item.Bad)) (λ v. IsInteger v.0)
either true true z end is = tt
either false true z end is = is
either true false z end is = tt
either false false z end is = tt

number_integer : (truth : Bool) (z : Option ℤ) (end : ℕ) → IfOk (typed truth (number_or_bad z end)) (λ v. IsInteger v.0)
number_integer true None end = tt
number_integer false None end = tt
number_integer truth (Some z) end = either truth (in_range default_half z) z end refl

spelled_integer : (truth : Bool) (b : Option Bool) (z : Option ℤ) (end : ℕ) → IfOk (typed truth (spelled_by b z end)) (λ v. IsInteger v.0)
spelled_integer true (Some true) z end = refl
spelled_integer true (Some false) z end = refl
spelled_integer false (Some b) z end = tt
spelled_integer truth None z end = number_integer truth z end

item_integer : (truth : Bool) (from : ℕ) (text : List ℕ) → IfOk (typed truth (item_at from text)) (λ v. IsInteger v.0)
item_integer true from [] = tt
item_integer false from [] = tt
item_integer truth from (c ∷ cs) =
    let word = item_bytes (c ∷ cs) in
    spelled_integer truth (truth_word (map lower_case word)) (integer word) (from + length word)

numbered_keeps : (k : ℕ) (r : Result (ℤ × ℕ) FaultName) → IfOk r (λ v. IsInteger v.0) → IfOk (numbered k r) (λ v. IsInteger v.0)
numbered_keeps k (Ok v) h = h
numbered_keeps k (Err n) h = tt

take_integers : (bytes : List ℕ) (truth : Bool) (before count at : ℕ) → IfOk (take_values bytes truth before count at) (λ vs. All IsInteger vs.0)
take_integers bytes truth before zero at = All-nil IsInteger
take_integers bytes truth before (suc n) at =
    let rest = item_from (before == 0) (drop at bytes) in
    let one = typed truth (next_item bytes at (before == 0)) in
    let P : ℤ × ℕ → Type 0 = λ v. IsInteger v.0 in
    let Q : List ℤ × ℕ → Type 0 = λ vs. All IsInteger vs.0 in
    after_fact P Q (numbered (suc before) one) _ (numbered_keeps (suc before) one (item_integer truth (length bytes - length rest) rest))
    (λ v h. after_fact Q Q (take_values bytes truth (suc before) n v.1) _ (take_integers bytes truth (suc before) n v.1) (λ vs hs. All-cons IsInteger v.0 vs.0 h hs))

pub values_integers : (bytes : List ℕ) (truth : Bool) (before count at place : ℕ) (made : List ℤ) → take_values bytes truth before count at ≡ Ok (made, place) → All IsInteger made
values_integers bytes truth before count at place made is = let P : Staged (List ℤ × ℕ) → Type 0 = λ r. IfOk r (λ vs. All IsInteger vs.0) in subst P is (take_integers bytes truth before count at)
