-- The text of an op's operands stands for them.
use Rattle.std.proofs.Common.{◌≡◌, refl, sym, ap, ◌∙◌, subst, ℕ, suc, ◌%◌, ◌==◌, Bool, true, false, ◌⊎◌, inl, inr, List, [], ◌∷◌, ◌++◌, decimal, codes, get_or, arith, append_assoc, ltb-true}
use Rattle.std.specs.Prelude.{if◌then◌else◌}
use Rattle.std.specs.List.{list_all}
use Rattle.std.proofs.lemmas.Bool.{and_parts}
use Rattle.std.proofs.lemmas.List.{append_cancel_left}
use Rattle.hlfir_ops.specs.declared.op.ValueId.{ValueId}
use Rattle.hlfir_text.specs.declared.form.Form.{Form}
use Rattle.hlfir_text.specs.declared.form.Form.TheVariants.{Listed, Spaced, Pairs, Triples, Triplet}
use Rattle.hlfir_text.specs.OperandText.{first_separator, next_separator, separator, values_text}
use Rattle.text_laws.specs.Writable.{is_digit, fits_32}
use Rattle.text_laws.proofs.Runs.{tails, joined, Stops, same_decimal}
use Rattle.text_laws.proofs.Words as words

-- ---- what stands after the operands: a kind, a block, the `do` of an elsewhere, or the end of the line

pub data Ends : List ℕ → Type 0 where
  at_line : {t : List ℕ} (s : List ℕ) → t ≡ 10 ∷ s → Ends t
  at_kind : {t : List ℕ} (s : List ℕ) → t ≡ 32 ∷ 58 ∷ s → Ends t
  at_block : {t : List ℕ} (s : List ℕ) → t ≡ 32 ∷ 123 ∷ s → Ends t
  at_do : {t : List ℕ} (s : List ℕ) → t ≡ 32 ∷ 100 ∷ s → Ends t

-- the operands, or what stands after them
pub data Calm : List ℕ → Type 0 where
  at_end : {t : List ℕ} → Ends t → Calm t
  at_operand : {t : List ℕ} (s : List ℕ) → t ≡ 32 ∷ 37 ∷ s → Calm t

pub ends-spaced : {t : List ℕ} → Ends t → words.Spaced t
ends-spaced (at_line s e) = words.Spaced.at_line s e
ends-spaced (at_kind s e) = words.Spaced.at_blank (58 ∷ s) e
ends-spaced (at_block s e) = words.Spaced.at_blank (123 ∷ s) e
ends-spaced (at_do s e) = words.Spaced.at_blank (100 ∷ s) e

pub calm-spaced : {t : List ℕ} → Calm t → words.Spaced t
calm-spaced (at_end e) = ends-spaced e
calm-spaced (at_operand s e) = words.Spaced.at_blank (37 ∷ s) e

pub spaced-stops : {t : List ℕ} → words.Spaced t → Stops is_digit t
spaced-stops (words.Spaced.at_line s e) = subst (Stops is_digit) (sym e) refl
spaced-stops (words.Spaced.at_blank s e) = subst (Stops is_digit) (sym e) refl

ends-bytes : {t : List ℕ} → Ends t → (get_or t 0 0 ≡ 10) ⊎ ((get_or t 0 0 ≡ 32) × (get_or t 1 0 ≡ 37 → ⊥))
ends-bytes (at_line s e) = inl (ap (λ (x : List ℕ). get_or x 0 0) e)
ends-bytes (at_kind s e) = inr (ap (λ (x : List ℕ). get_or x 0 0) e, λ h. let k : 37 ≡ 58 = sym h ∙ ap (λ (x : List ℕ). get_or x 1 0) e in omega (arith, k))
ends-bytes (at_block s e) = inr (ap (λ (x : List ℕ). get_or x 0 0) e, λ h. let k : 37 ≡ 123 = sym h ∙ ap (λ (x : List ℕ). get_or x 1 0) e in omega (arith, k))
ends-bytes (at_do s e) = inr (ap (λ (x : List ℕ). get_or x 0 0) e, λ h. let k : 37 ≡ 100 = sym h ∙ ap (λ (x : List ℕ). get_or x 1 0) e in omega (arith, k))

-- ---- separators

data IsSeparator : List ℕ → Type 0 where
  none : IsSeparator []
  blank : IsSeparator (32 ∷ [])
  listed : IsSeparator (44 ∷ 32 ∷ [])
  colon : IsSeparator (58 ∷ [])

one_of : (b : Bool) (s t : List ℕ) → IsSeparator s → IsSeparator t → IsSeparator (if b then s else t)
one_of true s t p q = p
one_of false s t p q = q

IsSeparator-first : (form : Form) → IsSeparator (first_separator form)
IsSeparator-first Listed = blank
IsSeparator-first Spaced = blank
IsSeparator-first Pairs = blank
IsSeparator-first Triples = blank
IsSeparator-first Triplet = none

IsSeparator-next : (form : Form) (k : ℕ) → IsSeparator (next_separator form k)
IsSeparator-next Listed k = listed
IsSeparator-next Spaced k = blank
IsSeparator-next Pairs k = one_of (k % 2 == 0) (codes ", ") (codes ":") listed colon
IsSeparator-next Triples k = one_of (k % 3 == 0) (codes ", ") (codes ":") listed colon
IsSeparator-next Triplet k = colon

IsSeparator-separator : (form : Form) (k : ℕ) → IsSeparator (separator form k)
IsSeparator-separator form k = one_of (k == 0) (first_separator form) (next_separator form k) (IsSeparator-first form) (IsSeparator-next form k)

no_end : (c d : ℕ) → (c ≡ 10 → ⊥) → (c ≡ 32 → d ≡ 37) → ((c ≡ 10) ⊎ ((c ≡ 32) × (d ≡ 37 → ⊥))) → ⊥
no_end c d p q (inl h) = p h
no_end c d p q (inr h) = h.1 (q h.0)

operand-no_end : {x : List ℕ} (s : List ℕ) → IsSeparator x → Ends (x ++ (37 ∷ s)) → ⊥
operand-no_end s none e = no_end 37 (get_or s 0 0) (λ h. omega (arith, h)) (λ h. absurd (omega (arith, h))) (ends-bytes e)
operand-no_end s blank e = no_end 32 37 (λ h. omega (arith, h)) (λ h. refl) (ends-bytes e)
operand-no_end s listed e = no_end 44 32 (λ h. omega (arith, h)) (λ h. absurd (omega (arith, h))) (ends-bytes e)
operand-no_end s colon e = no_end 58 37 (λ h. omega (arith, h)) (λ h. absurd (omega (arith, h))) (ends-bytes e)

operand-stops : {x : List ℕ} (s : List ℕ) → IsSeparator x → Stops is_digit (x ++ (37 ∷ s))
operand-stops s none = refl
operand-stops s blank = refl
operand-stops s listed = refl
operand-stops s colon = refl

-- ---- lists of operands

abbrev pub all_fit : List ValueId → Bool
all_fit = list_all (λ v. fits_32 v.number)

values_text-then : (form : Form) (k : ℕ) (v : ValueId) (vs : List ValueId) (s : List ℕ) → values_text form k (v ∷ vs) ++ s ≡ separator form k ++ (37 ∷ (decimal v.number ++ (values_text form (suc k) vs ++ s)))
values_text-then form k v vs s = simp append_assoc

values-stop : (form : Form) (k : ℕ) (vs : List ValueId) (s : List ℕ) → Ends s → Stops is_digit (values_text form k vs ++ s)
values-stop form k [] s e = spaced-stops (ends-spaced e)
values-stop form k (v ∷ vs) s e = subst (Stops is_digit) (sym (values_text-then form k v vs s)) (operand-stops _ (IsSeparator-separator form k))

same_value : (v w : ValueId) → v.number ≡ w.number → v ≡ w
same_value v w e i = record { number = e i }

pub past_number : (v w : ValueId) (s t : List ℕ) → fits_32 v.number ≡ true → fits_32 w.number ≡ true → Stops is_digit s → Stops is_digit t → decimal v.number ++ s ≡ decimal w.number ++ t → (v ≡ w) × (s ≡ t)
past_number v w s t p q a b h =
    let small_v = ltb-true v.number 4294967296 p in
    let small_w = ltb-true w.number 4294967296 q in
    let r = same_decimal v.number w.number s t (omega arith) (omega arith) a b h in
    (same_value v w r.0, r.1)

pub same_values : (form : Form) (k : ℕ) (vs ws : List ValueId) (s t : List ℕ) → Ends s → Ends t → all_fit vs ≡ true → all_fit ws ≡ true → values_text form k vs ++ s ≡ values_text form k ws ++ t → (vs ≡ ws) × (s ≡ t)
same_values form k [] [] s t a b p q h = (refl, h)
same_values form k [] (w ∷ ws) s t a b p q h = absurd (operand-no_end _ (IsSeparator-separator form k) (subst Ends (h ∙ values_text-then form k w ws t) a))
same_values form k (v ∷ vs) [] s t a b p q h = absurd (operand-no_end _ (IsSeparator-separator form k) (subst Ends (sym h ∙ values_text-then form k v vs s) b))
same_values form k (v ∷ vs) (w ∷ ws) s t a b p q h =
    let p' = and_parts (fits_32 v.number) (all_fit vs) p in
    let q' = and_parts (fits_32 w.number) (all_fit ws) q in
    let after_v : List ℕ = values_text form (suc k) vs ++ s in
    let after_w : List ℕ = values_text form (suc k) ws ++ t in
    let past = append_cancel_left (separator form k) (37 ∷ (decimal v.number ++ after_v)) (37 ∷ (decimal w.number ++ after_w)) (sym (values_text-then form k v vs s) ∙ (h ∙ values_text-then form k w ws t)) in
    let first = past_number v w after_v after_w p'.0 q'.0 (values-stop form (suc k) vs s a) (values-stop form (suc k) ws t b) (tails past) in
    let more = same_values form (suc k) vs ws s t a b p'.1 q'.1 first.1 in
    (joined first.0 more.0, more.1)

pub values-calm : (form : Form) (vs : List ValueId) (s : List ℕ) → first_separator form ≡ codes " " → Ends s → Calm (values_text form 0 vs ++ s)
values-calm form [] s f e = at_end e
values-calm form (v ∷ vs) s f e = at_operand (decimal v.number ++ (values_text form 1 vs ++ s)) (values_text-then form 0 v vs s ∙ ap (λ (x : List ℕ). x ++ (37 ∷ (decimal v.number ++ (values_text form 1 vs ++ s)))) f)
