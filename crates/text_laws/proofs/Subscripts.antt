-- The text of a designator stands for its subscripts and their operands.
use Rattle.std.proofs.Common.{◌≡◌, refl, sym, ap, ◌∙◌, subst, ℕ, suc, ◌==◌, Bool, true, false, ◌&&◌, ◌⊎◌, inl, inr, List, [], ◌∷◌, ◌++◌, decimal, codes, get_or, arith, true≢false, append_assoc, append-nil}
use Rattle.std.specs.Prelude.{if◌then◌else◌}
use Rattle.std.proofs.lemmas.Bool.{and_parts, ne_eqb}
use Rattle.std.proofs.lemmas.List.{append_cancel_left}
use Rattle.hlfir_ops.specs.declared.op.ValueId.{ValueId}
use Rattle.hlfir_ops.specs.declared.what.SubKind.{SubKind}
use Rattle.hlfir_ops.specs.declared.what.SubKind.TheVariants as sub
use Rattle.hlfir_ops.specs.RulesValues.{Value, kind_at, is_scalar, is_index_vector}
use Rattle.hlfir_ops.specs.declared.kinds.Elem.TheVariants.{I32}
use Rattle.hlfir_ops.specs.RulesForms.{take_subscripts}
use Rattle.hlfir_text.specs.OperandText.{comma, subs_text, designator_text}
use Rattle.text_laws.specs.Writable.{is_digit, fits_32}
use Rattle.text_laws.proofs.Runs.{heads, tails, joined, Stops}
use Rattle.text_laws.proofs.Operands.{all_fit, past_number}

-- the operands that these subscripts take
pub data Fills : List SubKind → List ValueId → Type 0 where
  none : Fills [] []
  one : (subs : List SubKind) (i : ValueId) (more : List ValueId) → Fills subs more → Fills (sub.One ∷ subs) (i ∷ more)
  range : (subs : List SubKind) (l u s : ValueId) (more : List ValueId) → Fills subs more → Fills (sub.Range ∷ subs) (l ∷ u ∷ s ∷ more)
  vector : (subs : List SubKind) (v : ValueId) (more : List ValueId) → Fills subs more → Fills (sub.Vector ∷ subs) (v ∷ more)

pub Fills-from_take : (vs : List Value) (subs : List SubKind) (os : List ValueId) → take_subscripts vs subs os ≡ true → Fills subs os
Fills-from_take vs [] [] h = none
Fills-from_take vs (sub.One ∷ subs) (i ∷ more) h = one subs i more (Fills-from_take vs subs more (and_parts (is_scalar I32 (kind_at vs i)) (take_subscripts vs subs more) h).1)
Fills-from_take vs (sub.Range ∷ subs) (l ∷ u ∷ s ∷ more) h =
    range subs l u s more (Fills-from_take vs subs more (and_parts (is_scalar I32 (kind_at vs l) && is_scalar I32 (kind_at vs u) && is_scalar I32 (kind_at vs s)) (take_subscripts vs subs more) h).1)
Fills-from_take vs (sub.Vector ∷ subs) (v ∷ more) h = vector subs v more (Fills-from_take vs subs more (and_parts (is_index_vector (kind_at vs v)) (take_subscripts vs subs more) h).1)
Fills-from_take vs _ _ h = absurd (true≢false (sym h))

-- ---- the text of one subscript, and what stands after it

one-then : (k : ℕ) (subs : List SubKind) (i : ValueId) (more : List ValueId) (s : List ℕ) → subs_text k (sub.One ∷ subs) (i ∷ more) ++ s ≡ comma k ++ (37 ∷ (decimal i.number ++ (subs_text (suc k) subs more ++ s)))
one-then k subs i more s = simp (append_assoc, append-nil)

range-then : (k : ℕ) (subs : List SubKind) (l u w : ValueId) (more : List ValueId) (s : List ℕ) → subs_text k (sub.Range ∷ subs) (l ∷ u ∷ w ∷ more) ++ s ≡
    comma k ++ (37 ∷ (decimal l.number ++ (58 ∷ 37 ∷ (decimal u.number ++ (58 ∷ 37 ∷ (decimal w.number ++ (subs_text (suc k) subs more ++ s)))))))
range-then k subs l u w more s =
    let rest : List ℕ = subs_text (suc k) subs more ++ s in
    simp (append_assoc, append-nil) (ap (λ (t : List ℕ). comma k ++ (37 ∷ t))
    (append_assoc (decimal l.number) (58 ∷ 37 ∷ (decimal u.number ++ (58 ∷ 37 ∷ decimal w.number))) rest ∙
    ap (λ (t : List ℕ). decimal l.number ++ (58 ∷ 37 ∷ t)) (append_assoc (decimal u.number) (58 ∷ 37 ∷ decimal w.number) rest)))

vector-then : (k : ℕ) (subs : List SubKind) (v : ValueId) (more : List ValueId) (s : List ℕ) → subs_text k (sub.Vector ∷ subs) (v ∷ more) ++ s ≡ comma k ++ (codes "vector %" ++ (decimal v.number ++ (subs_text (suc k) subs more ++ s)))
vector-then k subs v more s = simp (append_assoc, append-nil)

-- ---- what stands after a subscript

abbrev Closes : List ℕ → Type 0
Closes s = (get_or s 0 0 ≡ 41) ⊎ (get_or s 0 0 ≡ 44)

comma-first : (k : ℕ) (s : List ℕ) → get_or (comma (suc k) ++ s) 0 0 ≡ 44
comma-first k s = ap (λ (b : Bool). get_or ((if b then [] else codes ", ") ++ s) 0 0) (ne_eqb (suc k) 0 (λ e. omega (arith, e)))

subs-close : {subs : List SubKind} {os : List ValueId} (k : ℕ) (s : List ℕ) → Fills subs os → Closes (subs_text (suc k) subs os ++ (41 ∷ s))
subs-close k s none = inl refl
subs-close k s (one subs i more f) = inr (ap (λ (x : List ℕ). get_or x 0 0) (one-then (suc k) subs i more (41 ∷ s)) ∙ comma-first k _)
subs-close k s (range subs l u w more f) = inr (ap (λ (x : List ℕ). get_or x 0 0) (range-then (suc k) subs l u w more (41 ∷ s)) ∙ comma-first k _)
subs-close k s (vector subs v more f) = inr (ap (λ (x : List ℕ). get_or x 0 0) (vector-then (suc k) subs v more (41 ∷ s)) ∙ comma-first k _)

closes-stop : (s : List ℕ) → Closes s → Stops is_digit s
closes-stop [] c = tt
closes-stop (b ∷ s) (inl e) = subst (λ (x : ℕ). is_digit x ≡ false) (sym e) refl
closes-stop (b ∷ s) (inr e) = subst (λ (x : ℕ). is_digit x ≡ false) (sym e) refl

no_colon : (s t : List ℕ) → Closes s → s ≡ 58 ∷ t → ⊥
no_colon s t (inl c) e = let k : 41 ≡ 58 = sym c ∙ ap (λ (x : List ℕ). get_or x 0 0) e in omega (arith, k)
no_colon s t (inr c) e = let k : 44 ≡ 58 = sym c ∙ ap (λ (x : List ℕ). get_or x 0 0) e in omega (arith, k)

not_closed : (b : Bool) (c : ℕ) (s t : List ℕ) → (c ≡ 41 → ⊥) → 41 ∷ s ≡ (if b then [] else codes ", ") ++ (c ∷ t) → ⊥
not_closed true c s t n e = n (sym (heads e))
not_closed false c s t n e = let k : 41 ≡ 44 = heads e in omega (arith, k)

-- ---- subscripts

first_fits : (v : ValueId) (vs : List ValueId) → all_fit (v ∷ vs) ≡ true → (fits_32 v.number ≡ true) × (all_fit vs ≡ true)
first_fits v vs h = and_parts (fits_32 v.number) (all_fit vs) h

pub same_subs : {subs tubs : List SubKind} {os ps : List ValueId} (k : ℕ) (s t : List ℕ) → Fills subs os → Fills tubs ps → all_fit os ≡ true → all_fit ps ≡ true →
    subs_text k subs os ++ (41 ∷ s) ≡ subs_text k tubs ps ++ (41 ∷ t) → (subs ≡ tubs) × (os ≡ ps) × (s ≡ t)
same_subs k s t none none p q h = (refl, refl, tails h)
same_subs k s t none (one tubs j ps g) p q h = absurd (not_closed (k == 0) 37 s _ (λ e. omega (arith, e)) (h ∙ one-then k tubs j ps (41 ∷ t)))
same_subs k s t none (range tubs l u w ps g) p q h = absurd (not_closed (k == 0) 37 s _ (λ e. omega (arith, e)) (h ∙ range-then k tubs l u w ps (41 ∷ t)))
same_subs k s t none (vector tubs v ps g) p q h = absurd (not_closed (k == 0) 118 s _ (λ e. omega (arith, e)) (h ∙ vector-then k tubs v ps (41 ∷ t)))
same_subs k s t (one subs i os f) none p q h = absurd (not_closed (k == 0) 37 t _ (λ e. omega (arith, e)) (sym h ∙ one-then k subs i os (41 ∷ s)))
same_subs k s t (one subs i os f) (one tubs j ps g) p q h =
    let p' = first_fits i os p in
    let q' = first_fits j ps q in
    let past = append_cancel_left (comma k) _ _ (sym (one-then k subs i os (41 ∷ s)) ∙ (h ∙ one-then k tubs j ps (41 ∷ t))) in
    let first = past_number i j (subs_text (suc k) subs os ++ (41 ∷ s)) (subs_text (suc k) tubs ps ++ (41 ∷ t)) p'.0 q'.0 (closes-stop _ (subs-close k s f)) (closes-stop _ (subs-close k t g)) (tails past) in
    let more = same_subs (suc k) s t f g p'.1 q'.1 first.1 in
    (joined refl more.0, joined first.0 more.1, more.2)
same_subs k s t (one subs i os f) (range tubs l u w ps g) p q h =
    let past = append_cancel_left (comma k) _ _ (sym (one-then k subs i os (41 ∷ s)) ∙ (h ∙ range-then k tubs l u w ps (41 ∷ t))) in
    let first = past_number i l (subs_text (suc k) subs os ++ (41 ∷ s)) _ (first_fits i os p).0 (first_fits l (u ∷ w ∷ ps) q).0 (closes-stop _ (subs-close k s f)) refl (tails past) in
    absurd (no_colon _ _ (subs-close k s f) first.1)
same_subs k s t (one subs i os f) (vector tubs v ps g) p q h =
    let past = append_cancel_left (comma k) _ _ (sym (one-then k subs i os (41 ∷ s)) ∙ (h ∙ vector-then k tubs v ps (41 ∷ t))) in
    absurd (let e : 37 ≡ 118 = heads past in omega (arith, e))
same_subs k s t (range subs l u w os f) none p q h = absurd (not_closed (k == 0) 37 t _ (λ e. omega (arith, e)) (sym h ∙ range-then k subs l u w os (41 ∷ s)))
same_subs k s t (range subs l u w os f) (one tubs j ps g) p q h =
    let past = append_cancel_left (comma k) _ _ (sym (range-then k subs l u w os (41 ∷ s)) ∙ (h ∙ one-then k tubs j ps (41 ∷ t))) in
    let first = past_number l j _ (subs_text (suc k) tubs ps ++ (41 ∷ t)) (first_fits l (u ∷ w ∷ os) p).0 (first_fits j ps q).0 refl (closes-stop _ (subs-close k t g)) (tails past) in
    absurd (no_colon _ _ (subs-close k t g) (sym first.1))
same_subs k s t (range subs l u w os f) (range tubs m v x ps g) p q h =
    let p0 = first_fits l (u ∷ w ∷ os) p in
    let p1 = first_fits u (w ∷ os) p0.1 in
    let p2 = first_fits w os p1.1 in
    let q0 = first_fits m (v ∷ x ∷ ps) q in
    let q1 = first_fits v (x ∷ ps) q0.1 in
    let q2 = first_fits x ps q1.1 in
    let past = append_cancel_left (comma k) _ _ (sym (range-then k subs l u w os (41 ∷ s)) ∙ (h ∙ range-then k tubs m v x ps (41 ∷ t))) in
    let lower = past_number l m _ _ p0.0 q0.0 refl refl (tails past) in
    let upper = past_number u v _ _ p1.0 q1.0 refl refl (tails (tails lower.1)) in
    let stride = past_number w x (subs_text (suc k) subs os ++ (41 ∷ s)) (subs_text (suc k) tubs ps ++ (41 ∷ t)) p2.0 q2.0 (closes-stop _ (subs-close k s f)) (closes-stop _ (subs-close k t g)) (tails (tails upper.1)) in
    let more = same_subs (suc k) s t f g p2.1 q2.1 stride.1 in
    (joined refl more.0, joined lower.0 (joined upper.0 (joined stride.0 more.1)), more.2)
same_subs k s t (range subs l u w os f) (vector tubs v ps g) p q h =
    let past = append_cancel_left (comma k) _ _ (sym (range-then k subs l u w os (41 ∷ s)) ∙ (h ∙ vector-then k tubs v ps (41 ∷ t))) in
    absurd (let e : 37 ≡ 118 = heads past in omega (arith, e))
same_subs k s t (vector subs v os f) none p q h = absurd (not_closed (k == 0) 118 t _ (λ e. omega (arith, e)) (sym h ∙ vector-then k subs v os (41 ∷ s)))
same_subs k s t (vector subs v os f) (one tubs j ps g) p q h =
    let past = append_cancel_left (comma k) _ _ (sym (vector-then k subs v os (41 ∷ s)) ∙ (h ∙ one-then k tubs j ps (41 ∷ t))) in
    absurd (let e : 118 ≡ 37 = heads past in omega (arith, e))
same_subs k s t (vector subs v os f) (range tubs l u w ps g) p q h =
    let past = append_cancel_left (comma k) _ _ (sym (vector-then k subs v os (41 ∷ s)) ∙ (h ∙ range-then k tubs l u w ps (41 ∷ t))) in
    absurd (let e : 118 ≡ 37 = heads past in omega (arith, e))
same_subs k s t (vector subs v os f) (vector tubs w ps g) p q h =
    let p' = first_fits v os p in
    let q' = first_fits w ps q in
    let past = append_cancel_left (comma k) _ _ (sym (vector-then k subs v os (41 ∷ s)) ∙ (h ∙ vector-then k tubs w ps (41 ∷ t))) in
    let past_word = append_cancel_left (codes "vector %") (decimal v.number ++ (subs_text (suc k) subs os ++ (41 ∷ s))) (decimal w.number ++ (subs_text (suc k) tubs ps ++ (41 ∷ t))) past in
    let first = past_number v w (subs_text (suc k) subs os ++ (41 ∷ s)) (subs_text (suc k) tubs ps ++ (41 ∷ t)) p'.0 q'.0 (closes-stop _ (subs-close k s f)) (closes-stop _ (subs-close k t g)) past_word in
    let more = same_subs (suc k) s t f g p'.1 q'.1 first.1 in
    (joined refl more.0, joined first.0 more.1, more.2)

-- ---- designators

designator-then : (subs : List SubKind) (r : ValueId) (more : List ValueId) (s : List ℕ) → designator_text subs (r ∷ more) ++ s ≡ 32 ∷ 37 ∷ (decimal r.number ++ (32 ∷ 40 ∷ (subs_text 0 subs more ++ (41 ∷ s))))
designator-then subs r more s = simp append_assoc

pub same_designator : (subs tubs : List SubKind) (r q : ValueId) (os ps : List ValueId) (s t : List ℕ) → Fills subs os → Fills tubs ps → all_fit (r ∷ os) ≡ true → all_fit (q ∷ ps) ≡ true →
    designator_text subs (r ∷ os) ++ s ≡ designator_text tubs (q ∷ ps) ++ t → (subs ≡ tubs) × (r ∷ os ≡ q ∷ ps) × (s ≡ t)
same_designator subs tubs r q os ps s t f g a b h =
    let a' = first_fits r os a in
    let b' = first_fits q ps b in
    let array = past_number r q _ _ a'.0 b'.0 refl refl (tails (tails (sym (designator-then subs r os s) ∙ (h ∙ designator-then tubs q ps t)))) in
    let more = same_subs 0 s t f g a'.1 b'.1 (tails (tails array.1)) in
    (more.0, joined array.0 more.1, more.2)
