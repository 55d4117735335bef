-- The line of an op stands for what it shows of the op.
use Rattle.std.proofs.Common.{◌≡◌, refl, sym, ap, ◌∙◌, subst, ℕ, ◌==◌, Bool, true, false, ◌||◌, ◌⊎◌, inl, inr, List, [], ◌∷◌, ◌++◌, Option, Some, None, ℤ, pos, negsuc, decimal, codes, arith, true≢false, ltb-true, eqb-true}
use Rattle.std.specs.Prelude.{if◌then◌else◌}
use Rattle.std.specs.Fmt.{signed_decimal}
use Rattle.std.specs.List.{list_all}
use Rattle.std.proofs.lemmas.Bool.{and_parts, and_from, or_left, or_cases}
use Rattle.std.proofs.lemmas.List.{append_cancel_left}
use Rattle.ws_base.specs.declared.name.Name.{Name}
use Rattle.hlfir_ops.specs.declared.kinds.Elem.TheVariants.{I32, I1}
use Rattle.hlfir_ops.specs.declared.kinds.ValueKind.{ValueKind}
use Rattle.hlfir_ops.specs.declared.kinds.ValueKind.TheVariants as kind
use Rattle.hlfir_ops.specs.declared.what.What.{What}
use Rattle.hlfir_ops.specs.declared.what.What.TheVariants as what
use Rattle.hlfir_ops.specs.declared.op.ValueId.{ValueId}
use Rattle.hlfir_ops.specs.Numbers.{own_numbers}
use Rattle.hlfir_ops.specs.RulesForms.{has_constant}
use Rattle.hlfir_text.specs.declared.form.Form.{Form}
use Rattle.hlfir_text.specs.declared.form.Form.TheVariants as form
use Rattle.hlfir_text.specs.KindText.{kind_text, kind_part}
use Rattle.hlfir_text.specs.OperandText.{first_separator, values_text}
use Rattle.hlfir_text.specs.ModuleText.{truth_word, constant_text}
use Rattle.text_laws.specs.Shown.{shown_result}
use Rattle.text_laws.specs.Writable.{is_letter, is_digit, is_word_byte, is_name, has_names, fits_32, fits_dimension, fits_kind}
use Rattle.text_laws.proofs.Runs.{heads, tails, same_run, same_decimal, same_signed}
use Rattle.text_laws.proofs.KindParts.{IsTold, same_kind_text, small_lower, signed-first, not_numeral}
use Rattle.text_laws.proofs.Words.{Spaced}
use Rattle.text_laws.proofs.Operands.{Ends, Calm, calm-spaced, spaced-stops, all_fit, same_values, values-calm}
use Rattle.text_laws.proofs.Subscripts.{Fills}

-- ---- what is asked of an op, so that its line stands for it

abbrev pub is_box : What → Bool
is_box what.Boxed = true
is_box _ = false

abbrev pub IsToldBy : Bool → Option ValueKind → Type 0
IsToldBy b None = Unit {0}
IsToldBy b (Some k) = IsTold b k

-- as many operands as stand in the line
abbrev pub HasOperands : What → List ValueId → Type 0
HasOperands (what.Declare name) os = Unit {0}
HasOperands (what.Assign realloc) os = Unit {0}
HasOperands what.Masked os = Unit {0}
HasOperands what.Elsewhere os = Unit {0}
HasOperands (what.Forall names) os = Unit {0}
HasOperands what.ForallMask os = Unit {0}
HasOperands what.Workshare os = Unit {0}
HasOperands what.DoLoop os = Unit {0}
HasOperands (what.Allocmem also) os = Unit {0}
HasOperands (what.Freemem also) os = Unit {0}
HasOperands (what.Read also) os = Unit {0}
HasOperands what.Yield os = Unit {0}
HasOperands what.YieldElement os = Unit {0}
HasOperands (what.Constant value) os = Unit {0}
HasOperands (what.Unary op) os = Unit {0}
HasOperands (what.Binary op) os = Unit {0}
HasOperands what.Select os = Unit {0}
HasOperands what.Load os = Unit {0}
HasOperands what.Boxed os = Unit {0}
HasOperands (what.Bound w dim) [] = ⊥
HasOperands (what.Bound w dim) (v ∷ []) = Unit {0}
HasOperands (what.Bound w dim) (v ∷ u ∷ more) = ⊥
HasOperands what.Size os = Unit {0}
HasOperands what.Allocated os = Unit {0}
HasOperands (what.Designate subs) [] = ⊥
HasOperands (what.Designate subs) (r ∷ more) = Fills subs more
HasOperands what.Vector os = Unit {0}
HasOperands what.AsExpr os = Unit {0}
HasOperands what.Elemental os = Unit {0}
HasOperands what.Apply os = Unit {0}
HasOperands (what.Reduce r) os = Unit {0}

abbrev pub HasValue : What → Option ValueKind → Type 0
HasValue (what.Constant v) k = has_constant v k ≡ true
HasValue _ k = Unit {0}

pub record IsPlain (w : What) (line : ℕ) (os : List ValueId) (k : Option ValueKind) : Type 0 where
  pub told : IsToldBy (is_box w) k
  pub operands : HasOperands w os
  pub value : HasValue w k
  pub names : has_names w ≡ true
  pub line_fits : fits_32 line ≡ true
  pub operands_fit : all_fit os ≡ true
  pub dimension_fits : fits_dimension w ≡ true
  pub kind_fits : fits_kind k ≡ true

-- ---- lines

same_line : (b : Bool) (m n : ℕ) (s t : List ℕ) → fits_32 m ≡ true → fits_32 n ≡ true → Spaced s → Spaced t → (if b then codes " @" ++ decimal m else []) ++ s ≡ (if b then codes " @" ++ decimal n else []) ++ t →
    ((if b then m else 0) ≡ (if b then n else 0)) × (s ≡ t)
same_line true m n s t p q a b h =
    let small_m = ltb-true m 4294967296 p in
    let small_n = ltb-true n 4294967296 q in
    same_decimal m n s t (omega arith) (omega arith) (spaced-stops a) (spaced-stops b) (tails (tails h))
same_line false m n s t p q a b h = (refl, h)

-- ---- marks

abbrev pub at_tail : ℕ → Bool
at_tail c = c == 37 || c == 58 || c == 123 || c == 100

-- what begins so is a mark
no_calm : (c : ℕ) (s : List ℕ) → at_tail c ≡ false → Calm (32 ∷ c ∷ s) → ⊥
no_calm c s n (Calm.at_end (Ends.at_line r e)) = let k : 32 ≡ 10 = heads e in omega (arith, k)
no_calm c s n (Calm.at_end (Ends.at_kind r e)) = true≢false (sym (ap at_tail (heads (tails e))) ∙ n)
no_calm c s n (Calm.at_end (Ends.at_block r e)) = true≢false (sym (ap at_tail (heads (tails e))) ∙ n)
no_calm c s n (Calm.at_end (Ends.at_do r e)) = true≢false (sym (ap at_tail (heads (tails e))) ∙ n)
no_calm c s n (Calm.at_operand r e) = true≢false (sym (ap at_tail (heads (tails e))) ∙ n)

abbrev pub marked : Bool → List ℕ → List ℕ
marked true m = m
marked false m = []

same_mark : (f g : Bool) (c : ℕ) (m s t : List ℕ) → at_tail c ≡ false → Calm s → Calm t → marked f (32 ∷ c ∷ m) ++ s ≡ marked g (32 ∷ c ∷ m) ++ t → (f ≡ g) × (s ≡ t)
same_mark true true c m s t n a b h = (refl, append_cancel_left (32 ∷ c ∷ m) s t h)
same_mark true false c m s t n a b h = absurd (no_calm c (m ++ s) n (subst Calm (sym h) b))
same_mark false true c m s t n a b h = absurd (no_calm c (m ++ t) n (subst Calm h a))
same_mark false false c m s t n a b h = (refl, h)

marked-spaced : (f : Bool) (c : ℕ) (m s : List ℕ) → Calm s → Spaced (marked f (32 ∷ c ∷ m) ++ s)
marked-spaced true c m s a = Spaced.at_blank (c ∷ (m ++ s)) refl
marked-spaced false c m s a = calm-spaced a

-- ---- operands and kinds

pub kind-ends : (k : Option ValueKind) (s : List ℕ) → Ends s → Ends (kind_part k ++ s)
kind-ends None s e = e
kind-ends (Some k) s e = Ends.at_kind (32 ∷ (kind_text k ++ s)) refl

same_kind_part : (b : Bool) (k l : Option ValueKind) (s t : List ℕ) → own_numbers k ≡ own_numbers l → IsToldBy b k → IsToldBy b l → fits_kind k ≡ true → fits_kind l ≡ true → kind_part k ++ s ≡ kind_part l ++ t →
    (shown_result k ≡ shown_result l) × (s ≡ t)
same_kind_part b None None s t n p q u v h = (refl, h)
same_kind_part b None (Some l) s t n p q u v h = absurd (let e : 0 ≡ 1 = n in omega (arith, e))
same_kind_part b (Some k) None s t n p q u v h = absurd (let e : 1 ≡ 0 = n in omega (arith, e))
same_kind_part b (Some k) (Some l) s t n p q u v h = let r = same_kind_text b k l s t p q u v (tails (tails (tails h))) in (ap Some r.0, r.1)

-- the kinds and what stands after the lines of two ops
pub record Pair : Type 0 where
  pub k : Option ValueKind
  pub l : Option ValueKind
  pub s : List ℕ
  pub t : List ℕ

pub record AreEnded (b : Bool) (p : Pair) : Type 0 where
  pub as_many : own_numbers p.k ≡ own_numbers p.l
  pub told_k : IsToldBy b p.k
  pub told_l : IsToldBy b p.l
  pub fits_k : fits_kind p.k ≡ true
  pub fits_l : fits_kind p.l ≡ true
  pub ends_s : Ends p.s
  pub ends_t : Ends p.t

pub kinds_law : (b : Bool) (p : Pair) → AreEnded b p → kind_part p.k ++ p.s ≡ kind_part p.l ++ p.t → (shown_result p.k ≡ shown_result p.l) × (p.s ≡ p.t)
kinds_law b p a = same_kind_part b p.k p.l p.s p.t a.as_many a.told_k a.told_l a.fits_k a.fits_l

pub values_law : (b : Bool) (f : Form) (os ps : List ValueId) (p : Pair) → AreEnded b p → all_fit os ≡ true → all_fit ps ≡ true → values_text f 0 os ++ (kind_part p.k ++ p.s) ≡ values_text f 0 ps ++ (kind_part p.l ++ p.t) →
    (os ≡ ps) × (shown_result p.k ≡ shown_result p.l) × (p.s ≡ p.t)
values_law b f os ps p a u v h =
    let values = same_values f 0 os ps (kind_part p.k ++ p.s) (kind_part p.l ++ p.t) (kind-ends p.k p.s a.ends_s) (kind-ends p.l p.t a.ends_t) u v h in
    let kinds = kinds_law b p a values.1 in
    (values.0, kinds.0, kinds.1)

pub values-calm-k : (b : Bool) (f : Form) (os : List ValueId) (p : Pair) → AreEnded b p → first_separator f ≡ codes " " → Calm (values_text f 0 os ++ (kind_part p.k ++ p.s))
values-calm-k b f os p a e = values-calm f os (kind_part p.k ++ p.s) e (kind-ends p.k p.s a.ends_s)

pub values-calm-l : (b : Bool) (f : Form) (os : List ValueId) (p : Pair) → AreEnded b p → first_separator f ≡ codes " " → Calm (values_text f 0 os ++ (kind_part p.l ++ p.t))
values-calm-l b f os p a e = values-calm f os (kind_part p.l ++ p.t) e (kind-ends p.l p.t a.ends_t)

-- ---- ops by what stands in their lines

-- a line where the op has one, operands and a kind
pub listed_law : (b lined : Bool) (f : Form) (m n : ℕ) (os ps : List ValueId) (p : Pair) → AreEnded b p → first_separator f ≡ codes " " → fits_32 m ≡ true → fits_32 n ≡ true → all_fit os ≡ true → all_fit ps ≡ true →
    (if lined then codes " @" ++ decimal m else []) ++ (values_text f 0 os ++ (kind_part p.k ++ p.s)) ≡ (if lined then codes " @" ++ decimal n else []) ++ (values_text f 0 ps ++ (kind_part p.l ++ p.t)) →
    ((if lined then m else 0) ≡ (if lined then n else 0)) × (os ≡ ps) × (shown_result p.k ≡ shown_result p.l) × (p.s ≡ p.t)
listed_law b lined f m n os ps p a e x y u v h =
    let lines = same_line lined m n _ _ x y (calm-spaced (values-calm-k b f os p a e)) (calm-spaced (values-calm-l b f ps p a e)) h in
    let rest = values_law b f os ps p a u v lines.1 in
    (lines.0, rest.0, rest.1, rest.2)

-- a line, a mark, operands and a kind
pub marked_law : (b f g : Bool) (c : ℕ) (mk : List ℕ) (m n : ℕ) (os ps : List ValueId) (p : Pair) → AreEnded b p → at_tail c ≡ false → fits_32 m ≡ true → fits_32 n ≡ true → all_fit os ≡ true → all_fit ps ≡ true →
    (codes " @" ++ decimal m) ++ (marked f (32 ∷ c ∷ mk) ++ (values_text form.Listed 0 os ++ (kind_part p.k ++ p.s))) ≡ (codes " @" ++ decimal n) ++ (marked g (32 ∷ c ∷ mk) ++ (values_text form.Listed 0 ps ++ (kind_part p.l ++ p.t))) →
    (f ≡ g) × (m ≡ n) × (os ≡ ps) × (shown_result p.k ≡ shown_result p.l) × (p.s ≡ p.t)
marked_law b f g c mk m n os ps p a out x y u v h =
    let calm_k = values-calm-k b form.Listed os p a refl in
    let calm_l = values-calm-l b form.Listed ps p a refl in
    let lines = same_line true m n _ _ x y (marked-spaced f c mk _ calm_k) (marked-spaced g c mk _ calm_l) h in
    let marks = same_mark f g c mk _ _ out calm_k calm_l lines.1 in
    let rest = values_law b form.Listed os ps p a u v marks.1 in
    (marks.0, lines.0, rest.0, rest.1, rest.2)

-- a name
pub name_bytes : (x : Name) → is_name x ≡ true → list_all is_word_byte x ≡ true
name_bytes [] h = refl
name_bytes (b ∷ bs) h =
    let k = and_parts (is_letter b) (list_all is_word_byte bs) h in
    and_from (is_word_byte b) (list_all is_word_byte bs) (or_left (is_letter b || is_digit b) (b == 95) (or_left (is_letter b) (is_digit b) k.0)) k.1

-- a name between quotation marks
pub same_name : (x y : Name) (s t : List ℕ) → is_name x ≡ true → is_name y ≡ true → x ++ (34 ∷ s) ≡ y ++ (34 ∷ t) → (x ≡ y) × (s ≡ t)
same_name x y s t p q h = let r = same_run is_word_byte x y (34 ∷ s) (34 ∷ t) (name_bytes x p) (name_bytes y q) refl refl h in (r.0, tails r.1)

-- ---- constants

is_truth : (v : ℤ) → has_constant v (Some (kind.Scalar I1)) ≡ true → (v ≡ pos 0) ⊎ (v ≡ pos 1)
is_truth (pos n) h = by (or_cases (n == 0) (n == 1) h)
  where
    by : ((n == 0) ≡ true) ⊎ ((n == 1) ≡ true) → (pos n ≡ pos 0) ⊎ (pos n ≡ pos 1)
    by (inl e) = inl (ap pos (eqb-true n 0 e))
    by (inr e) = inr (ap pos (eqb-true n 1 e))
is_truth (negsuc n) h = absurd (true≢false (sym h))

past_truth : (v w : ℤ) (s t : List ℕ) → (v ≡ pos 0) ⊎ (v ≡ pos 1) → (w ≡ pos 0) ⊎ (w ≡ pos 1) → truth_word v ++ s ≡ truth_word w ++ t → (v ≡ w) × (s ≡ t)
past_truth v w s t (inl p) (inl q) h = (p ∙ sym q, append_cancel_left (codes "false") s t (sym (ap (λ x. truth_word x ++ s) p) ∙ (h ∙ ap (λ x. truth_word x ++ t) q)))
past_truth v w s t (inl p) (inr q) h = absurd (let k : 102 ≡ 116 = heads (sym (ap (λ x. truth_word x ++ s) p) ∙ (h ∙ ap (λ x. truth_word x ++ t) q)) in omega (arith, k))
past_truth v w s t (inr p) (inl q) h = absurd (let k : 116 ≡ 102 = heads (sym (ap (λ x. truth_word x ++ s) p) ∙ (h ∙ ap (λ x. truth_word x ++ t) q)) in omega (arith, k))
past_truth v w s t (inr p) (inr q) h = (p ∙ sym q, append_cancel_left (codes "true") s t (sym (ap (λ x. truth_word x ++ s) p) ∙ (h ∙ ap (λ x. truth_word x ++ t) q)))

no_truth : (v w : ℤ) (s t : List ℕ) → (v ≡ pos 0) ⊎ (v ≡ pos 1) → has_constant w (Some (kind.Scalar I32)) ≡ true → signed_decimal w ++ t ≡ truth_word v ++ s → ⊥
no_truth v w s t (inl p) q h = let small = small_lower w q in not_numeral 102 _ _ (signed-first w t (omega arith)) refl (h ∙ ap (λ x. truth_word x ++ s) p)
no_truth v w s t (inr p) q h = let small = small_lower w q in not_numeral 116 _ _ (signed-first w t (omega arith)) refl (h ∙ ap (λ x. truth_word x ++ s) p)

pub same_constant : (v w : ℤ) (k l : Option ValueKind) (s t : List ℕ) → has_constant v k ≡ true → has_constant w l ≡ true → Spaced s → Spaced t → constant_text k v ++ s ≡ constant_text l w ++ t → (v ≡ w) × (s ≡ t)
same_constant v w (Some (kind.Scalar I32)) (Some (kind.Scalar I32)) s t p q a b h =
    let small_v = small_lower v p in
    let small_w = small_lower w q in
    same_signed v w s t (omega arith) (omega arith) (spaced-stops a) (spaced-stops b) h
same_constant v w (Some (kind.Scalar I32)) (Some (kind.Scalar I1)) s t p q a b h = absurd (no_truth w v t s (is_truth w q) p h)
same_constant v w (Some (kind.Scalar I1)) (Some (kind.Scalar I32)) s t p q a b h = absurd (no_truth v w s t (is_truth v p) q (sym h))
same_constant v w (Some (kind.Scalar I1)) (Some (kind.Scalar I1)) s t p q a b h = past_truth v w s t (is_truth v p) (is_truth w q) h
same_constant v w (Some (kind.Scalar e)) l s t p q a b h = absurd (true≢false (sym q))
same_constant v w k l s t p q a b h = absurd (true≢false (sym p))
