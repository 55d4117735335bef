-- The line of an op stands for what it shows of the op. The names of a FORALL stand in a line of their own.
use Rattle.std.proofs.Common.{◌≡◌, refl, sym, ap, ◌∙◌, subst, ℕ, ◌==◌, get_or, Bool, true, false, not, ◌&&◌, List, [], ◌∷◌, ◌++◌, Option, Some, None, decimal, codes, arith, append_assoc, ltb-true, true≢false}
use Rattle.std.proofs.lemmas.Bool.{and_parts}
use Rattle.std.proofs.lemmas.List.{append_cancel_left}
use Rattle.ws_base.specs.declared.name.Name.{Name}
use Rattle.hlfir_ops.specs.declared.kinds.ValueKind.{ValueKind}
use Rattle.hlfir_ops.specs.declared.what.What.{What}
use Rattle.hlfir_ops.specs.declared.what.What.TheVariants as what
use Rattle.hlfir_ops.specs.declared.what.SubKind.{SubKind}
use Rattle.hlfir_ops.specs.declared.what.ValueUnary.{ValueUnary}
use Rattle.hlfir_ops.specs.declared.what.ValueUnary.TheVariants as unary
use Rattle.hlfir_ops.specs.declared.what.ValueBinary.{ValueBinary}
use Rattle.hlfir_ops.specs.declared.what.ValueBinary.TheVariants as binary
use Rattle.hlfir_ops.specs.declared.what.BoundWord.{BoundWord}
use Rattle.hlfir_ops.specs.declared.what.BoundWord.TheVariants as bound
use Rattle.hlfir_ops.specs.declared.what.Reduction.{Reduction}
use Rattle.hlfir_ops.specs.declared.what.Reduction.TheVariants as reduction
use Rattle.hlfir_ops.specs.declared.op.ValueId.{ValueId}
use Rattle.hlfir_ops.specs.Lines.{has_line}
use Rattle.hlfir_ops.specs.Numbers.{own_numbers}
use Rattle.hlfir_text.specs.declared.form.Form.{Form}
use Rattle.hlfir_text.specs.declared.form.Form.TheVariants as form
use Rattle.hlfir_text.specs.KindText.{kind_part}
use Rattle.hlfir_text.specs.OperandText.{first_separator, values_text, designator_text}
use Rattle.hlfir_text.specs.OpText.{word, mark, operands_text}
use Rattle.hlfir_text.specs.ModuleText.{indent, line_part, own_part, result_part, head_text}
use Rattle.text_laws.specs.Shown.{shown_line, shown_result}
use Rattle.text_laws.specs.Writable.{fits_32}
use Rattle.text_laws.proofs.Runs.{tails, joined, same_decimal}
use Rattle.text_laws.proofs.Words.{Held, held, holding, Spaced, same_word}
use Rattle.text_laws.proofs.Indents.{starts_op}
use Rattle.text_laws.proofs.Operands.{Ends, ends-spaced, calm-spaced, spaced-stops, all_fit, past_number, values-calm}
use Rattle.text_laws.proofs.Subscripts.{same_designator}
use Rattle.text_laws.proofs.Heads.{is_box, IsToldBy, HasOperands, IsPlain, Pair, AreEnded, kind-ends, kinds_law, values_law, values-calm-k, values-calm-l, listed_law, marked, at_tail, marked_law, same_name, same_constant}

-- ---- what stands after the word

-- the op with these names where it is a FORALL
abbrev pub named : List Name → What → What
named names (what.Forall _) = what.Forall names
named names w = w

abbrev pub rest_text : Form → What → ℕ → List ValueId → Option ValueKind → List ℕ → List ℕ
rest_text y w line os k s = line_part w line ++ (mark w ++ (own_part w k ++ (operands_text y w os ++ (kind_part k ++ s))))

abbrev SameRest : What → Held → ℕ → ℕ → List ValueId → List ValueId → Pair → Type 0
SameRest w p m n os ps q = (named p.names w ≡ holding p w) × (shown_line w m ≡ shown_line (holding p w) n) × (os ≡ ps) × (shown_result q.k ≡ shown_result q.l) × (q.s ≡ q.t)

-- a mark, given by what it comes to
flagged_law : (f g : Bool) (c : ℕ) (mk : List ℕ) (m n : ℕ) (os ps : List ValueId) (q : Pair) (x y : List ℕ) → x ≡ marked f (32 ∷ c ∷ mk) → y ≡ marked g (32 ∷ c ∷ mk) →
    AreEnded false q → at_tail c ≡ false → fits_32 m ≡ true → fits_32 n ≡ true → all_fit os ≡ true → all_fit ps ≡ true →
    (codes " @" ++ decimal m) ++ (x ++ (values_text form.Listed 0 os ++ (kind_part q.k ++ q.s))) ≡ (codes " @" ++ decimal n) ++ (y ++ (values_text form.Listed 0 ps ++ (kind_part q.l ++ q.t))) →
    (f ≡ g) × (m ≡ n) × (os ≡ ps) × (shown_result q.k ≡ shown_result q.l) × (q.s ≡ q.t)
flagged_law f g c mk m n os ps q x y is_x is_y a out fit_m fit_n fit_os fit_ps h =
    marked_law false f g c mk m n os ps q a out fit_m fit_n fit_os fit_ps
    (sym (ap (λ z. (codes " @" ++ decimal m) ++ (z ++ (values_text form.Listed 0 os ++ (kind_part q.k ++ q.s)))) is_x) ∙ (h ∙ ap (λ z. (codes " @" ++ decimal n) ++ (z ++ (values_text form.Listed 0 ps ++ (kind_part q.l ++ q.t)))) is_y))

by_flag : (x y : Bool → List ℕ) → x true ≡ y true → x false ≡ y false → (f : Bool) → x f ≡ y f
by_flag x y t e true = t
by_flag x y t e false = e

assign-mark : (f : Bool) → mark (what.Assign f) ≡ marked f (codes " realloc")
assign-mark = by_flag (λ f. mark (what.Assign f)) (λ f. marked f (codes " realloc")) refl refl

-- that of an op with `also`
also-mark : (w : Bool → What) → mark (w true) ≡ codes " also" → mark (w false) ≡ [] → (f : Bool) → mark (w f) ≡ marked f (codes " also")
also-mark w = by_flag (λ f. mark (w f)) (λ f. marked f (codes " also"))

bound-then : (dim : ℕ) (v : ValueId) (s : List ℕ) → (values_text form.Listed 0 (v ∷ []) ++ codes ", " ++ decimal dim) ++ s ≡ 32 ∷ 37 ∷ (decimal v.number ++ (44 ∷ 32 ∷ (decimal dim ++ s)))
bound-then dim v s = simp append_assoc

abbrev IsOne : List ValueId → Type 0
IsOne (v ∷ []) = Unit {0}
IsOne _ = ⊥

bound_law : (dim cim : ℕ) (os ps : List ValueId) (q : Pair) → AreEnded false q → IsOne os → IsOne ps → fits_32 dim ≡ true → fits_32 cim ≡ true → all_fit os ≡ true → all_fit ps ≡ true →
    (values_text form.Listed 0 os ++ codes ", " ++ decimal dim) ++ (kind_part q.k ++ q.s) ≡ (values_text form.Listed 0 ps ++ codes ", " ++ decimal cim) ++ (kind_part q.l ++ q.t) →
    (dim ≡ cim) × (os ≡ ps) × (shown_result q.k ≡ shown_result q.l) × (q.s ≡ q.t)
bound_law dim cim [] ps q a x y u v i j h = absurd x
bound_law dim cim (w ∷ z ∷ os) ps q a x y u v i j h = absurd x
bound_law dim cim (w ∷ []) [] q a x y u v i j h = absurd y
bound_law dim cim (w ∷ []) (z ∷ z' ∷ ps) q a x y u v i j h = absurd y
bound_law dim cim (w ∷ []) (z ∷ []) q a x y u v i j h =
    let array = past_number w z _ _ (and_parts (fits_32 w.number) true i).0 (and_parts (fits_32 z.number) true j).0 refl refl (tails (tails (sym (bound-then dim w (kind_part q.k ++ q.s)) ∙ (h ∙ bound-then cim z (kind_part q.l ++ q.t))))) in
    let small_d = ltb-true dim 4294967296 u in
    let small_c = ltb-true cim 4294967296 v in
    let dims = same_decimal dim cim (kind_part q.k ++ q.s) (kind_part q.l ++ q.t) (omega arith) (omega arith) (spaced-stops (ends-spaced (kind-ends q.k q.s a.ends_s))) (spaced-stops (ends-spaced (kind-ends q.l q.t a.ends_t))) (tails (tails array.1)) in
    let kinds = kinds_law false q a dims.1 in
    (dims.0, joined array.0 refl, kinds.0, kinds.1)

one_operand : (w : BoundWord) (dim : ℕ) (os : List ValueId) → HasOperands (what.Bound w dim) os → IsOne os
one_operand w dim [] h = h
one_operand w dim (v ∷ []) h = tt
one_operand w dim (v ∷ u ∷ os) h = h

designate_law : (subs tubs : List SubKind) (os ps : List ValueId) (q : Pair) → AreEnded false q → HasOperands (what.Designate subs) os → HasOperands (what.Designate tubs) ps → all_fit os ≡ true → all_fit ps ≡ true →
    designator_text subs os ++ (kind_part q.k ++ q.s) ≡ designator_text tubs ps ++ (kind_part q.l ++ q.t) → (subs ≡ tubs) × (os ≡ ps) × (shown_result q.k ≡ shown_result q.l) × (q.s ≡ q.t)
designate_law subs tubs [] ps q a x y i j h = absurd x
designate_law subs tubs (r ∷ os) [] q a x y i j h = absurd y
designate_law subs tubs (r ∷ os) (z ∷ ps) q a x y i j h =
    let both = same_designator subs tubs r z os ps (kind_part q.k ++ q.s) (kind_part q.l ++ q.t) x y i j h in
    let kinds = kinds_law false q a both.2 in
    (both.0, both.1, kinds.0, kinds.1)

rest_law : (y : Form) (w : What) (p : Held) (m n : ℕ) (os ps : List ValueId) (q : Pair) → first_separator y ≡ codes " " → AreEnded (is_box w) q → IsPlain w m os q.k → IsPlain (holding p w) n ps q.l →
    rest_text y w m os q.k q.s ≡ rest_text y (holding p w) n ps q.l q.t → SameRest w p m n os ps q
rest_law y (what.Declare x) p m n os ps q e a i j h =
    let rest_k : List ℕ = values_text form.Listed 0 os ++ (kind_part q.k ++ q.s) in
    let rest_l : List ℕ = values_text form.Listed 0 ps ++ (kind_part q.l ++ q.t) in
    let name = same_name x p.name rest_k rest_l i.names j.names (sym (append_assoc x (34 ∷ []) rest_k) ∙ (tails (tails h) ∙ append_assoc p.name (34 ∷ []) rest_l)) in
    let r = values_law false form.Listed os ps q a i.operands_fit j.operands_fit name.1 in
    (ap what.Declare name.0, refl, r.0, r.1, r.2)
rest_law y (what.Assign f) p m n os ps q e a i j h =
    let r = flagged_law f p.flag 114 (codes "ealloc") m n os ps q (mark (what.Assign f)) (mark (what.Assign p.flag)) (assign-mark f) (assign-mark p.flag) a refl i.line_fits j.line_fits i.operands_fit j.operands_fit h in
    (ap what.Assign r.0, r.1, r.2, r.3, r.4)
rest_law y (what.Forall names) p m n os ps q e a i j h =
    let r = listed_law false true form.Listed m n os ps q a refl i.line_fits j.line_fits i.operands_fit j.operands_fit h in
    (refl, r.0, r.1, r.2, r.3)
rest_law y (what.Allocmem f) p m n os ps q e a i j h =
    let r = flagged_law f p.flag 97 (codes "lso") m n os ps q (mark (what.Allocmem f)) (mark (what.Allocmem p.flag)) (also-mark what.Allocmem refl refl f) (also-mark what.Allocmem refl refl p.flag) a refl i.line_fits j.line_fits i.operands_fit j.operands_fit h in
    (ap what.Allocmem r.0, r.1, r.2, r.3, r.4)
rest_law y (what.Freemem f) p m n os ps q e a i j h =
    let r = flagged_law f p.flag 97 (codes "lso") m n os ps q (mark (what.Freemem f)) (mark (what.Freemem p.flag)) (also-mark what.Freemem refl refl f) (also-mark what.Freemem refl refl p.flag) a refl i.line_fits j.line_fits i.operands_fit j.operands_fit h in
    (ap what.Freemem r.0, r.1, r.2, r.3, r.4)
rest_law y (what.Read f) p m n os ps q e a i j h =
    let r = flagged_law f p.flag 97 (codes "lso") m n os ps q (mark (what.Read f)) (mark (what.Read p.flag)) (also-mark what.Read refl refl f) (also-mark what.Read refl refl p.flag) a refl i.line_fits j.line_fits i.operands_fit j.operands_fit h in
    (ap what.Read r.0, r.1, r.2, r.3, r.4)
rest_law y what.Yield p m n os ps q e a i j h =
    let r = listed_law false false y m n os ps q a e i.line_fits j.line_fits i.operands_fit j.operands_fit h in
    (refl, r.0, r.1, r.2, r.3)
rest_law y (what.Constant v) p m n os ps q e a i j h =
    let calm_k = values-calm-k false form.Listed os q a refl in
    let calm_l = values-calm-l false form.Listed ps q a refl in
    let values = same_constant v p.value q.k q.l _ _ i.value j.value (calm-spaced calm_k) (calm-spaced calm_l) (tails h) in
    let r = values_law false form.Listed os ps q a i.operands_fit j.operands_fit values.1 in
    (ap what.Constant values.0, refl, r.0, r.1, r.2)
rest_law y (what.Bound w dim) p m n os ps q e a i j h =
    let r = bound_law dim p.dim os ps q a (one_operand w dim os i.operands) (one_operand w p.dim ps j.operands) i.dimension_fits j.dimension_fits i.operands_fit j.operands_fit h in
    (ap (what.Bound w) r.0, refl, r.1, r.2, r.3)
rest_law y (what.Designate subs) p m n os ps q e a i j h =
    let r = designate_law subs p.subs os ps q a i.operands j.operands i.operands_fit j.operands_fit h in
    (ap what.Designate r.0, refl, r.1, r.2, r.3)
rest_law y what.Vector p m n os ps q e a i j h =
    let r = listed_law false false form.Spaced m n os ps q a refl i.line_fits j.line_fits i.operands_fit j.operands_fit h in
    (refl, r.0, r.1, r.2, r.3)
rest_law y w p m n os ps q e a i j h =
    let r = listed_law (is_box w) (has_line w) form.Listed m n os ps q a refl i.line_fits j.line_fits i.operands_fit j.operands_fit h in
    (refl, r.0, r.1, r.2, r.3)

-- ---- how the line of an op begins

-- neither `%` nor the like
abbrev starts_word : List ℕ → Bool
starts_word s = not (get_or s 0 0 == 37) && starts_op s

unary-starts : (op : ValueUnary) (s : List ℕ) → starts_word (word (what.Unary op) ++ s) ≡ true
unary-starts unary.Neg s = refl
unary-starts _ s = refl

binary-starts : (op : ValueBinary) (s : List ℕ) → starts_word (word (what.Binary op) ++ s) ≡ true
binary-starts binary.Add s = refl
binary-starts _ s = refl

bound-starts : (w : BoundWord) (dim : ℕ) (s : List ℕ) → starts_word (word (what.Bound w dim) ++ s) ≡ true
bound-starts bound.Lower dim s = refl
bound-starts _ dim s = refl

reduce-starts : (r : Reduction) (s : List ℕ) → starts_word (word (what.Reduce r) ++ s) ≡ true
reduce-starts reduction.Sum s = refl
reduce-starts _ s = refl

word-starts : (w : What) (s : List ℕ) → starts_word (word w ++ s) ≡ true
word-starts (what.Unary op) s = unary-starts op s
word-starts (what.Binary op) s = binary-starts op s
word-starts (what.Bound w dim) s = bound-starts w dim s
word-starts (what.Reduce r) s = reduce-starts r s
word-starts w s = refl

pub op-starts : (number : ℕ) (k : Option ValueKind) (w : What) (s : List ℕ) → starts_op (result_part number k ++ (word w ++ s)) ≡ true
op-starts number None w s = (and_parts (not (get_or (word w ++ s) 0 0 == 37)) (starts_op (word w ++ s)) (word-starts w s)).1
op-starts number (Some k) w s = refl

no_percent : (w : What) (s t : List ℕ) → word w ++ s ≡ 37 ∷ t → ⊥
no_percent w s t e = true≢false (sym (word-starts w s) ∙ ap starts_word e)

same_result : (number : ℕ) (k l : Option ValueKind) (v w : What) (s t : List ℕ) → result_part number k ++ (word v ++ s) ≡ result_part number l ++ (word w ++ t) → (own_numbers k ≡ own_numbers l) × (word v ++ s ≡ word w ++ t)
same_result number None None v w s t h = (refl, h)
same_result number None (Some l) v w s t h = absurd (no_percent v s _ h)
same_result number (Some k) None v w s t h = absurd (no_percent w t _ (sym h))
same_result number (Some k) (Some l) v w s t h = (refl, append_cancel_left (result_part number (Some k)) (word v ++ s) (word w ++ t) h)

-- ---- lines

rest-spaced : (y : Form) (w : What) (line : ℕ) (os : List ValueId) (k : Option ValueKind) (s : List ℕ) → first_separator y ≡ codes " " → HasOperands w os → Ends s → Spaced (rest_text y w line os k s)
rest-spaced y (what.Declare x) line os k s e o t = Spaced.at_blank _ refl
rest-spaced y (what.Constant v) line os k s e o t = Spaced.at_blank _ refl
rest-spaced y (what.Bound w dim) line [] k s e o t = absurd o
rest-spaced y (what.Bound w dim) line (v ∷ os) k s e o t = Spaced.at_blank _ refl
rest-spaced y (what.Designate subs) line [] k s e o t = absurd o
rest-spaced y (what.Designate subs) line (v ∷ os) k s e o t = Spaced.at_blank _ refl
rest-spaced y (what.Assign f) line os k s e o t = Spaced.at_blank _ refl
rest-spaced y what.Masked line os k s e o t = Spaced.at_blank _ refl
rest-spaced y what.Elsewhere line os k s e o t = Spaced.at_blank _ refl
rest-spaced y (what.Forall names) line os k s e o t = Spaced.at_blank _ refl
rest-spaced y what.Workshare line os k s e o t = Spaced.at_blank _ refl
rest-spaced y what.DoLoop line os k s e o t = Spaced.at_blank _ refl
rest-spaced y (what.Allocmem f) line os k s e o t = Spaced.at_blank _ refl
rest-spaced y (what.Freemem f) line os k s e o t = Spaced.at_blank _ refl
rest-spaced y (what.Read f) line os k s e o t = Spaced.at_blank _ refl
rest-spaced y what.Yield line os k s e o t = calm-spaced (values-calm y os (kind_part k ++ s) e (kind-ends k s t))
rest-spaced y what.Vector line os k s e o t = calm-spaced (values-calm form.Spaced os (kind_part k ++ s) refl (kind-ends k s t))
rest-spaced y w line os k s e o t = calm-spaced (values-calm form.Listed os (kind_part k ++ s) refl (kind-ends k s t))

is_box-holding : (p : Held) (w : What) → is_box (holding p w) ≡ is_box w
is_box-holding p (what.Declare name) = refl
is_box-holding p _ = refl

pub head-then : (depth : ℕ) (y : Form) (number : ℕ) (w : What) (line : ℕ) (os : List ValueId) (k : Option ValueKind) (s : List ℕ) →
    head_text depth y number w line os k ++ s ≡ indent depth ++ (result_part number k ++ (word w ++ rest_text y w line os k s))
head-then depth y number w line os k s = simp append_assoc

pub head_law : (depth : ℕ) (y : Form) (number : ℕ) (v w : What) (m n : ℕ) (os ps : List ValueId) (q : Pair) → first_separator y ≡ codes " " → Ends q.s → Ends q.t → IsPlain v m os q.k → IsPlain w n ps q.l →
    head_text depth y number v m os q.k ++ q.s ≡ head_text depth y number w n ps q.l ++ q.t →
    (named (held w).names v ≡ w) × (shown_line v m ≡ shown_line w n) × (os ≡ ps) × (shown_result q.k ≡ shown_result q.l) × (own_numbers q.k ≡ own_numbers q.l) × (q.s ≡ q.t)
head_law depth y number v w m n os ps q e a b i j h =
    let in_line = append_cancel_left (indent depth) _ _ (sym (head-then depth y number v m os q.k q.s) ∙ (h ∙ head-then depth y number w n ps q.l q.t)) in
    let results = same_result number q.k q.l v w (rest_text y v m os q.k q.s) (rest_text y w n ps q.l q.t) in_line in
    let words = same_word v w (rest_text y v m os q.k q.s) (rest_text y w n ps q.l q.t) (rest-spaced y v m os q.k q.s e i.operands a) (rest-spaced y w n ps q.l q.t e j.operands b) results.1 in
    let plain : IsPlain (holding (held w) v) n ps q.l = subst (λ x. IsPlain x n ps q.l) words.0 j in
    let told : IsToldBy (is_box v) q.l = subst (λ b. IsToldBy b q.l) (is_box-holding (held w) v) plain.told in
    let ended : AreEnded (is_box v) q = record { as_many = results.0; told_k = i.told; told_l = told; fits_k = i.kind_fits; fits_l = j.kind_fits; ends_s = a; ends_t = b } in
    let rest = rest_law y v (held w) m n os ps q e ended i plain (words.1 ∙ ap (λ x. rest_text y x n ps q.l q.t) words.0) in
    (rest.0 ∙ sym words.0, rest.1 ∙ ap (λ x. shown_line x n) (sym words.0), rest.2, rest.3, results.0, rest.4)
