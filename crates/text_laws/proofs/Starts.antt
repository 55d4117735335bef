-- How ops and regions begin, and that their beginnings tell how many regions there are.
use Rattle.std.proofs.Common.{◌≡◌, refl, sym, ap, ◌∙◌, ℕ, suc, ◌+◌, ◌==◌, Bool, true, false, ◌⊎◌, inl, inr, List, [], ◌∷◌, ◌++◌, codes, arith, true≢false, append_assoc, eqb-true}
use Rattle.std.specs.Prelude.{if◌then◌else◌}
use Rattle.std.specs.List.{list_all}
use Rattle.std.proofs.lemmas.Bool.{and_parts}
use Rattle.std.proofs.lemmas.List.{append_cancel_left}
use mathlib.Core.Former.{Count}
use Rattle.ws_base.specs.declared.name.Name.{Name}
use Rattle.hlfir_ops.specs.declared.what.What.{What}
use Rattle.hlfir_ops.specs.declared.what.What.TheVariants as what
use Rattle.hlfir_ops.specs.declared.op.Op.{Op, Op'}
use Rattle.hlfir_ops.specs.Numbers.{own_numbers, op_numbers}
use Rattle.hlfir_ops.specs.Trees.{Ops, end_ops, more_ops, Regions, end_regions, more_regions}
use Rattle.hlfir_ops.specs.RulesForms.{has_regions}
use Rattle.hlfir_text.specs.declared.form.Form.{Form}
use Rattle.hlfir_text.specs.OperandText.{comma, value_text}
use Rattle.hlfir_text.specs.OpText.{word}
use Rattle.hlfir_text.specs.ModuleText.{indent, result_part, head_text, names_text, count, lone_part, op_text, ops_text, regions_text}
use Rattle.text_laws.specs.Writable.{is_name}
use Rattle.text_laws.proofs.Runs.{heads, tails, joined}
use Rattle.text_laws.proofs.Operands.{Ends}
use Rattle.text_laws.proofs.Heads.{same_name}
use Rattle.text_laws.proofs.Indents.{ended, starts_op, ended-deeper, op-goes_on, op-outer}
use Rattle.text_laws.proofs.Lines.{rest_text, op-starts, head-then}
use Rattle.text_laws.proofs.Goods.{IsSome}
use Rattle.text_laws.proofs.Nests.{region-then, is_masked}

-- ---- ops

-- an indentation, and then what is no blank and no end of a block
abbrev pub Begins : ℕ → List ℕ → Type 0
Begins depth s = (x : List ℕ) × (s ≡ indent depth ++ x) × (starts_op x ≡ true)

-- the text of an op by its line and its regions
abbrev pub tail_then : {m : Count} → ℕ → What → ℕ → Regions m → List ℕ → List ℕ
tail_then depth w number regions s = lone_part w (count regions) ++ (regions_text depth w number 0 regions ++ s)

op-begins : (depth : ℕ) (y : Form) (number : ℕ) (op : Op) (s : List ℕ) → Begins depth (op_text depth y number op ++ s)
op-begins depth y number (Op' w line os k h regions) s =
    let head = head_text depth y number w line os k in
    let lone = lone_part w (count regions) in
    let rest = regions_text depth w (number + own_numbers k) 0 regions in
    let z : List ℕ = lone ++ (rest ++ s) in (
      result_part number k ++ (word w ++ rest_text y w line os k z),
      append_assoc (head ++ lone) rest s ∙ (append_assoc head lone (rest ++ s) ∙ head-then depth y number w line os k z),
      op-starts number k w (rest_text y w line os k z),
    )

begins-more : (depth : ℕ) (a b s : List ℕ) → Begins depth (a ++ (b ++ s)) → Begins depth ((a ++ b) ++ s)
begins-more depth a b s h = (h.0, append_assoc a b s ∙ h.1, h.2)

pub some-begins : {m : Count} (depth : ℕ) (y : Form) (number : ℕ) (ops : Ops m) (s : List ℕ) → IsSome ops → Begins depth (ops_text depth y number ops ++ s)
some-begins depth y number end_ops s h = absurd h
some-begins depth y number (more_ops op ops) s h =
    begins-more depth (op_text depth y number op) (ops_text depth y (number + op_numbers op) ops) s (op-begins depth y number op (ops_text depth y (number + op_numbers op) ops ++ s))

pub begins-goes_on : (depth : ℕ) (s : List ℕ) → Begins depth s → ended depth s ≡ true → ⊥
begins-goes_on depth s b e = op-goes_on depth b.0 b.2 (sym (ap (ended depth) b.1) ∙ e)

pub begins-outer : (depth : ℕ) (s : List ℕ) → Begins depth s → ended (suc depth) s ≡ true
begins-outer depth s b = ap (ended (suc depth)) b.1 ∙ op-outer depth b.0 b.2

pub ops-outer : {m : Count} (depth : ℕ) (y : Form) (number : ℕ) (ops : Ops m) (s : List ℕ) → ended depth s ≡ true → ended (suc depth) (ops_text depth y number ops ++ s) ≡ true
ops-outer depth y number end_ops s e = ended-deeper depth s e
ops-outer depth y number (more_ops op ops) s e = begins-outer depth _ (some-begins depth y number (more_ops op ops) s tt)

pub more-goes_on : {m : Count} (depth : ℕ) (y : Form) (number : ℕ) (op : Op) (ops : Ops m) (s t : List ℕ) → ended depth t ≡ true → t ≡ ops_text depth y number (more_ops op ops) ++ s → ⊥
more-goes_on depth y number op ops s t e h = begins-goes_on depth _ (some-begins depth y number (more_ops op ops) s tt) (sym (ap (ended depth) h) ∙ e)

-- ---- what stands after the line

pub data First (s : List ℕ) : Type 0 where
  in_line : (z : List ℕ) → s ≡ 10 ∷ z → First s
  in_block : (z : List ℕ) → s ≡ 32 ∷ 123 ∷ z → First s

pub regions-first : {m : Count} (depth : ℕ) (w : What) (number : ℕ) (regions : Regions m) (s : List ℕ) → First (regions_text depth w number 0 regions ++ s)
regions-first depth w number end_regions s = in_line s refl
regions-first depth w number (more_regions region regions) s = in_block _ (region-then depth w number 0 region regions s)

first-ends : (s : List ℕ) → First s → Ends s
first-ends s (in_line z e) = Ends.at_line z e
first-ends s (in_block z e) = Ends.at_block z e

abbrev lone : Bool → List ℕ
lone b = if b then codes " do" else []

lone-ends : (b : Bool) (s : List ℕ) → First s → Ends (lone b ++ s)
lone-ends true s f = Ends.at_do (111 ∷ s) refl
lone-ends false s f = first-ends s f

pub tail-ends : {m : Count} (depth : ℕ) (w : What) (number : ℕ) (regions : Regions m) (s : List ℕ) → Ends (tail_then depth w number regions s)
tail-ends depth what.Elsewhere number regions s = lone-ends (count regions == 1) _ (regions-first depth what.Elsewhere number regions s)
tail-ends depth w number regions s = first-ends _ (regions-first depth w number regions s)

no_do : (s t : List ℕ) → First s → s ≡ 32 ∷ 100 ∷ t → ⊥
no_do s t (in_line z e) h = let k : 10 ≡ 32 = heads (sym e ∙ h) in omega (arith, k)
no_do s t (in_block z e) h = let k : 123 ≡ 100 = heads (tails (sym e ∙ h)) in omega (arith, k)

pub same_lone : (a b : Bool) (s t : List ℕ) → First s → First t → lone a ++ s ≡ lone b ++ t → (a ≡ b) × (s ≡ t)
same_lone true true s t f g h = (refl, tails (tails (tails h)))
same_lone true false s t f g h = absurd (no_do t _ g (sym h))
same_lone false true s t f g h = absurd (no_do s _ f h)
same_lone false false s t f g h = (refl, h)

-- ---- how many regions

abbrev pub is_elsewhere : What → Bool
is_elsewhere what.Elsewhere = true
is_elsewhere _ = false

-- how many regions an op has, but for a where and an elsewhere, which may have more than one number of them
abbrev form_count : What → ℕ
form_count (what.Declare name) = 0
form_count (what.Assign realloc) = 2
form_count what.Masked = 0
form_count what.Elsewhere = 0
form_count (what.Forall names) = 2
form_count what.ForallMask = 1
form_count what.Workshare = 1
form_count what.DoLoop = 2
form_count (what.Allocmem also) = 1
form_count (what.Freemem also) = 0
form_count (what.Read also) = 1
form_count what.Yield = 0
form_count what.YieldElement = 0
form_count (what.Constant c) = 0
form_count (what.Unary op) = 0
form_count (what.Binary op) = 0
form_count what.Select = 0
form_count what.Load = 0
form_count what.Boxed = 0
form_count (what.Bound w dim) = 0
form_count what.Size = 0
form_count what.Allocated = 0
form_count (what.Designate subs) = 0
form_count what.Vector = 0
form_count what.AsExpr = 0
form_count what.Elemental = 1
form_count what.Apply = 0
form_count (what.Reduce r) = 0

pub exact_count : (w : What) (n : ℕ) → is_masked w ≡ false → is_elsewhere w ≡ false → has_regions w n ≡ true → n ≡ form_count w
exact_count (what.Assign realloc) n p q h = eqb-true n 2 h
exact_count what.Masked n p q h = absurd (true≢false p)
exact_count what.Elsewhere n p q h = absurd (true≢false q)
exact_count (what.Forall names) n p q h = eqb-true n 2 h
exact_count what.ForallMask n p q h = eqb-true n 1 h
exact_count what.Workshare n p q h = eqb-true n 1 h
exact_count what.DoLoop n p q h = eqb-true n 2 h
exact_count (what.Allocmem also) n p q h = eqb-true n 1 h
exact_count (what.Read also) n p q h = eqb-true n 1 h
exact_count what.Elemental n p q h = eqb-true n 1 h
exact_count w n p q h = eqb-true n 0 h

pub elsewhere_count : (m n : ℕ) → ((m == 1) ≡ true) ⊎ ((m == 2) ≡ true) → ((n == 1) ≡ true) ⊎ ((n == 2) ≡ true) → (m == 1) ≡ (n == 1) → m ≡ n
elsewhere_count m n (inl p) (inl q) e = eqb-true m 1 p ∙ sym (eqb-true n 1 q)
elsewhere_count m n (inl p) (inr q) e = absurd (omega (arith, eqb-true n 1 (sym e ∙ p), eqb-true n 2 q))
elsewhere_count m n (inr p) (inl q) e = absurd (omega (arith, eqb-true m 1 (e ∙ q), eqb-true m 2 p))
elsewhere_count m n (inr p) (inr q) e = eqb-true m 2 p ∙ sym (eqb-true n 2 q)

-- ---- the names of a FORALL

names-then : (k number : ℕ) (x : Name) (xs : List Name) (s : List ℕ) → names_text k number (x ∷ xs) ++ s ≡ comma k ++ (value_text number ++ (32 ∷ 34 ∷ (x ++ (34 ∷ (names_text (suc k) (suc number) xs ++ s)))))
names-then k number x xs s = simp append_assoc

no_name : (b : Bool) (s t : List ℕ) → 32 ∷ s ≡ (if b then [] else codes ", ") ++ (37 ∷ t) → ⊥
no_name true s t e = let k : 32 ≡ 37 = heads e in omega (arith, k)
no_name false s t e = let k : 32 ≡ 44 = heads e in omega (arith, k)

pub same_names : (k number : ℕ) (xs ys : List Name) (s t : List ℕ) → list_all is_name xs ≡ true → list_all is_name ys ≡ true → names_text k number xs ++ (32 ∷ s) ≡ names_text k number ys ++ (32 ∷ t) → xs ≡ ys
same_names k number [] [] s t p q h = refl
same_names k number [] (y ∷ ys) s t p q h = absurd (no_name (k == 0) s _ (h ∙ names-then k number y ys (32 ∷ t)))
same_names k number (x ∷ xs) [] s t p q h = absurd (no_name (k == 0) t _ (sym h ∙ names-then k number x xs (32 ∷ s)))
same_names k number (x ∷ xs) (y ∷ ys) s t p q h =
    let p' = and_parts (is_name x) (list_all is_name xs) p in
    let q' = and_parts (is_name y) (list_all is_name ys) q in
    let past_comma = append_cancel_left (comma k) _ _ (sym (names-then k number x xs (32 ∷ s)) ∙ (h ∙ names-then k number y ys (32 ∷ t))) in
    let past_number = append_cancel_left (value_text number) _ _ past_comma in
    let first = same_name x y (names_text (suc k) (suc number) xs ++ (32 ∷ s)) (names_text (suc k) (suc number) ys ++ (32 ∷ t)) p'.0 q'.0 (tails (tails past_number)) in
    joined first.0 (same_names (suc k) (suc number) xs ys s t p'.1 q'.1 first.1)
