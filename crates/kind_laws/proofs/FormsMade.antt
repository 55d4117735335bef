-- What the forms of expressions make of what their parts make.
use Rattle.std.proofs.Common.{◌≡◌, refl, sym, ap, ◌∙◌, ℕ, ◌+◌, ◌<◌, ◌==◌, Bool, true, false, List, [], ◌∷◌, ◌++◌, length, map, Option, Some, None, nat_lt, nat_le, nat_eq, if◌then◌else◌, max, true≢false, arith}
use Rattle.std.proofs.lemmas.Bool.{eqb-true}
use mathlib.Core.Former.{Count}
use Rattle.ws_base.specs.declared.op.UnOp.{UnOp}
use Rattle.ws_base.specs.declared.op.UnOp.TheVariants as un
use Rattle.ws_base.specs.declared.op.BinOp.{BinOp}
use Rattle.ws_base.specs.declared.op.BinOp.TheVariants as bin
use Rattle.ws_base.specs.declared.op.CallWord.{CallWord}
use Rattle.ws_base.specs.declared.op.CallWord.TheVariants as word
use Rattle.ws_base.specs.declared.refusal.Refusal.{Refusal}
use Rattle.ws_base.specs.declared.refusal.RefusalKind.TheVariants as kind
use Rattle.ws_tree.specs.declared.expr.Expr.{Expr}
use Rattle.ws_tree.specs.Trees.{Exprs, end_exprs, more_exprs, Subs, end_subs, more_subs}
use Rattle.ws_tree.specs.Grammatical.{HasSubs}
use Rattle.ws_types.specs.declared.types.Typed.{Typed}
use Rattle.ws_types.specs.declared.types.Row.{Row}
use Rattle.ws_types.specs.declared.types.Arguments.{Arguments}
use Rattle.ws_types.specs.declared.types.Subscripts.{Subscripts}
use Rattle.ws_types.specs.Kinds.{when}
use Rattle.ws_tree.specs.Calls.{takes}
use Rattle.ws_types.specs.Operations.{takes_truth, gives_truth, is_inquiry, has_wrong_type, is_other_number, part_faults, with_subscript, with_argument}
use Rattle.ws_types.specs.Expressions.{listed, how_many, typed, arguments, all_faults}
use Rattle.ws_sema.proofs.NoFaults.{none_first, none_after, not_broken, impossible, not_false}
use Rattle.hlfir_ops.specs.declared.kinds.Elem.{Elem}
use Rattle.hlfir_ops.specs.declared.kinds.Elem.TheVariants.{I32, I1}
use Rattle.hlfir_ops.specs.declared.what.ValueBinary.{ValueBinary}
use Rattle.hlfir_ops.specs.RulesValues.{rank_of}
use Rattle.hlfir_ops.specs.RulesForms.{result_elem, section_rank}
use Rattle.lower_values.specs.declared.operand.Operand.{Operand}
use Rattle.lower_values.specs.declared.operand.Subscript.{Subscript}
use Rattle.lower_values.specs.declared.operand.Subscript.TheVariants.{One, Vector}
use Rattle.lower_assign.specs.Known.{elem}
use Rattle.lower_values.specs.Scopes.{Scope}
use Rattle.lower_values.specs.Lowerings.{Lowering}
use Rattle.lower_values.specs.Operations.{rank_from, binary_of, binary_operation, unary_operation, nesting_of, joined}
use Rattle.lower_values.specs.References.{sub_kind, added_rank, subscript_of, designated}
use Rattle.lower_values.specs.Values.{call_by}
use Rattle.lower_values.proofs.Named.{section_rank-more}
use Rattle.kind_laws.proofs.TypedExpressions.{type_known}
use Rattle.kind_laws.proofs.TypeFacts.{no_type, joined_types, selected}
use Rattle.kind_laws.proofs.Made.{Makes, makes-done, makes-giving, IsOf, IsReferenceTo, IsPartOf, operation_made, parentheses_made}
use Rattle.kind_laws.proofs.Arguments.{argued}
use Rattle.kind_laws.proofs.CallsMade.{call_result}

-- ---- operators

pub unary_made : (s : Scope) (op : UnOp) (x : Operand) (ty : Typed) → ty.truth ≡ takes_truth op → IsOf ty x → Makes s (IsOf ty) (unary_operation op x)
unary_made s un.Minus x ty h k = operation_made s _ I32 (x ∷ []) ty (ap elem (sym h)) (let r = k.rank in omega arith)
unary_made s un.Plus x ty h k = parentheses_made s x ty k
unary_made s un.Not x ty h k = operation_made s _ I1 (x ∷ []) ty (ap elem (sym h)) (let r = k.rank in omega arith)

result-is : (op : BinOp) → result_elem (binary_of op) ≡ elem (gives_truth op)
result-is bin.Add = refl
result-is bin.Sub = refl
result-is bin.Mul = refl
result-is bin.Div = refl
result-is bin.Pow = refl
result-is bin.Eq = refl
result-is bin.Ne = refl
result-is bin.Lt = refl
result-is bin.Le = refl
result-is bin.Gt = refl
result-is bin.Ge = refl
result-is bin.And = refl
result-is bin.Or = refl
result-is bin.Eqv = refl
result-is bin.Neqv = refl

two_ranks : (x y : Operand) (m n : ℕ) → rank_of x.kind ≡ m → rank_of y.kind ≡ n → rank_from 0 (x ∷ y ∷ []) ≡ max m n
two_ranks x y m n h k = ap (λ i. max i (rank_of y.kind)) (let first : max 0 (rank_of x.kind) ≡ m = omega (arith, h) in first) ∙ ap (max m) k

pub binary_made : (s : Scope) (op : BinOp) (x y : Operand) (a b : Typed) → IsOf a x → IsOf b y → Makes s (IsOf (joined_types op a b)) (binary_operation (binary_of op) x y)
binary_made s op x y a b h k = operation_made s _ (result_elem (binary_of op)) (x ∷ y ∷ []) (joined_types op a b) (result-is op) (two_ranks x y a.rank b.rank h.rank k.rank)

-- ---- subscripts

one_at : (r n c : ℕ) (x : Operand) (b d : Bool) → (r == 0) ≡ b → nat_lt 0 n ≡ d → r ≡ n → added_rank (sub_kind (if b then One x.value else Vector x.value)) + c ≡ (if d then c + 1 else c)
one_at r n c x true true h k e = absurd (let a : (n == 0) ≡ true = ap (λ m. m == 0) (sym e) ∙ h in grind (arith, a, k))
one_at r n c x true false h k e = omega arith
one_at r n c x false true h k e = omega arith
one_at r n c x false false h k e = absurd (let a : (n == 0) ≡ false = ap (λ m. m == 0) (sym e) ∙ h in grind (arith, a, k))

pub one_added : (c : Subscripts) (o : Option Typed) (a : Typed) (x : Operand) → o ≡ Some a → rank_of x.kind ≡ a.rank → added_rank (sub_kind (subscript_of x)) + c.rank ≡ (with_subscript c o).rank
one_added c o a x h k = rw h (one_at (rank_of x.kind) a.rank c.rank x (rank_of x.kind == 0) (nat_lt 0 a.rank) refl refl k)

-- the subscripts of this rank, counted with what stands before
abbrev pub AddUp : ℕ → ℕ → List Subscript → Type 0
AddUp before rank ss = section_rank (map sub_kind ss) + before ≡ rank

pub adds_more : (x : Subscript) (xs : List Subscript) (c m rank : ℕ) → added_rank (sub_kind x) + c ≡ m → AddUp m rank xs → AddUp c rank (x ∷ xs)
adds_more x xs c m rank h k = let first = section_rank-more (sub_kind x) (map sub_kind xs) in omega (arith, first, h, k)

pub some_subs : {m : Count} (ss : Subs m) → HasSubs ss → 0 < how_many ss
some_subs end_subs h = absurd h
some_subs (more_subs x xs) h = omega arith

pub part_rank : {m : Count} (line : ℕ) (o : Option Typed) (a : Typed) (ss : Subs m) → o ≡ Some a → HasSubs ss → part_faults line o (how_many ss) ≡ [] → 0 < a.rank
unfolding part_faults
part_rank line o a ss h g f =
    let same : nat_eq a.rank (how_many ss) ≡ true = not_false (nat_eq a.rank (how_many ss)) (ap (λ p. is_other_number p (how_many ss)) (sym h) ∙ not_broken _ _ _ f) in
    let e = eqb-true a.rank (how_many ss) same in
    omega (arith, e, some_subs ss g)

pub designated_made : (s : Scope) (r : Operand) (ss : List Subscript) (a : Typed) (c : Subscripts) → IsReferenceTo a r → AddUp 0 c.rank ss → Makes s (IsPartOf (selected a c)) (designated r ss)
unfolding designated
designated_made s r ss a c h k = makes-giving s (IsPartOf (selected a c)) _ _ _ (λ v. record { rank = section_rank (map sub_kind ss); kind = rw h.elem refl; same = omega (arith, k) })

-- ---- calls

-- each argument has its type
abbrev pub AreTyped : {m : Count} → List Row → Bool → Exprs m → List Typed → Type 0
AreTyped t inside end_exprs [] = Unit {0}
AreTyped t inside (more_exprs e es) (a ∷ tys) = (typed t inside e ≡ Some a) × AreTyped t inside es tys
AreTyped t inside _ _ = ⊥

pub types_known : {m : Count} (t : List Row) (inside : Bool) (line : ℕ) (es : Exprs m) → all_faults t inside line es ≡ [] → (tys : List Typed) × AreTyped t inside es tys
types_known t inside line end_exprs f = ([], tt)
types_known t inside line (more_exprs e es) f =
    let first = type_known t inside line e (none_first _ _ f) in
    let rest = types_known t inside line es (none_after _ _ f) in
    (first.0 ∷ rest.0, (first.1, rest.1))

pub arguments-are : {m : Count} (t : List Row) (inside : Bool) (c : Arguments) (es : Exprs m) (tys : List Typed) → AreTyped t inside es tys → arguments t inside c es ≡ argued c tys
arguments-are t inside c end_exprs [] h = refl
arguments-are t inside c end_exprs (a ∷ tys) h = absurd h
arguments-are t inside c (more_exprs e es) [] h = absurd h
arguments-are t inside c (more_exprs e es) (a ∷ tys) h = ap (λ o. arguments t inside (with_argument c o) es) h.0 ∙ arguments-are t inside (with_argument c (Some a)) es tys h.1

pub typed-length : {m : Count} (t : List Row) (inside : Bool) (es : Exprs m) (tys : List Typed) → AreTyped t inside es tys → length (listed es) ≡ length tys
typed-length t inside end_exprs [] h = refl
typed-length t inside end_exprs (a ∷ tys) h = absurd h
typed-length t inside (more_exprs e es) [] h = absurd h
typed-length t inside (more_exprs e es) (a ∷ tys) h = let rest = typed-length t inside es tys h.1 in omega (arith, rest)

pub by_call : (s : Scope) (P : Operand → Type 0) (o : Option ValueBinary) (b : Bool) (p : ValueBinary → Lowering Operand) (q r : Lowering Operand) → ((op : ValueBinary) → o ≡ Some op → Makes s P (p op)) → (o ≡ None → b ≡ true → Makes s P q) →
    (o ≡ None → b ≡ false → Makes s P r) → Makes s P (call_by o b p q r)
by_call s P (Some op) b p q r f g h = f op refl
by_call s P None true p q r f g h = g refl refl
by_call s P None false p q r f g h = h refl refl

pub call_taken : (right b : Bool) (o p : Option Typed) (ty : Typed) → (if right then (if b then o else p) else None) ≡ Some ty → right ≡ true
call_taken true b o p ty e = refl
call_taken false b o p ty e = no_type ty e

pub call_asked : (right b : Bool) (o p : Option Typed) (ty : Typed) → (if right then (if b then o else p) else None) ≡ Some ty → b ≡ true → o ≡ Some ty
call_asked true true o p ty e h = e
call_asked true false o p ty e h = absurd (true≢false (sym h))
call_asked false b o p ty e h = no_type ty e

pub call_typed : (right b : Bool) (o p : Option Typed) (ty : Typed) → (if right then (if b then o else p) else None) ≡ Some ty → b ≡ false → p ≡ Some ty
call_typed true true o p ty e h = absurd (true≢false h)
call_typed true false o p ty e h = e
call_typed false b o p ty e h = no_type ty e

pub parts_faultless : (right b : Bool) (line : ℕ) (asked parts rules : List Refusal) → b ≡ false → (if right then (if b then asked else (parts ++ rules)) else when true line kind.Unsupported) ≡ [] → parts ≡ []
parts_faultless false b line asked parts rules h f = impossible line kind.Unsupported f
parts_faultless true true line asked parts rules h f = absurd (true≢false h)
parts_faultless true false line asked parts rules h f = none_first _ _ f

-- ---- MIN and MAX

pub record IsNesting (w : CallWord) (op : ValueBinary) : Type 0 where
  pub asks : is_inquiry w ≡ false
  pub elem : result_elem op ≡ I32
  pub result : (a : Arguments) → call_result w a ≡ record { truth = false; rank = a.rank }
  pub wrong : (a : Arguments) → has_wrong_type w a ≡ a.truths
  pub many : (es : List Expr) → takes w es ≡ true → nat_le 2 (length es) ≡ true

elem_or : Option ValueBinary → Elem
elem_or (Some op) = result_elem op
elem_or None = I32

pub is_nesting : (w : CallWord) (op : ValueBinary) → nesting_of w ≡ Some op → IsNesting w op
unfolding takes elem_or
is_nesting word.Min op h = record { asks = refl; elem = sym (ap elem_or h); result = λ a. refl; wrong = λ a. refl; many = λ es e. e }
is_nesting word.Max op h = record { asks = refl; elem = sym (ap elem_or h); result = λ a. refl; wrong = λ a. refl; many = λ es e. e }
is_nesting _ op h = absurd (let e = h in cc)

abbrev pub number_of_rank : ℕ → Typed
number_of_rank rank = record { truth = false; rank = rank }

-- what was made of the arguments before, if there are any
abbrev pub IsBefore : ℕ → Option Operand → Type 0
IsBefore rank None = rank ≡ 0
IsBefore rank (Some x) = IsOf (number_of_rank rank) x

pub joined_made : (s : Scope) (op : ValueBinary) (before : Option Operand) (y : Operand) (rank : ℕ) (a : Typed) → result_elem op ≡ I32 → IsBefore rank before → a.truth ≡ false → IsOf a y → Makes s (IsOf (number_of_rank (max rank a.rank))) (joined op before y)
joined_made s op None y rank a i h n k = makes-done s (IsOf (number_of_rank (max rank a.rank))) y (record { elem = k.elem ∙ ap elem n; rank = let r = k.rank in omega (arith, h, r); value = k.value })
joined_made s op (Some x) y rank a i h n k = operation_made s _ (result_elem op) (x ∷ y ∷ []) (number_of_rank (max rank a.rank)) i (two_ranks x y rank a.rank h.rank k.rank)
