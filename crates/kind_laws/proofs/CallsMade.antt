-- What calls make.
use Rattle.std.proofs.Common.{◌≡◌, refl, sym, ap, ◌∙◌, ℕ, Bool, true, false, not, ◌||◌, ◌&&◌, List, [], ◌∷◌, length, nat_eq, Option, Some, None, if◌then◌else◌, true≢false, arith}
use Rattle.std.proofs.lemmas.Bool.{eqb-true, false≢true}
use Rattle.ws_base.specs.declared.op.CallWord.{CallWord}
use Rattle.ws_base.specs.declared.op.CallWord.TheVariants as word
use Rattle.ws_tree.specs.declared.expr.Expr.{Expr}
use Rattle.ws_tree.specs.declared.expr.Expr.TheVariants.{Named}
use Rattle.ws_types.specs.declared.types.Typed.{Typed}
use Rattle.ws_types.specs.declared.types.Arguments.{Arguments}
use Rattle.ws_types.specs.declared.types.Row.{Row}
use Rattle.ws_types.specs.Operations.{no_arguments, is_inquiry, is_reduction, is_wrong_choice, has_wrong_type, has_wrong_rank, call_gives_truth, call_type, is_allocated_word, inquired_type, inquiry_type}
use Rattle.ws_types.specs.Names.{name_type}
use Rattle.ws_types.specs.Expressions.{first_standing}
use Rattle.ws_sema.proofs.NoFaults.{left_false}
use Rattle.hlfir_ops.specs.declared.kinds.Elem.TheVariants.{I32, I1}
use Rattle.hlfir_ops.specs.declared.kinds.ValueKind.TheVariants.{Scalar}
use Rattle.lower_values.specs.declared.operand.Operand.{Operand}
use Rattle.lower_assign.specs.Known.{elem}
use Rattle.lower_values.specs.Scopes.{Scope}
use Rattle.lower_values.specs.Lowerings.{scoped, ◌>>=◌}
use Rattle.lower_values.specs.Operations.{nesting_of, call_on, operation, what_of, call_elem}
use Rattle.lower_values.specs.References.{bound_word, bound_or_size, size, bound, dimension_in, inquiry, reference, is_allocated, declare_of}
use Rattle.kind_laws.proofs.TypeFacts.{same_type, no_type, chosen_type, not_chosen}
use Rattle.kind_laws.proofs.Made.{Makes, makes-then, makes-scoped, makes-giving, IsOf, scalar_type, operation_made}
use Rattle.kind_laws.proofs.Arguments.{AreOf, argued, argued-rank}

-- ---- types of calls

-- what a call of arguments that have this in common gives
abbrev pub call_result : CallWord → Arguments → Typed
call_result w a = record { truth = call_gives_truth w a; rank = if is_reduction w then 0 else a.rank }

pub call_result-is : (inside : Bool) (w : CallWord) (a : Arguments) (ty : Typed) → call_type inside w a ≡ Some ty → call_result w a ≡ ty
unfolding call_type
call_result-is inside w a ty e = same_type (call_result w a) ty (chosen_type _ (Some (call_result w a)) ty e)

second_false : (x y z u : Bool) → (x || y || z || u) ≡ false → y ≡ false
second_false true y z u h = absurd (true≢false h)
second_false false true z u h = h
second_false false false z u h = refl

pub right_types : (inside : Bool) (w : CallWord) (a : Arguments) (ty : Typed) → call_type inside w a ≡ Some ty → has_wrong_type w a ≡ false
unfolding call_type
right_types inside w a ty e = second_false (inside && is_reduction w) (has_wrong_type w a) (has_wrong_rank w a) (not a.sound) (not_chosen _ (Some (call_result w a)) ty e)

-- ---- calls of all arguments at once

plain_made : (s : Scope) (w : CallWord) (tys : List Typed) (xs : List Operand) → AreOf tys xs → is_reduction w ≡ false → call_elem w xs ≡ elem (call_gives_truth w (argued no_arguments tys)) →
    Makes s (IsOf (call_result w (argued no_arguments tys))) (operation (what_of w) (call_elem w xs) xs)
plain_made s w tys xs h r g =
    operation_made s (what_of w) (call_elem w xs) xs (call_result w (argued no_arguments tys)) g
    (argued-rank no_arguments tys xs 0 refl h ∙ ap (λ b. if b then 0 else (argued no_arguments tys).rank) (sym r))

choice_truth : (a b : Bool) → ((a || b) && (not a || not b)) ≡ false → a ≡ (a || b)
choice_truth true b h = refl
choice_truth false true h = absurd (true≢false h)
choice_truth false false h = refl

-- the type of MERGE is that of its first argument
choice_elem : (tys : List Typed) (xs : List Operand) → AreOf tys xs → nat_eq (length tys) 3 ≡ true → is_wrong_choice (argued no_arguments tys) ≡ false → call_elem word.Merge xs ≡ elem (call_gives_truth word.Merge (argued no_arguments tys))
choice_elem [] xs h n e = absurd (false≢true n)
choice_elem (a ∷ []) xs h n e = absurd (false≢true n)
choice_elem (a ∷ b ∷ []) xs h n e = absurd (false≢true n)
choice_elem (a ∷ b ∷ c ∷ []) [] h n e = absurd h
choice_elem (a ∷ b ∷ c ∷ []) (x ∷ xs) h n e = h.0.elem ∙ ap elem (choice_truth a.truth b.truth (left_false _ _ e))
choice_elem (a ∷ b ∷ c ∷ d ∷ tys) xs h n e = absurd (let three = eqb-true (length (a ∷ b ∷ c ∷ d ∷ tys)) 3 n in omega arith)

-- a call that is no inquiry, and neither MIN nor MAX
pub all_made : (s : Scope) (w : CallWord) (tys : List Typed) (xs : List Operand) → nesting_of w ≡ None → is_inquiry w ≡ false → AreOf tys xs →
    (w ≡ word.Merge → nat_eq (length tys) 3 ≡ true) → has_wrong_type w (argued no_arguments tys) ≡ false → Makes s (IsOf (call_result w (argued no_arguments tys))) (call_on w xs)
unfolding call_on
all_made s word.Sum tys xs m i h t e = makes-giving s (IsOf _) _ _ (Scalar I32) (λ v. scalar_type I32 _ refl refl)
all_made s word.Product tys xs m i h t e = makes-giving s (IsOf _) _ _ (Scalar I32) (λ v. scalar_type I32 _ refl refl)
all_made s word.Minval tys xs m i h t e = makes-giving s (IsOf _) _ _ (Scalar I32) (λ v. scalar_type I32 _ refl refl)
all_made s word.Maxval tys xs m i h t e = makes-giving s (IsOf _) _ _ (Scalar I32) (λ v. scalar_type I32 _ refl refl)
all_made s word.Count tys xs m i h t e = makes-giving s (IsOf _) _ _ (Scalar I32) (λ v. scalar_type I32 _ refl refl)
all_made s word.Any tys xs m i h t e = makes-giving s (IsOf _) _ _ (Scalar I1) (λ v. scalar_type I1 _ refl refl)
all_made s word.All tys xs m i h t e = makes-giving s (IsOf _) _ _ (Scalar I1) (λ v. scalar_type I1 _ refl refl)
all_made s word.Merge tys xs m i h t e = plain_made s word.Merge tys xs h refl (choice_elem tys xs h (t refl) e)
all_made s word.Abs tys xs m i h t e = plain_made s word.Abs tys xs h refl refl
all_made s word.Mod tys xs m i h t e = plain_made s word.Mod tys xs h refl refl
all_made s word.Modulo tys xs m i h t e = plain_made s word.Modulo tys xs h refl refl
all_made s word.Min tys xs m i h t e = absurd (let n = m in cc)
all_made s word.Max tys xs m i h t e = absurd (let n = m in cc)
all_made s word.Size tys xs m i h t e = absurd (true≢false i)
all_made s word.Lbound tys xs m i h t e = absurd (true≢false i)
all_made s word.Ubound tys xs m i h t e = absurd (true≢false i)
all_made s word.Allocated tys xs m i h t e = absurd (true≢false i)

-- ---- inquiries

abbrev inquired : CallWord → Typed
inquired w = record { truth = is_allocated_word w; rank = 0 }

inquired-is : (w : CallWord) (o : Option Typed) (ty : Typed) → inquired_type w o ≡ Some ty → inquired w ≡ ty
inquired-is w None ty e = no_type ty e
inquired-is w (Some a) ty e = same_type (inquired w) ty e

size_made : (s : Scope) (dim : Option ℕ) (r : Operand) (ty : Typed) → ty ≡ inquired word.Size → Makes s (IsOf ty) (size dim r)
unfolding bound
size_made s None r ty is = rw is (makes-giving s (IsOf _) _ _ (Scalar I32) (λ v. scalar_type I32 _ refl refl))
size_made s (Some k) r ty is = rw is (makes-giving s (IsOf _) _ _ (Scalar I32) (λ v. scalar_type I32 _ refl refl))

bound_made : (s : Scope) (w : CallWord) (dim : Option ℕ) (r : Operand) → is_allocated_word w ≡ false → Makes s (IsOf (inquired word.Size)) (bound_or_size (bound_word w) dim r)
unfolding bound
bound_made s word.Lbound dim r h = makes-giving s (IsOf _) _ _ (Scalar I32) (λ v. scalar_type I32 _ refl refl)
bound_made s word.Ubound dim r h = makes-giving s (IsOf _) _ _ (Scalar I32) (λ v. scalar_type I32 _ refl refl)
bound_made s _ dim r h = size_made s dim r (inquired word.Size) refl

inquired_at : (s : Scope) (w : CallWord) (x : List ℕ) (dim : Option ℕ) (b : Bool) → is_allocated_word w ≡ b →
    Makes s (IsOf (record { truth = b; rank = 0 })) (if b then scoped (λ q. is_allocated (declare_of q.names x)) else (reference x >>= bound_or_size (bound_word w) dim))
inquired_at s w x dim true is = makes-scoped s (IsOf _) (λ q. is_allocated (declare_of q.names x)) (makes-giving s (IsOf _) _ _ (Scalar I1) (λ v. scalar_type I1 _ refl refl))
inquired_at s w x dim false is = makes-then s (λ r. Unit {0}) (IsOf _) (reference x) (bound_or_size (bound_word w) dim) (λ n. tt) (λ r h. bound_made s w dim r is)

no_first : {P : Type 0} (w : CallWord) (es : List Expr) (ty : Typed) → inquiry_type w None es ≡ Some ty → P
unfolding inquiry_type
no_first w es ty e = no_type ty (chosen_type _ None ty e)

pub inquiry_made : (t : List Row) (s : Scope) (w : CallWord) (es : List Expr) (ty : Typed) → inquiry_type w (first_standing t es) es ≡ Some ty → Makes s (IsOf ty) (inquiry w es)
unfolding inquiry inquiry_type
inquiry_made t s w [] ty e = no_first w [] ty e
inquiry_made t s w (Named x ∷ es) ty e =
    let o = first_standing t (Named x ∷ es) in
    rw (← inquired-is w (name_type o) ty (chosen_type _ (inquired_type w (name_type o)) ty e)) (inquired_at s w x (dimension_in (Named x ∷ es)) (is_allocated_word w) refl)
inquiry_made t s w (x ∷ es) ty e = no_first w (x ∷ es) ty e
