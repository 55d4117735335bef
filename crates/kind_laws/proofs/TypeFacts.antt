-- What the type of an expression says of its parts.
use Rattle.std.proofs.Common.{◌≡◌, refl, sym, ap, ◌∙◌, ℕ, Bool, true, false, not, ◌||◌, Option, Some, None, if◌then◌else◌, max, true≢false}
use Rattle.ws_base.specs.declared.op.UnOp.{UnOp}
use Rattle.ws_base.specs.declared.op.BinOp.{BinOp}
use Rattle.ws_types.specs.declared.types.Typed.{Typed}
use Rattle.ws_types.specs.declared.types.Subscripts.{Subscripts}
use Rattle.ws_types.specs.Names.{integer}
use Rattle.ws_types.specs.Operations.{takes_truth, joins_truths, gives_truth, same_truth, is_other_type, ranks_differ, unary_type, joined_type, binary_type, is_other_number, selected_type, part_type}

-- ---- equations between types

type_or_integer : Option Typed → Typed
type_or_integer (Some a) = a
type_or_integer None = integer

pub same_type : (a b : Typed) → Some a ≡ Some b → a ≡ b
unfolding type_or_integer
same_type a b e = ap type_or_integer e

pub no_type : {P : Type 0} (a : Typed) → None ≡ Some a → P
no_type a e = absurd (let h = e in cc)

pub chosen_type : (b : Bool) (o : Option Typed) (ty : Typed) → (if b then None else o) ≡ Some ty → o ≡ Some ty
chosen_type true o ty e = no_type ty e
chosen_type false o ty e = e

pub not_chosen : (b : Bool) (o : Option Typed) (ty : Typed) → (if b then None else o) ≡ Some ty → b ≡ false
not_chosen true o ty e = no_type ty e
not_chosen false o ty e = refl

same_truth_is : (a b : Bool) → not (same_truth a b) ≡ false → b ≡ a
same_truth_is true true e = refl
same_truth_is true false e = absurd (true≢false e)
same_truth_is false true e = absurd (true≢false e)
same_truth_is false false e = refl

-- ---- operators

-- the operand has the type of the result, and the operator takes it
pub unary_operand : (op : UnOp) (o : Option Typed) (ty : Typed) → unary_type op o ≡ Some ty → o ≡ Some ty
unfolding unary_type
unary_operand op o ty e = chosen_type (is_other_type (takes_truth op) o) o ty e

pub unary_truth : (op : UnOp) (o : Option Typed) (ty : Typed) → unary_type op o ≡ Some ty → ty.truth ≡ takes_truth op
unfolding unary_type
unary_truth op o ty e =
    let same : o ≡ Some ty = chosen_type (is_other_type (takes_truth op) o) o ty e in
    same_truth_is (takes_truth op) ty.truth (ap (is_other_type (takes_truth op)) (sym same) ∙ not_chosen (is_other_type (takes_truth op) o) o ty e)

-- what two operands give
abbrev pub joined_types : BinOp → Typed → Typed → Typed
joined_types op a b = record { truth = gives_truth op; rank = max a.rank b.rank }

pub binary_result : (op : BinOp) (o p : Option Typed) (a b ty : Typed) → o ≡ Some a → p ≡ Some b → binary_type op o p ≡ Some ty → joined_types op a b ≡ ty
unfolding binary_type
binary_result op o p a b ty h k e =
    same_type (joined_types op a b) ty
    (ap (λ q. joined_type op (Some a) q) (sym k) ∙ (ap (λ q. joined_type op q p) (sym h) ∙ chosen_type (is_other_type (joins_truths op) o || is_other_type (joins_truths op) p || ranks_differ o p) (joined_type op o p) ty e))

-- ---- parts

sound_is : (b : Bool) (a ty : Typed) → (if b then Some a else None) ≡ Some ty → a ≡ ty
sound_is true a ty e = same_type a ty e
sound_is false a ty e = no_type ty e

-- what subscripts select of an array
abbrev pub selected : Typed → Subscripts → Typed
selected a s = record { truth = a.truth; rank = s.rank }

pub part_result : (o : Option Typed) (count : ℕ) (s : Subscripts) (a ty : Typed) → o ≡ Some a → part_type o count s ≡ Some ty → selected a s ≡ ty
unfolding part_type
part_result o count s a ty h e = sound_is s.sound (selected a s) ty (ap (λ q. selected_type q s) (sym h) ∙ chosen_type (is_other_number o count) (selected_type o s) ty e)
