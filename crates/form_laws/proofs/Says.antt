-- What the rules say of the parts of an expression that breaks none.
use Rattle.std.proofs.Common.{◌≡◌, sym, ◌∙◌, ℕ, ◌<◌, ◌≤◌, Bool, true, false, not, ◌&&◌, nat_lt, nat_eq, [], Some, pos, arith}
use Rattle.ws_base.specs.Numbers.{in_range, default_half}
use Rattle.ws_base.specs.declared.op.CallWord.{CallWord}
use Rattle.ws_base.specs.declared.op.UnOp.{UnOp}
use Rattle.ws_base.specs.declared.op.BinOp.{BinOp}
use Rattle.ws_base.specs.declared.refusal.RefusalKind.TheVariants as refusal
use Rattle.ws_types.specs.declared.types.Typed.{Typed}
use Rattle.ws_types.specs.declared.types.Arguments.{Arguments}
use Rattle.ws_types.specs.Operations.{differ, takes_truth, joins_truths, is_other_type, is_above, unary_faults, binary_faults, subscript_faults, part_faults, vector_faults, call_faults}
use Rattle.ws_types.specs.Expressions.{wide_faults}
use Rattle.ws_sema.proofs.NoFaults.{none_first, none_after, not_broken, impossible, left_false, right_false}
use Rattle.hlfir_ops.specs.declared.what.ValueBinary.{ValueBinary}
use Rattle.form_laws.proofs.Folded.{Nests}
use Rattle.kind_laws.proofs.TypesTold.{not_other}

pub small_number : (n : ℕ) → n < 2147483648 → in_range default_half (pos n) ≡ true
small_number n h = grind (arith, h)

-- what the rules say of a subscript
pub low_rank : (ty : Typed) (high : ℕ) → is_above high (Some ty) ≡ false → ty.rank ≤ high
low_rank ty high h = grind (arith, h)

pub subscript_says : (line : ℕ) (ty : Typed) → subscript_faults line (Some ty) ≡ [] → (ty.truth ≡ false) × (ty.rank ≤ 1)
unfolding subscript_faults
subscript_says line ty f = (not_other false ty (not_broken _ _ _ (none_first _ _ f)), low_rank ty 1 (not_broken _ _ _ (none_after _ _ f)))

pub unary_says : (line : ℕ) (op : UnOp) (ty : Typed) → unary_faults line op (Some ty) ≡ [] → ty.truth ≡ takes_truth op
unfolding unary_faults
unary_says line op ty f = not_other (takes_truth op) ty (not_broken _ _ _ f)

pub binary_says : (line : ℕ) (op : BinOp) (ty tz : Typed) → binary_faults line op (Some ty) (Some tz) ≡ [] → (ty.truth ≡ joins_truths op) × (tz.truth ≡ joins_truths op) × (differ ty.rank tz.rank ≡ false)
unfolding binary_faults
binary_says line op ty tz f =
    let types = not_broken _ _ _ (none_first _ _ f) in (
      not_other (joins_truths op) ty (left_false (is_other_type (joins_truths op) (Some ty)) (is_other_type (joins_truths op) (Some tz)) types),
      not_other (joins_truths op) tz (right_false (is_other_type (joins_truths op) (Some ty)) (is_other_type (joins_truths op) (Some tz)) types),
      not_broken _ _ _ (none_after _ _ f),
    )

pub part_says : (line : ℕ) (ty : Typed) (count : ℕ) → part_faults line (Some ty) count ≡ [] → ty.rank ≡ count
unfolding part_faults
part_says line ty count f = let same : not (nat_eq ty.rank count) ≡ false = not_broken _ _ _ f in grind (arith, same)

pub vector_says : (line : ℕ) (inside : Bool) (count : ℕ) (a : Arguments) → vector_faults line inside count a ≡ [] → (a.rank ≡ 0) × ((a.truths && a.numbers) ≡ false)
unfolding vector_faults
vector_says line inside count a f =
    let low : nat_lt 0 a.rank ≡ false = right_false inside (nat_lt 0 a.rank) (not_broken _ _ _ (none_first _ _ (none_first _ _ f))) in
    (grind (arith, low), not_broken _ _ _ (none_after _ _ (none_first _ _ f)))

pub nested_says : (line : ℕ) (inside : Bool) (w : CallWord) (op : ValueBinary) (a : Arguments) → Nests w op → call_faults line inside w a ≡ [] → (a.truths ≡ false) × (a.mixed ≡ false)
unfolding call_faults
nested_says line inside w op a h f = (sym (h.type a) ∙ not_broken _ _ _ (none_after _ _ (none_first _ _ f)), sym (h.rank a) ∙ not_broken _ _ _ (none_after _ _ f))
