-- Types of names, operations, subscripts and calls in which no rule is broken.
use Rattle.std.proofs.Common.{◌≡◌, refl, sym, ℕ, Bool, true, false, not, ◌||◌, ◌&&◌, nat_lt, nat_eq, List, [], ◌++◌, Option, Some, None, if◌then◌else◌, true≢false, arith}
use Rattle.ws_base.specs.declared.refusal.Refusal.{Refusal}
use Rattle.ws_base.specs.declared.refusal.RefusalKind.TheVariants as kind
use Rattle.ws_base.specs.declared.op.UnOp.{UnOp}
use Rattle.ws_base.specs.declared.op.BinOp.{BinOp}
use Rattle.ws_base.specs.declared.op.CallWord.{CallWord}
use Rattle.ws_tree.specs.declared.expr.Expr.{Expr}
use Rattle.ws_types.specs.declared.types.Typed.{Typed}
use Rattle.ws_types.specs.declared.types.Standing.{Standing}
use Rattle.ws_types.specs.declared.types.Standing.TheVariants.{Declared, Active, Index, Barred}
use Rattle.ws_types.specs.declared.types.Arguments.{Arguments}
use Rattle.ws_types.specs.declared.types.Subscripts.{Subscripts}
use Rattle.ws_types.specs.Kinds.{when}
use Rattle.ws_types.specs.Names.{name_type, name_faults, integer, entry_type, is_no_allocatable}
use Rattle.ws_types.specs.Operations.{takes_truth, joins_truths, is_other_type, ranks_differ, unary_faults, unary_type, binary_faults, joined_type, binary_type, scalar_faults, is_scalar, subscript_faults, with_subscript, part_faults, selected_type, part_type, with_argument, item_limit, vector_faults, vector_type, is_reduction, has_wrong_type, has_wrong_rank, call_faults, call_type, is_allocated_word, is_outside_type, has_wide_dimension, inquiry_faults, inquired_type, inquiry_type}
use Rattle.ws_types.specs.Expressions.{number_limit, number_type, number_faults}
use Rattle.ws_sema.proofs.NoFaults.{none_first, none_after, not_broken, impossible, both_false, not_true}
use Rattle.kind_laws.specs.Laws.{TypeIsKnown}

-- ---- what is known

pub known : (a : Typed) → TypeIsKnown (Some a)
known a = (a, refl)

pub unknown : {P : Type 0} → TypeIsKnown None → P
unknown h = absurd (let is = h.1 in cc)

pub chosen : (b : Bool) (o : Option Typed) → b ≡ false → TypeIsKnown o → TypeIsKnown (if b then None else o)
chosen true o h k = absurd (true≢false h)
chosen false o h k = k

-- ---- numbers and names

number_at : (b : Bool) (line : ℕ) → when b line kind.OverLimit ≡ [] → TypeIsKnown (if b then None else Some integer)
number_at true line f = impossible line kind.OverLimit f
number_at false line f = known integer

pub number_known : (line n : ℕ) → number_faults line n ≡ [] → TypeIsKnown (number_type n)
unfolding number_faults
number_known line n f = number_at (nat_lt number_limit n) line f

pub name_known : (line : ℕ) (s : Option Standing) → name_faults line s ≡ [] → TypeIsKnown (name_type s)
unfolding name_faults
name_known line None f = impossible line kind.Undeclared (none_first _ _ f)
name_known line (Some (Declared e)) f = known (entry_type e)
name_known line (Some (Active e)) f = known (entry_type e)
name_known line (Some Index) f = known integer
name_known line (Some Barred) f = impossible line kind.DoVariable (none_after _ _ f)

-- ---- operators

pub unary_known : (line : ℕ) (op : UnOp) (o : Option Typed) → TypeIsKnown o → unary_faults line op o ≡ [] → TypeIsKnown (unary_type op o)
unfolding unary_faults unary_type
unary_known line op o h f = chosen (is_other_type (takes_truth op) o) o (not_broken _ _ _ f) h

joined_known : (op : BinOp) (o p : Option Typed) → TypeIsKnown o → TypeIsKnown p → TypeIsKnown (joined_type op o p)
joined_known op None p h k = unknown h
joined_known op (Some a) None h k = unknown k
joined_known op (Some a) (Some b) h k = known _

three_false : (x y r : Bool) → (x || y) ≡ false → r ≡ false → (x || y || r) ≡ false
three_false true y r h k = h
three_false false true r h k = h
three_false false false r h k = k

pub binary_known : (line : ℕ) (op : BinOp) (o p : Option Typed) → TypeIsKnown o → TypeIsKnown p → binary_faults line op o p ≡ [] → TypeIsKnown (binary_type op o p)
unfolding binary_faults binary_type
binary_known line op o p h k f =
    chosen _ (joined_type op o p)
    (three_false (is_other_type (joins_truths op) o) (is_other_type (joins_truths op) p) (ranks_differ o p) (not_broken _ _ _ (none_first _ _ f)) (not_broken _ _ _ (none_after _ _ f)))
    (joined_known op o p h k)

-- ---- subscripts

all_true : (x y z : Bool) → x ≡ true → not (not y) ≡ false → z ≡ false → (x && not y && not z) ≡ true
all_true false y z h k l = h
all_true true true z h k l = absurd (true≢false k)
all_true true false true h k l = absurd (true≢false l)
all_true true false false h k l = refl

-- one more subscript that is one
pub subscript_sound : (line : ℕ) (s : Subscripts) (o : Option Typed) → s.sound ≡ true → TypeIsKnown o → subscript_faults line o ≡ [] → (with_subscript s o).sound ≡ true
unfolding subscript_faults
subscript_sound line s None h k f = unknown k
subscript_sound line s (Some a) h k f = all_true s.sound a.truth (nat_lt 1 a.rank) h (not_broken _ _ _ (none_first _ _ f)) (not_broken _ _ _ (none_after _ _ f))

pub both_true : (y z : Bool) → not (not y) ≡ false → z ≡ true → (not y && z) ≡ true
both_true true z h k = absurd (true≢false h)
both_true false z h k = k

no_rank : (n : ℕ) → nat_lt 0 n ≡ false → nat_eq n 0 ≡ true
no_rank n h = grind (arith, h)

pub scalar_sound : (line : ℕ) (o : Option Typed) → TypeIsKnown o → scalar_faults line o ≡ [] → is_scalar o ≡ true
unfolding scalar_faults
scalar_sound line None h f = unknown h
scalar_sound line (Some a) h f = both_true a.truth (nat_eq a.rank 0) (not_broken _ _ _ (none_first _ _ f)) (no_rank a.rank (not_broken _ _ _ (none_after _ _ f)))

selected_at : (a : Typed) (s : Subscripts) (sound : Bool) → sound ≡ true → TypeIsKnown (if sound then Some (record { truth = a.truth; rank = s.rank }) else None)
selected_at a s true h = known _
selected_at a s false h = absurd (true≢false (sym h))

pub part_known : (line count : ℕ) (o : Option Typed) (s : Subscripts) → TypeIsKnown o → s.sound ≡ true → part_faults line o count ≡ [] → TypeIsKnown (part_type o count s)
unfolding part_faults part_type
part_known line count None s h k f = unknown h
part_known line count (Some a) s h k f = chosen _ (selected_type (Some a) s) (not_broken _ _ _ f) (selected_at a s s.sound k)

-- ---- arguments

pub argument_sound : (a : Arguments) (o : Option Typed) → a.sound ≡ true → TypeIsKnown o → (with_argument a o).sound ≡ true
argument_sound a None h k = unknown k
argument_sound a (Some b) h k = h

pub vector_known : (line : ℕ) (inside : Bool) (count : ℕ) (a : Arguments) → a.sound ≡ true → vector_faults line inside count a ≡ [] → TypeIsKnown (vector_type inside count a)
unfolding vector_faults vector_type
vector_known line inside count a h f =
    let first = not_broken (inside || nat_lt 0 a.rank) _ _ (none_first _ _ (none_first _ _ f)) in
    let second = not_broken (a.truths && a.numbers) _ _ (none_after _ _ (none_first _ _ f)) in
    let third = not_broken (nat_lt item_limit count) _ _ (none_after _ _ f) in
    chosen _ _ (five_false inside (nat_lt 0 a.rank) (a.truths && a.numbers) (nat_lt item_limit count) (not a.sound) first second third (not_true a.sound h)) (known _) where
      five_false : (x y z u v : Bool) → (x || y) ≡ false → z ≡ false → u ≡ false → v ≡ false → (x || y || z || u || v) ≡ false
      five_false true y z u v h k l m = h
      five_false false true z u v h k l m = h
      five_false false false true u v h k l m = k
      five_false false false false true v h k l m = l
      five_false false false false false v h k l m = m

-- ---- calls

pub call_known : (line : ℕ) (inside : Bool) (w : CallWord) (a : Arguments) → a.sound ≡ true → call_faults line inside w a ≡ [] → TypeIsKnown (call_type inside w a)
unfolding call_faults call_type
call_known line inside w a h f =
    let first = not_broken (inside && is_reduction w) _ _ (none_first _ _ (none_first _ _ f)) in
    let second = not_broken (has_wrong_type w a) _ _ (none_after _ _ (none_first _ _ f)) in
    let third = not_broken (has_wrong_rank w a) _ _ (none_after _ _ f) in
    chosen _ _ (four_false (inside && is_reduction w) (has_wrong_type w a) (has_wrong_rank w a) (not a.sound) first second third (not_true a.sound h)) (known _) where
      four_false : (x y z u : Bool) → x ≡ false → y ≡ false → z ≡ false → u ≡ false → (x || y || z || u) ≡ false
      four_false true y z u h k l m = h
      four_false false true z u h k l m = k
      four_false false false true u h k l m = l
      four_false false false false u h k l m = m

inquired_known : (w : CallWord) (o : Option Typed) → TypeIsKnown o → TypeIsKnown (inquired_type w o)
inquired_known w None h = unknown h
inquired_known w (Some a) h = known _

pub inquiry_known : (line : ℕ) (w : CallWord) (s : Option Standing) (es : List Expr) → inquiry_faults line w s es ≡ [] → TypeIsKnown (inquiry_type w s es)
unfolding inquiry_faults inquiry_type
inquiry_known line w s es f =
    let first = not_broken (not (is_allocated_word w) && is_outside_type (name_type s) es) _ _ (none_after _ _ (none_first _ _ (none_first _ _ f))) in
    let second = not_broken (is_allocated_word w && is_no_allocatable s) _ _ (none_after _ _ (none_first _ _ f)) in
    let third = not_broken (has_wide_dimension es) _ _ (none_after _ _ f) in
    chosen _ (inquired_type w (name_type s))
    (three_false (not (is_allocated_word w) && is_outside_type (name_type s) es) (is_allocated_word w && is_no_allocatable s) (has_wide_dimension es) (both_false _ _ first second) third)
    (inquired_known w (name_type s) (name_known line s (none_first _ _ (none_first _ _ (none_first _ _ f)))))

-- a call that is an inquiry, or one of all its arguments
pub called_known : (right inquiry : Bool) (line : ℕ) (asked parts rules : List Refusal) (o p : Option Typed) → (asked ≡ [] → TypeIsKnown o) → (parts ≡ [] → rules ≡ [] → TypeIsKnown p) →
    (if right then (if inquiry then asked else (parts ++ rules)) else when true line kind.Unsupported) ≡ [] → TypeIsKnown (if right then (if inquiry then o else p) else None)
called_known false inquiry line asked parts rules o p g h f = impossible line kind.Unsupported f
called_known true true line asked parts rules o p g h f = g f
called_known true false line asked parts rules o p g h f = h (none_first _ _ f) (none_after _ _ f)
