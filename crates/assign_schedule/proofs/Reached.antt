-- What is reached from each value, by the op that gives it.
use Rattle.std.proofs.Common.{◌≡◌, refl, ap, sym, ◌∙◌, subst, ℕ, zero, suc, ◌+◌, ◌<◌, ◌≤◌, Bool, true, false, cond, List, [], ◌∷◌, ◌++◌, length, take, get_or, Some, None, arith, append_assoc, length-append, inl, inr}
use Rattle.std.specs.Prelude.{slice_get, nat_lt}
use Rattle.std.specs.List.{flat_map}
use Rattle.std.proofs.lemmas.Bool.{cases_lt, lt-ltb, le-ltb}
use Rattle.std.proofs.lemmas.List.{get_or-take, get_or_past, length-take, length-take-le}
use Rattle.std.proofs.lemmas.List.Concat.{flat_map-append}
use Rattle.std.proofs.lemmas.Option.{slice_get_within, slice_get_cases}
use Rattle.std.proofs.Math.Seq.{get_or-append_seam, take-append_seam}
use Rattle.hlfir_ops.specs.declared.op.ValueId.{ValueId}
use Rattle.hlfir_ops.specs.declared.op.Op.{Op}
use Rattle.rule_tests.proofs.Appended.{append_none}
use Rattle.assign_schedule.specs.declared.way.Way.{Way}
use Rattle.assign_schedule.specs.Reads.{itself, next_of, reached_in, reached_by, reached_after, reached_from}
use Rattle.assign_schedule.specs.Wanted.{below}
use Rattle.assign_schedule.proofs.Wanting.{below-append}

-- the values before these keep what is reached from them
extends : (way : Way) (before : List (List ℕ)) (ops : List Op) → (more : List (List ℕ)) × (reached_after way before ops ≡ before ++ more)
extends way before [] = ([], sym (append_none before))
extends way before (op ∷ ops) =
    let next = reached_by way before op in
    let rest = extends way (before ++ next ∷ []) ops in (next ∷ rest.0, rest.1 ∙ append_assoc before (next ∷ []) rest.0)

-- ---- a value that some op gives

first_at : (way : Way) (before : List (List ℕ)) (op : Op) (ops : List Op) → get_or (reached_after way before (op ∷ ops)) (length before) [] ≡ reached_by way before op
first_at way before op ops =
    let next = reached_by way before op in
    let rest = extends way (before ++ next ∷ []) ops in
    ap (λ l. get_or l (length before) []) (rest.1 ∙ append_assoc before (next ∷ []) rest.0) ∙ get_or-append_seam before next rest.0 []

before_first : (way : Way) (before : List (List ℕ)) (ops : List Op) → take (length before) (reached_after way before ops) ≡ before
before_first way before ops = let rest = extends way before ops in ap (take (length before)) rest.1 ∙ take-append_seam before rest.0

same_op : (x op : Op) → slice_get (x ∷ []) 0 ≡ Some op → x ≡ op
same_op x op e = cc

at_place : (way : Way) (before : List (List ℕ)) (ops : List Op) (k : ℕ) (op : Op) → slice_get ops k ≡ Some op →
    get_or (reached_after way before ops) (length before + k) [] ≡ reached_by way (take (length before + k) (reached_after way before ops)) op
at_place way before [] k op e = absurd (cc)
at_place way before (x ∷ ops) zero op e =
    let table = reached_after way before (x ∷ ops) in
    let here : length before ≡ length before + 0 = omega arith in
    subst (λ m. get_or table m [] ≡ reached_by way (take m table) op) here
    (first_at way before x ops ∙ (ap (reached_by way before) (same_op x op e) ∙ ap (λ l. reached_by way l op) (sym (before_first way before (x ∷ ops)))))
at_place way before (x ∷ ops) (suc k) op e =
    let next = reached_by way before x in
    let table = reached_after way (before ++ next ∷ []) ops in
    let here : length (before ++ next ∷ []) + k ≡ length before + suc k = omega (arith, length-append before (next ∷ [])) in
    subst (λ m. get_or table m [] ≡ reached_by way (take m table) op) here (at_place way (before ++ next ∷ []) ops k op e)

length_after : (way : Way) (before : List (List ℕ)) (ops : List Op) → length (reached_after way before ops) ≡ length before + length ops
length_after way before [] = let e : length before ≡ length before + 0 = omega arith in e
length_after way before (op ∷ ops) =
    let next = reached_by way before op in
    let e : length (before ++ next ∷ []) + length ops ≡ length before + suc (length ops) = omega (arith, length-append before (next ∷ [])) in length_after way (before ++ next ∷ []) ops ∙ e

table_length : (way : Way) (gs : List Op) → length (reached_after way [] gs) ≡ length gs
table_length way gs = omega (arith, length_after way [] gs)

-- ---- operands that stand before the value

below_one : (n : ℕ) (v : ValueId) (b : Bool) → nat_lt v.number n ≡ b → below (Some n) (v ∷ []) ≡ cond b (v.number ∷ []) []
below_one n v b e = ap (λ c. cond c (v.number ∷ []) []) e

operand_before : (table : List (List ℕ)) (n : ℕ) (v : ValueId) → get_or (take n table) v.number [] ≡ flat_map (λ k. get_or table k []) (below (Some n) (v ∷ []))
operand_before table n v = elim (cases_lt v.number n) [
  | inl lt ↦
      get_or-take n table v.number [] lt ∙ (sym (append_none (get_or table v.number [])) ∙ ap (flat_map (λ k. get_or table k [])) (sym (below_one n v true (lt-ltb v.number n lt))))
  | inr le ↦
      let past : length (take n table) ≤ v.number = omega (arith, length-take n table) in
      get_or_past (take n table) v.number [] past ∙ ap (flat_map (λ k. get_or table k [])) (sym (below_one n v false (le-ltb v.number n le)))
]

operands_before : (table : List (List ℕ)) (n : ℕ) (vs : List ValueId) → reached_in (take n table) vs ≡ flat_map (λ k. get_or table k []) (below (Some n) vs)
operands_before table n [] = refl
operands_before table n (v ∷ vs) =
    let reach = flat_map (λ k. get_or table k []) in
    ap (λ l. l ++ reached_in (take n table) vs) (operand_before table n v)
    ∙ (ap (λ l. reach (below (Some n) (v ∷ [])) ++ l) (operands_before table n vs)
    ∙ (sym (flat_map-append (λ k. get_or table k []) (below (Some n) (v ∷ [])) (below (Some n) vs)) ∙ ap reach (sym (below-append (Some n) (v ∷ []) vs))))

-- ---- what is reached

within_table : (way : Way) (gs : List Op) (n : ℕ) (op : Op) → slice_get gs n ≡ Some op → n ≤ length (reached_after way [] gs)
within_table way gs n op e = let lt : n < length gs = slice_get_within gs n op e in omega (arith, table_length way gs)

pub reached_at : (way : Way) (gs : List Op) (n : ℕ) (op : Op) → slice_get gs n ≡ Some op → reached_from way gs n ≡ itself n op ++ flat_map (reached_from way gs) (below (Some n) (next_of way op))
reached_at way gs n op e =
    let table = reached_after way [] gs in
    let here : 0 + n ≡ n = omega arith in
    subst (λ m. get_or table m [] ≡ reached_by way (take m table) op) here (at_place way [] gs n op e)
    ∙ (ap (λ m. itself m op ++ reached_in (take n table) (next_of way op)) (length-take-le n table (within_table way gs n op e))
    ∙ ap (λ l. itself n op ++ l) (operands_before table n (next_of way op)))

past_end : (gs : List Op) (n : ℕ) → slice_get gs n ≡ None → length gs ≤ n
past_end gs n e = elim ((slice_get_cases gs n).1) [ inl at ↦ absurd (cc (e, at.2)) | inr past ↦ past.0 ]

pub reached_past : (way : Way) (gs : List Op) (n : ℕ) → slice_get gs n ≡ None → reached_from way gs n ≡ []
reached_past way gs n e = let past : length (reached_after way [] gs) ≤ n = omega (arith, table_length way gs, past_end gs n e) in get_or_past (reached_after way [] gs) n [] past
