-- The table of values.
use Rattle.std.proofs.Common.{◌≡◌, refl, ap, sym, ◌∙◌, ℕ, zero, suc, ◌+◌, ◌<◌, ◌≤◌, List, [], ◌∷◌, ◌++◌, map, length, drop, get_or, Option, append_assoc, add-one}
use Rattle.std.specs.Prelude.{slice_get}
use Rattle.hlfir_ops.specs.declared.kinds.ValueKind.{ValueKind}
use Rattle.hlfir_ops.specs.declared.what.What.{What}
use Rattle.hlfir_ops.specs.declared.op.Op.{Op, out-Op}
use Rattle.hlfir_ops.specs.declared.op.Region.{Region, out-Region}
use Rattle.hlfir_ops.specs.Numbers.{names_in}
use Rattle.hlfir_ops.specs.RulesValues as values
use Rattle.hlfir_ops.proofs.Valued.{op_values-parts}
use Rattle.rule_tests.specs.declared.value.Value.{Value}
use Rattle.rule_tests.specs.Seen.{seen, seen_as, value_seen}
use Rattle.rule_tests.proofs.Appended.{append_none, front, next}

pub slice_get_map : (vs : List Value) (n : ℕ) → slice_get (seen vs) n ≡ value_seen (slice_get vs n)
slice_get_map [] n = refl
slice_get_map (v ∷ vs) zero = refl
slice_get_map (v ∷ vs) (suc n) = slice_get_map vs n

pub seen_append : (vs ws : List Value) → seen (vs ++ ws) ≡ seen vs ++ seen ws
seen_append [] ws = refl
seen_append (v ∷ vs) ws = ap (λ l. seen_as v ∷ l) (seen_append vs ws)

pub ruleset seen_rules = (seen_append, append_none)

-- ---- loops that add them

pub next_values : (ops : List Op) (i : ℕ) (op : Op) (regions : List Region) (old own now : List values.Value) → i < length ops → op ≡ get_or ops i op → regions ≡ (out-Op op).regions →
    own ≡ old ++ values.own_values (out-Op op).what (out-Op op).kind → now ≡ own ++ values.values_in (out-Op op).what 0 regions →
    old ++ values.values_of (drop i ops) ≡ now ++ values.values_of (drop (i + 1) ops)
next_values ops i op regions old own now within is same one more =
    next values.values_of values.op_values (λ _ _. refl) ops i op old now within is
    (more
    ∙ ap (λ rs. own ++ values.values_in (out-Op op).what 0 rs) same
    ∙ ap (λ l. l ++ values.values_in (out-Op op).what 0 (out-Op op).regions) one
    ∙ append_assoc old (values.own_values (out-Op op).what (out-Op op).kind) (values.values_in (out-Op op).what 0 (out-Op op).regions)
    ∙ ap (λ l. old ++ l) (sym (op_values-parts op)))

pub next_region : (w : What) (regions : List Region) (k : ℕ) (region : Region) (ops : List Op) (old named now : List values.Value) → k < length regions → region ≡ get_or regions k region → ops ≡ (out-Region region).ops →
    named ≡ old ++ map values.value_of_name (names_in w k) → now ≡ named ++ values.values_of ops →
    old ++ values.values_in w k (drop k regions) ≡ now ++ values.values_in w (k + 1) (drop (k + 1) regions)
next_region w regions k region ops old named now within is same names more =
    ap (λ l. old ++ values.values_in w k l) (front regions k region within is)
    ∙ sym (append_assoc old (map values.value_of_name (names_in w k) ++ values.values_of (out-Region region).ops) (values.values_in w (suc k) (drop (k + 1) regions)))
    ∙ ap (λ l. l ++ values.values_in w (suc k) (drop (k + 1) regions))
    (sym (append_assoc old (map values.value_of_name (names_in w k)) (values.values_of (out-Region region).ops)) ∙ (ap (λ l. l ++ values.values_of (out-Region region).ops) (sym names) ∙ (ap (λ l. named ++ values.values_of l) (sym same) ∙ sym more)))
    ∙ ap (λ n. now ++ values.values_in w n (drop (k + 1) regions)) (sym (add-one k))
