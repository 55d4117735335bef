-- An op that holds regions, which are entered, filled and left one after another.
use Rattle.std.proofs.Common.{◌≡◌, refl, sym, ap, ◌∙◌, ℕ, suc, ◌+◌, ◌<◌, List, [], ◌∷◌, ◌++◌, length, Option, Some, None, arith, add-zero, zero-add}
use Rattle.std.specs.Prelude.{⊤}
use Rattle.std.proofs.lemmas.List.{length_push}
use Rattle.hlfir_ops.specs.declared.kinds.ValueKind.{ValueKind}
use Rattle.hlfir_ops.specs.declared.what.What.{What}
use Rattle.hlfir_ops.specs.declared.op.ValueId.{ValueId}
use Rattle.hlfir_ops.specs.declared.op.Op.{Op}
use Rattle.hlfir_ops.specs.declared.op.Region.{Region, out-roll-Region}
use Rattle.hlfir_ops.specs.Trees.{op_of, region_of}
use Rattle.hlfir_ops.specs.Numbers.{names_in, own_numbers, numbers_of, numbers_in}
use Rattle.hlfir_ops.specs.Built.{Place, Built, Enters, first_in, taken_around, taken, left, line_around}
use Rattle.lower_values.specs.declared.names.Names.{Names}
use Rattle.lower_values.specs.Scopes.{Scope, inside, scope_at}
use Rattle.lower_values.specs.Lowerings.{Lowering, regions_from, holding, statement_of, giving_by, grown, opened, Appends}

-- ---- one region more

numbers_region : (w : What) (k : ℕ) (ops : List Op) (regions : List Region) → numbers_in w k (region_of ops ∷ regions) ≡ (length (names_in w k) + numbers_of ops) + numbers_in w (suc k) regions
numbers_region w k ops regions = ap (λ r. (length (names_in w k) + numbers_of r.ops) + numbers_in w (suc k) regions) (out-roll-Region (record { ops = ops }))

abbrev filled : What → ℕ → ℕ → ℕ → Lowering ⊤ → Scope → Region
filled w line k n p s = region_of (p (inside w line k n s) (n + length (names_in w k))).ops

regions-length : (w : What) (line k n : ℕ) (ps : List (Lowering ⊤)) (s : Scope) → length (regions_from w line k n ps s) ≡ length ps
regions-length w line k n [] s = refl
regions-length w line k n (p ∷ ps) s = ap suc (regions-length w line (suc k) (n + (length (names_in w k) + numbers_of (p (inside w line k n s) (n + length (names_in w k))).ops)) ps s)

regions-push : (w : What) (line k n : ℕ) (ps : List (Lowering ⊤)) (p : Lowering ⊤) (s : Scope) →
    regions_from w line k n (ps ++ p ∷ []) s ≡ regions_from w line k n ps s ++ filled w line (k + length ps) (n + numbers_in w k (regions_from w line k n ps s)) p s ∷ []
regions-push w line k n [] p s = ap (λ j. filled w line j n p s ∷ []) (sym (add-zero k)) ∙ ap (λ m. filled w line (k + 0) m p s ∷ []) (sym (add-zero n))
regions-push w line k n (q ∷ ps) p s =
    let ops = (q (inside w line k n s) (n + length (names_in w k))).ops in
    let here = length (names_in w k) + numbers_of ops in
    let rest = regions_from w line (suc k) (n + here) ps s in
    let place : suc k + length ps ≡ k + suc (length ps) = omega arith in
    let number : (n + here) + numbers_in w (suc k) rest ≡ n + numbers_in w k (region_of ops ∷ rest) = omega (arith, numbers_region w k ops rest) in
    ap (λ l. region_of ops ∷ l) (regions-push w line (suc k) (n + here) ps p s) ∙
    (ap (λ j. region_of ops ∷ (rest ++ filled w line j ((n + here) + numbers_in w (suc k) rest) p s ∷ [])) place ∙
    ap (λ m. region_of ops ∷ (rest ++ filled w line (k + suc (length ps)) m p s ∷ [])) number)

-- ---- the op stands last, with these regions so far

pub record Holds (names : Names) (w : What) (line : ℕ) (operands : List ValueId) (kind : Option ValueKind) (ps : List (Lowering ⊤)) (old new : Built) : Type 0 where
  pub is : new ≡ opened old w line operands kind (regions_from w line 0 (taken old + own_numbers kind) ps (scope_at names old.around))

pub holds-none : (names : Names) (w : What) (line : ℕ) (operands : List ValueId) (kind : Option ValueKind) (old new : Built) → new ≡ opened old w line operands kind [] → Holds names w line operands kind [] old new
holds-none names w line operands kind old new is = record { is = is }

module _ {names : Names} {w : What} {line : ℕ} {operands : List ValueId} {kind : Option ValueKind} {ps : List (Lowering ⊤)} {old last : Built} (h : Holds names w line operands kind ps old last) where
  pub holds-op : 0 < length last.ops
  holds-op = omega (arith, ap (λ b. length b.ops) h.is, length_push old.ops (op_of w line operands kind (regions_from w line 0 (taken old + own_numbers kind) ps (scope_at names old.around))))

  regions : List Region
  regions = regions_from w line 0 (taken old + own_numbers kind) ps (scope_at names old.around)

  place : Place
  place = record { before = old.ops; what = w; line = line; operands = operands; kind = kind; regions = regions }

  base : Built
  base = record { name = old.name; around = place ∷ old.around; ops = [] }

  entered : (inner : Built) → Enters last inner → inner ≡ base
  unfolding regions place base
  entered inner enters =
      enters old.ops w line operands kind regions (ap (λ b. b.ops) h.is) ∙ ap (λ b. record { name = b.name; around = place ∷ b.around; ops = [] }) h.is

  pub holds-entered : {A : Type 0} {p : Lowering A} {inner full : Built} {x : A} → Enters last inner → Appends names p inner full x → 0 < length full.around
  unfolding regions place base
  holds-entered {inner = inner} enters f = omega (arith, ap (λ b. length b.around) f.ops, ap (λ b. length b.around) (entered inner enters))

  same-region : (p : Lowering ⊤) → region_of (p (scope_at names (place ∷ old.around)) (taken base)).ops ≡ filled w line (0 + length ps) ((taken old + own_numbers kind) + numbers_in w 0 regions) p (scope_at names old.around)
  unfolding regions place base
  same-region p =
      let s = scope_at names old.around in
      let here = first_in (taken_around old.around) place in
      let number : here ≡ (taken old + own_numbers kind) + numbers_in w 0 regions = omega arith in
      let count : length regions ≡ 0 + length ps = regions-length w line 0 (taken old + own_numbers kind) ps s ∙ sym (zero-add (length ps)) in
      ap (λ m. region_of (p (inside w line (length regions) here s) m).ops) (add-zero (here + length (names_in w (length regions)))) ∙
      (ap (λ k. filled w line k here p s) count ∙ ap (λ m. filled w line (0 + length ps) m p s) number)

  pub holds-next : {p : Lowering ⊤} {inner full next : Built} → Enters last inner → Appends names p inner full tt → next ≡ left full → Holds names w line operands kind (ps ++ p ∷ []) old next
  unfolding regions place base
  holds-next {p} {inner} {full} {next} enters f leaves =
      let s = scope_at names old.around in
      let whole : full ≡ grown base (p (scope_at names base.around) (taken base)).ops = f.ops ∙ ap (λ b. grown b (p (scope_at names b.around) (taken b)).ops) (entered inner enters) in
      record {
        is =
            leaves ∙
            (ap left whole ∙
            (ap (λ r. opened old w line operands kind (regions ++ r ∷ [])) (same-region p) ∙ ap (opened old w line operands kind) (sym (regions-push w line 0 (taken old + own_numbers kind) ps p s))));
      }

-- what is around does not depend on the names
pub no_names : Names
no_names = record { variables = []; constants = []; truths = [] }

-- ---- the op with all its regions

pub appends-statement : {names : Names} {w : What} {line : ℕ} {operands : List ValueId} {ps : List (Lowering ⊤)} {old new : Built} → Holds names w line operands None ps old new → Appends names (statement_of w line operands ps) old new tt
unfolding statement_of
appends-statement h = record { ops = h.is; made = refl }

pub appends-giving_by : {names : Names} {w : What} {line : ℕ} {kind : ValueKind} {p : Lowering ⊤} {old new : Built} (id : ValueId) → Holds names w line [] (Some kind) (p ∷ []) old new → line ≡ line_around old.around → id.number ≡ taken old →
    Appends names (giving_by w kind p) old new (record { value = id; kind = kind })
unfolding giving_by
appends-giving_by {names} {w} {line} {kind} {p} {old} id h here number = record {
  ops = h.is ∙ ap (λ l. grown old (holding w l [] (Some kind) (p ∷ []) (scope_at names old.around) (taken old) ∷ [])) here;
  made = ap (λ m. record { value = record { number = m }; kind = kind }) number;
}
