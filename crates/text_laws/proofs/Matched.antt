-- Ops that have the same text are the same in all that it shows.
use Rattle.std.proofs.Common.{◌≡◌, refl, sym, ap, ◌∙◌, subst, ℕ, suc, ◌+◌, ◌==◌, true, false, List, ◌∷◌, ◌++◌, Option, codes, true≢false, append_assoc, arith, eqb-true}
use Rattle.std.specs.List.{list_all}
use Rattle.std.proofs.lemmas.Bool.{or_cases}
use Rattle.std.proofs.lemmas.List.{append_cancel_left}
use mathlib.Core.Former.{Count}
use Rattle.ws_base.specs.declared.name.Name.{Name}
use Rattle.hlfir_ops.specs.declared.what.What.{What}
use Rattle.hlfir_ops.specs.declared.what.What.TheVariants as what
use Rattle.hlfir_ops.specs.declared.kinds.ValueKind.{ValueKind}
use Rattle.hlfir_ops.specs.declared.op.ValueId.{ValueId}
use Rattle.hlfir_ops.specs.declared.op.Op.{Op, Op'}
use Rattle.hlfir_ops.specs.declared.op.Region.{Region'}
use Rattle.hlfir_ops.specs.Numbers.{own_numbers, op_numbers, regions_numbers}
use Rattle.hlfir_ops.specs.Trees.{Ops, end_ops, more_ops, Regions, end_regions, more_regions, op_of}
use Rattle.hlfir_ops.specs.RulesForms.{has_regions}
use Rattle.hlfir_text.specs.declared.form.Form.{Form}
use Rattle.hlfir_text.specs.declared.form.Form.TheVariants as form
use Rattle.hlfir_text.specs.ModuleText.{indent, head_text, names_text, depth_in, count, lone_part, op_text, ops_text, regions_text}
use Rattle.text_laws.specs.Shown.{shown_regions}
use Rattle.text_laws.specs.Writable.{is_name, has_names}
use Rattle.text_laws.proofs.Runs.{joined}
use Rattle.text_laws.proofs.Words.{held}
use Rattle.text_laws.proofs.Heads.{Pair}
use Rattle.text_laws.proofs.Indents.{ended}
use Rattle.text_laws.proofs.Lines.{named, head_law}
use Rattle.text_laws.proofs.Goods.{IsFilled, AreGood, OpLaw, OpsLaw, EachLaw}
use Rattle.text_laws.proofs.Nests.{inner_text, number_after, rest_then, region-then, regions_law, is_masked, depth-in, next-ended, agree_same}
use Rattle.text_laws.proofs.Starts.{tail_then, ops-outer, more-goes_on, tail-ends, regions-first, same_lone, exact_count, elsewhere_count, same_names}
use Rattle.text_laws.proofs.Wheres.{where-regions, agree_where}

-- ---- the regions of two ops whose lines say the same

-- the regions of an op are as many as its form has
pub record HasForm {m : Count} (w : What) (regions : Regions m) : Type 0 where
  pub many : has_regions w (count regions) ≡ true
  pub filled : IsFilled w regions
  pub good : AreGood regions
  pub names : has_names w ≡ true

pub record AreEnded (depth : ℕ) (s t : List ℕ) : Type 0 where
  pub before_s : ended (suc depth) s ≡ true
  pub before_t : ended (suc depth) t ≡ true

abbrev SameRegions : {m n : Count} → What → What → Regions m → Regions n → List ℕ → List ℕ → Type 0
SameRegions v w regions others s t = (v ≡ w) × (shown_regions regions ≡ shown_regions others) × (regions_numbers v 0 regions ≡ regions_numbers w 0 others) × (s ≡ t)

-- the same op, and as many regions
counted_law : {m n : Count} (depth : ℕ) (w : What) (number : ℕ) (regions : Regions m) (others : Regions n) (s t : List ℕ) → EachLaw regions → HasForm w regions → HasForm w others → AreEnded depth s t → is_masked w ≡ false →
    count regions ≡ count others → regions_text depth w number 0 regions ++ s ≡ regions_text depth w number 0 others ++ t → SameRegions w w regions others s t
counted_law depth w number regions others s t laws f g a plain same h =
    let r = regions_law depth w number 0 regions others s t laws f.good g.good (agree_same depth w 0 regions others s t plain same a.before_s a.before_t) h in
    (refl, r.0, r.1, r.2)

index-then : (depth number : ℕ) (names : List Name) (z : List ℕ) → (indent depth ++ codes "} index " ++ names_text 0 number names ++ codes " {\n") ++ z ≡ (indent depth ++ codes "} index ") ++ (names_text 0 number names ++ (32 ∷ 123 ∷ 10 ∷ z))
index-then depth number names z = append_assoc (indent depth ++ codes "} index " ++ names_text 0 number names) (codes " {\n") z ∙ append_assoc (indent depth ++ codes "} index ") (names_text 0 number names) (codes " {\n" ++ z)

-- the names of two FORALLs, after the same header
index_law : {m n : Count} (depth number : ℕ) (xs ys : List Name) (regions : Regions m) (others : Regions n) (s t : List ℕ) → count regions ≡ 1 → count others ≡ 1 → list_all is_name xs ≡ true → list_all is_name ys ≡ true →
    regions_text depth (what.Forall xs) number 1 regions ++ s ≡ regions_text depth (what.Forall ys) number 1 others ++ t → xs ≡ ys
index_law depth number xs ys end_regions others s t p q u v h = absurd (omega (arith, p))
index_law depth number xs ys (more_regions a regions) end_regions s t p q u v h = absurd (omega (arith, q))
index_law depth number xs ys (more_regions a regions) (more_regions b others) s t p q u v h =
    let y : List ℕ = inner_text depth (what.Forall xs) number 1 a ++ rest_then depth (what.Forall xs) number 1 a regions s in
    let z : List ℕ = inner_text depth (what.Forall ys) number 1 b ++ rest_then depth (what.Forall ys) number 1 b others t in
    let lines = (sym (index-then depth number xs y) ∙ (sym (region-then depth (what.Forall xs) number 1 a regions s) ∙ (h ∙ (region-then depth (what.Forall ys) number 1 b others t ∙ index-then depth number ys z)))) in
    same_names 0 number xs ys (123 ∷ 10 ∷ y) (123 ∷ 10 ∷ z) u v (append_cancel_left (indent depth ++ codes "} index ") _ _ lines)

forall_law : {m n : Count} (depth number : ℕ) (xs ys : List Name) (regions : Regions m) (others : Regions n) (s t : List ℕ) → EachLaw regions → HasForm (what.Forall xs) regions → HasForm (what.Forall ys) others → AreEnded depth s t →
    regions_text depth (what.Forall xs) number 0 regions ++ s ≡ regions_text depth (what.Forall ys) number 0 others ++ t → xs ≡ ys
forall_law depth number xs ys end_regions others s t laws f g a h = absurd (true≢false (sym f.many))
forall_law depth number xs ys (more_regions x regions) end_regions s t laws f g a h = absurd (true≢false (sym g.many))
forall_law depth number xs ys (more_regions (Region' i ops) regions) (more_regions (Region' j ops') others) s t laws f g a h =
    let v : What = what.Forall xs in
    let w : What = what.Forall ys in
    let inside = append_cancel_left (codes " {\n") _ _ (sym (region-then depth v number 0 (Region' i ops) regions s) ∙ (h ∙ region-then depth w number 0 (Region' j ops') others t)) in
    let ended_v = ap (λ (d : ℕ). ended d (rest_then depth v number 0 (Region' i ops) regions s)) (depth-in depth v 0 refl) ∙ next-ended depth v (number_after v number 0 (Region' i ops)) 0 regions s refl a.before_s in
    let ended_w = ap (λ (d : ℕ). ended d (rest_then depth w number 0 (Region' j ops') others t)) (depth-in depth w 0 refl) ∙ next-ended depth w (number_after w number 0 (Region' j ops')) 0 others t refl a.before_t in
    let here = laws.0 (depth_in depth v 0) form.Triples (number + 0) _ ops' (rest_then depth v number 0 (Region' i ops) regions s) (rest_then depth w number 0 (Region' j ops') others t) refl f.good.0 g.good.0 ended_v ended_w inside in
    let many = eqb-true (suc (count regions)) 2 f.many in
    let manw = eqb-true (suc (count others)) 2 g.many in
    index_law depth (number_after v number 0 (Region' i ops)) xs ys regions others s t (omega arith) (omega arith) f.names g.names (here.2 ∙ ap (λ (x : ℕ). regions_text depth w (number + 0 + x) 1 others ++ t) (sym here.1))

start_law : {m n : Count} (depth : ℕ) (w : What) (names : List Name) (number : ℕ) (regions : Regions m) (others : Regions n) (s t : List ℕ) → EachLaw regions → HasForm w regions → HasForm (named names w) others → AreEnded depth s t →
    tail_then depth w number regions s ≡ tail_then depth (named names w) number others t → SameRegions w (named names w) regions others s t
start_law depth (what.Forall xs) names number regions others s t laws f g a h =
    let same = forall_law depth number xs names regions others s t laws f g a h in
    let form : HasForm (what.Forall xs) others = subst (λ x. HasForm (what.Forall x) others) (sym same) g in
    let many = eqb-true (count regions) 2 f.many ∙ sym (eqb-true (count others) 2 g.many) in
    let r = counted_law depth (what.Forall xs) number regions others s t laws f form a refl many (h ∙ ap (λ x. regions_text depth (what.Forall x) number 0 others ++ t) (sym same)) in
    (ap what.Forall same, r.1, r.2 ∙ ap (λ x. regions_numbers (what.Forall x) 0 others) same, r.3)
start_law depth what.Masked names number regions others s t laws f g a h =
    let agree = agree_where depth regions others s t (where-regions regions f.many) (where-regions others g.many) f.filled g.filled in
    let r = regions_law depth what.Masked number 0 regions others s t laws f.good g.good agree h in
    (refl, r.0, r.1, r.2)
start_law depth what.Elsewhere names number regions others s t laws f g a h =
    let lone = same_lone (count regions == 1) (count others == 1) _ _ (regions-first depth what.Elsewhere number regions s) (regions-first depth what.Elsewhere number others t) h in
    let many = elsewhere_count (count regions) (count others) (or_cases (count regions == 1) (count regions == 2) f.many) (or_cases (count others == 1) (count others == 2) g.many) lone.0 in
    counted_law depth what.Elsewhere number regions others s t laws f g a refl many lone.1
start_law depth w names number regions others s t laws f g a h =
    counted_law depth w number regions others s t laws f g a refl (exact_count w (count regions) refl refl f.many ∙ sym (exact_count w (count others) refl refl g.many)) h

-- ---- ops

abbrev OpLaws : Op → Type 0
OpLaws (Op' w line os k _ regions) = EachLaw regions

op-then : {m : Count} (depth : ℕ) (y : Form) (number : ℕ) (w : What) (line : ℕ) (os : List ValueId) (k : Option ValueKind) (regions : Regions m) (s : List ℕ) →
    (head_text depth y number w line os k ++ lone_part w (count regions) ++ regions_text depth w (number + own_numbers k) 0 regions) ++ s ≡ head_text depth y number w line os k ++ tail_then depth w (number + own_numbers k) regions s
op-then depth y number w line os k regions s =
    let head = head_text depth y number w line os k in
    let rest = regions_text depth w (number + own_numbers k) 0 regions in
    append_assoc (head ++ lone_part w (count regions)) rest s ∙ append_assoc head (lone_part w (count regions)) (rest ++ s)

op_step : (op : Op) → OpLaws op → OpLaw op
op_step (Op' v i os k h regions) laws depth y number (Op' w j ps l g others) s t e good goods a b same =
    let first = number + own_numbers k in
    let lines : Pair = record { k = k; l = l; s = tail_then depth v first regions s; t = tail_then depth w (number + own_numbers l) others t } in
    let head = head_law depth y number v w i j os ps lines e (tail-ends depth v first regions s) (tail-ends depth w (number + own_numbers l) others t) good.0 goods.0
    (sym (op-then depth y number v i os k regions s) ∙ (same ∙ op-then depth y number w j ps l others t)) in
    let names = (held w).names in
    let tail : tail_then depth v first regions s ≡ tail_then depth (named names v) first others t =
    head.5 ∙ (ap (λ (x : ℕ). tail_then depth w (number + x) others t) (sym head.4) ∙ ap (λ x. tail_then depth x first others t) (sym head.0)) in
    let form_v : HasForm v regions = record { many = good.1; filled = good.2; good = good.3; names = good.0.names } in
    let form_w : HasForm w others = record { many = goods.1; filled = goods.2; good = goods.3; names = goods.0.names } in
    let r = start_law depth v names first regions others s t laws form_v (subst (λ x. HasForm x others) (sym head.0) form_w) (record { before_s = a; before_t = b }) tail in
    let whats : v ≡ w = r.0 ∙ head.0 in
    let numbers : regions_numbers v 0 regions ≡ regions_numbers w 0 others = r.2 ∙ ap (λ x. regions_numbers x 0 others) head.0 in
    ((λ n. op_of (whats n) (head.1 n) (head.2 n) (head.3 n) (r.1 n)), (λ n. head.4 n + numbers n), r.3)

ops_end : OpsLaw end_ops
ops_end depth y number _ end_ops s t e good goods a b same = (refl, refl, same)
ops_end depth y number _ (more_ops other others) s t e good goods a b same = absurd (more-goes_on depth y number other others t s a same)

ops_step : {m : Count} (op : Op) (ops : Ops m) → OpLaw op → OpsLaw ops → OpsLaw (more_ops op ops)
ops_step op ops law laws depth y number _ end_ops s t e good goods a b same = absurd (more-goes_on depth y number op ops s t b (sym same))
ops_step op ops law laws depth y number _ (more_ops other others) s t e good goods a b same =
    let rest : List ℕ = ops_text depth y (number + op_numbers op) ops in
    let rest_other : List ℕ = ops_text depth y (number + op_numbers other) others in
    let lines = sym (append_assoc (op_text depth y number op) rest s) ∙ (same ∙ append_assoc (op_text depth y number other) rest_other t) in
    let here = law depth y number other (rest ++ s) (rest_other ++ t) e good.0 goods.0 (ops-outer depth y (number + op_numbers op) ops s a) (ops-outer depth y (number + op_numbers other) others t b) lines in
    let more = laws depth y (number + op_numbers op) _ others s t e good.1 goods.1 a b (here.2 ∙ ap (λ (x : ℕ). ops_text depth y (number + x) others ++ t) (sym here.1)) in
    (joined here.0 more.0, (λ n. here.1 n + more.1 n), more.2)

mutual
  op_law : (op : Op) → OpLaw op
  op_law (Op' w line os k h regions) = op_step (Op' w line os k h regions) (each_law regions)

  each_law : {m : Count} (regions : Regions m) → EachLaw regions
  each_law end_regions = tt
  each_law (more_regions (Region' h ops) regions) = (ops_law ops, each_law regions)

  pub ops_law : {m : Count} (ops : Ops m) → OpsLaw ops
  ops_law end_ops = ops_end
  ops_law (more_ops op ops) = ops_step op ops (op_law op) (ops_law ops)
