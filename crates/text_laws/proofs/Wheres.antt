-- What stands after the regions of a WHERE.
use Rattle.std.proofs.Common.{◌≡◌, refl, sym, ap, ◌∙◌, ℕ, suc, ◌+◌, ◌==◌, true, ◌⊎◌, inl, inr, List, ◌++◌, codes, arith, true≢false, append_assoc, add-one, eqb-true}
use Rattle.std.proofs.lemmas.Bool.{or_cases}
use mathlib.Core.Former.{Count, none_left, one_more}
use Rattle.hlfir_ops.specs.declared.what.What.TheVariants as what
use Rattle.hlfir_ops.specs.declared.op.Region.{Region, Region'}
use Rattle.hlfir_ops.specs.Trees.{Regions, end_regions, more_regions}
use Rattle.hlfir_ops.specs.RulesForms.{has_regions}
use Rattle.hlfir_text.specs.OpText.{yields_in}
use Rattle.hlfir_text.specs.ModuleText.{indent, count, regions_text}
use Rattle.text_laws.proofs.Indents.{ended, ended-indent, ended-outer}
use Rattle.text_laws.proofs.Goods.{IsFilled}
use Rattle.text_laws.proofs.Nests.{inner_text, rest_then, region-then, Agree}
use Rattle.text_laws.proofs.Starts.{Begins, some-begins, begins-goes_on, begins-outer}

-- ---- the regions of a WHERE: its mask, its body, and where it has them its elsewheres

pub data IsWhere : (m : Count) → Regions m → Type 0 where
  two : (a b : Region) → IsWhere (one_more (one_more none_left)) (more_regions a (more_regions b end_regions))
  three : (a b c : Region) → IsWhere (one_more (one_more (one_more none_left))) (more_regions a (more_regions b (more_regions c end_regions)))

not_more : {m : Count} (regions : Regions m) → ((suc (suc (suc (suc (count regions)))) == 2) ≡ true) ⊎ ((suc (suc (suc (suc (count regions)))) == 3) ≡ true) → ⊥
not_more regions (inl h) = omega (arith, eqb-true _ 2 h)
not_more regions (inr h) = omega (arith, eqb-true _ 3 h)

pub where-regions : {m : Count} (regions : Regions m) → has_regions what.Masked (count regions) ≡ true → IsWhere m regions
where-regions end_regions h = absurd (true≢false (sym h))
where-regions (more_regions a end_regions) h = absurd (true≢false (sym h))
where-regions (more_regions a (more_regions b end_regions)) h = two a b
where-regions (more_regions a (more_regions b (more_regions c end_regions))) h = three a b c
where-regions (more_regions a (more_regions b (more_regions c (more_regions d regions)))) h =
    absurd (not_more regions (or_cases (suc (suc (suc (suc (count regions)))) == 2) (suc (suc (suc (suc (count regions)))) == 3) h))

-- before the body
body-ended : {m : Count} (depth number : ℕ) (b : Region) (regions : Regions m) (s : List ℕ) → ended (suc depth) (regions_text depth what.Masked number 1 (more_regions b regions) ++ s) ≡ true
body-ended depth number b regions s =
    let z : List ℕ = inner_text depth what.Masked number 1 b ++ rest_then depth what.Masked number 1 b regions s in
    ap (ended (suc depth)) (region-then depth what.Masked number 1 b regions s ∙ append_assoc (indent depth) (codes "} do {\n") z) ∙ ended-outer depth (codes "} do {\n" ++ z) refl

-- before the brace that ends the where
brace-text : (depth number : ℕ) (s : List ℕ) → regions_text depth what.Masked number 2 end_regions ++ s ≡ indent depth ++ (codes "}\n" ++ s)
brace-text depth number s = append_assoc (indent depth) (codes "}\n") s

brace-ended : (depth number : ℕ) (s : List ℕ) → ended (suc depth) (regions_text depth what.Masked number 2 end_regions ++ s) ≡ true
brace-ended depth number s = ap (ended (suc depth)) (brace-text depth number s) ∙ ended-outer depth (codes "}\n" ++ s) refl

brace-ended_here : (depth number : ℕ) (s : List ℕ) → ended depth (regions_text depth what.Masked number 2 end_regions ++ s) ≡ true
brace-ended_here depth number s = ap (ended depth) (brace-text depth number s) ∙ ended-indent depth (codes "}\n" ++ s)

last-ended : (depth number : ℕ) (s : List ℕ) → ended depth (regions_text depth what.Masked number 3 end_regions ++ s) ≡ true
last-ended depth number s = ap (ended depth) (append_assoc (indent depth) (codes "}\n") s) ∙ ended-indent depth (codes "}\n" ++ s)

-- the elsewheres
elsewheres-begin : (depth number : ℕ) (a b c : Region) (s : List ℕ) → IsFilled what.Masked (more_regions a (more_regions b (more_regions c end_regions))) → Begins depth (regions_text depth what.Masked number 2 (more_regions c end_regions) ++ s)
elsewheres-begin depth number a b (Region' h ops) s f =
    let begins = some-begins depth (yields_in what.Masked) (number + 0) ops (rest_then depth what.Masked number 2 (Region' h ops) end_regions s) f in
    (begins.0, region-then depth what.Masked number 2 (Region' h ops) end_regions s ∙ begins.1, begins.2)

-- the depth of the first two regions
deeper : (depth : ℕ) (s : List ℕ) → ended (suc depth) s ≡ true → ended (depth + 1) s ≡ true
deeper depth s e = ap (λ (d : ℕ). ended d s) (add-one depth) ∙ e

pub agree_where : {m n : Count} (depth : ℕ) (regions : Regions m) (others : Regions n) (s t : List ℕ) → IsWhere m regions → IsWhere n others → IsFilled what.Masked regions → IsFilled what.Masked others → Agree depth what.Masked 0 regions others s t
agree_where depth _ _ s t (two a b) (two a' b') f g = (
  λ n. deeper depth _ (body-ended depth n b end_regions s),
  λ n. deeper depth _ (body-ended depth n b' end_regions t),
  (λ n. deeper depth _ (brace-ended depth n s), λ n. deeper depth _ (brace-ended depth n t), tt),
)
agree_where depth _ _ s t (two a b) (three a' b' c') f g = (
  λ n. deeper depth _ (body-ended depth n b end_regions s),
  λ n. deeper depth _ (body-ended depth n b' (more_regions c' end_regions) t),
  (
    λ n. deeper depth _ (brace-ended depth n s),
    λ n. deeper depth _ (begins-outer depth _ (elsewheres-begin depth n a' b' c' t g)),
    λ n h. begins-goes_on depth _ (elsewheres-begin depth n a' b' c' t g) (ap (ended depth) (sym h) ∙ brace-ended_here depth n s),
  ),
)
agree_where depth _ _ s t (three a b c) (two a' b') f g = (
  λ n. deeper depth _ (body-ended depth n b (more_regions c end_regions) s),
  λ n. deeper depth _ (body-ended depth n b' end_regions t),
  (
    λ n. deeper depth _ (begins-outer depth _ (elsewheres-begin depth n a b c s f)),
    λ n. deeper depth _ (brace-ended depth n t),
    λ n h. begins-goes_on depth _ (elsewheres-begin depth n a b c s f) (ap (ended depth) h ∙ brace-ended_here depth n t),
  ),
)
agree_where depth _ _ s t (three a b c) (three a' b' c') f g = (
  λ n. deeper depth _ (body-ended depth n b (more_regions c end_regions) s),
  λ n. deeper depth _ (body-ended depth n b' (more_regions c' end_regions) t),
  (
    λ n. deeper depth _ (begins-outer depth _ (elsewheres-begin depth n a b c s f)),
    λ n. deeper depth _ (begins-outer depth _ (elsewheres-begin depth n a' b' c' t g)),
    (λ n. last-ended depth n s, λ n. last-ended depth n t, tt),
  ),
)
