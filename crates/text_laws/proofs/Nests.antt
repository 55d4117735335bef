-- The text of an op's regions stands for what it shows of them.
use Rattle.std.proofs.Common.{◌≡◌, refl, sym, ap, ◌∙◌, ℕ, suc, ◌+◌, Bool, true, false, List, ◌∷◌, ◌++◌, length, codes, arith, true≢false, append_assoc, add-one}
use Rattle.std.specs.Prelude.{if◌then◌else◌}
use Rattle.std.proofs.lemmas.Bool.{ne_eqb}
use Rattle.std.proofs.lemmas.List.{append_cancel_left}
use mathlib.Core.Former.{Count}
use Rattle.hlfir_ops.specs.declared.what.What.{What}
use Rattle.hlfir_ops.specs.declared.what.What.TheVariants as what
use Rattle.hlfir_ops.specs.declared.op.Region.{Region, Region'}
use Rattle.hlfir_ops.specs.Numbers.{names_in, ops_numbers, regions_numbers}
use Rattle.hlfir_ops.specs.Trees.{Regions, end_regions, more_regions, region_of}
use Rattle.hlfir_text.specs.declared.form.Form.{Form}
use Rattle.hlfir_text.specs.OpText.{yields_in}
use Rattle.hlfir_text.specs.OperandText.{first_separator}
use Rattle.hlfir_text.specs.ModuleText.{indent, opening, between, closing, brace, depth_in, names_text, count, ops_text, regions_text}
use Rattle.text_laws.specs.Shown.{shown_regions}
use Rattle.text_laws.proofs.Runs.{joined}
use Rattle.text_laws.proofs.Indents.{ended, ended-outer}
use Rattle.text_laws.proofs.Goods.{AreGood, EachLaw}

pub first-yields : (w : What) → first_separator (yields_in w) ≡ codes " "
first-yields (what.Forall names) = refl
first-yields (what.Allocmem also) = refl
first-yields w = refl

-- ---- regions step by step

abbrev pub body_text : ℕ → Form → ℕ → Region → List ℕ
body_text depth y number (Region' _ ops) = ops_text depth y number ops

abbrev pub body_numbers : Region → ℕ
body_numbers (Region' _ ops) = ops_numbers ops

-- the text of the ops of a region
abbrev pub inner_text : ℕ → What → ℕ → ℕ → Region → List ℕ
inner_text depth w number k region = body_text (depth_in depth w k) (yields_in w) (number + length (names_in w k)) region

-- the number after them
abbrev pub number_after : What → ℕ → ℕ → Region → ℕ
number_after w number k region = number + length (names_in w k) + body_numbers region

-- the text of the regions after it, and what follows
abbrev pub rest_then : {n : Count} → ℕ → What → ℕ → ℕ → Region → Regions n → List ℕ → List ℕ
rest_then depth w number k region regions s = regions_text depth w (number_after w number k region) (suc k) regions ++ s

pub region-then : {n : Count} (depth : ℕ) (w : What) (number k : ℕ) (region : Region) (regions : Regions n) (s : List ℕ) →
    regions_text depth w number k (more_regions region regions) ++ s ≡ opening depth w number k ++ (inner_text depth w number k region ++ rest_then depth w number k region regions s)
region-then depth w number k (Region' h ops) regions s =
    let front = opening depth w number k in
    let lines = inner_text depth w number k (Region' h ops) in
    let rest = regions_text depth w (number_after w number k (Region' h ops)) (suc k) regions in
    append_assoc (front ++ lines) rest s ∙ append_assoc front lines (rest ++ s)

-- ---- two lists of regions of one op: what stands after the ops of each ends them, and they are as many

abbrev pub Agree : {m n : Count} → ℕ → What → ℕ → Regions m → Regions n → List ℕ → List ℕ → Type 0
Agree depth w k end_regions end_regions s t = Unit {0}
Agree depth w k end_regions (more_regions b others) s t = (number : ℕ) → regions_text depth w number k end_regions ++ s ≡ regions_text depth w number k (more_regions b others) ++ t → ⊥
Agree depth w k (more_regions a regions) end_regions s t = (number : ℕ) → regions_text depth w number k (more_regions a regions) ++ s ≡ regions_text depth w number k end_regions ++ t → ⊥
Agree depth w k (more_regions a regions) (more_regions b others) s t =
    ((number : ℕ) → ended (depth_in depth w k) (regions_text depth w number (suc k) regions ++ s) ≡ true) × ((number : ℕ) → ended (depth_in depth w k) (regions_text depth w number (suc k) others ++ t) ≡ true)
    × Agree depth w (suc k) regions others s t

pub regions_law : {m n : Count} (depth : ℕ) (w : What) (number k : ℕ) (regions : Regions m) (others : Regions n) (s t : List ℕ) → EachLaw regions → AreGood regions → AreGood others → Agree depth w k regions others s t →
    regions_text depth w number k regions ++ s ≡ regions_text depth w number k others ++ t → (shown_regions regions ≡ shown_regions others) × (regions_numbers w k regions ≡ regions_numbers w k others) × (s ≡ t)
regions_law depth w number k end_regions end_regions s t laws good goods agree h = (refl, refl, append_cancel_left (closing depth w k) s t h)
regions_law depth w number k end_regions (more_regions b others) s t laws good goods agree h = absurd (agree number h)
regions_law depth w number k (more_regions a regions) end_regions s t laws good goods agree h = absurd (agree number h)
regions_law depth w number k (more_regions (Region' h ops) regions) (more_regions (Region' g ops') others) s t laws good goods agree e =
    let first = number + length (names_in w k) in
    let inside = append_cancel_left (opening depth w number k) _ _ (sym (region-then depth w number k (Region' h ops) regions s) ∙ (e ∙ region-then depth w number k (Region' g ops') others t)) in
    let here = laws.0 (depth_in depth w k) (yields_in w) first _ ops' (rest_then depth w number k (Region' h ops) regions s) (rest_then depth w number k (Region' g ops') others t) (first-yields w) good.0 goods.0
    (agree.0 (number_after w number k (Region' h ops))) (agree.1 (number_after w number k (Region' g ops'))) inside in
    let same_rest : rest_then depth w number k (Region' h ops) regions s ≡ regions_text depth w (number_after w number k (Region' h ops)) (suc k) others ++ t =
    here.2 ∙ ap (λ (x : ℕ). regions_text depth w (first + x) (suc k) others ++ t) (sym here.1) in
    let more = regions_law depth w (number_after w number k (Region' h ops)) (suc k) regions others s t laws.1 good.1 goods.1 agree.2 same_rest in
    (joined (ap region_of here.0) more.0, (λ i. (length (names_in w k) + here.1 i) + more.1 i), more.2)

-- ---- what stands after the ops of a region

abbrev pub is_masked : What → Bool
is_masked what.Masked = true
is_masked _ = false

pub depth-in : (depth : ℕ) (w : What) (k : ℕ) → is_masked w ≡ false → depth_in depth w k ≡ suc depth
depth-in depth what.Masked k h = absurd (true≢false h)
depth-in depth w k h = add-one depth

closing-next : (depth : ℕ) (w : What) (k : ℕ) → closing depth w (suc k) ≡ brace depth w
closing-next depth w k = ap (λ (b : Bool). if b then codes "\n" else brace depth w) (ne_eqb (suc k) 0 (λ e. omega (arith, e)))

opening-next : (depth : ℕ) (w : What) (number k : ℕ) → opening depth w number (suc k) ≡ between depth w number (suc k)
opening-next depth w number k = ap (λ (b : Bool). if b then codes " {\n" else between depth w number (suc k)) (ne_eqb (suc k) 0 (λ e. omega (arith, e)))

-- what stands between two regions begins with a brace, but for the third one of a WHERE
between-brace : (depth : ℕ) (w : What) (number k : ℕ) → is_masked w ≡ false → (x : List ℕ) × (between depth w number k ≡ indent depth ++ (125 ∷ x))
between-brace depth (what.Assign realloc) number k h = (codes " to {\n", refl)
between-brace depth what.Masked number k h = absurd (true≢false h)
between-brace depth what.Elsewhere number k h = (codes " do {\n", refl)
between-brace depth (what.Forall names) number k h =
    (codes " index " ++ (names_text 0 number (names_in (what.Forall names) k) ++ codes " {\n"), append_assoc (indent depth ++ codes "} index ") (names_text 0 number (names_in (what.Forall names) k)) (codes " {\n") ∙ append_assoc (indent depth) (codes "} index ") (names_text 0 number (names_in (what.Forall names) k) ++ codes " {\n"))
between-brace depth w number k h = (codes " {\n", refl)

brace-ended : (depth : ℕ) (w : What) (s : List ℕ) → ended (suc depth) s ≡ true → ended (suc depth) (brace depth w ++ s) ≡ true
brace-ended depth what.Elsewhere s h = h
brace-ended depth w s h = ap (ended (suc depth)) (append_assoc (indent depth) (codes "}\n") s) ∙ ended-outer depth (codes "}\n" ++ s) refl

pub next-ended : {m : Count} (depth : ℕ) (w : What) (number k : ℕ) (regions : Regions m) (s : List ℕ) → is_masked w ≡ false → ended (suc depth) s ≡ true → ended (suc depth) (regions_text depth w number (suc k) regions ++ s) ≡ true
next-ended depth w number k end_regions s plain e = ap (λ (x : List ℕ). ended (suc depth) (x ++ s)) (closing-next depth w k) ∙ brace-ended depth w s e
next-ended depth w number k (more_regions region regions) s plain e =
    let z : List ℕ = inner_text depth w number (suc k) region ++ rest_then depth w number (suc k) region regions s in
    let front = between-brace depth w number (suc k) plain in
    ap (ended (suc depth)) (region-then depth w number (suc k) region regions s ∙ (ap (λ (x : List ℕ). x ++ z) (opening-next depth w number k ∙ front.1) ∙ append_assoc (indent depth) (125 ∷ front.0) z))
    ∙ ended-outer depth (125 ∷ (front.0 ++ z)) refl

-- as many regions of an op that is no WHERE
pub agree_same : {m n : Count} (depth : ℕ) (w : What) (k : ℕ) (regions : Regions m) (others : Regions n) (s t : List ℕ) → is_masked w ≡ false → count regions ≡ count others → ended (suc depth) s ≡ true → ended (suc depth) t ≡ true →
    Agree depth w k regions others s t
agree_same depth w k end_regions end_regions s t plain same a b = tt
agree_same depth w k end_regions (more_regions y others) s t plain same a b = absurd (omega (arith, same))
agree_same depth w k (more_regions x regions) end_regions s t plain same a b = absurd (omega (arith, same))
agree_same depth w k (more_regions x regions) (more_regions y others) s t plain same a b = (
  λ number. ap (λ (d : ℕ). ended d (regions_text depth w number (suc k) regions ++ s)) (depth-in depth w k plain) ∙ next-ended depth w number k regions s plain a,
  λ number. ap (λ (d : ℕ). ended d (regions_text depth w number (suc k) others ++ t)) (depth-in depth w k plain) ∙ next-ended depth w number k others t plain b,
  agree_same depth w (suc k) regions others s t plain (omega (arith, same)) a b,
)
