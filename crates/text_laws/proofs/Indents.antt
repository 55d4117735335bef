-- Where a list of ops ends: at a line that is indented less, or at the brace that closes the block.
use Rattle.std.proofs.Common.{◌≡◌, refl, sym, ap, ◌∙◌, ℕ, suc, zero, ◌==◌, Bool, true, false, not, ◌&&◌, ◌||◌, ◌⊎◌, inl, inr, List, ◌∷◌, ◌++◌, codes, get_or, drop, true≢false, append_assoc, eqb-true}
use Rattle.std.specs.Prelude.{if◌then◌else◌}
use Rattle.std.proofs.lemmas.Bool.{and_parts, or_cases, not-true}
use Rattle.hlfir_text.specs.ModuleText.{indent}

pub indent-suc : (depth : ℕ) (s : List ℕ) → indent (suc depth) ++ s ≡ 32 ∷ 32 ∷ (indent depth ++ s)
indent-suc zero s = refl
indent-suc (suc depth) s =
    append_assoc (indent (suc depth)) (codes "  ") s ∙ (indent-suc depth (32 ∷ 32 ∷ s) ∙ ap (λ (t : List ℕ). 32 ∷ 32 ∷ t) (sym (append_assoc (indent depth) (codes "  ") s)))

-- the end of the text, or a closing brace at the end of its line
abbrev pub closes : List ℕ → Bool
closes s = get_or s 0 0 == 0 || (get_or s 0 0 == 125 && get_or s 1 0 == 10)

-- neither a blank nor the end of a block
abbrev pub starts_op : List ℕ → Bool
starts_op s = not (get_or s 0 0 == 32) && not (closes s)

abbrev is_blank : List ℕ → Bool
is_blank s = get_or s 0 0 == 32 && get_or s 1 0 == 32

-- a list of ops at this depth ends before this text
abbrev pub ended : ℕ → List ℕ → Bool
ended zero s = closes s
ended (suc depth) s = if is_blank s then ended depth (drop 2 s) else true

pub ended-indent : (depth : ℕ) (s : List ℕ) → ended depth (indent depth ++ s) ≡ closes s
ended-indent zero s = refl
ended-indent (suc depth) s = ap (ended (suc depth)) (indent-suc depth s) ∙ ended-indent depth s

not_taken : (b c x : Bool) → b ≡ false → (if b && c then x else true) ≡ true
not_taken true c x h = absurd (true≢false h)
not_taken false c x h = refl

-- a line that is indented less
pub ended-outer : (depth : ℕ) (s : List ℕ) → (get_or s 0 0 == 32) ≡ false → ended (suc depth) (indent depth ++ s) ≡ true
ended-outer zero s h = not_taken (get_or s 0 0 == 32) (get_or s 1 0 == 32) (closes (drop 2 s)) h
ended-outer (suc depth) s h = ap (ended (suc (suc depth))) (indent-suc depth s) ∙ ended-outer depth s h

no_blank : (c d : ℕ) → (c == 0 || (c == 125 && d == 10)) ≡ true → (c == 32) ≡ false
no_blank c d h = by (or_cases (c == 0) (c == 125 && d == 10) h)
  where
    by : ((c == 0) ≡ true) ⊎ ((c == 125 && d == 10) ≡ true) → (c == 32) ≡ false
    by (inl e) = ap (λ (x : ℕ). x == 32) (eqb-true c 0 e)
    by (inr e) = ap (λ (x : ℕ). x == 32) (eqb-true c 125 (and_parts (c == 125) (d == 10) e).0)

if_then : (b x y : Bool) → (x ≡ true → y ≡ true) → (if b then x else true) ≡ true → (if b then y else true) ≡ true
if_then true x y f h = f h
if_then false x y f h = refl

pub ended-deeper : (depth : ℕ) (s : List ℕ) → ended depth s ≡ true → ended (suc depth) s ≡ true
ended-deeper zero s h = not_taken (get_or s 0 0 == 32) (get_or s 1 0 == 32) (closes (drop 2 s)) (no_blank (get_or s 0 0) (get_or s 1 0) h)
ended-deeper (suc depth) s h = if_then (is_blank s) (ended depth (drop 2 s)) (ended (suc depth) (drop 2 s)) (ended-deeper depth (drop 2 s)) h

-- an op does not end its list
pub op-goes_on : (depth : ℕ) (s : List ℕ) → starts_op s ≡ true → ended depth (indent depth ++ s) ≡ true → ⊥
op-goes_on depth s h e = true≢false (sym e ∙ (ended-indent depth s ∙ not-true (closes s) (and_parts (not (get_or s 0 0 == 32)) (not (closes s)) h).1))

pub op-outer : (depth : ℕ) (s : List ℕ) → starts_op s ≡ true → ended (suc depth) (indent depth ++ s) ≡ true
op-outer depth s h = ended-outer depth s (not-true (get_or s 0 0 == 32) (and_parts (not (get_or s 0 0 == 32)) (not (closes s)) h).0)
