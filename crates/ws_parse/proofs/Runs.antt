-- The first statement of the tokens.
use Rattle.std.proofs.Common.{◌≡◌, ◌≤◌, ◌+◌, ℕ, zero, suc, Bool, true, false, List, [], ◌∷◌, length, take, drop, if◌then◌else◌, refl, sym, ap, ◌∙◌, subst, arith}
use Rattle.ws_lex.specs.declared.token.Token.{Token}
use Rattle.ws_parse.specs.Blocks.{runs, begun_by, is_end, first_length, end_line}
use Rattle.ws_parse.proofs.Ends.{end_from}

within_case : (a b : Bool) (m n : ℕ) → m ≤ n → (if◌then◌else◌ a 0 (if◌then◌else◌ b 1 (suc m))) ≤ suc n
within_case true b m n h = omega arith
within_case false true m n h = omega arith
within_case false false m n h = omega arith

pub first_within : (ts : List Token) → first_length ts ≤ length ts
first_within [] = omega arith
first_within (t ∷ ts) = within_case (is_end t.what) t.ends (first_length ts) (length ts) (first_within ts)

pub no_first : (ts : List Token) → first_length ts ≡ 0 → runs ts ≡ []
no_first [] h = refl
no_first (t ∷ ts) h = go (is_end t.what) t.ends h
  where
    go : (a b : Bool) → (if◌then◌else◌ a 0 (if◌then◌else◌ b 1 (suc (first_length ts)))) ≡ 0 → (if◌then◌else◌ a [] (begun_by b t (runs ts))) ≡ []
    go true b h = refl
    go false true h = absurd (omega arith)
    go false false h = absurd (omega arith)

more_case : (t : Token) (ts : List Token) (k : ℕ) → first_length ts ≡ k → ((k : ℕ) → first_length ts ≡ suc k → runs ts ≡ take (suc k) ts ∷ runs (drop (suc k) ts)) → begun_by false t (runs ts) ≡ (t ∷ take k ts) ∷ runs (drop k ts)
more_case t ts zero h rec' = ap (begun_by false t) (no_first ts h) ∙ ap (λ (zs : List (List Token)). (t ∷ []) ∷ zs) (sym (no_first ts h))
more_case t ts (suc k) h rec' = ap (begun_by false t) (rec' k h)

run_case : (t : Token) (ts : List Token) (a b : Bool) (n : ℕ) → (if◌then◌else◌ a 0 (if◌then◌else◌ b 1 (suc (first_length ts)))) ≡ suc n → ((k : ℕ) → first_length ts ≡ suc k → runs ts ≡ take (suc k) ts ∷ runs (drop (suc k) ts)) → (if◌then◌else◌ a [] (begun_by b t (runs ts))) ≡ (t ∷ take n ts) ∷ runs (drop n ts)
run_case t ts true b n h rec' = absurd (omega arith)
run_case t ts false true n h rec' = let e : 0 ≡ n = omega arith in subst (λ (k : ℕ). (t ∷ []) ∷ runs ts ≡ (t ∷ take k ts) ∷ runs (drop k ts)) e refl
run_case t ts false false n h rec' = more_case t ts n (omega arith) rec'

pub first_run : (ts : List Token) (n : ℕ) → first_length ts ≡ suc n → runs ts ≡ take (suc n) ts ∷ runs (drop (suc n) ts)
first_run [] n h = absurd (omega arith)
first_run (t ∷ ts) n h = run_case t ts (is_end t.what) t.ends n h (λ k e. first_run ts k e)

pub run_split : (ts front back : List Token) (n : ℕ) → n ≡ first_length ts → (n ≡ 0 → ⊥) → front ≡ take n ts → back ≡ drop n ts → runs ts ≡ front ∷ runs back
run_split ts front back zero e h p q = absurd (h refl)
run_split ts front back (suc n) e h p q = first_run ts n (sym e) ∙ ap (λ (zs : List Token). zs ∷ runs (drop (suc n) ts)) (sym p) ∙ ap (λ (zs : List Token). front ∷ runs zs) (sym q)

pub end_same : (k : ℕ) (t : Token) (ts : List Token) → end_from k (t ∷ ts) ≡ end_line (t ∷ ts)
end_same k t [] = go (is_end t.what)
  where
    go : (b : Bool) → (if◌then◌else◌ b t.line t.line) ≡ t.line
    go true = refl
    go false = refl
end_same k t (u ∷ us) = ap (λ (z : ℕ). if◌then◌else◌ (is_end t.what) t.line z) (end_same t.line u us)

pub end_first : (ts : List Token) → end_from 1 ts ≡ end_line ts
end_first [] = refl
end_first (t ∷ ts) = end_same 1 t ts
