-- No source is both accepted and refused.
use Rattle.std.proofs.Common.{◌≡◌, ◌<◌, ◌⊎◌, refl, sym, ap, subst, ◌∙◌, ℕ, List, [], ◌∷◌, ◌++◌, length, inl, inr, append_assoc, arith}
use Rattle.ws_base.specs.declared.refusal.Refusal.{Refusal}
use Rattle.ws_lex.specs.declared.token.Token.{Token}
use Rattle.ws_lex.specs.Tokens.{IsTokens, IsBroken, breaks, pieces_of}
use Rattle.ws_parse.specs.Blocks.{runs, IsUnit, IsRefused as parse_refuses, IsFirstBad}
use Rattle.ws_tree.specs.declared.stmt.Tree.{Tree}
use Rattle.ws_types.specs.Kinds.{IsAmong}
use Rattle.ws_sema.specs.Checks.{rule_faults}
use Rattle.ws_driver.specs.Sources.{IsTree, IsSource, IsRefused, IsSyntaxAt, IsBrokenAt}

-- the tokens of a source are its only ones
unit_along : (bytes : List ℕ) (ts us : List Token) (t : Tree) → IsTokens bytes ts → IsTokens bytes us → IsUnit (runs ts) t → IsUnit (runs us) t
unit_along bytes ts us t first other unit = subst (λ x. IsUnit (runs x) t) (first.value ∙ sym other.value) unit

not_broken : (bytes : List ℕ) (line : ℕ) (before ts : List Token) → IsBroken bytes line before → IsTokens bytes ts → ⊥
not_broken bytes line before ts broken whole =
    let there = broken.first.there in
    let below : there.0 < length (breaks (pieces_of bytes)) = there.1 in
    let none : length (breaks (pieces_of bytes)) ≡ 0 = ap length whole.unbroken in
    omega (arith, below, none)

not_bad : (rs : List (List Token)) (bad : List Token) (t : Tree) → IsFirstBad rs bad → IsUnit rs t → ⊥
not_bad rs bad t b unit =
    let same : rs ≡ (b.front ++ bad ∷ []) ++ b.others = b.is ∙ sym (append_assoc b.front (bad ∷ []) b.others) in
    b.ends (record { more = b.others; tree = t; unit = subst (λ x. IsUnit x t) same unit })

not_refused_by_parse : (tokens : List Token) (line : ℕ) (t : Tree) → parse_refuses tokens line → IsUnit (runs tokens) t → ⊥
not_refused_by_parse tokens line t (inl h) unit = not_bad (runs tokens) h.0 t h.1 unit
not_refused_by_parse tokens line t (inr h) unit = h.1 t unit

not_syntax : (bytes : List ℕ) (line : ℕ) (t : Tree) → IsSyntaxAt bytes line → IsTree bytes t → ⊥
not_syntax bytes line t (inl h) is = not_broken bytes h.0 h.1 is.0 h.3 is.1
not_syntax bytes line t (inr h) is = not_refused_by_parse h.0 line t h.2 (unit_along bytes is.0 h.0 t is.1 h.1 is.2)

one_tree : (bytes : List ℕ) (t u : Tree) → IsTree bytes t → IsTree bytes u → t ≡ u
one_tree bytes t u first other = other.3 t (unit_along bytes first.0 other.0 t first.1 other.1 first.2)

pub never_both : (bytes : List ℕ) (r : Refusal) (t : Tree) → IsRefused bytes r → IsSource bytes t → ⊥
never_both bytes r t (inl h) accepted = not_syntax bytes r.line t h.1 accepted.0
never_both bytes r t (inr h) accepted =
    let same : rule_faults h.0 ≡ [] = ap rule_faults (sym (one_tree bytes t h.0 accepted.0 h.1)) ∙ accepted.1 in
    subst (λ faults. IsAmong r faults) same h.2.0
