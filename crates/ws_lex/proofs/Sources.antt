-- What the pieces of a text say of its source.
use Rattle.std.proofs.Common.{◌≡◌, ℕ, suc, List, [], ◌∷◌, ◌++◌, length, sym, ap, ◌∙◌, Some, None}
use Rattle.ws_lex.specs.declared.piece.Cell.{Cell}
use Rattle.ws_lex.specs.declared.token.Token.{Token}
use Rattle.ws_lex.specs.Text.{text}
use Rattle.ws_lex.specs.Tokens.{IsTokens, IsBroken, lines_of, pieces, breaks, statements, tokens_before, end_token}
use Rattle.ws_lex.specs.Steps.{least_from}
use Rattle.ws_lex.proofs.Kept.{kept-whole}
use Rattle.ws_lex.proofs.Least.{least-is, least-none}

pub broken : (source : List ℕ) (cells : List Cell) (line : ℕ) (before : List Token) → cells ≡ text (lines_of source) →
    Some line ≡ least_from None (breaks (pieces cells)) → before ≡ tokens_before (Some line) (statements (pieces cells)) → IsBroken source line before
broken source cells line before e h b = record {
  first = least-is _ line (sym (h ∙ ap (λ cs. least_from None (breaks (pieces cs))) e));
  whole = kept-whole source line (least-is _ line (sym (h ∙ ap (λ cs. least_from None (breaks (pieces cs))) e)));
  value = b ∙ ap (λ cs. tokens_before (Some line) (statements (pieces cs))) e;
}

pub unbroken : (source : List ℕ) (cells : List Cell) (end : ℕ) (ts new : List Token) → cells ≡ text (lines_of source) → end ≡ suc (length (lines_of source)) →
    None ≡ least_from None (breaks (pieces cells)) → ts ≡ tokens_before None (statements (pieces cells)) → new ≡ ts ++ end_token end ∷ [] → IsTokens source new
unbroken source cells end ts new e last h t n = record {
  unbroken = least-none _ (sym (h ∙ ap (λ cs. least_from None (breaks (pieces cs))) e));
  value = n ∙ (ap (λ x. ts ++ end_token x ∷ []) last ∙ ap (λ l. l ++ end_token (suc (length (lines_of source))) ∷ []) (t ∙ ap (λ cs. tokens_before None (statements (pieces cs))) e));
}
