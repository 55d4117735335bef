-- The keywords.
use Rattle.std.specs.Prelude.{ℕ, List, Bool, ◌||◌}
use Rattle.std.specs.List.{list_any}
use Rattle.std.specs.Str.{bytes_eq}
use Rattle.ws_tree.specs.declared.words.TheConstants.{STATEMENT_WORDS, CALL_WORDS, OTHER_CALL_WORDS, OTHER_STATEMENT_WORDS}

-- a call of the word is not supported
unfoldable pub is_other_call : List ℕ → Bool
is_other_call word = list_any (λ entry. bytes_eq word entry.now) OTHER_CALL_WORDS

-- a statement that begins with the word is not supported
unfoldable pub is_other_statement : List ℕ → Bool
is_other_statement word = list_any (λ entry. bytes_eq word entry.now) OTHER_STATEMENT_WORDS

-- no variable has this name
unfoldable pub is_keyword : List ℕ → Bool
is_keyword word =
    list_any (λ entry. bytes_eq word entry.now) STATEMENT_WORDS
    || list_any (λ entry. bytes_eq word entry.now) CALL_WORDS
    || is_other_call word
    || is_other_statement word
