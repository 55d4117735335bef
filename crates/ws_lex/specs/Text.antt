-- The text of a source: its statements without comments, continued lines joined, each statement with a `;` after it.
use Rattle.std.specs.Prelude.{ℕ, suc, Bool, false, List, [], ◌∷◌, ◌++◌, map, codes, nat_eq, if◌then◌else◌, Option, Some, None}
use Rattle.ws_lex.specs.declared.piece.LineKind.{LineKind}
use Rattle.ws_lex.specs.declared.piece.LineKind.TheVariants.{Blank, Conditional, Directive, Code}
use Rattle.ws_lex.specs.declared.piece.Cell.{Cell}
use Rattle.ws_lex.specs.declared.piece.Front.{Front}
use Rattle.ws_lex.specs.Lines.{kind, is_broken, drop_blanks, directive_part, code_part}

abbrev pub on_line : ℕ → List ℕ → List Cell
on_line n = map (λ b. record { byte = b; line = n })

abbrev pub ends_in_ampersand : List ℕ → Bool
ends_in_ampersand [] = false
ends_in_ampersand (b ∷ []) = nat_eq b 38
ends_in_ampersand (b ∷ c ∷ bs) = ends_in_ampersand (c ∷ bs)

abbrev pub but_last : List ℕ → List ℕ
but_last [] = []
but_last (b ∷ []) = []
but_last (b ∷ c ∷ bs) = b ∷ but_last (c ∷ bs)

-- the part of a line that continues a statement
abbrev pub after_ampersand : List ℕ → List ℕ → List ℕ
after_ampersand part [] = 32 ∷ part
after_ampersand part (b ∷ bs) = if nat_eq b 38 then bs else 32 ∷ part

abbrev pub continuing : List ℕ → List ℕ
continuing part = after_ampersand part (drop_blanks part)

-- a `;` ends no directive: outside quotes it breaks the form, as a byte 0 does
abbrev pub no_separator : ℕ → ℕ
no_separator b = if nat_eq b 59 then 0 else b

-- an `&` at the end of a directive makes it unsupported, as `%` does, and joins no line to it
abbrev pub directive_text : List ℕ → List ℕ
directive_text part = if ends_in_ampersand part then but_last part ++ codes "%" else part

-- `Front` is what stands of a statement that goes on: its text so far, and the line of the `&`
abbrev pub nothing : Front
nothing = record { text = []; waits = None }

-- at an `&` with no line to follow, or a directive inside a continued statement, the `&` or a byte 0 breaks the form
abbrev pub left_over : Option ℕ → List Cell
left_over None = []
left_over (Some n) = on_line n (codes "&;")

abbrev pub interrupted : ℕ → Option ℕ → List Cell
interrupted n None = []
interrupted n (Some m) = on_line n (0 ∷ codes ";")

abbrev pub part_after : Option ℕ → List ℕ → List ℕ
part_after None part = part
part_after (Some m) part = continuing part

-- a directive is a statement of its own; its `!` stands for the whole `!$omp`
abbrev pub directive : ℕ → List ℕ → List Cell
directive n part = on_line n (codes "!") ++ (on_line n (map no_separator (directive_text part)) ++ on_line n (codes ";"))

-- the text that a line completes
abbrev pub adds_code : ℕ → Front → List ℕ → List Cell
adds_code n f part = if ends_in_ampersand part then [] else f.text ++ (on_line n (part_after f.waits part) ++ on_line n (codes ";"))

abbrev pub adds : ℕ → Front → LineKind → List ℕ → List Cell
adds n f Blank line = []
adds n f Conditional line = on_line n (codes "%;")
adds n f Directive line = f.text ++ (interrupted n f.waits ++ directive n (directive_part line))
adds n f Code line = adds_code n f (code_part line)

-- and what goes on after it
abbrev pub front_of_code : ℕ → Front → List ℕ → Front
front_of_code n f part = if ends_in_ampersand part then record { text = f.text ++ on_line n (part_after f.waits (but_last part)); waits = Some n } else nothing

abbrev pub front_after : ℕ → Front → LineKind → List ℕ → Front
front_after n f Blank line = f
front_after n f Conditional line = f
front_after n f Directive line = nothing
front_after n f Code line = front_of_code n f (code_part line)

-- a line that by itself breaks the form adds a byte 0
abbrev pub mark : ℕ → List ℕ → List Cell
mark n line = if is_broken line then on_line n (0 ∷ codes ";") else []

abbrev pub text_from : ℕ → Front → List (List ℕ) → List Cell
text_from n f [] = f.text ++ left_over f.waits
text_from n f (l ∷ ls) = (mark n l ++ adds n f (kind l) l) ++ text_from (suc n) (front_after n f (kind l) l) ls

abbrev pub text : List (List ℕ) → List Cell
text ls = text_from 1 nothing ls
