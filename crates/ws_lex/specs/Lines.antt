-- The lines of a source, and what kind each one is.
use Rattle.std.specs.Prelude.{ℕ, Bool, true, false, not, ◌&&◌, ◌||◌, ◌+◌, ◌-◌, List, [], ◌∷◌, drop, length, codes, bytes_eq, nat_eq, nat_lt, nat_le, eqb, if◌then◌else◌}
use Rattle.std.specs.List.{starts_with}
use Rattle.ws_lex.specs.declared.piece.LineKind.{LineKind}
use Rattle.ws_lex.specs.declared.piece.LineKind.TheVariants.{Blank, Conditional, Directive, Code}

-- a tab is a blank, and letter case is irrelevant
abbrev pub plain : ℕ → ℕ
plain b = if nat_eq b 9 then 32 else (if nat_le 65 b && nat_le b 90 then b + 32 else b)

abbrev pub begins_line_feed : List ℕ → Bool
begins_line_feed [] = false
begins_line_feed (b ∷ bs) = nat_eq b 10

-- the byte in front of the first line
abbrev pub in_front : ℕ → List (List ℕ) → List (List ℕ)
in_front b [] = (b ∷ []) ∷ []
in_front b (l ∷ ls) = (b ∷ l) ∷ ls

-- the lines, each without its LF and without a CR before that
abbrev pub lines : List ℕ → List (List ℕ)
lines [] = []
lines (b ∷ bs) = if nat_eq b 10 then [] ∷ lines bs else (if nat_eq b 13 && begins_line_feed bs then lines bs else in_front b (lines bs))

-- a line as it stands before an LF
abbrev pub without_return : List ℕ → List ℕ
without_return [] = []
without_return (b ∷ []) = if nat_eq b 13 then [] else b ∷ []
without_return (b ∷ c ∷ bs) = b ∷ without_return (c ∷ bs)

-- ---- the part before the comment

abbrev pub is_quote : ℕ → Bool
is_quote b = nat_eq b 34 || nat_eq b 39

-- the quote that is open after a byte, and 0 for none
abbrev pub quote_after : ℕ → ℕ → ℕ
quote_after q b = if nat_eq q 0 then (if is_quote b then b else 0) else (if nat_eq q b then 0 else q)

-- what stands before the first `!` outside quotes
abbrev pub before_comment : ℕ → List ℕ → List ℕ
before_comment q [] = []
before_comment q (b ∷ bs) = if nat_eq q 0 && nat_eq b 33 then [] else b ∷ before_comment (quote_after q b) bs

-- the quote that is left open at the end
abbrev pub open_quote : ℕ → List ℕ → ℕ
open_quote q [] = q
open_quote q (b ∷ bs) = open_quote (quote_after q b) bs

abbrev pub is_blank : ℕ → Bool
is_blank b = nat_eq b 32

abbrev pub drop_blanks : List ℕ → List ℕ
drop_blanks [] = []
drop_blanks (b ∷ bs) = if is_blank b then drop_blanks bs else b ∷ bs

abbrev pub all_blank : List ℕ → Bool
all_blank [] = true
all_blank (b ∷ bs) = is_blank b && all_blank bs

-- without the blanks at the end
abbrev pub trim : List ℕ → List ℕ
trim [] = []
trim (b ∷ bs) = if is_blank b && all_blank bs then [] else b ∷ trim bs

abbrev pub starts : List ℕ → List ℕ → Bool
starts front bs = starts_with eqb bs front

-- a blank or the end of the line
abbrev pub begins_blank : List ℕ → Bool
begins_blank [] = true
begins_blank (b ∷ bs) = is_blank b

-- `lead` is the line from its first byte on that is no blank
abbrev pub is_directive : List ℕ → Bool
is_directive lead = starts (codes "!$omp") lead && begins_blank (drop 5 lead)

abbrev pub is_conditional : List ℕ → Bool
is_conditional lead = starts (codes "!$ ") lead

abbrev pub kind_of_lead : List ℕ → List ℕ → LineKind
kind_of_lead lead line =
    if is_directive lead then Directive else
    (if is_conditional lead then Conditional else
    (if all_blank (before_comment 0 line) then Blank else Code))

abbrev pub kind : List ℕ → LineKind
kind line = kind_of_lead (drop_blanks line) line

-- what stands after the `!$omp` of a directive and before its comment
abbrev pub directive_part : List ℕ → List ℕ
directive_part line = trim (before_comment 0 (drop 5 (drop_blanks line)))

abbrev pub code_part : List ℕ → List ℕ
code_part line = trim (before_comment 0 line)

abbrev pub marked_width : List ℕ → ℕ
marked_width line = (length line - length (drop_blanks line)) + 1 + length (before_comment 0 (drop 1 (drop_blanks line)))

-- the length of the part before the comment. The `!` of a directive or of `!$ ` begins none.
abbrev pub width_of : LineKind → List ℕ → ℕ
width_of Blank line = length (before_comment 0 line)
width_of Code line = length (before_comment 0 line)
width_of Conditional line = marked_width line
width_of Directive line = marked_width line

abbrev pub leaves_open : List ℕ → Bool
leaves_open part = not (nat_eq (open_quote 0 part) 0)

-- quoted text that is not closed on its line, a line that holds only `&`
abbrev pub is_part_broken : LineKind → List ℕ → Bool
is_part_broken Blank line = false
is_part_broken Conditional line = false
is_part_broken Directive line = leaves_open (directive_part line)
is_part_broken Code line = leaves_open (code_part line) || bytes_eq (drop_blanks (code_part line)) (codes "&")

-- the line by itself breaks the source form
abbrev pub is_broken : List ℕ → Bool
is_broken line = nat_lt 132 (width_of (kind line) line) || is_part_broken (kind line) line
