-- What a statement is by its first words, its tokens and its brackets, before it is read.
use Rattle.std.specs.Prelude.{ℕ, suc, zero, Bool, true, false, not, ◌+◌, ◌-◌, ◌||◌, ◌&&◌, Option, Some, None, List, [], ◌∷◌, codes, if◌then◌else◌, nat_lt, nat_eq}
use Rattle.std.specs.List.{list_any}
use Rattle.std.specs.Str.{bytes_eq}
use Rattle.ws_lex.specs.declared.token.Sign.TheVariants as sign
use Rattle.ws_lex.specs.declared.token.Token.{Token}
use Rattle.ws_lex.specs.declared.token.TokenKind.{TokenKind}
use Rattle.ws_lex.specs.declared.token.TokenKind.TheVariants.{Word, Sign, Foreign, Directive}
use Rattle.ws_tree.specs.Words.{is_other_statement}
use Rattle.ws_expr.specs.Parsing.{first_is}
use Rattle.ws_stmt.specs.declared.role.Block.{Block}
use Rattle.ws_stmt.specs.declared.role.Block.TheVariants as block
use Rattle.ws_stmt.specs.declared.role.Role.{Role}
use Rattle.ws_stmt.specs.declared.role.Role.TheVariants as role

-- ---- words and brackets

abbrev pub is_word : List ℕ → TokenKind → Bool
is_word w (Word x) = bytes_eq x w
is_word w _ = false

abbrev pub is_foreign : TokenKind → Bool
is_foreign Foreign = true
is_foreign _ = false

abbrev pub is_one : List (List ℕ) → TokenKind → Bool
is_one ws (Word x) = list_any (bytes_eq x) ws
is_one ws _ = false

abbrev pub change_of : TokenKind → ℕ → ℕ
change_of (Sign sign.Open) n = n + 1
change_of (Sign sign.OpenSquare) n = n + 1
change_of (Sign sign.OpenSlash) n = n + 1
change_of (Sign sign.Close) n = n - 1
change_of (Sign sign.CloseSquare) n = n - 1
change_of (Sign sign.CloseSlash) n = n - 1
change_of _ n = n

-- with n brackets open before it, more than 256 are open at some place
abbrev pub is_crowded : ℕ → List Token → Bool
is_crowded n [] = nat_lt 256 n
is_crowded n (t ∷ ts) = nat_lt 256 n || is_crowded (change_of t.what n) ts

-- of n open brackets the outermost closes with the last token
abbrev pub closes_at_end : ℕ → List Token → Bool
closes_at_end n [] = nat_eq n 0
closes_at_end n (t ∷ ts) = if nat_eq n 0 then false else closes_at_end (change_of t.what n) ts

abbrev pub is_open : TokenKind → Bool
is_open (Sign sign.Open) = true
is_open _ = false

-- what follows the bracket that closes the outermost of n open ones
abbrev pub skip : ℕ → List Token → List Token
skip n [] = []
skip n (t ∷ ts) = if nat_eq n 0 then t ∷ ts else skip (change_of t.what n) ts

-- WHERE or FORALL with a `)` to its `(` that ends the statement
abbrev pub spans : List Token → Bool
spans [] = false
spans (t ∷ ts) = is_open t.what && closes_at_end 1 ts

abbrev pub role_if : Bool → Role → Role
role_if true r = r
role_if false r = role.Alone

abbrev pub is_becomes : TokenKind → Bool
is_becomes (Sign sign.Becomes) = true
is_becomes _ = false

abbrev pub begins_becomes : List Token → Bool
begins_becomes = first_is is_becomes

-- what follows the name of a left side: brackets, if it has subscripts, and `=`
abbrev pub assigns : List Token → Bool
assigns [] = false
assigns (t ∷ ts) = is_becomes t.what || (is_open t.what && begins_becomes (skip 1 ts))

abbrev pub begins_word : List ℕ → List Token → Bool
begins_word w = first_is (is_word w)

-- after END
abbrev pub end_role : List Token → Role
end_role [] = role.ClosesUnit
end_role (t ∷ ts) =
    if is_word (codes "do") t.what then role.Closes block.Do else
    (if is_word (codes "where") t.what then role.Closes block.Where else
    (if is_word (codes "forall") t.what then role.Closes block.Forall else role.ClosesUnit))

-- a combined construct of its own, as PARALLEL DO (OpenMP 5.2, 17)
abbrev pub is_combined : List Token → Bool
is_combined = first_is (is_one (codes "do" ∷ codes "sections" ∷ codes "loop" ∷ codes "masked" ∷ codes "master" ∷ []))

abbrev pub region_of : List Token → Option Block
region_of [] = None
region_of (t ∷ ts) =
    if is_word (codes "workshare") t.what then Some block.Workshare else
    (if is_word (codes "parallel") t.what then (if is_combined ts then None else (if begins_word (codes "workshare") ts then Some block.ParallelWorkshare else Some block.Parallel)) else None)

abbrev pub opening_role : Option Block → Role
opening_role (Some b) = role.Opens b
opening_role None = role.Alone

abbrev pub closing_role : Option Block → Role
closing_role (Some b) = role.Closes b
closing_role None = role.Alone

abbrev pub directive_role : List Token → Role
directive_role [] = role.Alone
directive_role (t ∷ ts) = if is_word (codes "end") t.what then closing_role (region_of ts) else opening_role (region_of (t ∷ ts))

abbrev pub is_left_out_word : TokenKind → Bool
is_left_out_word (Word x) = is_other_statement x
is_left_out_word _ = false

abbrev pub begins_left_out : List Token → Bool
begins_left_out = first_is is_left_out_word

abbrev pub is_nothing : List Token → Bool
is_nothing [] = true
is_nothing _ = false

-- the role that the words of a statement say, where it is no directive: an assignment may begin with any word
abbrev pub word_role : TokenKind → List Token → Role
word_role k ts =
    if assigns ts then role.Alone else
    (if is_word (codes "end") k then (if begins_left_out ts then role.Alone else end_role ts) else
    (if is_word (codes "enddo") k then role.Closes block.Do else
    (if is_word (codes "endwhere") k then role.Closes block.Where else
    (if is_word (codes "endforall") k then role.Closes block.Forall else
    (if is_word (codes "endprogram") k then role.ClosesUnit else
    (if is_word (codes "do") k then role.Opens block.Do else
    (if is_word (codes "where") k then role_if (spans ts) (role.Opens block.Where) else
    (if is_word (codes "forall") k then role_if (spans ts) (role.Opens block.Forall) else
    (if is_word (codes "elsewhere") k then role_if (is_nothing ts || spans ts) role.GoesOn else
    (if is_word (codes "else") k then role_if (begins_word (codes "where") ts) role.GoesOn else
    (if is_word (codes "program") k then role.NamesUnit else role.Alone)))))))))))

abbrev pub is_directive : TokenKind → Bool
is_directive Directive = true
is_directive _ = false

abbrev pub role_of : List Token → Role
role_of [] = role.Alone
role_of (t ∷ ts) = if is_directive t.what then directive_role ts else word_role t.what ts

abbrev pub has_foreign : List Token → Bool
has_foreign [] = false
has_foreign (t ∷ ts) = is_foreign t.what || has_foreign ts

-- DO alone, DO WHILE and DO CONCURRENT, but for a variable of that name
abbrev pub is_other_loop : List Token → Bool
is_other_loop [] = true
is_other_loop (t ∷ ts) = is_one (codes "while" ∷ codes "concurrent" ∷ []) t.what && not (begins_becomes ts)

abbrev pub is_alone : Role → Bool
is_alone role.Alone = true
is_alone _ = false

-- left out by its first words: a word of the table, END or ELSE before such a word, ELSE alone, a DO of another sort, another directive
abbrev pub is_left_out_by_words : List Token → Bool
is_left_out_by_words [] = false
is_left_out_by_words (t ∷ ts) =
    if is_directive t.what then is_alone (directive_role ts) else
    (if is_word (codes "else") t.what then not (begins_word (codes "where") ts) else
    (if is_left_out_word t.what then true else
    (if is_word (codes "end") t.what then begins_left_out ts else
    (if is_word (codes "do") t.what then is_other_loop ts else false))))

-- it is not read further
abbrev pub is_left_out : List Token → Bool
is_left_out r = is_left_out_by_words r || (has_foreign r || is_crowded 0 r)
