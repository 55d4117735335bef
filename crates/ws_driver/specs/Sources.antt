-- The tree of a source, and the refusal of one that is not accepted.
use Rattle.std.specs.Prelude.{◌≡◌, ◌⊎◌, ⊤, ℕ, List, [], Option, None, Some}
use Rattle.ws_base.specs.declared.refusal.Refusal.{Refusal}
use Rattle.ws_base.specs.declared.refusal.RefusalKind.TheVariants.{Syntax}
use Rattle.ws_lex.specs.declared.token.Token.{Token}
use Rattle.ws_lex.specs.Tokens.{IsTokens, IsBroken}
use Rattle.ws_parse.specs.Blocks.{runs, IsUnit, IsRefused as parse_refuses, IsFront}
use Rattle.ws_tree.specs.declared.stmt.Tree.{Tree}
use Rattle.ws_types.specs.Kinds.{IsLeast}
use Rattle.ws_sema.specs.Checks.{rule_faults}
use Rattle.ws_driver.specs.declared.source.SourceEnd.{SourceEnd}
use Rattle.ws_driver.specs.declared.source.SourceEnd.TheVariants as source

-- the tree that the grammar gives for the source's tokens, which is the only one
abbrev pub IsTree : List ℕ → Tree → Type 0
IsTree bytes t = (ts : List Token) × IsTokens bytes ts × IsUnit (runs ts) t × ((u : Tree) → IsUnit (runs ts) u → u ≡ t)

-- A source that breaks the source form at this line. A statement that ends before it and is not of the grammar in its place comes first.
abbrev pub IsFirstOf : Option ℕ → ℕ → ℕ → Type 0
IsFirstOf None broken line = line ≡ broken
IsFirstOf (Some bad) broken line = line ≡ bad

abbrev pub IsBrokenAt : List ℕ → ℕ → Type 0
IsBrokenAt bytes line = (broken : ℕ) × (before : List Token) × (bad : Option ℕ) × IsBroken bytes broken before × IsFront before bad × IsFirstOf bad broken line

-- the first line that breaks the source form or the grammar
abbrev pub IsSyntaxAt : List ℕ → ℕ → Type 0
IsSyntaxAt bytes line = IsBrokenAt bytes line ⊎ ((ts : List Token) × IsTokens bytes ts × parse_refuses ts line)

-- the refusal of a source that has no tree, or whose tree breaks a rule
abbrev pub IsRefused : List ℕ → Refusal → Type 0
IsRefused bytes r = ((r.kind ≡ Syntax) × IsSyntaxAt bytes r.line) ⊎ ((t : Tree) × IsTree bytes t × IsLeast r (rule_faults t))

-- an accepted source, as its tree: one that breaks no rule
abbrev pub IsSource : List ℕ → Tree → Type 0
IsSource bytes t = IsTree bytes t × (rule_faults t ≡ [])

-- a source that is accepted; none of these is refused
abbrev pub IsAccepted : List ℕ → Type 0
IsAccepted bytes = (t : Tree) × IsSource bytes t

abbrev pub IsSourceEnd : List ℕ → SourceEnd → Type 0
IsSourceEnd bytes (source.Refused r) = IsRefused bytes r
IsSourceEnd bytes source.Memory = ⊤
