-- What a caller needs of a piece: that it has bytes, no more than the text, and that a name or a digit string is text.
use Rattle.std.specs.Prelude.{ℕ, ◌≤◌, List, length, IsAscii}
use Rattle.ws_lex.specs.declared.piece.Shape.{Shape}
use Rattle.ws_lex.specs.declared.piece.Shape.TheVariants as shape
use Rattle.ws_lex.specs.declared.piece.Spelled.{Spelled}

pub record IsWithin (s : Spelled) (bytes : List ℕ) : Type 0 where
  pub some : 1 ≤ s.size
  pub within : s.size ≤ length bytes

abbrev pub IsText : Shape → List ℕ → Type 0
IsText shape.Word bytes = IsAscii bytes
IsText shape.Digits bytes = IsAscii bytes
IsText (shape.Sign s) bytes = Unit {0}
IsText shape.Foreign bytes = Unit {0}
IsText shape.Directive bytes = Unit {0}
IsText shape.Separator bytes = Unit {0}
IsText shape.Blank bytes = Unit {0}
IsText shape.Broken bytes = Unit {0}
