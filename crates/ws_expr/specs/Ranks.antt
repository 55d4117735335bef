-- The table of the operators: how tightly each one binds, and which token it is.
use Rattle.std.specs.Prelude.{ℕ, Option, Some, None}
use Rattle.ws_lex.specs.declared.token.Sign.TheVariants as sign
use Rattle.ws_lex.specs.declared.token.TokenKind.{TokenKind}
use Rattle.ws_lex.specs.declared.token.TokenKind.TheVariants as kind
use Rattle.ws_base.specs.declared.op.UnOp.{UnOp}
use Rattle.ws_base.specs.declared.op.UnOp.TheVariants as unop
use Rattle.ws_base.specs.declared.op.BinOp.{BinOp}
use Rattle.ws_base.specs.declared.op.BinOp.TheVariants as binop

-- The greatest rank that the left operand may have, the rank of the operator, and the greatest one that the right operand may have.
-- A primary has rank 0. The higher the rank, the looser the operator binds. An operator that goes from left to right may have
-- itself on the left, only powers go from right to left, and a relation stands beside no other.
abbrev pub ranks : BinOp → ℕ × ℕ × ℕ
ranks binop.Pow = (0, 1, 1)
ranks binop.Mul = (2, 2, 1)
ranks binop.Div = (2, 2, 1)
ranks binop.Add = (3, 3, 2)
ranks binop.Sub = (3, 3, 2)
ranks binop.Eq = (3, 4, 3)
ranks binop.Ne = (3, 4, 3)
ranks binop.Lt = (3, 4, 3)
ranks binop.Le = (3, 4, 3)
ranks binop.Gt = (3, 4, 3)
ranks binop.Ge = (3, 4, 3)
ranks binop.And = (6, 6, 5)
ranks binop.Or = (7, 7, 6)
ranks binop.Eqv = (8, 8, 7)
ranks binop.Neqv = (8, 8, 7)

abbrev pub left_rank : BinOp → ℕ
left_rank op = (ranks op).0

abbrev pub rank : BinOp → ℕ
rank op = (ranks op).1

abbrev pub right_rank : BinOp → ℕ
right_rank op = (ranks op).2

-- The rank of an operator in front, and the greatest one that its operand may have. A sign in front is a sum, and its operand a product; `.not.` stands before a relation.
abbrev pub ranks_in_front : UnOp → ℕ × ℕ
ranks_in_front unop.Minus = (3, 2)
ranks_in_front unop.Plus = (3, 2)
ranks_in_front unop.Not = (5, 4)

abbrev pub sign_rank : UnOp → ℕ
sign_rank op = (ranks_in_front op).0

abbrev pub operand_rank : UnOp → ℕ
operand_rank op = (ranks_in_front op).1

-- the operator that a token is between two operands
abbrev pub joining : TokenKind → Option BinOp
joining (kind.Sign sign.Plus) = Some binop.Add
joining (kind.Sign sign.Minus) = Some binop.Sub
joining (kind.Sign sign.Star) = Some binop.Mul
joining (kind.Sign sign.Slash) = Some binop.Div
joining (kind.Sign sign.Power) = Some binop.Pow
joining (kind.Sign sign.Equal) = Some binop.Eq
joining (kind.Sign sign.NotEqual) = Some binop.Ne
joining (kind.Sign sign.Less) = Some binop.Lt
joining (kind.Sign sign.LessEqual) = Some binop.Le
joining (kind.Sign sign.Greater) = Some binop.Gt
joining (kind.Sign sign.GreaterEqual) = Some binop.Ge
joining (kind.Sign sign.And) = Some binop.And
joining (kind.Sign sign.Or) = Some binop.Or
joining (kind.Sign sign.Eqv) = Some binop.Eqv
joining (kind.Sign sign.Neqv) = Some binop.Neqv
joining _ = None

-- the operator that a token is in front of an operand
abbrev pub leading : TokenKind → Option UnOp
leading (kind.Sign sign.Plus) = Some unop.Plus
leading (kind.Sign sign.Minus) = Some unop.Minus
leading (kind.Sign sign.Not) = Some unop.Not
leading _ = None
