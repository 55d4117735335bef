use Rattle.std.proofs.Common.{ℕ, List, Option, subst, sym}
use Rattle.ws_lex.specs.declared.token.Token.{Token}
use Rattle.ws_parse.specs.Blocks.{IsFront, IsWalked, runs}
use Rattle.ws_parse.proofs.Walks.{front_by}
use Rattle.ws_parse.proofs.unit.parse_front.Goals as goal

pub returns : goal.returns
returns c =
    subst (λ (o : Option ℕ). IsFront c.args.tokens.now o) (sym c.bad_line.ensures)
    (front_by c.args.tokens.now c.in_ok-walk.field-0 (subst (λ (ts : List Token). IsWalked (runs ts) c.in_ok-walk.field-0) c.as_slice.ensures c.in_ok-walk.ensures))
