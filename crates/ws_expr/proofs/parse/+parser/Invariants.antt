use Rattle.std.proofs.Common.{◌<◌, ◌≤◌, ◌+◌, ◌*◌, List, length}
use Rattle.ws_lex.specs.declared.token.Token.{Token}
use Rattle.ws_tree.specs.declared.expr.Expr.{Expr}
use Rattle.ws_tree.specs.declared.expr.Sub.{Sub}
use Rattle.ws_expr.specs.declared.reading.Reading.{Reading}
use Rattle.ws_expr.specs.declared.reading.Gathered.{Gathered}
use Rattle.ws_expr.specs.Grammar.{Reads, ReadsAll, ReadsSubs, ReadsSub}
use Rattle.ws_expr.specs.Parsing.{Stops, Closes, ClosesSubs}
use Rattle.ws_expr.proofs.Chains.{Chain}
use Rattle.ws_expr.proofs.Powers.{Factors, Onto}
use Rattle.ws_expr.proofs.Lists.{More}
use Rattle.ws_expr.proofs.parse.+parser.Given as goal

abbrev pub decreases-primary : goal.decreases-primary
decreases-primary l = 16 * length l.tokens.now + 2

abbrev pub decreases-power : goal.decreases-power
decreases-power l = 16 * length l.tokens.now + 3

abbrev pub decreases-operand : goal.decreases-operand
decreases-operand l = 16 * length l.tokens.now + 4

abbrev pub decreases-expression : goal.decreases-expression
decreases-expression l = 16 * length l.tokens.now + 7

abbrev pub decreases-maybe : goal.decreases-maybe
decreases-maybe l = 16 * length l.tokens.now + 8

abbrev pub decreases-all : goal.decreases-all
decreases-all l = 16 * length l.tokens.now + 10

abbrev pub decreases-sub : goal.decreases-sub
decreases-sub l = 16 * length l.tokens.now + 10

abbrev pub decreases-arguments : goal.decreases-arguments
decreases-arguments l = 16 * length l.tokens.now + 11

abbrev pub decreases-subs : goal.decreases-subs
decreases-subs l = 16 * length l.tokens.now + 12

abbrev pub decreases-bracketed : goal.decreases-bracketed
decreases-bracketed l = 16 * length l.tokens.now + 14

abbrev pub decreases-opened : goal.decreases-opened
decreases-opened l = 16 * length l.tokens.now + 14

abbrev pub decreases-all-items : goal.decreases-all-items
decreases-all-items l = length l.rest

abbrev pub decreases-subs-items : goal.decreases-subs-items
decreases-subs-items l = length l.rest

abbrev pub decreases-power-bases : goal.decreases-power-bases
decreases-power-bases l = length l.rest

abbrev pub decreases-expression-operators : goal.decreases-expression-operators
decreases-expression-operators l = length l.rest

abbrev pub invariant-all-items : goal.invariant-all-items
invariant-all-items l = record {
  shorter : length l.rest < length l.tokens;
  sound : ReadsAll l.tokens l.items l.rest;
  complete : (es : Gathered Expr) (rest : List Token) → ReadsAll l.tokens es rest → Closes rest → More (Reads 8) l.items l.rest es rest;
}

abbrev pub invariant-subs-items : goal.invariant-subs-items
invariant-subs-items l = record {
  shorter : length l.rest < length l.tokens;
  sound : ReadsSubs l.tokens l.items l.rest;
  complete : (ss : Gathered Sub) (rest : List Token) → ReadsSubs l.tokens ss rest → ClosesSubs rest → More ReadsSub l.items l.rest ss rest;
}

abbrev pub invariant-power-bases : goal.invariant-power-bases
invariant-power-bases l = record {
  shorter : length l.rest < length l.tokens;
  sound : Factors l.tokens l.bases l.last l.rest;
  complete : (e : Reading Expr) (rest : List Token) → Reads 1 l.tokens e rest → Stops 2 rest → Onto l.bases l.last l.rest e rest;
}

abbrev pub invariant-expression-operators : goal.invariant-expression-operators
invariant-expression-operators l = record {
  low : l.bound ≤ l.limit;
  shorter : length l.rest < length l.tokens;
  sound : Reads l.bound l.tokens l.left l.rest;
  complete : (e : Reading Expr) (rest : List Token) → Reads l.limit l.tokens e rest → Stops (l.limit + 1) rest → Chain l.limit l.bound l.left l.rest e rest;
}
