-- A statement is one thing, and does one thing in a place.
use Rattle.std.proofs.Common.{◌≡◌, Bool, true, false, Option, Some, None, List, refl, sym, ap, ◌∙◌, subst}
use Rattle.ws_lex.specs.declared.token.Token.{Token}
use Rattle.ws_tree.specs.declared.stmt.Body.{Body}
use Rattle.ws_stmt.specs.declared.role.Role.{Role}
use Rattle.ws_stmt.specs.declared.form.Said.{Said}
use Rattle.ws_stmt.specs.Statements.{Says}
use Rattle.ws_parse.specs.declared.turn.Turn.{Turn}
use Rattle.ws_parse.specs.declared.turn.Turn.TheVariants as turn
use Rattle.ws_parse.specs.declared.place.Place.{Place}
use Rattle.ws_parse.specs.declared.place.Move.{Move}
use Rattle.ws_parse.specs.Turns.{IsTurn, move_of, Moves}
use Rattle.ws_parse.proofs.Steps.{Only}

pub one_turn : (r : List Token) (a b : Turn) → IsTurn r a → IsTurn r b → b ≡ a
one_turn r (turn.Read s) (turn.Read s') x y = ap (λ (z : Said). turn.Read z) (x.2 s' y.1)
one_turn r (turn.Read s) (turn.LeftOut q b) x y = let no = sym x.0 ∙ y.0 in absurd cc
one_turn r (turn.Read s) (turn.Strange q) x y = absurd (y.3 s x.1)
one_turn r (turn.Read s) turn.Wrong x y = absurd (y.2 s x.1)
one_turn r (turn.LeftOut q b) (turn.Read s) x y = let no = sym x.0 ∙ y.0 in absurd cc
one_turn r (turn.LeftOut q b) (turn.LeftOut q' b') x y = ap (λ (z : Role). turn.LeftOut z b') (y.1 ∙ sym x.1) ∙ ap (λ (z : Body). turn.LeftOut q z) (y.2 ∙ sym x.2)
one_turn r (turn.LeftOut q b) (turn.Strange q') x y = let no = sym x.0 ∙ y.0 in absurd cc
one_turn r (turn.LeftOut q b) turn.Wrong x y = let no = sym x.0 ∙ y.0 in absurd cc
one_turn r (turn.Strange q) (turn.Read s) x y = absurd (x.3 s y.1)
one_turn r (turn.Strange q) (turn.LeftOut q' b) x y = let no = sym x.0 ∙ y.0 in absurd cc
one_turn r (turn.Strange q) (turn.Strange q') x y = ap (λ (z : Role). turn.Strange z) (y.2 ∙ sym x.2)
one_turn r (turn.Strange q) turn.Wrong x y = let no = sym x.1 ∙ y.1 in absurd cc
one_turn r turn.Wrong (turn.Read s) x y = absurd (x.2 s y.1)
one_turn r turn.Wrong (turn.LeftOut q b) x y = let no = sym x.0 ∙ y.0 in absurd cc
one_turn r turn.Wrong (turn.Strange q) x y = let no = sym x.1 ∙ y.1 in absurd cc
one_turn r turn.Wrong turn.Wrong x y = refl

pub only_by : {p : Place} {r : List Token} {m : Move} (w : Turn) → IsTurn r w → move_of p w ≡ Some m → Only p r m
only_by {p = p} {r = r} {m = m} w is does = record {
  moves = record { what = w; is = is; does = does };
  unique = λ k o. let e = sym o.does ∙ ap (λ (z : Turn). move_of p z) (one_turn r w o.what is o.is) ∙ does in cc;
}

pub no_move : {p : Place} {r : List Token} {m : Move} (w : Turn) → IsTurn r w → move_of p w ≡ None → Moves p r m → ⊥
no_move {p = p} {r = r} w is none o = let e = sym o.does ∙ ap (λ (z : Turn). move_of p z) (one_turn r w o.what is o.is) ∙ none in cc
