use Rattle.std.proofs.Common.{◌≤◌, ◌≡◌, ℕ, length, sym, ◌∙◌, subst, arith}
use Rattle.ws_parse.proofs.Runs.{no_first, first_within, run_split}
use Rattle.ws_parse.proofs.unit.next_run.Goals as goal

pub returns-then-size-eq0-clause-none : goal.returns-then-size-eq0-clause-none
returns-then-size-eq0-clause-none c = no_first _ (sym c.first_length-size.ensures ∙ c.if-size-eq0.true)

pub split_at-requires : goal.split_at-requires
split_at-requires c = subst (λ (n : ℕ). n ≤ length c.args.tokens.now) (sym c.first_length-size.ensures) (first_within c.args.tokens.now)

pub returns-clause-some : goal.returns-clause-some
returns-clause-some c =
    run_split c.args.tokens.now c.split_at.result.0.now c.split_at.result.1.now c.first_length-size.result c.first_length-size.ensures
    (λ e. c.if-size-eq0.false e) c.split_at.ensures.front c.split_at.ensures.back
