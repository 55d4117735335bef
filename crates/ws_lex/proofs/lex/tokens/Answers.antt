use Rattle.std.proofs.Common.{suc, length, ap, ◌∙◌, [], ◌∷◌, ◌++◌}
use Rattle.ws_lex.specs.Lines.{lines}
use Rattle.ws_lex.specs.Text.{text}
use Rattle.ws_lex.proofs.Sources.{broken, unbroken}
use Rattle.ws_lex.proofs.lex.tokens.Goals as goal

pub returns-in-Some-clause-err : goal.returns-in-Some-clause-err
returns-in-Some-clause-err c =
    let plain = c.deref.ensures.value ∙ c.in_ok-plain.ensures in
    let cells = c.as_slice-cells.ensures ∙ (c.in_ok-read.ensures.cells ∙ ap (λ b. text (lines b)) plain) in
    broken c.args.source.now c.as_slice-cells.result.now c.in-Some.line _ cells c.in-Some.ensures c.in_ok-collect-in-Some.ensures

pub returns-clause-ok : goal.returns-clause-ok
returns-clause-ok c =
    let plain = c.deref.ensures.value ∙ c.in_ok-plain.ensures in
    let cells = c.as_slice-cells.ensures ∙ (c.in_ok-read.ensures.cells ∙ ap (λ b. text (lines b)) plain) in
    let last = c.in_ok-read.ensures.end ∙ ap (λ b. suc (length (lines b))) plain in
    unbroken c.args.source.now c.as_slice-cells.result.now c.in_ok-read.read.end c.in_ok-tokens-in-None.tokens _ cells last c.in-None.ensures c.in_ok-tokens-in-None.ensures (c.in_ok-push-in-None.ensures.ok ∙ ap (λ t. c.in_ok-tokens-in-None.tokens ++ t ∷ []) c.token.ensures)
