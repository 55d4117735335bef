use Rattle.std.proofs.Common.{ap, sym, ◌∙◌}
use Rattle.ws_space.specs.Values.{state_of}
use Rattle.array_meaning.specs.Stage1.{allocated}
use Rattle.term_eval.proofs.Variables.{few-elements}
use Rattle.term_eval.proofs.inquiries.inquiry.Goals as goal

pub size_value-requires : goal.size_value-requires
size_value-requires c = few-elements c.args.world.now.vars c.name_in-name.result.now _ c.requires.vars (ap (λ vs. allocated (state_of vs c.name_in-name.result.now)) (sym c.as_slice-vars.ensures) ∙ c.in_ok-allocated-in-Size.ensures)
