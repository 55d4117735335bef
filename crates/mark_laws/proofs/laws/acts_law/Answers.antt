use Rattle.mark_laws.proofs.Acts.{clears, assigns, marks_it, checks, checks_idle}
use Rattle.mark_laws.proofs.laws.acts_law.Goals as goal

pub returns : goal.returns
returns c = λ line t a base marks i m. (clears line marks i m, assigns line t a base i m, marks_it line a marks i m, checks line a marks i m, checks_idle line a marks i m)
