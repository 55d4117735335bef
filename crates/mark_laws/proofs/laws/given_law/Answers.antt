use Rattle.std.proofs.Common.{ℤ}
use Rattle.mark_laws.proofs.Stands.{of_replaced, of_assigned, of_values, of_done}
use Rattle.mark_laws.proofs.laws.given_law.Goals as goal

pub returns : goal.returns
returns c = λ target v t a n marks zm base z ts m x. (of_replaced ℤ target v t a n marks zm base z ts m x, of_assigned ℤ target v t a n marks zm base z ts m x, of_values ℤ target v t a n marks zm base z ts m x, of_done ℤ target v t a n marks zm base z ts m x)
