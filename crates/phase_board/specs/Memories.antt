-- What callers see of a memory.
use Rattle.std.specs.Prelude.{ℕ, ℤ, List}

pub record Parts : Type 0 where
  pub cells : List ℕ
  pub registers : List ℤ
  pub regions : ℕ
  pub units : ℕ
