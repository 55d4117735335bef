-- The iterations of a DO, one after another.
use Rattle.std.proofs.Common.{◌≡◌, ◌≢◌, ◌<◌, ◌≤◌, refl, sym, ap, ◌∙◌, subst, ℕ, zero, suc, ◌+◌, ◌-◌, List, Result, Ok, Err, ℤ, pos, FitsSigned, w32, arith}
use Rattle.ws_base.specs.declared.fault.Fault.{Fault}
use Rattle.ws_space.specs.declared.shape.Triplet.{Triplet}
use Rattle.ws_space.specs.declared.state.State.{State}
use Rattle.ws_space.specs.Shapes.{count}
use Rattle.ws_space.specs.Subscripts.{stepped}
use Rattle.ws_space.specs.Runs.{Run, run_of, and_then, iterations, iteration}
use Rattle.ws_tree.specs.declared.stmt.Stmt.{Stmt}
use Rattle.array_meaning.specs.declared.world.Source.{Source}
use Rattle.array_meaning.specs.Program.{statement_list}
use Rattle.term_eval.specs.Limits.{IsInteger}
use Rattle.step_eval.specs.declared.halt.Halt.{Halt}
use Rattle.step_eval.specs.Halts.{Halts}
use Rattle.slow_eval.specs.Machine.{iteration_at}
use Rattle.slow_eval.proofs.Between.{value_integer}
use Rattle.slow_eval.proofs.Ends.{end_then, end_first, same_halts}

abbrev pub once : Source → ℕ → List ℕ → Triplet → List Stmt → ℕ → State → Run
once g line x t block = iteration line x t (λ q. statement_list g block q)

-- with this many iterations left, a run from here ends as the whole does
abbrev pub Remain : (ℕ → State → Run) → Result State Fault → ℕ → ℕ → State → Type 0
Remain f whole number k s = (n : ℕ) → k + n ≡ number → whole ≡ (iterations f n k s).end

once_is : (g : Source) (line : ℕ) (x : List ℕ) (t : Triplet) (block : List Stmt) (k : ℕ) (s : State) → once g line x t block k s ≡ iteration_at g line x (stepped t k) block s
unfolding iteration
once_is g line x t block k s = refl

end_once : (g : Source) (line : ℕ) (x : List ℕ) (t : Triplet) (block : List Stmt) (k : ℕ) (value : ℤ) (s : State) → value ≡ stepped t k → (iteration_at g line x value block s).end ≡ (once g line x t block k s).end
end_once g line x t block k value s is = ap (λ v. (iteration_at g line x v block s).end) is ∙ ap (λ r. r.end) (sym (once_is g line x t block k s))

-- ---- over any iteration

begin : (f : ℕ → State → Run) (number : ℕ) (s : State) → Remain f (iterations f number 0 s).end number 0 s
begin f number s n e = ap (λ m. (iterations f m 0 s).end) (omega (arith, e))

go_on : (f : ℕ → State → Run) (whole : Result State Fault) (number k : ℕ) (s r : State) → (f k s).end ≡ Ok r → Remain f whole number k s → Remain f whole number (k + 1) r
go_on f whole number k s r is before n e =
    before (suc n) (omega (arith, e)) ∙ end_then (f k s) (λ q. iterations f n (suc k) q) r is ∙ ap (λ m. (iterations f n m r).end) (omega arith)

stop : (f : ℕ → State → Run) (whole : Result State Fault) (number k : ℕ) (s : State) (e : Halt) → k < number → Halts e (f k s).end → Remain f whole number k s → Halts e whole
stop f whole number k s e low h before =
    let n : ℕ = number - (k + 1) in
    same_halts e (iterations f (suc n) k s).end whole (sym (before (suc n) (omega arith))) (end_first e (f k s) (λ q. iterations f n (suc k) q) h)

end : (f : ℕ → State → Run) (whole : Result State Fault) (number k : ℕ) (s : State) → k ≤ number → number ≤ k → Remain f whole number k s → whole ≡ Ok s
end f whole number k s high low before = before 0 (omega (arith, high, low))

-- ---- over those of a DO

pub integer_here : (t : Triplet) (k number : ℕ) (value : ℤ) → t.s ≢ pos 0 → number ≡ count t → k < number → FitsSigned w32 t.l → FitsSigned w32 t.u → value ≡ stepped t k → IsInteger value
integer_here t k number value h ne low fl fu is = subst IsInteger (sym is) (value_integer t k h (omega (arith, ne, low)) fl fu)

module _ (g : Source) (line : ℕ) (x : List ℕ) (t : Triplet) (block : List Stmt) where
  pub iterations_begin : (number : ℕ) (s : State) → Remain (once g line x t block) (iterations (once g line x t block) number 0 s).end number 0 s
  iterations_begin number s = begin (once g line x t block) number s

  pub iterations_go_on : (here : Source) (whole : Result State Fault) (number k : ℕ) (value : ℤ) (s r : State) → value ≡ stepped t k → here ≡ g → (iteration_at here line x value block s).end ≡ Ok r →
      Remain (once g line x t block) whole number k s → Remain (once g line x t block) whole number (k + 1) r
  iterations_go_on here whole number k value s r is same h before =
      go_on (once g line x t block) whole number k s r (sym (end_once g line x t block k value s is) ∙ ap (λ q. (iteration_at q line x value block s).end) (sym same) ∙ h) before

  pub iterations_stop : (here : Source) (whole : Result State Fault) (number k : ℕ) (value : ℤ) (s : State) (e : Halt) → value ≡ stepped t k → k < number → here ≡ g → Halts e (iteration_at here line x value block s).end →
      Remain (once g line x t block) whole number k s → Halts e whole
  iterations_stop here whole number k value s e is low same h before =
      stop (once g line x t block) whole number k s e low
      (same_halts e (iteration_at here line x value block s).end (once g line x t block k s).end (ap (λ q. (iteration_at q line x value block s).end) same ∙ end_once g line x t block k value s is) h) before

  pub iterations_end : (whole : Result State Fault) (number k : ℕ) (s : State) → k ≤ number → number ≤ k → Remain (once g line x t block) whole number k s → whole ≡ Ok s
  iterations_end whole number k s high low before = end (once g line x t block) whole number k s high low before
