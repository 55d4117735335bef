-- A run that ends early ends there.
use Rattle.std.proofs.Common.{◌≡◌, ◌≤◌, ◌<◌, ◌^◌, refl, sym, ap, ◌∙◌, subst, ℕ, zero, suc, ◌+◌, List, [], ◌∷◌, length, All, Result, Ok, Err, arith}
use Rattle.std.proofs.lemmas.List.Elements.{All-nil, All-cons}
use Rattle.ws_base.specs.declared.fault.Fault.{Fault}
use Rattle.ws_base.specs.Outcomes.{Staged, ◌>>=◌}
use Rattle.ws_space.specs.Faults.{at_lines}
use Rattle.ws_space.specs.Shapes.{Extents, places_from, all_places, size}
use Rattle.ws_space.proofs.Places.{length-places_from}
use Rattle.term_eval.specs.declared.stop.Stop.{Stop}
use Rattle.term_eval.specs.declared.stop.Stop.TheVariants as stop
use Rattle.term_eval.specs.Made.{Stops}
use Rattle.term_eval.specs.Limits.{IsFew}
use Rattle.step_eval.specs.declared.halt.Halt.{Halt}
use Rattle.step_eval.specs.declared.halt.Halt.TheVariants.{Memory, Faulted}
use Rattle.step_eval.specs.Halts.{Halts, halt_at}

module _ {A B : Type 0} where
  pub halts_first : (e : Halt) (r : Result A Fault) (f : A → Result B Fault) → Halts e r → Halts e (r >>= f)
  halts_first Memory r f h = tt
  halts_first (Faulted x) r f h = ap (λ q. q >>= f) h

  pub halts_then : (e : Halt) (r : Result A Fault) (f : A → Result B Fault) (x : A) → r ≡ Ok x → Halts e (f x) → Halts e (r >>= f)
  halts_then e r f x is h = let P : Result A Fault → Type 0 = λ q. Halts e (q >>= f) in subst P (sym is) h

  pub halts_at : (e : Stop) (line shape_line : ℕ) (r : Staged A) (f : A → Result B Fault) → Stops e r → Halts (halt_at line shape_line e) (at_lines line shape_line r >>= f)
  halts_at stop.Memory line shape_line r f h = tt
  halts_at (stop.Failed t) line shape_line r f h = ap (λ q. at_lines line shape_line q >>= f) h

  pub then_ok : (r : Result A Fault) (f : A → Result B Fault) (x : A) (y : B) → r ≡ Ok x → f x ≡ Ok y → (r >>= f) ≡ Ok y
  then_ok r f x y is h = ap (λ q. q >>= f) is ∙ h

-- ---- all places

pub below_from : (k n m : ℕ) → k + n ≤ m → All (λ p. p < m) (places_from k n)
below_from k zero m h = All-nil (λ p. p < m)
below_from k (suc n) m h = All-cons (λ p. p < m) k (places_from (suc k) n) (omega (arith, h)) (below_from (suc k) n m (omega (arith, h)))

pub places_below : (e : Extents) (ps : List ℕ) → ps ≡ all_places e → IsFew e → All (λ p. p < 2 ^ 31) ps
places_below e ps is h = let P : List ℕ → Type 0 = λ l. All (λ p. p < 2 ^ 31) l in subst P (sym is) (below_from 0 (size e) (2 ^ 31) (omega (arith, h)))

pub places_few : (e : Extents) (ps : List ℕ) → ps ≡ all_places e → IsFew e → length ps ≤ 2 ^ 31
places_few e ps is h = omega (arith, ap length is, length-places_from 0 (size e), h)
