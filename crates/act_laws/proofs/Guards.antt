-- An op that fails where a test fails, and sums that stay small.
use Rattle.std.proofs.Common.{◌≡◌, arith, refl, ap, ◌∙◌, ℕ, ◌+◌, ◌<◌, Bool, true, false, List, [], ◌∷◌, map, None, Ok, Err, ℤ, pos, ◌+ℤ◌}
use Rattle.std.specs.Prelude.{if◌then◌else◌, not, nat_lt}
use Rattle.ws_base.specs.declared.fault.FaultName.{FaultName}
use Rattle.ws_base.specs.declared.fault.FaultName.TheVariants.{Overflow}
use Rattle.ws_base.specs.Numbers.{Exact, truth, is_true, exact, default_half}
use Rattle.ws_base.specs.Outcomes.{Staged, joined, each, ◌>>=◌}
use Rattle.phase_ops.specs.declared.effect.Turn.TheVariants.{Next, Fails}
use Rattle.phase_ops.specs.declared.phase.Micro.TheVariants as micro
use Rattle.phase_ops.specs.declared.phase.ScalarOp.TheVariants as scalar
use Rattle.phase_ops.specs.Phases as phase
use Rattle.phase_ops.specs.Free.{In}
use Rattle.act_laws.specs.Together.{Files, Scene, outcome, gives_at, stop_at, Level, Ends, Follows, well}
use Rattle.act_laws.specs.Seats.{Has}
use Rattle.act_laws.proofs.Strands.{IsOkay, each_okay}
use Rattle.act_laws.proofs.Columns.{each_in}
use Rattle.act_laws.proofs.Sure.{sure}

-- a test at each place: the value, or the one fault
abbrev pub tested : FaultName → (ℕ → Bool) → (ℕ → ℤ) → ℕ → Exact
tested n ok v p = if ok p then Ok (v p) else Err n

abbrev nothing : ℕ → ℤ
nothing p = pos 0

guard_is : (n : FaultName) (b : Bool) (z : ℤ) → z ≡ truth (not b) → outcome (if is_true z then Fails n else Next (pos 0)) ≡ (let e : Exact = if b then Ok (pos 0) else Err n in e)
guard_is n true z e = ap (λ y. outcome (if is_true y then Fails n else Next (pos 0))) e
guard_is n false z e = ap (λ y. outcome (if is_true y then Fails n else Next (pos 0))) e

okay_true : (n : FaultName) (b : Bool) (z : ℤ) → IsOkay (if b then Ok z else Err n) → b ≡ true
okay_true n true z h = refl
okay_true n false z h = absurd h

module _ (s : Scene) (at : List ℕ) (k : ℕ) (files : Files) (n : FaultName) (r : ℕ) (ok : ℕ → Bool) where
  guard_ends : (q : Staged (List ℤ)) → each (tested n ok nothing) at ≡ q → each (gives_at s files (micro.FailIf n r)) at ≡ q → Ends s at k files (micro.FailIf n r ∷ []) q (λ xs after. (p : ℕ) → In p at → ok p ≡ true)
  guard_ends (Ok xs) e g = (ap (λ x. stop_at k x None) g, λ p i. okay_true n (ok p) (pos 0) (each_okay (tested n ok nothing) at xs e p i))
  guard_ends (Err t) e g = (k, ap (λ x. stop_at k x None) g)

  -- one op fails where the test does; where all pass, the test holds everywhere
  pub follows_guard : ((p : ℕ) → In p at → phase.register (files p) r ≡ truth (not (ok p))) → Follows s at k files (micro.FailIf n r ∷ []) (each (tested n ok nothing) at) (λ xs after. (p : ℕ) → In p at → ok p ≡ true)
  follows_guard h = record {
    ends = guard_ends (each (tested n ok nothing) at) refl (each_in (gives_at s files (micro.FailIf n r)) (tested n ok nothing) at (λ p i. guard_is n (ok p) (phase.register (files p) r) (h p i)));
    reads = λ p e. (λ c l. elim l [ ], λ z l. elim l [ ], λ z g. tt);
  }

-- the test first, and then the values
pub tested_first : (n : FaultName) (ok : ℕ → Bool) (v : ℕ → ℤ) (at : List ℕ) → each (tested n ok v) at ≡ (each (tested n ok nothing) at >>= (λ xs. let r : Staged (List ℤ) = Ok (map v at) in r))
tested_first n ok v [] = refl
tested_first n ok v (p ∷ ps) = here (ok p) (each (tested n ok v) ps) (each (tested n ok nothing) ps) (tested_first n ok v ps)
  where
    here : (b : Bool) (q e : Staged (List ℤ)) → q ≡ (e >>= (λ xs. let r : Staged (List ℤ) = Ok (map v ps) in r)) → joined (if b then Ok (v p) else Err n) q ≡ (joined (if b then Ok (pos 0) else Err n) e >>= (λ xs. let r : Staged (List ℤ) = Ok (map v (p ∷ ps)) in r))
    here true q (Ok ys) h = ap (joined (Ok (v p))) h
    here true q (Err t) h = ap (joined (Ok (v p))) h
    here false q e h = refl

-- ---- sums of cells and places, which are far below the range

exact_small : (j : ℕ) → j < 2147483648 → exact default_half (pos j) ≡ Ok (pos j)
exact_small j h = ap (λ b. let e : Exact = if b then Ok (pos j) else Err Overflow in e) (let e : nat_lt j 2147483648 ≡ true = grind (arith, h) in e)

module _ (s : Scene) (at : List ℕ) (k : ℕ) (files : Files) (level : Level k files) (q r : ℕ) (f g : ℕ → ℕ) (a : Has at q (λ p. pos (f p)) files) (b : Has at r (λ p. pos (g p)) files) where
  -- so a sum of them never overflows
  pub sum_is_sure : ((p : ℕ) → In p at → f p + g p < 2147483648) → Follows s at k files (micro.Binary scalar.Add q r ∷ []) well (λ n after. Has at k (λ p. pos (f p + g p)) after)
  sum_is_sure small = sure s at k files level (micro.Binary scalar.Add q r) (λ p. pos (f p + g p))
      (λ p i. (λ j. outcome (phase.turn_of (exact default_half ((a p i).0 j +ℤ (b p i).0 j)))) ∙ ap (λ x. outcome (phase.turn_of x)) (exact_small (f p + g p) (small p i)))
      (λ p i. (λ c l. elim l [ ], λ z l. elim l [ ]))
