-- Walks over the ops of a region: one list after another, and what was left of values in printed order.
use Rattle.std.proofs.Common.{◌≡◌, refl, sym, ℕ, ◌+◌, ◌<◌, false, nat_lt, ◌==◌, List, [], ◌∷◌, ◌++◌, Ok, Err, arith, ap, ◌∙◌}
use Rattle.std.specs.Prelude.{⊤}
use Rattle.std.specs.List.{All}
use Rattle.std.proofs.lemmas.List.{append_assoc, append-nil}
use Rattle.std.proofs.lemmas.List.Elements.{All-head, All-tail}
use Rattle.ws_base.specs.Outcomes.{Staged, ◌>>=◌}
use Rattle.hlfir_ops.specs.declared.op.Op.{Op, out-Op}
use Rattle.hlfir_ops.specs.Numbers.{op_numbers, numbers_of}
use Rattle.hlfir_meaning.specs.Environments.{Value, Environment, with_value, Deferred, Yielded}
use Rattle.hlfir_meaning.specs.Order.{ends, in_order}
use Rattle.hlfir_meaning.specs.Stage2.{with_deferred, together}

-- no yield is among these
abbrev pub GoOn : List Op → Type 0
GoOn = All (λ op. ends (out-Op op).what ≡ false)

module _ (gives : ℕ → Environment → Op → Staged Value) where
  -- the walk goes on from what the ops before gave
  abbrev onward : ℕ → List Op → List Op → Yielded → Staged Yielded
  onward n xs ys y = in_order gives (numbers_of xs + n) y.env ys

  first_then : (n : ℕ) (env : Environment) (x : Op) (xs ys : List Op) (r : Staged Value) →
      ((k : ℕ) (rho : Environment) → in_order gives k rho (xs ++ ys) ≡ (in_order gives k rho xs >>= onward k xs ys)) →
      (r >>= (λ v. in_order gives (op_numbers x + n) (with_value n v env) (xs ++ ys))) ≡ ((r >>= (λ v. in_order gives (op_numbers x + n) (with_value n v env) xs)) >>= onward n (x ∷ xs) ys)
  first_then n env x xs ys (Err t) h = refl
  first_then n env x xs ys (Ok v) h = h (op_numbers x + n) (with_value n v env) ∙ ap (λ k. in_order gives (op_numbers x + n) (with_value n v env) xs >>= (λ y. in_order gives k y.env ys)) (omega arith)

  pub in_order-append : (n : ℕ) (env : Environment) (xs ys : List Op) → GoOn xs → in_order gives n env (xs ++ ys) ≡ (in_order gives n env xs >>= onward n xs ys)
  in_order-append n env [] ys h = ap (λ k. in_order gives k env ys) (omega arith)
  in_order-append n env (x ∷ xs) ys h = rw (All-head (λ op. ends (out-Op op).what ≡ false) x xs h) (first_then n env x xs ys (gives n env x) (λ k rho. in_order-append k rho xs ys (All-tail (λ op. ends (out-Op op).what ≡ false) x xs h)))

-- what is left of later values follows what is left of earlier ones
abbrev pub Before : List Deferred → ℕ → Type 0
Before ds n = All (λ d. d.number < n) ds

pub with_deferred-last : (e : Deferred) (ds : List Deferred) → Before ds e.number → with_deferred e ds ≡ ds ++ e ∷ []
with_deferred-last e [] h = refl
with_deferred-last e (d ∷ ds) h =
    let here : d.number < e.number = All-head (λ x. x.number < e.number) d ds h in
    let later : nat_lt e.number d.number ≡ false = grind (arith, here) in
    let other : (e.number == d.number) ≡ false = grind (arith, here) in
    rw (later, other, with_deferred-last e ds (All-tail (λ x. x.number < e.number) d ds h))

abbrev pub Follow : List Deferred → List Deferred → Type 0
Follow ds [] = ⊤
Follow ds (e ∷ es) = Before ds e.number × Follow (ds ++ e ∷ []) es

pub together-append : (ds es : List Deferred) → Follow ds es → together ds es ≡ ds ++ es
together-append ds [] h = sym (append-nil ds)
together-append ds (e ∷ es) h = rw (with_deferred-last e ds h.0, together-append (ds ++ e ∷ []) es h.1) (append_assoc ds (e ∷ []) es)
