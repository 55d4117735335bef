-- A mask that is evaluated again, in the loop that assigns saved values.
use Rattle.std.proofs.Common.{◌≡◌, ◌⊎◌, inl, inr, ℕ, zero, suc, ◌+◌, ◌<◌, Bool, true, false, List, [], ◌∷◌, ◌++◌, length, refl, ap, ◌∙◌, arith, Some, None, Result, Ok, Err}
use Rattle.std.specs.Prelude.{if◌then◌else◌}
use Rattle.ws_base.specs.declared.fault.FaultName.{FaultName}
use Rattle.phase_ops.specs.declared.effect.Effect.{Effect}
use Rattle.phase_ops.specs.Free.{In}
use Rattle.loop_laws.specs.Moves.{Row, Move, Makes, Keeps, Ended, made, deeper, moved}
use Rattle.loop_laws.specs.Loops.{Plan, ended, rows_of}
use Rattle.loop_laws.specs.Laws.{AllMoved}
use Rattle.loop_laws.proofs.Keyed.{in_rows}
use Rattle.loop_laws.proofs.Direct.{left, is_left}

module _ (V : Type 0) where
  abbrev shift : ℕ → Ended V → Ended V
  shift k (Ok s) = Ok s
  shift k (Err e) = Err (k + e.0, e.1)

  -- the moves ys behind k others that ended so
  abbrev then_more : ℕ → List (Move V) → Ended V → Ended V
  then_more k ys (Ok (Some t)) = shift k (moved ys t)
  then_more k ys (Ok None) = Ok None
  then_more k ys (Err e) = Err e

  shift_none : (x : Ended V) → x ≡ shift 0 x
  shift_none (Ok s) = refl
  shift_none (Err e) = ap (λ (k : ℕ). let r : Ended V = Err (k, e.1) in r) (let g : e.0 ≡ 0 + e.0 = omega arith in g)

  deeper_shift : (k : ℕ) (x : Ended V) → deeper (shift k x) ≡ shift (suc k) x
  deeper_shift k (Ok s) = refl
  deeper_shift k (Err e) = ap (λ (z : ℕ). let r : Ended V = Err (z, e.1) in r) (let g : suc (k + e.0) ≡ suc k + e.0 = omega arith in g)

  deeper_more : (k : ℕ) (ys : List (Move V)) (x : Ended V) → deeper (then_more k ys x) ≡ then_more (suc k) ys (deeper x)
  deeper_more k ys (Ok (Some t)) = deeper_shift k (moved ys t)
  deeper_more k ys (Ok None) = refl
  deeper_more k ys (Err e) = refl

  pub moved_join : (xs ys : List (Move V)) (s : List V) → moved (xs ++ ys) s ≡ then_more (length xs) ys (moved xs s)
  moved_join [] ys s = shift_none (moved ys s)
  moved_join (Makes f ∷ xs) ys s = by (λ v. moved_join xs ys (v ∷ s)) (f s)
    where
      by : ((v : V) → moved (xs ++ ys) (v ∷ s) ≡ then_more (length xs) ys (moved xs (v ∷ s))) → (x : Result V FaultName) → made (λ t. moved (xs ++ ys) t) s x ≡ then_more (suc (length xs)) ys (made (λ t. moved xs t) s x)
      by rec (Ok v) = ap deeper (rec v) ∙ deeper_more (length xs) ys (moved xs (v ∷ s))
      by rec (Err n) = refl
  moved_join (Keeps t ∷ xs) ys s = by (moved_join xs ys s) (t s)
    where
      by : moved (xs ++ ys) s ≡ then_more (length xs) ys (moved xs s) → (b : Bool) → (let r : Ended V = if b then deeper (moved (xs ++ ys) s) else Ok None in r) ≡ then_more (suc (length xs)) ys (if b then deeper (moved xs s) else Ok None)
      by rec true = ap deeper rec ∙ deeper_more (length xs) ys (moved xs s)
      by rec false = refl

  abbrev pub OnlyMakes : List (Move V) → Type 0
  OnlyMakes [] = Unit {0}
  OnlyMakes (Makes f ∷ ys) = OnlyMakes ys
  OnlyMakes (Keeps t ∷ ys) = ⊥

  lets_none : (ys : List (Move V)) → OnlyMakes ys → (s : List V) → moved ys s ≡ Ok None → ⊥
  lets_none [] w s e = let x : zero ≡ suc zero = cc in omega (arith, x)
  lets_none (Makes f ∷ ys) w s e = by (λ v h. lets_none ys w (v ∷ s) h) (f s) e
    where
      down : (x : Ended V) → deeper x ≡ Ok None → x ≡ Ok None
      down (Ok y) h = h
      down (Err y) h = absurd (let x : zero ≡ suc zero = cc in omega (arith, x))

      by : ((v : V) → moved ys (v ∷ s) ≡ Ok None → ⊥) → (x : Result V FaultName) → made (λ t. moved ys t) s x ≡ Ok None → ⊥
      by rec (Ok v) h = rec v (down (moved ys (v ∷ s)) h)
      by rec (Err n) h = let x : zero ≡ suc zero = cc in omega (arith, x)
  lets_none (Keeps t ∷ ys) w s e = elim w [ ]

  -- The whole maps of xs and ys, which all made their values, left the rows ts. A later loop whose positions do what xs alone says, does it at
  -- these rows and nothing elsewhere.
  module _ (plan : Plan V) (xs ys : List (Move V)) (same : plan.moves ≡ xs ++ ys) (only : OnlyMakes ys) (n : ℕ) (ts : List (Row V)) (b : AllMoved V plan.moves (rows_of plan n) ts) (this : ℕ → List Effect) where
    abbrev pub ends_so : ℕ → Ended V → List Effect → Type 0
    ends_so i (Ok (Some t)) es = es ≡ this i
    ends_so i (Ok None) es = es ≡ []
    ends_so i (Err e) es = Unit {0}

    pub again : (i : ℕ) → i < n → (es : List Effect) → ends_so i (moved xs (plan.start i)) es → ((s : List V) × In (i, s) ts × (es ≡ this i)) ⊎ (((s : List V) → In (i, s) ts → ⊥) × (es ≡ []))
    again i l es h = by (moved xs (plan.start i)) refl h
      where
        split : ended plan i ≡ then_more (length xs) ys (moved xs (plan.start i))
        split = ap (λ (zs : List (Move V)). moved zs (plan.start i)) same ∙ moved_join xs ys (plan.start i)

        fails : (o : ℕ) (f : FaultName) → ended plan i ≡ Err (o, f) → ⊥
        fails o f e = b.none_fails (i, plan.start i) (in_rows V plan.start 0 n i (omega arith) (omega (arith, l))) o f e

        made_all : (t : List V) → ended plan i ≡ shift (length xs) (moved ys t) → (y : Ended V) → moved ys t ≡ y → es ≡ this i → ((s : List V) × In (i, s) ts × (es ≡ this i)) ⊎ (((s : List V) → In (i, s) ts → ⊥) × (es ≡ []))
        made_all t e (Ok (Some u)) q g = inl (u, is_left V plan n ts b i u l (e ∙ ap (shift (length xs)) q), g)
        made_all t e (Ok None) q g = absurd (lets_none ys only t q)
        made_all t e (Err f) q g = absurd (fails (length xs + f.0) f.1 (e ∙ ap (shift (length xs)) q))

        by : (x : Ended V) → moved xs (plan.start i) ≡ x → ends_so i x es → ((s : List V) × In (i, s) ts × (es ≡ this i)) ⊎ (((s : List V) → In (i, s) ts → ⊥) × (es ≡ []))
        by (Ok (Some t)) e g = made_all t (split ∙ ap (then_more (length xs) ys) e) (moved ys t) refl g
        by (Ok None) e g = inr ((λ s q. (let a = (left V plan n ts b i s q).1 in let z = split ∙ ap (then_more (length xs) ys) e in let x : zero ≡ suc zero = cc in omega (arith, x))), g)
        by (Err f) e g = absurd (fails f.0 f.1 (split ∙ ap (then_more (length xs) ys) e))
