-- The values of the rows that are left, position by position.
use Rattle.std.proofs.Common.{◌≡◌, ◌⊎◌, inl, inr, ℕ, zero, suc, ◌+◌, ◌<◌, ◌≤◌, List, [], ◌∷◌, ◌++◌, refl, ap, ◌∙◌, arith, Some, None, Ok, Err, ℤ}
use Rattle.phase_ops.specs.Phases.{each_from}
use Rattle.phase_ops.specs.Free.{In}
use Rattle.loop_laws.specs.Moves.{Row, Ended, whole, values_of}
use Rattle.loop_laws.specs.Loops.{Plan, ended, rows_of}
use Rattle.loop_laws.specs.Laws.{Ascend, AllMoved}
use Rattle.loop_laws.proofs.Keyed.{rows_ascend}
use Rattle.loop_laws.proofs.Bridge.{left_ascend}
use Rattle.loop_laws.proofs.Direct.{left, is_left}
use Rattle.part_phase_laws.specs.Parts.{given_at}

module _ (V : Type 0) (plan : Plan V) (value : ℕ → List V → ℤ) where
  -- these rows are those of the k positions from this one on
  record AreThese (from k : ℕ) (ts : List (Row V)) : Type 0 where
    pub ascend : Ascend ts
    pub is : (i : ℕ) (s : List V) → In (i, s) ts → (from ≤ i) × (i < from + k) × (ended plan i ≡ Ok (Some s))
    pub there : (i : ℕ) (s : List V) → from ≤ i → i < from + k → ended plan i ≡ Ok (Some s) → In (i, s) ts

  in_order : (from k : ℕ) (ts : List (Row V)) → AreThese from k ts → each_from (λ i. given_at value i (ended plan i)) from k ≡ values_of value ts
  in_order from zero [] w = refl
  in_order from zero (t ∷ ts) w = let x = w.is t.0 t.1 (inl refl) in let a = x.0 in let b = x.1 in absurd (omega (arith, a, b))
  in_order from (suc k) ts w = by (λ us v. in_order (suc from) k us v) (ended plan from) refl ts w
    where
      skip : (ts : List (Row V)) → AreThese from (suc k) ts → ((s : List V) → ended plan from ≡ Ok (Some s) → ⊥) → AreThese (suc from) k ts
      skip ts w never = record {
        ascend = w.ascend;
        is = λ i s h. let x = w.is i s h in let a = x.0 in let b = x.1 in (later i s a x.2, omega (arith, b), x.2);
        there = λ i s a b e. w.there i s (omega (arith, a)) (omega (arith, b)) e;
      }
        where
          le_cases : (a b : ℕ) → a ≤ b → (suc a ≤ b) ⊎ (a ≡ b)
          le_cases zero zero h = inr refl
          le_cases zero (suc b) h = inl (omega arith)
          le_cases (suc a) zero h = absurd (omega (arith, h))
          le_cases (suc a) (suc b) h = elim (le_cases a b (omega (arith, h))) [ inl l ↦ inl (omega (arith, l)) | inr q ↦ inr (ap suc q) ]

          later : (i : ℕ) (s : List V) → from ≤ i → ended plan i ≡ Ok (Some s) → suc from ≤ i
          later i s a e = elim (le_cases from i a) [ inl l ↦ l | inr q ↦ absurd (never s (ap (ended plan) q ∙ e)) ]

      take_one : (s : List V) → ended plan from ≡ Ok (Some s) → (t : Row V) (us : List (Row V)) → AreThese from (suc k) (t ∷ us) → ((from, s) ≡ t) × AreThese (suc from) k us
      take_one s e t us w = (
        is_first (w.there from s (omega arith) (omega arith) e),
        record {
          ascend = w.ascend.1;
          is = λ i u h. let x = w.is i u (inr h) in let b = x.1 in let l = w.ascend.0 (i, u) h in let f = (w.is t.0 t.1 (inl refl)).0 in (omega (arith, l, f), omega (arith, b), x.2);
          there = λ i u a b q. not_first i u a (w.there i u (omega (arith, a)) (omega (arith, b)) q);
        },
      )
        where
          is_first : In (from, s) (t ∷ us) → (from, s) ≡ t
          is_first (inl q) = q
          is_first (inr h) = let l = w.ascend.0 (from, s) h in let f = (w.is t.0 t.1 (inl refl)).0 in absurd (omega (arith, l, f))

          not_first : (i : ℕ) (u : List V) → suc from ≤ i → In (i, u) (t ∷ us) → In (i, u) us
          not_first i u a (inr h) = h
          not_first i u a (inl q) = let z : i ≡ t.0 = ap (λ (r : Row V). r.0) q in let y : from ≡ t.0 = ap (λ (r : Row V). r.0) (is_first (w.there from s (omega arith) (omega arith) e)) in absurd (omega (arith, a, z, y))

      by : ((us : List (Row V)) → AreThese (suc from) k us → each_from (λ i. given_at value i (ended plan i)) (suc from) k ≡ values_of value us)
          → (x : Ended V) → ended plan from ≡ x → (ts : List (Row V)) → AreThese from (suc k) ts → given_at value from (ended plan from) ++ each_from (λ i. given_at value i (ended plan i)) (suc from) k ≡ values_of value ts
      by rec (Ok (Some s)) e [] w = elim (w.there from s (omega arith) (omega arith) e) [ ]
      by rec (Ok (Some s)) e (t ∷ us) w =
          let x = take_one s e t us w in
          ap (λ (z : Ended V). given_at value from z ++ each_from (λ i. given_at value i (ended plan i)) (suc from) k) e
          ∙ ap (λ (l : List ℤ). value from s ∷ l) (rec us x.1)
          ∙ ap (λ (r : Row V). value r.0 r.1 ∷ values_of value us) x.0
      by rec (Ok None) e ts w =
          ap (λ (z : Ended V). given_at value from z ++ each_from (λ i. given_at value i (ended plan i)) (suc from) k) e
          ∙ rec ts (skip ts w (λ s q. (let z : zero ≡ suc zero = cc in omega (arith, z))))
      by rec (Err f) e ts w =
          ap (λ (z : Ended V). given_at value from z ++ each_from (λ i. given_at value i (ended plan i)) (suc from) k) e
          ∙ rec ts (skip ts w (λ s q. (let z : zero ≡ suc zero = cc in omega (arith, z))))

  pub rows_give : (n : ℕ) (ts : List (Row V)) → whole plan.moves (rows_of plan n) ≡ Ok ts → AllMoved V plan.moves (rows_of plan n) ts → each_from (λ i. given_at value i (ended plan i)) 0 n ≡ values_of value ts
  rows_give n ts e b = in_order 0 n ts (record {
    ascend = left_ascend V plan.moves (rows_of plan n) ts (rows_ascend V plan.start 0 n) e;
    is = λ i s h. let x = left V plan n ts b i s h in let l = x.0 in (omega arith, omega (arith, l), x.1);
    there = λ i s a l q. is_left V plan n ts b i s (omega (arith, l)) q;
  })
